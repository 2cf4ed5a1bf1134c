-- The items of a queue's entries: one more at the end, one less at the front.
use Rattle.std.proofs.Common.{◌≡◌, ℕ, ◌+◌, ◌<◌, true, List, [], ◌∷◌, ◌++◌, length, Ok, Err, refl, ap, subst, sym, ◌∙◌, arith, length-append}
use Rattle.std.specs.Prelude.{Result, IsOk, OnOk}
use Rattle.circular_buffer.specs.Buffer.{Buffer, buffer}
use Rattle.cloud_points.specs.declared.point.Point.{Point}
use Rattle.cloud_points.specs.declared.item.Item.{Item}
use Rattle.chunk_queue.specs.declared.tag.SlottedItem.{SlottedItem}
use Rattle.chunk_queue.specs.declared.tag.ItemKind.{ItemKind}
use Rattle.chunk_queue.specs.declared.tag.ItemKind.TheVariants.{Points, EndView, End}
use Rattle.chunk_queue.specs.Slots.{kind_body, tag_item, entry_item, brings_points, filled, held_items, HasPoints, AllHavePoints, IsSlotted}

pub on_ok : {T E : Type 0} (r : Result T E) (P : Type 0) → IsOk r → OnOk r P → P
on_ok (Ok x) P h p = p
on_ok (Err e) P h p = cc

pub held-length : (entries : List SlottedItem) → length (held_items entries) ≡ length entries
held-length [] = refl
held-length (e ∷ entries) = let r = held-length entries in omega (arith, r)

-- what a clause sees of the queue tells how many entries there are
pub seen-length : (entries : Buffer SlottedItem) (q : Buffer Item) → buffer (held_items entries.items) entries.capacity ≡ q → length entries.items ≡ length q.items
seen-length entries q e = sym (held-length entries.items) ∙ ap (λ (b : Buffer Item). length b.items) e

held-last : (entries : List SlottedItem) (e : SlottedItem) → held_items (entries ++ e ∷ []) ≡ held_items entries ++ entry_item e ∷ []
held-last [] e = refl
held-last (x ∷ entries) e = ap (λ is. entry_item x ∷ is) (held-last entries e)

pub body-filled : (kind : ItemKind) (old points now : List Point) → now ≡ filled kind old points → kind_body kind now ≡ kind_body kind points
body-filled Points old points now h = ap (kind_body Points) h
body-filled EndView old points now h = refl
body-filled (End cut) old points now h = refl

pub has_points : (kind : ItemKind) (points : List Point) → (brings_points kind ≡ true → 0 < length points) → HasPoints (kind_body kind points)
has_points Points points h = h refl
has_points EndView points h = tt
has_points (End cut) points h = tt

pub brought : (kind : ItemKind) (points : List Point) → HasPoints (kind_body kind points) → brings_points kind ≡ true → 0 < length points
brought Points points h e = h
brought EndView points h e = cc
brought (End cut) points h e = cc

all-last : (is : List Item) (i : Item) → AllHavePoints is → HasPoints i.body → AllHavePoints (is ++ i ∷ [])
all-last [] i h p = (p, tt)
all-last (x ∷ is) i h p = (h.0, all-last is i h.1 p)

-- an entry is put behind the last one, with points in its slot
pub put-held : (entries : List SlottedItem) (e : SlottedItem) (old points : List Point) → e.slot.value.items ≡ filled e.tag.kind old points
    → held_items (entries ++ e ∷ []) ≡ held_items entries ++ tag_item e.tag points ∷ []
put-held entries e old points fills =
    held-last entries e ∙ ap (λ b. held_items entries ++ record { no = e.tag.no; body = b } ∷ []) (body-filled e.tag.kind old points e.slot.value.items fills)

pub put-slotted : (entries : Buffer SlottedItem) (free left most : ℕ) (e : SlottedItem) (old points : List Point) → IsSlotted entries free most
    → e.slot.value.items ≡ filled e.tag.kind old points → (brings_points e.tag.kind ≡ true → 0 < length points) → left + 1 ≡ free
    → IsSlotted (buffer (entries.items ++ e ∷ []) entries.capacity) left most
put-slotted entries free left most e old points ok fills some count = record {
  slots = let l = length-append entries.items (e ∷ []) in let o : length (e ∷ []) ≡ 1 = refl in let s = ok.slots in omega (arith, l, o, s, count);
  room = let l = length-append entries.items (e ∷ []) in let o : length (e ∷ []) ≡ 1 = refl in let r = ok.room in omega (arith, l, o, r, count);
  points = subst AllHavePoints (sym (put-held entries.items e old points fills)) (all-last (held_items entries.items) (tag_item e.tag points) ok.points (has_points e.tag.kind points some));
}
