-- Each call keeps the rule of a queue.
use Rattle.std.proofs.Common.{◌≡◌, ℕ, ◌+◌, ◌<◌, Bool, true, false, List, [], ◌∷◌, ◌++◌, length, refl, ap, sym, ◌∙◌, append_assoc, arith, length-append}
use Rattle.std.specs.Prelude.{◌||◌}
use Rattle.circular_buffer.specs.Buffer.{Buffer, buffer}
use Rattle.cloud_points.specs.declared.item.Item.{Item}
use Rattle.cloud_points.specs.Queue.{up_to_limit, IsNumbered, EndsOnlyLast, has_end}
use Rattle.chunk_queue.specs.Rule.{item_number, item_ends, KeepsRuleOnPush}

-- lists of sent items that grow by one
module _ {T : Type 0} (number : T → ℕ) (ends : T → Bool) where
  pub IsNumbered-last : (k : ℕ) (xs : List T) (x : T) → IsNumbered number ends k xs → number x ≡ up_to_limit (k + length xs) → IsNumbered number ends k (xs ++ x ∷ [])
  IsNumbered-last k [] x h e = (e ∙ ap up_to_limit (omega arith), tt)
  IsNumbered-last k (y ∷ xs) x h e = (h.0, IsNumbered-last (k + 1) xs x h.1 (e ∙ ap up_to_limit (omega arith)))

  pub EndsOnlyLast-last : (xs : List T) (x : T) → EndsOnlyLast number ends xs → has_end number ends xs ≡ false → EndsOnlyLast number ends (xs ++ x ∷ [])
  EndsOnlyLast-last [] x h e = ((λ _. refl), tt)
  EndsOnlyLast-last (y ∷ xs) x h e = ((λ z. conflict (ends y) z (left (ends y) (has_end number ends xs) e)), EndsOnlyLast-last xs x h.1 (right (ends y) (has_end number ends xs) e))
    where
      conflict : {A : Type 0} (b : Bool) → b ≡ true → b ≡ false → A
      conflict true t f = cc
      conflict false t f = cc

      left : (a b : Bool) → a || b ≡ false → a ≡ false
      left true b z = z
      left false b z = refl

      right : (a b : Bool) → a || b ≡ false → b ≡ false
      right true b z = cc
      right false b z = z

pub push-rule : (old : Buffer Item) (item : Item) → length old.items < old.capacity → KeepsRuleOnPush old item (buffer (old.items ++ item ∷ []) old.capacity)
push-rule old item room sent got ok next before = record {
  order = sym (append_assoc got old.items (item ∷ [])) ∙ ap (λ xs. xs ++ item ∷ []) ok.order;
  room = let l = length-append old.items (item ∷ []) in let o : length (item ∷ []) ≡ 1 = refl in omega (arith, l, o, room);
  numbers = IsNumbered-last item_number item_ends 0 sent item ok.numbers (next ∙ ap up_to_limit (omega arith));
  last = EndsOnlyLast-last item_number item_ends sent item ok.last before;
}
