-- The bytes of items one after another.
use Rattle.std.proofs.Common.{◌≡◌, ℕ, List, [], ◌∷◌, ◌++◌, Ok, Err, ap, sym, refl, ◌∙◌, append_assoc}
use Rattle.std.specs.Prelude.{Result}
use Rattle.las_header.specs.Steps.{◌>>=◌}
use Rattle.cloud_points.specs.declared.point.Point.{Point}
use Rattle.point_formats.specs.declared.encoding.EncodeFault.{EncodeFault}
use Rattle.point_formats.specs.declared.grid.Grid.{Grid}
use Rattle.point_formats.specs.Formats.{Item}
use Rattle.point_formats.specs.Encoded.{item_bytes, items_bytes}

abbrev pub joined : Result (List ℕ) EncodeFault → Result (List ℕ) EncodeFault → Result (List ℕ) EncodeFault
joined a b = a >>= (λ first. b >>= (λ others. Ok (first ++ others)))

joined-none : (b : Result (List ℕ) EncodeFault) → b ≡ joined (Ok []) b
joined-none (Ok bytes) = refl
joined-none (Err e) = refl

joined-assoc : (i a b : Result (List ℕ) EncodeFault) → joined i (joined a b) ≡ joined (joined i a) b
joined-assoc (Err e) a b = refl
joined-assoc (Ok f) (Err e) b = refl
joined-assoc (Ok f) (Ok o) (Err e) = refl
joined-assoc (Ok f) (Ok o) (Ok r) = ap Ok (sym (append_assoc f o r))

items-append : (grid : Grid) (p : Point) (a b : List Item) → items_bytes grid p (a ++ b) ≡ joined (items_bytes grid p a) (items_bytes grid p b)
items-append grid p [] b = joined-none (items_bytes grid p b)
items-append grid p (item ∷ rest) b =
    ap (joined (item_bytes grid p item)) (items-append grid p rest b) ∙ joined-assoc (item_bytes grid p item) (items_bytes grid p rest) (items_bytes grid p b)

-- a record goes on with items
pub items_go_on : (grid : Grid) (p : Point) (a b : List Item) (first others : List ℕ)
    → items_bytes grid p a ≡ Ok first → items_bytes grid p b ≡ Ok others → items_bytes grid p (a ++ b) ≡ Ok (first ++ others)
items_go_on grid p a b first others ea eb = items-append grid p a b ∙ ap (λ r. joined r (items_bytes grid p b)) ea ∙ ap (joined (Ok first)) eb

-- a record whose first items are refused
pub items_refused : (grid : Grid) (p : Point) (a b : List Item) (e : EncodeFault) → items_bytes grid p a ≡ Err e → items_bytes grid p (a ++ b) ≡ Err e
items_refused grid p a b e ea = items-append grid p a b ∙ ap (λ r. joined r (items_bytes grid p b)) ea

-- the bytes of the first item go before those of the others
pub joined_ok : {a b : Result (List ℕ) EncodeFault} {first others : List ℕ} → a ≡ Ok first → b ≡ Ok others → joined a b ≡ Ok (first ++ others)
joined_ok {b = b} {first = first} ea eb = ap (λ r. joined r b) ea ∙ ap (joined (Ok first)) eb

pub bits_ok : {r : Result ℕ EncodeFault} {byte : ℕ} → r ≡ Ok byte → (r >>= (λ b. Ok (b ∷ []))) ≡ Ok (byte ∷ [])
bits_ok e = ap (λ r. r >>= (λ b. Ok (b ∷ []))) e
