-- Descriptors are written one after the other.
use Rattle.std.proofs.Common.{◌≡◌, ℕ, ◌+◌, ◌-◌, ◌<◌, List, ◌++◌, length, length-drop, take, drop, replicate, get_or, refl, sym, ap, ◌∙◌, arith, append_assoc}
use Rattle.std.specs.List.{flat_map}
use Rattle.std.proofs.lemmas.List.{take_more, take_all}
use Rattle.std.proofs.lemmas.Grind.{common_steps, flat_map-append}
use Rattle.cloud_points.specs.declared.extra.ExtraField.{ExtraField}
use Rattle.extra_bytes.specs.Written.{descriptor_bytes}

one_more : {X : Type 0} (f : X → List ℕ) (xs : List X) (i : ℕ) (d : X) → i < length xs → flat_map f (take (i + 1) xs) ≡ flat_map f (take i xs) ++ f (get_or xs i d)
one_more f xs i d h = rw (take_more xs i d h, flat_map-append) grind (arith, common_steps)

pub one_written : (xs : List ExtraField) (i : ℕ) (x : ExtraField) (before after : List ℕ) → i < length xs → x ≡ get_or xs i x
    → after ≡ before ++ descriptor_bytes x → before ≡ flat_map descriptor_bytes (take i xs) → after ≡ flat_map descriptor_bytes (take (i + 1) xs)
one_written xs i x before after h is add was =
    add ∙ ap (λ l. l ++ descriptor_bytes x) was ∙ ap (λ y. flat_map descriptor_bytes (take i xs) ++ descriptor_bytes y) is ∙ sym (one_more descriptor_bytes xs i x h)

joined : (a b c d e g : List ℕ) → a ++ b ++ c ++ d ++ e ++ g ≡ a ++ (b ++ (c ++ (d ++ (e ++ g))))
joined a b c d e g = simp append_assoc refl

-- six pieces that are put one behind the other
pub pieces_joined : (p q r s t all : List ℕ) (b c d e g : List ℕ) → q ≡ p ++ b → r ≡ q ++ c → s ≡ r ++ d → t ≡ s ++ e → all ≡ t ++ g
    → all ≡ p ++ (b ++ (c ++ (d ++ (e ++ g))))
pieces_joined p q r s t all b c d e g one two three four five =
    five ∙ ap (λ l. l ++ g) (four ∙ ap (λ l. l ++ e) (three ∙ ap (λ l. l ++ d) (two ∙ ap (λ l. l ++ c) one))) ∙ joined p b c d e g

abbrev no_name : List ℕ
no_name = replicate 32 0

pub filled : (n : ℕ) → take (32 - n) (drop n no_name) ≡ drop n no_name
filled n = take_all (32 - n) (drop n no_name) (let e = length-drop n no_name in omega (arith, e))
