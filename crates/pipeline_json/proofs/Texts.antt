-- A text and the value that it is.
use Rattle.std.proofs.Common.{ℕ, ◌≡◌, ◌≤◌, ◌∙◌, List, length, nat_lt, Bool, true, false, Some, None, Err, if◌then◌else◌, refl, ap, arith, ltb-true}
use Rattle.std.specs.Str.{IsUtf8, is_utf8}
use Rattle.std.proofs.lemmas.Str.{is_utf8-from_IsUtf8, IsUtf8-from_is_utf8}
use Rattle.serde_json.specs.Data.{Data}
use Rattle.serde_json.specs.Read.{read}
use Rattle.stage_names.specs.declared.faults.PipeFault.TheVariants.{TextTooLong, NotJson}
use Rattle.pipeline_json.specs.Trees.{Outcome, array_in, tree_of_array, tree_of_value, tree_of}

not_long : (text : List ℕ) (o : Outcome) → length text ≤ 1048576 → (if nat_lt 1048576 (length text) then Err TextTooLong else o) ≡ o
not_long text o h = go (nat_lt 1048576 (length text)) refl
  where
    go : (b : Bool) → nat_lt 1048576 (length text) ≡ b → (if b then Err TextTooLong else o) ≡ o
    go true e = absurd (omega (arith, h, ltb-true 1048576 (length text) e))
    go false e = refl

-- a text with a value
pub text_read : (text : List ℕ) (d : Data) → length text ≤ 1048576 → IsUtf8 text → read text ≡ Some d → tree_of text ≡ tree_of_array (array_in d)
text_read text d few utf8 e =
    not_long text _ few ∙ ap (λ b. if b then tree_of_value (read text) else Err NotJson) (is_utf8-from_IsUtf8 text utf8) ∙ ap tree_of_value e

-- a text with none
pub not_json : (text : List ℕ) → length text ≤ 1048576 → (IsUtf8 text → read text ≡ None) → tree_of text ≡ Err NotJson
not_json text few h = not_long text _ few ∙ go (is_utf8 text) refl
  where
    go : (b : Bool) → is_utf8 text ≡ b → (if b then tree_of_value (read text) else Err NotJson) ≡ Err NotJson
    go true e = ap tree_of_value (h (IsUtf8-from_is_utf8 text e))
    go false e = refl
