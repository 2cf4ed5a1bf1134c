-- The values of fields are put into a point, one after another.
use Rattle.std.proofs.Common.{◌≡◌, ℕ, ◌+◌, ◌<◌, ◌≤◌, Bool, true, false, List, [], ◌∷◌, length, drop, get_or, Some, None, is_some, if◌then◌else◌, refl, sym, ap, ◌∙◌}
use Rattle.std.proofs.lemmas.List.{drop_more}
use Rattle.std.proofs.Math.ListN.{drop_of_length-le}
use Rattle.cloud_points.specs.declared.dims.Dim.{Dim}
use Rattle.cloud_points.specs.declared.dims.Dim.TheVariants.{Extra}
use Rattle.cloud_points.specs.declared.extra.ExtraField.{ExtraField}
use Rattle.cloud_points.specs.declared.point.Point.{Point}
use Rattle.extra_bytes.specs.Fields.{with_extra, first_out}
use Rattle.extra_bytes.specs.Values.{extra_read}

-- a first field whose value is held leaves it to the others, and one whose value isn't decides
held_first : (f : ExtraField) (others : List ExtraField) (bytes : List ℕ) → first_out (f ∷ []) bytes ≡ None → first_out (f ∷ others) bytes ≡ first_out others bytes
held_first f others bytes e = by (is_some (extra_read f bytes)) e
  where
    by : (is : Bool) → (if is then None else Some (Extra f.place)) ≡ None → (if is then first_out others bytes else Some (Extra f.place)) ≡ first_out others bytes
    by true e = refl
    by false e = absurd (cc)

out_first : (f : ExtraField) (others : List ExtraField) (bytes : List ℕ) (dim : Dim) → first_out (f ∷ []) bytes ≡ Some dim → first_out (f ∷ others) bytes ≡ Some dim
out_first f others bytes dim e = by (is_some (extra_read f bytes)) e
  where
    by : (is : Bool) → (if is then None else Some (Extra f.place)) ≡ Some dim → (if is then first_out others bytes else Some (Extra f.place)) ≡ Some dim
    by true e = absurd (cc)
    by false e = e

-- the values of the first k of these fields were put into a point, and those of the others are still to come
pub record Got (fields : List ExtraField) (bytes : List ℕ) (k : ℕ) (old new : Point) : Type 0 where
  pub point : with_extra fields bytes old ≡ with_extra (drop k fields) bytes new
  pub out : first_out fields bytes ≡ first_out (drop k fields) bytes

pub got_none : (fields : List ExtraField) (bytes : List ℕ) (p : Point) → Got fields bytes 0 p p
got_none fields bytes p = record { point = refl; out = refl }

module _ (fields : List ExtraField) (bytes : List ℕ) (k : ℕ) (f : ExtraField) (old now : Point) (within : k < length fields) (is : get_or fields k f ≡ f) (s : Got fields bytes k old now) where
  abbrev others : List ExtraField
  others = drop (k + 1) fields

  next_fields : drop k fields ≡ f ∷ others
  next_fields = drop_more fields k f within ∙ ap (λ x. x ∷ others) is

  pub got_more : (new : Point) → first_out (f ∷ []) bytes ≡ None → new ≡ with_extra (f ∷ []) bytes now → Got fields bytes (k + 1) old new
  got_more new held put = record {
    point = s.point ∙ ap (λ l. with_extra l bytes now) next_fields ∙ ap (with_extra others bytes) (sym put);
    out = s.out ∙ ap (λ l. first_out l bytes) next_fields ∙ held_first f others bytes held;
  }

  pub out_there : (dim : Dim) → first_out (f ∷ []) bytes ≡ Some dim → first_out fields bytes ≡ Some dim
  out_there dim e = s.out ∙ ap (λ l. first_out l bytes) next_fields ∙ out_first f others bytes dim e

-- all of them were
pub record AllGot (fields : List ExtraField) (bytes : List ℕ) (old new : Point) : Type 0 where
  pub point : new ≡ with_extra fields bytes old
  pub out : first_out fields bytes ≡ None

pub got_all : (fields : List ExtraField) (bytes : List ℕ) (k : ℕ) (old new : Point) → length fields ≤ k → Got fields bytes k old new → AllGot fields bytes old new
got_all fields bytes k old new h s =
    let none : drop k fields ≡ [] = drop_of_length-le fields h in
    record {
      point = sym (s.point ∙ ap (λ l. with_extra l bytes new) none);
      out = s.out ∙ ap (λ l. first_out l bytes) none;
    }
