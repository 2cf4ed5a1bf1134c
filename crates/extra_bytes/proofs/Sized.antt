-- The sizes of described fields, and of the record with their descriptors.
use Rattle.std.proofs.Common.{◌≡◌, ℕ, zero, suc, ◌+◌, ◌*◌, ◌<◌, ◌≤◌, get_or, Bool, true, false, List, [], ◌∷◌, ◌++◌, length, take, drop, map, replicate, Some, if◌then◌else◌, All, refl, ap, sym, subst, ◌∙◌, arith, add-zero, append_assoc, length-append, length-drop, w64}
use Rattle.std.specs.List.{flat_map}
use Rattle.std.specs.Int.{to_le_bytes}
use Rattle.std.specs.Prelude.{is_some, slice_get, ◌||◌, ⊤}
use Rattle.std.proofs.lemmas.List.{map-append}
use Rattle.std.proofs.Math.Seq.{take-append_seam}
use Rattle.std.proofs.lemmas.List.Concat.{flat_map-cons}
use Rattle.std.proofs.lemmas.List.Elements.{All-cons, All-nil, All-head, All-tail}
use Rattle.std.proofs.lemmas.List.Sums.{sum_by-cons}
use Rattle.decimal_coords.specs.declared.grid.Scale.{Scale}
use Rattle.ieee_words.specs.NearWord.{near_word}
use Rattle.cloud_points.specs.ExtraFields.{kind_size}
use Rattle.cloud_points.specs.declared.extra.ExtraKind.{ExtraKind}
use Rattle.cloud_points.specs.declared.extra.ExtraKind.TheVariants.{U8, I8, U16, I16, U32, I32, U64, I64}
use Rattle.cloud_points.specs.declared.extra.ExtraField.{ExtraField}
use Rattle.las_vlr.specs.Written.{IsVlr}
use Rattle.cloud_points.specs.ExtraNames.{dim_named, same_name}
use Rattle.extra_bytes.specs.Descriptors.{has_name, is_taken}
use Rattle.extra_bytes.specs.Fields.{AreLaid, IsLaid, fields_size, moved}
use Rattle.std.proofs.lemmas.Option.{same_Some, slice_get_read}
use Rattle.extra_bytes.specs.Record.{extra_vlr}
use Rattle.extra_bytes.specs.Written.{AreDescribed, HasShortName, descriptor_bytes, is_unit, kind_number, scale_options, scale_part, unplaced}

scale_size : (s : Scale) → length (scale_part s) ≡ 8
scale_size s = by (is_unit s)
  where
    by : (b : Bool) → length (if b then replicate 8 0 else to_le_bytes w64 (near_word s.nano 9)) ≡ 8
    by true = refl
    by false = refl

abbrev zeros : ℕ → List ℕ
zeros n = replicate n 0

abbrev start_of : ExtraField → List ℕ
start_of f = 0 ∷ 0 ∷ kind_number f.kind ∷ scale_options f.scale ∷ []

descriptor_size : (f : ExtraField) → HasShortName f → length (descriptor_bytes f) ≡ 192
descriptor_size f short =
    let filling = drop (length f.name) (zeros 32) in
    let scaled = scale_part f.scale ++ zeros 72 in
    omega (
      arith,
      short,
      length-append (start_of f) (f.name ++ (filling ++ (zeros 76 ++ scaled))),
      length-append f.name (filling ++ (zeros 76 ++ scaled)),
      length-append filling (zeros 76 ++ scaled),
      length-drop (length f.name) (zeros 32),
      length-append (zeros 76) scaled,
      length-append (scale_part f.scale) (zeros 72),
      scale_size f.scale,
    )

descriptors_size : (fields : List ExtraField) → All HasShortName fields → length (flat_map descriptor_bytes fields) ≡ 192 * length fields
descriptors_size [] h = refl
descriptors_size (f ∷ fields) h =
    ap length (flat_map-cons descriptor_bytes f fields)
    ∙ omega (arith, length-append (descriptor_bytes f) (flat_map descriptor_bytes fields), descriptor_size f (All-head HasShortName f fields h), descriptors_size fields (All-tail HasShortName f fields h))

-- the record with the descriptors of at most eight fields is one that can be written
pub record_fits : (fields : List ExtraField) → All HasShortName fields → length fields ≤ 8 → IsVlr (extra_vlr fields)
record_fits fields short few = record {
  sizes = record { reserved = omega arith; user = refl; id = omega arith; text = refl };
  short = omega (arith, few, descriptors_size fields short);
}

kind_small : (kind : ExtraKind) → kind_size kind ≤ 8
kind_small U8 = omega arith
kind_small I8 = omega arith
kind_small U16 = omega arith
kind_small I16 = omega arith
kind_small U32 = omega arith
kind_small I32 = omega arith
kind_small U64 = omega arith
kind_small I64 = omega arith

abbrev size_of : ExtraField → ℕ
size_of f = kind_size f.kind

pub fields_small : (fields : List ExtraField) → fields_size fields ≤ 8 * length fields
fields_small [] = omega arith
fields_small (f ∷ fields) = omega (arith, sum_by-cons size_of f fields, kind_small f.kind, fields_small fields)

-- ---- fields that are laid one right behind another

sizes_add : (a b : List ExtraField) → fields_size (a ++ b) ≡ fields_size a + fields_size b
sizes_add [] b = omega arith
sizes_add (f ∷ a) b = omega (arith, sum_by-cons size_of f (a ++ b), sum_by-cons size_of f a, sizes_add a b)

same_taken : (name : List ℕ) (fields : List ExtraField) → is_taken name (map unplaced fields) ≡ is_taken name fields
same_taken name fields = ap (λ b. is_some (dim_named name) || b) (by fields)
  where
    by : (fields : List ExtraField) → has_name name (map unplaced fields) ≡ has_name name fields
    by [] = refl
    by (f ∷ fields) = ap (λ b. same_name f.name name || b) (by fields)

seam : (before rest : List ExtraField) (f : ExtraField) → slice_get (before ++ f ∷ rest) (length before) ≡ Some f
seam [] rest f = refl
seam (b ∷ before) rest f = seam before rest f

-- fields of the eight extra dimensions, one right behind another from a byte of the record on
abbrev pub StandFrom : ℕ → List ExtraField → Type 0
StandFrom at [] = ⊤
StandFrom at (f ∷ fields) = (f.at ≡ at) × (f.place ≤ 7) × StandFrom (at + kind_size f.kind) fields

module _ (from : ℕ) (fields : List ExtraField) (laid : AreLaid from fields) where
  abbrev end : ℕ
  end = from + fields_size fields

  next_laid : (before rest : List ExtraField) (f : ExtraField) → before ++ f ∷ rest ≡ fields → IsLaid from fields (length before) f
  next_laid before rest f e = laid (length before) f (ap (λ l. slice_get l (length before)) (sym e) ∙ seam before rest f)

  front_is : (before rest : List ExtraField) → before ++ rest ≡ fields → take (length before) fields ≡ before
  front_is before rest e = ap (take (length before)) (sym e) ∙ take-append_seam before rest

  one_on : (before rest : List ExtraField) (f : ExtraField) → before ++ f ∷ rest ≡ fields → (before ++ f ∷ []) ++ rest ≡ fields
  one_on before rest f e = append_assoc before (f ∷ []) rest ∙ e

  one_size : (before : List ExtraField) (f : ExtraField) → from + fields_size (before ++ f ∷ []) ≡ from + fields_size before + kind_size f.kind
  one_size before f = omega (arith, sizes_add before (f ∷ []), sum_by-cons size_of f [])

  described_behind : (before rest : List ExtraField) → before ++ rest ≡ fields → AreDescribed (map unplaced before) (from + fields_size before) end rest
  described_behind before [] e = tt
  described_behind before (f ∷ rest) e =
      let here = next_laid before rest f e in
      let front = front_is before (f ∷ rest) e in
      let name : is_taken f.name (map unplaced before) ≡ false = same_taken f.name before ∙ ap (is_taken f.name) (sym front) ∙ here.name in
      let at : f.at ≡ from + fields_size before = here.at ∙ ap (λ l. from + fields_size l) front in
      let room : from + fields_size before + kind_size f.kind ≤ end = omega (arith, ap fields_size (sym e), sizes_add before (f ∷ rest), sum_by-cons size_of f rest) in
      let others = described_behind (before ++ f ∷ []) rest (one_on before rest f e) in
      let names : map unplaced (before ++ f ∷ []) ≡ map unplaced before ++ unplaced f ∷ [] = map-append unplaced before (f ∷ []) in
      (here.described, name, at, room, subst (λ l. AreDescribed l (from + fields_size before + kind_size f.kind) end rest) names (subst (λ n. AreDescribed (map unplaced (before ++ f ∷ [])) n end rest) (one_size before f) others))

  stand_behind : (before rest : List ExtraField) → before ++ rest ≡ fields → StandFrom (from + fields_size before) rest
  stand_behind before [] e = tt
  stand_behind before (f ∷ rest) e =
      let here = next_laid before rest f e in
      (here.at ∙ ap (λ l. from + fields_size l) (front_is before (f ∷ rest) e), here.place, subst (λ n. StandFrom n rest) (one_size before f) (stand_behind (before ++ f ∷ []) rest (one_on before rest f e)))

  short_behind : (before rest : List ExtraField) → before ++ rest ≡ fields → All HasShortName rest
  short_behind before [] e = All-nil HasShortName
  short_behind before (f ∷ rest) e = All-cons HasShortName f rest (next_laid before rest f e).described.short (short_behind (before ++ f ∷ []) rest (one_on before rest f e))

  none_before : from + 0 ≡ from
  none_before = omega arith

  -- they are such as descriptors describe, stand one right behind another, and have short names
  pub laid_described : AreDescribed [] from end fields
  laid_described = subst (λ n. AreDescribed [] n end fields) none_before (described_behind [] fields refl)

  pub laid_stand : StandFrom from fields
  laid_stand = subst (λ n. StandFrom n fields) none_before (stand_behind [] fields refl)

  pub laid_short : All HasShortName fields
  laid_short = short_behind [] fields refl

-- ---- fields that descriptors describe, of the eight dimensions, are laid so

abbrev pub HasPlace : ExtraField → Type 0
HasPlace f = f.place ≤ 7

laid_behind : (from : ℕ) (before rest : List ExtraField) (at size : ℕ) → at ≡ from + fields_size before → AreDescribed (map unplaced before) at size rest → All HasPlace rest
    → (k : ℕ) (f : ExtraField) → slice_get rest k ≡ Some f → IsLaid from (before ++ rest) (length before + k) f
laid_behind from before [] at size is h places k f e = absurd (cc)
laid_behind from before (g ∷ rest) at size is h places zero f e =
    let same : g ≡ f = same_Some g f e in
    let front : take (length before + 0) (before ++ g ∷ rest) ≡ before = ap (λ n. take n (before ++ g ∷ rest)) (add-zero (length before)) ∙ take-append_seam before (g ∷ rest) in
    subst (IsLaid from (before ++ g ∷ rest) (length before + 0)) same (record {
      described = h.0;
      name = ap (is_taken g.name) front ∙ sym (same_taken g.name before) ∙ h.1;
      at = h.2 ∙ is ∙ ap (λ l. from + fields_size l) (sym front);
      place = All-head HasPlace g rest places;
    })
laid_behind from before (g ∷ rest) at size is h places (suc k) f e =
    let more = before ++ g ∷ [] in
    let names : map unplaced before ++ unplaced g ∷ [] ≡ map unplaced more = sym (map-append unplaced before (g ∷ [])) in
    let next : at + kind_size g.kind ≡ from + fields_size more = omega (arith, is, sizes_add before (g ∷ []), sum_by-cons size_of g []) in
    let there = laid_behind from more rest (at + kind_size g.kind) size next (subst (λ l. AreDescribed l (at + kind_size g.kind) size rest) names h.4) (All-tail HasPlace g rest places) k f e in
    let number : length more + k ≡ length before + suc k = omega (arith, length-append before (g ∷ [])) in
    subst (λ n. IsLaid from (before ++ g ∷ rest) n f) number (subst (λ l. IsLaid from l (length more + k) f) (append_assoc before (g ∷ []) rest) there)

pub described_laid : (from size : ℕ) (fields : List ExtraField) → AreDescribed [] from size fields → All HasPlace fields → AreLaid from fields
described_laid from size fields h places k f e =
    let same : length {A = ExtraField} [] + k ≡ k = omega arith in
    subst (λ n. IsLaid from fields n f) same (laid_behind from [] fields from size (omega arith) h places k f e)

-- ---- fields that are moved

moved_taken : (by : ℕ) (name : List ℕ) (fields : List ExtraField) → is_taken name (map (moved by) fields) ≡ is_taken name fields
moved_taken by name fields = ap (λ b. is_some (dim_named name) || b) (each fields)
  where
    each : (fields : List ExtraField) → has_name name (map (moved by) fields) ≡ has_name name fields
    each [] = refl
    each (f ∷ fields) = ap (λ b. same_name f.name name || b) (each fields)

moved_size : (by : ℕ) (fields : List ExtraField) → fields_size (map (moved by) fields) ≡ fields_size fields
moved_size by [] = refl
moved_size by (f ∷ fields) = sum_by-cons size_of (moved by f) (map (moved by) fields) ∙ ap (λ n. kind_size f.kind + n) (moved_size by fields) ∙ sym (sum_by-cons size_of f fields)

moved_front : (by k : ℕ) (fields : List ExtraField) → take k (map (moved by) fields) ≡ map (moved by) (take k fields)
moved_front by zero fields = refl
moved_front by (suc k) [] = refl
moved_front by (suc k) (f ∷ fields) = ap (λ l. moved by f ∷ l) (moved_front by k fields)

moved_from : (by k : ℕ) (fields : List ExtraField) (g : ExtraField) → slice_get (map (moved by) fields) k ≡ Some g → (f : ExtraField) × (slice_get fields k ≡ Some f) × (moved by f ≡ g)
moved_from by k [] g e = absurd (cc)
moved_from by zero (f ∷ fields) g e = (f, refl, same_Some (moved by f) g e)
moved_from by (suc k) (f ∷ fields) g e = moved_from by k fields g e

pub moved_laid : (by : ℕ) (fields : List ExtraField) → AreLaid 0 fields → AreLaid by (map (moved by) fields)
moved_laid by fields laid k g e =
    let (f, at, is) = moved_from by k fields g e in
    let h = laid k f at in
    let front = moved_front by k fields in
    subst (IsLaid by (map (moved by) fields) k) is (record {
      described = record { name = h.described.name; short = h.described.short; offset = h.described.offset };
      name = ap (is_taken f.name) front ∙ moved_taken by f.name (take k fields) ∙ h.name;
      at = omega (arith, h.at, ap fields_size front, moved_size by (take k fields));
      place = h.place;
    })

-- ---- at most eight of them end within 64 bytes

sizes_cut : (k : ℕ) (fields : List ExtraField) → fields_size (take k fields) ≤ fields_size fields
sizes_cut zero fields = omega arith
sizes_cut (suc k) [] = omega arith
sizes_cut (suc k) (f ∷ fields) = omega (arith, sum_by-cons size_of f (take k fields), sum_by-cons size_of f fields, sizes_cut k fields)

pub laid_near : (fields : List ExtraField) → AreLaid 0 fields → length fields ≤ 8 → All (λ (f : ExtraField). f.at ≤ 64) fields
laid_near fields laid few k d lt =
    let f = get_or fields k d in
    let h = laid k f (slice_get_read fields (length fields) k f refl lt (sym (same_at fields k d lt))) in
    omega (arith, h.at, sizes_cut k fields, fields_small fields, few)
  where
    same_at : (xs : List ExtraField) (k : ℕ) (d : ExtraField) → k < length xs → get_or xs k (get_or xs k d) ≡ get_or xs k d
    same_at [] k d l = absurd (omega (arith, l))
    same_at (x ∷ xs) zero d l = refl
    same_at (x ∷ xs) (suc k) d l = same_at xs k d (omega (arith, l))
