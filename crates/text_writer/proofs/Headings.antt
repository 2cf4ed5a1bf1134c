-- Columns that are joined one after the other, from the first or from the last.
use Rattle.std.proofs.Common.{◌≡◌, ℕ, zero, suc, ◌+◌, ◌-◌, ◌*◌, ◌<◌, ◌≤◌, Bool, true, false, List, [], ◌∷◌, ◌++◌, length, take, drop, get_or, refl, sym, ap, ◌∙◌, arith, append_assoc, append-nil, set}
use Rattle.std.specs.List.{flat_map}
use Rattle.std.proofs.Math.Seq.{drop-append_seam}
use Rattle.std.proofs.lemmas.List.{drop-drop}
use Rattle.cloud_points.specs.declared.point.Point.{Point}
use Rattle.text_writer.specs.declared.form.Column.{Column}
use Rattle.text_writer.specs.declared.form.TextForm.{TextForm}
use Rattle.text_writer.specs.Cells.{cell}
use Rattle.text_writer.specs.TextOutput.{joined, heading}
use Rattle.text_writer.proofs.Lists.{drop_at_set, more_behind}

-- the names of the first columns are written
pub record Headed (form : TextForm) (count : ℕ) (is_first : Bool) (line : List ℕ) : Type 0 where
  pub names : line ≡ joined form.delimiter (λ c. heading form.quote_header c.name) (take count form.columns)
  pub first : is_first ≡ true → count ≡ 0
  pub later : is_first ≡ false → 0 < count

pub first_joined : (delimiter : List ℕ) (text : Column → List ℕ) (columns : List Column) (i : ℕ) (d : Column) → i < length columns → i ≡ 0 → joined delimiter text (take (i + 1) columns) ≡ joined delimiter text (take i columns) ++ text (get_or columns i d)
first_joined delimiter text [] i d h e = absurd (omega arith)
first_joined delimiter text (c ∷ cs) zero d h e = append-nil (text c)
first_joined delimiter text (c ∷ cs) (suc i) d h e = absurd (omega arith)

pub later_joined : (delimiter : List ℕ) (text : Column → List ℕ) (columns : List Column) (i : ℕ) (d : Column) → i < length columns → 0 < i → joined delimiter text (take (i + 1) columns) ≡ joined delimiter text (take i columns) ++ delimiter ++ text (get_or columns i d)
later_joined delimiter text [] i d h e = absurd (omega arith)
later_joined delimiter text (c ∷ cs) zero d h e = absurd (omega arith)
later_joined delimiter text (c ∷ cs) (suc i) d h e =
    let size : suc i + 1 ≡ suc (i + 1) = omega arith in
    let f = λ (k : Column). delimiter ++ text k in
    ap (λ n. joined delimiter text (take n (c ∷ cs))) size
    ∙ ap (λ ys. text c ++ ys) (more_behind f cs i d (let k : i < length cs = omega arith in k))
    ∙ sym (simp append_assoc)

-- the cells from a column on are written, each with the delimiter in front
pub record Fields (p : Point) (form : TextForm) (end at count : ℕ) (old line : List ℕ) : Type 0 where
  pub few : count ≤ length form.columns
  pub same : length line ≡ length old
  pub room : 29 * count ≤ at
  pub start : at ≤ end
  pub first : count < length form.columns → at + length form.delimiter ≤ end
  pub short : end + 29 * count ≤ at + 29 * length form.columns
  pub written : drop at line ≡ flat_map (λ c. form.delimiter ++ cell p c) (drop count form.columns) ++ drop end old

-- the end of a line
pub end_of_line : (old : List ℕ) (end : ℕ) → 1 ≤ end → end ≤ length old → drop (end - 1) (set old (end - 1) 10) ≡ 10 ∷ drop end old
end_of_line old end low high =
    drop_at_set old (end - 1) 10 (let k : end - 1 < length old = omega arith in k)
    ∙ ap (λ n. 10 ∷ drop n old) (let e : end - 1 + 1 ≡ end = omega arith in e)

-- a line without columns
pub no_columns : (delimiter : List ℕ) (text : Column → List ℕ) (columns : List Column) → length columns ≡ 0 → flat_map (λ c. delimiter ++ text c) columns ≡ joined delimiter text columns
no_columns delimiter text [] h = refl
no_columns delimiter text (c ∷ cs) h = absurd (omega arith)

-- the cells, each with the delimiter in front, are joined where the first one is left out
pub first_left_out : (delimiter : List ℕ) (text : Column → List ℕ) (columns : List Column) (at : ℕ) (line rest : List ℕ) → 0 < length columns → drop at line ≡ flat_map (λ c. delimiter ++ text c) columns ++ rest
    → drop (at + length delimiter) line ≡ joined delimiter text columns ++ rest
first_left_out delimiter text [] at line rest h is = absurd (omega arith)
first_left_out delimiter text (c ∷ cs) at line rest h is =
    let behind = flat_map (λ k. delimiter ++ text k) cs in
    sym (drop-drop (length delimiter) at line)
    ∙ ap (drop (length delimiter)) is
    ∙ ap (drop (length delimiter)) (let e : delimiter ++ text c ++ behind ++ rest ≡ delimiter ++ (text c ++ behind ++ rest) = simp append_assoc in e)
    ∙ drop-append_seam delimiter (text c ++ behind ++ rest)

pub headed_none : (form : TextForm) (line : List ℕ) → line ≡ [] → Headed form 0 true line
headed_none form line none = record {
  names = none;
  first = λ e. refl;
  later = λ w. cc;
}

pub headed_first : (form : TextForm) (i : ℕ) (d : Column) (is_first : Bool) (line more : List ℕ) → i < length form.columns → is_first ≡ true → Headed form i is_first line → more ≡ line ++ heading form.quote_header (get_or form.columns i d).name → Headed form (i + 1) false more
headed_first form i d is_first line more h e was is = record {
  names = is ∙ ap (λ xs. xs ++ heading form.quote_header (get_or form.columns i d).name) was.names
      ∙ sym (first_joined form.delimiter (λ c. heading form.quote_header c.name) form.columns i d h (was.first e));
  first = λ w. cc;
  later = λ w. omega arith;
}

pub headed_later : (form : TextForm) (i : ℕ) (d : Column) (is_first : Bool) (line more : List ℕ) → i < length form.columns → is_first ≡ false → Headed form i is_first line → more ≡ line ++ form.delimiter ++ heading form.quote_header (get_or form.columns i d).name → Headed form (i + 1) false more
headed_later form i d is_first line more h e was is = record {
  names = is ∙ ap (λ xs. xs ++ form.delimiter ++ heading form.quote_header (get_or form.columns i d).name) was.names
      ∙ sym (later_joined form.delimiter (λ c. heading form.quote_header c.name) form.columns i d h (was.later e));
  first = λ w. cc;
  later = λ w. omega arith;
}
