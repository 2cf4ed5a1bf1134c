-- Pieces that are appended one after another.
use Rattle.std.proofs.Common.{◌≡◌, ℕ, zero, suc, ◌+◌, ◌<◌, ◌≤◌, List, [], ◌∷◌, ◌++◌, length, take, drop, codes, decimal, get_or, Option, Result, Ok, Err, OnOk, OnErr, refl, ap, subst, sym, ◌∙◌, append_assoc, append-nil, add-one, drop-cons, arith}
use Rattle.std.proofs.lemmas.List.{drop_all}
use Rattle.file_devices.specs.Content.{Appends, AppendsPart}
use Rattle.file_devices.proofs.ContentLemmas.{appends_more}
use Rattle.run_report.specs.declared.report.StageCount.{StageCount}
use Rattle.run_report.specs.Reports.{stage_text, lines_of, outputs_in, report_of}

short_part : (ys zs : List ℕ) (k : ℕ) → (n : ℕ) × (take n (ys ++ zs) ≡ take k ys)
short_part [] zs zero = (0, refl)
short_part [] zs (suc k) = (0, refl)
short_part (y ∷ ys) zs zero = (0, refl)
short_part (y ∷ ys) zs (suc k) = let p = short_part ys zs k in (suc p.0, ap (λ xs. y ∷ xs) p.1)

longer_part : (xs ys : List ℕ) (k : ℕ) → (n : ℕ) × (take n (xs ++ ys) ≡ xs ++ take k ys)
longer_part [] ys k = (k, refl)
longer_part (x ∷ xs) ys k = let p = longer_part xs ys k in (suc p.0, ap (λ rest. x ∷ rest) p.1)

-- a part of the first piece is a part of both
pub part_of_first : (xs ys : List ℕ) (first last : Option (List ℕ)) → AppendsPart first xs last → AppendsPart first (xs ++ ys) last
part_of_first xs ys first last q =
    let n = short_part xs ys q.0 in
    (n.0, subst (λ text. Appends first text last) (sym n.1) q.1)

-- a piece and a part of the next are a part of both
pub part_of_second : (xs ys : List ℕ) (first middle last : Option (List ℕ)) → Appends first xs middle → AppendsPart middle ys last → AppendsPart first (xs ++ ys) last
part_of_second xs ys first middle last p q =
    let n = longer_part xs ys q.0 in
    (n.0, subst (λ text. Appends first text last) (sym n.1) (appends_more first middle last xs (take q.0 ys) p q.1))

-- the lines of the stages before the rest were put
pub record Reporting (counts rest : List StageCount) (out_before out : Option (List ℕ)) (faults_before faults : ℕ) : Type 0 where
  pub lines : List ℕ
  pub put : Appends out_before lines out
  pub with_rest : lines ++ lines_of rest ≡ lines_of counts
  pub calm : faults ≡ faults_before

next_line : (counts : List StageCount) (i : ℕ) (d : StageCount) → i < length counts → lines_of (drop i counts) ≡ stage_text (get_or counts i d) ++ lines_of (drop (i + 1) counts)
next_line counts i d h = ap lines_of (drop-cons counts i d h) ∙ ap (λ n. stage_text (get_or counts i d) ++ lines_of (drop n counts)) (sym (add-one i))

pub reporting_more : (counts : List StageCount) (i : ℕ) (d : StageCount) (first middle last : Option (List ℕ)) (faults0 faults1 faults2 : ℕ) → i < length counts
    → Appends middle (stage_text (get_or counts i d)) last → faults2 ≡ faults1 → Reporting counts (drop i counts) first middle faults0 faults1 → Reporting counts (drop (i + 1) counts) first last faults0 faults2
reporting_more counts i d first middle last faults0 faults1 faults2 h more calm was =
    let line = stage_text (get_or counts i d) in
    record {
      lines = was.lines ++ line;
      put = appends_more first middle last was.lines line was.put more;
      with_rest = append_assoc was.lines line (lines_of (drop (i + 1) counts)) ∙ (ap (λ text. was.lines ++ text) (sym (next_line counts i d h)) ∙ was.with_rest);
      calm = calm ∙ was.calm;
    }

-- the line behind those of the stages
abbrev pub last_line : List StageCount → List ℕ
last_line counts = codes "outputs " ++ decimal (outputs_in counts) ++ codes "\n"

-- a report that broke off in what is said of a stage
pub report_part : (counts : List StageCount) (i : ℕ) (d : StageCount) (first middle last : Option (List ℕ)) (faults0 faults1 : ℕ) → i < length counts
    → Reporting counts (drop i counts) first middle faults0 faults1 → AppendsPart middle (stage_text (get_or counts i d)) last → AppendsPart first (report_of counts) last
report_part counts i d first middle last faults0 faults1 h was part =
    let line = stage_text (get_or counts i d) in
    let rest = lines_of (drop (i + 1) counts) in
    let all : was.lines ++ ((line ++ rest) ++ last_line counts) ≡ report_of counts =
    sym (append_assoc was.lines (line ++ rest) (last_line counts))
    ∙ ap (λ text. text ++ last_line counts) (ap (λ text. was.lines ++ text) (sym (next_line counts i d h)) ∙ was.with_rest) in
    subst (λ text. AppendsPart first text last) all
    (part_of_second was.lines ((line ++ rest) ++ last_line counts) first middle last was.put
    (part_of_first (line ++ rest) (last_line counts) middle last (part_of_first line rest middle last part)))

-- the lines of all stages
pub all_lines : (counts : List StageCount) (i : ℕ) (first out : Option (List ℕ)) (faults0 faults1 : ℕ) → length counts ≤ i → Reporting counts (drop i counts) first out faults0 faults1 → Appends first (lines_of counts) out
all_lines counts i first out faults0 faults1 all was =
    subst (λ text. Appends first text out) (sym (append-nil was.lines) ∙ (ap (λ rest. was.lines ++ lines_of rest) (sym (drop_all i counts all)) ∙ was.with_rest)) was.put

pub OnOk-more : {T E : Type 0} (r : Result T E) (P Q : Type 0) → (P → Q) → OnOk r P → OnOk r Q
OnOk-more (Ok x) P Q f h = f h
OnOk-more (Err e) P Q f h = tt

pub OnErr-more : {T E : Type 0} (r : Result T E) (P Q : Type 0) → (P → Q) → OnErr r P → OnErr r Q
OnErr-more (Ok x) P Q f h = tt
OnErr-more (Err e) P Q f h = f h
