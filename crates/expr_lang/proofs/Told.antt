-- The functions give what texts say.
use Rattle.std.proofs.Common.{◌≡◌, ℕ, ◌≤◌, arith, refl, ap, ◌∙◌, subst, List, length, Bool, true, false, if◌then◌else◌, Option, Some, None}
use Rattle.std.specs.Prelude.{nat_lt, option_map, slice_get}
use Rattle.std.proofs.lemmas.Bool.{ltb-true, ltb-false}
use Rattle.expr_lang.specs.declared.fault.ExprFault.{ExprFault}
use Rattle.expr_lang.specs.declared.fault.ExprKind.TheVariants.{Unexpected, TooLong}
use Rattle.expr_lang.specs.declared.token.Placed.{Placed}
use Rattle.expr_lang.specs.Faults.{HasNoFault}
use Rattle.expr_lang.specs.Fronts.{IsTooDeep}
use Rattle.expr_lang.specs.Grammar.{Operand}
use Rattle.expr_lang.specs.Laws.{HaveOneAnswer, IsReadBy}
use Rattle.expr_lang.specs.Machine.{start}
use Rattle.expr_lang.specs.Reading.{Reading, operand, fault, reading, AssignReading, parts, unread, assign_reading}
use Rattle.expr_lang.specs.Said.{where_sound, condition_read, condition_in, condition_of, assignment_read, assignment_in, assignment_of_text}
use Rattle.expr_lang.specs.Texts.{most_bytes, place_at, formula_in, Saying, Says, language, HasTokenFault, at_a_token, of_a_sort, HasTextFault, too_long, in_tokens, IsConditionSaid, condition_sorts, IsAssignmentSaid, IsTooDeepAssignment, assignment_sorts}
use Rattle.expr_lang.specs.Tokens.{tokens_of}
use Rattle.expr_lang.proofs.Assigned.{assign_fault, assign_all, assign_said}
use Rattle.expr_lang.proofs.Conditions.{first_fault, first_where, all_read, said_of}
use Rattle.expr_lang.proofs.Lexing.{are_tokens}
use Rattle.expr_lang.proofs.OneAnswer.{have_one_answer, one_condition, one_assignment}

-- ---- a language whose tokens are read by a function

module _ {X : Type 0} (says : Saying X) (deep : List Placed → Type 0) where
  -- what tokens say, or that they have a fault
  abbrev pub AreTold : List Placed → ℕ → Option X → Type 0
  AreTold ts end (Some x) = HasNoFault (language says deep) ts × says ts x None
  AreTold ts end None = (f : ExprFault) × HasTokenFault says deep end ts f.at f.kind

  -- what a text says, or that it has a fault
  abbrev pub IsTold : List ℕ → Option X → Type 0
  IsTold text (Some x) = Says says deep text x
  IsTold text None = (f : ExprFault) × HasTextFault says deep text f.at f.kind

  told_tokens : (text : List ℕ) (o : Option X) → length text ≤ most_bytes → AreTold (tokens_of text) (length text) o → IsTold text o
  told_tokens text (Some x) size t = record { size = size; tokens = tokens_of text; lexed = are_tokens text; none = t.0; said = t.1 }
  told_tokens text None size (f, t) = (f, in_tokens (tokens_of text) size (are_tokens text) t)

  pub told_text : (inner : List Placed → Option X) → ((ts : List Placed) (end : ℕ) → AreTold ts end (inner ts)) → (text : List ℕ)
      → IsTold text (if nat_lt most_bytes (length text) then None else inner (tokens_of text))
  told_text inner told text = go (nat_lt most_bytes (length text)) refl
    where
      go : (b : Bool) → nat_lt most_bytes (length text) ≡ b → IsTold text (if b then None else inner (tokens_of text))
      go true y = (record { at = most_bytes; kind = TooLong }, too_long (ltb-true most_bytes (length text) y))
      go false n = told_tokens text (inner (tokens_of text)) (let h = ltb-false most_bytes (length text) n in omega (arith, h)) (told (tokens_of text) (length text))

  pub read_by : HaveOneAnswer says deep → (read : List ℕ → Option X) → ((text : List ℕ) → IsTold text (read text)) → IsReadBy says deep read
  read_by one read told = record {
    said = λ text x. (said_if text x (read text) refl (told text), λ e. subst (IsTold text) e (told text));
    faulty = λ text. ((λ (f, h). faulty_if text f h (read text) refl (told text)), λ e. subst (IsTold text) e (told text));
  }
    where
      said_if : (text : List ℕ) (x : X) (o : Option X) → read text ≡ o → IsTold text o → Says says deep text x → read text ≡ Some x
      said_if text x (Some y) e t h = e ∙ ap Some (one.one text y x t h)
      said_if text x None e (f, t) h = absurd (one.either text x f h t)

      faulty_if : (text : List ℕ) (f : ExprFault) → HasTextFault says deep text f.at f.kind → (o : Option X) → read text ≡ o → IsTold text o → read text ≡ None
      faulty_if text f h (Some y) e t = absurd (one.either text y f t h)
      faulty_if text f h None e t = e

-- ---- conditions

sound_condition : (ts : List Placed) (end : ℕ) (e : Operand) (k : ℕ) → operand e k ≡ reading start 0 ts → length ts ≤ k → (wrong : Option ℕ) → wrong ≡ condition_sorts ts e
    → AreTold IsConditionSaid IsTooDeep ts end (where_sound wrong e.formula)
sound_condition ts end e k h more None s = let a = all_read ts e k h more in (a.none, said_of ts e a None s)
sound_condition ts end e k h more (Some at) s = let a = all_read ts e k h more in (record { at = at; kind = Unexpected }, of_a_sort e.formula a.none (said_of ts e a (Some at) s))

condition_told : (ts : List Placed) (end : ℕ) → AreTold IsConditionSaid IsTooDeep ts end (condition_in ts)
condition_told ts end = go (reading start 0 ts) refl
  where
    within : (e : Operand) (k : ℕ) → operand e k ≡ reading start 0 ts → (b : Bool) → nat_lt k (length ts) ≡ b
        → AreTold IsConditionSaid IsTooDeep ts end (if b then None else where_sound (condition_sorts ts e) e.formula)
    within e k h true y = (record { at = place_at end (slice_get ts k); kind = Unexpected }, at_a_token k (first_where ts e k h (ltb-true k (length ts) y)))
    within e k h false n = sound_condition ts end e k h (let m = ltb-false k (length ts) n in omega (arith, m)) (condition_sorts ts e) refl

    go : (r : Reading) → r ≡ reading start 0 ts → AreTold IsConditionSaid IsTooDeep ts end (condition_read ts r)
    go (fault k kind) h = (record { at = place_at end (slice_get ts k); kind = kind }, at_a_token k (first_fault ts k kind h))
    go (operand e k) h = within e k h (nat_lt k (length ts)) refl

pub conditions_read : IsReadBy IsConditionSaid IsTooDeep condition_of
unfolding condition_of
conditions_read = read_by IsConditionSaid IsTooDeep (have_one_answer IsConditionSaid IsTooDeep one_condition) condition_of
    (told_text IsConditionSaid IsTooDeep condition_in condition_told)

-- ---- assignments

assignment_told : (ts : List Placed) (end : ℕ) → AreTold IsAssignmentSaid IsTooDeepAssignment ts end (assignment_in ts)
assignment_told ts end = go (assign_reading ts) refl
  where
    sound : (n : List ℕ) (v : Operand) (k : ℕ) (only : Option Operand) → parts n v k only ≡ assign_reading ts → (wrong : Option ℕ) → wrong ≡ assignment_sorts ts k v only
        → AreTold IsAssignmentSaid IsTooDeepAssignment ts end (where_sound wrong (record { target = n; value = v.formula; only = option_map formula_in only }))
    sound n v k only h None s = let a = assign_all ts n v k only h in (a.none, assign_said ts n v k only a None s)
    sound n v k only h (Some at) s = let a = assign_all ts n v k only h in (
      record { at = at; kind = Unexpected },
      of_a_sort (record { target = n; value = v.formula; only = option_map formula_in only }) a.none (assign_said ts n v k only a (Some at) s),
    )

    go : (r : AssignReading) → r ≡ assign_reading ts → AreTold IsAssignmentSaid IsTooDeepAssignment ts end (assignment_read ts r)
    go (unread k kind) h = (record { at = place_at end (slice_get ts k); kind = kind }, at_a_token k (assign_fault ts k kind h))
    go (parts n v k only) h = sound n v k only h (assignment_sorts ts k v only) refl

pub assignments_read : IsReadBy IsAssignmentSaid IsTooDeepAssignment assignment_of_text
unfolding assignment_of_text
assignments_read = read_by IsAssignmentSaid IsTooDeepAssignment (have_one_answer IsAssignmentSaid IsTooDeepAssignment one_assignment) assignment_of_text
    (told_text IsAssignmentSaid IsTooDeepAssignment assignment_in assignment_told)
