-- A text has one answer.
use Rattle.std.proofs.Common.{◌≡◌, ℕ, arith, refl, sym, ap, ◌∙◌, subst, List, ◌∷◌, ◌++◌, length, take, Option, Some, None, inl, inr, append-nil}
use Rattle.std.specs.Prelude.{slice_get, option_map}
use Rattle.std.proofs.lemmas.Bool.{true≢false, cases_order}
use Rattle.expr_lang.specs.declared.fault.ExprKind.{ExprKind}
use Rattle.expr_lang.specs.declared.fault.ExprKind.TheVariants.{Unexpected, TooDeep, TooLong, BadNumber}
use Rattle.expr_lang.specs.declared.expr.Assign.{Assign}
use Rattle.expr_lang.specs.declared.token.Token.TheVariants as token
use Rattle.expr_lang.specs.declared.token.Placed.{Placed}
use Rattle.expr_lang.specs.Faults.{Language, HasFault, IsFirstFault, HasNoFault}
use Rattle.expr_lang.specs.Grammar.{Operand, placed, IsWritten, IsExpression}
use Rattle.expr_lang.specs.Lexical.{IsLexed, at_end, at_space, at_token, first_token}
use Rattle.expr_lang.specs.Laws.{IsOneSaying, HaveOneAnswer}
use Rattle.expr_lang.specs.Texts.{place_at, language, Saying, Says, HasTokenFault, at_a_token, of_a_sort, HasTextFault, too_long, in_tokens, IsConditionSaid, condition_sorts, formula_in, IsOnly, assignment_sorts, IsAssignmentSaid}
use Rattle.expr_lang.proofs.Assignments.{none_in, cut, written_no_where}
use Rattle.expr_lang.proofs.Sound.{one_operand}

-- ---- tokens

pub one_lexing : {at : ℕ} {bs : List ℕ} {ts us : List Placed} → IsLexed at bs ts → IsLexed at bs us → ts ≡ us
one_lexing at_end at_end = refl
one_lexing (at_space y w) (at_space z v) = one_lexing w v
one_lexing (at_space y w) (at_token n v) = absurd (true≢false (sym y ∙ n))
one_lexing (at_token n w) (at_space y v) = absurd (true≢false (sym y ∙ n))
one_lexing (at_token {at = at} {b = b} {bs = bs} n w) (at_token m v) = ap (λ x. placed at (first_token (b ∷ bs)).token ∷ x) (one_lexing w v)

-- ---- faults of tokens

one_kind : (l : Language) (front : List Placed) (t : Option Placed) (k m : ExprKind) → HasFault l front t k → HasFault l front t m → k ≡ m
one_kind l front t TooDeep TooDeep f g = refl
one_kind l front t TooDeep BadNumber f g = absurd (g.0 f)
one_kind l front t TooDeep Unexpected f g = absurd (g.0 f)
one_kind l front t BadNumber TooDeep f g = absurd (f.0 g)
one_kind l front t BadNumber BadNumber f g = refl
one_kind l front t BadNumber Unexpected f g = absurd (g.1 f.1)
one_kind l front t Unexpected TooDeep f g = absurd (f.0 g)
one_kind l front t Unexpected BadNumber f g = absurd (f.1 g.1)
one_kind l front t Unexpected Unexpected f g = refl
one_kind l front t TooLong m f g = absurd f
one_kind l front t k TooLong f g = absurd g

one_first : (l : Language) (ts : List Placed) (j k : ℕ) (m n : ExprKind) → IsFirstFault l ts j m → IsFirstFault l ts k n → (j ≡ k) × (m ≡ n)
one_first l ts j k m n f g = elim (cases_order j k) [
  | inl e ↦ (e, one_kind l (take k ts) (slice_get ts k) m n (subst (λ i. HasFault l (take i ts) (slice_get ts i) m) e f.here) g.here)
  | inr o ↦ elim o [
    | inl less ↦ absurd (g.earlier j less m f.here)
    | inr more ↦ absurd (f.earlier k more n g.here)
  ]
]

-- ---- answers, where the tokens say one thing

module _ {X : Type 0} (says : Saying X) (deep : List Placed → Type 0) (one : IsOneSaying says) where
  one_token_fault : {end at to : ℕ} {m n : ExprKind} (ts : List Placed) → HasTokenFault says deep end ts at m → HasTokenFault says deep end ts to n → (at ≡ to) × (m ≡ n)
  one_token_fault {end = end} ts (at_a_token {kind = m} j f) (at_a_token {kind = n} k g) = let r = one_first (language says deep) ts j k m n f g in (ap (λ i. place_at end (slice_get ts i)) r.0, r.1)
  one_token_fault ts (at_a_token {kind = m} j f) (of_a_sort x none s) = absurd (none j f.within m f.here)
  one_token_fault ts (of_a_sort x none s) (at_a_token {kind = n} k g) = absurd (none k g.within n g.here)
  one_token_fault ts (of_a_sort {at = a} x none s) (of_a_sort {at = b} y none' r) = let e = (one ts x y (Some a) (Some b) s r).1 in (cc, refl)

  one_said : (text : List ℕ) (x y : X) → Says says deep text x → Says says deep text y → x ≡ y
  one_said text x y a b = let e = one_lexing b.lexed a.lexed in (one a.tokens x y None None a.said (subst (λ ts. says ts y None) e b.said)).0

  token_fault_or_said : {end at : ℕ} {m : ExprKind} (ts : List Placed) (x : X) → HasNoFault (language says deep) ts → says ts x None → HasTokenFault says deep end ts at m → ⊥
  token_fault_or_said ts x none s (at_a_token {kind = m} j f) = none j f.within m f.here
  token_fault_or_said ts x none s (of_a_sort {at = a} y none' r) = let e = (one ts x y None (Some a) s r).1 in cc

  fault_or_said : {at : ℕ} {m : ExprKind} (text : List ℕ) (x : X) → Says says deep text x → HasTextFault says deep text at m → ⊥
  fault_or_said text x a (too_long more) = let h = a.size in omega arith
  fault_or_said {at = at} {m = m} text x a (in_tokens ts size lexed f) = let e = one_lexing lexed a.lexed in
      token_fault_or_said a.tokens x a.none a.said (subst (λ us. HasTokenFault says deep (length text) us at m) e f)

  one_text_fault : {at to : ℕ} {m n : ExprKind} (text : List ℕ) → HasTextFault says deep text at m → HasTextFault says deep text to n → (at ≡ to) × (m ≡ n)
  one_text_fault text (too_long more) (too_long more') = (refl, refl)
  one_text_fault text (too_long more) (in_tokens ts size lexed f) = absurd (omega arith)
  one_text_fault text (in_tokens ts size lexed f) (too_long more) = absurd (omega arith)
  one_text_fault {to = to} {n = n} text (in_tokens ts size lexed f) (in_tokens us size' lexed' g) = let e = one_lexing lexed' lexed in
      one_token_fault ts f (subst (λ x. HasTokenFault says deep (length text) x to n) e g)

  pub have_one_answer : HaveOneAnswer says deep
  have_one_answer = record {
    one = one_said;
    either = λ text x f a h. fault_or_said text x a h;
    first = λ text f g h k. let r = one_text_fault text h k in ap (λ p. record f { at = p }) r.0 ∙ ap (λ m. record g { kind = m }) r.1;
  }

-- ---- conditions

pub one_condition : IsOneSaying IsConditionSaid
one_condition ts x y s r a b =
    let e : a.own ≡ b.own = one_operand ts a.own b.own a.written b.written in
    (a.formula ∙ ap (λ o. o.formula) e ∙ sym b.formula, a.sorts ∙ ap (condition_sorts ts) e ∙ sym b.sorts)

-- ---- assignments

one_split : (own own' rest rest' : List Placed) (only only' : Option Operand) → IsExpression own → IsExpression own' → own ++ rest ≡ own' ++ rest' → IsOnly rest only → IsOnly rest' only'
    → (own ≡ own') × (only ≡ only')
one_split own own' rest rest' None None x x' h o o' =
    (sym (append-nil own) ∙ ap (λ z. own ++ z) (sym o) ∙ h ∙ ap (λ z. own' ++ z) o' ∙ append-nil own', refl)
one_split own own' rest rest' None (Some c) x x' h o (at, us, e, w) =
    absurd (none_in own own' us (placed at token.Where) (written_no_where x) refl (sym (append-nil own) ∙ ap (λ z. own ++ z) (sym o) ∙ h ∙ ap (λ z. own' ++ z) e))
one_split own own' rest rest' (Some c) None x x' h (at, us, e, w) o =
    absurd (none_in own' own us (placed at token.Where) (written_no_where x') refl (sym (append-nil own') ∙ ap (λ z. own' ++ z) (sym o) ∙ sym h ∙ ap (λ z. own ++ z) e))
one_split own own' rest rest' (Some c) (Some c') x x' h (at, us, e, w) (at', us', e', w') =
    let r = cut own own' us us' (placed at token.Where) (placed at' token.Where) (written_no_where x) (written_no_where x') refl refl
    (ap (λ z. own ++ z) (sym e) ∙ h ∙ ap (λ z. own' ++ z) e') in
    (r.0, ap Some (one_operand us' c c' (subst (λ z. IsWritten 1 z c) r.1 w) w'))

pub one_assignment : IsOneSaying IsAssignmentSaid
one_assignment ts x y s r a b =
    let shown : placed a.name_at (token.Name x.target) ∷ placed a.assign_at token.Assign ∷ (a.own ++ a.rest) ≡ placed b.name_at (token.Name y.target) ∷ placed b.assign_at token.Assign ∷ (b.own ++ b.rest) =
    sym a.shown ∙ b.shown in
    let names : placed a.name_at (token.Name x.target) ≡ placed b.name_at (token.Name y.target) = cc in
    let tokens : token.Name x.target ≡ token.Name y.target = ap (λ p. p.token) names in
    let target : x.target ≡ y.target = cc in
    let tails : a.own ++ a.rest ≡ b.own ++ b.rest = cc in
    let split = one_split a.own b.own a.rest b.rest a.only b.only (a.value, a.written) (b.value, b.written) tails a.where_so b.where_so in
    let value : a.value ≡ b.value = one_operand b.own a.value b.value (subst (λ z. IsWritten 1 z a.value) split.0 a.written) b.written in
    let values : x.value ≡ y.value = a.value_is ∙ ap formula_in value ∙ sym b.value_is in
    let limits : x.only ≡ y.only = a.only_is ∙ ap (option_map formula_in) split.1 ∙ sym b.only_is in
    let sorts : assignment_sorts ts (length a.own) a.value a.only ≡ assignment_sorts ts (length b.own) b.value b.only =
    ap (λ o. assignment_sorts ts (length o) a.value a.only) split.0 ∙ ap (λ v. assignment_sorts ts (length b.own) v a.only) value ∙ ap (assignment_sorts ts (length b.own) b.value) split.1 in
    (all x y target values limits, a.sorts ∙ sorts ∙ sym b.sorts)
  where
    all : (x y : Assign) → x.target ≡ y.target → x.value ≡ y.value → x.only ≡ y.only → x ≡ y
    all x y t v o = ap (λ z. record x { target = z }) t ∙ ap (λ z. record { target = y.target; value = z; only = x.only }) v ∙ ap (λ z. record y { only = z }) o
