-- Files of views that are put one after the other.
use Rattle.std.proofs.Common.{◌≡◌, ℕ, zero, suc, ◌+◌, ◌≤◌, List, [], ◌∷◌, ◌++◌, length, take, drop, slice_get, Option, Some, None, refl, ap, sym, subst, ◌∙◌, inl, inr, arith, add-one}
use Rattle.std.proofs.lemmas.List.{append-nil}
use Rattle.std.proofs.lemmas.Option.{none-some, same_Some}
use Rattle.file_devices.specs.Counts.{Rose, saturating}
use Rattle.file_devices.specs.Named.{Names, put, kept}
use Rattle.file_devices.specs.Told.{IsAsTold}
use Rattle.cloud_points.specs.declared.point.Point.{Point}
use Rattle.stage_kinds.specs.declared.file_form.FileForm.{FileForm}
use Rattle.stage_kinds.specs.declared.file_form.Writing.{Writing}
use Rattle.run_report.specs.declared.refusal.Refusal.{Refusal}
use Rattle.answer_model.specs.Values.{Output}
use Rattle.answer_model.specs.Runs.{put_all}
use Rattle.run_outcome.specs.Cause.{WerePut}
use Rattle.run_outcome.proofs.Causes.{rose-within}
use Rattle.run_ending.specs.Each.{Stops, file_of, files_from}

-- ---- outputs that were put

put-append : (m : Names) (xs ys : List Output) → put_all m (xs ++ ys) ≡ put_all (put_all m xs) ys
put-append m [] ys = refl
put-append m (x ∷ xs) ys = put-append (put m x.name x.bytes) xs ys

-- nothing was put
pub none-put : (old new : Option Names) → new ≡ old → WerePut old [] new
none-put old new same m told x e = let a : Some m ≡ Some x = sym told ∙ sym same ∙ e in a

-- some and then others
pub more-put : (old mid new : Option Names) (xs ys : List Output) → (mid ≡ None → new ≡ None) → WerePut old xs mid → WerePut mid ys new → WerePut old (xs ++ ys) new
more-put old None new xs ys lost first then m told x e = absurd (none-some x (sym (lost refl) ∙ e))
more-put old (Some n) new xs ys lost first then m told x e =
    let a : put_all m xs ≡ n = same_Some _ _ (first m told n refl) in
    ap Some (put-append m xs ys ∙ ap (λ p. put_all p ys) a) ∙ then n refl x e

-- a file that was kept
pub one-put : (old new : Option Names) (name bytes : List ℕ) (told : Option (List ℕ)) (o : Output) → new ≡ kept old name told → IsAsTold told (Some bytes) → o.name ≡ name → o.bytes ≡ bytes → WerePut old (o ∷ []) new
one-put None new name bytes told o is tells named holds m e x f = absurd (none-some m e)
one-put (Some n) new name bytes None o is tells named holds m e x f = absurd (none-some x (sym is ∙ f))
one-put (Some n) new name bytes (Some b) o is tells named holds m e x f =
    let same : n ≡ m = same_Some n m e in
    let written : bytes ≡ b = same_Some bytes b (tells b refl) in
    ap Some (ap (λ (q : List ℕ). put m q o.bytes) named ∙ ap (put m name) (holds ∙ written) ∙ ap (λ k. put k name b) (sym same)) ∙ sym is ∙ f

-- ---- where files stop

take-all : {A : Type 0} (xs ys : List A) (n : ℕ) → take (length xs + n) (xs ++ ys) ≡ xs ++ take n ys
take-all [] ys n = let e : 0 + n ≡ n = omega arith in ap (λ (k : ℕ). take k ys) e
take-all (x ∷ xs) ys n = let e : suc (length xs) + n ≡ suc (length xs + n) = omega arith in ap (λ (k : ℕ). take k ((x ∷ xs) ++ ys)) e ∙ ap (λ zs. x ∷ zs) (take-all xs ys n)

at-append : {A : Type 0} (xs ys : List A) (n : ℕ) (y : A) → slice_get ys n ≡ Some y → slice_get (xs ++ ys) (length xs + n) ≡ Some y
at-append [] ys n y e = let z : 0 + n ≡ n = omega arith in ap (slice_get ys) z ∙ e
at-append (x ∷ xs) ys n y e = let z : suc (length xs) + n ≡ suc (length xs + n) = omega arith in ap (slice_get ((x ∷ xs) ++ ys)) z ∙ at-append xs ys n y e

at-front : {A : Type 0} (xs ys : List A) (n : ℕ) (x : A) → slice_get xs n ≡ Some x → slice_get (xs ++ ys) n ≡ Some x
at-front [] ys n x e = absurd (none-some x e)
at-front (z ∷ xs) ys zero x e = e
at-front (z ∷ xs) ys (suc n) x e = at-front xs ys n x e

take-front : {A : Type 0} (xs ys : List A) (n : ℕ) (x : A) → slice_get xs n ≡ Some x → (take n (xs ++ ys) ≡ take n xs) × (take (suc n) (xs ++ ys) ≡ take (suc n) xs)
take-front [] ys n x e = absurd (none-some x e)
take-front (z ∷ xs) ys zero x e = (refl, refl)
take-front (z ∷ xs) ys (suc n) x e = let t = take-front xs ys n x e in (ap (λ zs. z ∷ zs) t.0, ap (λ zs. z ∷ zs) t.1)

-- behind files that were put, and before others
pub stops-among : (old mid new : Option Names) (f0 f1 f2 f3 : ℕ) (i : ℕ) (form : FileForm) (front here back : List Output) (refusal : Refusal) → f0 ≤ f1 → f2 ≤ f3
    → (mid ≡ None → new ≡ None) → WerePut old front mid → Stops (Rose f1 f2) mid new i form here refusal → Stops (Rose f0 f3) old new i form (front ++ (here ++ back)) refusal
stops-among old mid new f0 f1 f2 f3 i form front here back refusal low high lost were s = record {
  done = length front + s.done;
  next = s.next;
  at = at-append front (here ++ back) s.done s.next (at-front here back s.done s.next s.at);
  of = s.of;
  view = s.view;
  why = elim s.why [ inl m ↦ inl m | inr d ↦ inr (d.0, d.1, d.2, rose-within f0 f1 f2 f3 low high d.3) ];
  left = elim s.left [
    | inl l ↦ inl (behind s.done (take s.done here) (sym t.0) l)
    | inr l ↦ inr (
      l.0,
      subst (λ n. WerePut old (take n (front ++ (here ++ back))) new) (omega arith)
          (behind (s.done + 1) (take (s.done + 1) here) (sym (rw add-one t.1)) l.1),
    )
  ];
}
  where
    t : (take s.done (here ++ back) ≡ take s.done here) × (take (suc s.done) (here ++ back) ≡ take (suc s.done) here)
    t = take-front here back s.done s.next s.at

    behind : (n : ℕ) (ys : List Output) → ys ≡ take n (here ++ back) → WerePut mid ys new → WerePut old (take (length front + n) (front ++ (here ++ back))) new
    behind n ys e put = subst (λ zs. WerePut old zs new) (ap (λ zs. front ++ zs) e ∙ sym (take-all front (here ++ back) n)) (more-put old mid new front ys lost were put)

-- behind files that were put
pub stops-behind : {rose : Type 0} (old mid new : Option Names) (i : ℕ) (form : FileForm) (front here : List Output) (refusal : Refusal) → (mid ≡ None → new ≡ None) → WerePut old front mid
    → Stops rose mid new i form here refusal → Stops rose old new i form (front ++ (here ++ [])) refusal
stops-behind old mid new i form front here refusal lost were s = record {
  done = length front + s.done;
  next = s.next;
  at = at-append front (here ++ []) s.done s.next (at-front here [] s.done s.next s.at);
  of = s.of;
  view = s.view;
  why = s.why;
  left = elim s.left [
    | inl l ↦ inl (behind s.done l)
    | inr l ↦ inr (l.0, subst (λ n. WerePut old (take n (front ++ (here ++ []))) new) (omega arith) (behind (s.done + 1) l.1))
  ];
}
  where
    behind : (n : ℕ) → WerePut mid (take n here) new → WerePut old (take (length front + n) (front ++ (here ++ []))) new
    behind n put = subst (λ zs. WerePut old zs new) (ap (λ hs. front ++ take n hs) (sym (append-nil here)) ∙ sym (take-all front (here ++ []) n)) (more-put old mid new front (take n here) lost were put)

-- ---- the files of views

pub files-more : (i : ℕ) (name : List ℕ) (x : Writing) (n k : ℕ) (vs : List (List Point)) (v : List Point) → slice_get vs k ≡ Some v
    → files_from i name x n vs ≡ files_from i name x n (take k vs) ++ (file_of i name x (k + n) v ∷ files_from i name x (k + n + 1) (drop (suc k) vs))
files-more i name x n zero [] v e = absurd (none-some v e)
files-more i name x n zero (w ∷ vs) v e =
    let same : w ≡ v = same_Some w v e in
    let z : n ≡ 0 + n = omega arith in
    ap (λ (u : List Point). file_of i name x n u ∷ files_from i name x (n + 1) vs) same ∙ ap (λ (j : ℕ). file_of i name x j v ∷ files_from i name x (j + 1) vs) z
files-more i name x n (suc k) [] v e = absurd (none-some v e)
files-more i name x n (suc k) (w ∷ vs) v e =
    let z : k + (n + 1) ≡ suc k + n = omega arith in
    ap (λ (fs : List Output). file_of i name x n w ∷ fs) (files-more i name x (n + 1) k vs v e
    ∙ ap (λ (j : ℕ). files_from i name x (n + 1) (take k vs) ++ (file_of i name x j v ∷ files_from i name x (j + 1) (drop (suc k) vs))) z)

pub files-push : (i : ℕ) (name : List ℕ) (x : Writing) (n k : ℕ) (vs : List (List Point)) (v : List Point) → slice_get vs k ≡ Some v
    → files_from i name x n (take (k + 1) vs) ≡ files_from i name x n (take k vs) ++ file_of i name x (k + n) v ∷ []
files-push i name x n k vs v e = rw add-one (go n k vs e)
  where
    go : (n k : ℕ) (vs : List (List Point)) → slice_get vs k ≡ Some v → files_from i name x n (take (suc k) vs) ≡ files_from i name x n (take k vs) ++ file_of i name x (k + n) v ∷ []
    go n k [] e = absurd (none-some v e)
    go n zero (w ∷ vs) e =
        let same : w ≡ v = same_Some w v e in
        let z : n ≡ 0 + n = omega arith in
        ap (λ (u : List Point). file_of i name x n u ∷ []) same ∙ ap (λ (j : ℕ). file_of i name x j v ∷ []) z
    go n (suc k) (w ∷ vs) e =
        let z : k + (n + 1) ≡ suc k + n = omega arith in
        ap (λ (fs : List Output). file_of i name x n w ∷ fs) (go (n + 1) k vs e ∙ ap (λ (j : ℕ). files_from i name x (n + 1) (take k vs) ++ file_of i name x j v ∷ []) z)

-- a count that rose in a device without a fault rose in that of the files, once the device is given back
pub rose-given : (before files device end : ℕ) → before ≤ files → Rose 0 device → saturating files device ≤ end → Rose before end
rose-given before files device end low rose back = omega (arith, rose, back)
