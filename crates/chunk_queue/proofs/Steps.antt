-- Each of the seven kinds of step keeps the rule of a queue between one who sends and one who takes.
use Rattle.std.proofs.Common.{◌≡◌, ◌≢◌, ℕ, zero, suc, Bool, true, false, true≢false, List, [], ◌∷◌, ◌++◌, length, set, sym, refl, ap, ◌∙◌, subst, ⊎_elim, append_assoc, arith}
use Rattle.std.proofs.lemmas.List.{length-append}
use mathlib.Core.Option.{some, some-ne-none}
use lib.ListN.{get_elem?}
use Rattle.crossbeam_queue.specs.Fifo.{Pushes, Pops, Forks, Merges, Learns}
use Rattle.crossbeam_queue.proofs.Lists.{at_set, at_snoc}
use Rattle.cloud_points.specs.Queue.{IsQueue, up_to_limit, has_end}
use Rattle.chunk_queue.specs.declared.known.Known.{Known}
use Rattle.chunk_queue.specs.Known.{known, Fits, IsKept, Sent, Got, HeldBySender, HeldByTaker}
use Rattle.chunk_queue.proofs.Keeps.{IsNumbered-last, EndsOnlyLast-last}

module _ {T : Type 0} where
  at_end : (l : List (Known T)) (a b : Known T) (j : ℕ) → get_elem? l j ≢ some b → get_elem? (l ++ a ∷ []) j ≡ some b → j ≡ length l
  at_end [] a b zero n e = refl
  at_end [] a b (suc j) n e = absurd (some-ne-none b (sym e))
  at_end (x ∷ xs) a b zero n e = absurd (n e)
  at_end (x ∷ xs) a b (suc j) n e = ap suc (at_end xs a b j n e)

  abbrev All : (ℕ → Known T → Type 0) → List (Known T) → Type 0
  All F views = (pass : ℕ) (v : Known T) → get_elem? views pass ≡ some v → F pass v

  all_set : (F : ℕ → Known T → Type 0) (views : List (Known T)) (pass : ℕ) (w : Known T) → F pass w → ((j : ℕ) (u : Known T) → j ≢ pass → get_elem? views j ≡ some u → F j u) → All F (set views pass w)
  all_set F views pass w mine others j u e = ⊎_elim (λ (x : (j ≡ pass) × (w ≡ u)). subst (λ (y : ℕ × Known T). F y.0 y.1) (λ i. (sym x.0 i, x.1 i)) mine)
      (λ (x : (j ≢ pass) × (get_elem? views j ≡ some u)). others j u x.0 x.1) (at_set views pass j w u e)

module _ {T : Type 0} (number : T → ℕ) (ends : T → Bool) where
  abbrev pub start : Known T
  start = known true true 0 [] []

  pub begins : IsKept number ends [] (start ∷ [])
  begins = (
    0,
    0,
    0,
    [],
    [],
    record { order = refl; room = omega arith; numbers = tt; last = tt },
    all_set (Fits number ends 0 0 0 [] []) (start ∷ []) 0 start ((λ _. (refl, refl, refl)), λ _. (refl, refl, refl)) (λ j u other e. absurd (other (at_end [] start u j (λ x. some-ne-none u (sym x)) e))),
  )

  pub sends : (n pass : ℕ) (v : Known T) (x : T) → v.sends ≡ true → v.room ≡ n → has_end number ends v.sent ≡ false → number x ≡ up_to_limit (length v.sent) → Pushes (IsKept number ends) n pass v x (Sent number ends v x)
  sends n pass v x may is no_end at_no items views less h at =
      let w : Known T = known v.sends v.gets v.room (v.sent ++ x ∷ []) v.got in
      let mine = h.6 pass v at in
      let ok = h.5 in
      let sent = h.3 ++ x ∷ [] in
      let same : v.sent ≡ h.3 = (mine.0 may).1 in
      let roomy : v.room ≡ h.2 = (mine.0 may).2 in (
        w,
        (
          h.0,
          h.1,
          h.2,
          sent,
          h.4,
          record {
            order = sym (append_assoc h.4 items (x ∷ [])) ∙ ap (λ l. l ++ x ∷ []) ok.order;
            room = omega (arith, length-append items (x ∷ []), less, is, roomy);
            numbers = IsNumbered-last number ends 0 h.3 x ok.numbers (at_no ∙ ap (λ l. up_to_limit (length l)) same ∙ ap up_to_limit (omega arith));
            last = EndsOnlyLast-last number ends h.3 x ok.last (ap (has_end number ends) (sym same) ∙ no_end);
          },
          all_set (Fits number ends h.0 h.1 h.2 sent h.4) views pass w ((λ _. ((mine.0 may).0, ap (λ l. l ++ x ∷ []) same, roomy)), mine.1)
              (λ j u other e. ((λ p. absurd (other (((h.6 j u e).0 p).0 ∙ sym (mine.0 may).0))), (h.6 j u e).1)),
        ),
        (refl, (h.4, items, subst (λ (l : List T). IsQueue number ends l h.4 items v.room) (sym same) (subst (IsQueue number ends h.3 h.4 items) (sym roomy) ok), omega (arith, less, is))),
      )

  pub gets : (pass : ℕ) (v : Known T) → v.gets ≡ true → Pops (IsKept number ends) pass v (Got number ends v)
  gets pass v may x items views h at =
      let w : Known T = known v.sends v.gets v.room v.sent (v.got ++ x ∷ []) in
      let mine = h.6 pass v at in
      let ok = h.5 in
      let got = h.4 ++ x ∷ [] in
      let same : v.got ≡ h.4 = (mine.1 may).1 in
      let roomy : v.room ≡ h.2 = (mine.1 may).2 in (
        w,
        (
          h.0,
          h.1,
          h.2,
          h.3,
          got,
          record { order = append_assoc h.4 (x ∷ []) items ∙ ok.order; room = omega (arith, ok.room); numbers = ok.numbers; last = ok.last },
          all_set (Fits number ends h.0 h.1 h.2 h.3 got) views pass w (mine.0, λ _. ((mine.1 may).0, ap (λ l. l ++ x ∷ []) same, roomy))
              (λ j u other e. ((h.6 j u e).0, λ p. absurd (other (((h.6 j u e).1 p).0 ∙ sym (mine.1 may).0)))),
        ),
        (refl, (h.3, items, subst (λ (l : List T). IsQueue number ends h.3 l (x ∷ items) v.room) (sym same) (subst (IsQueue number ends h.3 h.4 (x ∷ items)) (sym roomy) ok))),
      )

  pub looks-sent : (pass : ℕ) (v : Known T) → v.sends ≡ true → Learns (IsKept number ends) pass v (HeldBySender number ends v)
  looks-sent pass v may items views h at =
      let mine = h.6 pass v at in
      (h.4, subst (λ (l : List T). IsQueue number ends l h.4 items v.room) (sym (mine.0 may).1) (subst (IsQueue number ends h.3 h.4 items) (sym (mine.0 may).2) h.5))

  pub looks-got : (pass : ℕ) (v : Known T) → v.gets ≡ true → Learns (IsKept number ends) pass v (HeldByTaker number ends v)
  looks-got pass v may items views h at =
      let mine = h.6 pass v at in
      (h.3, subst (λ (l : List T). IsQueue number ends h.3 l items v.room) (sym (mine.1 may).1) (subst (IsQueue number ends h.3 h.4 items) (sym (mine.1 may).2) h.5))

  -- the one pass of a new queue becomes a producer's and a consumer's, which know how much there is room for
  pub splits : (n pass : ℕ) (v : Known T) → v ≡ start → Forks (IsKept number ends) pass v (known true false n [] []) (known false true n [] [])
  splits n pass v is items views h at =
      let l : Known T = known true false n [] [] in
      let r : Known T = known false true n [] [] in
      let mine = h.6 pass v at in
      let m0 = mine.0 (ap (λ (u : Known T). u.sends) is) in
      let m1 = mine.1 (ap (λ (u : Known T). u.gets) is) in
      let sent : [] ≡ h.3 = sym (ap (λ (u : Known T). u.sent) is) ∙ m0.1 in
      let got : [] ≡ h.4 = sym (ap (λ (u : Known T). u.got) is) ∙ m1.1 in
      let vs : List (Known T) = set views pass l in
      let Old : ℕ → Known T → Type 0 = λ j u. (u.sends ≡ true → (j ≡ h.0) × (u.sent ≡ []) × (u.room ≡ n)) × (u.gets ≢ true) in
      let old : All Old vs = all_set Old views pass l ((λ _. (m0.0, refl, refl)), λ p. true≢false (sym p))
      (λ j u other e. ((λ p. absurd (other (((h.6 j u e).0 p).0 ∙ sym m0.0))), λ p. other (((h.6 j u e).1 p).0 ∙ sym m1.0))) in (
        h.0,
        length vs,
        n,
        [],
        [],
        record {
          order = ap (λ l. l ++ items) got ∙ h.5.order ∙ sym sent;
          room = omega (arith, h.5.room, sym m0.2, ap (λ (u : Known T). u.room) is);
          numbers = tt;
          last = tt;
        },
        λ j u e. ⊎_elim (λ x. ((old j u x).0, λ p. absurd ((old j u x).1 p)))
            (λ (same : r ≡ u). ((λ p. absurd (true≢false (sym (ap (λ (y : Known T). y.sends) same ∙ p)))), λ p. (at_end vs r u j (λ x. (old j u x).1 p) e, ap (λ (y : Known T). y.got) (sym same), ap (λ (y : Known T). y.room) (sym same)))) (at_snoc vs r u j e),
      )

  -- the consumer's pass takes in the producer's
  pub merges : (pass : ℕ) (v : Known T) (other : ℕ) (u : Known T) → v.gets ≡ true → u.sends ≡ true → Merges (IsKept number ends) pass v other u (known true true v.room u.sent v.got) (known false false 0 [] [])
  merges pass v other u a b items views h at two at' =
      let both : Known T = known true true v.room u.sent v.got in
      let mine = h.6 pass v at in
      let vs : List (Known T) = set views pass both in
      let was : get_elem? views other ≡ some u = ⊎_elim (λ x. absurd (two x.0)) (λ x. x.1) (at_set views pass other both u at') in
      let theirs = (h.6 other u was).0 b in
      let Now : ℕ → Known T → Type 0 = λ j y. j ≢ other → Fits number ends pass h.1 h.2 h.3 h.4 j y in
      let now : All Now vs = all_set Now views pass both (λ _. ((λ _. (refl, theirs.1, (mine.1 a).2)), λ _. mine.1 a)) (λ j y _ e apart. ((λ p. absurd (apart (((h.6 j y e).0 p).0 ∙ sym theirs.0))), (h.6 j y e).1)) in
      (pass, h.1, h.2, h.3, h.4, h.5, all_set (Fits number ends pass h.1 h.2 h.3 h.4) vs other (known false false 0 [] []) ((λ p. absurd (true≢false (sym p))), λ p. absurd (true≢false (sym p))) (λ j y apart e. now j y e apart))
