-- When all that was sent was taken.
use Rattle.std.proofs.Common.{◌≡◌, ℕ, Bool, true, false, true≢false, List, [], ◌∷◌, ◌++◌, length, refl, ap, sym, ◌∙◌, subst, append-nil, arith, ◌-◌, ◌^◌}
use Rattle.std.specs.Prelude.{◌||◌, ◌&&◌, ◌==◌, nat_lt}
use Rattle.std.proofs.lemmas.Bool.{eqb-true, ltb-true}
use Rattle.cloud_points.specs.declared.item.Item.{Item}
use Rattle.cloud_points.specs.Queue.{EndsOnlyLast, has_end, up_to_limit}
use Rattle.chunk_queue.specs.Rule.{item_number, item_ends}
use Rattle.chunk_queue.specs.Ends.{ended, are_counts_equal, Holds}

append-nothing : {T : Type 0} (ys held : List T) → ys ++ held ≡ [] → held ≡ []
append-nothing [] held h = h
append-nothing (y ∷ ys) held h = absurd (omega (arith, ap length h))

-- an End that was got was the last item sent
end-got : {T : Type 0} (number : T → ℕ) (ends : T → Bool) (got held : List T) → EndsOnlyLast number ends (got ++ held) → has_end number ends got ≡ true → held ≡ []
end-got number ends [] held h e = absurd (true≢false (sym e))
end-got {T} number ends (y ∷ ys) held h e = by_head (ends y) refl e (end-got number ends ys held h.1)
  where
    by_head : (b : Bool) → ends y ≡ b → b || has_end number ends ys ≡ true → (has_end number ends ys ≡ true → held ≡ []) → held ≡ []
    by_head true g z ih = append-nothing ys held (h.0 g)
    by_head false g z ih = ih z

-- as many were got as were sent
same-length : {T : Type 0} (got held sent : List T) → got ++ held ≡ sent → length got ≡ length sent → held ≡ []
same-length [] [] sent h e = refl
same-length [] (x ∷ xs) [] h e = absurd (omega (arith, e, ap length h))
same-length [] (x ∷ xs) (y ∷ ys) h e = absurd (omega (arith, e))
same-length (g ∷ gs) held [] h e = absurd (omega (arith, e))
same-length (g ∷ gs) held (y ∷ ys) h e = same-length gs held (gs ++ held) refl (omega (arith, e, ap length h))

module _ (sent got held : List Item) (n : ℕ) (ok : Holds sent got held n) where
  by_counts : (p q : Bool) → p ≡ (up_to_limit (length got) == up_to_limit (length sent)) → q ≡ nat_lt (up_to_limit (length sent)) (2 ^ 64 - 1) → p && q ≡ true → held ≡ []
  by_counts true true hp hq h =
      let same = eqb-true (up_to_limit (length got)) (up_to_limit (length sent)) (sym hp) in
      let less = ltb-true (up_to_limit (length sent)) (2 ^ 64 - 1) (sym hq) in
      same-length got held sent ok.order (omega (arith, same, less))
  by_counts true false hp hq h = absurd (true≢false (sym h))
  by_counts false q hp hq h = absurd (true≢false (sym h))

  nothing_left : (e : Bool) → e ≡ ended got → e || are_counts_equal got sent ≡ true → held ≡ []
  nothing_left true he h = end-got item_number item_ends got held (subst (λ (l : List Item). EndsOnlyLast item_number item_ends l) (sym ok.order) ok.last) (sym he)
  nothing_left false he h = by_counts _ _ refl refl h

  pub settled : ended got || are_counts_equal got sent ≡ true → got ≡ sent
  settled h = sym (append-nil got) ∙ ap (λ l. got ++ l) (sym (nothing_left (ended got) refl h)) ∙ ok.order
