-- Points that are shown to a tally, and go on as they are.
use Rattle.std.proofs.Common.{◌≡◌, ℕ, ◌+◌, ◌<◌, true, List, [], ◌∷◌, ◌++◌, length, take, drop, get_or, set, Some, None, refl, ap, sym, subst, arith}
use Rattle.std.proofs.lemmas.List.{set-get_or}
use Rattle.std.specs.List.{cons_option}
use Rattle.stage_meanings.specs.Filters.{keeps}
use Rattle.stage_meanings.specs.Steps.{Steps}
use Rattle.stream_filters.proofs.Judging.{Judging}
use Rattle.stream_filters.proofs.Moving.{stays_down}
use Rattle.plug_stages.proofs.JudgingAs.{judge_next_as}

module _ {S P F : Type 0} (st : Steps S P F) (s0 : S) (all : List P) (other : Steps S P F) (here : other ≡ st) where
  pub show_next : (s : S) (at : ℕ) (so : Judging st s0 all s at at all) (d : P) (inside : at < length all) (t : S)
      → other.fault s (get_or all at d) ≡ None → other.becomes s (get_or all at d) ≡ Some (get_or all at d) → t ≡ other.next s (get_or all at d)
      → Judging st s0 all t (at + 1) (at + 1) all
  show_next s at so d inside t sound becomes next =
      let same : set all at (get_or all at d) ≡ all = set-get_or all at d in
      judge_next_as st s0 all other here s at at all so d inside t true (get_or all at d) (at + 1) all sound becomes next
      (subst (λ z. (r : P) (rs : List P) → drop at z ≡ r ∷ rs → take (at + 1) all ≡ take at z ++ cons_option (keeps true r) []) (sym same)
      (λ r rs e. stays_down all at at r rs e inside true refl refl))
      (ap (drop (at + 1)) (sym same)) (ap length (sym same)) (omega arith)
