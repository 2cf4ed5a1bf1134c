-- At the start of a tree nothing was sent or got on its queues, and each node but the root has an end above it.
use Rattle.std.proofs.Common.{◌≡◌, ◌≢◌, ℕ, ◌+◌, ◌≤◌, inl, inr, List, [], Option, Some, None, is_none, refl, ap, sym, ◌∙◌, arith}
use Rattle.std.specs.Prelude.{◌==◌, slice_get}
use Rattle.std.proofs.lemmas.Bool.{eq-eqb}
use Rattle.std.proofs.lemmas.Bool.Decides.{eqb_tells}
use Rattle.std.proofs.lemmas.Option.{slice_get_within}
use Rattle.chunk_queue.specs.Ends.{InSeen, OutSeen}
use Rattle.network_core.proofs.Opened.{some_at}
use Rattle.network_workers.specs.Dealt.{AreOpened}
use Rattle.network_workers.specs.Ends.{InGrew, OutGrew}
use Rattle.network_workers.specs.Gathered.{AreOfOne}
use Rattle.network_workers.proofs.EndsOf.{ne-eqb}
use Rattle.network_workers.proofs.OverBack.{not-both}

-- the two ends of a queue since its start
pub one-grew : (o : OutSeen) (i : InSeen) (out : Option OutSeen) (inn : InSeen) → OutGrew (Some o) out → InGrew i inn → o.queue ≡ i.queue → AreOfOne out inn
one-grew o i None inn h j q = absurd h
one-grew o i (Some out) inn h j q = ap (λ (z : OutSeen). z.queue) h ∙ q ∙ sym (ap (λ (z : InSeen). z.queue) j)

module _ (root : ℕ) (outs : List OutSeen) (inns : List InSeen) (opened : AreOpened root outs inns) where
  pub unread-inns : (k : ℕ) (e : InSeen) → slice_get inns k ≡ Some e → e.got ≡ []
  unread-inns k e f =
      let l = slice_get_within inns k e f in
      let o = some_at outs k (let a = opened.count.0 in let b = opened.count.1 in omega (arith, l, a, b)) in
      (opened.nothing k o.0 e o.1 f).1

  -- the root alone has no end above it
  pub root-there : (place count : ℕ) → place ≤ root → count ≡ root + 1 → is_none (slice_get outs place) ≡ (place + 1 == count)
  root-there place count within size = by_end (slice_get outs place) refl
    where
      by_end : (o : Option OutSeen) → slice_get outs place ≡ o → is_none o ≡ (place + 1 == count)
      by_end None e = sym (eq-eqb (place + 1) count (let l = root-reached e in omega (arith, l, size)))
        where
          root-reached : slice_get outs place ≡ None → place ≡ root
          root-reached e = elim (eqb_tells place root) [
            | inl p ↦ p.1
            | inr p ↦ (let ne : place ≢ root = p.1 in let b = within in let c = opened.count.0 in let s = some_at outs place (omega (arith, ne, b, c)) in not-both (slice_get outs place) s.0 e s.1)
          ]
      by_end (Some o) e = sym (ne-eqb (place + 1) count (λ q. absurd (let l = slice_get_within outs place o e in let c = opened.count.0 in omega (arith, q, l, c, size))))
