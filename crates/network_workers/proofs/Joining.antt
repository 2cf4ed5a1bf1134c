-- A seat from its start to its end, as one of the nodes of a tree.
use Rattle.std.proofs.Common.{◌≡◌, ℕ, ◌<◌, true, List, [], ◌∷◌, is_none, refl, ap, ◌∙◌, arith}
use Rattle.std.proofs.Math.Path.{fun_ext}
use Rattle.std.proofs.lemmas.Bool.{lt-ltb}
use Rattle.cloud_points.specs.declared.point.Point.{Point}
use Rattle.cloud_points.specs.declared.item.Item as code
use Rattle.cloud_points.specs.declared.work.Work.{Ghosts}
use Rattle.cloud_points.specs.Bodies.{bodies}
use Rattle.cloud_points.specs.Marks.{Mark, all_marks}
use Rattle.chunk_queue.specs.Ends.{ended}
use Rattle.network_theory.proofs.Betweens.{quiet-same}
use Rattle.network_core.specs.Shown.{shown}
use Rattle.network_workers.specs.declared.seats.Seat.{Seat}
use Rattle.network_workers.specs.declared.seats.SeatIn.{SeatIn}
use Rattle.network_workers.specs.Ends.{got_of, sent_on, since, took_of}
use Rattle.network_workers.specs.Gathered.{NodeCarries}
use Rattle.network_workers.specs.Seats.{node_of, IsFit, Carries}
use Rattle.network_workers.proofs.Carrying.{reads-same}

since-start : (old new : List code.Item) → old ≡ [] → since old new ≡ new
since-start [] new h = refl
since-start (x ∷ xs) new h = cc

-- each input of a done node got its End
pub all-closed : {W S : Type 0} (g : Ghosts W S) (ins : List SeatIn) (at : ℕ) (seat : Seat W) → IsFit g ins at seat → (node_of seat).done ≡ true → (k : ℕ) → k < (node_of seat).inputs → ended (got_of ins at k) ≡ true
all-closed g ins at seat fit done k l = fit.closed k l ∙ lt-ltb k (node_of seat).ended (let r = fit.sound.read_done done in omega (arith, r, l))

-- what a seat got of its inputs, as marks
abbrev pub got_marks : List SeatIn → ℕ → ℕ → List (Mark Point)
got_marks ins at k = all_marks (bodies (got_of ins at k))

module _ {W S : Type 0} (g : Ghosts W S) (ins ins' : List SeatIn) (at : ℕ) (old new : Seat W) (h : Carries g ins ins' at old new) (fit : IsFit g ins' at new)
    (unread : (k : ℕ) → got_of ins at k ≡ []) (unsent : sent_on old.out ≡ []) where
  took-is : took_of at ins ins' ≡ got_marks ins' at
  took-is = fun_ext (λ k. ap (λ x. all_marks (bodies x)) (since-start (got_of ins at k) (got_of ins' at k) (unread k)))

  sent-is : all_marks (bodies (since (sent_on old.out) (sent_on new.out))) ≡ all_marks (bodies (sent_on new.out))
  sent-is = ap (λ x. all_marks (bodies x)) (since-start (sent_on old.out) (sent_on new.out) unsent)

  pub seat-joins : NodeCarries g (is_none old.out) (node_of old) (node_of new) (got_marks ins' at) (all_marks (bodies (sent_on new.out)))
  seat-joins = record {
    calm = h.calm;
    between = record {
      work = h.between.work;
      leaf = h.between.leaf;
      inputs = h.between.inputs;
      took = h.between.took;
      reads = reads-same (shown g [] (node_of old)) (shown g [] (node_of new)) (took_of at ins ins') (got_marks ins' at) h.between.took took-is h.between.reads;
    };
    holds = h.holds;
    gave = λ none told. (h.quietly none told).gave;
    same = λ none told r. (h.quietly none told).same r ∙ sent-is;
    quiet = λ none told. quiet-same (shown g [] (node_of old)) (shown g [] (node_of new)) (took_of at ins ins') (got_marks ins' at) (h.quietly none told).gave (h.quietly none told).gave took-is refl (h.quietly none told).quiet;
    sound = fit.sound;
  }
