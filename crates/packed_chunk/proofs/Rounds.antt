-- Rounds in which each free place takes its point.
use Rattle.std.proofs.Common.{◌≡◌, ℕ, ◌+◌, ◌-◌, ◌<◌, leb, ltb, ◌&&◌, true, false, if◌then◌else◌, List, [], ◌∷◌, ◌++◌, length, get_or, take, drop, ⊎_elim, subst, ap, sym, ◌∙◌, arith}
use Rattle.std.proofs.lemmas.Bool.{cases_lt, lt-leb}
use Rattle.std.proofs.lemmas.Bool.Decides.{nat_tests}
use Rattle.std.proofs.lemmas.List.{drop_more, take-append-drop}
use Rattle.cloud_points.specs.Points.{zero_point}
use Rattle.cloud_points.specs.declared.layout.Layout.{Layout}
use Rattle.cloud_points.specs.declared.point.Point.{Point}
use Rattle.packed_chunk.specs.Places.{ArePlaces, AreGoing, AreInHand}
use Rattle.packed_chunk.specs.Unpacked.{unpacked_at}
use Rattle.packed_chunk.proofs.Cycles.{Taken, is_taken, Walks, Carries, source_is, from_left, source_stands}
use Rattle.packed_chunk.proofs.Members.{in_mid}

-- the place that has its turn, before those that come behind it
pub turned : (W : List ℕ → Type 0) (next free read : List ℕ) (turn : ℕ) → read ≡ free → turn < length read → W (next ++ drop turn free) → W (next ++ get_or read turn 0 ∷ drop (turn + 1) read)
turned W next free read turn is low w = subst (λ xs. W (next ++ xs)) (ap (drop turn) (sym is) ∙ drop_more read turn 0 low) w

pub place_inside : (n start end : ℕ) (old now next free read : List ℕ) (turn : ℕ) → read ≡ free → turn < length read → Walks n start end old now (next ++ drop turn free) → get_or read turn 0 < n
place_inside n start end old now next free read turn is low w =
    let here = turned (Walks n start end old now) next free read turn is low w in
    here.inside (get_or read turn 0) (in_mid (get_or read turn 0) next (drop (turn + 1) read))

-- what is in hand for a free place is the point that has to come there
test_taken : (start end k : ℕ) → Taken start end k → (leb start k && ltb k end) ≡ true
test_taken start end k t = grind (arith, nat_tests)

test_elsewhere : (start end k : ℕ) → (Taken start end k → ⊥) → (leb start k && ltb k end) ≡ false
test_elsewhere start end k n = ⊎_elim
    (λ low. ap (λ b. b && ltb k end) (lt-leb start k low))
    (λ high. ⊎_elim (λ l. absurd (n (high, l))) (λ g. grind (arith, nat_tests)) (cases_lt k end))
    (cases_lt k start)

pub its_point : (n start end : ℕ) (layout : Layout) (old now free read : List ℕ) (points moved : List Point) (taken going : List (List ℕ)) (turn : ℕ) → ArePlaces n old → read ≡ free → turn < length free
    → Walks n start end old now free → Carries n old now free points moved → AreInHand layout start end points old taken → AreGoing layout start end moved now taken read going
    → unpacked_at layout 0 (get_or going turn []) ≡ get_or points (get_or old (get_or free turn 0) 0) zero_point
its_point n start end layout old now free read points moved taken going turn places is low walks carries hands goes =
    let place = get_or free turn 0 in
    let from = get_or old place 0 in
    let before = take turn free in
    let after = drop (turn + 1) free in
    let parts : free ≡ before ++ place ∷ after = sym (take-append-drop turn free) ∙ ap (λ xs. before ++ xs) (drop_more free turn 0 low) in
    let w = subst (Walks n start end old now) parts walks in
    let c = subst (λ xs. Carries n old now xs points moved) parts carries in
    let at : get_or now (get_or read turn 0) 0 ≡ from = ap (λ xs. get_or now (get_or xs turn 0) 0) is ∙ source_is n start end old places before after place now w in
    goes turn (omega (arith, low, ap length is))
    ∙ ap (λ k. if leb start k && ltb k end then unpacked_at layout 0 (get_or taken (k - start) []) else get_or moved k zero_point) at
    ∙ ⊎_elim
    (λ t. ap (λ b. if b then unpacked_at layout 0 (get_or taken (from - start) []) else get_or moved from zero_point) (test_taken start end from t)
    ∙ hands from t.0 t.1 (from_left n start end old places before after place now w))
    (λ e. ap (λ b. if b then unpacked_at layout 0 (get_or taken (from - start) []) else get_or moved from zero_point) (test_elsewhere start end from e)
    ∙ source_stands n start end old places before after place now w points moved c e)
    (is_taken start end from)
