-- The meaning of a work that lets all through.
use Rattle.std.specs.Prelude.{true, false, None, refl, length}
use Rattle.std.proofs.Math.Nat.{le_refl}
use Rattle.cloud_points.specs.Meaning.{Meaning, KeepsCutting}

-- all that comes goes on
abbrev pub passing : {S P F : Type 0} → Meaning S P F
passing = record {
  emit = λ _ ps. ps;
  after = λ s _. s;
  fault = λ _ _. None;
  at_view = λ s. (s, true);
  at_end = λ s _. (s, false);
  nature = None;
}

pub passing_keeps : {S P F : Type 0} → KeepsCutting (passing {S = S} {P = P} {F = F})
passing_keeps = record {
  emits = λ s a b h. refl;
  goes_on = λ s a b h. refl;
  finds = λ s a b h. refl;
  stops_emit = λ s a b h. absurd (h refl);
  stops_after = λ s a b h. refl;
  stops_fault = λ s a b h. absurd (h refl);
  holds_back = λ s p h. absurd (h refl);
  rests = λ s. refl;
  is_sound = λ s. refl;
  no_longer = λ s a. le_refl (length a);
}
