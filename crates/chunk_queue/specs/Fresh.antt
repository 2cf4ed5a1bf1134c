-- The ends of a new queue.
use Rattle.std.specs.Prelude.{◌≡◌, ℕ, [], Option, Some, None}
use Rattle.chunk_queue.specs.declared.ruled.BothEnds.{BothEnds}

-- two ends of one queue with this capacity, over which nothing was sent
pub record IsNew (capacity : ℕ) (ends : BothEnds) : Type 0 where
  pub queue : ends.out.queue ≡ ends.inn.queue
  pub sends : ends.out.capacity ≡ capacity
  pub takes : ends.inn.capacity ≡ capacity
  pub sent : ends.out.sent ≡ []
  pub got : ends.inn.got ≡ []

abbrev pub AreFresh : ℕ → Option BothEnds → Type 0
AreFresh capacity None = Unit {0}
AreFresh capacity (Some ends) = IsNew capacity ends
