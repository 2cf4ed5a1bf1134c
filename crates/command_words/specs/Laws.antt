-- What the place of a bad word is.
use Rattle.std.specs.Prelude.{◌≡◌, ◌<◌, ◌+◌, ◌⊎◌, ℕ, List, length, take}
use Rattle.command_words.specs.Commands.{Command, IsCommand, CanGoOn}

-- the first word with which the words up to it begin no command, or the end of words that begin one and are none
pub record IsPlace (words : List (List ℕ)) (k : ℕ) : Type 0 where
  pub before : CanGoOn (take k words)
  pub here : ((k < length words) × (CanGoOn (take (k + 1) words) → ⊥)) ⊎ ((k ≡ length words) × ((c : Command) → IsCommand words c → ⊥))
