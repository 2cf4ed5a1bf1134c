-- The rule of a queue between one who sends and one who takes, over what the queue holds and what each pass knows.
use Rattle.std.specs.Prelude.{◌≡◌, ℕ, ◌<◌, Bool, true, List, [], ◌∷◌, ◌++◌, length}
use mathlib.Core.Option.{some}
use lib.ListN.{get_elem?}
use Rattle.cloud_points.specs.Queue.{IsQueue}
use Rattle.chunk_queue.specs.declared.known.Known.{Known}

abbrev pub known : {T : Type 0} → Bool → Bool → ℕ → List T → List T → Known T
known s g n sent got = record { sends = s; gets = g; room = n; sent = sent; got = got }

module _ {T : Type 0} (number : T → ℕ) (ends : T → Bool) where
  -- the pass of who sends knows what was sent, that of who takes knows what was got, and both know how much room there is
  abbrev pub Fits : ℕ → ℕ → ℕ → List T → List T → ℕ → Known T → Type 0
  Fits sender taker n sent got pass v =
      (v.sends ≡ true → (pass ≡ sender) × (v.sent ≡ sent) × (v.room ≡ n)) × (v.gets ≡ true → (pass ≡ taker) × (v.got ≡ got) × (v.room ≡ n))

  abbrev pub IsKept : List T → List (Known T) → Type 0
  IsKept items views = (sender : ℕ) × (taker : ℕ) × (n : ℕ) × (sent : List T) × (got : List T) × IsQueue number ends sent got items n
      × ((pass : ℕ) (v : Known T) → get_elem? views pass ≡ some v → Fits sender taker n sent got pass v)

  -- a push: what was sent grows by the item, at a step at which there was room
  abbrev pub Sent : Known T → T → Known T → Type 0
  Sent v x w = (w ≡ known v.sends v.gets v.room (v.sent ++ x ∷ []) v.got) × ((got : List T) × (held : List T) × IsQueue number ends v.sent got held v.room × (length held < v.room))

  -- a pop: what was got grows by the first item that was held
  abbrev pub Got : Known T → T → Known T → Type 0
  Got v x w = (w ≡ known v.sends v.gets v.room v.sent (v.got ++ x ∷ [])) × ((sent : List T) × (held : List T) × IsQueue number ends sent v.got (x ∷ held) v.room)

  -- a look by who sends, by who takes, and by who is both
  abbrev pub HeldBySender : Known T → List T → Type 0
  HeldBySender v held = (got : List T) × IsQueue number ends v.sent got held v.room

  abbrev pub HeldByTaker : Known T → List T → Type 0
  HeldByTaker v held = (sent : List T) × IsQueue number ends sent v.got held v.room

  abbrev pub HeldByBoth : Known T → List T → Type 0
  HeldByBoth v held = IsQueue number ends v.sent v.got held v.room
