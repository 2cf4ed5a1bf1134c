-- What a plug makes of a view.
use Rattle.std.specs.Prelude.{ℤ, Bool, true, false, List, [], ◌∷◌, Option, Some, None, Result, fold}
use Rattle.std.specs.List.{cons_option}
use Rattle.std.specs.Option.{option_map}
use Rattle.stage_meanings.specs.Filters.{is_true}

-- a point makes of what is remembered what is remembered then, and the point that goes on, if one does
abbrev pub Step : Type 0 → Type 0
Step P = List ℤ → P → List ℤ × Option P

module _ {P : Type 0} where
  -- what is remembered behind points, and the points that go on
  abbrev pub state_behind : Step P → List ℤ → List P → List ℤ
  state_behind step s [] = s
  state_behind step s (p ∷ ps) = state_behind step (step s p).0 ps

  abbrev pub plug_fold : Step P → List ℤ → List P → List P
  plug_fold step s [] = []
  plug_fold step s (p ∷ ps) = cons_option (step s p).1 (plug_fold step (step s p).0 ps)

  -- the step of a stage: a point that passes its `where` is shown to the plug, and what goes on is cleared; any other one goes on as it is,
  -- and counts for nothing
  abbrev pub shown_if : Bool → (P → P) → Step P → Step P
  shown_if true clear step s p = ((step s p).0, option_map clear (step s p).1)
  shown_if false clear step s p = (s, Some p)

  abbrev pub step_where : {R : Type 0} → (P → Result Bool R) → (P → P) → Step P → Step P
  step_where only clear step s p = shown_if (is_true (only p)) clear step s p

  -- what is remembered behind the last of some views, each of which begins with the opening; where there is none, what was before
  abbrev pub state_past : Step P → List ℤ → List ℤ → List (List P) → List ℤ
  state_past step opening s views = fold (λ _ view. state_behind step opening view) s views

  -- the last of some views, or an open one behind them, where that has a point
  abbrev pub last_view : List (List P) → List P → Option (List P)
  last_view views [] = fold (λ _ view. Some view) None views
  last_view views (p ∷ ps) = Some (p ∷ ps)
