-- Stages that give on each point, of which none gathers.
use Rattle.std.proofs.Common.{◌≡◌, ◌≢◌, ◌⊎◌, ℕ, ◌+◌, ◌-◌, ◌<◌, ◌==◌, ◌||◌, Bool, true, false, true≢false, not, cond, inl, inr, List, [], ◌∷◌, ◌++◌, length, refl, ap, sym, ◌∙◌, arith}
use Rattle.std.proofs.lemmas.Bool.Decides.{eqb_tells}
use Rattle.file_devices.specs.declared.devices.Source as source
use Rattle.file_devices.specs.declared.devices.Sink as sink
use Rattle.las_header.specs.Formats.{format_size}
use Rattle.las_header.specs.declared.form.Format.{Format}
use Rattle.las_header.specs.declared.form.Format.TheVariants.{F0, F1, F2, F3, F6, F7, F8}
use Rattle.network_theory.specs.Shape.{In}
use Rattle.network_core.specs.declared.node.Node.{Node}
use Rattle.stage_kinds.specs.Leads.{read_at}
use Rattle.stage_kinds.specs.declared.stage_work.StageWork.{StageWork}
use Rattle.stage_kinds.specs.declared.stage_work.StageWork.TheVariants.{Reader}
use Rattle.pipeline_json.specs.Trees.{IsTree}
use Rattle.stage_options.specs.Roles.{is_gathering, role_of}
use Rattle.stage_options.specs.Shapes.{shapes}
use Rattle.stage_options.specs.declared.options.Options.{Options}
use Rattle.stage_options.specs.declared.options.Options.TheVariants.{ReadersLas, FiltersAssign, FiltersFerry, FiltersMerge, WritersLas, WritersText, WritersTally}
use Rattle.stage_options.specs.declared.stage.StageSpec.{StageSpec}
use Rattle.stage_parts.specs.Parts.{AreHomes, home_at, is_of}
use Rattle.stage_parts.proofs.Tops.{homes-above}
use Rattle.answer_model.specs.Values.{options_at, role_at}
use Rattle.answer_model.proofs.Values.{tree-down}
use Rattle.stage_runs.specs.Ahead.{keeps_points, KeepPoints}
use Rattle.stage_runs.specs.Parts.{gathers_of, is_own, Besides}
use Rattle.stage_runs.specs.Short.{SomeGathers}
use Rattle.stage_runs.specs.Works.{ins_of, AreNewStages}
use Rattle.stage_runs.proofs.Choices.{same-number}
use Rattle.stage_runs.proofs.Steps.{home-gathers}
use Rattle.stage_runs.proofs.Turns.{all-forest, ins-size}
use Rattle.plug_stages.specs.declared.filter.PlugFilter as plug_type
use Rattle.plug_stages.specs.declared.tally.PlugTally as tally_type

pub not-gathering : (b : Bool) → not b ≡ true → b ≡ false
not-gathering true e = absurd (true≢false (sym e))
not-gathering false e = refl

pub streams-of : (o : Options) → keeps_points o ≡ true → is_gathering (role_of o) ≡ false
streams-of (ReadersLas o) e = refl
streams-of (FiltersAssign o) e = refl
streams-of (FiltersFerry o) e = refl
streams-of (FiltersMerge o) e = refl
streams-of (WritersLas o) e = not-gathering (is_gathering (role_of (WritersLas o))) e
streams-of (WritersTally o) e = refl
streams-of (WritersText o) e = not-gathering (is_gathering (role_of (WritersText o))) e
streams-of o e = absurd (true≢false (sym e))

pub none-gathers : (stages : List StageSpec) → KeepPoints stages → (j : ℕ) → is_gathering (role_at stages j) ≡ false
none-gathers stages keep j = streams-of (options_at stages j) (keep j)

pub gathers-not : (stages : List StageSpec) → KeepPoints stages → SomeGathers stages → ⊥
gathers-not stages keep gathers = true≢false (sym gathers.2 ∙ none-gathers stages keep gathers.0)

pub in-append : (c : ℕ) (xs ys : List ℕ) → In c (xs ++ ys) → In c xs ⊎ In c ys
in-append c [] ys h = inr h
in-append c (x ∷ xs) ys (inl e) = inl (inl e)
in-append c (x ∷ xs) ys (inr h) = elim (in-append c xs ys h) [ inl m ↦ inl (inr m) | inr m ↦ inr m ]

pub or-true : (b : Bool) → b || true ≡ true
or-true true = refl
or-true false = refl

pub cond-zero : (b : Bool) → ◌≡◌ {A = ℕ} (cond b 0 0) 0
cond-zero true = refl
cond-zero false = refl

pub some-size : (format : Format) → 0 < format_size format
some-size F0 = omega arith
some-size F1 = omega arith
some-size F2 = omega arith
some-size F3 = omega arith
some-size F6 = omega arith
some-size F7 = omega arith
some-size F8 = omega arith

-- how many records a stage's reader read, of any number
abbrev pub read_of : {S K P Q : Type 0} → (S → ℕ) → StageWork S K P Q → ℕ
read_of reached (Reader r) = read_at r.header (reached r.source)
read_of reached w = 0

-- where none gathers all stages are of the last part
module _ {S K P Q : Type 0} (s : source.Ghosts S) (k : sink.Ghosts K) (fs : plug_type.Ghosts P) (ts : tally_type.Ghosts Q) (stages : List StageSpec) (tree : IsTree (shapes stages)) (old : List (Node (StageWork S K P Q))) (new : AreNewStages s k fs ts stages old)
    (homes : List ℕ) (are : AreHomes (gathers_of stages) (ins_of stages) homes) (besides : Besides S K P Q) (keep : KeepPoints stages) where
  pub home-is : (j : ℕ) → j < length stages → home_at homes j ≡ length stages
  home-is j l = elim (eqb_tells (home_at homes j) (length stages)) [
    | inl p ↦ p.1
    | inr p ↦ (
        let h = homes-above (gathers_of stages) (ins_of stages) homes (all-forest stages tree) are j (let n = ins-size stages in omega (arith, l, n)) in
        let less : home_at homes j < length stages = (let n = p.1 in let m = h.most in (let q = ins-size stages in omega (arith, n, m, q))) in
        absurd (true≢false (sym (home-gathers s k fs ts stages old new (tree-down stages tree) (all-forest stages tree) (ins-size stages) homes are besides j l (home_at homes j) less refl) ∙ none-gathers stages keep (home_at homes j))))
  ]

  pub of-last : (j : ℕ) → j < length stages → is_of homes (length stages) j ≡ true
  of-last j l = ap (λ h. h == length stages) (home-is j l) ∙ same-number (length stages)

  pub own-last : (j : ℕ) → j < length stages → is_own homes (length stages) (length stages - 1) j ≡ true
  own-last j l = ap (λ b. (j == length stages - 1) || b) (of-last j l) ∙ or-true (j == length stages - 1)
