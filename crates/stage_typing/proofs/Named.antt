-- Options without a fault have the file name that their type wants.
use Rattle.std.proofs.Common.{◌≡◌, ℕ, Bool, true, false, not, ◌||◌, List, [], ◌∷◌, codes, Option, Some, None, option_map, unwrap_or, if◌then◌else◌, refl, sym, ◌∙◌, drop}
use Rattle.std.specs.Bool.{IsTrue}
use Rattle.std.proofs.lemmas.Option.{none-some}
use Rattle.serde_json.specs.Data.{string, Members}
use Rattle.stage_names.specs.declared.kinds.KindName.{KindName}
use Rattle.stage_names.specs.declared.kinds.KindName.TheVariants as kind
use Rattle.stage_names.specs.declared.faults.PipeFault.{PipeFault}
use Rattle.stage_names.specs.declared.faults.PipeFault.TheVariants.{OptionUnknown, OptionMissing, OptionValue}
use Rattle.stage_options.specs.Rules.{Allowed, Rule, required, source, target, rules_of, fits}
use Rattle.stage_typing.specs.Typed.{is_named}
use Rattle.stage_options.specs.Values.{is_source, is_target}
use Rattle.stage_names.specs.Faults.{or_else}
use Rattle.stage_typing.specs.OptionFaults.{first_unknown, first_missing, first_wrong, fault_by, first_fault}

second_none : (a b : Option PipeFault) → or_else a b ≡ None → b ≡ None
second_none None b e = e
second_none (Some f) b e = absurd (none-some f (sym e))

first_none : (a b : Option PipeFault) → or_else a b ≡ None → a ≡ None
first_none None b e = refl
first_none (Some f) b e = absurd (none-some f (sym e))

no_name : (f : List ℕ → PipeFault) (o : Option (List ℕ)) → option_map f o ≡ None → o ≡ None
no_name f None e = refl
no_name f (Some name) e = absurd (none-some (f name) (sym e))

passed : (is : Bool) (name : List ℕ) (later : Option (List ℕ)) → (if not is || false then Some name else later) ≡ None → is ≡ true
passed true name later e = refl
passed false name later e = absurd (none-some name (sym e))

-- a file name that a table wants first is there, and passes its test
module _ (allowed : Allowed) (test : List ℕ → Bool) (fit : (name : List ℕ) → fits allowed (string name) ≡ test name) where
  passes_test : (i : ℕ) (rs : List Rule) (filename : Option (List ℕ)) (ms : Members) → fault_by i (required (codes "filename") allowed ∷ rs) filename ms ≡ None
      → IsTrue (test (unwrap_or filename []))
  passes_test i rs filename ms e = go filename (no_name (OptionMissing i) _ (first_none _ _ later)) (no_name (OptionValue i) _ (second_none _ _ later))
    where
      table : List Rule
      table = required (codes "filename") allowed ∷ rs

      later : or_else (option_map (OptionMissing i) (first_missing table filename ms)) (option_map (OptionValue i) (first_wrong table filename ms)) ≡ None
      later = second_none (option_map (OptionUnknown i) (first_unknown table filename ms)) _ e

      go : (filename : Option (List ℕ)) → first_missing table filename ms ≡ None → first_wrong table filename ms ≡ None → IsTrue (test (unwrap_or filename []))
      go None missing wrong = absurd (none-some (codes "filename") (sym missing))
      go (Some name) missing wrong = sym (fit name) ∙ passed (fits allowed (string name)) (codes "filename") (first_wrong rs (Some name) ms) wrong

-- the file name of a stage without a fault is one that its type may have
pub named : (i : ℕ) (kind : KindName) (filename : Option (List ℕ)) (ms : Members) → first_fault i kind filename ms ≡ None → IsTrue (is_named kind filename)
named i kind.ReadersLas filename ms e = passes_test source is_source (λ _. refl) i (drop 1 (rules_of kind.ReadersLas)) filename ms e
named i kind.WritersLas filename ms e = passes_test target is_target (λ _. refl) i (drop 1 (rules_of kind.WritersLas)) filename ms e
named i kind.WritersText filename ms e = passes_test target is_target (λ _. refl) i (drop 1 (rules_of kind.WritersText)) filename ms e
named i _ filename ms e = refl
