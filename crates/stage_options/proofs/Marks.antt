-- Names with a `#`.
use Rattle.std.proofs.Common.{◌≡◌, ◌≢◌, ◌<◌, ◌∙◌, ◌++◌, ℕ, suc, List, [], ◌∷◌, length, get_or, if◌then◌else◌, decimal, false, is_some, true, Bool, refl, ap, sym, arith, append_assoc}
use Rattle.std.proofs.lemmas.Bool.{ne_eqb}
use Rattle.stage_names.specs.Kinds.{is_writer}
use Rattle.stage_options.specs.declared.options.Options.{Options}
use Rattle.stage_options.specs.declared.options.Options.TheVariants.{WritersLas, WritersText}
use Rattle.stage_options.specs.Kinds.{kind_of}
use Rattle.stage_options.specs.Roles.{role_of, writing_by, written_name}
use Rattle.stage_options.specs.Values.{is_numbered, numbered}

-- the part of a name before its first `#` stays as it is
pub numbered_front : (number : ℕ) (front later : List ℕ) → ((i : ℕ) → i < length front → get_or front i 0 ≢ 35) → numbered (front ++ later) number ≡ front ++ numbered later number
numbered_front number [] later none = refl
numbered_front number (b ∷ bs) later none =
    ap (λ test. (if test then decimal number else b ∷ []) ++ numbered (bs ++ later) number) (ne_eqb b 35 (none 0 (omega arith)))
    ∙ ap (λ more. b ∷ more) (numbered_front number bs later (λ i below. none (suc i) (omega (arith, below))))

-- a name without one stays as it is
pub numbered_none : (number : ℕ) (name : List ℕ) → ((i : ℕ) → i < length name → get_or name i 0 ≢ 35) → numbered name number ≡ name
numbered_none number [] none = refl
numbered_none number (b ∷ bs) none =
    ap (λ test. (if test then decimal number else b ∷ []) ++ numbered bs number) (ne_eqb b 35 (none 0 (omega arith)))
    ∙ ap (λ more. b ∷ more) (numbered_none number bs (λ i below. none (suc i) (omega (arith, below))))

-- the part before the first `#` and the digits are put behind a text, and the part behind it is still to come
pub numbered_step : (number : ℕ) (text rest front back more done whole : List ℕ) → text ++ numbered rest number ≡ whole → rest ≡ front ++ 35 ∷ back
    → ((i : ℕ) → i < length front → get_or front i 0 ≢ 35) → more ≡ text ++ front → done ≡ more ++ decimal number → done ++ numbered back number ≡ whole
numbered_step number text rest front back more done whole same parts none first second =
    ap (λ t. t ++ numbered back number) (second ∙ ap (λ t. t ++ decimal number) first)
    ∙ (append_assoc (text ++ front) (decimal number) (numbered back number) ∙ (append_assoc text front (decimal number ++ numbered back number)
    ∙ (ap (λ t. text ++ t) (sym (ap (λ r. numbered r number) parts ∙ numbered_front number front (35 ∷ back) none)) ∙ same)))

named : (marked : Bool) (name : List ℕ) → is_some (written_name (writing_by marked name)) ≡ true
named true name = refl
named false name = refl

-- just a writer has a name to write, with a `#` or without
pub writers_named : (options : Options) → is_some (written_name (role_of options)) ≡ is_writer (kind_of options)
writers_named (WritersLas o) = named (is_numbered o.filename) o.filename
writers_named (WritersText o) = named (is_numbered o.filename) o.filename
writers_named _ = refl
