-- Options, and what was given of them.
use Rattle.std.proofs.Common.{◌≡◌, ◌≢◌, ◌∙◌, List, [], ◌∷◌, Bool, true, not, All, ap, refl, sym, true≢false, bytes_eq}
use Rattle.std.specs.List.{AllByRecursion}
use Rattle.std.proofs.lemmas.List.Elements.{All-from_recursion, recursion_from_All}
use Rattle.command_words.specs.Options.{Choice, number, whole, stop, word_of, name_of, put, options_with}
use Rattle.command_words.specs.Machine.{nothing_given, is_free, with_number, with_whole, with_first, filled}
use Rattle.command_words.specs.declared.options.GivenOptions.{GivenOptions}
use Rattle.command_words.specs.declared.options.Setting.TheVariants.{Chunk, Queue, Workers, Patience}

abbrev pub with_choice : Choice → GivenOptions → GivenOptions
with_choice (number s n) g = with_number s n g
with_choice whole g = with_whole g
with_choice stop g = with_first g

abbrev pub is_new : Choice → GivenOptions → Bool
is_new (number s n) g = is_free s g
is_new whole g = not g.whole
is_new stop g = not g.stop_first

-- what these options give
abbrev pub given_by : List Choice → GivenOptions
given_by [] = nothing_given
given_by (c ∷ cs) = with_choice c (given_by cs)

filled_with : (c : Choice) (g : GivenOptions) → filled (with_choice c g) ≡ put c (filled g)
filled_with (number Chunk n) g = refl
filled_with (number Queue n) g = refl
filled_with (number Workers n) g = refl
filled_with (number Patience n) g = refl
filled_with whole g = refl
filled_with stop g = refl

pub filled_is : (cs : List Choice) → filled (given_by cs) ≡ options_with cs
filled_is [] = refl
filled_is (c ∷ cs) = filled_with c (given_by cs) ∙ ap (put c) (filled_is cs)

-- an option of another name stays as new as it was
still_new : (p c : Choice) (g : GivenOptions) → word_of p ≢ word_of c → is_new c (with_choice p g) ≡ is_new c g
still_new (number Chunk n) (number Chunk m) g h = absurd (h refl)
still_new (number Queue n) (number Queue m) g h = absurd (h refl)
still_new (number Workers n) (number Workers m) g h = absurd (h refl)
still_new (number Patience n) (number Patience m) g h = absurd (h refl)
still_new whole whole g h = absurd (h refl)
still_new stop stop g h = absurd (h refl)
still_new whole (number Chunk m) g h = refl
still_new whole (number Queue m) g h = refl
still_new whole (number Workers m) g h = refl
still_new whole (number Patience m) g h = refl
still_new stop (number Chunk m) g h = refl
still_new stop (number Queue m) g h = refl
still_new stop (number Workers m) g h = refl
still_new stop (number Patience m) g h = refl
still_new _ _ g h = refl

-- what is new has another name
other_name : (p c : Choice) (g : GivenOptions) → is_new c (with_choice p g) ≡ true → (word_of p ≢ word_of c) × (is_new c g ≡ true)
other_name (number Chunk n) (number Chunk m) g h = absurd (true≢false (sym h))
other_name (number Queue n) (number Queue m) g h = absurd (true≢false (sym h))
other_name (number Workers n) (number Workers m) g h = absurd (true≢false (sym h))
other_name (number Patience n) (number Patience m) g h = absurd (true≢false (sym h))
other_name whole whole g h = absurd (true≢false (sym h))
other_name stop stop g h = absurd (true≢false (sym h))
other_name whole (number Chunk m) g h = (λ e. true≢false (sym (ap (λ w. bytes_eq w (name_of Chunk)) e)), h)
other_name whole (number Queue m) g h = (λ e. true≢false (sym (ap (λ w. bytes_eq w (name_of Queue)) e)), h)
other_name whole (number Workers m) g h = (λ e. true≢false (sym (ap (λ w. bytes_eq w (name_of Workers)) e)), h)
other_name whole (number Patience m) g h = (λ e. true≢false (sym (ap (λ w. bytes_eq w (name_of Patience)) e)), h)
other_name stop (number Chunk m) g h = (λ e. true≢false (sym (ap (λ w. bytes_eq w (name_of Chunk)) e)), h)
other_name stop (number Queue m) g h = (λ e. true≢false (sym (ap (λ w. bytes_eq w (name_of Queue)) e)), h)
other_name stop (number Workers m) g h = (λ e. true≢false (sym (ap (λ w. bytes_eq w (name_of Workers)) e)), h)
other_name stop (number Patience m) g h = (λ e. true≢false (sym (ap (λ w. bytes_eq w (name_of Patience)) e)), h)
other_name p c g h = (λ e. true≢false (sym (ap (λ w. bytes_eq w (word_of c)) e)), h)

abbrev IsUnlike : Choice → Choice → Type 0
IsUnlike c earlier = word_of earlier ≢ word_of c

new_from : (cs : List Choice) (c : Choice) → AllByRecursion (IsUnlike c) cs → is_new c (given_by cs) ≡ true
new_from [] (number Chunk n) h = refl
new_from [] (number Queue n) h = refl
new_from [] (number Workers n) h = refl
new_from [] (number Patience n) h = refl
new_from [] whole h = refl
new_from [] stop h = refl
new_from (p ∷ cs) c h = still_new p c (given_by cs) h.0 ∙ new_from cs c h.1

unlike_from : (cs : List Choice) (c : Choice) → is_new c (given_by cs) ≡ true → AllByRecursion (IsUnlike c) cs
unlike_from [] c h = tt
unlike_from (p ∷ cs) c h = let o = other_name p c (given_by cs) h in (o.0, unlike_from cs c o.1)

-- an option whose name doesn't stand among these is new
pub is_new_behind : (cs : List Choice) (c : Choice) → All (λ earlier. word_of earlier ≢ word_of c) cs → is_new c (given_by cs) ≡ true
is_new_behind cs c h = new_from cs c (recursion_from_All (IsUnlike c) cs h)

pub is_unlike : (cs : List Choice) (c : Choice) → is_new c (given_by cs) ≡ true → All (λ earlier. word_of earlier ≢ word_of c) cs
is_unlike cs c h = All-from_recursion (IsUnlike c) cs (unlike_from cs c h)
