-- What is left once the spaces at the ends of a text are cut off.
use Rattle.std.proofs.Common.{◌≡◌, ℕ, ◌-◌, ◌<◌, Bool, true, false, List, [], ◌∷◌, ◌++◌, length, take, drop, reverse, Option, Some, None, IfSome, refl, sym, ap, ◌∙◌, arith, rules, if◌then◌else◌}
use Rattle.std.specs.Char.{IsScalar, char_set_contains}
use Rattle.std.specs.Str.Pattern.{FindsPrefixBy, FindsSuffixBy, CutsPrefixes, CutsSuffixes, IsFullyTrimmed, IsTrimStartMatches, IsTrimEndMatches}
use Rattle.std.proofs.lemmas.Str.{encode_ascii, len_utf8_ascii}
use Rattle.std.proofs.lemmas.List.{reverse-append, reverse-reverse, take-append-drop, drop_all}
use Rattle.std.proofs.Math.Utf8.{encode}
use Rattle.std.proofs.lemmas.Bool.Decides.{nat_tests}
use Rattle.option_texts.specs.Parts.{skip_spaces}
use Rattle.text_bytes.specs.Bytes.{is_space}

-- a space, a tab, a line feed and a carriage return
abbrev pub spaces : List ℕ
spaces = 32 ∷ 9 ∷ 10 ∷ 13 ∷ []

pub space_is : (b : ℕ) → char_set_contains spaces b ≡ is_space b
space_is b = grind (arith, nat_tests)

space_is_ascii : (c : ℕ) → is_space c ≡ true → c < 128
space_is_ascii c h = grind arith

is_scalar : (c : ℕ) → c < 128 → IsScalar c
is_scalar c h = search rules

skip_one : (c : ℕ) (bs : List ℕ) → is_space c ≡ true → skip_spaces (c ∷ bs) ≡ skip_spaces bs
skip_one c bs h = ap (λ b. if b then skip_spaces bs else c ∷ bs) h

skip_none : (c : ℕ) (bs : List ℕ) → is_space c ≡ false → skip_spaces (c ∷ bs) ≡ c ∷ bs
skip_none c bs h = ap (λ b. if b then skip_spaces bs else c ∷ bs) h

cut_front : (n : ℕ) (m : List ℕ) → FindsPrefixBy is_space m (Some n) → skip_spaces m ≡ skip_spaces (drop n m)
cut_front n m (c, passes, at) =
    let e : m ≡ c ∷ drop n m = at.split ∙ ap (λ xs. xs ++ drop n m) (encode_ascii c (space_is_ascii c passes)) in
    ap skip_spaces e ∙ skip_one c (drop n m) passes

cuts_front : (R : List ℕ → Option ℕ → Type 0) → ((m : List ℕ) (o : Option ℕ) → R m o → FindsPrefixBy is_space m o) → (ns s r : List ℕ) → CutsPrefixes R s ns r → skip_spaces s ≡ skip_spaces r
cuts_front R gives [] s r e = ap skip_spaces (sym e)
cuts_front R gives (n ∷ ns) s r (m, cuts, found, is) = cuts_front R gives ns s m cuts ∙ cut_front n m (gives m (Some n) found) ∙ ap skip_spaces (sym is)

front_at : (b : ℕ) (bs : List ℕ) (space : Bool) → is_space b ≡ space → (o : Option ℕ) → FindsPrefixBy is_space (b ∷ bs) o → IfSome o (λ n. n ≡ 0) → skip_spaces (b ∷ bs) ≡ b ∷ bs
front_at b bs false h o found none = skip_none b bs h
front_at b bs true h None found none =
    let low = space_is_ascii b h in
    let no : is_space b ≡ false = found b bs (is_scalar b low) (ap (λ xs. xs ++ bs) (sym (encode_ascii b low))) in
    absurd (let e : true ≡ false = sym h ∙ no in cc)
front_at b bs true h (Some n) (c, passes, at) none =
    absurd (let one = len_utf8_ascii c (space_is_ascii c passes) in omega (arith, at.ends, one, none))

front_done : (R : List ℕ → Option ℕ → Type 0) → ((m : List ℕ) (o : Option ℕ) → R m o → FindsPrefixBy is_space m o) → (r : List ℕ) → IsFullyTrimmed R r → skip_spaces r ≡ r
front_done R gives [] h = refl
front_done R gives (b ∷ bs) (o, found, none) = front_at b bs (is_space b) refl o (gives (b ∷ bs) o found) none

pub front_is : (R : List ℕ → Option ℕ → Type 0) → ((m : List ℕ) (o : Option ℕ) → R m o → FindsPrefixBy is_space m o) → (s r : List ℕ) → IsTrimStartMatches R s r → skip_spaces s ≡ r
front_is R gives s r ((ns, cuts), done) = cuts_front R gives ns s r cuts ∙ front_done R gives r done

-- ---- the end

cut_back : (n : ℕ) (m : List ℕ) → FindsSuffixBy is_space m (Some n) → skip_spaces (reverse m) ≡ skip_spaces (reverse (take (length m - n) m))
cut_back n m (c, passes, at) =
    let front = take (length m - n) m in
    let last : drop (length m - n) m ≡ c ∷ [] = at.split ∙ ap (λ xs. xs ++ drop (length m) m) (encode_ascii c (space_is_ascii c passes)) ∙ ap (λ xs. c ∷ xs) (drop_all (length m) m (omega arith)) in
    let e : m ≡ front ++ c ∷ [] = sym (take-append-drop (length m - n) m) ∙ ap (λ xs. front ++ xs) last in
    ap (λ xs. skip_spaces (reverse xs)) e ∙ ap skip_spaces (reverse-append front (c ∷ [])) ∙ skip_one c (reverse front) passes

cuts_back : (R : List ℕ → Option ℕ → Type 0) → ((m : List ℕ) (o : Option ℕ) → R m o → FindsSuffixBy is_space m o) → (ns s r : List ℕ) → CutsSuffixes R s ns r → skip_spaces (reverse s) ≡ skip_spaces (reverse r)
cuts_back R gives [] s r e = ap (λ xs. skip_spaces (reverse xs)) (sym e)
cuts_back R gives (n ∷ ns) s r (m, cuts, found, is) = cuts_back R gives ns s m cuts ∙ cut_back n m (gives m (Some n) found) ∙ ap (λ xs. skip_spaces (reverse xs)) (sym is)

back_at : (r : List ℕ) (b : ℕ) (bs : List ℕ) → reverse r ≡ b ∷ bs → (space : Bool) → is_space b ≡ space → (o : Option ℕ) → FindsSuffixBy is_space r o → IfSome o (λ n. n ≡ 0) → skip_spaces (b ∷ bs) ≡ b ∷ bs
back_at r b bs e false h o found none = skip_none b bs h
back_at r b bs e true h None found none =
    let low = space_is_ascii b h in
    let is : r ≡ reverse bs ++ encode b =
    sym (reverse-reverse r) ∙ ap reverse e ∙ reverse-append (b ∷ []) bs ∙ ap (λ xs. reverse bs ++ xs) (sym (encode_ascii b low)) in
    let no : is_space b ≡ false = found b (reverse bs) (is_scalar b low) is in
    absurd (let w : true ≡ false = sym h ∙ no in cc)
back_at r b bs e true h (Some n) (c, passes, at) none =
    absurd (let one = len_utf8_ascii c (space_is_ascii c passes) in omega (arith, at.ends, one, none))

back_all : (r back : List ℕ) → reverse r ≡ back → (o : Option ℕ) → FindsSuffixBy is_space r o → IfSome o (λ n. n ≡ 0) → skip_spaces back ≡ back
back_all r [] e o found none = refl
back_all r (b ∷ bs) e o found none = back_at r b bs e (is_space b) refl o found none

pub back_is : (R : List ℕ → Option ℕ → Type 0) → ((m : List ℕ) (o : Option ℕ) → R m o → FindsSuffixBy is_space m o) → (s r : List ℕ) → IsTrimEndMatches R s r → reverse (skip_spaces (reverse s)) ≡ r
back_is R gives s r ((ns, cuts), (o, found, none)) =
    ap reverse (cuts_back R gives ns s r cuts ∙ back_all r (reverse r) refl o (gives r o found) none) ∙ reverse-reverse r
