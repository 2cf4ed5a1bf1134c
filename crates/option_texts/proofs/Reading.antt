-- Parts that are read one after the other.
use Rattle.std.proofs.Common.{◌≡◌, ℕ, suc, ◌+◌, ◌<◌, ◌==◌, ◌&&◌, Bool, true, false, not, List, [], ◌∷◌, ◌++◌, length, Option, Some, None, option_map, option_and_then, is_some, refl, sym, ap, ◌∙◌, arith, append_assoc, cond}
use Rattle.std.specs.List.{slice_split, onto_first, position_or_len, before_first, after_first, list_all}
use Rattle.std.specs.Str.{IsUtf8}
use Rattle.std.proofs.lemmas.List.Splits.{slice_split_first}
use Rattle.option_texts.specs.Parts.{parts_of, each_read}

-- a text without a comma is one part
whole_with : (p : ℕ → Bool) (b : ℕ) (bs : List ℕ) (is : Bool) → p b ≡ is → (position_or_len p bs ≡ length bs → slice_split p bs ≡ bs ∷ []) → position_or_len p (b ∷ bs) ≡ suc (length bs) → slice_split p (b ∷ bs) ≡ (b ∷ bs) ∷ []
whole_with p b bs true e rest h = absurd (let zero : position_or_len p (b ∷ bs) ≡ 0 = ap (λ v. cond (not v) (1 + position_or_len p bs) 0) e in omega (arith, zero, h))
whole_with p b bs false e rest h =
    let more : position_or_len p (b ∷ bs) ≡ 1 + position_or_len p bs = ap (λ v. cond (not v) (1 + position_or_len p bs) 0) e in
    ap (λ v. cond v ([] ∷ slice_split p bs) (onto_first b (slice_split p bs))) e ∙ ap (onto_first b) (rest (omega (arith, more, h)))

whole_part : (p : ℕ → Bool) (bs : List ℕ) → position_or_len p bs ≡ length bs → slice_split p bs ≡ bs ∷ []
whole_part p [] h = refl
whole_part p (b ∷ bs) h = whole_with p b bs (p b) refl (whole_part p bs) h

pub one_part : (text : List ℕ) → position_or_len (λ b. b == 44) text ≡ length text → parts_of text ≡ text ∷ []
one_part text h = whole_part (λ b. b == 44) text h

pub first_part : (text part behind : List ℕ) → position_or_len (λ b. b == 44) text < length text → part ≡ before_first (λ b. b == 44) text → behind ≡ after_first (λ b. b == 44) text → parts_of text ≡ part ∷ parts_of behind
first_part text part behind h before after =
    slice_split_first (λ b. b == 44) text 0 h ∙ ap (λ x. x ∷ slice_split (λ b. b == 44) (after_first (λ b. b == 44) text)) (sym before) ∙ ap (λ x. part ∷ parts_of x) (sym after)

-- the parts in front of `rest` were read
pub record Read {X : Type 0} (read : List ℕ → Option X) (text : List ℕ) (list : List X) (rest : List ℕ) : Type 0 where
  pub is_text : IsUtf8 rest
  pub so_far : each_read read (parts_of text) ≡ option_map (λ xs. list ++ xs) (each_read read (parts_of rest))

none_first : {X : Type 0} (o : Option (List X)) → o ≡ option_map (λ xs. [] ++ xs) o
none_first None = refl
none_first (Some xs) = refl

pub none_read : {X : Type 0} (read : List ℕ → Option X) (text : List ℕ) (list : List X) → IsUtf8 text → list ≡ [] → Read read text list text
none_read read text list is_text none = record {
  is_text = is_text;
  so_far = none_first (each_read read (parts_of text)) ∙ ap (λ ys. option_map (λ xs. ys ++ xs) (each_read read (parts_of text))) (sym none);
}

behind_first : {X : Type 0} (list : List X) (x : X) (o : Option (List X)) → option_map (λ xs. list ++ xs) (option_map (λ xs. x ∷ xs) o) ≡ option_map (λ xs. (list ++ x ∷ []) ++ xs) o
behind_first list x None = refl
behind_first list x (Some xs) = ap (λ z. Some z) (sym (append_assoc list (x ∷ []) xs))

read_first : {X : Type 0} (read : List ℕ → Option X) (part : List ℕ) (parts : List (List ℕ)) (o : Option X) → read part ≡ o → each_read read (part ∷ parts) ≡ option_and_then (λ x. option_map (λ xs. x ∷ xs) (each_read read parts)) o
read_first read part parts o e = ap (option_and_then (λ x. option_map (λ xs. x ∷ xs) (each_read read parts))) e

pub one_read : {X : Type 0} (read : List ℕ → Option X) (text : List ℕ) (list more : List X) (rest part behind : List ℕ) (x : X) → IsUtf8 behind → parts_of rest ≡ part ∷ parts_of behind → read part ≡ Some x → more ≡ list ++ x ∷ [] → Read read text list rest → Read read text more behind
one_read read text list more rest part behind x is_text cut is grown was = record {
  is_text = is_text;
  so_far = was.so_far ∙ ap (λ ps. option_map (λ xs. list ++ xs) (each_read read ps)) cut
      ∙ ap (option_map (λ xs. list ++ xs)) (read_first read part (parts_of behind) (Some x) is)
      ∙ behind_first list x (each_read read (parts_of behind))
      ∙ ap (λ ys. option_map (λ xs. ys ++ xs) (each_read read (parts_of behind))) (sym grown);
}

pub not_read : {X : Type 0} (read : List ℕ → Option X) (text : List ℕ) (list : List X) (rest part : List ℕ) (parts : List (List ℕ)) → parts_of rest ≡ part ∷ parts → read part ≡ None → Read read text list rest → each_read read (parts_of text) ≡ None
not_read read text list rest part parts cut none was =
    was.so_far ∙ ap (λ ps. option_map (λ xs. list ++ xs) (each_read read ps)) cut ∙ ap (option_map (λ xs. list ++ xs)) (read_first read part parts None none)

pub last_read : {X : Type 0} (read : List ℕ → Option X) (text : List ℕ) (list more : List X) (rest : List ℕ) (x : X) → parts_of rest ≡ rest ∷ [] → read rest ≡ Some x → more ≡ list ++ x ∷ [] → Read read text list rest → each_read read (parts_of text) ≡ Some more
last_read read text list more rest x cut is grown was =
    was.so_far ∙ ap (λ ps. option_map (λ xs. list ++ xs) (each_read read ps)) cut ∙ ap (option_map (λ xs. list ++ xs)) (read_first read rest [] (Some x) is)
    ∙ ap (λ z. Some z) (sym grown)

-- all are read where each one can be
one_and_rest : {X : Type 0} (read : List ℕ → Option X) (o : Option X) (rest : Option (List X)) (b : Bool) → is_some rest ≡ b → is_some (option_and_then (λ x. option_map (λ xs. x ∷ xs) rest) o) ≡ (is_some o && b)
one_and_rest read None rest b e = refl
one_and_rest read (Some x) None b e = e
one_and_rest read (Some x) (Some xs) b e = e

pub each_is_read : {X : Type 0} (read : List ℕ → Option X) (parts : List (List ℕ)) → is_some (each_read read parts) ≡ list_all (λ part. is_some (read part)) parts
each_is_read read [] = refl
each_is_read read (part ∷ parts) = one_and_rest read (read part) (each_read read parts) _ (each_is_read read parts)

-- ---- a part that is read, or not

-- the text was cut at its first comma
abbrev pub IsCut : List ℕ → List ℕ → List ℕ → Type 0
IsCut text part behind = (part ≡ before_first (λ b. b == 44) text) × (behind ≡ after_first (λ b. b == 44) text) × (position_or_len (λ b. b == 44) text < length text)

pub next_read : {X : Type 0} (read : List ℕ → Option X) (text : List ℕ) (list more : List X) (rest part behind : List ℕ) (x : X) → IsUtf8 behind → IsCut rest part behind → read part ≡ Some x
    → more ≡ list ++ x ∷ [] → Read read text list rest → Read read text more behind
next_read read text list more rest part behind x is_text (before, after, within) is grown was =
    one_read read text list more rest part behind x is_text (first_part rest part behind within before after) is grown was

pub next_refused : {X : Type 0} (read : List ℕ → Option X) (text : List ℕ) (list : List X) (rest part behind : List ℕ) → IsCut rest part behind → read part ≡ None
    → Read read text list rest → each_read read (parts_of text) ≡ None
next_refused read text list rest part behind (before, after, within) none was =
    not_read read text list rest part (parts_of behind) (first_part rest part behind within before after) none was

pub all_read : {X : Type 0} (read : List ℕ → Option X) (text : List ℕ) (list more : List X) (rest : List ℕ) (x : X) → position_or_len (λ b. b == 44) rest ≡ length rest → read rest ≡ Some x
    → more ≡ list ++ x ∷ [] → Read read text list rest → each_read read (parts_of text) ≡ Some more
all_read read text list more rest x whole is grown was = last_read read text list more rest x (one_part rest whole) is grown was

pub last_refused : {X : Type 0} (read : List ℕ → Option X) (text : List ℕ) (list : List X) (rest : List ℕ) → position_or_len (λ b. b == 44) rest ≡ length rest → read rest ≡ None
    → Read read text list rest → each_read read (parts_of text) ≡ None
last_refused read text list rest whole none was = not_read read text list rest rest [] (one_part rest whole) none was
