-- The least name among keys that ascend.
use Rattle.std.proofs.Common.{◌≡◌, refl, ap, sym, ℕ, List, [], ◌∷◌, find, cond, Bool, true, false, Some, option_map, String, Global, Ordering, Less, Equal, Greater, string_bytes, string_cmp, nat_cmp}
use Rattle.std.specs.Cmp.Lexicographic.{slice_cmp}
use Rattle.std.specs.List.{AllByRecursion, filter}
use Rattle.std.specs.List.Sorted.{IsStrictlySortedBy}
use Rattle.std.specs.Map.{keys_of}
use Rattle.std.proofs.lemmas.Map.Keys.{sorted_head, sorted_tail}
use Rattle.std.specs.Ordering.{match_ordering}
use Rattle.serde_json.specs.View.{members_view}
use Rattle.serde_json.specs.declared.value.Value.{Value}
use Rattle.stage_typing.specs.OptionFaults.{names_of, lesser, least}

-- what holds of a name and of others holds of the least of them
kept : (P : List ℕ → Type 0) (name : List ℕ) (names : List (List ℕ)) → P name → AllByRecursion P names → P (lesser name (least names))
kept P name [] h a = h
kept P name (n ∷ ns) h a = go (slice_cmp nat_cmp name (lesser n (least ns))) (kept P n ns a.0 a.1)
  where
    go : (o : Ordering) → P (lesser n (least ns)) → P (match_ordering o name name (lesser n (least ns)))
    go Less other = h
    go Equal other = h
    go Greater other = other

-- a name below all others is the least
stays : (name : List ℕ) (names : List (List ℕ)) → AllByRecursion (λ n. slice_cmp nat_cmp name n ≡ Less) names → lesser name (least names) ≡ name
stays name [] a = refl
stays name (n ∷ ns) a = ap (λ o. match_ordering o name name (lesser n (least ns))) (kept (λ x. slice_cmp nat_cmp name x ≡ Less) n ns a.0 a.1)

above : (p : List ℕ → Bool) (k : String Global) (es : List (String Global × Value)) → AllByRecursion (λ y. string_cmp k y ≡ Less) (keys_of es)
    → AllByRecursion (λ n. slice_cmp nat_cmp (string_bytes k) n ≡ Less) (filter p (names_of (members_view es)))
above p k [] a = a
above p k (e ∷ es) a = go (p (string_bytes e.0)) (above p k es a.1)
  where
    go : (b : Bool) → AllByRecursion (λ n. slice_cmp nat_cmp (string_bytes k) n ≡ Less) (filter p (names_of (members_view es)))
        → AllByRecursion (λ n. slice_cmp nat_cmp (string_bytes k) n ≡ Less) (cond b (string_bytes e.0 ∷ filter p (names_of (members_view es))) (filter p (names_of (members_view es))))
    go true h = (a.0, h)
    go false h = h

-- the first of the keys is the least
pub find-least : (p : List ℕ → Bool) (es : List (String Global × Value)) → IsStrictlySortedBy string_cmp (keys_of es)
    → option_map string_bytes (find (λ k. p (string_bytes k)) (keys_of es)) ≡ least (filter p (names_of (members_view es)))
find-least p [] s = refl
find-least p (e ∷ es) s = go (p (string_bytes e.0)) (find-least p es (sorted_tail string_cmp e.0 (keys_of es) s))
  where
    go : (b : Bool) → option_map string_bytes (find (λ k. p (string_bytes k)) (keys_of es)) ≡ least (filter p (names_of (members_view es)))
        → option_map string_bytes (cond b (Some e.0) (find (λ k. p (string_bytes k)) (keys_of es)))
        ≡ least (cond b (string_bytes e.0 ∷ filter p (names_of (members_view es))) (filter p (names_of (members_view es))))
    go true h = ap Some (sym (stays (string_bytes e.0) (filter p (names_of (members_view es))) (above p e.0 es (sorted_head string_cmp e.0 (keys_of es) s))))
    go false h = h
