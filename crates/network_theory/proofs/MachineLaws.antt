-- Laws of a work on a flow.
use Rattle.std.proofs.Common.{◌≡◌, ◌≤◌, true, List, [], ◌∷◌, ◌++◌, length, map, Option, Some, None, is_some, refl, ap, sym, ◌∙◌, append_assoc, arith}
use Rattle.std.proofs.lemmas.List.{append-nil}
use Rattle.cloud_points.specs.Meaning.{Meaning, KeepsCutting}
use Rattle.cloud_points.specs.Marks.{Mark, At}
use Rattle.network_theory.specs.Machine.{Machine, next, gives, after_all, output}

pub after_all-append : {S P F : Type 0} (m : Meaning S P F) (c : Machine S F) (xs ys : List (Mark P)) → after_all m c (xs ++ ys) ≡ after_all m (after_all m c xs) ys
after_all-append m c [] ys = refl
after_all-append m c (x ∷ xs) ys = after_all-append m (next m c x) xs ys

pub output-append : {S P F : Type 0} (m : Meaning S P F) (c : Machine S F) (xs ys : List (Mark P)) → output m c (xs ++ ys) ≡ output m c xs ++ output m (after_all m c xs) ys
output-append m c [] ys = refl
output-append m c (x ∷ xs) ys = ap (λ r. gives m c x ++ r) (output-append m (next m c x) xs ys) ∙ sym (append_assoc (gives m c x) (output m (next m c x) xs) (output m (after_all m (next m c x) xs) ys))

-- a faulted node drops points
next-faulted : {S P F : Type 0} (m : Meaning S P F) (c : Machine S F) (p : P) → is_some c.fault ≡ true → next m c (At p) ≡ c
next-faulted m c p h = rw h

gives-faulted : {S P F : Type 0} (m : Meaning S P F) (c : Machine S F) (p : P) → is_some c.fault ≡ true → gives m c (At p) ≡ []
gives-faulted m c p h = rw h

pub after-faulted : {S P F : Type 0} (m : Meaning S P F) (c : Machine S F) (ps : List P) → is_some c.fault ≡ true → after_all m c (map At ps) ≡ c
after-faulted m c [] h = refl
after-faulted m c (p ∷ ps) h = ap (λ d. after_all m d (map At ps)) (next-faulted m c p h) ∙ after-faulted m c ps h

pub output-faulted : {S P F : Type 0} (m : Meaning S P F) (c : Machine S F) (ps : List P) → is_some c.fault ≡ true → output m c (map At ps) ≡ []
output-faulted m c [] h = refl
output-faulted m c (p ∷ ps) h = rw (gives-faulted m c p h) (ap (λ d. output m d (map At ps)) (next-faulted m c p h) ∙ output-faulted m c ps h)

-- the machine after a chunk
abbrev pub chunked : {S P F : Type 0} → Meaning S P F → Machine S F → List P → Machine S F
chunked m c ps = record c { state = m.after c.state ps; fault = m.fault c.state ps }

next-sound : {S P F : Type 0} (m : Meaning S P F) (c : Machine S F) (p : P) → c.fault ≡ None → next m c (At p) ≡ chunked m c (p ∷ [])
next-sound m c p h = rw h

gives-sound : {S P F : Type 0} (m : Meaning S P F) (c : Machine S F) (p : P) → c.fault ≡ None → gives m c (At p) ≡ map At (m.emit c.state (p ∷ []))
gives-sound m c p h = rw h

same_machine : {S F : Type 0} (c : Machine S F) (s t : S) (f g : Option F) → s ≡ t → f ≡ g → record c { state = s; fault = f } ≡ record c { state = t; fault = g }
same_machine c s t f g e h = ap (λ x. record c { state = x; fault = f }) e ∙ ap (λ x. record c { state = t; fault = x }) h

map-append : {A B : Type 0} (f : A → B) (xs ys : List A) → map f (xs ++ ys) ≡ map f xs ++ map f ys
map-append f [] ys = refl
map-append f (x ∷ xs) ys = ap (λ r. f x ∷ r) (map-append f xs ys)

no_points : {P : Type 0} (xs : List P) → length xs ≤ 0 → xs ≡ []
no_points [] h = refl
no_points (x ∷ xs) h = absurd (omega arith)

-- the first point, by its fault; `rest` is what is known of the points after it
after-first : {S P F : Type 0} (m : Meaning S P F) (law : KeepsCutting m) (c : Machine S F) (p : P) (ps : List P) (rest : (d : Machine S F) → d.fault ≡ None → after_all m d (map At ps) ≡ chunked m d ps) (f : Option F) → m.fault c.state (p ∷ []) ≡ f → after_all m (chunked m c (p ∷ [])) (map At ps) ≡ chunked m c (p ∷ ps)
after-first m law c p ps rest None e = rest (chunked m c (p ∷ [])) e ∙ same_machine c _ _ _ _ (sym (law.goes_on c.state (p ∷ []) ps e)) (sym (law.finds c.state (p ∷ []) ps e))
after-first m law c p ps rest (Some f) e = after-faulted m (chunked m c (p ∷ [])) ps (ap is_some e) ∙ same_machine c _ _ _ _ (sym (law.stops_after c.state (p ∷ []) ps (λ z. cc))) (sym (law.stops_fault c.state (p ∷ []) ps (λ z. cc)))

-- a chunk is its points one by one
pub after-chunk : {S P F : Type 0} (m : Meaning S P F) (law : KeepsCutting m) (c : Machine S F) (ps : List P) → c.fault ≡ None → after_all m c (map At ps) ≡ chunked m c ps
after-chunk m law c [] h = same_machine c c.state (m.after c.state []) c.fault (m.fault c.state []) (sym (law.rests c.state)) (h ∙ sym (law.is_sound c.state))
after-chunk m law c (p ∷ ps) h = ap (λ d. after_all m d (map At ps)) (next-sound m c p h) ∙ after-first m law c p ps (λ d. after-chunk m law d ps) (m.fault c.state (p ∷ [])) refl

output-first : {S P F : Type 0} (m : Meaning S P F) (law : KeepsCutting m) (c : Machine S F) (p : P) (ps : List P) (rest : (d : Machine S F) → d.fault ≡ None → output m d (map At ps) ≡ map At (m.emit d.state ps)) (f : Option F) → m.fault c.state (p ∷ []) ≡ f → map At (m.emit c.state (p ∷ [])) ++ output m (chunked m c (p ∷ [])) (map At ps) ≡ map At (m.emit c.state (p ∷ ps))
output-first m law c p ps rest None e = rw (rest (chunked m c (p ∷ [])) e) (sym (map-append At (m.emit c.state (p ∷ [])) _) ∙ ap (map At) (sym (law.emits c.state (p ∷ []) ps e)))
output-first m law c p ps rest (Some f) e = rw (output-faulted m (chunked m c (p ∷ [])) ps (ap is_some e)) (append-nil _ ∙ ap (map At) (sym (law.stops_emit c.state (p ∷ []) ps (λ z. cc))))

pub output-chunk : {S P F : Type 0} (m : Meaning S P F) (law : KeepsCutting m) (c : Machine S F) (ps : List P) → c.fault ≡ None → output m c (map At ps) ≡ map At (m.emit c.state ps)
output-chunk m law c [] h = rw (no_points (m.emit c.state []) (law.no_longer c.state []))
output-chunk m law c (p ∷ ps) h = rw (gives-sound m c p h) (ap (λ d. map At (m.emit c.state (p ∷ [])) ++ output m d (map At ps)) (next-sound m c p h) ∙ output-first m law c p ps (λ d. output-chunk m law d ps) (m.fault c.state (p ∷ [])) refl)
