-- The steps of a file that is read to its end.
use Rattle.std.proofs.Common.{◌≡◌, ℕ, ◌+◌, ◌-◌, ◌<◌, ◌≤◌, min, ltb, nat_lt, if◌then◌else◌, Bool, List, [], ◌∷◌, ◌++◌, length, take, drop, Option, Some, None, true, false, refl, subst, inl, inr, ap, sym, ◌∙◌, arith, drop-drop}
use Rattle.std.specs.List.{All}
use Rattle.std.proofs.lemmas.Bool.{cases_lt, cond-true, cond-false, lt-ltb, le-ltb, ltb-true}
use Rattle.std.proofs.lemmas.List.{length-take, length-drop, take_min, take-append-drop, drop_all}
use Rattle.std.proofs.lemmas.List.Elements.{All-nil, All-cons, All-head, All-tail}
use Rattle.std.proofs.lemmas.List.Concat.{flat_map-cons}
use Rattle.cloud_points.specs.declared.point.Point.{Point}
use Rattle.cloud_points.specs.declared.faults.Make.{Make}
use Rattle.cloud_points.specs.declared.faults.Make.TheVariants.{Points, EndView}
use Rattle.cloud_points.specs.declared.faults.PointFault.{PointFault}
use Rattle.las_reader.specs.declared.reader.Progress.{Progress}
use Rattle.las_reader.specs.declared.reader.Progress.TheVariants.{Records, ViewEnded, Ended}
use Rattle.las_reader.specs.Files.{las_with}
use Rattle.las_reader.specs.Following.{IsChunk, AreSteps, IsEnd, EndAtLast, ComeToTheEnd, GivesPoints, points_given, ending, StepsGiveFile, StepsComeToTheEnd, StepsStayWithin}
use Rattle.las_reader.specs.Reading.{Step, IsStep, IsWithin, step_of, step_behind, gives, ends, view_ends}

same_step : (step s : Step) → IsStep step s.made s.points s.progress → s ≡ step
same_step step s p = λ i. record { made = p.made_is i; points = p.points_are i; progress = p.progress_is i }

-- behind a step that isn't the end others follow, and behind the end none
end_later : (s : Step) (ss : List Step) → ¬ IsEnd s.made → EndAtLast (s ∷ ss) → EndAtLast ss
end_later s [] other e = absurd (other e)
end_later s (r ∷ rs) other e = e.1

end_here : (s : Step) (ss : List Step) → IsEnd s.made → EndAtLast (s ∷ ss) → ss ≡ []
end_here s [] here e = refl
end_here s (r ∷ rs) here e = absurd (e.0 here)

-- the two kinds of step among the records
module _ (points : List Point) (fault : Option PointFault) (given chunk : ℕ) where
  more_step : given < length points → step_of points fault (Records given) chunk ≡ gives given (take chunk (drop given points))
  more_step l = cond-true (ltb given (length points)) _ _ (lt-ltb given (length points) l)

  last_step : length points ≤ given → step_of points fault (Records given) chunk ≡ step_behind fault
  last_step l = cond-false (ltb given (length points)) _ _ (le-ltb given (length points) l)

  size : ℕ
  size = length (take chunk (drop given points))

  sized : size ≡ min chunk (length points - given)
  unfolding size
  sized = length-take chunk (drop given points) ∙ ap (min chunk) (length-drop given points)

  -- a chunk of points, and what is behind it
  chunked : take chunk (drop given points) ++ drop (given + size) points ≡ drop given points
  unfolding size
  chunked =
      let first : take chunk (drop given points) ≡ take (length (take chunk (drop given points))) (drop given points) =
      sym (take_min chunk (drop given points)) ∙ ap (λ n. take n (drop given points)) (sym (length-take chunk (drop given points))) in
      ap (λ l. l ++ drop (given + length (take chunk (drop given points))) points) first
      ∙ ap (λ l. take (length (take chunk (drop given points))) (drop given points) ++ l) (sym (drop-drop (length (take chunk (drop given points))) given points))
      ∙ take-append-drop (length (take chunk (drop given points))) (drop given points)

  pub record Gives (s : Step) : Type 0 where
    made : s.made ≡ Points
    points_are : s.points ≡ take chunk (drop given points)
    progress : s.progress ≡ Records (given + size)
    some : 0 < size
    holds : 0 < length s.points
    within : given + size ≤ length points
    behind : take chunk (drop given points) ++ drop (given + size) points ≡ drop given points

  gives_more : (s : Step) → IsChunk chunk → given < length points → IsStep (step_of points fault (Records given) chunk) s.made s.points s.progress → Gives s
  unfolding size
  gives_more s is l p =
      let q = subst (λ z. IsStep z s.made s.points s.progress) (more_step l) p in
      let n = sized in
      let low = is.0 in
      let some : 0 < length (take chunk (drop given points)) = omega arith in
      record {
        made = q.made_is;
        points_are = q.points_are;
        progress = q.progress_is;
        some = some;
        holds = subst (λ (l : List Point). 0 < length l) (sym q.points_are) some;
        within = omega arith;
        behind = chunked;
      }

not_end : (made : Make) → made ≡ Points → ¬ IsEnd made
not_end made is e = let no : IsEnd Points = subst IsEnd is e in no

-- steps from a place on
record FromPlace (points : List Point) (fault : Option PointFault) (given : ℕ) (steps : List Step) : Type 0 where
  giving : List Step
  steps_are : steps ≡ giving ++ ending fault
  give : All GivesPoints giving
  points_are : points_given giving ≡ drop given points

after_view : (points : List Point) (fault : Option PointFault) (chunks : List ℕ) (steps : List Step) → AreSteps points fault ViewEnded chunks steps → EndAtLast steps → steps ≡ ends false None ∷ []
after_view points fault [] [] a e = absurd e
after_view points fault [] (s ∷ ss) a e = absurd a
after_view points fault (c ∷ cs) [] a e = absurd a
after_view points fault (c ∷ cs) (s ∷ ss) a e =
    let is : s ≡ ends false None = same_step (ends false None) s a.0 in
    let here : IsEnd s.made = subst (λ (z : Step). IsEnd z.made) (sym is) tt in
    (λ i. is i ∷ end_here s ss here e i)

-- behind all points come the steps of the ending
last_steps : (points : List Point) (fault : Option PointFault) (chunks : List ℕ) (s : Step) (ss : List Step) → IsStep (step_behind fault) s.made s.points s.progress
    → AreSteps points fault s.progress chunks ss → EndAtLast (s ∷ ss) → s ∷ ss ≡ ending fault
last_steps points (Some f) chunks s ss p a e =
    let is : s ≡ ends true (Some f) = same_step (ends true (Some f)) s p in
    let here : IsEnd s.made = subst (λ (z : Step). IsEnd z.made) (sym is) tt in
    (λ i. is i ∷ end_here s ss here e i)
last_steps points None chunks s ss p a e =
    let is : s ≡ view_ends = same_step view_ends s p in
    let other : ¬ IsEnd s.made = λ h. (let no : IsEnd EndView = subst IsEnd p.made_is h in no) in
    let next = subst (λ (p : Progress). AreSteps points None p chunks ss) p.progress_is a in
    let last = after_view points None chunks ss next (end_later s ss other e) in
    (λ i. is i ∷ last i)

follow : (points : List Point) (fault : Option PointFault) (chunks : List ℕ) (steps : List Step) (given : ℕ) → given ≤ length points → All IsChunk chunks
    → AreSteps points fault (Records given) chunks steps → EndAtLast steps → FromPlace points fault given steps
follow points fault [] [] given within all a e = absurd e
follow points fault [] (s ∷ ss) given within all a e = absurd a
follow points fault (c ∷ cs) [] given within all a e = absurd a
follow points fault (c ∷ cs) (s ∷ ss) given within all a e = elim (cases_lt given (length points)) [
  | inl l ↦
      let g = gives_more points fault given c s (All-head IsChunk c cs all) l a.0 in
      let next = subst (λ (p : Progress). AreSteps points fault p cs ss) g.progress a.1 in
      let f = follow points fault cs ss (given + size points fault given c) g.within (All-tail IsChunk c cs all) next (end_later s ss (not_end s.made g.made) e) in
      record {
        giving = s ∷ f.giving;
        steps_are = ap (λ l. s ∷ l) f.steps_are;
        give = All-cons GivesPoints s f.giving (record { made = g.made; some = g.holds }) f.give;
        points_are = flat_map-cons (λ (step : Step). step.points) s f.giving ∙ (λ i. g.points_are i ++ f.points_are i) ∙ g.behind;
      }
  | inr l ↦ record {
    giving = [];
    steps_are = last_steps points fault cs s ss (subst (λ z. IsStep z s.made s.points s.progress) (last_step points fault given c l) a.0) a.1 e;
    give = All-nil GivesPoints;
    points_are = sym (drop_all given points l);
  }
]

-- behind all points two calls come to the end
soon_ended : (points : List Point) (fault : Option PointFault) (chunks : List ℕ) (s : Step) (ss : List Step) → IsStep (step_behind fault) s.made s.points s.progress
    → AreSteps points fault s.progress chunks ss → 1 ≤ length chunks → ComeToTheEnd (s ∷ ss)
soon_ended points (Some f) chunks s ss p a some = inl (subst (λ (z : Step). IsEnd z.made) (sym (same_step (ends true (Some f)) s p)) tt)
soon_ended points None chunks s ss p a some = inr (second chunks ss (subst (λ (p : Progress). AreSteps points None p chunks ss) p.progress_is a) some)
  where
    second : (cs : List ℕ) (ss : List Step) → AreSteps points None ViewEnded cs ss → 1 ≤ length cs → ComeToTheEnd ss
    second [] ss a some = absurd (omega arith)
    second (d ∷ ds) [] a some = absurd a
    second (d ∷ ds) (r ∷ rs) a some = inl (subst (λ (z : Step). IsEnd z.made) (sym (same_step (ends false None) r a.0)) tt)

-- and so many calls come to the end
ended : (points : List Point) (fault : Option PointFault) (chunks : List ℕ) (steps : List Step) (given : ℕ) → given ≤ length points → All IsChunk chunks
    → AreSteps points fault (Records given) chunks steps → length points - given + 2 ≤ length chunks → ComeToTheEnd steps
ended points fault [] steps given within all a many = absurd (omega arith)
ended points fault (c ∷ cs) [] given within all a many = absurd a
ended points fault (c ∷ cs) (s ∷ ss) given within all a many = elim (cases_lt given (length points)) [
  | inl l ↦
      let g = gives_more points fault given c s (All-head IsChunk c cs all) l a.0 in
      let next = subst (λ (p : Progress). AreSteps points fault p cs ss) g.progress a.1 in
      let some = g.some in
      inr (ended points fault cs ss (given + size points fault given c) g.within (All-tail IsChunk c cs all) next (omega arith))
  | inr l ↦ soon_ended points fault cs s ss (subst (λ z. IsStep z s.made s.points s.progress) (last_step points fault given c l) a.0) a.1 (omega arith)
]

pub steps_give_file : StepsGiveFile
steps_give_file header fields file chunks steps all a e =
    let f = follow (las_with header fields file).points (las_with header fields file).fault chunks steps 0 (omega arith) all a e in
    record {
      giving = f.giving;
      steps_are = f.steps_are;
      give = f.give;
      points_are = f.points_are;
    }

pub steps_come_to_the_end : StepsComeToTheEnd
steps_come_to_the_end header fields file chunks steps all a many =
    ended (las_with header fields file).points (las_with header fields file).fault chunks steps 0 (omega arith) all a (omega arith)

-- behind a step no more points were given than there are
stays-records : (points : List Point) (fault : Option PointFault) (given chunk : ℕ) (left : Bool) (made : Make) (next : List Point) (after : Progress) → nat_lt given (length points) ≡ left
    → IsStep (if left then gives given (take chunk (drop given points)) else step_behind fault) made next after → IsWithin points after
stays-records points fault given chunk true made next after l p =
    let more = ltb-true given (length points) l in
    let size : length (take chunk (drop given points)) ≡ min chunk (length points - given) = length-take chunk (drop given points) ∙ ap (min chunk) (length-drop given points) in
    rw p.progress_is (omega (arith, size, more))
stays-records points (Some f) given chunk false made next after l p = rw p.progress_is tt
stays-records points None given chunk false made next after l p = rw p.progress_is tt

pub steps_stay_within : StepsStayWithin
steps_stay_within points fault chunk (Records given) made next after p = stays-records points fault given chunk (nat_lt given (length points)) made next after refl p
steps_stay_within points fault chunk ViewEnded made next after p = rw p.progress_is tt
steps_stay_within points fault chunk (Ended cut) made next after p = rw p.progress_is tt
