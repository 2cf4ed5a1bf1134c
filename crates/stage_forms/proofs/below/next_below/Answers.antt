use Rattle.std.proofs.Common.{◌<◌, All, length, refl, ap, sym, subst, ◌∙◌, arith}
use Rattle.std.proofs.lemmas.Option.{slice_get_read}
use Rattle.answer_model.proofs.Values.{tree-down}
use Rattle.stage_options.specs.declared.stage.StageSpec.{StageSpec}
use Rattle.stage_forms.specs.Below.{StandsBelow}
use Rattle.stage_forms.specs.Joined.{IsFound}
use Rattle.stage_forms.specs.declared.below.Below.{Below}
use Rattle.stage_forms.proofs.Joined.{stands-below, stands-inside, takes-earlier, if_ok}
use Rattle.stage_forms.proofs.below.next_below.Goals as goal

pub find_below-requires : goal.find_below-requires
find_below-requires g c =
    let stages = c.args.stages.now in
    let i = length c.args.belows.now in
    let stage = c.index-stages-number.result in
    let ins = c.as_slice-inputs.ensures ∙ ap (λ (s : StageSpec). s.ins) (sym c.index-stages-number.is) in
    let at = slice_get_read stages (length stages) i stage refl c.requires.next c.index-stages-number.is in
    subst (All (λ j. j < i)) (sym ins) (takes-earlier stages i stage i (tree-down stages c.requires.tree) at refl)

pub returns-clause-below : goal.returns-clause-below
returns-clause-below g c =
    let stages = c.args.stages.now in
    let readers = c.args.readers.now in
    let belows = c.args.belows.now in
    let i = length belows in
    let stage = c.index-stages-number.result in
    let reader = c.index-readers-number.result in
    let ins = c.as_slice-inputs.ensures ∙ ap (λ (s : StageSpec). s.ins) (sym c.index-stages-number.is) in
    let at = slice_get_read stages (length stages) i stage refl c.requires.next c.index-stages-number.is in
    let inside : i < length readers = (let a = c.requires.count in let b = c.requires.next in omega (arith, a, b)) in
    let at_reader = slice_get_read readers (length readers) i reader refl inside c.index-readers-number.is in
    if_ok (IsFound reader i belows c.as_slice-inputs.result.now) (StandsBelow stages readers i) c.find_below.result
    (λ b found opened have. stands-below stages readers opened (tree-down stages c.requires.tree) c.requires.fit have i stage reader b belows at_reader at refl
    (c.requires.behind opened have) (subst (λ js. IsFound reader i belows js b) ins found))
    c.find_below.ensures

pub returns-clause-inside : goal.returns-clause-inside
returns-clause-inside g c =
    let readers = c.args.readers.now in
    let belows = c.args.belows.now in
    let i = length belows in
    let reader = c.index-readers-number.result in
    let inside : i < length readers = (let a = c.requires.count in let b = c.requires.next in omega (arith, a, b)) in
    if_ok (IsFound reader i belows c.as_slice-inputs.result.now) (λ (b : Below). All (λ j. j < length readers) b.readers.items) c.find_below.result
    (λ b found. stands-inside (length readers) i reader belows c.as_slice-inputs.result.now b inside c.requires.inside found)
    c.find_below.ensures
