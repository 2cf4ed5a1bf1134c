use Rattle.std.proofs.Common.{◌∙◌, ap, sym, take}
use Rattle.std.proofs.lemmas.Bool.Decides.{Decides-at}
use Rattle.stage_typing.specs.Outputs.{is_among, names_again}
use Rattle.stage_typing.proofs.Again.{output_there, again_tells}
use Rattle.stage_typing.proofs.outputs.names_again.Goals as goal

pub returns-in-Some : goal.returns-in-Some
returns-in-Some c =
    let here = output_there c.args.stages.now c.args.i c.index-stages-i.result c.requires ∙ sym c.in-Some.ensures in
    let same = c.is_among.ensures ∙ ap (is_among (take c.args.i c.args.stages.now)) (sym here) in
    record {
      again = Decides-at c.is_among.result (names_again c.args.stages.now c.args.i) same (again_tells c.args.stages.now c.args.i);
      value = same;
    }

pub returns-in-None : goal.returns-in-None
returns-in-None c =
    let here = output_there c.args.stages.now c.args.i c.index-stages-i.result c.requires ∙ sym c.in-None.ensures in
    let same = ap (is_among (take c.args.i c.args.stages.now)) (sym here) in
    record {
      again = Decides-at _ (names_again c.args.stages.now c.args.i) same (again_tells c.args.stages.now c.args.i);
      value = same;
    }
