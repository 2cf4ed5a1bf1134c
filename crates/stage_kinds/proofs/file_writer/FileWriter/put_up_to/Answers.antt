use Rattle.std.proofs.Common.{◌≡◌, None, Some, ap, subst, take, length-take, ◌∙◌, arith}
use Rattle.stage_kinds.specs.Files.{IsUnwritten, count_of, file_form, first_unwritten}
use Rattle.stage_kinds.proofs.Putting.{unwritten_within, none_unwritten_before}
use Rattle.stage_kinds.proofs.file_writer.FileWriter.put_up_to.Goals as goal

pub slice_bounds-put-end : goal.slice_bounds-put-end
slice_bounds-put-end g c =
    let w = c.args.self.now in
    let refused = c.in-Err-Refused in
    let found : first_unwritten (file_form w) (count_of w) c.args.points.now ≡ Some (refused.at, refused.why) =
    subst (IsUnwritten (first_unwritten (file_form w) (count_of w) c.args.points.now)) refused.field-0-is refused.ensures.err in
    let inside = unwritten_within (file_form w) (count_of w) c.args.points.now refused.at refused.why found in
    let size = length-take refused.at c.args.points.now in
    grind (arith, inside, size)

pub unreachable-requires : goal.unreachable-requires
unreachable-requires g c =
    let w = c.args.self.now in
    let v = c.put.new.self in
    let refused = c.in-Err-Refused in
    let before = take refused.at c.args.points.now in
    let found : first_unwritten (file_form w) (count_of w) c.args.points.now ≡ Some (refused.at, refused.why) =
    subst (IsUnwritten (first_unwritten (file_form w) (count_of w) c.args.points.now)) refused.field-0-is refused.ensures.err in
    let none : first_unwritten (file_form v) (count_of v) before ≡ None = ap (λ f. first_unwritten f (count_of v) before) refused.ensures.form
    ∙ ap (λ k. first_unwritten (file_form w) k before) refused.ensures.uncounted
    ∙ none_unwritten_before (file_form w) (count_of w) c.args.points.now refused.at refused.why found in
    let again : first_unwritten (file_form v) (count_of v) before ≡ Some (c.in-Err-Refused-put.field-0-0, c.in-Err-Refused-put.field-0-1) =
    subst (IsUnwritten (first_unwritten (file_form v) (count_of v) before)) c.in-Err-Refused-put.field-0-is c.in-Err-Refused-put.ensures.err in
    cc
