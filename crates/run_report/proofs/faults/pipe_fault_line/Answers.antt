use Rattle.std.proofs.Common.{◌≡◌, ◌++◌, ◌∙◌, ℕ, List, ap, sym, codes, decimal, append_assoc}
use Rattle.run_report.specs.Faults.{at_stage}
use Rattle.run_report.proofs.faults.pipe_fault_line.Goals as goal

pub returns-in-OptionUnknown : goal.returns-in-OptionUnknown
returns-in-OptionUnknown c = rw c.in-OptionUnknown.is c.named_line.ensures

pub returns-in-OptionMissing : goal.returns-in-OptionMissing
returns-in-OptionMissing c = rw c.in-OptionMissing.is c.named_line-in-OptionMissing.ensures

pub returns-in-OptionValue : goal.returns-in-OptionValue
returns-in-OptionValue c = rw c.in-OptionValue.is c.named_line-in-OptionValue.ensures

pub returns-in-PlugUnknown : goal.returns-in-PlugUnknown
returns-in-PlugUnknown c = rw c.in-PlugUnknown.is c.named_line-in-PlugUnknown.ensures

pub returns-in-DimUnknown : goal.returns-in-DimUnknown
returns-in-DimUnknown c = rw c.in-DimUnknown.is c.named_line-in-DimUnknown.ensures

-- what stands behind a name belongs to the text of the stage
behind_name : (i : ℕ) (named after end : List ℕ) → at_stage i named ++ (after ++ end) ≡ at_stage i (named ++ after) ++ end
behind_name i named after end =
    sym (append_assoc (at_stage i named) after end) ∙ ap (λ text. text ++ end) (append_assoc (codes "stage " ++ decimal i ++ codes ": ") named after)

pub returns-in-PlugTaken : goal.returns-in-PlugTaken
returns-in-PlugTaken c =
    rw c.in-PlugTaken.is (c.named_line-in-PlugTaken.ensures
    ∙ ap (λ text. codes "lasline: pipeline: " ++ text) (behind_name c.in-PlugTaken.i (codes "plug " ++ c.in-PlugTaken.name) (codes " already used") (codes "\n")))

pub returns-in-DimNotNumeric : goal.returns-in-DimNotNumeric
returns-in-DimNotNumeric c =
    rw c.in-DimNotNumeric.is (c.named_line-in-DimNotNumeric.ensures
    ∙ ap (λ text. codes "lasline: pipeline: " ++ text) (behind_name c.in-DimNotNumeric.i (codes "dimension " ++ c.in-DimNotNumeric.name) (codes " is not numeric") (codes "\n")))
