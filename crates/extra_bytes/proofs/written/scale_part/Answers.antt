use Rattle.std.proofs.Common.{rules, ap, sym, ◌∙◌, replicate, if◌then◌else◌, w64, FitsSigned}
use Rattle.std.specs.Int.{to_le_bytes}
use Rattle.std.proofs.lemmas.Int.{to_z-of_z}
use Rattle.ieee_words.specs.NearWord.{near_word}
use Rattle.extra_bytes.proofs.written.scale_part.Goals as goal

pub returns-else-is_unit : goal.returns-else-is_unit
returns-else-is_unit c =
    let fits : FitsSigned w64 c.nano.result = search rules in
    c.to_le_bytes.ensures ∙ ap (to_le_bytes w64) (c.near.ensures.value ∙ ap (λ z. near_word z 9) (to_z-of_z w64 c.nano.result fits ∙ c.nano.ensures.value))
    ∙ sym (ap (λ b. if b then replicate 8 0 else to_le_bytes w64 (near_word c.args.scale.nano 9)) (sym c.is_unit.ensures ∙ c.if-is_unit.false))
