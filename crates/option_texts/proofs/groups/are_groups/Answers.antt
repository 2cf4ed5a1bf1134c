use Rattle.std.proofs.Common.{lit<, rules}
use Rattle.std.proofs.lemmas.Iterator.Search.{all_from_yields_List}
use Rattle.std.proofs.lemmas.Iterator.Splits.{YieldsList-from_str_split}
use Rattle.option_texts.specs.Groups.{is_group}
use Rattle.option_texts.specs.Parts.{trimmed}
use Rattle.option_texts.proofs.groups.are_groups.Goals as goal

pub returns : goal.returns
returns c = all_from_yields_List (λ part. is_group (trimmed part)) _ _ _ c.all.ensures.ran
    (YieldsList-from_str_split 44 c.args.text.now (lit< tt) c.split.ensures.text c.split.ensures.has_more c.split.ensures.pattern) (λ x b q k. search rules)
