use Rattle.std.proofs.Common.{lit<, rules, is_some}
use Rattle.std.proofs.lemmas.Iterator.Search.{all_from_yields_List}
use Rattle.std.proofs.lemmas.Iterator.Splits.{YieldsList-from_str_split}
use Rattle.option_texts.specs.Columns.{column_of}
use Rattle.option_texts.proofs.columns.are_columns.Goals as goal

pub returns : goal.returns
returns c = all_from_yields_List (λ part. is_some (column_of part)) _ _ _ c.all.ensures.ran
    (YieldsList-from_str_split 44 c.args.text.now (lit< tt) c.split.ensures.text c.split.ensures.has_more c.split.ensures.pattern) (λ x b q k. search rules)
