use Rattle.std.proofs.Common.{lit<, ap, nat_le}
use Rattle.std.proofs.lemmas.Iterator.Consumers.{count_from_yields_List}
use Rattle.std.proofs.lemmas.Iterator.Splits.{YieldsList-from_str_split}
use Rattle.option_texts.proofs.parts.has_few_parts.Goals as goal

pub returns : goal.returns
returns c = ap (λ n. nat_le n c.args.most) (count_from_yields_List _ _ c.count.ensures.ran (YieldsList-from_str_split 44 c.args.text.now (lit< tt) c.split.ensures.text c.split.ensures.has_more c.split.ensures.pattern))
