use Rattle.std.proofs.Common.{arith}
use Rattle.ieee_words.proofs.Wholes.{shifted_small}
use Rattle.ieee_words.proofs.decimals.rounded.Goals as goal

pub overflow_cast-whole-2 : goal.overflow_cast-whole-2
overflow_cast-whole-2 c = let s = shifted_small c.args.wide c.args.down c.requires.wide c.requires.down_low in omega arith

pub overflow_add-result : goal.overflow_add-result
overflow_add-result c = let s = shifted_small c.args.wide c.args.down c.requires.wide c.requires.down_low in omega arith

pub overflow_add-result-2 : goal.overflow_add-result-2
overflow_add-result-2 c = let s = shifted_small c.args.wide c.args.down c.requires.wide c.requires.down_low in omega arith
