use Rattle.ieee_words.proofs.OrderNumbers.{order_keeps}
use Rattle.ieee_words.proofs.order.order_keeps_values.Goals as goal

pub returns : goal.returns
returns c = order_keeps
