use Rattle.child_link.proofs.Orders.{order_back, order_only}
use Rattle.child_link.proofs.lines.orders_are_read.Goals as goal

pub returns-clause-read : goal.returns-clause-read
returns-clause-read c = order_back

pub returns-clause-only : goal.returns-clause-only
returns-clause-only c = order_only
