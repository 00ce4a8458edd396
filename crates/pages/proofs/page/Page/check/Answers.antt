use Rattle.pages.proofs.Order.{sorted_from_order}
use Rattle.pages.proofs.page.Page.check.Goals as goal

pub returns-clause-ascending : goal.returns-clause-ascending
returns-clause-ascending c = sorted_from_order c.args.bytes.now c.in_ok-check_bytes.ensures.sound.order
