use Rattle.checkpoint.proofs.Joining.{indexed_push}
use Rattle.checkpoint.proofs.index.Index.add.Goals as goal

pub returns-clause-added : goal.returns-clause-added
returns-clause-added c pages indexed above =
    indexed_push c.args.self.now c.push.new.self pages c.args.page.now indexed c.requires.some
    ((c.is_above.ensures pages indexed).0 c.if-not-is_above.false) c.in_ok-push.ensures.first c.in_ok-push.ensures.last
