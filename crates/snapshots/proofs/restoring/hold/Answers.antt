use Rattle.std.proofs.Common.{sym, ap, ◌∙◌}
use Rattle.snapshots.proofs.Taking.{taken_as_it_is, taken_as_one_more}
use Rattle.snapshots.proofs.restoring.hold.Goals as goal

pub returns-then-lies-clause-taken : goal.returns-then-lies-clause-taken
returns-then-lies-clause-taken g c =
    taken_as_it_is c.hold.result (g.B.Below.lies c.args.below.now) c.args.core.now c.hold.new.self c.args.key.now c.args.stored
    (ap (g.B.Below.lies c.args.below.now) (sym c.resource.ensures.value) ∙ sym c.lies.ensures ∙ c.if-lies.true) c.hold.ensures.made c.hold.ensures.shows

pub returns-else-lies-clause-taken : goal.returns-else-lies-clause-taken
returns-else-lies-clause-taken g c =
    taken_as_one_more c.restore.result (g.B.Below.lies c.args.below.now) c.args.core.now c.restore.new.self c.args.key.now c.args.stored
    (ap (g.B.Below.lies c.args.below.now) (sym c.resource.ensures.value) ∙ sym c.lies.ensures ∙ c.if-lies.false) c.restore.ensures.made c.restore.ensures.shows
