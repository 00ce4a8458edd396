use Rattle.std.proofs.Common.{sym, ◌∙◌}
use Rattle.std.proofs.lemmas.Option.{none-some}
use Rattle.celtree.specs.View.{view}
use Rattle.celtypes.specs.Seen.{type_seen, declared}
use Rattle.celtypes.proofs.Complete.{complete}
use Rattle.celtypes.proofs.Sound.{sound}
use Rattle.celtypes.proofs.checking.check.Goals as goal

pub returns-in-Some-clause-found : goal.returns-in-Some-clause-found
returns-in-Some-clause-found c =
    let found = rw c.in-Some.is at c.in_ok-found.ensures in
    sound (view c.args.tree.now) (declared c.args.env.now) (type_seen c.in-Some.found) (sym found)

pub returns-in-None-clause-none : goal.returns-in-None-clause-none
returns-in-None-clause-none c =
    let none = rw c.in-None.is at c.in_ok-found.ensures in
    λ _ t typed. none-some t (none ∙ complete typed)
