use Rattle.std.proofs.Common.{◌∙◌, sym, None}
use borrow.Author.Tests.{leb-false}
use Rattle.holdings.proofs.Redoing.{knows_made, knows_same, nothing_there, may_delete_shown, shows_redone_deletion, none_left}
use Rattle.holdings.proofs.holdings.Holdings.redo_delete.Goals as goal

pub returns-then-is_exhausted-clause-not_allowed : goal.returns-then-is_exhausted-clause-not_allowed
returns-then-is_exhausted-clause-not_allowed g c = λ base v shows known refused may.
    none_left c.args.self.now.rules v c.is_exhausted.result (c.is_exhausted.ensures.shown base v shows) c.if-is_exhausted.true may.revision

pub returns-in_default-clause-not_allowed : goal.returns-in_default-clause-not_allowed
returns-in_default-clause-not_allowed g c = λ base v shows known refused may.
    nothing_there _ (sym c.in_default.is ∙ c.in_ok-found.ensures base v shows known) may.object

pub returns-clause-taken : goal.returns-clause-taken
returns-clause-taken g c = λ base v shows known.
    let now = c.args.self.now in
    let there = sym c.in-Some.is ∙ c.in_ok-found.ensures base v shows known in
    let left = leb-false now.rules.greatest_revision now.revision (sym c.is_exhausted.ensures.value ∙ c.if-is_exhausted.false) in (
      may_delete_shown now base v c.args.key.now c.in-Some.found shows left there,
      shows_redone_deletion now c.prepare_deletion.new.self _ base v c.args.key.now c.in-Some.found c.in_ok-deletion.deletion shows
          c.prepare_deletion.ensures.shows c.prepare_deletion.ensures.rules c.in_ok-deletion.ensures.deletion there (c.delete.ensures.shows base v),
    )

pub returns-in_err-deletion-clause-known : goal.returns-in_err-deletion-clause-known
returns-in_err-deletion-clause-known g c = knows_same c.args.self.now c.prepare_deletion.new.self c.prepare_deletion.ensures.made

pub returns-clause-known : goal.returns-clause-known
returns-clause-known g c =
    knows_made c.args.self.now c.prepare_deletion.new.self c.delete.new.self c.in_ok-deletion.deletion.key None c.prepare_deletion.ensures.made c.delete.ensures.made
