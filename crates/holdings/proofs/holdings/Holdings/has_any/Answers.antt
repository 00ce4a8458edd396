use Rattle.std.proofs.Common.{◌∙◌, ap}
use Rattle.std.specs.List.{filter}
use Rattle.std.specs.Prelude.{Some}
use Rattle.objects.specs.Objects.{is_of}
use Rattle.holdings.proofs.Among.{shows_put_any, shows_below_any}
use Rattle.holdings.proofs.holdings.Holdings.has_any.Goals as goal

pub returns-then-has_put-clause-any : goal.returns-then-has_put-clause-any
returns-then-has_put-clause-any g c = λ base v holds shows.
    shows_put_any _ c.args.self.now c.self.view_is c.args.resource c.args.namespace.now c.changes_in.result.now c.has_put.result
    (c.changes_in.ensures ∙ ap (filter (λ change. is_of c.args.resource (Some c.args.namespace.now) change.0)) c.made.ensures.value) c.has_put.ensures base v shows
    c.made.ensures.ascending c.if-has_put.true

pub returns-clause-any : goal.returns-clause-any
returns-clause-any g c = λ base v holds shows.
    shows_below_any _ c.args.self.now c.self.view_is c.args.resource c.args.namespace.now c.changes_in.result.now c.has_put.result
    (c.changes_in.ensures ∙ ap (filter (λ change. is_of c.args.resource (Some c.args.namespace.now) change.0)) c.made.ensures.value) c.has_put.ensures base v shows
    c.has_unchanged.result c.if-has_put.false (c.has_unchanged.ensures.unchanged base holds)
