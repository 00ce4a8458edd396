use Rattle.std.proofs.Common.{◌∙◌, ap, sym, Some, None}
use Rattle.std.specs.Option.{option_copied}
use Rattle.verdict.specs.Objects.{all_held}
use Rattle.apicore.proofs.Finding.{policy_found}
use Rattle.apicore.proofs.store_lookup.StoreLookupLookup.policy.Goals as goal

pub returns-in-Some-Some-clause-found : goal.returns-in-Some-Some-clause-found
returns-in-Some-Some-clause-found g c = λ objects sees.
    ap Some c.lent.ensures
    ∙ policy_found c.args.self.now.core.now sees.base sees.held (all_held objects) c.args.key.now (Some (Some c.in-Some-Some.stored)) sees.shows sees.free sees.are c.requires
    (ap Some (sym c.in-Some-Some.field-0-is) ∙ ap option_copied (sym c.in-Some-Some.is) ∙ c.change.ensures)

pub returns-in-Some-None-clause-found : goal.returns-in-Some-None-clause-found
returns-in-Some-None-clause-found g c = λ objects sees.
    policy_found c.args.self.now.core.now sees.base sees.held (all_held objects) c.args.key.now (Some None) sees.shows sees.free sees.are c.requires
    (ap Some (sym c.in-Some-None.field-0-is) ∙ ap option_copied (sym c.in-Some-None.is) ∙ c.change.ensures)

pub returns-in-None-clause-found : goal.returns-in-None-clause-found
returns-in-None-clause-found g c = λ objects sees.
    policy_found c.args.self.now.core.now sees.base sees.held (all_held objects) c.args.key.now None sees.shows sees.free sees.are c.requires (ap option_copied (sym c.in-None.is) ∙ c.change.ensures)

pub returns-in-Some-Some-clause-lent : goal.returns-in-Some-Some-clause-lent
returns-in-Some-Some-clause-lent g c = λ all lends.
    ap Some c.lent.ensures
    ∙ policy_found c.args.self.now.core.now lends.base lends.held all c.args.key.now (Some (Some c.in-Some-Some.stored)) lends.shows lends.free lends.are c.requires
    (ap Some (sym c.in-Some-Some.field-0-is) ∙ ap option_copied (sym c.in-Some-Some.is) ∙ c.change.ensures)

pub returns-in-Some-None-clause-lent : goal.returns-in-Some-None-clause-lent
returns-in-Some-None-clause-lent g c = λ all lends.
    policy_found c.args.self.now.core.now lends.base lends.held all c.args.key.now (Some None) lends.shows lends.free lends.are c.requires
    (ap Some (sym c.in-Some-None.field-0-is) ∙ ap option_copied (sym c.in-Some-None.is) ∙ c.change.ensures)

pub returns-in-None-clause-lent : goal.returns-in-None-clause-lent
returns-in-None-clause-lent g c = λ all lends.
    policy_found c.args.self.now.core.now lends.base lends.held all c.args.key.now None lends.shows lends.free lends.are c.requires (ap option_copied (sym c.in-None.is) ∙ c.change.ensures)
