use Rattle.std.proofs.Common.{arith, ◌∙◌, sym, ap, subst}
use Rattle.std.proofs.Math.Logic.{∥∥₁_elim, ∥∥₁_prop}
use Rattle.std.proofs.lemmas.Grind.{merely}
use Rattle.roots.specs.declared.root.Root.{Root}
use Rattle.holdings.specs.Holdings.{State}
use Rattle.decoded.specs.Decoded.{Decoded}
use Rattle.durable.specs.Ready.{IsReady}
use Rattle.durable.specs.Rules.{rules_by}
use Rattle.durable.proofs.Compacting.{ready_anew}
use Rattle.durable.proofs.Numbers.{may_still}
use Rattle.durable.proofs.store.Store.start_over.Goals as goal

pub invariant_of-self : goal.invariant_of-self
invariant_of-self g c =
    let place = c.restart-self.ensures.place in
    let at = c.log_sector.ensures.place in
    let Ready : Root → Type 0 = λ root. ∥ IsReady g.D.Device.disk c.args.self.now.device root c.restart-self.result ∥₁ in
    record {
      numbers = ap (λ (core : State Decoded). core.rules) c.start_over.ensures.core ∙ c.requires.numbers ∙ sym (ap (λ (r : Root). rules_by r.label) c.start_over.ensures.root);
      floor = may_still c.args.written.root _ c.start_over.ensures.root c.requires.floor;
      in_data = omega (arith, c.requires.in_data, place.0, at);
      works = λ _. c.restart-self.ensures.works;
      ready = λ _ keeps. subst Ready (sym c.start_over.ensures.root) (∥∥₁_elim (c.requires.in_use keeps) ∥∥₁_prop
          (λ ready. merely (ready_anew g.D.Device.disk c.args.self.now.device c.args.written.root c.restart-self.result (place.0 ∙ at) (place.1 ∙ at) c.restart-self.ensures.works c.restart-self.ensures.none ready)));
    }

pub returns-clause-lies : goal.returns-clause-lies
returns-clause-lies g c rules held is index keeps holds = c.start_over.ensures.below rules held is index (λ some. keeps) holds
