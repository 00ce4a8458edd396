use Rattle.std.proofs.Common.{◌≡◌, ◌∙◌, refl, ap, arith, sym, rules}
use Rattle.std.proofs.lemmas.Grind.{common_steps}
use Rattle.diskmodels.specs.Moments.{Moment}
use Rattle.diskmodels.proofs.Pasts.{ran_idle, ran_synced, only_synced, when_error, when_ok}
use Rattle.diskmodels.proofs.recorded.RecordedDevice.sync.Goals as goal

pub returns-in-Err-clause-ran : goal.returns-in-Err-clause-ran
returns-in-Err-clause-ran c = ran_idle _ _ _ (λ x. refl) c.fail.ensures.present c.fail.ensures.past c.fail.ensures.later

pub returns-then-is_err-clause-ran : goal.returns-then-is_err-clause-ran
returns-then-is_err-clause-ran c =
    let err = sym c.is_err.ensures.value ∙ c.if-is_err.true in
    ran_idle _ _ _ (λ x. refl) (c.fail-then-is_err.ensures.present ∙ c.remember.ensures.present)
    (c.fail-then-is_err.ensures.past ∙ when_error _ c.remember.result err c.remember.ensures.err)
    (omega (arith, c.fail-then-is_err.ensures.later, c.remember.ensures.failures))

pub returns-clause-durable : goal.returns-clause-durable
returns-clause-durable c keeps =
    let same = ap (λ (m : Moment). m.now) c.remember.ensures.present in
    let kept : c.in-Ok.kept.items ≡ c.args.self.now.current.items = search (rules, common_steps) in
    only_synced c.remember.new.self.current.items c.in-Ok.kept.items c.args.self.now.current.items same kept

pub returns-clause-ran : goal.returns-clause-ran
returns-clause-ran c =
    let ok = sym c.is_err.ensures.value ∙ c.if-is_err.false in
    let same = ap (λ (m : Moment). m.now) c.remember.ensures.present in
    let kept : c.in-Ok.kept.items ≡ c.args.self.now.current.items = search (rules, common_steps) in
    ran_synced c.args.self.now _ same kept (when_ok _ c.remember.result ok c.remember.ensures.ok)
    (omega (arith, c.remember.ensures.failures))
