use Rattle.std.proofs.Common.{◌≡◌, ◌*◌, refl, rules, arith, sym, subst, List, ℕ, take}
use Rattle.std.proofs.lemmas.Grind.{common_steps}
use Rattle.device.specs.Step.{Cut}
use Rattle.device.proofs.Steps.{cut_idle, cut_take}
use Rattle.diskmodels.proofs.Pasts.{ran_idle, ran_either}
use Rattle.diskmodels.proofs.recorded.RecordedDevice.cut.Goals as goal

pub returns-in-Err-clause-ran : goal.returns-in-Err-clause-ran
returns-in-Err-clause-ran c = ran_idle _ _ _ (λ x. cut_idle _ x) c.fail.ensures.present c.fail.ensures.past c.fail.ensures.later

pub returns-in-Ok-clause-ran : goal.returns-in-Ok-clause-ran
returns-in-Ok-clause-ran c =
    let old = c.args.self.now in
    let n : ℕ = 512 * c.args.sectors in
    let is : c.in-Ok.next.items ≡ take n old.current.items = search (rules, common_steps) in
    let To : List ℕ → Type 0 = λ next. Cut n old.current.items next in
    ran_either _ old c.becomes.new.self (Cut n) (cut_idle n) c.in-Ok.next.items c.becomes.result c.becomes.ensures.ok c.becomes.ensures.err
    (subst To (sym is) (cut_take n old.current.items))
