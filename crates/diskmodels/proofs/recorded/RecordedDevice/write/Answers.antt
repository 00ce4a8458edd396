use Rattle.std.proofs.Common.{◌≡◌, ◌*◌, ◌+◌, ◌++◌, refl, rules, arith, sym, subst, List, ℕ, take, drop, length}
use Rattle.std.proofs.lemmas.Grind.{common_steps}
use Rattle.device.specs.Step.{Torn, Holds}
use Rattle.device.proofs.Steps.{torn_idle, torn_holds}
use Rattle.diskmodels.proofs.Pasts.{ran_idle, ran_either}
use Rattle.diskmodels.proofs.recorded.RecordedDevice.write.Goals as goal

pub returns-then-bytes-start-clause-ran : goal.returns-then-bytes-start-clause-ran
returns-then-bytes-start-clause-ran c = ran_idle _ _ _ (λ x. torn_idle _ _ x) c.fail.ensures.present c.fail.ensures.past c.fail.ensures.later

pub returns-in-Err-clause-ran : goal.returns-in-Err-clause-ran
returns-in-Err-clause-ran c = ran_idle _ _ _ (λ x. torn_idle _ _ x) c.fail-in-Err.ensures.present c.fail-in-Err.ensures.past c.fail-in-Err.ensures.later

pub returns-in-Ok-clause-ran : goal.returns-in-Ok-clause-ran
returns-in-Ok-clause-ran c =
    let old = c.args.self.now in
    let at : ℕ = 512 * c.args.at in
    let n : ℕ = length c.args.bytes.now in
    let is : Holds old.current.items at c.args.bytes.now c.in-Ok.next.items = search (rules, common_steps) in
    ran_either _ old c.becomes.new.self (Torn at n) (torn_idle at n) c.in-Ok.next.items c.becomes.result c.becomes.ensures.ok c.becomes.ensures.err
    (torn_holds at c.args.bytes.now old.current.items c.in-Ok.next.items (c.requires.inside tt) is)
