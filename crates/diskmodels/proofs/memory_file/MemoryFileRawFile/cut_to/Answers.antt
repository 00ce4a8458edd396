use Rattle.std.proofs.Common.{◌≡◌, rules, ap, sym, subst, List, ℕ, take}
use Rattle.std.proofs.lemmas.Grind.{common_steps}
use Rattle.device.specs.Step.{Cut}
use Rattle.device.proofs.Steps.{cut_idle, cut_take}
use Rattle.diskmodels.specs.declared.memory_file.Change.TheVariants.{Shortened}
use Rattle.diskmodels.proofs.Changing.{ran_idle, ran_either}
use Rattle.diskmodels.proofs.memory_file.MemoryFileRawFile.cut_to.Goals as goal

pub returns-in-Err-clause-ran : goal.returns-in-Err-clause-ran
returns-in-Err-clause-ran c =
    ran_idle _ _ _ (λ x. cut_idle _ x) (ap (λ v. v.items) c.fail.ensures.current) (ap (λ v. v.items) c.fail.ensures.synced) (ap (λ v. v.items) c.fail.ensures.unsynced)
    c.fail.ensures.later

pub returns-in-Ok-clause-ran : goal.returns-in-Ok-clause-ran
returns-in-Ok-clause-ran c =
    let old = c.args.self.now in
    let is : c.in-Ok.next.items ≡ take c.args.size old.current.items = search (rules, common_steps) in
    let To : List ℕ → Type 0 = λ next. Cut c.args.size old.current.items next in
    ran_either _ old c.becomes.new.self (Shortened c.args.size) c.in-Ok.next.items c.becomes.result c.becomes.ensures.synced c.becomes.ensures.ok c.becomes.ensures.err
    (subst To (sym is) (cut_take c.args.size old.current.items))
