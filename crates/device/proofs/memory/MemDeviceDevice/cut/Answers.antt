use Rattle.std.proofs.Common.{rules, refl, arith, subst, ◌*◌, ◌≤◌, ℕ, List}
use Rattle.std.proofs.lemmas.Grind.{common_steps}
use Rattle.std.proofs.lemmas.List.{length-take, take-take}
use Rattle.device.specs.Step.{Cut}
use Rattle.device.specs.Memory.{memory_content}
use Rattle.device.proofs.Steps.{cut_idle, cut_take}
use Rattle.device.proofs.MemorySteps.{ran_cut}
use Rattle.device.proofs.memory.MemDeviceDevice.cut.Goals as goal

pub returns-in_err-next_call-clause-ran : goal.returns-in_err-next_call-clause-ran
returns-in_err-next_call-clause-ran c =
    ran_cut _ _ c.args.sectors c.next_call.ensures.later
    (omega (arith, c.requires, length-take (512 * c.args.self.now.len) c.args.self.now.current.items))
    (cut_idle (512 * c.args.sectors) (memory_content c.args.self.now)) refl (grind (arith, common_steps)) (search rules) refl

pub returns-clause-ran : goal.returns-clause-ran
returns-clause-ran c =
    let inside : c.args.sectors ≤ c.args.self.now.len = omega (arith, c.requires, length-take (512 * c.args.self.now.len) c.args.self.now.current.items) in
    let PC : List ℕ → Type 0 = λ content. Cut (512 * c.args.sectors) (memory_content c.args.self.now) content in
    ran_cut _ _ c.args.sectors c.next_call.ensures.later inside
    (subst PC (take-take (512 * c.args.sectors) (512 * c.args.self.now.len) c.args.self.now.current.items (omega arith)) (cut_take (512 * c.args.sectors) (memory_content c.args.self.now)))
    refl (grind (arith, common_steps)) (search rules) refl
