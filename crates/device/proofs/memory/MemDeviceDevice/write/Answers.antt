use Rattle.std.proofs.Common.{rules, refl, ap, arith, ◌≡◌, ◌*◌}
use Rattle.std.proofs.lemmas.Grind.{common_steps}
use Rattle.std.proofs.lemmas.List.{length-take}
use Rattle.device.specs.declared.script.Script.{Script}
use Rattle.device.proofs.MemorySteps.{ran_reached, content-written, ran_written}
use Rattle.device.proofs.memory.MemDeviceDevice.write.Goals as goal

pub returns-in_err-next_call-clause-ran : goal.returns-in_err-next_call-clause-ran
returns-in_err-next_call-clause-ran c =
    ran_reached c.args.self.now c.reach-fits.new.self _ c.args.at c.args.bytes.now
    (let same : c.reach-fits.new.self.script.failures ≡ c.args.self.now.script.failures = ap (λ (s : Script). s.failures) c.reach-fits.ensures.script in omega (arith, same, c.next_call.ensures.later))
    c.requires.whole
    (omega (arith, c.requires.inside, length-take (512 * c.args.self.now.len) c.args.self.now.current.items)) (search rules) refl refl refl refl refl

pub returns-clause-written : goal.returns-clause-written
returns-clause-written c =
    content-written c.args.self.now c.reach-fits.new.self c.overwrite.new.bytes.items c.max-self.result c.args.at c.args.bytes.now c.requires.whole
    (omega (arith, c.requires.inside, length-take (512 * c.args.self.now.len) c.args.self.now.current.items)) (grind (arith, common_steps)) (search rules) (search rules) (search rules)

pub returns-clause-ran : goal.returns-clause-ran
returns-clause-ran c =
    ran_written c.args.self.now c.reach-fits.new.self _ c.args.at c.args.bytes.now
    (let same : c.reach-fits.new.self.script.failures ≡ c.args.self.now.script.failures = ap (λ (s : Script). s.failures) c.reach-fits.ensures.script in omega (arith, same, c.next_call.ensures.later))
    c.requires.whole
    (omega (arith, c.requires.inside, length-take (512 * c.args.self.now.len) c.args.self.now.current.items)) (grind (arith, common_steps)) (search rules) (search rules) refl (search rules) refl refl
