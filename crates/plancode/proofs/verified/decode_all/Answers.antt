use Rattle.std.proofs.Common.{◌≡◌, List, Ok, ap, sym, ◌∙◌, arith}
use Rattle.instructions.specs.declared.instruction.Instruction.{Instruction}
use Rattle.instructions.specs.Seen.{ops_of}
use Rattle.instructions.specs.Judging.{first_fault}
use Rattle.instructions.proofs.WellFormed.{sound_is_well_formed}
use Rattle.plancode.proofs.Codes.{plan_takes}
use Rattle.plancode.proofs.verified.decode_all.Goals as goal

pub invariant_of-result : goal.invariant_of-result
invariant_of-result c =
    let sound : first_fault c.args.vars (ops_of c.in_ok-plan.plan.items) ≡ Ok tt = ap (λ (is : List Instruction). first_fault c.args.vars (ops_of is)) (sym c.deref.ensures.value) ∙ c.in_ok-check.ensures in
    record {
      well_formed = sound_is_well_formed c.args.vars (ops_of c.in_ok-plan.plan.items) sound;
      room = (plan_takes c.args.greatest c.args.bytes.now (ops_of c.in_ok-plan.plan.items) (λ i. omega (arith, c.type_inv.bytes i)) c.in_ok-plan.ensures).0;
    }
