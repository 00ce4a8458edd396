use Rattle.std.proofs.Common.{List, Result, ap, subst, ◌∙◌, arith}
use Rattle.instructions.specs.declared.fault.CodeFault.{CodeFault}
use Rattle.instructions.specs.Op.{Op}
use Rattle.instructions.specs.Faults.{Gives}
use Rattle.plancode.specs.Plans.{Judged}
use Rattle.plancode.specs.Reading.{decoded}
use Rattle.plancode.proofs.Codes.{decoded_again, is_found}
use Rattle.plancode.proofs.verified.decode.Goals as goal

pub returns-clause-found : goal.returns-clause-found
returns-clause-found c = is_found c.args.vars c.args.greatest c.args.bytes.now c.decode_all.result (λ i. omega (arith, c.type_inv.bytes i)) c.decode_all.ensures.exact

pub returns-clause-only : goal.returns-clause-only
returns-clause-only c = λ ops wf room known e. subst (λ (r : Result (List Op) CodeFault). Gives (λ (p : Judged). p.ops) c.decode_all.result r) (ap (decoded c.args.vars c.args.greatest) e ∙ decoded_again c.args.vars c.args.greatest ops wf room known) c.decode_all.ensures.exact
