use Rattle.std.proofs.Common.{◌+◌, cond, sym, ap, ◌∙◌}
use Rattle.instructions.specs.declared.instruction.Instruction.{Instruction}
use Rattle.instructions.specs.Seen.{op_of}
use Rattle.instructions.specs.Judging.{goes_past}
use Rattle.instructions.specs.Macros.{last_of}
use Rattle.instructions.proofs.Between.{last_of_append}
use Rattle.instructions.proofs.macros.note.Goals as goal

pub returns-in_ok-push-in-Macro : goal.returns-in_ok-push-in-Macro
returns-in_ok-push-in-Macro c = λ place.
    ap (last_of place 0) c.in_ok-push-in-Macro.ensures.items
    ∙ last_of_append place 0 c.args.spans.now.items (record { start = c.args.at + 1; end = c.in-Macro.end })
    ∙ sym (ap (λ (i : Instruction). cond (goes_past place (op_of i)) (c.args.at + 1) (last_of place 0 c.args.spans.now.items)) c.in-Macro.is)
