use Rattle.std.proofs.Common.{◌∙◌}
use Rattle.instructions.proofs.Texts.{text_of-utf8, text_of-other}
use Rattle.instructions.proofs.numbers.utf8.Goals as goal

pub returns-in_ok-from_str-in-Ok : goal.returns-in_ok-from_str-in-Ok
returns-in_ok-from_str-in-Ok c = text_of-utf8 c.args.bytes.now _ c.in-Ok.ensures.cases.1 (c.in_ok-from_str-in-Ok.ensures.ok ∙ c.in-Ok.ensures.cases.0)

pub returns-in-Err : goal.returns-in-Err
returns-in-Err c = text_of-other c.args.bytes.now c.in-Err.ensures.cases.0
