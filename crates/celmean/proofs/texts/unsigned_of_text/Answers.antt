use Rattle.std.proofs.Common.{◌∙◌, sym}
use Rattle.celmean.proofs.Inside.{value_of-Uint}
use Rattle.celmean.proofs.Numerals.{unsigned_ok, unsigned_err, unsigned_text_plus, no_plus}
use Rattle.celmean.proofs.texts.unsigned_of_text.Goals as goal

pub returns-then-has_plus : goal.returns-then-has_plus
returns-then-has_plus c = unsigned_text_plus c.args.text.now (sym c.has_plus.ensures ∙ c.if-has_plus.true)

pub returns-in-Ok : goal.returns-in-Ok
returns-in-Ok c =
    let s = c.args.text.now in
    let plain = no_plus s (sym c.has_plus.ensures ∙ c.if-has_plus.false) in
    let h = rw plain at c.in-Ok.ensures.value.0 in
    rw (value_of-Uint c.in-Ok.number) (unsigned_ok s c.in-Ok.number h.0.0 h.0.1 h.1)

pub returns-in-Err : goal.returns-in-Err
returns-in-Err c =
    let s = c.args.text.now in
    let plain = no_plus s (sym c.has_plus.ensures ∙ c.if-has_plus.false) in
    unsigned_err s (rw plain at c.in-Err.ensures.value.0)
