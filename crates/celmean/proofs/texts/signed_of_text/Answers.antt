use Rattle.std.proofs.Common.{◌∙◌, sym, w64}
use Rattle.std.proofs.lemmas.Int.{to_z-of_z}
use Rattle.celmean.proofs.Inside.{value_of-Int}
use Rattle.celmean.proofs.Numerals.{signed_text_ok, signed_text_err, signed_text_plus}
use Rattle.celmean.proofs.texts.signed_of_text.Goals as goal
use mir.Val.{SFits}

pub returns-then-has_plus : goal.returns-then-has_plus
returns-then-has_plus c = signed_text_plus c.args.text.now (sym c.has_plus.ensures ∙ c.if-has_plus.true)

pub returns-in-Ok : goal.returns-in-Ok
returns-in-Ok c =
    let h = c.in-Ok.ensures.value.0 in
    let small : SFits w64 c.in-Ok.number = rw h.1 h.0.1 in
    rw (to_z-of_z w64 c.in-Ok.number small, value_of-Int c.in-Ok.number)
    (signed_text_ok c.args.text.now (sym c.has_plus.ensures ∙ c.if-has_plus.false) c.in-Ok.number h.0.0 h.0.1 h.1)

pub returns-in-Err : goal.returns-in-Err
returns-in-Err c = signed_text_err c.args.text.now (sym c.has_plus.ensures ∙ c.if-has_plus.false) c.in-Err.ensures.value.0
