use Rattle.std.proofs.Common.{◌≡◌, ℕ, ◌+◌, ◌-◌, None, refl, sym, ◌∙◌, arith, subst}
use Rattle.httpmsg.specs.Head.{fault_of, content_length}
use Rattle.httpmsg.specs.Cut.{Awaits}
use Rattle.httpmsg.proofs.Cuts.{awaits_body, takes}
use Rattle.httpmsg.proofs.cut.first_message.Goals as goal

pub returns-then-bytes-end : goal.returns-then-bytes-end
returns-then-bytes-end c =
    let sound : fault_of c.args.head.now ≡ None = sym c.fault.ensures ∙ c.in_default.is in
    let size : c.body_length.result ≡ content_length c.args.head.now = c.body_length.ensures.length in
    let Awaited : ℕ → Type 0 = λ n. Awaits c.args.bytes.now (c.args.len + n) in
    subst Awaited (sym size)
    (awaits_body c.args.bytes.now c.args.head.now c.args.len c.requires sound (omega (arith, size, c.body_length.ensures.limit)) (omega (arith, size)))

pub returns : goal.returns
returns c =
    let sound : fault_of c.args.head.now ≡ None = sym c.fault.ensures ∙ c.in_default.is in
    let size : c.body_length.result ≡ content_length c.args.head.now = c.body_length.ensures.length in
    let span : c.args.len + c.body_length.result - c.args.len ≡ content_length c.args.head.now = omega (arith, size) in
    rw size
    (takes c.args.bytes.now c.args.head.now c.args.len c.in_ok-message.message c.requires sound (omega (arith, size))
    (c.in_ok-message.ensures ∙ rw (c.named-method.ensures, c.says_close.ensures, span, ← c.head.view_is) refl))
