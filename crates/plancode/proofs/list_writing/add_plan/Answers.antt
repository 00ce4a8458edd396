use Rattle.std.proofs.Common.{◌≡◌, ◌∙◌, ◌++◌, length, refl, ap, append_assoc, arith}
use Rattle.byteorder.specs.Endian.{big_bytes}
use Rattle.instructions.specs.Bytes.{code}
use Rattle.plancode.proofs.list_writing.add_plan.Goals as goal

pub returns-clause-fits : goal.returns-clause-fits
returns-clause-fits c =
    let ops = c.args.plan.now.ops in
    let spelled : c.in_ok-code.code.items ≡ code ops = c.in_ok-code.ensures ∙ ap code (c.into_plan.ensures.same ∙ ap (λ p. p.ops) c.in_ok-clone.ensures.cases) in
    record { place = refl; verified = c.vars-place.ensures.verified; short = omega (arith, c.in_ok-code.code.ok.0, ap length spelled) }

pub returns-clause-added : goal.returns-clause-added
returns-clause-added c =
    let bytes = c.args.bytes.now.items in
    let inside = code c.args.plan.now.ops in
    let spelled : c.in_ok-code.code.items ≡ inside = c.in_ok-code.ensures ∙ ap code (c.into_plan.ensures.same ∙ ap (λ p. p.ops) c.in_ok-clone.ensures.cases) in
    let size : c.len-2.result ≡ length inside = omega (arith, c.in_ok-code.code.ok.0, ap length spelled) in
    let front : c.write_u32.new.buf ≡ big_bytes 4 (length inside) = c.write_u32.ensures ∙ ap (big_bytes 4) size in
    c.in_ok-extend_from_slice-2.ensures.items
    ∙ ap (λ written. written ++ c.deref.result.now) c.in_ok-extend_from_slice.ensures.items
    ∙ append_assoc bytes c.write_u32.new.buf c.deref.result.now
    ∙ ap (λ field. bytes ++ field) (λ i. front i ++ (c.deref.ensures.value ∙ spelled) i)

pub returns-then-len-clause-long : goal.returns-then-len-clause-long
returns-then-len-clause-long c is_long short =
    let spelled : c.in_ok-code.code.items ≡ code c.args.plan.now.ops = c.in_ok-code.ensures ∙ ap code (c.into_plan.ensures.same ∙ ap (λ p. p.ops) c.in_ok-clone.ensures.cases) in
    omega (arith, c.in_ok-code.code.ok.0, ap length spelled)
