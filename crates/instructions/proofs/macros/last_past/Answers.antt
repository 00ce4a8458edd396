use Rattle.std.proofs.Common.{◌≡◌, ℕ, ◌-◌, Option, Some, None, List, length, take, vec_len, slice_get, sym, ap, ◌∙◌, le_refl, arith}
use Rattle.instructions.specs.declared.macros.Span.{Span}
use Rattle.instructions.specs.Macros.{last_of}
use Rattle.instructions.proofs.Between.{last_goes_past, last_ends, last_of_none}
use Rattle.instructions.proofs.macros.last_past.Goals as goal

abbrev last_span : List Span → Option Span
last_span spans = slice_get spans (length spans - 1)

pub returns-then-place-span-clause-value : goal.returns-then-place-span-clause-value
returns-then-place-span-clause-value c =
    let e : last_span c.loop-span.spans.items ≡ Some c.in-Some.span = ap last_span (sym c.deref.ensures.value) ∙ sym c.last.ensures.value ∙ sym c.copied.ensures ∙ c.in-Some.is in
    sym (sym (c.loop-span.invariant c.args.place (le_refl c.args.place)) ∙ last_goes_past c.args.place c.loop-span.spans.items c.in-Some.span e c.if-place-span.true)

pub loop-span-preserved : goal.loop-span-preserved
loop-span-preserved c =
    let e : last_span c.loop-span.spans.items ≡ Some c.in-Some.span = ap last_span (sym c.deref.ensures.value) ∙ sym c.last.ensures.value ∙ sym c.copied.ensures ∙ c.in-Some.is in
    let n : vec_len c.loop-span.spans ≡ length c.loop-span.spans.items = sym c.deref.ensures.len ∙ ap (λ (xs : List Span). length xs) c.deref.ensures.value in
    λ later le.
    ap (last_of later 0) (c.pop.ensures.rest ∙ ap (λ (i : ℕ). take (i - 1) c.loop-span.spans.items) n)
    ∙ sym (last_ends later c.loop-span.spans.items c.in-Some.span e (omega arith))
    ∙ c.loop-span.invariant later le

pub returns-clause-value : goal.returns-clause-value
returns-clause-value c =
    let e : last_span c.loop-span.spans.items ≡ None = ap last_span (sym c.deref.ensures.value) ∙ sym c.last.ensures.value ∙ sym c.copied.ensures ∙ c.in_default.is in
    sym (sym (c.loop-span.invariant c.args.place (le_refl c.args.place)) ∙ last_of_none c.args.place c.loop-span.spans.items e)
