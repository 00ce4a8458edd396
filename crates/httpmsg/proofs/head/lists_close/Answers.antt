use Rattle.std.proofs.Common.{◌≡◌, ◌+◌, sym, ◌∙◌, drop}
use Rattle.std.proofs.lemmas.List.{take_rest}
use Rattle.httpmsg.specs.Head.{lists_close}
use Rattle.httpmsg.proofs.Commas.{close_here, close_later, close_whole}
use Rattle.httpmsg.proofs.head.lists_close.Goals.{Then-is_close, Else-is_close}
use Rattle.httpmsg.proofs.head.lists_close.Goals as goal

pub returns-then-is_close : goal.returns-then-is_close
returns-then-is_close c =
    sym (close_here c.loop-comma.rest.now c.in-Some.comma (sym c.first_comma.ensures.at ∙ c.in-Some.is) (sym c.is_close.ensures ∙ c.if-is_close.true))
    ∙ c.loop-comma.invariant

pub loop-comma-preserved : goal.loop-comma-preserved
loop-comma-preserved c =
    let later : lists_close c.loop-comma.rest.now ≡ lists_close (drop (c.in-Some.comma + 1) c.loop-comma.rest.now) =
    close_later c.loop-comma.rest.now c.in-Some.comma (sym c.first_comma.ensures.at ∙ c.in-Some.is) (sym c.is_close.ensures ∙ c.if-is_close.false)
    in simp take_rest (sym later ∙ c.loop-comma.invariant)

pub returns : goal.returns
returns c =
    c.is_close-2.ensures ∙ sym (close_whole c.loop-comma.rest.now (sym c.first_comma.ensures.at ∙ c.in_default.is)) ∙ c.loop-comma.invariant
