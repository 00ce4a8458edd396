use Rattle.std.proofs.Common.{◌≡◌, ◌∙◌, false, length, get_or, ap, sym, arith}
use Rattle.std.proofs.lemmas.List.{get_or_read}
use Rattle.celtokens.specs.Run.{is_in}
use Rattle.celtokens.proofs.Runs.{front_take, beyond_drop}
use Rattle.celtokens.proofs.run.split_run.Goals as goal
use Rattle.celtokens.proofs.run.split_run.Goals.{After-split_at}

-- the character where the run ends
here : (c : After-split_at) → is_in c.args.kind (get_or c.args.chars.now c.loop-i.i 0) ≡ false
here c = ap (is_in c.args.kind) (sym (get_or_read c.args.chars.now c.loop-i.i c.index-chars-i.result c.loop-i-test.true c.index-chars-i.is 0)) ∙ sym c.if-not-is_in.ensures

pub returns-then-not-is_in-clause-run : goal.returns-then-not-is_in-clause-run
returns-then-not-is_in-clause-run c = c.split_at.ensures.front ∙ sym (front_take c.args.kind c.args.chars.now c.loop-i.i (omega arith) c.loop-i.invariant (λ h. here c))

pub returns-then-not-is_in-clause-rest : goal.returns-then-not-is_in-clause-rest
returns-then-not-is_in-clause-rest c = c.split_at.ensures.back ∙ sym (beyond_drop c.args.kind c.args.chars.now c.loop-i.i (omega arith) c.loop-i.invariant (λ h. here c))

pub returns-clause-run : goal.returns-clause-run
returns-clause-run c =
    c.split_at-2.ensures.front ∙ sym (front_take c.args.kind c.args.chars.now (length c.args.chars.now) (omega arith) (λ j h. c.loop-i.invariant j (omega arith)) (λ h. absurd (omega arith)))

pub returns-clause-rest : goal.returns-clause-rest
returns-clause-rest c =
    c.split_at-2.ensures.back ∙ sym (beyond_drop c.args.kind c.args.chars.now (length c.args.chars.now) (omega arith) (λ j h. c.loop-i.invariant j (omega arith)) (λ h. absurd (omega arith)))
