use Rattle.std.proofs.Common.{◌≡◌, ◌≢◌, length, [], true, false, arith, ap, sym, ◌∙◌, inl, inr}
use Rattle.std.specs.Prelude.{◌==◌}
use Rattle.std.proofs.lemmas.Bool.Decides.{nat_tests}
use Rattle.httpmsg.proofs.Cuts.{awaits_first, awaits_head, never_ends}
use Rattle.httpmsg.proofs.cut.next_message.Goals as goal

pub returns-then-is_empty : goal.returns-then-is_empty
returns-then-is_empty c =
    let test : (length c.args.bytes.now == 0) ≡ true = sym c.is_empty.ensures ∙ c.if-is_empty.true in
    let none : length c.args.bytes.now ≡ 0 = grind (arith, nat_tests) in
    awaits_first c.args.bytes.now none

pub returns-in-Unfinished : goal.returns-in-Unfinished
returns-in-Unfinished c =
    let front = c.in-Unfinished.ensures in awaits_head c.args.bytes.now front.0 (inr (inl (front.0, front.1))) front.2

pub returns-in-Never : goal.returns-in-Never
returns-in-Never c =
    let test : (length c.args.bytes.now == 0) ≡ false = sym c.is_empty.ensures ∙ c.if-is_empty.false in
    let some : c.args.bytes.now ≢ [] = λ e. let none : (length c.args.bytes.now == 0) ≡ true = ap (λ x. length x == 0) e in cc in
    never_ends c.args.bytes.now some c.in-Never.ensures
