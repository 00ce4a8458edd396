use Rattle.std.proofs.Common.{◌≡◌, ◌+◌, ◌-◌, length, take, drop, ap, ◌∙◌, arith, rules, length-drop, take_all}
use Rattle.std.proofs.lemmas.List.Edits.{take-paste}
use lib.Seq.{paste}
use Rattle.httpmsg.proofs.cutter.remove_front.Goals as goal

pub returns : goal.returns
returns c =
    let all = c.args.bytes.now.items in
    let left = c.len-len.result - c.args.count in
    let long : length all ≡ c.len-len.result = search rules in
    let same : left ≡ 0 + left = omega arith in
    let rest : length (drop c.args.count all) ≡ left = omega (arith, length-drop c.args.count all) in
    c.truncate.ensures.items ∙ ap (take left) c.copy_within.ensures.items
    ∙ ap (λ k. take k (paste all 0 (drop c.args.count all) left)) same ∙ take-paste all 0 (drop c.args.count all) left (omega arith) (omega arith)
    ∙ take_all left (drop c.args.count all) (omega arith)
