use Rattle.std.proofs.Common.{arith, ◌≡◌, ◌∙◌, sym, ap, ◌+◌, ◌++◌, ◌∷◌, [], ℕ, List, map}
use Rattle.std.proofs.lemmas.List.FromFn.{map-range_with_len_more}
use Rattle.std.specs.List.{range_with_len}
use Rattle.pages.specs.Page.{Entry}
use Rattle.records.specs.Entries.{plan_entry}
use Rattle.records.proofs.plans.plan_entries.Goals as goal

pub loop-number-preserved : goal.loop-number-preserved
loop-number-preserved c =
    let n : ℕ = c.loop-number.number in
    let piece = plan_entry c.args.key.now c.args.plans.now in
    let more : map piece (range_with_len 0 (n + 1)) ≡ map piece (range_with_len 0 n) ++ piece n ∷ [] = map-range_with_len_more piece 0 n n (omega arith) in
    c.in_ok-push.ensures.items
    ∙ ap (λ (es : List Entry). es ++ c.in_ok-piece_entry.field-0 ∷ []) c.loop-number.invariant
    ∙ ap (λ (e : Entry). map piece (range_with_len 0 n) ++ e ∷ []) c.in_ok-piece_entry.ensures
    ∙ sym more
