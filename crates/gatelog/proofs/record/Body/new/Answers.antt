use Rattle.std.proofs.Common.{rules, arith, ◌≡◌, ◌∙◌, ap, ℕ, List, replicate, slice_index}
use Rattle.gatelog.proofs.Gathering.{replicate-zero, big_number-zeros}
use Rattle.gatelog.proofs.record.Body.new.Goals as goal

pub invariant_of-result : goal.invariant_of-result
invariant_of-result c =
    let bytes = c.in_ok-vec.field-0.items in
    let made : bytes ≡ replicate 1024 0 = search rules in
    let zeros = λ (k : ℕ). ap (λ (x : List ℕ). slice_index x k) made ∙ replicate-zero 1024 k in
    record { limit = omega arith; size = search rules; length_field = big_number-zeros bytes zeros; zeros = λ k high. zeros k }
