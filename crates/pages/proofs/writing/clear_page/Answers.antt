use Rattle.std.proofs.Common.{arith, ◌≡◌, ◌≤◌, ◌∙◌, ap, ℕ, length, slice_index, take, codes}
use Rattle.pages.proofs.Bytes.{part_is}
use Rattle.pages.proofs.Clearing.{replicate-zero, built_empty, entries_empty}
use Rattle.pages.proofs.writing.clear_page.Goals as goal

pub returns : goal.returns
returns c =
    let bytes = c.put.new.bytes in
    let whole : length bytes ≡ 32768 = omega (arith, c.fill.ensures.len) in
    let mark : take 4 bytes ≡ codes "PAGE" = part_is 0 (codes "PAGE") bytes (omega (arith, whole)) c.put.ensures.inside in
    let zeros : (k : ℕ) → 4 ≤ k → slice_index bytes k ≡ 0 =
    λ k low. c.put.ensures.above k low ∙ ap (λ x. slice_index x k) (c.fill.ensures.after (λ y same. same))
    ∙ replicate-zero (length c.args.bytes.now) k
    in
    record { built = built_empty bytes whole mark zeros; entries = entries_empty bytes whole mark zeros }
