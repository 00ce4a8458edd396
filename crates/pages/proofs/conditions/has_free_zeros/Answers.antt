use Rattle.std.proofs.Common.{arith, ◌≤◌, ◌+◌, ◌*◌, ◌-◌, ◌↔◌, IsTrue, List, ℕ, length, take, drop, slice_index, subst, ◌≡◌}
use Rattle.std.specs.Prelude.{EachIndex}
use Rattle.pages.specs.Page.{count}
use Rattle.pages.proofs.Slots.{end_inside, end_behind, slots_inside, zeros_of_part, part_of_zeros}
use Rattle.pages.proofs.conditions.has_free_zeros.Goals as goal

pub read_last-requires-clause-slots : goal.read_last-requires-clause-slots
read_last-requires-clause-slots c = omega (arith, slots_inside c.args.bytes.now c.requires.slots)

pub part-requires : goal.part-requires
part-requires c =
    let bytes = c.args.bytes.now in
    let inside = end_inside bytes c.requires.slots.each (count bytes) (omega arith) in
    let behind = end_behind bytes c.requires.slots (count bytes) (omega arith) in
    omega arith

pub returns : goal.returns
returns c =
    let bytes = c.args.bytes.now in
    let from = 8 + 4 * c.read_count.result in
    let size = c.read_last.result - from in
    let IsZero : List ℕ → Type 0 = λ x. IsTrue c.is_zero.result ↔ EachIndex x (λ k. slice_index x k ≡ 0) in
    let answer : IsZero (take size (drop from bytes)) = subst IsZero c.part.ensures c.is_zero.ensures in
    let inside = end_inside bytes c.requires.slots.each (count bytes) (omega arith) in
    let behind = end_behind bytes c.requires.slots (count bytes) (omega arith) in
    let room : from + size ≤ length bytes = omega arith in (
      λ zero k low high. zeros_of_part from size bytes room (answer.0 zero) k (omega arith) (omega arith),
      λ free. answer.1 (part_of_zeros from size bytes room (λ k low high. free k (omega arith) (omega arith))),
    )
