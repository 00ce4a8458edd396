-- The first five sectors show the roots of the whole content.
use Rattle.std.proofs.Common.{◌≡◌, ◌+◌, ◌-◌, ◌*◌, ◌<◌, ◌≤◌, ℕ, List, length, take, drop, ap, sym, ◌∙◌, subst, arith}
use Rattle.std.specs.Prelude.{slice_index}
use Rattle.std.proofs.lemmas.List.{drop-take, take-take, get_or-take}
use Rattle.gatelog.specs.Record.{part}
use Rattle.roots.specs.declared.root.Slot.{Slot}
use Rattle.roots.specs.declared.root.Slot.TheVariants.{A, B}
use Rattle.roots.specs.declared.root.Root.{Root}
use Rattle.roots.specs.Root.{root_sector, gate_sector, other, IsHeader, IsRoot, IsOpenRoot, Counts, log_sector, HoldsRoot}
use Rattle.roots.proofs.Counting.{one_counts}

unfoldable pub front_of : List ℕ → List ℕ
front_of content = take 2560 content

-- what a read of the first five sectors gives
pub shown : (content now buffer : List ℕ) → buffer ≡ take 2560 now → now ≡ content → buffer ≡ front_of content
unfolding front_of
shown content now buffer read same = read ∙ ap (take 2560) same

part_of_take : (at n size : ℕ) (content : List ℕ) → at + n ≤ size → part at n (take size content) ≡ part at n content
part_of_take at n size content inside =
    let whole : at + (size - at) ≡ size = omega arith in
    let short : n ≤ size - at = omega arith in
    ap (λ s. take n (drop at (take s content))) (sym whole) ∙ ap (take n) (drop-take at (size - at) content) ∙ take-take n (size - at) (drop at content) short

part_of_front : (at n : ℕ) (content : List ℕ) → at + n ≤ 2560 → part at n (front_of content) ≡ part at n content
unfolding front_of
part_of_front at n content inside = part_of_take at n 2560 content inside

byte_of_front : (k : ℕ) (content : List ℕ) → k < 2560 → slice_index (front_of content) k ≡ slice_index content k
unfolding front_of
byte_of_front k content inside = get_or-take 2560 content k 0 inside

gate_is : (slot : Slot) (content : List ℕ) → slice_index (front_of content) (512 * gate_sector slot) ≡ slice_index content (512 * gate_sector slot)
gate_is A content = byte_of_front 1024 content (omega arith)
gate_is B content = byte_of_front 2048 content (omega arith)

sector_is : (slot : Slot) (content : List ℕ) → part (512 * root_sector slot) 512 (front_of content) ≡ part (512 * root_sector slot) 512 content
sector_is A content = part_of_front 512 512 content (omega arith)
sector_is B content = part_of_front 1536 512 content (omega arith)

open_to_front : (content : List ℕ) (root : Root) → IsOpenRoot content root → IsOpenRoot (front_of content) root
open_to_front content root stands =
    let Spelled : List ℕ → Type 0 = λ x. IsRoot root x in
    record { is_open = gate_is root.slot content ∙ stands.is_open; spelled = subst Spelled (sym (sector_is root.slot content)) stands.spelled }

open_from_front : (content : List ℕ) (root : Root) → IsOpenRoot (front_of content) root → IsOpenRoot content root
open_from_front content root stands =
    let Spelled : List ℕ → Type 0 = λ x. IsRoot root x in
    record { is_open = sym (gate_is root.slot content) ∙ stands.is_open; spelled = subst Spelled (sector_is root.slot content) stands.spelled }

pub counts_to_front : (content : List ℕ) (root : Root) → Counts content root → Counts (front_of content) root
counts_to_front content root counts = record {
  stands = open_to_front content root counts.stands;
  greater = λ opens.
      let found = counts.greater (sym (gate_is (other root.slot) content) ∙ opens) in
      (found.0, found.1, open_to_front content found.0 found.2, found.3);
}

pub counts_from_front : (content : List ℕ) (root : Root) → Counts (front_of content) root → Counts content root
counts_from_front content root counts = record {
  stands = open_from_front content root counts.stands;
  greater = λ opens.
      let found = counts.greater (gate_is (other root.slot) content ∙ opens) in
      (found.0, found.1, open_from_front content found.0 found.2, found.3);
}

-- the first sector of the front is that of the content
pub header_of_front : (content : List ℕ) → part 0 512 (front_of content) ≡ part 0 512 content
header_of_front content = part_of_front 0 512 content (omega arith)

-- the first sector that a read of the front shows
pub first_shown : (content now buffer sector : List ℕ) → buffer ≡ take 2560 now → now ≡ content → sector ≡ part 0 512 buffer → sector ≡ part 0 512 content
first_shown content now buffer sector read same first = first ∙ ap (part 0 512) (shown content now buffer read same) ∙ header_of_front content

-- what the front and the length show of the root that the content holds
pub holds_from_front : (content : List ℕ) (root : Root) (sectors : ℕ) → length content ≡ 512 * sectors → IsHeader (part 0 512 (front_of content))
    → Counts (front_of content) root → log_sector root + 1 ≤ sectors → HoldsRoot content root
holds_from_front content root sectors size head counts inside =
    let Head : List ℕ → Type 0 = λ x. IsHeader x in
    record { header = subst Head (header_of_front content) head; counts = counts_from_front content root counts; inside = omega (arith, size, inside) }

pub header_in_front : (content : List ℕ) (root : Root) → HoldsRoot content root → IsHeader (part 0 512 (front_of content))
header_in_front content root holds = let Head : List ℕ → Type 0 = λ x. IsHeader x in subst Head (sym (header_of_front content)) holds.header

-- a device of fewer than nine sectors holds no root
pub too_short : (content : List ℕ) (root : Root) (sectors : ℕ) → length content ≡ 512 * sectors → sectors < 9 → HoldsRoot content root → ⊥
too_short content root sectors size few holds = omega (arith, size, few, holds.inside, holds.counts.stands.spelled.in_data)

-- the root that counts lies past the end, so no other one counts and lies inside
pub past_the_end : (content : List ℕ) (root : Root) (sectors : ℕ) → length content ≡ 512 * sectors → Counts (front_of content) root
    → (log_sector root + 1 ≤ sectors → ⊥) → (held : Root) → HoldsRoot content held → ⊥
past_the_end content root sectors size counts outside held holds =
    let same : held ≡ root = one_counts content held root holds.counts (counts_from_front content root counts) in
    let start : log_sector held ≡ log_sector root = ap log_sector same in
    outside (omega (arith, size, start, holds.inside))

-- no root counts in the front
pub none_in_front : (content : List ℕ) → ((root : Root) → Counts (front_of content) root → ⊥) → (held : Root) → HoldsRoot content held → ⊥
none_in_front content none held holds = none held (counts_to_front content held holds.counts)
