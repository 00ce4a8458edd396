use Rattle.std.proofs.Common.{arith, ◌≡◌, ◌∙◌, sym, ap, ◌+◌, ◌*◌, length}
use Rattle.pages.specs.Page.{number_at, count}
use Rattle.pages.proofs.Building.{IsAdded, built_added, entries_added}
use Rattle.pages.proofs.Bytes.{number_same, part_is}
use Rattle.pages.proofs.writing.add_cell.Goals as goal

pub returns : goal.returns
returns c =
    let old = c.args.bytes.now in
    let slotted = c.put_slot.new.bytes in
    let new = c.put_cell.new.bytes in
    let key = c.args.key.now in
    let value = c.args.value.now in
    let at = c.next_offset-offset.result in
    let place = c.next_offset-offset.ensures in
    let n : c.read_count-count.result ≡ count old = c.read_count-count.ensures.number in
    let slot = c.put_slot.ensures in
    let cell = c.put_cell.ensures in
    let long : length new ≡ 32768 = omega (arith, c.requires.built.mark.whole) in
    let added : IsAdded key value at old new = record {
      long = omega arith;
      ends = place.ends;
      behind = place.behind;
      counted = number_same 4 slotted new (λ k low high. cell.below k (omega arith)) ∙ slot.counted ∙ ap (λ i. i + 1) n;
      begins = number_same (8 + 4 * count old) slotted new (λ k low high. cell.below k (omega arith))
          ∙ ap (λ i. number_at (8 + 4 * i) slotted) (sym n) ∙ slot.offset;
      sized = number_same (10 + 4 * count old) slotted new (λ k low high. cell.below k (omega arith))
          ∙ ap (λ i. number_at (10 + 4 * i) slotted) (sym n) ∙ slot.size;
      key_sized = cell.key_size;
      key_is = part_is (at + 2) key new (omega arith) cell.key;
      value_is = part_is (at + 2 + length key) value new (omega arith) cell.value;
      mark = λ k l. cell.below k (omega arith) ∙ slot.mark k l;
      slots = λ k low l. cell.below k (omega arith) ∙ slot.slots k low (omega arith);
      free = λ k low l. cell.below k l ∙ slot.behind k (omega arith);
      tail = λ k low. cell.above k (omega arith) ∙ slot.behind k (omega arith);
    } in
    record { built = built_added c.requires.built added; entries = entries_added c.requires.built added }
