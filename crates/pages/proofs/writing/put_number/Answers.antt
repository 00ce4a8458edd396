use Rattle.std.proofs.Common.{arith, ◌≡◌, ◌∙◌, sym, ap, length, slice_index, add-zero}
use Rattle.pages.proofs.Bytes.{number_put}
use Rattle.pages.proofs.writing.put_number.Goals as goal

pub returns-clause-number : goal.returns-clause-number
returns-clause-number c =
    let two = c.write_u16.new.buf in
    let new = c.put.new.bytes in
    let at = c.args.at in
    let long : length two ≡ 2 = ap length c.write_u16.ensures in
    let first : slice_index new at ≡ slice_index two 0 =
    ap (slice_index new) (sym (add-zero at)) ∙ c.put.ensures.inside 0 (omega (arith, long))
    in
    number_put at c.args.number two new c.requires.small c.write_u16.ensures first (c.put.ensures.inside 1 (omega (arith, long)))
