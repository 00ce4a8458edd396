use Rattle.std.proofs.Common.{arith, ◌≡◌, ◌∙◌, ap}
use Rattle.pages.specs.Page.{number_at, key_size}
use Rattle.pages.proofs.Slots.{cell_inside, slots_inside}
use Rattle.pages.proofs.cells.read_value.Goals as goal

pub read_offset-at-requires : goal.read_offset-at-requires
read_offset-at-requires c = omega (arith, slots_inside c.args.bytes.now c.requires.slots)

pub read_number-key_size-requires : goal.read_number-key_size-requires
read_number-key_size-requires c =
    let inside = cell_inside c.args.bytes.now c.requires.slots c.args.i c.requires.inside in
    omega (arith, c.read_offset-at.ensures.number, c.requires.cells c.args.i c.requires.inside)

pub part-requires : goal.part-requires
part-requires c =
    let bytes = c.args.bytes.now in
    let inside = cell_inside bytes c.requires.slots c.args.i c.requires.inside in
    let found : c.read_number-key_size.result ≡ key_size c.args.i bytes =
    c.read_number-key_size.ensures.number ∙ ap (λ at. number_at at bytes) c.read_offset-at.ensures.number
    in
    omega (arith, c.requires.cells c.args.i c.requires.inside)
