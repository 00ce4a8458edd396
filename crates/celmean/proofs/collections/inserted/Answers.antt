use Rattle.std.proofs.Common.{◌∙◌, sym, ap}
use Rattle.celmean.specs.Seen.{value_of, entry_seen, entries_seen}
use Rattle.celmean.proofs.Places.{map-insert}
use Rattle.celmean.proofs.collections.inserted.Goals as goal

pub returns : goal.returns
returns c =
    ap entries_seen c.in_ok-insert.ensures.items ∙ (map-insert entry_seen c.args.entries.items c.place_of-place.result (c.args.key, c.args.value)
    ∙ sym (c.place_of-place.ensures.place (value_of c.args.value)))
