-- What a core shows over a source, as looks and prepared writes leave it.
use Rattle.std.proofs.Common.{List}
use Rattle.names.specs.Key.{Key}
use Rattle.histories.specs.declared.stored.Stored.{Stored}
use Rattle.histories.specs.View as seen
use Rattle.holdings.specs.Holdings.{State}
use Rattle.decoded.specs.Decoded.{Decoded}
use Rattle.decoded.specs.Shown.{IsOver}
use Rattle.decoded.specs.Standing.{View}

abbrev Base : Type 0
Base = List (Key × Stored Decoded)

-- over another source, or the same after looks, which holds what the first one does
pub over_kept : (first second : Base → Type 0) (core : State Decoded) (held : seen.View Decoded) (v : View) → ((base : Base) → first base → second base) → IsOver first core held v
    → IsOver second core held v
over_kept first second core held v kept over = record {
  base = over.base;
  below = kept over.base over.below;
  shows = over.shows;
  plans = over.plans;
  free = over.free;
  seen = over.seen;
}
