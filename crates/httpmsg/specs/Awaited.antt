-- What must come after the bytes that are pending before more can be told.
use Rattle.std.specs.Prelude.{ℕ, ◌<◌, List, length}
use Rattle.httpmsg.specs.Cut.{Awaits}
use Rattle.httpmsg.specs.Place.{IsAt}
use Rattle.httpmsg.specs.declared.cutter.Awaited.{Awaited}
use Rattle.httpmsg.specs.declared.cutter.Awaited.TheVariants.{Bytes, Head}

-- what is awaited after these bytes: this many in all, or the next one of a head that they begin
abbrev pub IsAwaited : List ℕ → Awaited → Type 0
IsAwaited bytes (Bytes need) = Awaits bytes need
IsAwaited bytes (Head place) = (length bytes < 8192) × IsAt place bytes
