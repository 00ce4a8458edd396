-- The reading that the code's enum stands for.
use Rattle.std.specs.Prelude.{◌≡◌}
use Rattle.names.specs.declared.format.Format.{Format}
use Rattle.httpmsg.specs.Stream.{Message}
use Rattle.dialect.specs.declared.reading.Reading as code
use Rattle.dialect.specs.declared.reading.Reading.TheVariants.{Plain, Restated, Constant}
use Rattle.dialect.specs.Restated.{Reading, asks, constant, reading_of}

-- where the message that was read is this one
abbrev pub reading_seen : Message → code.Reading → Reading
reading_seen m Plain = asks m
reading_seen m (Restated other) = asks other
reading_seen m (Constant text) = constant text.now

-- A message that was restated is not restated again: where it is read, it is asked as it is.
abbrev pub IsReadOnce : Format → code.Reading → Type 0
IsReadOnce f Plain = Unit {0}
IsReadOnce f (Restated other) = reading_of f other ≡ asks other
IsReadOnce f (Constant text) = Unit {0}
