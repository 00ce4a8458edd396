-- The same history with something else beside each document.
use Rattle.std.specs.Prelude.{List, map}
use Rattle.names.specs.Key.{Key}
use Rattle.documents.specs.Document.{Document}
use Rattle.histories.specs.declared.stored.Stored.{Stored}
use Rattle.histories.specs.History.{Write, put, delete}
use Rattle.histories.specs.View.{View}

module _ {A B : Type 0} (f : Document → A → B) where
  abbrev pub one : Stored A → Stored B
  one s = record { document = s.document; beside = f s.document s.beside; revision = s.revision }

  abbrev pub each : List (Key × Stored A) → List (Key × Stored B)
  each os = map (λ o. (o.0, one o.1)) os

  abbrev pub mapped : View A → View B
  mapped v = record { objects = each v.objects; revision = v.revision; events = v.events }

  abbrev pub mapped_write : Write A → Write B
  mapped_write (put k d b) = put k d (f d b)
  mapped_write (delete k) = delete k
