-- What a checkpoint keeps of a view, as entries: each a key with what stands under it. Numbers are unsigned, the highest byte first.
use Rattle.std.specs.Prelude.{ℕ, ◌*◌, ◌==◌, Bool, false, List, [], ◌∷◌, ◌++◌, length, map, take, drop}
use Rattle.std.specs.Int.{div_ceil}
use Rattle.std.specs.List.{flat_map, range_with_len}
use Rattle.byteorder.specs.Endian.{big_bytes}
use Rattle.fields.specs.Field.{field}
use Rattle.jsondoc.specs.Json.{text}
use Rattle.names.specs.Key.{Key, key_bytes}
use Rattle.window.specs.declared.event.Change.{Change}
use Rattle.window.specs.declared.event.Change.TheVariants.{Added, Modified, Deleted}
use Rattle.window.specs.declared.event.Event.{Event}
use Rattle.documents.specs.Document.{Document}
use Rattle.histories.specs.declared.stored.Stored.{Stored}
use Rattle.histories.specs.View.{View}
use Rattle.pages.specs.Page.{Entry}

-- An object: 1 and its key's bytes. Under them stand the revision of its last write, in eight bytes, and its document's text.
abbrev pub object_entry : Key → Document → (revision : ℕ) → Entry
object_entry k d revision = (1 ∷ key_bytes k, big_bytes 8 revision ++ text d.json)

-- the key is that of an object's entry
abbrev pub is_object_key : List ℕ → Bool
is_object_key [] = false
is_object_key (mark ∷ rest) = mark == 1

-- The plans of a policy, in pieces of 16384 bytes, of which the last may have fewer. A piece: 2, the policy's name, a zero byte, and which
-- piece it is, from 0, in two bytes. Under them stand its bytes.
abbrev pub plan_entry : Key → (plans : List ℕ) → (piece : ℕ) → Entry
plan_entry k plans piece = ((2 ∷ k.name) ++ 0 ∷ big_bytes 2 piece, take 16384 (drop (16384 * piece) plans))

-- Each of the pieces. Of no bytes there are none.
abbrev pub plan_entries : Key → (plans : List ℕ) → List Entry
plan_entries k plans = map (plan_entry k plans) (range_with_len 0 (div_ceil (length plans) 16384))

-- How an event changed what is stored.
abbrev pub change_number : Change → ℕ
change_number Added = 1
change_number Modified = 2
change_number Deleted = 3

-- An event: 3 and its revision in eight bytes. Under them stand the number of its change, its key's bytes with their number in two bytes in
-- front, and its document's text.
abbrev pub event_entry : Event Document → Entry
event_entry e = (3 ∷ big_bytes 8 e.revision, (change_number e.change ∷ field 2 (key_bytes e.key)) ++ text e.document.json)

-- ---- all of a view

module _ {P : Type 0} where
  abbrev pub stored_entry : Key × Stored P → Entry
  stored_entry o = object_entry o.0 o.1.document o.1.revision

  -- the plans of objects, where this gives the bytes of an object's plans, which are none but for a policy
  abbrev pub plans_among : (plans : Key × Stored P → List ℕ) → List (Key × Stored P) → List Entry
  plans_among plans objects = flat_map (λ o. plan_entries o.0 (plans o)) objects

  -- the objects, the plans of the policies among them, and the last events
  abbrev pub entries_of : (plans : Key × Stored P → List ℕ) → View P → List Entry
  entries_of plans v = map stored_entry v.objects ++ (plans_among plans v.objects ++ map event_entry v.events)
