-- Documents (RFC 8259): JSON values whose numbers are all whole and in 64 signed bits.
use Rattle.std.specs.Prelude.{◌≡◌, ℕ, List, Bool, true, ◌&&◌, if◌then◌else◌, Option, Some, None, is_some}
use Rattle.std.specs.Ordering.{nat_cmp, match_ordering}
use Rattle.std.specs.Cmp.Lexicographic.{slice_cmp}
use Rattle.std.specs.Str.{is_utf8}
use Rattle.serde_json.specs.Data.{Data, null, boolean, number, string, array, object, Items, no_items, item, Members, no_members, member, put}
use Rattle.serde_json.specs.Find.{as_i64}
use Rattle.serde_json.specs.Read.{read}
use Rattle.serde_json.specs.Written.{compact_text}

-- Each number in the value is whole and in i64. A number spelled with a fraction or an exponent, or as `-0`, is a float
-- in `Data` and so not whole.
abbrev mutual
  pub is_whole : Data → Bool
  is_whole null = true
  is_whole (boolean b) = true
  is_whole (number n) = is_some (as_i64 n)
  is_whole (string s) = true
  is_whole (array ds) = items_are_whole ds
  is_whole (object ms) = members_are_whole ms

  pub items_are_whole : Items → Bool
  items_are_whole no_items = true
  items_are_whole (item d ds) = is_whole d && items_are_whole ds

  pub members_are_whole : Members → Bool
  members_are_whole no_members = true
  members_are_whole (member k d ms) = is_whole d && members_are_whole ms

-- the text of a document: no blanks, members ascending by the bytes of their names, the escapes of `Escapes`
abbrev pub text : Data → List ℕ
text d = compact_text d

-- the JSON value that bytes are, if they are one; of equal members the last stays
abbrev pub json_of : List ℕ → Option Data
json_of bytes = if is_utf8 bytes then read bytes else None

-- what bytes are read as
pub data Reading : Type 0 where
  not_json : Reading
  not_whole : Reading
  document : Data → Reading

abbrev pub reading_of : Option Data → Reading
reading_of None = not_json
reading_of (Some d) = if is_whole d then document d else not_whole

abbrev pub reading : List ℕ → Reading
reading bytes = reading_of (json_of bytes)

-- A document whose text reads back to it: its numbers are whole, it nests at most 127 deep, its members ascend and have
-- names of their own.
abbrev pub IsDocument : Data → Type 0
IsDocument d = reading (text d) ≡ document d

-- the object with d as this member; what is no object stays
abbrev pub with_member : List ℕ → Data → Data → Data
with_member name d null = null
with_member name d (boolean b) = boolean b
with_member name d (number n) = number n
with_member name d (string s) = string s
with_member name d (array ds) = array ds
with_member name d (object ms) = object (put name d ms)

-- the members but those of this name
abbrev pub without : List ℕ → Members → Members
without name no_members = no_members
without name (member k d ms) =
    match_ordering (slice_cmp nat_cmp name k) (member k d (without name ms)) (without name ms) (member k d (without name ms))

-- the object without this member; what is no object stays
abbrev pub without_member : List ℕ → Data → Data
without_member name null = null
without_member name (boolean b) = boolean b
without_member name (number n) = number n
without_member name (string s) = string s
without_member name (array ds) = array ds
without_member name (object ms) = object (without name ms)

abbrev pub with_item_at_end : Data → Items → Items
with_item_at_end d no_items = item d no_items
with_item_at_end d (item e ds) = item e (with_item_at_end d ds)

-- the list with d at its end; what is no list stays
abbrev pub with_item : Data → Data → Data
with_item d null = null
with_item d (boolean b) = boolean b
with_item d (number n) = number n
with_item d (string s) = string s
with_item d (array ds) = array (with_item_at_end d ds)
with_item d (object ms) = object ms
