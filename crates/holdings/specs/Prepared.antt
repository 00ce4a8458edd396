-- A write that has all its memory, and where it may be taken.
use Rattle.std.specs.Prelude.{◌≡◌, ◌+◌, ◌-◌, ◌^◌, ◌<◌, List, [], ◌∷◌, Option, Some, None, IsTrue}
use Rattle.names.specs.Key.{Key}
use Rattle.histories.specs.declared.stored.Stored.{Stored}
use Rattle.histories.specs.History.{Write, put, delete}
use Rattle.histories.specs.View.{View, exists, change_at, document_at}
use Rattle.holdings.specs.Holdings.{State}
use Rattle.holdings.specs.Writes.{Put, Deletion}
use Rattle.holdings.specs.declared.prepared.PreparedWrite.{PreparedWrite}
use Rattle.holdings.specs.declared.prepared.PreparedWrite.TheVariants as prepared

module _ {P : Type 0} where
  abbrev pub puts : Key → Option (Stored P) → List (Write P)
  puts k None = []
  puts k (Some s) = put k s.document s.beside ∷ []

  -- the write that a prepared one makes
  abbrev pub write_of : PreparedWrite P → List (Write P)
  write_of (prepared.Put p) = puts p.key p.stored
  write_of (prepared.Delete d) = delete d.key ∷ []

  -- the writes of a prepared step, which makes one or none
  abbrev pub writes_of : Option (PreparedWrite P) → List (Write P)
  writes_of None = []
  writes_of (Some w) = write_of w

-- A put is the next write of a view: what is to stand there has the next revision, and it is known whether it changes an object.
pub record IsNextPut {P : Type 0} (v : View P) (p : Put P) : Type 0 where
  pub put : Stored P
  pub stored : p.stored ≡ Some put
  pub revision : put.revision ≡ v.revision + 1
  pub change : p.change ≡ change_at v p.key

-- So is a deletion, of an object that is there.
pub record IsNextDeletion {P : Type 0} (v : View P) (d : Deletion) : Type 0 where
  pub there : IsTrue (exists v d.key)
  pub document : d.document ≡ document_at v d.key

abbrev pub AreNext : {P : Type 0} → View P → Option (PreparedWrite P) → Type 0
AreNext v None = Unit {0}
AreNext v (Some (prepared.Put p)) = IsNextPut v p
AreNext v (Some (prepared.Delete d)) = IsNextDeletion v d

-- There is room for a write: for a key, for one object more, and for its revision.
pub record HasRoom {P : Type 0} (s : State P) : Type 0 where
  pub key : 0 < s.changes.room
  pub count : s.changes.count < 2 ^ 64 - 1
  pub revision : s.revision < s.rules.greatest_revision

-- so there is for that of a prepared step, if it makes one
abbrev pub HasRoomFor : {P : Type 0} → State P → Option (PreparedWrite P) → Type 0
HasRoomFor s None = Unit {0}
HasRoomFor s (Some w) = HasRoom s
