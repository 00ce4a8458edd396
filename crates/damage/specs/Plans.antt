-- Whose plans are not those of its own expressions.
use Rattle.std.specs.Prelude.{◌≡◌, ◌≢◌, ℕ, List, Contains}
use Rattle.celtree.specs.Tree.{Expr}
use Rattle.gatelog.specs.Log.{HoldsLog}
use Rattle.names.specs.declared.format.Format.{Format}
use Rattle.names.specs.Key.{Key}
use Rattle.documents.specs.Document.{Document}
use Rattle.roots.specs.declared.root.Root.{Root}
use Rattle.roots.specs.Root.{log_sector}
use Rattle.checkpoint.specs.Pages.{joined, pages_of_root}
use Rattle.histories.specs.declared.stored.Stored.{Stored}
use Rattle.histories.specs.View.{View}
use Rattle.histories.specs.History.{Write, put}
use Rattle.records.specs.Payload.{payload, IsGroup}
use Rattle.records.specs.Entries.{entries_of}
use Rattle.records.specs.EntryLaws.{bytes_beside}
use Rattle.chunks.specs.Chunks.{cut}
use Rattle.expressions.specs.Specification.{IsSpecification, sound, these, plans_in, plans_bytes}

-- The bytes are not those of the plans of the expressions that stand in an object: whatever trees these spell, theirs are others.
abbrev pub AreOthers : Format → Key → Document → (bytes : List ℕ) → Type 0
AreOthers format key document bytes =
    (trees : List Expr) → IsSpecification format key.resource document.json (sound trees) → plans_bytes key.resource (these (plans_in document.json trees)) ≢ bytes

-- Other plans stand beside the object with this key, which is one of these.
pub record StandBeside (format : Format) (objects : List (Key × Stored (List ℕ))) (key : Key) : Type 0 where
  pub stored : Stored (List ℕ)
  pub there : Contains objects (key, stored)
  pub others : AreOthers format key stored.document stored.beside

-- One of these writes puts an object under this key with other plans.
pub record ArePut (format : Format) (writes : List (Write (List ℕ))) (key : Key) : Type 0 where
  pub document : Document
  pub plans : List ℕ
  pub there : Contains writes (put key document plans)
  pub others : AreOthers format key document plans

-- So does one of the writes of this payload.
abbrev pub ArePutIn : Format → (bytes : List ℕ) → Key → Type 0
ArePutIn format bytes key = (writes : List (Write (List ℕ))) × IsGroup writes × (payload writes ≡ bytes) × ArePut format writes key

-- The pages of the root have the entries of a view, and other plans stand there beside the object with this key.
pub record HasOtherPlans (content : List ℕ) (root : Root) (key : Key) : Type 0 where
  pub view : View (List ℕ)
  pub are : cut root.label.format (entries_of bytes_beside view) ≡ joined (pages_of_root root content)
  pub beside : StandBeside root.label.format view.objects key

-- Behind the pages of the root stands a log, and a record of it puts an object under this key with other plans.
pub record PutsOtherPlans (content : List ℕ) (root : Root) (key : Key) : Type 0 where
  pub payloads : List (List ℕ)
  pub last : ℕ
  pub log : HoldsLog (log_sector root) payloads last content
  pub bytes : List ℕ
  pub among : Contains payloads bytes
  pub put_in : ArePutIn root.label.format bytes key
