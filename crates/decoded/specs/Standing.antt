-- Histories with trees: what stands in each document.
use Rattle.std.specs.Prelude.{◌≡◌, true, ℕ, ◌+◌, ◌*◌, ◌≤◌, List, [], ◌∷◌, length, IsTrue}
use Rattle.std.specs.FinMap.{is_sorted}
use Rattle.std.specs.List.{AllByRecursion}
use Rattle.serde_json.specs.Data.{Data}
use Rattle.celtree.specs.Tree.{Expr}
use Rattle.jsondoc.specs.Json.{text}
use Rattle.names.specs.Format.{has_resource}
use Rattle.names.specs.declared.format.Format.{Format}
use Rattle.names.specs.declared.format.Rules.{Rules}
use Rattle.names.specs.declared.resource.Resource.{Resource}
use Rattle.names.specs.Key.{key_cmp}
use Rattle.documents.specs.Document.{Document}
use Rattle.histories.specs.History as plain
use Rattle.histories.specs.History.{put, delete}
use Rattle.histories.specs.Mapped.{mapped, mapped_write}
use Rattle.histories.specs.View as seen
use Rattle.histories.specs.View.{after, empty}
use Rattle.expressions.specs.Specification.{IsSpecification, Spells, sound, these, plans_in, plans_bytes, MayHavePlans}
use Rattle.decoded.specs.Decoded.{Decoded, decoded_of}

-- A write puts a document with the trees of its expressions, or deletes.
abbrev pub Write : Type 0
Write = plain.Write (List Expr)

abbrev pub History : Type 0
History = List Write

abbrev pub View : Type 0
View = seen.View (List Expr)

-- The expressions of the document spell these trees, with types as they must have in this format, and no others; plans of them can be held, and have few
-- bytes.
pub record HasTrees (f : Format) (r : Resource) (d : Data) (trees : List Expr) : Type 0 where
  pub spelled : IsSpecification f r d (sound trees)
  pub alone : (other : List Expr) → Spells r d other → other ≡ trees
  pub held : MayHavePlans r d (these (plans_in d trees))
  pub short : length (plans_bytes r (these (plans_in d trees))) ≤ 2 + 22 * length (text d)

abbrev pub PutsTrees : Format → Write → Type 0
PutsTrees f (put k d trees) = HasTrees f k.resource d.json trees
PutsTrees f (delete k) = Unit {0}

-- the write may follow a history of which v is seen, and puts the trees of its document
abbrev pub MayFollow : Rules → View → Write → Type 0
MayFollow rules v w = seen.MayFollow rules v w × PutsTrees rules.format w

abbrev pub AllMayFollow : Rules → View → List Write → Type 0
AllMayFollow rules v [] = Unit {0}
AllMayFollow rules v (w ∷ ws) = MayFollow rules v w × AllMayFollow rules (after rules v w) ws

-- a list of writes that a store may have taken
abbrev pub IsHistory : Rules → History → Type 0
IsHistory rules h = AllMayFollow rules empty h

-- each object has the trees of its document
abbrev pub HaveTrees : Format → View → Type 0
HaveTrees f v = AllByRecursion (λ o. HasTrees f o.0.resource o.1.document.json o.1.beside) v.objects

-- A view as histories in a format have it: the keys ascend, each object is of a resource of the format, and has the trees of its document.
pub record IsView (f : Format) (v : View) : Type 0 where
  pub ascends : IsTrue (is_sorted key_cmp v.objects)
  pub served : AllByRecursion (λ o. has_resource f o.0.resource ≡ true) v.objects
  pub trees : HaveTrees f v

-- ---- with plans for trees, as the code holds them and as a record does

abbrev pub plans_beside : Document → List Expr → Decoded
plans_beside d trees = decoded_of d.json trees

abbrev pub with_plans : View → seen.View Decoded
with_plans v = mapped plans_beside v

abbrev pub write_with_plans : Write → plain.Write Decoded
write_with_plans w = mapped_write plans_beside w

-- a put as a record holds it: with the bytes of its plans
abbrev pub recorded : plain.Write Decoded → plain.Write (List ℕ)
recorded (put k d b) = put k d (plans_bytes k.resource b.plans)
recorded (delete k) = delete k
