-- What lies in the pages of a store.
use Rattle.std.specs.Prelude.{Bool, not, List, []}
use Rattle.device.specs.Disk.{Disk}
use Rattle.names.specs.declared.resource.Resource.{Resource}
use Rattle.names.specs.Key.{Key}
use Rattle.documents.specs.Document.{Document}
use Rattle.histories.specs.declared.stored.Stored.{Stored}
use Rattle.histories.specs.View as seen
use Rattle.policy.specs.Matching.{is_guarded}
use Rattle.snapshots.specs.declared.object_cache.ObjectCache.{ObjectCache}
use Rattle.snapshots.specs.Base.{Lies}
use Rattle.snapshots.specs.LyingBelow as snapshots
use Rattle.expressions.specs.Specification.{these}
use Rattle.decoded.specs.Decoded.{Decoded, spelled}
use Rattle.paged.specs.declared.without_plans.WithoutPlans.{WithoutPlans}

-- policies and bindings are held in memory
abbrev pub is_rule : Resource → Bool
is_rule r = not (is_guarded r)

-- beside a document that lies in a page stands what it spells, and no plans
abbrev pub made_bare : WithoutPlans → Document → Decoded
made_bare bare d = spelled d.json (these [])

abbrev pub held_bare : WithoutPlans → Resource → Bool
held_bare bare r = is_rule r

-- all others lie in pages
abbrev pub lies : Resource → Bool
lies r = not (is_rule r)

-- the objects of a view that lie in pages
abbrev pub base_of : seen.View Decoded → List (Key × Stored Decoded)
base_of held = snapshots.base_of (λ r. not (is_rule r)) held

-- These objects lie in pages, with what their documents spell.
abbrev pub LiesBelow : {D : Type 0} → (disk : Disk D) → D → ObjectCache → List (Key × Stored Decoded) → Type 0
LiesBelow disk device cache base = (bare : WithoutPlans) → Lies made_bare held_bare disk device cache bare base
