-- What the core shows.
use Rattle.std.specs.Prelude.{◌≡◌, List, []}
use Rattle.names.specs.declared.resource.Resource.TheVariants.{ValidatingAdmissionPolicy, ValidatingAdmissionPolicyBinding}
use Rattle.names.specs.Key.{Key}
use Rattle.objects.specs.Covered.{AreCovered}
use Rattle.documents.specs.Document.{Document}
use Rattle.histories.specs.declared.stored.Stored.{Stored}
use Rattle.histories.specs.Mapped.{mapped}
use Rattle.histories.specs.View as seen
use Rattle.holdings.specs.Holdings as holdings
use Rattle.holdings.specs.Holdings.{State}
use Rattle.decoded.specs.Decoded.{Decoded}
use Rattle.decoded.specs.Standing.{View, IsView, with_plans}

-- what the core holds beside a document stands as it is
abbrev pub plans_held : Document → Decoded → Decoded
plans_held d beside = beside

-- What is held is a view's: it has the plans of its trees, and what its documents spell.
abbrev pub Shows : seen.View Decoded → View → Type 0
Shows held v = mapped plans_held held ≡ with_plans v

-- No policy and no binding lies below: those are held in memory, with what they spell.
pub record HasNoRules (base : List (Key × Stored Decoded)) : Type 0 where
  pub policies : AreCovered ValidatingAdmissionPolicy [] base
  pub bindings : AreCovered ValidatingAdmissionPolicyBinding [] base

-- Over the objects that lie below, the core shows a view.
pub record ShowsOver (core : State Decoded) (base : List (Key × Stored Decoded)) (v : View) : Type 0 where
  pub held : seen.View Decoded
  pub shows : holdings.Shows core base held
  pub plans : Shows held v
  pub free : HasNoRules base

-- So it does over the objects that a source holds, at a view as histories have it.
pub record IsOver (holds : List (Key × Stored Decoded) → Type 0) (core : State Decoded) (held : seen.View Decoded) (v : View) : Type 0 where
  pub base : List (Key × Stored Decoded)
  pub below : holds base
  pub shows : holdings.Shows core base held
  pub plans : Shows held v
  pub free : HasNoRules base
  pub seen : IsView core.rules.format v
