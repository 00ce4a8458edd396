-- Plans beside expressions that are not theirs.
use Rattle.std.proofs.Common.{◌≡◌, ◌≢◌, ◌∙◌, sym, ap, subst, ℕ, List}
use Rattle.celtree.specs.Tree.{Expr}
use Rattle.names.specs.declared.format.Format.{Format}
use Rattle.names.specs.declared.resource.Resource.{Resource}
use Rattle.documents.specs.Document.{Document}
use Rattle.plancode.specs.Plans.{Judged}
use Rattle.expressions.specs.Specification.{Specification, IsSpecification, IsCompiled, compiled, sound, bad_spec, bad_expression, plans_in, plans_bytes, these}

module _ (f : Format) (r : Resource) (d : Document) (found : Specification Judged) (is : IsCompiled f r d.json found) (trees : List Expr) (there : IsSpecification f r d.json (sound trees)) where
  -- what is compiled, where trees stand
  found_there : found ≡ sound (plans_in d.json trees)
  found_there = is.plans ∙ ap (λ (s : Specification Expr). compiled d.json s) (is.alone trees there)

  -- other bytes than those of the plans that were compiled are others than those of the trees' plans
  pub others_there : (own : List Judged) (bytes : List ℕ) → found ≡ sound own → plans_bytes r (these own) ≢ bytes → plans_bytes r (these (plans_in d.json trees)) ≢ bytes
  others_there own bytes seen others =
      let same : ◌≡◌ {A = Specification Judged} (sound own) (sound (plans_in d.json trees)) = sym seen ∙ found_there in
      let equal : own ≡ plans_in d.json trees = cc in
      let Differ : List Judged → Type 0 = λ plans. plans_bytes r (these plans) ≢ bytes in
      subst Differ equal others

  -- where the specification is bad no trees stand
  pub none_in_bad_spec : found ≡ bad_spec → ⊥
  none_in_bad_spec seen = let same : ◌≡◌ {A = Specification Judged} bad_spec (sound (plans_in d.json trees)) = sym seen ∙ found_there in cc

  pub none_in_bad_expression : (text : List ℕ) → found ≡ bad_expression text → ⊥
  none_in_bad_expression text seen = let same : ◌≡◌ {A = Specification Judged} (bad_expression text) (sound (plans_in d.json trees)) = sym seen ∙ found_there in cc
