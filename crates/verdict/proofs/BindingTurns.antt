-- A write that is matched.
use Rattle.std.proofs.Common.{◌≡◌, List, Bool, true, None, if◌then◌else◌, sym, ap}
use Rattle.celtree.specs.Tree.{Expr}
use Rattle.policy.specs.Rules.{Attempt}
use Rattle.policy.specs.Matching.{is_matched}
use Rattle.policy.specs.Spec as spec
use Rattle.verdict.specs.Listed.{Shown}
use Rattle.verdict.specs.OneBinding.{denial}
use Rattle.verdict.specs.Asked.{asked}

-- what is said of a write that is matched
pub said : (objects : Shown) (p : spec.Policy) (trees : List Expr) (b : spec.Binding) (w : Attempt) → is_matched p.constraints b.resources w ≡ true
    → asked objects p trees b w ≡ denial objects p trees b w
said objects p trees b w matched = sym (ap (λ (m : Bool). if m then asked objects p trees b w else None) matched)
