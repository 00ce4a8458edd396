use Rattle.std.proofs.Common.{◌≡◌, ◌∙◌, ap, refl, Bool, true, false, cond, Option, Some, option_map}
use Rattle.matchit.specs.Router.{RouteOf}
use Rattle.matchit.proofs.OnLiterals.{matchit_on_literals}
use Rattle.names.specs.declared.resource.Resource.{Resource}
use Rattle.routes.proofs.Literals.{first-lookup}
use Rattle.routes.proofs.table.add_resources.Goals as goal

value-cond : (found : Bool) (route : RouteOf Resource) (rest : Option (RouteOf Resource))
    → option_map (λ r. r.value) (cond found (Some route) rest) ≡ cond found (Some route.value) (option_map (λ r. r.value) rest)
value-cond true route rest = refl
value-cond false route rest = refl

pub returns : goal.returns
unfolding matchit_on_literals
returns c path =
    rw (c.in_ok-insert-8.ensures.1, c.in_ok-insert-7.ensures.1, c.in_ok-insert-6.ensures.1, c.in_ok-insert-5.ensures.1, c.in_ok-insert-4.ensures.1, c.in_ok-insert-3.ensures.1, c.in_ok-insert-2.ensures.1, c.in_ok-insert.ensures.1, c.requires.empty)
    (ap (option_map (λ r. r.value)) (first-lookup path _ refl) ∙ simp value-cond)
