-- The router of the routes.
use Rattle.std.specs.Prelude.{◌≡◌, ℕ, List, option_map}
use Rattle.matchit.specs.Rows.{RowsOf}
use Rattle.matchit.specs.Router.{RouteOf}
use Rattle.matchit.specs.Seek.{first}
use Rattle.names.specs.declared.resource.Resource.{Resource}
use Rattle.routes.specs.Path.{resource_at}

-- The router finds the resource of each literal path, and no other.
abbrev pub AnswersTable : RowsOf (RouteOf Resource) → Type 0
AnswersTable rows = (path : List ℕ) → option_map (λ route. route.value) (first rows path) ≡ resource_at path
