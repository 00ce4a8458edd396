-- The names with which the program compiles are those of the scope that it declares.
use Rattle.std.proofs.Common.{◌≡◌, ℕ, List, [], ap, sym}
use Rattle.std.proofs.lemmas.Simd.{map-map}
use Rattle.celtypes.specs.declared.scope.Env.{Env}
use Rattle.celtypes.specs.Seen.{variable_seen, declared}
use Rattle.plan.specs.Names.{Names}
use Rattle.plan.specs.Seen.{variable_names}
use Rattle.plan.specs.Correct.{names_of}

-- outside all macros
abbrev pub outside : List (List ℕ) → Names
outside vs = record { locals = []; variables = vs }

pub names_declared : (env : Env) → outside (variable_names env.variables.now) ≡ names_of (declared env)
names_declared env = ap outside (sym (map-map (λ v. v.0) variable_seen env.variables.now))
