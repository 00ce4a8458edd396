-- What the program's environments stand for.
use Rattle.std.specs.Prelude.{ℕ, option_map, List, map}
use Rattle.celmean.specs.Value as seen
use Rattle.celmean.specs.Value.{or_error}
use Rattle.celmean.specs.Meaning as meaning
use Rattle.celmean.specs.Seen.{value_of}
use Rattle.celplain.specs.declared.environment.Binding.{Binding}
use Rattle.celplain.specs.declared.environment.Environment.{Environment}

abbrev pub binding_seen : Binding → List ℕ × seen.Outcome
binding_seen b = (b.name.now, or_error (option_map (λ v. value_of v.now) b.value))

abbrev pub bindings_seen : List Binding → List (List ℕ × seen.Outcome)
bindings_seen bs = map binding_seen bs

abbrev pub environment_of : Environment → meaning.Environment
environment_of e = record { names = bindings_seen e.names.now; variables = bindings_seen e.variables.now }
