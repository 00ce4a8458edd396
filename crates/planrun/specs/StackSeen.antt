-- What the stack of the machine stands for.
use Rattle.std.specs.Prelude.{List, map, reverse}
use Rattle.serde_json.specs.View.{view}
use Rattle.celmean.specs.Value.{Outcome, Gives}
use Rattle.celmean.specs.Seen.{outcome_of}
use Rattle.planrun.specs.Documents.{json_value}
use Rattle.planrun.specs.declared.held.Held.{Held}
use Rattle.planrun.specs.declared.held.Held.TheVariants as held

-- a part of a document is its value
abbrev pub held_seen : Held → Outcome
held_seen (held.Document d) = Gives (json_value (view d.now))
held_seen (held.Owned o) = outcome_of o

-- a stack grows at its right end: the topmost outcome first
abbrev pub stack_seen : List Held → List Outcome
stack_seen hs = reverse (map held_seen hs)
