-- A machine as it runs a well-formed plan.
use Rattle.std.specs.Prelude.{◌≡◌, ℕ, ◌+◌, ◌<◌, ◌≤◌, List, length, Some, slice_get}
use Rattle.celmean.specs.Value.{Value}
use Rattle.instructions.specs.Op.{Op}
use Rattle.instructions.specs.Seen.{ops_of}
use Rattle.instructions.specs.Judging.{arrivals}
use Rattle.instructions.specs.WellFormed.{Among, Comes, IsWellFormed}
use Rattle.instructions.specs.Machine.{World, Next, exec}
use Rattle.planrun.specs.Seen.{slots_seen}
use Rattle.planrun.specs.Worlds.{world_of}
use Rattle.planrun.specs.declared.machine.Machine.{Machine}

-- what its names stand for, its code, and the items of the macros around
abbrev pub world : Machine → World
world m = world_of m.bindings

abbrev pub ops : Machine → List Op
ops m = ops_of m.code.now

abbrev pub items_of : Machine → List Value
items_of m = slots_seen m.slots

-- how many variables are bound, and how many macros are around
abbrev pub vars : Machine → ℕ
vars m = length m.bindings.variables.now

abbrev pub depth : Machine → ℕ
depth m = length (items_of m)

-- what comes of this many instructions more
abbrev pub next_of : Machine → ℕ → Next
next_of m steps = exec (world m) (ops m) steps

-- Control can come to a place of the code, in a body with this end and in this many macros, with this many outcomes on the body's stack.
pub record ComesTo (code : List Op) (at stop depth height : ℕ) : Type 0 where
  pub outer : List ℕ
  pub comes : Comes code (record { place = at; end = stop; outer = outer; height = height })
  pub depth_is : length outer ≡ depth

-- Control can stand at an instruction of a well-formed plan.
pub record Stands (vars : ℕ) (code : List Op) (op : Op) (at stop depth height : ℕ) : Type 0 where
  pub well_formed : IsWellFormed vars code
  pub comes_to : ComesTo code at stop depth height
  pub inside : at < stop
  pub here : slice_get code at ≡ Some op

-- The body of a macro begins at a place, with an empty stack, in one macro more than these, which are at most one.
pub record Begins (vars : ℕ) (code : List Op) (first end depth : ℕ) : Type 0 where
  pub well_formed : IsWellFormed vars code
  pub comes_to : ComesTo code first end (depth + 1) 0
  pub before : first ≤ end
  pub shallow : depth < 2

-- A machine is ready: its plan is well formed for as many variables as are bound.
abbrev pub IsReady : Machine → Type 0
IsReady m = IsWellFormed (vars m) (ops m)

-- It can be at a place, in a body with this end, with this many outcomes on the body's stack; it can stand at an instruction; and a
-- macro's body can begin.
abbrev pub IsAt : Machine → (at stop height : ℕ) → Type 0
IsAt m at stop height = ComesTo (ops m) at stop (depth m) height

abbrev pub IsAtOp : Machine → Op → (at stop height : ℕ) → Type 0
IsAtOp m op at stop height = Stands (vars m) (ops m) op at stop (depth m) height

abbrev pub BeginsBody : Machine → (first end : ℕ) → Type 0
BeginsBody m first end = Begins (vars m) (ops m) first end (depth m)

-- An instruction at a place may lead to another, with this many outcomes on the stack before it and this many after it.
abbrev pub Leads : Op → (at to before after : ℕ) → Type 0
Leads op at to before after = Among (record { place = to; height = after }) (arrivals op at before)
