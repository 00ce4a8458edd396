-- The first fault of a plan, judged front to back: for each instruction its targets, its name, and the stack that it is reached with.
use Rattle.std.specs.Prelude.{ℕ, ◌+◌, ◌-◌, ◌*◌, Bool, true, false, not, ◌&&◌, ◌||◌, nat_lt, ◌==◌, if◌then◌else◌, List, [], ◌∷◌, ◌++◌, length, take, Option, Some, None, Result, Ok, Err}
use Rattle.std.specs.List.{filter, find, list_all}
use Rattle.instructions.specs.declared.instruction.Slot.TheVariants as slot
use Rattle.instructions.specs.declared.instruction.Function.{Function}
use Rattle.instructions.specs.declared.instruction.Function.TheVariants as function
use Rattle.instructions.specs.declared.fault.CodeFault.{CodeFault}
use Rattle.instructions.specs.declared.fault.CodeFault.TheVariants as fault
use Rattle.instructions.specs.Op.{Op, PushInt, PushUint, PushText, PushTruth, PushNull, PushName, PushVariable, PushSlot, TakeField, TakeHas, TakeIndex, TakeItems, TakePairs, TakeUnary, TakeBinary, TakeCall, TakeBoth, TakeEither, IfFalse, IfTrue, Branch, Jump, Over}
use Rattle.instructions.specs.Faults.{◌>>=◌}

-- How many operands a function has.
abbrev pub operand_count : Function → ℕ
operand_count function.Size = 1
operand_count function.Contains = 2
operand_count function.StartsWith = 2
operand_count function.EndsWith = 2
operand_count function.Int = 1
operand_count function.Uint = 1
operand_count function.Text = 1
operand_count function.Dyn = 1

-- How many outcomes an instruction wants on the stack.
abbrev pub takes : Op → ℕ
takes (PushInt n) = 0
takes (PushUint n) = 0
takes (PushText text) = 0
takes (PushTruth b) = 0
takes PushNull = 0
takes (PushName x) = 0
takes (PushVariable place) = 0
takes (PushSlot s) = 0
takes (TakeField f) = 1
takes (TakeHas f) = 1
takes TakeIndex = 2
takes (TakeItems count) = count
takes (TakePairs count) = 2 * count
takes (TakeUnary p) = 1
takes (TakeBinary o) = 2
takes (TakeCall f) = operand_count f
takes TakeBoth = 2
takes TakeEither = 2
takes (IfFalse target) = 1
takes (IfTrue target) = 1
takes (Branch otherwise end) = 1
takes (Jump target) = 0
takes (Over m end) = 1

-- The targets of an instruction.
abbrev pub targets : Op → List ℕ
targets (IfFalse target) = target ∷ []
targets (IfTrue target) = target ∷ []
targets (Branch otherwise end) = otherwise ∷ end ∷ []
targets (Jump target) = target ∷ []
targets (Over m end) = end ∷ []
targets op = []

-- Control comes to a place, with this many outcomes on the stack of its body.
pub record Arrival : Type 0 where
  pub place : ℕ
  pub height : ℕ

-- Where control goes from an instruction at a place and with a height, within the body that the instruction stands in. Most put one
-- outcome for those they take and go on to the next place; a macro puts its own when its body has ended.
abbrev pub arrivals : Op → ℕ → ℕ → List Arrival
arrivals (IfFalse target) at height = record { place = target; height = height } ∷ record { place = at + 1; height = height } ∷ []
arrivals (IfTrue target) at height = record { place = target; height = height } ∷ record { place = at + 1; height = height } ∷ []
arrivals (Branch otherwise end) at height = record { place = otherwise; height = height - 1 } ∷ record { place = end; height = height } ∷ record { place = at + 1; height = height - 1 } ∷ []
arrivals (Jump target) at height = record { place = target; height = height } ∷ []
arrivals (Over m end) at height = record { place = end; height = height } ∷ []
arrivals op at height = record { place = at + 1; height = height - takes op + 1 } ∷ []

-- A body that is open: the place after its last instruction, and the arrivals in it that are still awaited. The whole plan is the
-- outermost body.
pub record OpenBody : Type 0 where
  pub end : ℕ
  pub awaited : List Arrival

abbrev pub comes_to : ℕ → Arrival → Bool
comes_to at a = a.place == at

-- The one height with which control comes to a place: none where it never comes, or with two heights.
abbrev pub agreed : ℕ → List Arrival → Arrival → Option ℕ
agreed at awaited first = if list_all (λ a. not (comes_to at a) || (a.height == first.height)) awaited then Some first.height else None

abbrev pub height_of_first : ℕ → List Arrival → Option Arrival → Option ℕ
height_of_first at awaited None = None
height_of_first at awaited (Some first) = agreed at awaited first

abbrev pub height_at : ℕ → List Arrival → Option ℕ
height_at at awaited = height_of_first at awaited (find (comes_to at) awaited)

abbrev pub is_one : Option ℕ → Bool
is_one None = false
is_one (Some height) = height == 1

-- A body that ends at the place has one outcome there.
abbrev pub has_one : ℕ → OpenBody → Bool
has_one at body = is_one (height_at at body.awaited)

-- The bodies that end at a place are left, the innermost first, each with its one outcome.
abbrev pub left : ℕ → OpenBody → List OpenBody → Result (OpenBody × List OpenBody) CodeFault
left at body [] = Ok (body, [])
left at body (outer ∷ others) =
    if body.end == at then (if has_one at body then left at outer others else Err fault.BadStack) else Ok (body, outer ∷ others)

-- An instruction is a macro whose body holds the place: the place lies before its end.
abbrev pub goes_past : ℕ → Op → Bool
goes_past place (Over m end) = nat_lt place end
goes_past place op = false

-- A target lies ahead, in the body that the instruction stands in or at its end, and no macro between the two has it in its body.
abbrev pub is_fair : ℕ → ℕ → List Op → ℕ → Bool
is_fair at end later target = nat_lt at target && (not (nat_lt end target) && list_all (λ op. not (goes_past target op)) (take (target - (at + 1)) later))

abbrev pub are_fair : ℕ → ℕ → List Op → List ℕ → Bool
are_fair at end later places = list_all (is_fair at end later) places

-- A variable is declared, a macro's variable stands in that many macros, and a macro in at most one.
abbrev pub is_named : ℕ → ℕ → Op → Bool
is_named vars depth (PushVariable place) = nat_lt place vars
is_named vars depth (PushSlot slot.Outer) = nat_lt 0 depth
is_named vars depth (PushSlot slot.Inner) = nat_lt 1 depth
is_named vars depth (Over m end) = nat_lt depth 2
is_named vars depth op = true

-- The arrivals that are awaited after an instruction that is run at the place with this height.
abbrev pub goes_on : Op → ℕ → ℕ → OpenBody → OpenBody
goes_on op at height body = record { end = body.end; awaited = filter (λ a. not (comes_to at a)) body.awaited ++ arrivals op at height }

-- The open bodies after an instruction: a macro opens its own, with an empty stack.
abbrev pub opens : Op → ℕ → OpenBody → List OpenBody → OpenBody × List OpenBody
opens (Over m end) at body others = (record { end = end; awaited = record { place = at + 1; height = 0 } ∷ [] }, body ∷ others)
opens op at body others = (body, others)

-- The instruction has its operands.
abbrev pub runs : Op → ℕ → Option ℕ → OpenBody → List OpenBody → Result (OpenBody × List OpenBody) CodeFault
runs op at None body others = Err fault.BadStack
runs op at (Some height) body others =
    if nat_lt height (takes op) then Err fault.BadStack else Ok (opens op at (goes_on op at height body) others)

-- One instruction in its body, with those after it.
abbrev pub judged : ℕ → ℕ → Op → List Op → OpenBody → List OpenBody → Result (OpenBody × List OpenBody) CodeFault
judged vars at op later body others =
    if not (are_fair at body.end later (targets op)) then Err fault.BadJump else
    if not (is_named vars (length others) op) then Err fault.BadName else
    runs op at (height_at at body.awaited) body others

-- One instruction, after the bodies that end at its place.
abbrev pub step : ℕ → ℕ → Op → List Op → OpenBody → List OpenBody → Result (OpenBody × List OpenBody) CodeFault
step vars at op later body others = left at body others >>= λ x. judged vars at op later x.0 x.1

-- The end of the plan has one outcome.
abbrev pub ended : ℕ → OpenBody × List OpenBody → Result (Unit {0}) CodeFault
ended at bodies = if has_one at bodies.0 then Ok tt else Err fault.BadStack

-- The instructions from a place on, with the bodies that are open there.
abbrev pub judge : ℕ → ℕ → List Op → OpenBody → List OpenBody → Result (Unit {0}) CodeFault
judge vars at [] body others = left at body others >>= λ x. ended at x
judge vars at (op ∷ ops) body others = step vars at op ops body others >>= λ y. judge vars (at + 1) ops y.0 y.1

-- The plan is the outermost body, and control comes to place 0 with an empty stack.
abbrev pub whole : List Op → OpenBody
whole ops = record { end = length ops; awaited = record { place = 0; height = 0 } ∷ [] }

-- `Ok`, or the first fault, of a plan in a place with this many variables.
unfoldable pub first_fault : ℕ → List Op → Result (Unit {0}) CodeFault
first_fault vars ops = judge vars 0 ops (whole ops) []
