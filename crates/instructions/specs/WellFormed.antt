-- Which plans are well formed, in words of their own: by what control can reach.
use Rattle.std.specs.Prelude.{◌≡◌, ◌⊎◌, ◌↔◌, ℕ, ◌+◌, ◌<◌, ◌≤◌, IsTrue, List, [], ◌∷◌, ◌++◌, length, map, Some, Ok, slice_get}
use Rattle.celtree.specs.declared.tree.Macro.{Macro}
use Rattle.instructions.specs.Op.{Op, Over}
use Rattle.instructions.specs.Judging.{Arrival, arrivals, takes, targets, is_named, first_fault}

-- x is one of xs.
abbrev pub Among : {X : Type 0} → X → List X → Type 0
Among x [] = ⊥
Among x (y ∷ ys) = (y ≡ x) ⊎ Among x ys

-- Where control is: a place, the end of the innermost body that it is in, the ends of the bodies around that, and how many outcomes
-- the stack of the innermost body holds.
pub record Control : Type 0 where
  pub place : ℕ
  pub end : ℕ
  pub outer : List ℕ
  pub height : ℕ

abbrev pub within : ℕ → List ℕ → Arrival → Control
within end outer a = record { place = a.place; end = end; outer = outer; height = a.height }

-- A macro begins its body with an empty stack.
abbrev pub begins_body : Op → Control → List Control
begins_body (Over m end) c = record { place = c.place + 1; end = end; outer = c.end ∷ c.outer; height = 0 } ∷ []
begins_body op c = []

-- Where control may be next.
abbrev pub next : Op → Control → List Control
next op c = map (within c.end c.outer) (arrivals op c.place c.height) ++ begins_body op c

-- Control can be there: it begins at the first place with an empty stack, and goes on from each instruction in a body.
pub data Comes (code : List Op) : Control → Type 0 where
  begins : Comes code (record { place = 0; end = length code; outer = []; height = 0 })
  goes : (c d : Control) (op : Op) → Comes code c → c.place < c.end → slice_get code c.place ≡ Some op → Among d (next op c) → Comes code d

-- Control stands at an instruction.
pub record StandsAt (code : List Op) (c : Control) (op : Op) : Type 0 where
  pub comes : Comes code c
  pub inside : c.place < c.end
  pub here : slice_get code c.place ≡ Some op

-- A plan in a place with this many variables is well formed.
pub record IsWellFormed (vars : ℕ) (code : List Op) : Type 0 where
  -- A target lies ahead, and not past the end of the body.
  pub forward : (c : Control) (op : Op) (target : ℕ) → StandsAt code c op → Among target (targets op) → (c.place < target) × (target ≤ c.end)
  -- A target lies in no body of a macro between.
  pub outside : (c : Control) (op : Op) (target place end : ℕ) (m : Macro) → StandsAt code c op → Among target (targets op) → slice_get code place ≡ Some (Over m end) → c.place < place → place < target → end ≤ target
  -- Variables are declared, macros' variables stand in their macros, and macros are at most two deep.
  pub named : (c : Control) (op : Op) → StandsAt code c op → IsTrue (is_named vars (length c.outer) op)
  -- No operand is missing.
  pub operands : (c : Control) (op : Op) → StandsAt code c op → takes op ≤ c.height
  -- Control comes to each instruction, always in the same bodies and with the same height.
  pub reached : (place : ℕ) → place < length code → (c : Control) × (c.place ≡ place) × (c.place < c.end) × Comes code c
  pub alike : (c d : Control) → Comes code c → Comes code d → c.place < c.end → d.place < d.end → c.place ≡ d.place → c ≡ d
  -- Each body ends with one outcome, and so does the plan.
  pub one_outcome : (c : Control) → Comes code c → c.place ≡ c.end → c.height ≡ 1
  pub ends : (c : Control) → Comes code c → (d : Control) × (d.place ≡ d.end) × (d.end ≡ c.end) × (d.outer ≡ c.outer) × Comes code d

-- A plan is without a fault exactly where it is well formed.
abbrev pub SoundWhereWellFormed : Type 0
SoundWhereWellFormed = (vars : ℕ) (code : List Op) → (first_fault vars code ≡ Ok tt) ↔ IsWellFormed vars code
