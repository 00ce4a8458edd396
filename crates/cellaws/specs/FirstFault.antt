-- The first fault of a plan, in words of its own: the first question, front to back, that is answered with no.
use Rattle.std.specs.Prelude.{◌≡◌, ◌⊎◌, ℕ, ◌+◌, ◌<◌, ◌≤◌, IsTrue, List, [], ◌∷◌, length, Some, Err, slice_get}
use Rattle.celtree.specs.declared.tree.Macro.{Macro}
use Rattle.instructions.specs.declared.fault.CodeFault.{CodeFault}
use Rattle.instructions.specs.declared.fault.CodeFault.TheVariants as fault
use Rattle.instructions.specs.Op.{Op, Over}
use Rattle.instructions.specs.Judging.{takes, targets, is_named, first_fault}
use Rattle.instructions.specs.WellFormed.{Among, Control, next}

-- A macro opens its body: the ends of the bodies after an instruction.
abbrev pub opened : Op → List ℕ → List ℕ
opened (Over m end) ends = end ∷ ends
opened op ends = ends

-- The bodies that are open at a place, each by its end, the innermost first. The whole plan is the outermost body. An instruction is
-- passed only before the end of the innermost body; at its end a body is left.
pub data Bodies (code : List Op) : ℕ → List ℕ → Type 0 where
  whole : Bodies code 0 (length code ∷ [])
  after : (place end : ℕ) (outer : List ℕ) (op : Op) → Bodies code place (end ∷ outer) → place < end → slice_get code place ≡ Some op
      → Bodies code (place + 1) (opened op (end ∷ outer))
  left : (place : ℕ) (outer : List ℕ) → Bodies code place (place ∷ outer) → Bodies code place outer

-- Control comes there by the instructions before a place.
pub data ComesBefore (code : List Op) (limit : ℕ) : Control → Type 0 where
  begins : ComesBefore code limit (record { place = 0; end = length code; outer = []; height = 0 })
  goes : (c d : Control) (op : Op) → ComesBefore code limit c → c.place < limit → c.place < c.end → slice_get code c.place ≡ Some op → Among d (next op c)
      → ComesBefore code limit d

-- Control comes to the place in this body, and always with this height.
pub record HasHeight (code : List Op) (place end : ℕ) (outer : List ℕ) (height : ℕ) : Type 0 where
  pub comes : ComesBefore code place (record { place = place; end = end; outer = outer; height = height })
  pub alone : (other : ℕ) → ComesBefore code place (record { place = place; end = end; outer = outer; height = other }) → other ≡ height

-- The instruction stands at the place, in the body with this end and in those around it.
pub record Stands (code : List Op) (place : ℕ) (op : Op) (end : ℕ) (outer : List ℕ) : Type 0 where
  pub here : slice_get code place ≡ Some op
  pub bodies : Bodies code place (end ∷ outer)
  pub inside : place < end

-- The target lies ahead in the body, or at its end, and in no body of a macro that begins between.
pub record IsFair (code : List Op) (place end target : ℕ) : Type 0 where
  pub ahead : place < target
  pub inside : target ≤ end
  pub outside : (between stop : ℕ) (m : Macro) → slice_get code between ≡ Some (Over m stop) → place < between → between < target → stop ≤ target

-- What is asked of a place, in the order in which it counts.
pub data Question : Type 0 where
  -- has each body that ends here one outcome?
  bodies : Question
  -- is each target of the instruction fair?
  jumps : Question
  -- is a variable declared, a macro's variable in that many macros, and a macro in at most one?
  names : Question
  -- does control come to it, always with one height, and is no operand missing?
  stack : Question

abbrev pub rank : Question → ℕ
rank bodies = 0
rank jumps = 1
rank names = 2
rank stack = 3

abbrev pub fault_of : Question → CodeFault
fault_of bodies = fault.BadStack
fault_of jumps = fault.BadJump
fault_of names = fault.BadName
fault_of stack = fault.BadStack

-- The answer to a question of a place is yes.
abbrev pub Holds : (vars : ℕ) (code : List Op) (place : ℕ) → Question → Type 0
Holds vars code place bodies = (outer : List ℕ) → Bodies code place (place ∷ outer) → HasHeight code place place outer 1
Holds vars code place jumps =
    (op : Op) (end target : ℕ) (outer : List ℕ) → Stands code place op end outer → Among target (targets op) → IsFair code place end target
Holds vars code place names = (op : Op) (end : ℕ) (outer : List ℕ) → Stands code place op end outer → IsTrue (is_named vars (length outer) op)
Holds vars code place stack =
    (op : Op) (end : ℕ) (outer : List ℕ) → Stands code place op end outer → (height : ℕ) × HasHeight code place end outer height × (takes op ≤ height)

-- One question comes before another.
abbrev pub Before : ℕ → Question → ℕ → Question → Type 0
Before at q place r = (at < place) ⊎ ((at ≡ place) × (rank q < rank r))

-- This is the fault of the first question that is answered with no.
pub record IsFirstFault (vars : ℕ) (code : List Op) (f : CodeFault) : Type 0 where
  pub place : ℕ
  pub question : Question
  pub is : f ≡ fault_of question
  pub inside : place ≤ length code
  pub fails : Holds vars code place question → ⊥
  pub first : (at : ℕ) (q : Question) → Before at q place question → Holds vars code at q

-- The fault that is told of a plan is that of the first question, front to back, that is answered with no.
abbrev pub FirstFaultIsFirst : Type 0
FirstFaultIsFirst = (vars : ℕ) (code : List Op) (f : CodeFault) → first_fault vars code ≡ Err f → IsFirstFault vars code f
