-- A machine with a stack of outcomes that runs code.
use Rattle.std.specs.Prelude.{ℕ, zero, suc, ◌+◌, nat_lt, if◌then◌else◌, Option, Some, None, List, [], ◌∷◌, ◌++◌, length, take, drop, reverse, slice_get, codes}
use Rattle.celtree.specs.declared.tree.Operator.{Operator}
use Rattle.celtree.specs.declared.tree.Operator.TheVariants as operator_of
use Rattle.celmean.specs.Value.{Value, Null, Truth, Int, Uint, Text, Outcome, Gives, Error, or_error, with_value, with_values}
use Rattle.celmean.specs.Collections.{indexed, member, has_member, list_of, map_of}
use Rattle.celmean.specs.Macros.{is_true, is_false, both, either, range_of, over_items}
use Rattle.celmean.specs.Operators.{prefixed, on_values}
use Rattle.celmean.specs.Functions.{called, method_called}
use Rattle.instructions.specs.declared.instruction.Name.{Name}
use Rattle.instructions.specs.declared.instruction.Slot.{Slot}
use Rattle.instructions.specs.declared.instruction.Slot.TheVariants as slot
use Rattle.instructions.specs.declared.instruction.Binary.{Binary}
use Rattle.instructions.specs.declared.instruction.Binary.TheVariants as binary
use Rattle.instructions.specs.declared.instruction.Function.{Function}
use Rattle.instructions.specs.declared.instruction.Function.TheVariants as function
use Rattle.instructions.specs.Op.{Op, PushInt, PushUint, PushText, PushTruth, PushNull, PushName, PushVariable, PushSlot, TakeField, TakeHas, TakeIndex, TakeItems, TakePairs, TakeUnary, TakeBinary, TakeCall, TakeBoth, TakeEither, IfFalse, IfTrue, Branch, Jump, Over}

-- what the declared names and the policy's variables stand for
pub record World : Type 0 where
  pub names : Name → Outcome
  pub variables : List Outcome

abbrev pub or_missing : Option Outcome → Outcome
or_missing None = Error
or_missing (Some o) = o

-- the items of the macros around, the outermost first: the variable of the outer one, and of the inner one
abbrev pub slot_value : List Value → Slot → Outcome
slot_value items slot.Outer = or_error (slice_get items 0)
slot_value items slot.Inner = or_error (slice_get items 1)

-- the topmost outcome
abbrev pub top : List Outcome → Outcome
top [] = Error
top (o ∷ os) = o

-- what takes one outcome, or two with the second on top, and puts one
abbrev pub on_one : (Outcome → Outcome) → List Outcome → List Outcome
on_one f [] = []
on_one f (o ∷ os) = f o ∷ os

abbrev pub on_two : (Outcome → Outcome → Outcome) → List Outcome → List Outcome
on_two f [] = []
on_two f (b ∷ []) = []
on_two f (b ∷ a ∷ os) = f a b ∷ os

-- outcomes two by two
abbrev pub in_pairs : List Outcome → List (Outcome × Outcome)
in_pairs [] = []
in_pairs (k ∷ []) = []
in_pairs (k ∷ v ∷ os) = (k, v) ∷ in_pairs os

-- the operator of an instruction
abbrev pub operator : Binary → Operator
operator binary.Add = operator_of.Add
operator binary.Subtract = operator_of.Subtract
operator binary.Multiply = operator_of.Multiply
operator binary.Divide = operator_of.Divide
operator binary.Remainder = operator_of.Remainder
operator binary.Equal = operator_of.Equal
operator binary.NotEqual = operator_of.NotEqual
operator binary.Less = operator_of.Less
operator binary.LessEqual = operator_of.LessEqual
operator binary.Greater = operator_of.Greater
operator binary.GreaterEqual = operator_of.GreaterEqual
operator binary.In = operator_of.In

-- a function of one operand, or of two texts
abbrev pub on_call : Function → List Outcome → List Outcome
on_call function.Size os = on_one (λ o. called (codes "size") (o ∷ [])) os
on_call function.Int os = on_one (λ o. called (codes "int") (o ∷ [])) os
on_call function.Uint os = on_one (λ o. called (codes "uint") (o ∷ [])) os
on_call function.Text os = on_one (λ o. called (codes "string") (o ∷ [])) os
on_call function.Dyn os = on_one (λ o. called (codes "dyn") (o ∷ [])) os
on_call function.Contains os = on_two (λ a b. method_called (codes "contains") a (b ∷ [])) os
on_call function.StartsWith os = on_two (λ a b. method_called (codes "startsWith") a (b ∷ [])) os
on_call function.EndsWith os = on_two (λ a b. method_called (codes "endsWith") a (b ∷ [])) os

-- the stack after an instruction that leads to the next one
abbrev pub after : World → List Value → Op → List Outcome → List Outcome
after w items (PushInt z) os = Gives (Int z) ∷ os
after w items (PushUint n) os = Gives (Uint n) ∷ os
after w items (PushText s) os = Gives (Text s) ∷ os
after w items (PushTruth b) os = Gives (Truth b) ∷ os
after w items PushNull os = Gives Null ∷ os
after w items (PushName x) os = w.names x ∷ os
after w items (PushVariable v) os = or_missing (slice_get w.variables v) ∷ os
after w items (PushSlot s) os = slot_value items s ∷ os
after w items (TakeField f) os = on_one (with_value (member f)) os
after w items (TakeHas f) os = on_one (with_value (has_member f)) os
after w items TakeIndex os = on_two (with_values indexed) os
after w items (TakeItems n) os = list_of (reverse (take n os)) ∷ drop n os
after w items (TakePairs n) os = map_of (in_pairs (reverse (take (n + n) os))) ∷ drop (n + n) os
after w items (TakeUnary p) os = on_one (with_value (prefixed p)) os
after w items (TakeBinary o) os = on_two (with_values (on_values (operator o))) os
after w items (TakeCall f) os = on_call f os
after w items TakeBoth os = on_two both os
after w items TakeEither os = on_two either os
after w items op os = os

-- what comes next: at a place, before the place where the code or a macro's body ends, with the items of the macros around, and a stack
abbrev pub Next : Type 0
Next = (at stop : ℕ) → List Value → List Outcome → List Outcome

-- one instruction: a macro runs its body with an empty stack for each item
abbrev pub step : World → Op → Next → Next
step w (IfFalse to) next at stop items os = next (if is_false (top os) then to else at + 1) stop items os
step w (IfTrue to) next at stop items os = next (if is_true (top os) then to else at + 1) stop items os
step w (Branch otherwise end) next at stop items [] = []
step w (Branch otherwise end) next at stop items (o ∷ os) =
    if is_true o then next (at + 1) stop items os else (if is_false o then next otherwise stop items os else next end stop items (Error ∷ os))
step w (Jump to) next at stop items os = next to stop items os
step w (Over m end) next at stop items [] = []
step w (Over m end) next at stop items (o ∷ os) =
    next end stop items (over_items m (λ v. top (next (at + 1) end (items ++ v ∷ []) [])) (range_of o) ∷ os)
step w op next at stop items os = next (at + 1) stop items (after w items op os)

abbrev pub step_if : World → Option Op → Next → Next
step_if w None next at stop items os = []
step_if w (Some op) next at stop items os = step w op next at stop items os

-- at most this many instructions, and the stack where the code or a macro's body ends
abbrev pub exec : World → List Op → ℕ → Next
exec w code zero at stop items os = []
exec w code (suc n) at stop items os = if nat_lt at stop then step_if w (slice_get code at) (exec w code n) at stop items os else os

-- the outcome of code: each instruction leads ahead, so it ends after as many instructions as there are
abbrev pub outcome : World → List Op → Outcome
outcome w code = top (exec w code (suc (length code)) 0 (length code) [] [])
