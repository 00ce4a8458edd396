-- How many outcomes an instruction leaves.
use Rattle.std.proofs.Common.{◌≡◌, inl, ℕ, ◌+◌, ◌-◌, ◌≤◌, List, [], ◌∷◌, length, map, sym, ap, ◌∙◌, arith, length-drop}
use Rattle.std.proofs.lemmas.List.{length-map, length-reverse}
use Rattle.celmean.specs.Value.{Value, Outcome}
use Rattle.instructions.specs.declared.instruction.Function.{Function}
use Rattle.instructions.specs.declared.instruction.Function.TheVariants as function
use Rattle.instructions.specs.Op.{Op, PushInt, PushUint, PushText, PushTruth, PushNull, PushName, PushVariable, PushSlot, TakeField, TakeHas, TakeIndex, TakeItems, TakePairs, TakeUnary, TakeBinary, TakeCall, TakeBoth, TakeEither, IfFalse, IfTrue, Branch, Jump, Over}
use Rattle.instructions.specs.Judging.{takes, targets, operand_count}
use Rattle.instructions.specs.Machine.{World, after, on_one, on_two, on_call}
use Rattle.planrun.specs.declared.held.Held.{Held}
use Rattle.planrun.specs.StackSeen.{held_seen, stack_seen}
use Rattle.planrun.specs.Running.{Leads}

-- a stack holds as many outcomes as it stands for
pub stack_length : (hs : List Held) → length (stack_seen hs) ≡ length hs
stack_length hs = length-reverse (map held_seen hs) ∙ length-map hs held_seen

one : (f : Outcome → Outcome) (os : List Outcome) → 1 ≤ length os → length (on_one f os) ≡ length os - 1 + 1
one f [] m = absurd (omega arith)
one f (o ∷ os) m = omega arith

two : (f : Outcome → Outcome → Outcome) (os : List Outcome) → 2 ≤ length os → length (on_two f os) ≡ length os - 2 + 1
two f [] m = absurd (omega arith)
two f (b ∷ []) m = absurd (omega arith)
two f (b ∷ a ∷ os) m = omega arith

call : (f : Function) (os : List Outcome) → operand_count f ≤ length os → length (on_call f os) ≡ length os - operand_count f + 1
call function.Size os m = one _ os m
call function.Int os m = one _ os m
call function.Uint os m = one _ os m
call function.Text os m = one _ os m
call function.Dyn os m = one _ os m
call function.Contains os m = two _ os m
call function.StartsWith os m = two _ os m
call function.EndsWith os m = two _ os m

-- an instruction without targets takes its operands and puts one outcome
pub after_length : (w : World) (items : List Value) (op : Op) (os : List Outcome) → targets op ≡ [] → takes op ≤ length os → length (after w items op os) ≡ length os - takes op + 1
after_length w items (PushInt z) os t m = omega arith
after_length w items (PushUint n) os t m = omega arith
after_length w items (PushText s) os t m = omega arith
after_length w items (PushTruth b) os t m = omega arith
after_length w items PushNull os t m = omega arith
after_length w items (PushName x) os t m = omega arith
after_length w items (PushVariable v) os t m = omega arith
after_length w items (PushSlot s) os t m = omega arith
after_length w items (TakeField f) os t m = one _ os m
after_length w items (TakeHas f) os t m = one _ os m
after_length w items TakeIndex os t m = two _ os m
after_length w items (TakeItems n) os t m = omega (arith, length-drop n os)
after_length w items (TakePairs n) os t m = omega (arith, length-drop (n + n) os)
after_length w items (TakeUnary p) os t m = one _ os m
after_length w items (TakeBinary o) os t m = two _ os m
after_length w items (TakeCall f) os t m = call f os m
after_length w items TakeBoth os t m = two _ os m
after_length w items TakeEither os t m = two _ os m
after_length w items (IfFalse to) os t m = absurd cc
after_length w items (IfTrue to) os t m = absurd cc
after_length w items (Branch otherwise end) os t m = absurd cc
after_length w items (Jump to) os t m = absurd cc
after_length w items (Over k end) os t m = absurd cc

-- and leads to the next one
leads_next : (op : Op) (at height tall : ℕ) → targets op ≡ [] → tall ≡ height - takes op + 1 → Leads op at (at + 1) height tall
leads_next (IfFalse to) at height tall t e = absurd cc
leads_next (IfTrue to) at height tall t e = absurd cc
leads_next (Branch otherwise end) at height tall t e = absurd cc
leads_next (Jump to) at height tall t e = absurd cc
leads_next (Over k end) at height tall t e = absurd cc
leads_next op at height tall t e = inl (ap (λ (h : ℕ). record { place = at + 1; height = h }) (sym e))

pub leads_on : (w : World) (items : List Value) (op : Op) (at height tall : ℕ) (os new : List Outcome) → targets op ≡ [] → takes op ≤ height → length os ≡ height → length new ≡ tall → new ≡ after w items op os → Leads op at (at + 1) height tall
leads_on w items op at height tall os new t m before past e =
    let l : length (after w items op os) ≡ length os - takes op + 1 = after_length w items op os t (omega (arith, m, before)) in
    let same : length new ≡ length (after w items op os) = ap (λ (x : List Outcome). length x) e in
    leads_next op at height tall t (omega (arith, l, same, before, past))
