-- A run, instruction by instruction.
use Rattle.std.proofs.Common.{◌≡◌, ℕ, suc, ◌+◌, ◌-◌, ◌<◌, ◌≤◌, true, false, List, [], length, refl, sym, ap, subst, ◌∙◌, arith, nat_lt}
use Rattle.std.specs.Prelude.{slice_get}
use Rattle.std.proofs.lemmas.List.{length-map}
use Rattle.std.proofs.lemmas.Bool.Decides.{nat_tests}
use Rattle.celtree.specs.Tree.{Expr}
use Rattle.celmean.specs.Value.{Outcome}
use Rattle.celmean.specs.Meaning.{Environment, mean}
use Rattle.instructions.specs.declared.instruction.Instruction.{Instruction}
use Rattle.instructions.specs.Op.{Op}
use Rattle.instructions.specs.Seen.{op_of, ops_of}
use Rattle.instructions.specs.WellFormed.{Comes, begins}
use Rattle.instructions.specs.Machine.{World, top, step_if, exec, outcome}
use Rattle.plan.proofs.Follows.{code_means}
use Rattle.planrun.specs.declared.machine.Machine.{Machine}
use Rattle.planrun.specs.Results.{IsRunOf}
use Rattle.planrun.specs.Running.{world, ops, items_of, next_of, ComesTo}

-- before its end, code goes on with the instruction at the place
first_step : (m : Machine) (n p stop : ℕ) (os : List Outcome) → p < stop
    → next_of m (suc n) p stop (items_of m) os ≡ step_if (world m) (slice_get (ops m) p) (next_of m n) p stop (items_of m) os
first_step m n p stop os less =
    let within : nat_lt p stop ≡ true = grind (arith, nat_tests) in
    rw within refl

-- what is left after an instruction gives the same
pub onward : (m : Machine) (left n p stop to : ℕ) (os new whole : List Outcome) → left ≡ suc n → p < stop
    → next_of m left p stop (items_of m) os ≡ whole
    → step_if (world m) (slice_get (ops m) p) (next_of m n) p stop (items_of m) os ≡ next_of m n to stop (items_of m) new
    → next_of m n to stop (items_of m) new ≡ whole
onward m left n p stop to os new whole more less was goes_on =
    let before = rw more at was in
    sym goes_on ∙ (sym (first_step m n p stop os less) ∙ before)

at_end : (m : Machine) (n p stop : ℕ) (os : List Outcome) → stop ≤ p → next_of m (suc n) p stop (items_of m) os ≡ os
at_end m n p stop os more =
    let after : nat_lt p stop ≡ false = grind (arith, nat_tests) in
    rw after refl

-- where a body ends, its stack is what it gives
pub ended : (m : Machine) (left p stop : ℕ) (os whole : List Outcome) → stop < p + left → p ≤ stop → stop ≤ p → next_of m left p stop (items_of m) os ≡ whole → whole ≡ os
ended m left p stop os whole enough inside after was =
    let more : left ≡ suc (left - 1) = omega arith in
    let before = rw more at was in
    sym before ∙ at_end m (left - 1) p stop os after

-- the whole code, run from its first instruction
pub whole_run : (w : World) (is : List Instruction) → top (exec w (ops_of is) (length is + 1) 0 (length is) [] []) ≡ outcome w (ops_of is)
whole_run w is =
    let end : length is ≡ length (ops_of is) = sym (length-map is op_of) in
    let more : length is + 1 ≡ suc (length (ops_of is)) = omega (arith, end) in
    ap (λ k. top (exec w (ops_of is) k 0 (length is) [] [])) more ∙ ap (λ k. top (exec w (ops_of is) (suc (length (ops_of is))) 0 k [] [])) end

-- control begins there, in no macro
pub at_first : (is : List Instruction) → ComesTo (ops_of is) 0 (length is) 0 0
at_first is = record {
  outer = [];
  comes = subst (λ (k : ℕ). Comes (ops_of is) (record { place = 0; end = k; outer = []; height = 0 })) (length-map is op_of) begins;
  depth_is = refl;
}

-- code of an expression gives what the expression means
pub meant : (code : List Op) (w : World) (e : Expr) (env : Environment) → IsRunOf code w e env → outcome w code ≡ mean e env
meant code w e env r = ap (λ c. outcome w c) r.code_is ∙ code_means r.scope e w env r.outside r.typed r.nested r.world
