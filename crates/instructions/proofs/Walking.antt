-- Judging instructions one after the other, as a loop does.
use Rattle.std.proofs.Common.{◌≡◌, ℕ, ◌+◌, ◌<◌, Bool, cond, List, [], ◌∷◌, length, get_or, drop, Result, Ok, Err, refl, sym, ap, ◌∙◌, add-one, drop-cons, arith}
use Rattle.std.proofs.lemmas.List.{drop_all, get_or-map}
use Rattle.instructions.specs.declared.fault.CodeFault.{CodeFault}
use Rattle.instructions.specs.declared.fault.CodeFault.TheVariants as fault
use Rattle.instructions.specs.declared.instruction.Instruction.{Instruction}
use Rattle.instructions.specs.Op.{Op}
use Rattle.instructions.specs.Seen.{op_of, ops_of}
use Rattle.instructions.specs.Faults.{◌>>=◌, Fails}
use Rattle.instructions.specs.Judging.{OpenBody, whole, step, judge, left, ended, is_one, first_fault}
use Rattle.instructions.specs.Bodies.{one_height, known_at, Table, begun, AreKnown, Reaches}
use Rattle.instructions.proofs.Failing.{fails}
use Rattle.instructions.proofs.Leaving.{one_known}
use Rattle.instructions.proofs.Low.{low_step}
use Rattle.instructions.proofs.Standing.{stands_begun, innermost_stands}

-- the bodies that are open at a place, from which the rest is judged as the whole is
pub record Reached (vars at : ℕ) (ops : List Op) (t : Table) (ts : List Table) : Type 0 where
  pub known : AreKnown at (length ops) t ts
  pub so_far : judge vars at (drop at ops) known.bodies.0 known.bodies.1 ≡ first_fault vars ops

pub begins : (vars : ℕ) (ops : List Op) → Reached vars 0 ops (begun 0 (length ops)) []
unfolding first_fault
begins vars ops = record {
  known = record {
    bodies = (whole ops, []);
    standing = record { before = omega arith; nested = (stands_begun 0 (length ops) (omega arith), refl) };
    low = (omega arith, tt);
    all_low = tt;
  };
  so_far = refl;
}

pub op_here : (code : List Instruction) (at : ℕ) (i : Instruction) → at < length code → i ≡ get_or code at i → op_of i ≡ get_or (ops_of code) at (op_of i)
op_here code at i lt is = ap op_of is ∙ sym (get_or-map op_of code at i (op_of i) lt)

-- the instructions from a place on
from_place : (ops : List Op) (at : ℕ) (op : Op) → at < length ops → op ≡ get_or ops at op → drop at ops ≡ op ∷ drop (at + 1) ops
from_place ops at op lt is =
    let e : drop at ops ≡ get_or ops at op ∷ drop (at + 1) ops = rw (add-one, drop-cons ops at op) refl in
    e ∙ ap (λ x. x ∷ drop (at + 1) ops) (sym is)

judged_on : (vars at : ℕ) (ops : List Op) (op : Op) (bodies : OpenBody × List OpenBody) → at < length ops → op ≡ get_or ops at op
    → judge vars at (drop at ops) bodies.0 bodies.1 ≡ (step vars at op (drop (at + 1) ops) bodies.0 bodies.1 >>= λ y. judge vars (at + 1) (drop (at + 1) ops) y.0 y.1)
judged_on vars at ops op bodies lt is = ap (λ rest. judge vars at rest bodies.0 bodies.1) (from_place ops at op lt is)

pub goes_on : (vars at : ℕ) (ops : List Op) (op : Op) (t u : Table) (ts us : List Table) → at < length ops → op ≡ get_or ops at op → (k : Reached vars at ops t ts)
    → Reaches (at + 1) (length ops) u us (step vars at op (drop (at + 1) ops) k.known.bodies.0 k.known.bodies.1) → Reached vars (at + 1) ops u us
goes_on vars at ops op t u ts us lt is k r =
    let bodies = k.known.bodies in
    let low = low_step vars at op (drop (at + 1) ops) bodies.0 bodies.1 r.bodies k.known.low k.known.all_low r.are in
    record {
      known = record { bodies = r.bodies; standing = r.standing; low = low.0; all_low = low.1 };
      so_far =
          sym (judged_on vars at ops op bodies lt is ∙ ap (λ (x : Result (OpenBody × List OpenBody) CodeFault). x >>= λ y. judge vars (at + 1) (drop (at + 1) ops) y.0 y.1) r.are)
          ∙ k.so_far;
    }

pub ends : (e : CodeFault) (vars at : ℕ) (ops : List Op) (op : Op) (t : Table) (ts : List Table) → at < length ops → op ≡ get_or ops at op → (k : Reached vars at ops t ts)
    → Fails e (step vars at op (drop (at + 1) ops) k.known.bodies.0 k.known.bodies.1) → Fails e (first_fault vars ops)
ends e vars at ops op t ts lt is k h =
    let bodies = k.known.bodies in
    fails e (step vars at op (drop (at + 1) ops) bodies.0 bodies.1) (first_fault vars ops)
    (λ f failed. sym k.so_far ∙ judged_on vars at ops op bodies lt is ∙ ap (λ (x : Result (OpenBody × List OpenBody) CodeFault). x >>= λ y. judge vars (at + 1) (drop (at + 1) ops) y.0 y.1) failed) h

pub at_end : (vars at : ℕ) (ops : List Op) (t : Table) (ts : List Table) → at ≡ length ops → (k : Reached vars at ops t ts) → judge 0 (length ops) [] k.known.bodies.0 k.known.bodies.1 ≡ first_fault vars ops
at_end vars at ops t ts e k =
    ap (λ (n : ℕ). judge 0 n [] k.known.bodies.0 k.known.bodies.1) (sym e)
    ∙ ap (λ rest. judge vars at rest k.known.bodies.0 k.known.bodies.1) (sym (drop_all at ops (omega arith)))
    ∙ k.so_far

-- the end of the plan
pub finished : (at count : ℕ) (u : Table) (us : List Table) (bodies : OpenBody × List OpenBody) (one : Bool) → Reaches at count u us (left at bodies.0 bodies.1) → is_one (one_height (known_at at u)) ≡ one
    → judge 0 at [] bodies.0 bodies.1 ≡ cond one (Ok tt) (Err fault.BadStack)
finished at count u us bodies one r is =
    ap (λ (x : Result (OpenBody × List OpenBody) CodeFault). x >>= λ y. ended at y) r.are
    ∙ ap (λ b. cond b (Ok tt) (Err fault.BadStack)) (sym (one_known at u r.bodies.0 (innermost_stands at count u us r.bodies.0 r.bodies.1 r.standing.nested)) ∙ is)
