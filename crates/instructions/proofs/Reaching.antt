-- The pass over a plan without a fault comes to each place, and there it has found where control comes.
use Rattle.std.proofs.Common.{◌≡◌, inl, inr, ℕ, zero, suc, ◌+◌, ◌-◌, ◌<◌, ◌≤◌, List, [], ◌∷◌, length, drop, Option, Some, None, Result, Ok, Err, refl, sym, ap, subst, ◌∙◌, add-one, arith}
use Rattle.std.specs.Prelude.{slice_get}
use Rattle.std.proofs.lemmas.Option.{slice_get_within, same_Some}
use Rattle.instructions.specs.declared.fault.CodeFault.{CodeFault}
use Rattle.instructions.specs.declared.fault.CodeFault.TheVariants as fault
use Rattle.instructions.specs.Op.{Op}
use Rattle.instructions.specs.Faults.{◌>>=◌}
use Rattle.instructions.specs.Judging.{Arrival, OpenBody, step, judge, whole, first_fault}
use Rattle.instructions.specs.WellFormed.{Among, Control, within, next, Comes, begins, goes}
use Rattle.instructions.proofs.Arrivals.{bind_ok}
use Rattle.instructions.proofs.Nested.{Fine, Nested, Steps, steps}
use Rattle.instructions.proofs.Stepping.{nested_step, Real, real_step}
use Rattle.instructions.proofs.Awaiting.{Awaits, awaits_low, awaits_end, awaits_opened, opened_end, stays_awaited, leads_on}

abbrev pub at_op : ℕ → ℕ → List Op → Option Op → OpenBody × List OpenBody → Result (OpenBody × List OpenBody) CodeFault
at_op vars n code None x = Err fault.BadStack
at_op vars n code (Some op) x = step vars n op (drop (n + 1) code) x.0 x.1

-- the open bodies at a place
abbrev pub states : ℕ → List Op → ℕ → Result (OpenBody × List OpenBody) CodeFault
states vars code zero = Ok (whole code, [])
states vars code (suc n) = states vars code n >>= at_op vars n code (slice_get code n)

pub record Passes (vars : ℕ) (code : List Op) (n : ℕ) (x : OpenBody × List OpenBody) : Type 0 where
  pub is : states vars code n ≡ Ok x
  pub passes : judge vars n (drop n code) x.0 x.1 ≡ Ok tt
  pub nested : Nested code n n x.0 x.1
  pub real : Real code x.0 x.1

pub drop_here : (n : ℕ) (code : List Op) → n < length code → (op : Op) × (slice_get code n ≡ Some op) × (drop n code ≡ op ∷ drop (n + 1) code)
drop_here n [] lt = absurd (omega arith)
drop_here zero (x ∷ xs) lt = (x, refl, refl)
drop_here (suc n) (x ∷ xs) lt =
    let h = drop_here n xs (omega arith) in
    let k : suc (n + 1) ≡ suc n + 1 = omega arith in
    (h.0, h.1, h.2 ∙ ap (λ (m : ℕ). h.0 ∷ drop m (x ∷ xs)) k)

-- the pass goes on from a place
pub record Next (vars : ℕ) (code : List Op) (n : ℕ) (x : OpenBody × List OpenBody) : Type 0 where
  pub op : Op
  pub here : slice_get code n ≡ Some op
  pub later : OpenBody × List OpenBody
  pub steps : Steps vars n op (drop (n + 1) code) x.0 x.1 later
  pub passes : Passes vars code (n + 1) later

pub next_of : (vars : ℕ) (code : List Op) (n : ℕ) (x : OpenBody × List OpenBody) → Passes vars code n x → n < length code → Next vars code n x
next_of vars code n x p lt =
    let d = drop_here n code lt in
    let e : judge vars n (d.0 ∷ drop (n + 1) code) x.0 x.1 ≡ Ok tt = ap (λ (ops : List Op). judge vars n ops x.0 x.1) (sym d.2) ∙ p.passes in
    let b = bind_ok (step vars n d.0 (drop (n + 1) code) x.0 x.1) (λ y. judge vars (n + 1) (drop (n + 1) code) y.0 y.1) tt e in
    let s = steps vars n d.0 (drop (n + 1) code) x.0 x.1 b.0 b.1 in
    let here : states vars code (suc n) ≡ Ok b.0 = ap (λ r. r >>= at_op vars n code (slice_get code n)) p.is ∙ ap (λ (o : Option Op). at_op vars n code o x) d.1 ∙ b.1 in
    record {
      op = d.0;
      here = d.1;
      later = b.0;
      steps = s;
      passes = record {
        is = subst (λ (k : ℕ). states vars code k ≡ Ok b.0) (sym (add-one n)) here;
        passes = b.2;
        nested = nested_step vars n d.0 code x.0 x.1 b.0 d.1 p.nested s;
        real = real_step vars n d.0 code x.0 x.1 b.0 d.1 p.nested p.real s;
      };
    }

pub start_fine : (code : List Op) → Fine code 0 0 (whole code)
start_fine code = record {
  ahead = λ a m. omega arith;
  inside = λ a m. elim m [ inl e ↦ (let p : 0 ≡ a.place = ap (λ (x : Arrival). x.place) e in omega arith) | inr n ↦ absurd n ];
  clear = λ a m j e k from under is. elim m [ inl q ↦ (let p : 0 ≡ a.place = ap (λ (x : Arrival). x.place) q in absurd (omega arith)) | inr n ↦ absurd n ];
  low_end = omega arith;
}

pub start_real : (code : List Op) (a : Arrival) → Among a (record { place = 0; height = 0 } ∷ []) → Comes code (within (length code) [] a)
start_real code a (inl e) = subst (λ (x : Arrival). Comes code (within (length code) [] x)) e begins
start_real code a (inr n) = absurd n

start : (vars : ℕ) (code : List Op) → first_fault vars code ≡ Ok tt → Passes vars code 0 (whole code, [])
unfolding first_fault
start vars code sound = record { is = refl; passes = sound; nested = (start_fine code, refl); real = start_real code }

pub record Reached (vars : ℕ) (code : List Op) (n : ℕ) : Type 0 where
  pub bodies : OpenBody × List OpenBody
  pub passes : Passes vars code n bodies

pub reach : (vars : ℕ) (code : List Op) → first_fault vars code ≡ Ok tt → (n : ℕ) → n ≤ length code → Reached vars code n
reach vars code sound zero le = record { bodies = (whole code, []); passes = start vars code sound }
reach vars code sound (suc n) le =
    let before = reach vars code sound n (omega arith) in
    let after = next_of vars code n before.bodies before.passes (omega arith) in
    record { bodies = after.later; passes = subst (λ (k : ℕ). Passes vars code k after.later) (add-one n) after.passes }

-- control is awaited at its place
pub record Here (vars : ℕ) (code : List Op) (c : Control) : Type 0 where
  pub bodies : OpenBody × List OpenBody
  pub passes : Passes vars code c.place bodies
  pub awaits : Awaits c bodies.0 bodies.1

keep : (vars : ℕ) (code : List Op) (k n : ℕ) (c : Control) (x : OpenBody × List OpenBody) → n + k ≡ c.place → c.place ≤ length code → Passes vars code n x → Awaits c x.0 x.1 → Here vars code c
keep vars code zero n c x e le p m = let k : n ≡ c.place = omega arith in record { bodies = x; passes = subst (λ (j : ℕ). Passes vars code j x) k p; awaits = m }
keep vars code (suc k) n c x e le p m =
    let on = next_of vars code n x p (omega arith) in
    keep vars code k (n + 1) c on.later (omega arith) le on.passes (stays_awaited vars n on.op code c x.0 x.1 on.later (omega arith) p.nested on.steps m)

awaited_within : (vars : ℕ) (code : List Op) (n : ℕ) (c : Control) (x : OpenBody × List OpenBody) → Passes vars code n x → Awaits c x.0 x.1 → c.place ≤ length code
awaited_within vars code n c x p m =
    let e : c.place ≤ c.end = awaits_end code n n c x.0 x.1 p.nested m in
    let l : c.end ≤ length code = opened_end code n n c x.0 x.1 p.nested (awaits_opened c x.0 x.1 m) in
    omega arith

from : (vars : ℕ) (code : List Op) (c d : Control) (op : Op) → c.place < c.end → slice_get code c.place ≡ Some op → Among d (next op c) → Here vars code c → Here vars code d
from vars code c d op inside is m h =
    let on = next_of vars code c.place h.bodies h.passes (slice_get_within code c.place op is) in
    let same : op ≡ on.op = same_Some op on.op (sym is ∙ on.here) in
    let there = subst (λ (o : Op). Among d (next o c)) same m in
    let awaited = leads_on vars c.place on.op code c d h.bodies.0 h.bodies.1 on.later on.steps refl inside on.here h.passes.nested h.awaits there in
    let le : c.place + 1 ≤ d.place = awaits_low code (c.place + 1) (c.place + 1) d on.later.0 on.later.1 on.passes.nested awaited in
    keep vars code (d.place - (c.place + 1)) (c.place + 1) d on.later (omega arith) (awaited_within vars code (c.place + 1) d on.later on.passes awaited) on.passes awaited

-- wherever control comes, it is awaited
pub comes_here : (vars : ℕ) (code : List Op) → first_fault vars code ≡ Ok tt → {c : Control} → Comes code c → Here vars code c
comes_here vars code sound begins = record { bodies = (whole code, []); passes = start vars code sound; awaits = record { is = record { end_is = refl; outer_is = refl }; among = inl refl } }
comes_here vars code sound (goes c d op h inside is m) = from vars code c d op inside is m (comes_here vars code sound h)
