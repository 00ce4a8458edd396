-- The pass stops at the first question that is answered with no.
use Rattle.std.proofs.Common.{◌≡◌, ◌⊎◌, inl, inr, ℕ, zero, suc, ◌+◌, ◌<◌, ◌≤◌, Bool, true, false, cond, List, [], ◌∷◌, length, drop, Some, Result, Ok, Err, refl, sym, ap, subst, ◌∙◌, arith}
use Rattle.std.specs.Prelude.{slice_get}
use Rattle.std.proofs.lemmas.Bool.{cases_lt}
use Rattle.std.proofs.lemmas.List.{drop_all}
use Rattle.instructions.specs.declared.fault.CodeFault.{CodeFault}
use Rattle.instructions.specs.declared.fault.CodeFault.TheVariants as fault
use Rattle.instructions.specs.Op.{Op}
use Rattle.instructions.specs.Faults.{◌>>=◌}
use Rattle.instructions.specs.Judging.{OpenBody, has_one, left, judged, step, ended, judge, whole, first_fault}
use Rattle.instructions.proofs.Nested.{Nested, nested_fine, nested_end, left_by, left_stays, left_nested, before_end, Steps, steps}
use Rattle.instructions.proofs.Stepping.{nested_step}
use Rattle.instructions.proofs.Reaching.{drop_here, start_fine}
use Rattle.cellaws.specs.FirstFault as places
use Rattle.cellaws.specs.FirstFault.{Bodies, Question, Holds, IsFirstFault, FirstFaultIsFirst}
use Rattle.cellaws.proofs.Heights.{Knows, knows_other, height_found}
use Rattle.cellaws.proofs.Places.{all_ends, Only, around, only_start, only_on, left_bodies, bodies_on}
use Rattle.cellaws.proofs.Going.{Sound, Complete, sound_start, complete_start, left_sound, sound_on, complete_on}
use Rattle.cellaws.proofs.Answering.{Fault, fault_is, bodies_hold, bodies_fail, left_fails, Here, all_hold, judged_fails}

-- the pass at a place: what is open and awaited there is as it should be, and each question before is answered with yes
record State (vars : ℕ) (code : List Op) (at : ℕ) (b : OpenBody) (os : List OpenBody) : Type 0 where
  nested : Nested code at at b os
  sound : Sound code at b os
  complete : Complete code at b os
  bodies : Bodies code at (all_ends b os)
  only : Only code at b os
  before : (n : ℕ) (q : Question) → n < at → Holds vars code n q

start : (vars : ℕ) (code : List Op) → State vars code 0 (whole code) []
start vars code = record {
  nested = (start_fine code, refl);
  sound = sound_start code;
  complete = complete_start code;
  bodies = places.whole;
  only = only_start code;
  before = λ n q lt. absurd (omega arith);
}

knows : (vars : ℕ) (code : List Op) (at : ℕ) (b : OpenBody) (os : List OpenBody) → State vars code at b os → Knows code at b os
knows vars code at b os s = record { sound = s.sound; complete = λ c comes le deep. s.complete c comes le }

knows_left : (vars : ℕ) (code : List Op) (at : ℕ) (b : OpenBody) (os : List OpenBody) (x : OpenBody × List OpenBody) → State vars code at b os → left at b os ≡ Ok x
    → Knows code at x.0 x.1
knows_left vars code at b os x s went =
    left_by at (λ b os. Knows code at b os) (λ b o os same one k. knows_other code at b o os k) b os x went (knows vars code at b os s)

here_of : (vars : ℕ) (code : List Op) (at : ℕ) (op : Op) (b : OpenBody) (os : List OpenBody) (x : OpenBody × List OpenBody) → State vars code at b os
    → slice_get code at ≡ Some op → at < length code → left at b os ≡ Ok x → Here code at op x.0 x.1
here_of vars code at op b os x s here lt went =
    let inside : at < x.0.end = before_end code at x.0 x.1 lt (left_stays at b os x went) (left_nested code at b os x went s.nested) in
    record {
      here = here;
      inside = inside;
      knows = knows_left vars code at b os x s went;
      bodies = left_bodies code at b os x went s.bodies;
      around = λ end outer under stands. around code at end outer b os x s.only went inside under stands;
    }

told : (vars : ℕ) (code : List Op) (at : ℕ) (f : CodeFault) (b : OpenBody) (os : List OpenBody) → State vars code at b os → at ≤ length code
    → Fault vars code at f → IsFirstFault vars code f
told vars code at f b os s le g = record {
  place = at;
  question = g.question;
  is = g.is;
  inside = le;
  fails = g.fails;
  first = λ n q earlier. elim earlier [ inl lt ↦ s.before n q lt | inr k ↦ subst (λ (m : ℕ). Holds vars code m q) (sym k.0) (g.first q k.1) ];
}

-- ---- one instruction

further : (vars : ℕ) (code : List Op) (at : ℕ) (op : Op) (b : OpenBody) (os : List OpenBody) (y : OpenBody × List OpenBody) → State vars code at b os
    → slice_get code at ≡ Some op → at < length code → Steps vars at op (drop (at + 1) code) b os y
    → State vars code (at + 1) y.0 y.1
further vars code at op b os y s here lt t =
    let h = here_of vars code at op b os t.stays s here lt t.went in
    let has = height_found code at t.height t.stays.0 t.stays.1 h.knows t.agreed in
    let ended_well = bodies_hold vars code at b os t.stays (knows vars code at b os s) s.only t.went h.inside in
    record {
      nested = nested_step vars at op code b os y here s.nested t;
      sound = subst (λ (z : OpenBody × List OpenBody). Sound code (at + 1) z.0 z.1) t.result
          (sound_on code at t.height op t.stays.0 t.stays.1 here h.inside has.comes (left_sound code at b os t.stays t.went s.sound));
      complete = complete_on vars at op code b os y here s.nested s.complete t;
      bodies = subst (λ (z : OpenBody × List OpenBody). Bodies code (at + 1) (all_ends z.0 z.1)) t.result
          (bodies_on code at t.height op t.stays.0 t.stays.1 here h.inside h.bodies);
      only = subst (λ (z : OpenBody × List OpenBody). Only code (at + 1) z.0 z.1) t.result (only_on code at t.height op b os t.stays here s.only t.went h.inside);
      before = λ n q less. elim (cases_lt n at) [
        | inl earlier ↦ s.before n q earlier
        | inr past ↦ (let same : at ≡ n = omega arith in
            subst (λ (m : ℕ). Holds vars code m q) same (all_hold vars code at t.height op t.stays.0 t.stays.1 h ended_well t.fair t.named t.agreed t.enough q))
      ];
    }

failed_in : {A B : Type 0} (r : Result A CodeFault) (k : A → Result B CodeFault) (f : CodeFault) → (r >>= k) ≡ Err f
    → (r ≡ Err f) ⊎ ((x : A) × (r ≡ Ok x) × (k x ≡ Err f))
failed_in (Ok x) k f e = inr (x, refl, e)
failed_in (Err d) k f e = inl (ap (λ (g : CodeFault). Err g) (fault_is d f e))

step_fails : (vars : ℕ) (code : List Op) (at : ℕ) (op : Op) (f : CodeFault) (b : OpenBody) (os : List OpenBody) → State vars code at b os
    → slice_get code at ≡ Some op → at < length code → step vars at op (drop (at + 1) code) b os ≡ Err f → Fault vars code at f
step_fails vars code at op f b os s here lt e =
    elim (failed_in (left at b os) (λ x. judged vars at op (drop (at + 1) code) x.0 x.1) f e) [
      | inl stuck ↦ left_fails vars code at f b os (knows vars code at b os s) s.bodies stuck
      | inr (x, went, wrong) ↦ (let h = here_of vars code at op b os x s here lt went in
          judged_fails vars code at op f x.0 x.1 h (bodies_hold vars code at b os x (knows vars code at b os s) s.only went h.inside) wrong)
    ]

-- ---- the end of the plan

not_ended : {A : Type 0} (t : Bool) (f : CodeFault) (y : A) → cond t (Ok y) (Err fault.BadStack) ≡ Err f → (t ≡ false) × (f ≡ fault.BadStack)
not_ended true f y e = absurd cc
not_ended false f y e = (refl, sym (fault_is fault.BadStack f e))

end_fails : (vars : ℕ) (code : List Op) (at : ℕ) (f : CodeFault) (b : OpenBody) (os : List OpenBody) → State vars code at b os → at ≡ length code
    → judge vars at [] b os ≡ Err f → Fault vars code at f
end_fails vars code at f b os s same e =
    elim (failed_in (left at b os) (λ x. ended at x) f e) [
      | inl stuck ↦ left_fails vars code at f b os (knows vars code at b os s) s.bodies stuck
      | inr (x, went, wrong) ↦ (let n = not_ended (has_one at x.0) f tt wrong in
          let kept = left_nested code at b os x went s.nested in
          let high : x.0.end ≤ length code = nested_end code at at x.0 x.1 kept in
          let low : at ≤ x.0.end = (nested_fine code at at x.0 x.1 kept).low_end in
          bodies_fail vars code at f x.0 x.1 (knows_left vars code at b os x s went) (left_bodies code at b os x went s.bodies) (omega arith) n.0 n.1)
    ]

-- ---- the whole plan

pass : (vars : ℕ) (code : List Op) (f : CodeFault) (k at : ℕ) (b : OpenBody) (os : List OpenBody) → at + k ≡ length code → State vars code at b os
    → judge vars at (drop at code) b os ≡ Err f → IsFirstFault vars code f
pass vars code f zero at b os same s e =
    let last : judge vars at [] b os ≡ Err f = ap (λ (ops : List Op). judge vars at ops b os) (sym (drop_all at code (omega arith))) ∙ e in
    told vars code at f b os s (omega arith) (end_fails vars code at f b os s (omega arith) last)
pass vars code f (suc k) at b os same s e =
    let lt : at < length code = omega arith in
    let d = drop_here at code lt in
    let one : judge vars at (d.0 ∷ drop (at + 1) code) b os ≡ Err f = ap (λ (ops : List Op). judge vars at ops b os) (sym d.2) ∙ e in
    elim (failed_in (step vars at d.0 (drop (at + 1) code) b os) (λ y. judge vars (at + 1) (drop (at + 1) code) y.0 y.1) f one) [
      | inl wrong ↦ told vars code at f b os s (omega arith) (step_fails vars code at d.0 f b os s d.1 lt wrong)
      | inr (y, went, later) ↦ (let t = steps vars at d.0 (drop (at + 1) code) b os y went in
          pass vars code f k (at + 1) y.0 y.1 (omega arith) (further vars code at d.0 b os y s d.1 lt t) later)
    ]

pub first_fault_first : FirstFaultIsFirst
unfolding first_fault
first_fault_first vars code f e = pass vars code f (length code) 0 (whole code) [] (omega arith) (start vars code) e
