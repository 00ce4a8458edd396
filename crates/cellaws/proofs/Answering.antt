-- The questions of one place, and what the pass finds there.
use Rattle.std.proofs.Common.{◌≡◌, ◌⊎◌, inl, inr, ℕ, ◌+◌, ◌-◌, ◌<◌, ◌≤◌, Bool, true, false, not, cond, ◌==◌, nat_lt, List, [], ◌∷◌, length, take, drop, Option, Some, None, Result, Ok, Err, refl, sym, ap, subst, ◌∙◌, arith}
use Rattle.std.specs.Prelude.{slice_get}
use Rattle.std.specs.List.{list_all}
use Rattle.std.proofs.lemmas.Bool.{eqb-true, le-ltb, ltb-true}
use Rattle.std.proofs.lemmas.Bool.Decides.{nat_tests}
use Rattle.std.proofs.lemmas.List.{length-map}
use Rattle.std.proofs.lemmas.Option.{same_Some}
use Rattle.celtree.specs.declared.tree.Macro.{Macro}
use Rattle.instructions.specs.declared.fault.CodeFault.{CodeFault}
use Rattle.instructions.specs.declared.fault.CodeFault.TheVariants as fault
use Rattle.instructions.specs.Op.{Op, Over}
use Rattle.instructions.specs.Judging.{OpenBody, height_at, has_one, targets, takes, left, goes_past, is_fair, are_fair, is_named, goes_on, opens, runs, judged}
use Rattle.instructions.specs.WellFormed.{Among}
use Rattle.instructions.proofs.Nested.{left_by, slice_get-drop, fair_says}
use Rattle.instructions.proofs.Stepping.{ends_of}
use Rattle.instructions.proofs.Converse.{and_true, all_from, all_taken_from}
use Rattle.cellaws.specs.FirstFault.{Bodies, HasHeight, Stands, IsFair, Question, bodies, jumps, names, stack, rank, fault_of, Holds}
use Rattle.cellaws.proofs.Heights.{Knows, knows_other, height_found, height_is, one_found, one_there}
use Rattle.cellaws.proofs.Places.{all_ends, Held, Only, first_end, held_here, left_ends}

-- the first question of a place that is answered with no, and its fault
pub record Fault (vars : ℕ) (code : List Op) (at : ℕ) (f : CodeFault) : Type 0 where
  pub question : Question
  pub is : f ≡ fault_of question
  pub fails : Holds vars code at question → ⊥
  pub first : (q : Question) → rank q < rank question → Holds vars code at q

abbrev failed : {A : Type 0} → CodeFault → Result A CodeFault
failed f = Err f

pub fault_is : {A : Type 0} (f g : CodeFault) → failed {A = A} f ≡ failed g → f ≡ g
fault_is f g e = cc

-- ---- bodies that end

one_outer : (code : List Op) (at : ℕ) (outer : List ℕ) (b : OpenBody) (os : List OpenBody) → Knows code at b os → has_one at b ≡ true
    → all_ends b os ≡ at ∷ outer → HasHeight code at at outer 1
one_outer code at outer b os k one e =
    let f = first_end b.end at (ends_of os) outer e in
    subst (λ (o : List ℕ). HasHeight code at at o 1) f.1 (subst (λ (n : ℕ). HasHeight code at n (ends_of os) 1) f.0 (one_found code at b os k one))

-- the body that ends here, with these around it, has its one outcome or is still to be left
abbrev Ending : List Op → ℕ → List ℕ → OpenBody → List OpenBody → Type 0
Ending code at outer b os = Knows code at b os × (HasHeight code at at outer 1 ⊎ Held at (at ∷ outer) b os)

ending_move : (code : List Op) (at : ℕ) (outer : List ℕ) (b o : OpenBody) (os : List OpenBody) → b.end ≡ at → has_one at b ≡ true
    → Ending code at outer b (o ∷ os) → Ending code at outer o os
ending_move code at outer b o os same one (k, inl done) = (knows_other code at b o os k, inl done)
ending_move code at outer b o os same one (k, inr (inl e)) = (knows_other code at b o os k, inl (one_outer code at outer b (o ∷ os) k one e))
ending_move code at outer b o os same one (k, inr (inr h)) = (knows_other code at b o os k, inr h.1)

pub bodies_hold : (vars : ℕ) (code : List Op) (at : ℕ) (b : OpenBody) (os : List OpenBody) (x : OpenBody × List OpenBody) → Knows code at b os
    → Only code at b os → left at b os ≡ Ok x → at < x.0.end → Holds vars code at bodies
bodies_hold vars code at b os x k only went lt outer stands =
    elim (left_by at (λ b os. Ending code at outer b os) (ending_move code at outer) b os x went (k, inr (only (at ∷ outer) stands))).1 [
      | inl done ↦ done
      | inr h ↦ (let e : x.0.end ≡ at = (first_end x.0.end at (ends_of x.1) outer (held_here at at outer x.0 x.1 lt h)).0 in absurd (omega arith))
    ]

not_one : (vars : ℕ) (code : List Op) (at : ℕ) (b : OpenBody) (os : List OpenBody) → Knows code at b os → Bodies code at (all_ends b os) → b.end ≡ at
    → has_one at b ≡ false → Holds vars code at bodies → ⊥
not_one vars code at b os k stands same none holds =
    let has = holds (ends_of os) (subst (λ (n : ℕ). Bodies code at (n ∷ ends_of os)) same stands) in
    let one = one_there code at b os k (subst (λ (n : ℕ). HasHeight code at n (ends_of os) 1) (sym same) has) in
    absurd cc

pub bodies_fail : (vars : ℕ) (code : List Op) (at : ℕ) (f : CodeFault) (b : OpenBody) (os : List OpenBody) → Knows code at b os
    → Bodies code at (all_ends b os) → b.end ≡ at → has_one at b ≡ false → f ≡ fault.BadStack → Fault vars code at f
bodies_fail vars code at f b os k stands same none is =
    record { question = bodies; is = is; fails = not_one vars code at b os k stands same none; first = λ q lt. absurd (omega arith) }

left_fails_at : (t h : Bool) (vars : ℕ) (code : List Op) (at : ℕ) (f : CodeFault) (b o : OpenBody) (os : List OpenBody) → (b.end == at) ≡ t → has_one at b ≡ h
    → Knows code at b (o ∷ os) → Bodies code at (all_ends b (o ∷ os))
    → (Bodies code at (all_ends o os) → left at o os ≡ Err f → Fault vars code at f)
    → cond t (cond h (left at o os) (Err fault.BadStack)) (Ok (b, o ∷ os)) ≡ Err f → Fault vars code at f
left_fails_at true true vars code at f b o os same one k stands more e = more (left_ends code at b o os (eqb-true _ _ same) one stands) e
left_fails_at true false vars code at f b o os same none k stands more e =
    bodies_fail vars code at f b (o ∷ os) k stands (eqb-true _ _ same) none (sym (fault_is fault.BadStack f e))
left_fails_at false h vars code at f b o os same one k stands more e = absurd cc

pub left_fails : (vars : ℕ) (code : List Op) (at : ℕ) (f : CodeFault) (b : OpenBody) (os : List OpenBody) → Knows code at b os
    → Bodies code at (all_ends b os) → left at b os ≡ Err f → Fault vars code at f
left_fails vars code at f b [] k stands e = absurd cc
left_fails vars code at f b (o ∷ os) k stands e =
    left_fails_at (b.end == at) (has_one at b) vars code at f b o os refl refl k stands
    (λ there more. left_fails vars code at f o os (knows_other code at b o os k) there more) e

-- ---- an instruction

-- the instruction, and the bodies that are open when those that end at its place have been left
pub record Here (code : List Op) (at : ℕ) (op : Op) (b : OpenBody) (os : List OpenBody) : Type 0 where
  pub here : slice_get code at ≡ Some op
  pub inside : at < b.end
  pub knows : Knows code at b os
  pub bodies : Bodies code at (all_ends b os)
  pub around : (end : ℕ) (outer : List ℕ) → at < end → Bodies code at (end ∷ outer) → all_ends b os ≡ end ∷ outer

record Same (op other : Op) (b : OpenBody) (os : List OpenBody) (end : ℕ) (outer : List ℕ) : Type 0 where
  op_is : op ≡ other
  end_is : b.end ≡ end
  outer_is : ends_of os ≡ outer

same : (code : List Op) (at : ℕ) (op : Op) (b : OpenBody) (os : List OpenBody) → Here code at op b os → (other : Op) (end : ℕ) (outer : List ℕ)
    → Stands code at other end outer → Same op other b os end outer
same code at op b os h other end outer st =
    let f = first_end b.end end (ends_of os) outer (h.around end outer st.inside st.bodies) in
    record { op_is = same_Some op other (sym h.here ∙ st.here); end_is = f.0; outer_is = f.1 }

standing : (code : List Op) (at : ℕ) (op : Op) (b : OpenBody) (os : List OpenBody) → Here code at op b os → Stands code at op b.end (ends_of os)
standing code at op b os h = record { here = h.here; bodies = h.bodies; inside = h.inside }

not_past : (target : ℕ) (op : Op) → ((m : Macro) (e : ℕ) → op ≡ Over m e → e ≤ target) → not (goes_past target op) ≡ true
not_past target (Over m e) before = ap not (le-ltb target e (before m e refl))
not_past target op before = refl

fair_target : (code : List Op) (at end target : ℕ) → IsFair code at end target → is_fair at end (drop (at + 1) code) target ≡ true
fair_target code at end target f =
    let lt : at < target = f.ahead in
    let a : nat_lt at target ≡ true = grind (arith, nat_tests) in
    let b : not (nat_lt end target) ≡ true = ap not (le-ltb end target f.inside) in
    let c : list_all (λ op. not (goes_past target op)) (take (target - (at + 1)) (drop (at + 1) code)) ≡ true =
    all_taken_from (λ op. not (goes_past target op)) (target - (at + 1)) (drop (at + 1) code)
    (λ i op k is.
    let there = sym (slice_get-drop (at + 1) i code) ∙ is in
    not_past target op (λ m e over. f.outside ((at + 1) + i) e m (there ∙ ap (λ (o : Op). Some o) over) (omega arith) (omega arith))) in
    and_true (nat_lt at target) _ a (and_true (not (nat_lt end target)) _ b c)

jumps_hold : (vars : ℕ) (code : List Op) (at : ℕ) (op : Op) (b : OpenBody) (os : List OpenBody) → Here code at op b os
    → are_fair at b.end (drop (at + 1) code) (targets op) ≡ true → Holds vars code at jumps
jumps_hold vars code at op b os h fair other end target outer st m =
    let s = same code at op b os h other end outer st in
    let f = fair_says code at b.end target (targets op) fair (subst (λ (o : Op). Among target (targets o)) (sym s.op_is) m) in
    record {
      ahead = f.ahead;
      inside = let i : target ≤ b.end = f.inside in let e : b.end ≡ end = s.end_is in omega arith;
      outside = λ between stop m is lt before. f.clear between stop m (omega arith) before is;
    }

jumps_tell : (vars : ℕ) (code : List Op) (at : ℕ) (op : Op) (b : OpenBody) (os : List OpenBody) → Here code at op b os → Holds vars code at jumps
    → are_fair at b.end (drop (at + 1) code) (targets op) ≡ true
jumps_tell vars code at op b os h holds =
    all_from (is_fair at b.end (drop (at + 1) code)) (targets op)
    (λ target m. fair_target code at b.end target (holds op b.end target (ends_of os) (standing code at op b os h) m))

names_hold : (vars : ℕ) (code : List Op) (at : ℕ) (op : Op) (b : OpenBody) (os : List OpenBody) → Here code at op b os → is_named vars (length os) op ≡ true
    → Holds vars code at names
names_hold vars code at op b os h named other end outer st =
    let s = same code at op b os h other end outer st in
    let depth : length os ≡ length outer = sym (length-map os (λ (x : OpenBody). x.end)) ∙ ap (λ (o : List ℕ). length o) s.outer_is in
    ap (λ (d : ℕ). is_named vars d other) (sym depth) ∙ ap (is_named vars (length os)) (sym s.op_is) ∙ named

names_tell : (vars : ℕ) (code : List Op) (at : ℕ) (op : Op) (b : OpenBody) (os : List OpenBody) → Here code at op b os → Holds vars code at names
    → is_named vars (length os) op ≡ true
names_tell vars code at op b os h holds =
    ap (λ (d : ℕ). is_named vars d op) (sym (length-map os (λ (x : OpenBody). x.end))) ∙ holds op b.end (ends_of os) (standing code at op b os h)

stack_hold : (vars : ℕ) (code : List Op) (at height : ℕ) (op : Op) (b : OpenBody) (os : List OpenBody) → Here code at op b os
    → height_at at b.awaited ≡ Some height → takes op ≤ height → Holds vars code at stack
stack_hold vars code at height op b os h e enough other end outer st =
    let s = same code at op b os h other end outer st in
    let has = height_found code at height b os h.knows e in (
      height,
      subst (λ (o : List ℕ). HasHeight code at end o height) s.outer_is (subst (λ (n : ℕ). HasHeight code at n (ends_of os) height) s.end_is has),
      subst (λ (o : Op). takes o ≤ height) s.op_is enough,
    )

stack_tell : (vars : ℕ) (code : List Op) (at : ℕ) (op : Op) (b : OpenBody) (os : List OpenBody) → Here code at op b os → Holds vars code at stack
    → (height : ℕ) × (height_at at b.awaited ≡ Some height) × (takes op ≤ height)
stack_tell vars code at op b os h holds =
    let r = holds op b.end (ends_of os) (standing code at op b os h) in
    (r.0, height_is code at r.0 b os h.knows r.1, r.2)

-- ---- what a fault says

pub all_hold : (vars : ℕ) (code : List Op) (at height : ℕ) (op : Op) (b : OpenBody) (os : List OpenBody) → Here code at op b os → Holds vars code at bodies
    → are_fair at b.end (drop (at + 1) code) (targets op) ≡ true → is_named vars (length os) op ≡ true
    → height_at at b.awaited ≡ Some height → takes op ≤ height → (q : Question) → Holds vars code at q
all_hold vars code at height op b os h holds fair named e enough bodies = holds
all_hold vars code at height op b os h holds fair named e enough jumps = jumps_hold vars code at op b os h fair
all_hold vars code at height op b os h holds fair named e enough names = names_hold vars code at op b os h named
all_hold vars code at height op b os h holds fair named e enough stack = stack_hold vars code at height op b os h e enough

below_jumps : (vars : ℕ) (code : List Op) (at : ℕ) → Holds vars code at bodies → (q : Question) → rank q < rank jumps → Holds vars code at q
below_jumps vars code at first bodies lt = first
below_jumps vars code at first jumps lt = absurd (omega arith)
below_jumps vars code at first names lt = absurd (omega arith)
below_jumps vars code at first stack lt = absurd (omega arith)

below_names : (vars : ℕ) (code : List Op) (at : ℕ) → Holds vars code at bodies → Holds vars code at jumps → (q : Question) → rank q < rank names
    → Holds vars code at q
below_names vars code at first second bodies lt = first
below_names vars code at first second jumps lt = second
below_names vars code at first second names lt = absurd (omega arith)
below_names vars code at first second stack lt = absurd (omega arith)

below_stack : (vars : ℕ) (code : List Op) (at : ℕ) → Holds vars code at bodies → Holds vars code at jumps → Holds vars code at names → (q : Question)
    → rank q < rank stack → Holds vars code at q
below_stack vars code at first second third bodies lt = first
below_stack vars code at first second third jumps lt = second
below_stack vars code at first second third names lt = third
below_stack vars code at first second third stack lt = absurd (omega arith)

few : (t : Bool) (f : CodeFault) (y : OpenBody × List OpenBody) → cond t (Err fault.BadStack) (Ok y) ≡ Err f → (t ≡ true) × (f ≡ fault.BadStack)
few true f y e = (refl, sym (fault_is fault.BadStack f e))
few false f y e = absurd cc

no_stack : (vars : ℕ) (code : List Op) (at : ℕ) (op : Op) (f : CodeFault) (b : OpenBody) (os : List OpenBody) → Here code at op b os → (o : Option ℕ)
    → height_at at b.awaited ≡ o → runs op at o b os ≡ Err f → (f ≡ fault.BadStack) × (Holds vars code at stack → ⊥)
no_stack vars code at op f b os h None is e = (
  sym (fault_is fault.BadStack f e),
  λ holds. let t = stack_tell vars code at op b os h holds in let k : None ≡ Some t.0 = sym is ∙ t.1 in absurd cc,
)
no_stack vars code at op f b os h (Some height) is e =
    let c = few (nat_lt height (takes op)) f (opens op at (goes_on op at height b) os) e in (
      c.1,
      λ holds. let t = stack_tell vars code at op b os h holds in
          let k : height ≡ t.0 = same_Some height t.0 (sym is ∙ t.1) in
          let less : height < takes op = ltb-true _ _ c.0 in
          let enough : takes op ≤ t.0 = t.2 in
          absurd (omega arith),
    )

judged_fails_at : (fair named : Bool) (vars : ℕ) (code : List Op) (at : ℕ) (op : Op) (f : CodeFault) (b : OpenBody) (os : List OpenBody)
    → Here code at op b os → Holds vars code at bodies
    → are_fair at b.end (drop (at + 1) code) (targets op) ≡ fair → is_named vars (length os) op ≡ named
    → cond (not fair) (Err fault.BadJump) (cond (not named) (Err fault.BadName) (runs op at (height_at at b.awaited) b os)) ≡ Err f → Fault vars code at f
judged_fails_at false named vars code at op f b os h first p q e =
    record {
      question = jumps;
      is = sym (fault_is fault.BadJump f e);
      fails = λ holds. (let t = jumps_tell vars code at op b os h holds in absurd cc);
      first = below_jumps vars code at first;
    }
judged_fails_at true false vars code at op f b os h first p q e = record {
  question = names;
  is = sym (fault_is fault.BadName f e);
  fails = λ holds. (let t = names_tell vars code at op b os h holds in absurd cc);
  first = below_names vars code at first (jumps_hold vars code at op b os h p);
}
judged_fails_at true true vars code at op f b os h first p q e =
    let n = no_stack vars code at op f b os h (height_at at b.awaited) refl e in
    record {
      question = stack;
      is = n.0;
      fails = n.1;
      first = below_stack vars code at first (jumps_hold vars code at op b os h p) (names_hold vars code at op b os h q);
    }

pub judged_fails : (vars : ℕ) (code : List Op) (at : ℕ) (op : Op) (f : CodeFault) (b : OpenBody) (os : List OpenBody) → Here code at op b os
    → Holds vars code at bodies → judged vars at op (drop (at + 1) code) b os ≡ Err f → Fault vars code at f
judged_fails vars code at op f b os h first e =
    judged_fails_at (are_fair at b.end (drop (at + 1) code) (targets op)) (is_named vars (length os) op) vars code at op f b os h first refl refl e
