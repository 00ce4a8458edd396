-- A well-formed plan has no fault.
use Rattle.std.proofs.Common.{◌≡◌, inl, inr, ℕ, zero, suc, ◌+◌, ◌-◌, ◌<◌, ◌≤◌, Bool, true, not, cond, List, [], ◌∷◌, length, take, drop, Option, Some, None, Result, Ok, Err, refl, sym, ap, subst, ◌∙◌, add-one, arith}
use Rattle.std.specs.Prelude.{slice_get, nat_lt}
use Rattle.std.specs.List.{list_all}
use Rattle.std.proofs.lemmas.Bool.{le-ltb, cases_lt}
use Rattle.std.proofs.lemmas.Bool.Decides.{nat_tests}
use Rattle.std.proofs.lemmas.List.{drop_all, length-map}
use Rattle.std.proofs.lemmas.Option.{same_Some}
use Rattle.celtree.specs.declared.tree.Macro.{Macro}
use Rattle.instructions.specs.declared.fault.CodeFault.{CodeFault}
use Rattle.instructions.specs.declared.fault.CodeFault.TheVariants as fault
use Rattle.instructions.specs.Op.{Op, Over}
use Rattle.instructions.specs.Faults.{◌>>=◌}
use Rattle.instructions.specs.Judging.{OpenBody, height_at, has_one, targets, takes, goes_past, is_fair, are_fair, is_named, goes_on, opens, runs, judged, step, judge, ended, whole, first_fault}
use Rattle.instructions.specs.WellFormed.{Control, within, Comes, StandsAt, IsWellFormed}
use Rattle.instructions.proofs.Arrivals.{ok_is}
use Rattle.instructions.proofs.Nested.{Clear, nested_fine, nested_end, left_by, left_stays, left_nested, before_end, slice_get-drop}
use Rattle.instructions.proofs.Stepping.{ends_of, arrival_of, Real, real_here, left_real}
use Rattle.instructions.proofs.Awaiting.{Own, Awaits, innermost, left_awaits}
use Rattle.instructions.proofs.Reaching.{at_op, states, drop_here}
use Rattle.instructions.proofs.Converse.{and_true, all_from, all_taken_from, agreed}
use Rattle.instructions.proofs.Running.{Runs, At, Known, Further, start_runs, stepped, There, comes_there, Each, each_of, left_ok}

-- ---- targets

not_past : (target : ℕ) (op : Op) → ((m : Macro) (e : ℕ) → op ≡ Over m e → e ≤ target) → not (goes_past target op) ≡ true
not_past target (Over m e) before = ap not (le-ltb target e (before m e refl))
not_past target op before = refl

fair_target : (code : List Op) (at end target : ℕ) → at < target → target ≤ end → Clear code (at + 1) target → is_fair at end (drop (at + 1) code) target ≡ true
fair_target code at end target lt le clear =
    let a : nat_lt at target ≡ true = grind (arith, nat_tests) in
    let b : not (nat_lt end target) ≡ true = ap not (le-ltb end target le) in
    let c : list_all (λ op. not (goes_past target op)) (take (target - (at + 1)) (drop (at + 1) code)) ≡ true =
    all_taken_from (λ op. not (goes_past target op)) (target - (at + 1)) (drop (at + 1) code)
    (λ i op k is. not_past target op (λ m e same. clear ((at + 1) + i) e m (omega arith) (omega arith) (sym (slice_get-drop (at + 1) i code) ∙ is ∙ ap (λ (o : Op). Some o) same))) in
    and_true (nat_lt at target) _ a (and_true (not (nat_lt end target)) _ b c)

pub judged_is : (vars at h : ℕ) (op : Op) (later : List Op) (b : OpenBody) (os : List OpenBody) → are_fair at b.end later (targets op) ≡ true → is_named vars (length os) op ≡ true → height_at at b.awaited ≡ Some h → takes op ≤ h → judged vars at op later b os ≡ Ok (opens op at (goes_on op at h b) os)
judged_is vars at h op later b os fair named height enough =
    ap (λ (f : Bool). cond (not f) (Err fault.BadJump) (cond (not (is_named vars (length os) op)) (Err fault.BadName) (runs op at (height_at at b.awaited) b os))) fair
    ∙ ap (λ (f : Bool). cond (not f) (Err fault.BadName) (runs op at (height_at at b.awaited) b os)) named
    ∙ ap (λ (o : Option ℕ). runs op at o b os) height
    ∙ ap (λ (t : Bool). cond t (Err fault.BadStack) (Ok (opens op at (goes_on op at h b) os))) (le-ltb h (takes op) enough)

-- ---- one instruction

same_bodies : (vars : ℕ) (code : List Op) (n : ℕ) (x : OpenBody × List OpenBody) (d : Control) → Runs vars code n x → d.place ≡ n → There vars code d → Awaits d x.0 x.1
same_bodies vars code n x d r place t =
    let moved : states vars code n ≡ Ok t.bodies = subst (λ (k : ℕ). states vars code k ≡ Ok t.bodies) place t.runs.is in
    subst (λ (w : OpenBody × List OpenBody). Awaits d w.0 w.1) (ok_is t.bodies x (sym moved ∙ r.is)) t.awaits

each_at : (vars : ℕ) (code : List Op) → IsWellFormed vars code → (n : ℕ) → Known vars code n → (x : OpenBody × List OpenBody) → Runs vars code n x → Each n x.0 x.1
each_at vars code wf n known x r = each_of vars code wf n x.0 x.1 r.real r.live (λ d comes place len. same_bodies vars code n x d r place (comes_there vars code wf n known comes (omega arith)))

runs_in : (vars : ℕ) (code : List Op) → IsWellFormed vars code → (n : ℕ) (op : Op) (c : Control) (z : OpenBody × List OpenBody) → c.place ≡ n → c.place < c.end → Comes code c → slice_get code n ≡ Some op → n < z.0.end → Own c z.0 z.1 → Real code z.0 z.1
    → judged vars n op (drop (n + 1) code) z.0 z.1 ≡ Ok (opens op n (goes_on op n c.height z.0) z.1)
runs_in vars code wf n op c z place inside comes here lt own real =
    let there : slice_get code c.place ≡ Some op = ap (slice_get code) place ∙ here in
    let st : StandsAt code c op = record { comes = comes; inside = inside; here = there } in
    let end_is : z.0.end ≡ c.end = own.is.end_is in
    let depth : length c.outer ≡ length z.1 = ap (λ (o : List ℕ). length o) (sym own.is.outer_is) ∙ length-map z.1 (λ (x : OpenBody). x.end) in
    judged_is vars n c.height op (drop (n + 1) code) z.0 z.1
    (all_from (is_fair n z.0.end (drop (n + 1) code)) (targets op)
    (λ target m.
    let f = wf.forward c op target st m in
    let a : c.place < target = f.0 in
    let i : target ≤ c.end = f.1 in
    fair_target code n z.0.end target (omega arith) (omega arith) (λ j e k from under is. wf.outside c op target j e k st m is (omega arith) under)))
    (ap (λ (d : ℕ). is_named vars d op) (sym depth) ∙ wf.named c op st)
    (agreed n c.height z.0.awaited (arrival_of c) own.among place
    (λ a m p.
    let d : Control = within z.0.end (ends_of z.1) a in
    let same : d ≡ c = wf.alike d c (real_here code z.0 z.1 real a m) comes (omega arith) inside (p ∙ sym place) in
    ap (λ (w : Control). w.height) same))
    (wf.operands c op st)

further : (vars : ℕ) (code : List Op) → IsWellFormed vars code → (n : ℕ) → n < length code → Known vars code n → (x : OpenBody × List OpenBody) → Runs vars code n x → Further vars code n x
further vars code wf n lt known x r =
    let c = wf.reached n lt in
    let place : c.0.place ≡ n = c.1 in
    let inside : c.0.place < c.0.end = c.2 in
    let awaits = same_bodies vars code n x c.0 r place (comes_there vars code wf n known c.3 (omega arith)) in
    let z = left_ok n x.0 x.1 (each_at vars code wf n known x r) in
    let kept = left_nested code n x.0 x.1 z.0 z.1 r.nested in
    let before : n < z.0.0.end = before_end code n z.0.0 z.0.1 lt (left_stays n x.0 x.1 z.0 z.1) kept in
    let own = innermost code n c.0 z.0.0 z.0.1 kept before place (left_awaits n c.0 x.0 x.1 z.0 (omega arith) z.1 awaits) in
    let d = drop_here n code lt in
    let j = runs_in vars code wf n d.0 c.0 z.0 place inside c.3 d.1 before own (left_real code n x.0 x.1 z.0 z.1 r.real) in
    stepped vars code n x (opens d.0 n (goes_on d.0 n c.0.height z.0.0) z.0.1) d.0 r d.1
    (ap (λ w. w >>= λ v. judged vars n d.0 (drop (n + 1) code) v.0 v.1) z.1 ∙ j)

-- ---- the whole plan

known_to : (vars : ℕ) (code : List Op) → IsWellFormed vars code → (limit : ℕ) → limit ≤ length code → Known vars code limit
known_to vars code wf zero le = λ n k. (let e : 0 ≡ n = omega arith in subst (λ (m : ℕ). At vars code m) e (record { bodies = (whole code, []); runs = start_runs vars code }))
known_to vars code wf (suc limit) le = λ n k.
    let known = known_to vars code wf limit (omega arith) in
    let last = known limit (omega arith) in
    let on = further vars code wf limit (omega arith) known last.bodies last.runs in
    elim (cases_lt n (suc limit)) [
      | inl lt ↦ known n (omega arith)
      | inr past ↦ (let e : limit + 1 ≡ n = omega arith in subst (λ (m : ℕ). At vars code m) e (record { bodies = on.later; runs = on.runs }))
    ]

took : (vars n : ℕ) (code : List Op) (o : Option Op) (x y : OpenBody × List OpenBody) → at_op vars n code o x ≡ Ok y → (op : Op) × (o ≡ Some op) × (step vars n op (drop (n + 1) code) x.0 x.1 ≡ Ok y)
took vars n code None x y e = absurd cc
took vars n code (Some op) x y e = (op, refl, e)

ok_of : {A : Type 0} (r : Result A CodeFault) (f : A → Result A CodeFault) (y : A) → (r >>= f) ≡ Ok y → (x : A) × (r ≡ Ok x) × (f x ≡ Ok y)
ok_of (Ok x) f y e = (x, refl, e)
ok_of (Err d) f y e = absurd cc

-- what the pass finds from a place on is what it finds from the first
judge_from : (vars : ℕ) (code : List Op) (n : ℕ) (x : OpenBody × List OpenBody) → n ≤ length code → states vars code n ≡ Ok x → judge vars n (drop n code) x.0 x.1 ≡ judge vars 0 code (whole code) []
judge_from vars code zero x le e =
    let k : ◌≡◌ {A = OpenBody × List OpenBody} (whole code, []) x = ok_is (whole code, []) x e in
    subst (λ (z : OpenBody × List OpenBody). judge vars 0 code z.0 z.1 ≡ judge vars 0 code (whole code) []) k refl
judge_from vars code (suc n) x le e =
    let w = ok_of (states vars code n) (at_op vars n code (slice_get code n)) x e in
    let d = drop_here n code (omega arith) in
    let t = took vars n code (slice_get code n) w.0 x w.2 in
    let same : t.0 ≡ d.0 = same_Some t.0 d.0 (sym t.1 ∙ d.1) in
    let s : step vars n d.0 (drop (n + 1) code) w.0.0 w.0.1 ≡ Ok x = subst (λ (o : Op). step vars n o (drop (n + 1) code) w.0.0 w.0.1 ≡ Ok x) same t.2 in
    let one : judge vars n (drop n code) w.0.0 w.0.1 ≡ judge vars (n + 1) (drop (n + 1) code) x.0 x.1 =
    ap (λ (ops : List Op). judge vars n ops w.0.0 w.0.1) d.2 ∙ ap (λ r. r >>= λ y. judge vars (n + 1) (drop (n + 1) code) y.0 y.1) s in
    let two : judge vars (suc n) (drop (suc n) code) x.0 x.1 ≡ judge vars (n + 1) (drop (n + 1) code) x.0 x.1 = ap (λ (k : ℕ). judge vars k (drop k code) x.0 x.1) (sym (add-one n)) in
    two ∙ sym one ∙ judge_from vars code n w.0 (omega arith) w.1

each_top : (n : ℕ) (b : OpenBody) (os : List OpenBody) → Each n b os → b.end ≡ n → has_one n b ≡ true
each_top n b [] each = each
each_top n b (o ∷ os) each = each.0

finished : (vars : ℕ) (code : List Op) (x : OpenBody × List OpenBody) → Runs vars code (length code) x → Each (length code) x.0 x.1 → judge vars (length code) [] x.0 x.1 ≡ Ok tt
finished vars code x r each =
    let n = length code in
    let z = left_ok n x.0 x.1 each in
    let kept = left_nested code n x.0 x.1 z.0 z.1 r.nested in
    let high : z.0.0.end ≤ length code = nested_end code n n z.0.0 z.0.1 kept in
    let low : length code ≤ z.0.0.end = (nested_fine code n n z.0.0 z.0.1 kept).low_end in
    let e : z.0.0.end ≡ length code = omega arith in
    let top = left_by n (λ b os. Each n b os) (λ b o os same one k. k.1) x.0 x.1 z.0 z.1 each in
    let one : has_one (length code) z.0.0 ≡ true = each_top n z.0.0 z.0.1 top e in
    ap (λ w. w >>= λ v. ended (length code) v) z.1 ∙ ap (λ (t : Bool). cond t (Ok tt) (Err fault.BadStack)) one

pub well_formed_is_sound : (vars : ℕ) (code : List Op) → IsWellFormed vars code → first_fault vars code ≡ Ok tt
unfolding first_fault
well_formed_is_sound vars code wf =
    let n = length code in
    let known = known_to vars code wf (length code) (omega arith) in
    let last = known (length code) (omega arith) in
    let each = each_at vars code wf (length code) known last.bodies last.runs in
    let end : judge vars (length code) (drop (length code) code) last.bodies.0 last.bodies.1 ≡ Ok tt =
    ap (λ (ops : List Op). judge vars (length code) ops last.bodies.0 last.bodies.1) (drop_all (length code) code (omega arith)) ∙ finished vars code last.bodies last.runs each in
    sym (judge_from vars code (length code) last.bodies (omega arith) last.runs.is) ∙ end
