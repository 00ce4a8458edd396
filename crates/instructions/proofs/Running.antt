-- The pass over a well-formed plan, up to a place.
use Rattle.std.proofs.Common.{◌≡◌, inl, inr, ℕ, zero, suc, ◌+◌, ◌-◌, ◌<◌, ◌≤◌, Bool, true, false, cond, ◌==◌, List, [], ◌∷◌, length, map, drop, Option, Some, None, Ok, Err, refl, sym, ap, subst, ◌∙◌, add-one, arith}
use Rattle.std.specs.Prelude.{slice_get}
use Rattle.std.proofs.lemmas.Bool.{eqb-true}
use Rattle.std.proofs.lemmas.List.{length-map}
use Rattle.std.proofs.lemmas.Option.{slice_get_within, same_Some}
use Rattle.instructions.specs.declared.fault.CodeFault.TheVariants as fault
use Rattle.instructions.specs.Op.{Op, Over}
use Rattle.instructions.specs.Faults.{◌>>=◌}
use Rattle.instructions.specs.Judging.{Arrival, OpenBody, height_at, arrivals, left, has_one, is_one, goes_on, opens, step, whole}
use Rattle.instructions.specs.WellFormed.{Among, Control, within, begins_body, next, Comes, begins, goes, StandsAt, IsWellFormed}
use Rattle.instructions.proofs.Arrivals.{among_either, among_map}
use Rattle.instructions.proofs.Nested.{Nested, left_by, left_stays, left_nested, before_end, Steps, steps, leads}
use Rattle.instructions.proofs.Stepping.{ends_of, arrival_of, nested_step, Real, RealIn, real_step, left_real, inner_real}
use Rattle.instructions.proofs.Awaiting.{Is, Awaits, own_here, awaits_outside, stays_awaited, leads_on}
use Rattle.instructions.proofs.Reaching.{at_op, states, start_fine, start_real}
use Rattle.instructions.proofs.Converse.{agreed}

-- ---- each body that is open has been entered

pub record Lived (code : List Op) (b : OpenBody) (os : List OpenBody) : Type 0 where
  pub control : Control
  pub comes : Comes code control
  pub is : Is control b os

abbrev pub Live : List Op → OpenBody → List OpenBody → Type 0
Live code b [] = Lived code b []
Live code b (o ∷ os) = Lived code b (o ∷ os) × Live code o os

lived_with : (code : List Op) (b c : OpenBody) (os : List OpenBody) → c.end ≡ b.end → Lived code b os → Lived code c os
lived_with code b c os same l = record { control = l.control; comes = l.comes; is = record { end_is = same ∙ l.is.end_is; outer_is = l.is.outer_is } }

live_with : (code : List Op) (b c : OpenBody) (os : List OpenBody) → c.end ≡ b.end → Live code b os → Live code c os
live_with code b c [] same l = lived_with code b c [] same l
live_with code b c (o ∷ os) same l = (lived_with code b c (o ∷ os) same l.0, l.1)

live_opens : (code : List Op) (at h : ℕ) (op : Op) (b : OpenBody) (os : List OpenBody) → slice_get code at ≡ Some op → at < b.end → Real code b os → height_at at b.awaited ≡ Some h → Live code b os
    → Live code (opens op at (goes_on op at h b) os).0 (opens op at (goes_on op at h b) os).1
live_opens code at h (Over m end) b os here lt r e l =
    let first : Arrival = record { place = at + 1; height = 0 } in (
      record { control = within end (b.end ∷ ends_of os) first; comes = inner_real code at h end m b os here lt r e first (inl refl); is = record { end_is = refl; outer_is = refl } },
      live_with code b (goes_on (Over m end) at h b) os refl l,
    )
live_opens code at h op b os here lt r e l = live_with code b (goes_on op at h b) os refl l

live_step : (vars at : ℕ) (op : Op) (code : List Op) (b : OpenBody) (os : List OpenBody) (y : OpenBody × List OpenBody) → slice_get code at ≡ Some op → Nested code at at b os → Real code b os → Live code b os → Steps vars at op (drop (at + 1) code) b os y → Live code y.0 y.1
live_step vars at op code b os y here n r l s =
    let kept = left_nested code at b os s.stays s.went n in
    let lt : at < s.stays.0.end = before_end code at s.stays.0 s.stays.1 (slice_get_within code at op here) (left_stays at b os s.stays s.went) kept in
    let live = left_by at (λ b os. Live code b os) (λ b o os same one l. l.1) b os s.stays s.went l in
    subst (λ (z : OpenBody × List OpenBody). Live code z.0 z.1) s.result (live_opens code at s.height op s.stays.0 s.stays.1 here lt (left_real code at b os s.stays s.went r) s.agreed live)

-- ---- the pass up to a place

pub record Runs (vars : ℕ) (code : List Op) (n : ℕ) (x : OpenBody × List OpenBody) : Type 0 where
  pub is : states vars code n ≡ Ok x
  pub nested : Nested code n n x.0 x.1
  pub real : Real code x.0 x.1
  pub live : Live code x.0 x.1

pub record At (vars : ℕ) (code : List Op) (n : ℕ) : Type 0 where
  pub bodies : OpenBody × List OpenBody
  pub runs : Runs vars code n bodies

abbrev pub Known : ℕ → List Op → ℕ → Type 0
Known vars code limit = (n : ℕ) → n ≤ limit → At vars code n

pub record Further (vars : ℕ) (code : List Op) (n : ℕ) (x : OpenBody × List OpenBody) : Type 0 where
  pub op : Op
  pub here : slice_get code n ≡ Some op
  pub later : OpenBody × List OpenBody
  pub steps : Steps vars n op (drop (n + 1) code) x.0 x.1 later
  pub runs : Runs vars code (n + 1) later

pub start_runs : (vars : ℕ) (code : List Op) → Runs vars code 0 (whole code, [])
start_runs vars code = record { is = refl; nested = (start_fine code, refl); real = start_real code; live = record { control = record { place = 0; end = length code; outer = []; height = 0 }; comes = begins; is = record { end_is = refl; outer_is = refl } } }

pub stepped : (vars : ℕ) (code : List Op) (n : ℕ) (x y : OpenBody × List OpenBody) (op : Op) → Runs vars code n x → slice_get code n ≡ Some op → step vars n op (drop (n + 1) code) x.0 x.1 ≡ Ok y → Further vars code n x
stepped vars code n x y op r here e =
    let s = steps vars n op (drop (n + 1) code) x.0 x.1 y e in
    let there : states vars code (suc n) ≡ Ok y = ap (λ z. z >>= at_op vars n code (slice_get code n)) r.is ∙ ap (λ (o : Option Op). at_op vars n code o x) here ∙ e in
    record {
      op = op;
      here = here;
      later = y;
      steps = s;
      runs = record {
        is = subst (λ (k : ℕ). states vars code k ≡ Ok y) (sym (add-one n)) there;
        nested = nested_step vars n op code x.0 x.1 y here r.nested s;
        real = real_step vars n op code x.0 x.1 y here r.nested r.real s;
        live = live_step vars n op code x.0 x.1 y here r.nested r.real r.live s;
      };
    }

took : (vars n : ℕ) (code : List Op) (o : Option Op) (x y : OpenBody × List OpenBody) → at_op vars n code o x ≡ Ok y → (op : Op) × (o ≡ Some op) × (step vars n op (drop (n + 1) code) x.0 x.1 ≡ Ok y)
took vars n code None x y e = absurd cc
took vars n code (Some op) x y e = (op, refl, e)

further_of : (vars : ℕ) (code : List Op) (n : ℕ) (x : OpenBody × List OpenBody) → Runs vars code n x → At vars code (n + 1) → Further vars code n x
further_of vars code n x r later =
    let there : states vars code (suc n) ≡ Ok later.bodies = subst (λ (k : ℕ). states vars code k ≡ Ok later.bodies) (add-one n) later.runs.is in
    let e : at_op vars n code (slice_get code n) x ≡ Ok later.bodies = sym (ap (λ z. z >>= at_op vars n code (slice_get code n)) r.is) ∙ there in
    let t = took vars n code (slice_get code n) x later.bodies e in
    stepped vars code n x later.bodies t.0 r t.1 t.2

pub record There (vars : ℕ) (code : List Op) (c : Control) : Type 0 where
  pub bodies : OpenBody × List OpenBody
  pub runs : Runs vars code c.place bodies
  pub awaits : Awaits c bodies.0 bodies.1

keep : (vars : ℕ) (code : List Op) (limit : ℕ) → Known vars code limit → (k n : ℕ) (c : Control) (x : OpenBody × List OpenBody) → n + k ≡ c.place → c.place ≤ limit → Runs vars code n x → Awaits c x.0 x.1 → There vars code c
keep vars code limit known zero n c x e le r m = let k : n ≡ c.place = omega arith in record { bodies = x; runs = subst (λ (j : ℕ). Runs vars code j x) k r; awaits = m }
keep vars code limit known (suc k) n c x e le r m =
    let on = further_of vars code n x r (known (n + 1) (omega arith)) in
    keep vars code limit known k (n + 1) c on.later (omega arith) le on.runs (stays_awaited vars n on.op code c x.0 x.1 on.later (omega arith) r.nested on.steps m)

inner_ahead : (op : Op) (c d : Control) → Among d (begins_body op c) → c.place < d.place
inner_ahead (Over m end) c d (inl e) = let p : c.place + 1 ≡ d.place = ap (λ (z : Control). z.place) e in omega arith
inner_ahead (Over m end) c d (inr n) = absurd n
inner_ahead op c d m = absurd m

lead_ahead : (vars : ℕ) (code : List Op) → IsWellFormed vars code → (c d : Control) (op : Op) → StandsAt code c op → (a : Arrival) → Among a (arrivals op c.place c.height) → within c.end c.outer a ≡ d → c.place < d.place
lead_ahead vars code wf c d op st a m e =
    let p : a.place ≡ d.place = ap (λ (z : Control). z.place) e in
    elim (leads op c.place c.height a m) [
      | inl q ↦ omega arith
      | inr t ↦ (let f : c.place < a.place = (wf.forward c op a.place st t).0 in omega arith)
    ]

next_ahead : (vars : ℕ) (code : List Op) → IsWellFormed vars code → (c d : Control) (op : Op) → StandsAt code c op → Among d (next op c) → c.place < d.place
next_ahead vars code wf c d op st m =
    among_either d (map (within c.end c.outer) (arrivals op c.place c.height)) (begins_body op c) m
    (λ n. among_map (within c.end c.outer) d (arrivals op c.place c.height) n (λ a k e. lead_ahead vars code wf c d op st a k e))
    (inner_ahead op c d)

from : (vars : ℕ) (code : List Op) (limit : ℕ) → Known vars code limit → (c d : Control) (op : Op) → c.place < c.end → slice_get code c.place ≡ Some op → Among d (next op c) → c.place < d.place → d.place ≤ limit → There vars code c → There vars code d
from vars code limit known c d op inside is m lt le t =
    let on = further_of vars code c.place t.bodies t.runs (known (c.place + 1) (omega arith)) in
    let same : op ≡ on.op = same_Some op on.op (sym is ∙ on.here) in
    let there = subst (λ (o : Op). Among d (next o c)) same m in
    let awaited = leads_on vars c.place on.op code c d t.bodies.0 t.bodies.1 on.later on.steps refl inside on.here t.runs.nested t.awaits there in
    keep vars code limit known (d.place - (c.place + 1)) (c.place + 1) d on.later (omega arith) le on.runs awaited

-- wherever control comes, it is awaited
pub comes_there : (vars : ℕ) (code : List Op) → IsWellFormed vars code → (limit : ℕ) → Known vars code limit → {c : Control} → Comes code c → c.place ≤ limit → There vars code c
comes_there vars code wf limit known begins le = record { bodies = (whole code, []); runs = start_runs vars code; awaits = record { is = record { end_is = refl; outer_is = refl }; among = inl refl } }
comes_there vars code wf limit known (goes c d op h inside is m) le =
    let lt : c.place < d.place = next_ahead vars code wf c d op (record { comes = h; inside = inside; here = is }) m in
    from vars code limit known c d op inside is m lt le (comes_there vars code wf limit known h (omega arith))

-- ---- bodies that end

abbrev pub Each : ℕ → OpenBody → List OpenBody → Type 0
Each n b [] = b.end ≡ n → has_one n b ≡ true
Each n b (o ∷ os) = (b.end ≡ n → has_one n b ≡ true) × Each n o os

abbrev pub Waits : ℕ → List Op → OpenBody → List OpenBody → Type 0
Waits n code b os = (d : Control) → Comes code d → d.place ≡ n → length d.outer ≤ length os → Awaits d b os

one_here : (vars : ℕ) (code : List Op) → IsWellFormed vars code → (n : ℕ) (b : OpenBody) (os : List OpenBody) → RealIn code b os → Lived code b os → Waits n code b os → b.end ≡ n → has_one n b ≡ true
one_here vars code wf n b os real lived waits ends =
    let e = wf.ends lived.control lived.comes in
    let place : e.0.place ≡ n = e.1 ∙ e.2 ∙ sym lived.is.end_is ∙ ends in
    let depth : length e.0.outer ≡ length os = ap (λ (o : List ℕ). length o) (e.3 ∙ sym lived.is.outer_is) ∙ length-map os (λ (x : OpenBody). x.end) in
    let own = own_here e.0 b os depth (waits e.0 e.4 place (omega arith)) in
    let h : height_at n b.awaited ≡ Some 1 = agreed n 1 b.awaited (arrival_of e.0) own.among place (λ a m p. wf.one_outcome (within b.end (ends_of os) a) (real a m) (p ∙ sym ends)) in
    ap is_one h

pub each_of : (vars : ℕ) (code : List Op) → IsWellFormed vars code → (n : ℕ) (b : OpenBody) (os : List OpenBody) → Real code b os → Live code b os → Waits n code b os → Each n b os
each_of vars code wf n b [] real live waits = one_here vars code wf n b [] real live waits
each_of vars code wf n b (o ∷ os) real live waits = (
  one_here vars code wf n b (o ∷ os) real.0 live.0 waits,
  each_of vars code wf n o os real.1 live.1 (λ d comes place len. awaits_outside d b o os len (waits d comes place (omega arith))),
)

left_ok_at : (t : Bool) (n : ℕ) (b o : OpenBody) (os : List OpenBody) → (t ≡ true → has_one n b ≡ true) → (z : OpenBody × List OpenBody) × (left n o os ≡ Ok z) → (z : OpenBody × List OpenBody) × (cond t (cond (has_one n b) (left n o os) (Err fault.BadStack)) (Ok (b, o ∷ os)) ≡ Ok z)
left_ok_at true n b o os one more = (more.0, ap (λ (h : Bool). cond h (left n o os) (Err fault.BadStack)) (one refl) ∙ more.1)
left_ok_at false n b o os one more = ((b, o ∷ os), refl)

pub left_ok : (n : ℕ) (b : OpenBody) (os : List OpenBody) → Each n b os → (z : OpenBody × List OpenBody) × (left n b os ≡ Ok z)
left_ok n b [] each = ((b, []), refl)
left_ok n b (o ∷ os) each = left_ok_at (b.end == n) n b o os (λ t. each.0 (eqb-true _ _ t)) (left_ok n o os each.1)
