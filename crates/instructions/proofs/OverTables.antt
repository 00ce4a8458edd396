-- Running and judging one instruction, over the program's tables.
use Rattle.std.proofs.Common.{◌≡◌, ℕ, ◌+◌, ◌<◌, ◌≤◌, suc, Bool, true, false, not, cond, ◌&&◌, nat_lt, List, [], ◌∷◌, drop, length, map, Option, Some, None, Result, Ok, Err, refl, sym, ap, subst, ◌∙◌, lt-ltb, le-ltb, ltb-true, ltb-false}
use Rattle.std.proofs.lemmas.List.{length-map, length-reverse}
use Rattle.std.specs.List.{list_all}
use Rattle.instructions.specs.declared.fault.CodeFault.{CodeFault}
use Rattle.instructions.specs.declared.fault.CodeFault.TheVariants as fault
use Rattle.instructions.specs.Op.{Op}
use Rattle.instructions.specs.Faults.{◌>>=◌}
use Rattle.instructions.specs.Judging.{OpenBody, height_at, takes, targets, arrivals, runs, judged, left, step, is_fair, are_fair, is_named, goes_on, opens}
use Rattle.instructions.specs.declared.bodies.OpenBody.{OpenBody as Held}
use Rattle.instructions.specs.Macros.{Tells, is_clear}
use Rattle.instructions.specs.Bodies.{one_height, Table, table_of, tables_of, known_at, all_expecting, opening, Nested, AreOpen, AreKnown, AreWithin, Reaches, Follows}
use Rattle.instructions.proofs.Between.{clear_is}
use Rattle.instructions.proofs.Leaving.{height_known}
use Rattle.instructions.proofs.Low.{low_height, low_left}
use Rattle.instructions.proofs.Standing.{goes_on_open, innermost_stands, ends_inside}

-- the height that the table has
open_height : (at count : ℕ) (t : Table) (ts : List Table) (bodies : OpenBody × List OpenBody) (h : Option ℕ) → AreOpen at count t ts bodies → h ≡ one_height (known_at at t) → height_at at bodies.0.awaited ≡ h
open_height at count t ts bodies h o e = sym (e ∙ height_known at t bodies.0 (innermost_stands at count t ts bodies.0 bodies.1 o.nested))

pub height_low : (at count h : ℕ) (t : Table) (ts : List Table) → AreKnown at count t ts → Some h ≡ one_height (known_at at t) → h ≤ at
height_low at count h t ts k e = low_height at at h k.bodies.0.awaited k.low (open_height at count t ts k.bodies (Some h) k.standing e)

pub not_reached : (op : Op) (at count : ℕ) (t : Table) (ts : List Table) (bodies : OpenBody × List OpenBody) → AreOpen at count t ts bodies → None ≡ one_height (known_at at t)
    → runs op at (height_at at bodies.0.awaited) bodies.0 bodies.1 ≡ Err fault.BadStack
not_reached op at count t ts bodies o e = ap (λ (h : Option ℕ). runs op at h bodies.0 bodies.1) (open_height at count t ts bodies None o e)

runs_at : (op : Op) (at count h : ℕ) (t : Table) (ts : List Table) (bodies : OpenBody × List OpenBody) (short : Bool) → AreOpen at count t ts bodies → Some h ≡ one_height (known_at at t) → nat_lt h (takes op) ≡ short
    → runs op at (height_at at bodies.0.awaited) bodies.0 bodies.1 ≡ cond short (Err fault.BadStack) (Ok (opens op at (goes_on op at h bodies.0) bodies.1))
runs_at op at count h t ts bodies short o e is =
    ap (λ (k : Option ℕ). runs op at k bodies.0 bodies.1) (open_height at count t ts bodies (Some h) o e)
    ∙ ap (λ b. cond b (Err fault.BadStack) (Ok (opens op at (goes_on op at h bodies.0) bodies.1))) is

pub lacks_operands : (op : Op) (at count h : ℕ) (t : Table) (ts : List Table) (bodies : OpenBody × List OpenBody) → AreOpen at count t ts bodies → Some h ≡ one_height (known_at at t) → h < takes op
    → runs op at (height_at at bodies.0.awaited) bodies.0 bodies.1 ≡ Err fault.BadStack
lacks_operands op at count h t ts bodies o e lt = runs_at op at count h t ts bodies true o e (lt-ltb h (takes op) lt)

pub runs_on : (op : Op) (at count h : ℕ) (t u : Table) (ts us : List Table) (bodies : OpenBody × List OpenBody) → AreOpen at count t ts bodies → Some h ≡ one_height (known_at at t) → takes op ≤ h
    → at < t.end → AreWithin at t.end (targets op) → opening op at (all_expecting t (arrivals op at h)) ts ≡ (u, us)
    → Reaches (at + 1) count u us (runs op at (height_at at bodies.0.awaited) bodies.0 bodies.1)
runs_on op at count h t u ts us bodies o e le lt within goes = record {
  bodies = opens op at (goes_on op at h bodies.0) bodies.1;
  are = runs_at op at count h t ts bodies false o e (le-ltb h (takes op) le);
  standing = subst (λ (x : Table × List Table). AreOpen (at + 1) count x.0 x.1 (opens op at (goes_on op at h bodies.0) bodies.1)) goes (goes_on_open op at count h t ts bodies.0 bodies.1 lt within o.nested);
}

-- the targets
pub all_clear : (at end : ℕ) (ops : List Op) (starts places : List ℕ) → Tells ops starts → end ≤ length ops → list_all (is_clear at end starts) places ≡ are_fair at end (drop (at + 1) ops) places
all_clear at end ops starts [] t le = refl
all_clear at end ops starts (p ∷ places) t le =
    ap (λ b. b && list_all (is_clear at end starts) places) (clear_is at end p ops starts t le) ∙ ap (λ b. is_fair at end (drop (at + 1) ops) p && b) (all_clear at end ops starts places t le)

both_true : (a b : Bool) → (a && b) ≡ true → (a ≡ true) × (b ≡ true)
both_true true b e = (refl, e)
both_true false b e = absurd cc

not_false : (b : Bool) → not b ≡ true → b ≡ false
not_false true e = absurd cc
not_false false e = refl

pub all_within : (at end : ℕ) (starts places : List ℕ) → list_all (is_clear at end starts) places ≡ true → AreWithin at end places
all_within at end starts [] e = tt
all_within at end starts (p ∷ places) e =
    let both = both_true (is_clear at end starts p) (list_all (is_clear at end starts) places) e in
    let ahead = both_true (nat_lt at p) _ both.0 in
    let inside = both_true (not (nat_lt end p)) _ ahead.1 in
    ((ltb-true at p ahead.0, ltb-false end p (not_false (nat_lt end p) inside.0)), all_within at end starts places both.1)

-- the bodies are as many
pub as_many : (at count : ℕ) (t : Table) (ts : List Table) (b : OpenBody) (bs : List OpenBody) → Nested at count t ts b bs → length bs ≡ length ts
as_many at count t [] b [] n = refl
as_many at count t [] b (c ∷ cs) n = absurd n
as_many at count t (o ∷ os) b [] n = absurd n
as_many at count t (o ∷ os) b (c ∷ cs) n = ap suc (as_many at count o os c cs n.1.1)

pub as_many_tables : (bs : List Held) → length (tables_of bs) ≡ length bs
as_many_tables bs = length-reverse (map table_of bs) ∙ length-map bs table_of

pub depth_is : (at count : ℕ) (t : Table) (outer : List Held) (bodies : OpenBody × List OpenBody) → AreOpen at count t (tables_of outer) bodies → length bodies.1 ≡ length outer
depth_is at count t outer bodies o = as_many at count t (tables_of outer) bodies.0 bodies.1 o.nested ∙ as_many_tables outer

-- judging, with the table's answer to the first question
fair_is : (at : ℕ) (op : Op) (ops : List Op) (starts : List ℕ) (t : Table) (ts : List Table) (bodies : OpenBody × List OpenBody) → Tells ops starts → AreOpen at (length ops) t ts bodies
    → list_all (is_clear at t.end starts) (targets op) ≡ are_fair at bodies.0.end (drop (at + 1) ops) (targets op)
fair_is at op ops starts t ts bodies tells o =
    all_clear at t.end ops starts (targets op) tells (ends_inside at (length ops) t ts bodies.0 bodies.1 o.nested)
    ∙ ap (λ (e : ℕ). are_fair at e (drop (at + 1) ops) (targets op)) (innermost_stands at (length ops) t ts bodies.0 bodies.1 o.nested).ends

judged_as : (vars at : ℕ) (op : Op) (later : List Op) (bodies : OpenBody × List OpenBody) (fair named : Bool) → are_fair at bodies.0.end later (targets op) ≡ fair → is_named vars (length bodies.1) op ≡ named
    → judged vars at op later bodies.0 bodies.1 ≡ cond (not fair) (Err fault.BadJump) (cond (not named) (Err fault.BadName) (runs op at (height_at at bodies.0.awaited) bodies.0 bodies.1))
judged_as vars at op later bodies fair named f n =
    ap (λ b. cond (not b) (Err fault.BadJump) (cond (not (is_named vars (length bodies.1) op)) (Err fault.BadName) (runs op at (height_at at bodies.0.awaited) bodies.0 bodies.1))) f
    ∙ ap (λ b. cond (not fair) (Err fault.BadJump) (cond (not b) (Err fault.BadName) (runs op at (height_at at bodies.0.awaited) bodies.0 bodies.1))) n

pub bad_jump : (vars at : ℕ) (op : Op) (ops : List Op) (starts : List ℕ) (t : Table) (ts : List Table) (bodies : OpenBody × List OpenBody) → Tells ops starts → AreOpen at (length ops) t ts bodies
    → list_all (is_clear at t.end starts) (targets op) ≡ false → judged vars at op (drop (at + 1) ops) bodies.0 bodies.1 ≡ Err fault.BadJump
bad_jump vars at op ops starts t ts bodies tells o unfair =
    judged_as vars at op (drop (at + 1) ops) bodies false (is_named vars (length bodies.1) op) (sym (fair_is at op ops starts t ts bodies tells o) ∙ unfair) refl

pub is_judged : (vars at : ℕ) (op : Op) (ops : List Op) (starts : List ℕ) (t : Table) (outer : List Held) (bodies : OpenBody × List OpenBody) (named : Bool) → Tells ops starts → AreOpen at (length ops) t (tables_of outer) bodies
    → list_all (is_clear at t.end starts) (targets op) ≡ true → is_named vars (length outer) op ≡ named
    → judged vars at op (drop (at + 1) ops) bodies.0 bodies.1 ≡ cond (not named) (Err fault.BadName) (runs op at (height_at at bodies.0.awaited) bodies.0 bodies.1)
is_judged vars at op ops starts t outer bodies named tells o fair is =
    judged_as vars at op (drop (at + 1) ops) bodies true named (sym (fair_is at op ops starts t (tables_of outer) bodies tells o) ∙ fair)
    (ap (λ (n : ℕ). is_named vars n op) (depth_is at (length ops) t outer bodies o) ∙ is)

-- after the bodies that end
pub left_known : (at count : ℕ) (t u : Table) (ts us : List Table) (k : AreKnown at count t ts) → Reaches at count u us (left at k.bodies.0 k.bodies.1) → AreKnown at count u us
left_known at count t u ts us k r =
    let low = low_left at at k.bodies.0 k.bodies.1 r.bodies k.low k.all_low r.are in
    record { bodies = r.bodies; standing = r.standing; low = low.0; all_low = low.1 }

-- an instruction is judged in the bodies that do not end at its place
pub steps : (vars at count : ℕ) (op : Op) (later : List Op) (bodies : OpenBody × List OpenBody) (u : Table) (us : List Table) (result : Result Held CodeFault) (outer : List Held) → (r : Reaches at count u us (left at bodies.0 bodies.1))
    → Follows (at + 1) count result outer (judged vars at op later r.bodies.0 r.bodies.1) → Follows (at + 1) count result outer (step vars at op later bodies.0 bodies.1)
steps vars at count op later bodies u us result outer r f =
    subst (λ (e : Result (OpenBody × List OpenBody) CodeFault). Follows (at + 1) count result outer e) (sym (ap (λ (x : Result (OpenBody × List OpenBody) CodeFault). x >>= λ y. judged vars at op later y.0 y.1) r.are)) f
