-- Control that is awaited somewhere: it stays awaited until its place, and leads on from there.
use Rattle.std.proofs.Common.{◌≡◌, ◌⊎◌, inl, inr, ℕ, ◌+◌, ◌<◌, ◌≤◌, true, not, List, [], ◌∷◌, length, map, drop, Option, Some, None, Ok, refl, sym, ap, subst, ◌∙◌, arith}
use Rattle.std.specs.Prelude.{slice_get}
use Rattle.std.specs.List.{filter}
use Rattle.std.proofs.lemmas.Bool.{eqb-true}
use Rattle.std.proofs.lemmas.Bool.Decides.{nat_tests}
use Rattle.std.proofs.lemmas.List.{length-map}
use Rattle.std.proofs.lemmas.Option.{slice_get_within}
use Rattle.instructions.specs.Op.{Op, Over}
use Rattle.instructions.specs.Judging.{Arrival, OpenBody, height_at, comes_to, arrivals, left, has_one, is_one, goes_on, opens}
use Rattle.instructions.specs.WellFormed.{Among, Control, within, begins_body, next}
use Rattle.instructions.proofs.Arrivals.{among_left, among_right, among_either, among_map, filtered, agree}
use Rattle.instructions.proofs.Nested.{Fine, Nested, nested_end, left_by, left_stays, left_nested, before_end, Steps}
use Rattle.instructions.proofs.Stepping.{ends_of, arrival_of}

-- the body that control is in
pub record Is (c : Control) (b : OpenBody) (os : List OpenBody) : Type 0 where
  pub end_is : b.end ≡ c.end
  pub outer_is : ends_of os ≡ c.outer

pub record Own (c : Control) (b : OpenBody) (os : List OpenBody) : Type 0 where
  pub is : Is c b os
  pub among : Among (arrival_of c) b.awaited

abbrev pub Awaits : Control → OpenBody → List OpenBody → Type 0
Awaits c b [] = Own c b []
Awaits c b (o ∷ os) = Own c b (o ∷ os) ⊎ Awaits c o os

-- control's body is open
abbrev pub Opened : Control → OpenBody → List OpenBody → Type 0
Opened c b [] = Is c b []
Opened c b (o ∷ os) = Is c b (o ∷ os) ⊎ Opened c o os

pub awaits_low : (code : List Op) (at low : ℕ) (c : Control) (b : OpenBody) (os : List OpenBody) → Nested code at low b os → Awaits c b os → low ≤ c.place
awaits_low code at low c b [] n own = n.0.ahead (arrival_of c) own.among
awaits_low code at low c b (o ∷ os) n (inl own) = n.0.ahead (arrival_of c) own.among
awaits_low code at low c b (o ∷ os) n (inr m) =
    let e : b.end ≤ c.place = awaits_low code at b.end c o os n.1 m in
    let l : low ≤ b.end = n.0.low_end in
    omega arith

own_end : (code : List Op) (at low : ℕ) (c : Control) (b : OpenBody) (os : List OpenBody) → Fine code at low b → Own c b os → c.place ≤ c.end
own_end code at low c b os f own =
    let i : c.place ≤ b.end = f.inside (arrival_of c) own.among in
    let e : b.end ≡ c.end = own.is.end_is in
    omega arith

pub awaits_end : (code : List Op) (at low : ℕ) (c : Control) (b : OpenBody) (os : List OpenBody) → Nested code at low b os → Awaits c b os → c.place ≤ c.end
awaits_end code at low c b [] n own = own_end code at low c b [] n.0 own
awaits_end code at low c b (o ∷ os) n (inl own) = own_end code at low c b (o ∷ os) n.0 own
awaits_end code at low c b (o ∷ os) n (inr m) = awaits_end code at b.end c o os n.1 m

pub awaits_opened : (c : Control) (b : OpenBody) (os : List OpenBody) → Awaits c b os → Opened c b os
awaits_opened c b [] own = own.is
awaits_opened c b (o ∷ os) (inl own) = inl own.is
awaits_opened c b (o ∷ os) (inr m) = inr (awaits_opened c o os m)

pub opened_end : (code : List Op) (at low : ℕ) (c : Control) (b : OpenBody) (os : List OpenBody) → Nested code at low b os → Opened c b os → c.end ≤ length code
opened_end code at low c b [] n is = let k : b.end ≤ length code = nested_end code at low b [] n in let e : b.end ≡ c.end = is.end_is in omega arith
opened_end code at low c b (o ∷ os) n (inl is) = let k : b.end ≤ length code = nested_end code at low b (o ∷ os) n in let e : b.end ≡ c.end = is.end_is in omega arith
opened_end code at low c b (o ∷ os) n (inr m) = opened_end code at b.end c o os n.1 m

pub innermost : (code : List Op) (at : ℕ) (c : Control) (b : OpenBody) (os : List OpenBody) → Nested code at at b os → at < b.end → c.place ≡ at → Awaits c b os → Own c b os
innermost code at c b [] n lt same own = own
innermost code at c b (o ∷ os) n lt same (inl own) = own
innermost code at c b (o ∷ os) n lt same (inr m) = let e : b.end ≤ c.place = awaits_low code at b.end c o os n.1 m in absurd (omega arith)

-- ---- in how many bodies

-- control that its own body awaits lies in as many bodies as that body does
pub own_depth : (c : Control) (b : OpenBody) (os : List OpenBody) → Own c b os → length c.outer ≡ length os
own_depth c b os own = ap (λ (o : List ℕ). length o) (sym own.is.outer_is) ∙ length-map os (λ (x : OpenBody). x.end)

-- what is awaited lies in no more bodies than the innermost
pub awaits_depth : (c : Control) (b : OpenBody) (os : List OpenBody) → Awaits c b os → length c.outer ≤ length os
awaits_depth c b [] own = omega (arith, own_depth c b [] own)
awaits_depth c b (o ∷ os) (inl own) = omega (arith, own_depth c b (o ∷ os) own)
awaits_depth c b (o ∷ os) (inr m) = let le : length c.outer ≤ length os = awaits_depth c o os m in omega arith

-- what lies as deep as the innermost body is awaited in it
pub own_here : (c : Control) (b : OpenBody) (os : List OpenBody) → length c.outer ≡ length os → Awaits c b os → Own c b os
own_here c b [] same own = own
own_here c b (o ∷ os) same (inl own) = own
own_here c b (o ∷ os) same (inr m) = let le : length c.outer ≤ length os = awaits_depth c o os m in absurd (omega arith)

-- what lies less deep than the innermost body is awaited in those around it
pub awaits_outside : (c : Control) (b o : OpenBody) (os : List OpenBody) → length c.outer ≤ length os → Awaits c b (o ∷ os) → Awaits c o os
awaits_outside c b o os le (inl own) = absurd (omega (arith, own_depth c b (o ∷ os) own))
awaits_outside c b o os le (inr m) = m

-- ---- leaving bodies

leave_other : (at : ℕ) (c : Control) → at < c.end → (b o : OpenBody) (os : List OpenBody) → b.end ≡ at → has_one at b ≡ true → Awaits c b (o ∷ os) → Awaits c o os
leave_other at c lt b o os same one (inl own) = let e : b.end ≡ c.end = own.is.end_is in absurd (omega arith)
leave_other at c lt b o os same one (inr m) = m

pub left_awaits : (at : ℕ) (c : Control) (b : OpenBody) (os : List OpenBody) (x : OpenBody × List OpenBody) → at < c.end → left at b os ≡ Ok x → Awaits c b os → Awaits c x.0 x.1
left_awaits at c b os x lt e m = left_by at (λ b os. Awaits c b os) (leave_other at c lt) b os x e m

leave_open : (at : ℕ) (c : Control) → at < c.end → (b o : OpenBody) (os : List OpenBody) → b.end ≡ at → has_one at b ≡ true → Opened c b (o ∷ os) → Opened c o os
leave_open at c lt b o os same one (inl is) = let e : b.end ≡ c.end = is.end_is in absurd (omega arith)
leave_open at c lt b o os same one (inr m) = m

-- ---- going on

awaits_with : (c : Control) (b d : OpenBody) (os : List OpenBody) → d.end ≡ b.end → (Among (arrival_of c) b.awaited → Among (arrival_of c) d.awaited) → Awaits c b os → Awaits c d os
awaits_with c b d [] same f own = record { is = record { end_is = same ∙ own.is.end_is; outer_is = own.is.outer_is }; among = f own.among }
awaits_with c b d (o ∷ os) same f (inl own) = inl (record { is = record { end_is = same ∙ own.is.end_is; outer_is = own.is.outer_is }; among = f own.among })
awaits_with c b d (o ∷ os) same f (inr m) = inr m

open_with : (c : Control) (b d : OpenBody) (os : List OpenBody) → d.end ≡ b.end → Opened c b os → Opened c d os
open_with c b d [] same is = record { end_is = same ∙ is.end_is; outer_is = is.outer_is }
open_with c b d (o ∷ os) same (inl is) = inl (record { end_is = same ∙ is.end_is; outer_is = is.outer_is })
open_with c b d (o ∷ os) same (inr m) = inr m

awaits_opens : (op : Op) (at : ℕ) (c : Control) (b : OpenBody) (os : List OpenBody) → Awaits c b os → Awaits c (opens op at b os).0 (opens op at b os).1
awaits_opens (Over m end) at c b os w = inr w
awaits_opens op at c b os w = w

open_opens : (op : Op) (at : ℕ) (c : Control) (b : OpenBody) (os : List OpenBody) → Opened c b os → Opened c (opens op at b os).0 (opens op at b os).1
open_opens (Over m end) at c b os w = inr w
open_opens op at c b os w = w

-- what its own body awaits is awaited
pub own_awaits : (c : Control) (b : OpenBody) (os : List OpenBody) → Own c b os → Awaits c b os
own_awaits c b [] own = own
own_awaits c b (o ∷ os) own = inl own

elsewhere : (at : ℕ) (c : Control) → at < c.place → not (comes_to at (arrival_of c)) ≡ true
elsewhere at c lt = grind (arith, nat_tests)

-- control that is awaited further on is still awaited after an instruction
pub stays_awaited : (vars at : ℕ) (op : Op) (code : List Op) (c : Control) (b : OpenBody) (os : List OpenBody) (y : OpenBody × List OpenBody) → at < c.place → Nested code at at b os → Steps vars at op (drop (at + 1) code) b os y → Awaits c b os → Awaits c y.0 y.1
stays_awaited vars at op code c b os y lt n s m =
    let le : c.place ≤ c.end = awaits_end code at at c b os n m in
    let kept = left_awaits at c b os s.stays (omega arith) s.went m in
    let on = awaits_with c s.stays.0 (goes_on op at s.height s.stays.0) s.stays.1 refl
    (λ a. among_left (arrival_of c) (filter (λ x. not (comes_to at x)) s.stays.0.awaited) (arrivals op at s.height) (filtered (λ x. not (comes_to at x)) (arrival_of c) s.stays.0.awaited (elsewhere at c lt) a)) kept in
    subst (λ (z : OpenBody × List OpenBody). Awaits c z.0 z.1) s.result (awaits_opens op at c (goes_on op at s.height s.stays.0) s.stays.1 on)

-- a body stays open until its end
pub stays_open : (vars at : ℕ) (op : Op) (code : List Op) (c : Control) (b : OpenBody) (os : List OpenBody) (y : OpenBody × List OpenBody) → at < c.end → Steps vars at op (drop (at + 1) code) b os y → Opened c b os → Opened c y.0 y.1
stays_open vars at op code c b os y lt s m =
    let kept = left_by at (λ b os. Opened c b os) (leave_open at c lt) b os s.stays s.went m in
    let on = open_with c s.stays.0 (goes_on op at s.height s.stays.0) s.stays.1 refl kept in
    subst (λ (z : OpenBody × List OpenBody). Opened c z.0 z.1) s.result (open_opens op at c (goes_on op at s.height s.stays.0) s.stays.1 on)

-- ---- control at an instruction

-- control at the instruction has the body and the height that the pass finds there
pub record Stands (vars at : ℕ) (op : Op) (code : List Op) (c : Control) (b : OpenBody) (os : List OpenBody) (y : OpenBody × List OpenBody) (s : Steps vars at op (drop (at + 1) code) b os y) : Type 0 where
  pub own : Own c s.stays.0 s.stays.1
  pub height : c.height ≡ s.height
  pub is : c ≡ record { place = at; end = s.stays.0.end; outer = ends_of s.stays.1; height = s.height }

pub standing : (vars at : ℕ) (op : Op) (code : List Op) (c : Control) (b : OpenBody) (os : List OpenBody) (y : OpenBody × List OpenBody) (s : Steps vars at op (drop (at + 1) code) b os y) → c.place ≡ at → c.place < c.end → slice_get code at ≡ Some op → Nested code at at b os → Awaits c b os → Stands vars at op code c b os y s
standing vars at op code c b os y s same inside here n m =
    let kept = left_nested code at b os s.stays s.went n in
    let lt : at < s.stays.0.end = before_end code at s.stays.0 s.stays.1 (slice_get_within code at op here) (left_stays at b os s.stays s.went) kept in
    let own = innermost code at c s.stays.0 s.stays.1 kept lt same (left_awaits at c b os s.stays (omega arith) s.went m) in
    let g = agree at s.height s.stays.0.awaited s.agreed in
    let h : c.height ≡ s.height = g.all (arrival_of c) own.among same in
    record {
      own = own;
      height = h;
      is = ap (λ (p : ℕ). record { place = p; end = c.end; outer = c.outer; height = c.height }) same
          ∙ ap (λ (e : ℕ). record { place = at; end = e; outer = c.outer; height = c.height }) (sym own.is.end_is)
          ∙ ap (λ (o : List ℕ). record { place = at; end = s.stays.0.end; outer = o; height = c.height }) (sym own.is.outer_is)
          ∙ ap (λ (k : ℕ). record { place = at; end = s.stays.0.end; outer = ends_of s.stays.1; height = k }) h;
    }

lead_inner : (op : Op) (at h : ℕ) (d : Control) (b : OpenBody) (os : List OpenBody) → Among d (begins_body op (record { place = at; end = b.end; outer = ends_of os; height = h })) → Awaits d (opens op at (goes_on op at h b) os).0 (opens op at (goes_on op at h b) os).1
lead_inner (Over m end) at h d b os (inl e) =
    let inner : OpenBody = record { end = end; awaited = record { place = at + 1; height = 0 } ∷ [] } in
    let first : Control = record { place = at + 1; end = end; outer = b.end ∷ ends_of os; height = 0 } in
    subst (λ (z : Control). Awaits z inner (goes_on (Over m end) at h b ∷ os)) e (inl (record { is = record { end_is = refl; outer_is = refl }; among = inl refl }))
lead_inner (Over m end) at h d b os (inr n) = absurd n
lead_inner op at h d b os m = absurd m

lead_within : (op : Op) (at h : ℕ) (d : Control) (b : OpenBody) (os : List OpenBody) (a : Arrival) → Among a (arrivals op at h) → within b.end (ends_of os) a ≡ d → Awaits d (opens op at (goes_on op at h b) os).0 (opens op at (goes_on op at h b) os).1
lead_within op at h d b os a m e =
    let c : Control = within b.end (ends_of os) a in
    let own : Own c (goes_on op at h b) os = record { is = record { end_is = refl; outer_is = refl }; among = among_right a (filter (λ x. not (comes_to at x)) b.awaited) (arrivals op at h) m } in
    subst (λ (z : Control). Awaits z (opens op at (goes_on op at h b) os).0 (opens op at (goes_on op at h b) os).1) e (awaits_opens op at c (goes_on op at h b) os (own_awaits c (goes_on op at h b) os own))

lead_on : (op : Op) (at h : ℕ) (d : Control) (b : OpenBody) (os : List OpenBody) → Among d (next op (record { place = at; end = b.end; outer = ends_of os; height = h })) → Awaits d (opens op at (goes_on op at h b) os).0 (opens op at (goes_on op at h b) os).1
lead_on op at h d b os m =
    among_either d (map (within b.end (ends_of os)) (arrivals op at h)) (begins_body op (record { place = at; end = b.end; outer = ends_of os; height = h })) m
    (λ n. among_map (within b.end (ends_of os)) d (arrivals op at h) n (λ a k e. lead_within op at h d b os a k e))
    (lead_inner op at h d b os)

-- where control leads from an instruction is awaited after it
pub leads_on : (vars at : ℕ) (op : Op) (code : List Op) (c d : Control) (b : OpenBody) (os : List OpenBody) (y : OpenBody × List OpenBody) (s : Steps vars at op (drop (at + 1) code) b os y) → c.place ≡ at → c.place < c.end → slice_get code at ≡ Some op → Nested code at at b os → Awaits c b os → Among d (next op c) → Awaits d y.0 y.1
leads_on vars at op code c d b os y s same inside here n m k =
    let st = standing vars at op code c b os y s same inside here n m in
    let there : Among d (next op (record { place = at; end = s.stays.0.end; outer = ends_of s.stays.1; height = s.height })) = subst (λ (z : Control). Among d (next op z)) st.is k in
    subst (λ (z : OpenBody × List OpenBody). Awaits d z.0 z.1) s.result (lead_on op at s.height d s.stays.0 s.stays.1 there)

-- ---- ends

one_is : (o : Option ℕ) → is_one o ≡ true → o ≡ Some 1
one_is None e = absurd cc
one_is (Some h) e = ap (λ (k : ℕ). Some k) (eqb-true h 1 e)

pub one_height : (at : ℕ) (b : OpenBody) → has_one at b ≡ true → height_at at b.awaited ≡ Some 1
one_height at b one = one_is (height_at at b.awaited) one
