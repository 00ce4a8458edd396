-- A plan without a fault is well formed.
use Rattle.std.proofs.Common.{◌≡◌, ◌⊎◌, inl, inr, ℕ, zero, suc, ◌+◌, ◌-◌, ◌<◌, ◌≤◌, Bool, true, false, cond, List, [], ◌∷◌, length, Ok, Err, refl, sym, ap, subst, ◌∙◌, arith}
use Rattle.std.proofs.lemmas.List.{drop_all, length-map}
use Rattle.std.proofs.lemmas.Bool.{cases_lt}
use Rattle.std.proofs.lemmas.Option.{slice_get_within, same_Some}
use Rattle.instructions.specs.declared.fault.CodeFault.{CodeFault}
use Rattle.instructions.specs.declared.fault.CodeFault.TheVariants as fault
use Rattle.instructions.specs.Op.{Op}
use Rattle.instructions.specs.Judging.{OpenBody, left, has_one, targets, takes, is_named, judge, ended, first_fault}
use Rattle.instructions.specs.WellFormed.{Among, Control, within, Comes, StandsAt, IsWellFormed}
use Rattle.instructions.proofs.Arrivals.{agree, bind_ok, ok_is}
use Rattle.instructions.proofs.Nested.{Nested, nested_fine, nested_end, left_by, left_stays, left_nested, before_end, Fair, fair_says}
use Rattle.instructions.proofs.Stepping.{ends_of, arrival_of, Real, real_here, stands, left_real}
use Rattle.instructions.proofs.Awaiting.{Is, Own, Awaits, Opened, awaits_end, awaits_opened, opened_end, innermost, stays_open, standing, one_height}
use Rattle.instructions.proofs.Reaching.{states, Passes, Next, next_of, reach, Here, comes_here}

-- what the pass found where control stands at an instruction
record Judged (vars : ℕ) (code : List Op) (c : Control) (op : Op) : Type 0 where
  end : ℕ
  end_is : end ≡ c.end
  fair : (target : ℕ) → Among target (targets op) → Fair code c.place end target
  named : is_named vars (length c.outer) op ≡ true
  enough : takes op ≤ c.height

judged_next : (vars : ℕ) (code : List Op) (c : Control) (op : Op) (h : Here vars code c) (on : Next vars code c.place h.bodies) → StandsAt code c op → op ≡ on.op → Judged vars code c on.op
judged_next vars code c op h on st same =
    let s = on.steps in
    let at = standing vars c.place on.op code c h.bodies.0 h.bodies.1 on.later s refl st.inside on.here h.passes.nested h.awaits in
    let depth : length s.stays.1 ≡ length c.outer = sym (length-map s.stays.1 (λ (b : OpenBody). b.end)) ∙ ap (λ (o : List ℕ). length o) at.own.is.outer_is in
    record {
      end = s.stays.0.end;
      end_is = at.own.is.end_is;
      fair = λ target m. fair_says code c.place s.stays.0.end target (targets on.op) s.fair m;
      named = ap (λ (d : ℕ). is_named vars d on.op) (sym depth) ∙ s.named;
      enough = let e : c.height ≡ s.height = at.height in let k : takes on.op ≤ s.height = s.enough in omega (arith, e, k);
    }

judged : (vars : ℕ) (code : List Op) → first_fault vars code ≡ Ok tt → (c : Control) (op : Op) → StandsAt code c op → Judged vars code c op
judged vars code sound c op st =
    let h = comes_here vars code sound st.comes in
    let on = next_of vars code c.place h.bodies h.passes (slice_get_within code c.place op st.here) in
    let same : op ≡ on.op = same_Some op on.op (sym st.here ∙ on.here) in
    subst (λ (o : Op). Judged vars code c o) (sym same) (judged_next vars code c op h on st same)

-- ---- one control a place

alike_next : (vars : ℕ) (code : List Op) (n : ℕ) (x : OpenBody × List OpenBody) (on : Next vars code n x) → Passes vars code n x → (c d : Control) → c.place ≡ n → d.place ≡ n → c.place < c.end → d.place < d.end → Awaits c x.0 x.1 → Awaits d x.0 x.1 → c ≡ d
alike_next vars code n x on p c d same other inside within_end m k =
    let first = standing vars n on.op code c x.0 x.1 on.later on.steps same inside on.here p.nested m in
    let second = standing vars n on.op code d x.0 x.1 on.later on.steps other within_end on.here p.nested k in
    first.is ∙ sym second.is

with_bodies : (vars : ℕ) (code : List Op) (c d : Control) → c.place ≡ d.place → c.place < c.end → d.place < d.end → (x y : OpenBody × List OpenBody) → Passes vars code c.place x → Passes vars code d.place y → Awaits c x.0 x.1 → Awaits d y.0 y.1 → c ≡ d
with_bodies vars code c d same inside within_end x y p q m k =
    let moved : states vars code c.place ≡ Ok y = subst (λ (n : ℕ). states vars code n ≡ Ok y) (sym same) q.is in
    let z : y ≡ x = ok_is y x (sym moved ∙ p.is) in
    let there : Awaits d x.0 x.1 = subst (λ (w : OpenBody × List OpenBody). Awaits d w.0 w.1) z k in
    let l : c.end ≤ length code = opened_end code c.place c.place c x.0 x.1 p.nested (awaits_opened c x.0 x.1 m) in
    let on = next_of vars code c.place x p (omega arith) in
    alike_next vars code c.place x on p c d refl (sym same) inside within_end m there

alike : (vars : ℕ) (code : List Op) → first_fault vars code ≡ Ok tt → (c d : Control) → Comes code c → Comes code d → c.place < c.end → d.place < d.end → c.place ≡ d.place → c ≡ d
alike vars code sound c d comes other inside within_end same =
    let h = comes_here vars code sound comes in
    let k = comes_here vars code sound other in
    with_bodies vars code c d same inside within_end h.bodies k.bodies h.passes k.passes h.awaits k.awaits

reached : (vars : ℕ) (code : List Op) → first_fault vars code ≡ Ok tt → (place : ℕ) → place < length code → (c : Control) × (c.place ≡ place) × (c.place < c.end) × Comes code c
reached vars code sound place lt =
    let r = reach vars code sound place (omega arith) in
    let on = next_of vars code place r.bodies r.passes lt in
    let s = on.steps in
    let kept = left_nested code place r.bodies.0 r.bodies.1 s.stays s.went r.passes.nested in
    let inside : place < s.stays.0.end = before_end code place s.stays.0 s.stays.1 lt (left_stays place r.bodies.0 r.bodies.1 s.stays s.went) kept in
    let real = left_real code place r.bodies.0 r.bodies.1 s.stays s.went r.passes.real in
    (record { place = place; end = s.stays.0.end; outer = ends_of s.stays.1; height = s.height }, refl, inside, stands code place s.height s.stays.0 s.stays.1 real s.agreed)

-- ---- the ends of bodies

test_ok : {A : Type 0} (b : Bool) (f : CodeFault) (x y : A) → cond b (Ok x) (Err f) ≡ Ok y → b ≡ true
test_ok true f x y e = refl
test_ok false f x y e = absurd cc

-- the bodies that are open after those that end at a place: there is more to come, or the plan ends with one outcome
record Left (code : List Op) (n : ℕ) (x : OpenBody × List OpenBody) : Type 0 where
  stays : OpenBody × List OpenBody
  went : left n x.0 x.1 ≡ Ok stays
  further : (n < stays.0.end) ⊎ ((n ≡ length code) × (has_one n stays.0 ≡ true))

left_last : (vars : ℕ) (code : List Op) (n : ℕ) (x : OpenBody × List OpenBody) → length code ≡ n → Passes vars code n x → Left code n x
left_last vars code n x same p =
    let e : judge vars n [] x.0 x.1 ≡ Ok tt = ap (λ (ops : List Op). judge vars n ops x.0 x.1) (sym (drop_all n code (omega arith))) ∙ p.passes in
    let b = bind_ok (left n x.0 x.1) (λ z. ended n z) tt e in
    record { stays = b.0; went = b.1; further = inr (sym same, test_ok (has_one n b.0.0) fault.BadStack tt tt b.2) }

left_there : (vars : ℕ) (code : List Op) (n : ℕ) (x : OpenBody × List OpenBody) → n ≤ length code → Passes vars code n x → Left code n x
left_there vars code n x le p =
    elim (cases_lt n (length code)) [
      | inl lt ↦ (let on = next_of vars code n x p lt in
          let s = on.steps in
          record { stays = s.stays; went = s.went; further = inl (before_end code n s.stays.0 s.stays.1 lt (left_stays n x.0 x.1 s.stays s.went) (left_nested code n x.0 x.1 s.stays s.went p.nested)) })
      | inr past ↦ left_last vars code n x (omega arith) p
    ]

-- at the end of the plan no other body is open
last_alone : (code : List Op) (n : ℕ) (x z : OpenBody × List OpenBody) → Nested code n n x.0 x.1 → left n x.0 x.1 ≡ Ok z → n ≡ length code → (z.0.end ≡ n) × (z.1 ≡ [])
last_alone code n x z nested went same =
    let kept = left_nested code n x.0 x.1 z went nested in
    let high : z.0.end ≤ length code = nested_end code n n z.0 z.1 kept in
    let low : n ≤ z.0.end = (nested_fine code n n z.0 z.1 kept).low_end in
    let e : z.0.end ≡ n = omega arith in
    (e, left_stays n x.0 x.1 z went e)

one_moves : (at : ℕ) (c : Control) → c.place ≡ at → (b o : OpenBody) (os : List OpenBody) → b.end ≡ at → has_one at b ≡ true → (c.height ≡ 1) ⊎ Awaits c b (o ∷ os) → (c.height ≡ 1) ⊎ Awaits c o os
one_moves at c same b o os ends one (inl done) = inl done
one_moves at c same b o os ends one (inr (inl own)) = inl ((agree at 1 b.awaited (one_height at b one)).all (arrival_of c) own.among same)
one_moves at c same b o os ends one (inr (inr m)) = inr m

one_last : (code : List Op) (c : Control) (x z : OpenBody × List OpenBody) → c.place ≡ c.end → Nested code c.place c.place x.0 x.1 → left c.place x.0 x.1 ≡ Ok z → (c.place < z.0.end) ⊎ ((c.place ≡ length code) × (has_one c.place z.0 ≡ true)) → Awaits c z.0 z.1 → c.height ≡ 1
one_last code c x z same nested went (inl lt) m =
    let own = innermost code c.place c z.0 z.1 (left_nested code c.place x.0 x.1 z went nested) lt refl m in
    let e : z.0.end ≡ c.end = own.is.end_is in
    absurd (omega arith)
one_last code c x z same nested went (inr done) m =
    let alone = last_alone code c.place x z nested went done.0 in
    let own : Own c z.0 [] = subst (λ (os : List OpenBody). Awaits c z.0 os) alone.1 m in
    (agree c.place 1 z.0.awaited (one_height c.place z.0 done.1)).all (arrival_of c) own.among refl

one_outcome : (vars : ℕ) (code : List Op) → first_fault vars code ≡ Ok tt → (c : Control) → Comes code c → c.place ≡ c.end → c.height ≡ 1
one_outcome vars code sound c comes same =
    let h = comes_here vars code sound comes in
    let l : c.end ≤ length code = opened_end code c.place c.place c h.bodies.0 h.bodies.1 h.passes.nested (awaits_opened c h.bodies.0 h.bodies.1 h.awaits) in
    let t = left_there vars code c.place h.bodies (omega arith) h.passes in
    let p = left_by c.place (λ b os. (c.height ≡ 1) ⊎ Awaits c b os) (one_moves c.place c refl) h.bodies.0 h.bodies.1 t.stays t.went (inr h.awaits) in
    elim p [ inl done ↦ done | inr m ↦ one_last code c h.bodies t.stays same h.passes.nested t.went t.further m ]

-- control comes to the end of the body
abbrev Ends : List Op → Control → Type 0
Ends code c = (d : Control) × (d.place ≡ d.end) × (d.end ≡ c.end) × (d.outer ≡ c.outer) × Comes code d

end_of : (code : List Op) (at : ℕ) (c : Control) (b : OpenBody) (os : List OpenBody) → b.end ≡ at → has_one at b ≡ true → Is c b os → Real code b os → Ends code c
end_of code at c b os ends one is real =
    let g = agree at 1 b.awaited (one_height at b one) in
    (within b.end (ends_of os) g.first, g.place ∙ sym ends, is.end_is, is.outer_is, real_here code b os real g.first g.among)

ends_move : (code : List Op) (at : ℕ) (c : Control) (b o : OpenBody) (os : List OpenBody) → b.end ≡ at → has_one at b ≡ true → Real code b (o ∷ os) × (Ends code c ⊎ Opened c b (o ∷ os)) → Real code o os × (Ends code c ⊎ Opened c o os)
ends_move code at c b o os ends one (real, inl done) = (real.1, inl done)
ends_move code at c b o os ends one (real, inr (inl is)) = (real.1, inl (end_of code at c b (o ∷ os) ends one is real))
ends_move code at c b o os ends one (real, inr (inr m)) = (real.1, inr m)

opened_from : (code : List Op) (at low : ℕ) (c : Control) (b : OpenBody) (os : List OpenBody) → Nested code at low b os → Opened c b os → b.end ≤ c.end
opened_from code at low c b [] n is = let e : b.end ≡ c.end = is.end_is in omega arith
opened_from code at low c b (o ∷ os) n (inl is) = let e : b.end ≡ c.end = is.end_is in omega arith
opened_from code at low c b (o ∷ os) n (inr m) =
    let more : o.end ≤ c.end = opened_from code at b.end c o os n.1 m in
    let less : b.end ≤ o.end = (nested_fine code at b.end o os n.1).low_end in
    omega arith

ends_last : (code : List Op) (c : Control) (x z : OpenBody × List OpenBody) → Nested code c.end c.end x.0 x.1 → left c.end x.0 x.1 ≡ Ok z → Real code z.0 z.1 → (c.end < z.0.end) ⊎ ((c.end ≡ length code) × (has_one c.end z.0 ≡ true)) → Opened c z.0 z.1 → Ends code c
ends_last code c x z nested went real (inl lt) m =
    let e : z.0.end ≤ c.end = opened_from code c.end c.end c z.0 z.1 (left_nested code c.end x.0 x.1 z went nested) m in
    absurd (omega arith)
ends_last code c x z nested went real (inr done) m =
    let alone = last_alone code c.end x z nested went done.0 in
    let is : Is c z.0 [] = subst (λ (os : List OpenBody). Opened c z.0 os) alone.1 m in
    let there : Real code z.0 [] = subst (λ (os : List OpenBody). Real code z.0 os) alone.1 real in
    end_of code c.end c z.0 [] alone.0 done.1 is there

ends_at : (vars : ℕ) (code : List Op) (c : Control) (x : OpenBody × List OpenBody) → c.end ≤ length code → Passes vars code c.end x → Opened c x.0 x.1 → Ends code c
ends_at vars code c x le p m =
    let t = left_there vars code c.end x le p in
    let q = left_by c.end (λ b os. Real code b os × (Ends code c ⊎ Opened c b os)) (ends_move code c.end c) x.0 x.1 t.stays t.went (p.real, inr m) in
    elim q.1 [ inl done ↦ done | inr n ↦ ends_last code c x t.stays p.nested t.went q.0 t.further n ]

ends_from : (vars : ℕ) (code : List Op) (k n : ℕ) (c : Control) (x : OpenBody × List OpenBody) → n + k ≡ c.end → c.end ≤ length code → Passes vars code n x → Opened c x.0 x.1 → Ends code c
ends_from vars code zero n c x e le p m = let k : n ≡ c.end = omega arith in ends_at vars code c x le (subst (λ (j : ℕ). Passes vars code j x) k p) m
ends_from vars code (suc k) n c x e le p m =
    let on = next_of vars code n x p (omega arith) in
    ends_from vars code k (n + 1) c on.later (omega arith) le on.passes (stays_open vars n on.op code c x.0 x.1 on.later (omega arith) on.steps m)

ends : (vars : ℕ) (code : List Op) → first_fault vars code ≡ Ok tt → (c : Control) → Comes code c → Ends code c
ends vars code sound c comes =
    let h = comes_here vars code sound comes in
    let opened = awaits_opened c h.bodies.0 h.bodies.1 h.awaits in
    let l : c.end ≤ length code = opened_end code c.place c.place c h.bodies.0 h.bodies.1 h.passes.nested opened in
    let le : c.place ≤ c.end = awaits_end code c.place c.place c h.bodies.0 h.bodies.1 h.passes.nested h.awaits in
    ends_from vars code (c.end - c.place) c.place c h.bodies (omega arith) l h.passes opened

-- ---- together

pub sound_is_well_formed : (vars : ℕ) (code : List Op) → first_fault vars code ≡ Ok tt → IsWellFormed vars code
sound_is_well_formed vars code sound = record {
  forward = λ c op target st m.
      let j = judged vars code sound c op st in
      let f = j.fair target m in
      let a : c.place < target = f.ahead in
      let i : target ≤ j.end = f.inside in
      let e : j.end ≡ c.end = j.end_is in
      (a, omega arith);
  outside = λ c op target place end m st k is lt before. (let j = judged vars code sound c op st in (j.fair target k).clear place end m (omega arith) before is);
  named = λ c op st. (judged vars code sound c op st).named;
  operands = λ c op st. (judged vars code sound c op st).enough;
  reached = reached vars code sound;
  alike = alike vars code sound;
  one_outcome = one_outcome vars code sound;
  ends = ends vars code sound;
}
