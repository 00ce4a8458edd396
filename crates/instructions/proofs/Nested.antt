-- What the pass over the instructions keeps: bodies lie in each other, and what is awaited lies ahead.
use Rattle.std.proofs.Common.{◌≡◌, ◌⊎◌, inl, inr, ℕ, zero, suc, ◌+◌, ◌-◌, ◌<◌, ◌≤◌, Bool, true, false, not, cond, ◌&&◌, ◌==◌, eq-eqb, nat_lt, List, [], ◌∷◌, length, take, drop, Option, Some, None, Ok, Err, refl, sym, ap, subst, ◌∙◌, arith}
use Rattle.std.specs.Prelude.{slice_get}
use Rattle.std.specs.List.{list_all}
use Rattle.std.proofs.lemmas.Bool.{eqb-true, ltb-false}
use Rattle.std.proofs.lemmas.Bool.Decides.{nat_tests}
use Rattle.celtree.specs.declared.tree.Macro.{Macro}
use Rattle.instructions.specs.declared.fault.CodeFault.TheVariants as fault
use Rattle.instructions.specs.Op.{Op, IfFalse, IfTrue, Branch, Jump, Over}
use Rattle.instructions.specs.Judging.{Arrival, OpenBody, height_at, arrivals, takes, targets, left, has_one, goes_past, is_fair, are_fair, is_named, goes_on, opens, runs, judged, step}
use Rattle.instructions.specs.WellFormed.{Among}
use Rattle.instructions.proofs.Arrivals.{and_left, and_right, not_true, not_false, all_among, all_taken, bind_ok, chosen, ok_is}

-- no macro from a place on has another place in its body
abbrev pub Clear : List Op → ℕ → ℕ → Type 0
Clear code at target = (j e : ℕ) (m : Macro) → at ≤ j → j < target → slice_get code j ≡ Some (Over m e) → e ≤ target

-- what is awaited in a body lies from a place on, up to the body's end, and in no other body
pub record Fine (code : List Op) (at low : ℕ) (b : OpenBody) : Type 0 where
  pub ahead : (a : Arrival) → Among a b.awaited → low ≤ a.place
  pub inside : (a : Arrival) → Among a b.awaited → a.place ≤ b.end
  pub clear : (a : Arrival) → Among a b.awaited → Clear code at a.place
  pub low_end : low ≤ b.end

-- each body ends in the one around it, which awaits nothing before that end
abbrev pub Nested : List Op → ℕ → ℕ → OpenBody → List OpenBody → Type 0
Nested code at low b [] = Fine code at low b × (b.end ≡ length code)
Nested code at low b (o ∷ os) = Fine code at low b × Nested code at b.end o os

pub nested_fine : (code : List Op) (at low : ℕ) (b : OpenBody) (os : List OpenBody) → Nested code at low b os → Fine code at low b
nested_fine code at low b [] n = n.0
nested_fine code at low b (o ∷ os) n = n.0

pub nested_end : (code : List Op) (at low : ℕ) (b : OpenBody) (os : List OpenBody) → Nested code at low b os → b.end ≤ length code
nested_end code at low b [] n = let e : b.end ≡ length code = n.1 in omega arith
nested_end code at low b (o ∷ os) n =
    let more : o.end ≤ length code = nested_end code at b.end o os n.1 in
    let less : b.end ≤ o.end = (nested_fine code at b.end o os n.1).low_end in
    omega arith

fine_later : (code : List Op) (at low : ℕ) (b : OpenBody) → Fine code at low b → Fine code (at + 1) low b
fine_later code at low b f = record { ahead = f.ahead; inside = f.inside; clear = λ a m j e k from before is. f.clear a m j e k (omega arith) before is; low_end = f.low_end }

pub nested_later : (code : List Op) (at low : ℕ) (b : OpenBody) (os : List OpenBody) → Nested code at low b os → Nested code (at + 1) low b os
nested_later code at low b [] n = (fine_later code at low b n.0, n.1)
nested_later code at low b (o ∷ os) n = (fine_later code at low b n.0, nested_later code at b.end o os n.1)

-- ---- leaving bodies

left_at : (t h : Bool) (at : ℕ) (P : OpenBody → List OpenBody → Type 0) (b o : OpenBody) (os : List OpenBody) (x : OpenBody × List OpenBody) → (t ≡ true → h ≡ true → P b (o ∷ os) → P o os) → (P o os → left at o os ≡ Ok x → P x.0 x.1)
    → cond t (cond h (left at o os) (Err fault.BadStack)) (Ok (b, o ∷ os)) ≡ Ok x → P b (o ∷ os) → P x.0 x.1
left_at true true at P b o os x move more e p = more (move refl refl p) e
left_at true false at P b o os x move more e p = absurd cc
left_at false h at P b o os x move more e p = let k : (b, o ∷ os) ≡ x = ok_is (b, o ∷ os) x e in subst (λ (z : OpenBody × List OpenBody). P z.0 z.1) k p

-- what a body passes on to the one around it when it is left
pub left_by : (at : ℕ) (P : OpenBody → List OpenBody → Type 0) → ((b o : OpenBody) (os : List OpenBody) → b.end ≡ at → has_one at b ≡ true → P b (o ∷ os) → P o os) → (b : OpenBody) (os : List OpenBody) (x : OpenBody × List OpenBody) → left at b os ≡ Ok x → P b os → P x.0 x.1
left_by at P move b [] x e p = let k : ◌≡◌ {A = OpenBody × List OpenBody} (b, []) x = ok_is (b, []) x e in subst (λ (z : OpenBody × List OpenBody). P z.0 z.1) k p
left_by at P move b (o ∷ os) x e p = left_at (b.end == at) (has_one at b) at P b o os x (λ t h q. move b o os (eqb-true _ _ t) h q) (λ q e. left_by at P move o os x e q) e p

-- the body that is not left ends elsewhere, if it is not the whole plan
abbrev pub GoesOn : ℕ → OpenBody → List OpenBody → Type 0
GoesOn at b os = b.end ≡ at → os ≡ []

stays_at : (t h : Bool) (at : ℕ) (b o : OpenBody) (os : List OpenBody) (x : OpenBody × List OpenBody) → (b.end == at) ≡ t → (left at o os ≡ Ok x → GoesOn at x.0 x.1) → cond t (cond h (left at o os) (Err fault.BadStack)) (Ok (b, o ∷ os)) ≡ Ok x → GoesOn at x.0 x.1
stays_at true true at b o os x is more e = more e
stays_at true false at b o os x is more e = absurd cc
stays_at false h at b o os x is more e =
    let k : (b, o ∷ os) ≡ x = ok_is (b, o ∷ os) x e in
    let here : GoesOn at b (o ∷ os) = λ same. let q : (b.end == at) ≡ true = eq-eqb _ _ same in absurd cc in
    subst (λ (z : OpenBody × List OpenBody). GoesOn at z.0 z.1) k here

pub left_stays : (at : ℕ) (b : OpenBody) (os : List OpenBody) (x : OpenBody × List OpenBody) → left at b os ≡ Ok x → GoesOn at x.0 x.1
left_stays at b [] x e = let k : ◌≡◌ {A = OpenBody × List OpenBody} (b, []) x = ok_is (b, []) x e in subst (λ (z : OpenBody × List OpenBody). GoesOn at z.0 z.1) k (λ same. refl)
left_stays at b (o ∷ os) x e = stays_at (b.end == at) (has_one at b) at b o os x refl (left_stays at o os x) e

pub left_nested : (code : List Op) (at : ℕ) (b : OpenBody) (os : List OpenBody) (x : OpenBody × List OpenBody) → left at b os ≡ Ok x → Nested code at at b os → Nested code at at x.0 x.1
left_nested code at b os x e n = left_by at (λ b os. Nested code at at b os) (λ b o os same one n. subst (λ (k : ℕ). Nested code at k o os) same n.1) b os x e n

-- an instruction stands before the end of its body
pub before_end : (code : List Op) (at : ℕ) (b : OpenBody) (os : List OpenBody) → at < length code → GoesOn at b os → Nested code at at b os → at < b.end
before_end code at b [] lt on n = let e : b.end ≡ length code = n.1 in omega arith
before_end code at b (o ∷ os) lt on n =
    let le : at ≤ b.end = n.0.low_end in
    let other : b.end ≡ at → ⊥ = λ same. let k : o ∷ os ≡ [] = on same in cc in
    omega arith

-- ---- one instruction

pub record Steps (vars at : ℕ) (op : Op) (later : List Op) (b : OpenBody) (os : List OpenBody) (y : OpenBody × List OpenBody) : Type 0 where
  pub stays : OpenBody × List OpenBody
  pub went : left at b os ≡ Ok stays
  pub fair : are_fair at stays.0.end later (targets op) ≡ true
  pub named : is_named vars (length stays.1) op ≡ true
  pub height : ℕ
  pub agreed : height_at at stays.0.awaited ≡ Some height
  pub enough : takes op ≤ height
  pub result : opens op at (goes_on op at height stays.0) stays.1 ≡ y

ran : (vars at : ℕ) (op : Op) (later : List Op) (b : OpenBody) (os : List OpenBody) (y x : OpenBody × List OpenBody) → left at b os ≡ Ok x → are_fair at x.0.end later (targets op) ≡ true → is_named vars (length x.1) op ≡ true → (o : Option ℕ) → height_at at x.0.awaited ≡ o → runs op at o x.0 x.1 ≡ Ok y → Steps vars at op later b os y
ran vars at op later b os y x went fair named None is e = absurd cc
ran vars at op later b os y x went fair named (Some h) is e =
    let c = chosen (nat_lt h (takes op)) fault.BadStack (Ok (opens op at (goes_on op at h x.0) x.1)) y e in
    record { stays = x; went = went; fair = fair; named = named; height = h; agreed = is; enough = ltb-false _ _ c.0; result = ok_is (opens op at (goes_on op at h x.0) x.1) y c.1 }

pub steps : (vars at : ℕ) (op : Op) (later : List Op) (b : OpenBody) (os : List OpenBody) (y : OpenBody × List OpenBody) → step vars at op later b os ≡ Ok y → Steps vars at op later b os y
steps vars at op later b os y e =
    let x = bind_ok (left at b os) (λ x. judged vars at op later x.0 x.1) y e in
    let f = chosen (not (are_fair at x.0.0.end later (targets op))) fault.BadJump _ y x.2 in
    let n = chosen (not (is_named vars (length x.0.1) op)) fault.BadName _ y f.1 in
    ran vars at op later b os y x.0 x.1 (not_false _ f.0) (not_false _ n.0) (height_at at x.0.0.awaited) refl n.1

-- what the tests of a target say
pub record Fair (code : List Op) (at end target : ℕ) : Type 0 where
  pub ahead : at < target
  pub inside : target ≤ end
  pub clear : Clear code (at + 1) target

pub slice_get-drop : (k i : ℕ) (xs : List Op) → slice_get (drop k xs) i ≡ slice_get xs (k + i)
slice_get-drop zero i xs = let k : i ≡ 0 + i = omega arith in ap (slice_get xs) k
slice_get-drop (suc k) i [] = refl
slice_get-drop (suc k) i (x ∷ xs) = let e : suc (k + i) ≡ suc k + i = omega arith in slice_get-drop k i xs ∙ ap (slice_get (x ∷ xs)) e

pub is_fair_says : (code : List Op) (at end target : ℕ) → is_fair at end (drop (at + 1) code) target ≡ true → Fair code at end target
is_fair_says code at end target e =
    let a = and_left (nat_lt at target) (not (nat_lt end target) && list_all (λ op. not (goes_past target op)) (take (target - (at + 1)) (drop (at + 1) code))) e in
    let r = and_right (nat_lt at target) (not (nat_lt end target) && list_all (λ op. not (goes_past target op)) (take (target - (at + 1)) (drop (at + 1) code))) e in
    let b = and_left (not (nat_lt end target)) (list_all (λ op. not (goes_past target op)) (take (target - (at + 1)) (drop (at + 1) code))) r in
    let c = and_right (not (nat_lt end target)) (list_all (λ op. not (goes_past target op)) (take (target - (at + 1)) (drop (at + 1) code))) r in
    let lt : at < target = grind (arith, nat_tests) in
    record {
      ahead = lt;
      inside = ltb-false _ _ (not_true _ b);
      clear = λ j end_of m from before is.
          let k : (at + 1) + (j - (at + 1)) ≡ j = omega arith in
          let there : slice_get (drop (at + 1) code) (j - (at + 1)) ≡ Some (Over m end_of) = slice_get-drop (at + 1) (j - (at + 1)) code ∙ ap (slice_get code) k ∙ is in
          let t : not (nat_lt target end_of) ≡ true = all_taken (λ op. not (goes_past target op)) (target - (at + 1)) (j - (at + 1)) (Over m end_of) (drop (at + 1) code) c (omega arith) there in
          ltb-false _ _ (not_true _ t);
    }

pub fair_says : (code : List Op) (at end target : ℕ) (places : List ℕ) → are_fair at end (drop (at + 1) code) places ≡ true → Among target places → Fair code at end target
fair_says code at end target places all m = is_fair_says code at end target (all_among (is_fair at end (drop (at + 1) code)) target places all m)

alone : (place h : ℕ) (a : Arrival) → Among a (record { place = place; height = h } ∷ []) → a.place ≡ place
alone place h a (inl e) = sym (ap (λ (x : Arrival). x.place) e)
alone place h a (inr m) = absurd m

-- where an instruction leads: to the next place, or to a target
pub leads : (op : Op) (at h : ℕ) (a : Arrival) → Among a (arrivals op at h) → (a.place ≡ at + 1) ⊎ Among a.place (targets op)
leads (IfFalse target) at h a (inl e) = inr (inl (ap (λ (x : Arrival). x.place) e))
leads (IfFalse target) at h a (inr (inl e)) = inl (sym (ap (λ (x : Arrival). x.place) e))
leads (IfFalse target) at h a (inr (inr m)) = absurd m
leads (IfTrue target) at h a (inl e) = inr (inl (ap (λ (x : Arrival). x.place) e))
leads (IfTrue target) at h a (inr (inl e)) = inl (sym (ap (λ (x : Arrival). x.place) e))
leads (IfTrue target) at h a (inr (inr m)) = absurd m
leads (Branch otherwise end) at h a (inl e) = inr (inl (ap (λ (x : Arrival). x.place) e))
leads (Branch otherwise end) at h a (inr (inl e)) = inr (inr (inl (ap (λ (x : Arrival). x.place) e)))
leads (Branch otherwise end) at h a (inr (inr (inl e))) = inl (sym (ap (λ (x : Arrival). x.place) e))
leads (Branch otherwise end) at h a (inr (inr (inr m))) = absurd m
leads (Jump target) at h a (inl e) = inr (inl (ap (λ (x : Arrival). x.place) e))
leads (Jump target) at h a (inr m) = absurd m
leads (Over k end) at h a (inl e) = inr (inl (ap (λ (x : Arrival). x.place) e))
leads (Over k end) at h a (inr m) = absurd m
leads op at h a m = inl (alone (at + 1) (h - takes op + 1) a m)
