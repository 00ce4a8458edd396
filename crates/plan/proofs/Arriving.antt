-- The arrivals that are awaited, as sets, and one instruction of the pass.
use Rattle.std.proofs.Common.{◌≡◌, inl, inr, ℕ, ◌+◌, ◌-◌, ◌<◌, ◌≤◌, Bool, true, false, not, cond, ◌==◌, nat_lt, eq-eqb, List, [], ◌∷◌, ◌++◌, length, take, Some, Ok, Err, refl, sym, ap, ◌∙◌, arith}
use Rattle.std.specs.List.{filter, list_all}
use Rattle.std.proofs.lemmas.Bool.Decides.{nat_tests}
use Rattle.std.proofs.lemmas.List.Folds.{list_all-append}
use Rattle.std.proofs.Math.Seq.{take-append_seam}
use Rattle.instructions.specs.declared.fault.CodeFault.TheVariants as fault
use Rattle.instructions.specs.Op.{Op}
use Rattle.instructions.specs.Faults.{◌>>=◌}
use Rattle.instructions.specs.Judging.{takes, targets, Arrival, OpenBody, comes_to, height_at, has_one, left, goes_past, is_fair, are_fair, is_named, goes_on, opens, judged, step, judge, ended}
use Rattle.instructions.specs.WellFormed.{Among}
use Rattle.instructions.proofs.Arrivals.{among_left, among_right, among_either, filtered, among_filter, not_true}
use Rattle.instructions.proofs.Converse.{and_true, agreed}
use Rattle.instructions.proofs.Passing.{judged_is}

-- ---- sets of arrivals

abbrev pub come : ℕ → ℕ → Arrival
come place height = record { place = place; height = height }

pub same_come : (m n h k : ℕ) → m ≡ n → h ≡ k → come m h ≡ come n k
same_come m n h k e f = ap (λ (p : ℕ). come p h) e ∙ ap (λ (p : ℕ). come n p) f

-- the same arrivals, in whatever order and however often
pub record Same (a b : List Arrival) : Type 0 where
  pub into : (x : Arrival) → Among x a → Among x b
  pub back : (x : Arrival) → Among x b → Among x a

pub same_itself : (a : List Arrival) → Same a a
same_itself a = record { into = λ x m. m; back = λ x m. m }

pub same_over : (a b c : List Arrival) → Same a b → Same b c → Same a c
same_over a b c s t = record { into = λ x m. t.into x (s.into x m); back = λ x m. s.back x (t.back x m) }

pub once_only : (x : Arrival) (l : List Arrival) → Same (x ∷ x ∷ l) (x ∷ l)
once_only x l = record { into = λ y m. elim m [ inl e ↦ inl e | inr n ↦ n ]; back = λ y m. inr m }

pub swapped : (x y : Arrival) (l : List Arrival) → Same (x ∷ y ∷ l) (y ∷ x ∷ l)
swapped x y l = record {
  into = λ z m. elim m [ inl e ↦ inr (inl e) | inr n ↦ elim n [ inl e ↦ inl e | inr k ↦ inr (inr k) ] ];
  back = λ z m. elim m [ inl e ↦ inr (inl e) | inr n ↦ elim n [ inl e ↦ inl e | inr k ↦ inr (inr k) ] ];
}

-- the same with one more
pub one_more : (x : Arrival) (a b : List Arrival) → Same a b → Same (x ∷ a) (x ∷ b)
one_more x a b s = record {
  into = λ y m. elim m [ inl e ↦ inl e | inr n ↦ inr (s.into y n) ];
  back = λ y m. elim m [ inl e ↦ inl e | inr n ↦ inr (s.back y n) ];
}

-- all of them are at the place or after it
abbrev pub Ahead : ℕ → List Arrival → Type 0
Ahead place further = (a : Arrival) → Among a further → place ≤ a.place

pub none_ahead : (place : ℕ) → Ahead place []
none_ahead place = λ a m. absurd m

pub ahead_too : (place : ℕ) (x : Arrival) (l : List Arrival) → place ≤ x.place → Ahead place l → Ahead place (x ∷ l)
ahead_too place x l le ahead = λ a m. elim m [ inl e ↦ (let s : x.place ≡ a.place = ap (λ (y : Arrival). y.place) e in omega (arith, s)) | inr n ↦ ahead a n ]

pub ahead_before : (at to : ℕ) (l : List Arrival) → at ≤ to → Ahead to l → Ahead at l
ahead_before at to l le ahead = λ a m. (let n : to ≤ a.place = ahead a m in omega arith)

-- what is awaited after an instruction: what was awaited further on, and what the instruction leads to
pub comes_next : (at h : ℕ) (further awaited more : List Arrival) → Ahead (at + 1) further → Same awaited (come at h ∷ further) → Same (filter (λ a. not (comes_to at a)) awaited ++ more) (more ++ further)
comes_next at h further awaited more ahead same = record {
  into = λ a m. among_either a (filter (λ x. not (comes_to at x)) awaited) more m
      (λ k. let f = among_filter (λ x. not (comes_to at x)) a awaited k in
      elim (same.into a f.0) [
        | inl e ↦ (let t : comes_to at a ≡ true = eq-eqb _ _ (ap (λ (x : Arrival). x.place) (sym e)) in
            let g : comes_to at a ≡ false = not_true _ f.1 in
            absurd cc)
        | inr n ↦ among_right a more further n
      ])
      (λ k. among_left a more further k);
  back = λ a m. among_either a more further m
      (λ k. among_right a (filter (λ x. not (comes_to at x)) awaited) more k)
      (λ k. let le : at + 1 ≤ a.place = ahead a k in
      let other : (a.place == at) ≡ false = grind (arith, nat_tests) in
      among_left a (filter (λ x. not (comes_to at x)) awaited) more (filtered (λ x. not (comes_to at x)) a awaited (ap not other) (same.back a (inr k))));
}

-- the one height with which control comes to a place
pub height_here : (at h : ℕ) (further awaited : List Arrival) → Ahead (at + 1) further → Same awaited (come at h ∷ further) → height_at at awaited ≡ Some h
height_here at h further awaited ahead same =
    agreed at h awaited (come at h) (same.back (come at h) (inl refl)) refl
    (λ b m place. elim (same.into b m) [
      | inl e ↦ ap (λ (x : Arrival). x.height) (sym e)
      | inr n ↦ (let le : at + 1 ≤ b.place = ahead b n in absurd (omega arith))
    ])

-- ---- one instruction

not_left : (at : ℕ) (b : OpenBody) (os : List OpenBody) → at < b.end → left at b os ≡ Ok (b, os)
not_left at b [] lt = refl
not_left at b (o ∷ os) lt =
    let other : (b.end == at) ≡ false = grind (arith, nat_tests) in
    ap (λ t. cond t (cond (has_one at b) (left at o os) (Err fault.BadStack)) (Ok (b, o ∷ os))) other

pub is_judged : (vars at end h : ℕ) (op : Op) (further awaited : List Arrival) (rest : List Op) (outer : List OpenBody) → at < end → Ahead (at + 1) further → are_fair at end rest (targets op) ≡ true
    → is_named vars (length outer) op ≡ true → takes op ≤ h → Same awaited (come at h ∷ further)
    → step vars at op rest (record { end = end; awaited = awaited }) outer ≡ Ok (opens op at (goes_on op at h (record { end = end; awaited = awaited })) outer)
is_judged vars at end h op further awaited rest outer lt ahead fair named enough same =
    let b : OpenBody = record { end = end; awaited = awaited } in
    ap (λ r. r >>= λ x. judged vars at op rest x.0 x.1) (not_left at b outer lt)
    ∙ judged_is vars at h op rest b outer fair named (height_here at h further awaited ahead same) enough

-- no macro between leads past the target
pub fair_to : (at end to : ℕ) (between rest : List Op) → at + 1 + length between ≡ to → to ≤ end → list_all (λ op. not (goes_past to op)) between ≡ true → is_fair at end (between ++ rest) to ≡ true
fair_to at end to between rest long le clear =
    let a : nat_lt at to ≡ true = grind (arith, nat_tests) in
    let b : nat_lt end to ≡ false = grind (arith, nat_tests) in
    let n : to - (at + 1) ≡ length between = omega (arith, long) in
    let taken : take (to - (at + 1)) (between ++ rest) ≡ between = ap (λ (k : ℕ). take k (between ++ rest)) n ∙ take-append_seam between rest in
    and_true (nat_lt at to) _ a (and_true (not (nat_lt end to)) _ (ap not b) (ap (λ (l : List Op). list_all (λ op. not (goes_past to op)) l) taken ∙ clear))

pub all_both : (p : Op → Bool) (a b : List Op) → list_all p a ≡ true → list_all p b ≡ true → list_all p (a ++ b) ≡ true
all_both p a b e f = list_all-append p a b ∙ and_true (list_all p a) (list_all p b) e f

-- a body that ends here with one outcome is left
left_one : (at : ℕ) (b o : OpenBody) (os : List OpenBody) → b.end ≡ at → has_one at b ≡ true → left at b (o ∷ os) ≡ left at o os
left_one at b o os e one =
    ap (λ t. cond t (cond (has_one at b) (left at o os) (Err fault.BadStack)) (Ok (b, o ∷ os))) (eq-eqb _ _ e)
    ∙ ap (λ t. cond t (left at o os) (Err fault.BadStack)) one

pub left_after : (vars at : ℕ) (b o : OpenBody) (os : List OpenBody) (ops : List Op) → b.end ≡ at → has_one at b ≡ true → judge vars at ops b (o ∷ os) ≡ judge vars at ops o os
left_after vars at b o os [] e one = ap (λ r. r >>= λ x. ended at x) (left_one at b o os e one)
left_after vars at b o os (op ∷ ops) e one =
    ap (λ r. (r >>= λ x. judged vars at op ops x.0 x.1) >>= λ y. judge vars (at + 1) ops y.0 y.1) (left_one at b o os e one)

pub ends_before : (place end : ℕ) → end ≤ place → not (nat_lt place end) ≡ true
ends_before place end le = let t : nat_lt place end ≡ false = grind (arith, nat_tests) in ap not t
