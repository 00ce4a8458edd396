-- Heights stay below places: an instruction raises the stack by one at most.
use Rattle.std.proofs.Common.{◌≡◌, ℕ, ◌+◌, ◌≤◌, Bool, true, false, not, cond, ◌||◌, ◌==◌, nat_lt, List, [], ◌∷◌, ◌++◌, length, Option, Some, None, Result, Ok, Err, refl, subst, arith}
use Rattle.std.specs.List.{find, list_all, filter}
use Rattle.instructions.specs.declared.fault.CodeFault.{CodeFault}
use Rattle.instructions.specs.declared.fault.CodeFault.TheVariants as fault
use Rattle.instructions.specs.Op.{Op, IfFalse, IfTrue, Branch, Jump, Over}
use Rattle.instructions.specs.Faults.{◌>>=◌}
use Rattle.instructions.specs.Judging.{Arrival, OpenBody, height_at, height_of_first, comes_to, arrivals, takes, left, has_one, goes_on, opens, runs, judged, step, is_named, are_fair, targets}
use Rattle.instructions.specs.Bodies.{AreLow, AllAreLow}

low_append : (n : ℕ) (xs ys : List Arrival) → AreLow n xs → AreLow n ys → AreLow n (xs ++ ys)
low_append n [] ys low more = more
low_append n (x ∷ xs) ys low more = (low.0, low_append n xs ys low.1 more)

low_filter : (n : ℕ) (p : Arrival → Bool) (xs : List Arrival) → AreLow n xs → AreLow n (filter p xs)
low_filter n p [] low = tt
low_filter n p (x ∷ xs) low = elim (p x) as (λ b. AreLow n (cond b (x ∷ filter p xs) (filter p xs))) [ true ↦ (low.0, low_filter n p xs low.1) | false ↦ low_filter n p xs low.1 ]

low_more : (n m : ℕ) (xs : List Arrival) → n ≤ m → AreLow n xs → AreLow m xs
low_more n m [] le low = tt
low_more n m (x ∷ xs) le low = let h : x.height ≤ n = low.0 in (omega arith, low_more n m xs le low.1)

all_low_more : (n m : ℕ) (bs : List OpenBody) → n ≤ m → AllAreLow n bs → AllAreLow m bs
all_low_more n m [] le low = tt
all_low_more n m (b ∷ bs) le low = (low_more n m b.awaited le low.0, all_low_more n m bs le low.1)

-- the first that comes is one of those that are awaited
low_found : (b : Bool) (n : ℕ) (x a : Arrival) (rest : Option Arrival) → x.height ≤ n → (rest ≡ Some a → a.height ≤ n) → cond b (Some x) rest ≡ Some a → a.height ≤ n
low_found true n x a rest low more e = let k : x ≡ a = cc in subst (λ (y : Arrival). y.height ≤ n) k low
low_found false n x a rest low more e = more e

low_find : (n : ℕ) (p : Arrival → Bool) (xs : List Arrival) (a : Arrival) → AreLow n xs → find p xs ≡ Some a → a.height ≤ n
low_find n p [] a low e = absurd cc
low_find n p (x ∷ xs) a low e = low_found (p x) n x a (find p xs) low.0 (low_find n p xs a low.1) e

low_agreed : (b : Bool) (first : Arrival) (n h : ℕ) → first.height ≤ n → cond b (Some first.height) None ≡ Some h → h ≤ n
low_agreed true first n h low e = let k : first.height ≡ h = cc in omega arith
low_agreed false first n h low e = absurd cc

low_first : (at n h : ℕ) (xs : List Arrival) (o : Option Arrival) → find (comes_to at) xs ≡ o → AreLow n xs → height_of_first at xs o ≡ Some h → h ≤ n
low_first at n h xs None found low e = absurd cc
low_first at n h xs (Some first) found low e = low_agreed (list_all (λ a. not (comes_to at a) || (a.height == first.height)) xs) first n h (low_find n (comes_to at) xs first low found) e

pub low_height : (at n h : ℕ) (xs : List Arrival) → AreLow n xs → height_at at xs ≡ Some h → h ≤ n
low_height at n h xs low e = low_first at n h xs (find (comes_to at) xs) refl low e

low_arrivals : (op : Op) (at h : ℕ) → h ≤ at → AreLow (at + 1) (arrivals op at h)
low_arrivals (IfFalse target) at h le = (omega arith, (omega arith, tt))
low_arrivals (IfTrue target) at h le = (omega arith, (omega arith, tt))
low_arrivals (Branch otherwise end) at h le = (omega arith, (omega arith, (omega arith, tt)))
low_arrivals (Jump target) at h le = (omega arith, tt)
low_arrivals (Over m end) at h le = (omega arith, tt)
low_arrivals op at h le = (omega arith, tt)

-- the bodies that are open, with low heights
abbrev pub BothLow : ℕ → OpenBody → List OpenBody → Type 0
BothLow n body others = AreLow n body.awaited × AllAreLow n others

low_opens : (op : Op) (at : ℕ) (body : OpenBody) (others : List OpenBody) → AreLow (at + 1) body.awaited → AllAreLow (at + 1) others → BothLow (at + 1) (opens op at body others).0 (opens op at body others).1
low_opens (Over m end) at body others low all = ((omega arith, tt), (low, all))
low_opens op at body others low all = (low, all)

chosen : {A : Type 0} (b : Bool) (f : CodeFault) (r : Result A CodeFault) (y : A) → cond b (Err f) r ≡ Ok y → (b ≡ false) × (r ≡ Ok y)
chosen true f r y e = absurd cc
chosen false f r y e = (refl, e)

low_runs : (op : Op) (at : ℕ) (o : Option ℕ) (body : OpenBody) (others : List OpenBody) (y : OpenBody × List OpenBody) → ((h : ℕ) → o ≡ Some h → h ≤ at) → AreLow at body.awaited → AllAreLow at others → runs op at o body others ≡ Ok y → BothLow (at + 1) y.0 y.1
low_runs op at None body others y bound low all e = absurd cc
low_runs op at (Some h) body others y bound low all e =
    let c = chosen (nat_lt h (takes op)) fault.BadStack (Ok (opens op at (goes_on op at h body) others)) y e in
    let k : opens op at (goes_on op at h body) others ≡ y = cc in
    let le : at ≤ at + 1 = omega arith in
    let now : AreLow (at + 1) (goes_on op at h body).awaited = low_append (at + 1) (filter (λ a. not (comes_to at a)) body.awaited) (arrivals op at h) (low_more at (at + 1) _ le (low_filter at (λ a. not (comes_to at a)) body.awaited low)) (low_arrivals op at h (bound h refl)) in
    subst (λ (z : OpenBody × List OpenBody). BothLow (at + 1) z.0 z.1) k (low_opens op at (goes_on op at h body) others now (all_low_more at (at + 1) others le all))

pub low_judged : (vars at : ℕ) (op : Op) (later : List Op) (body : OpenBody) (others : List OpenBody) (y : OpenBody × List OpenBody) → AreLow at body.awaited → AllAreLow at others → judged vars at op later body others ≡ Ok y → BothLow (at + 1) y.0 y.1
low_judged vars at op later body others y low all e =
    let a = chosen (not (are_fair at body.end later (targets op))) fault.BadJump _ y e in
    let b = chosen (not (is_named vars (length others) op)) fault.BadName _ y a.1 in
    low_runs op at (height_at at body.awaited) body others y (λ h found. low_height at at h body.awaited low found) low all b.1

low_left_at : (b c : Bool) (n : ℕ) (body : OpenBody) (others : List OpenBody) (rest : Result (OpenBody × List OpenBody) CodeFault) (x : OpenBody × List OpenBody) → BothLow n body others → (rest ≡ Ok x → BothLow n x.0 x.1) → cond b (cond c rest (Err fault.BadStack)) (Ok (body, others)) ≡ Ok x → BothLow n x.0 x.1
low_left_at true true n body others rest x low more e = more e
low_left_at true false n body others rest x low more e = absurd cc
low_left_at false c n body others rest x low more e = let k : (body, others) ≡ x = cc in subst (λ (z : OpenBody × List OpenBody). BothLow n z.0 z.1) k low

pub low_left : (n at : ℕ) (body : OpenBody) (others : List OpenBody) (x : OpenBody × List OpenBody) → AreLow n body.awaited → AllAreLow n others → left at body others ≡ Ok x → BothLow n x.0 x.1
low_left n at body [] x low all e = let k : ◌≡◌ {A = OpenBody × List OpenBody} (body, []) x = cc in subst (λ (z : OpenBody × List OpenBody). BothLow n z.0 z.1) k (low, tt)
low_left n at body (outer ∷ others) x low all e = low_left_at (body.end == at) (has_one at body) n body (outer ∷ others) (left at outer others) x (low, all) (low_left n at outer others x all.0 all.1) e

-- the value of a step that did not fail
pub bind_ok : {A B : Type 0} (r : Result A CodeFault) (f : A → Result B CodeFault) (y : B) → (r >>= f) ≡ Ok y → (x : A) × (r ≡ Ok x) × (f x ≡ Ok y)
bind_ok (Ok x) f y e = (x, refl, e)
bind_ok (Err d) f y e = absurd cc

pub low_step : (vars at : ℕ) (op : Op) (later : List Op) (body : OpenBody) (others : List OpenBody) (y : OpenBody × List OpenBody) → AreLow at body.awaited → AllAreLow at others → step vars at op later body others ≡ Ok y → BothLow (at + 1) y.0 y.1
low_step vars at op later body others y low all e =
    let b = bind_ok (left at body others) (λ x. judged vars at op later x.0 x.1) y e in
    let kept = low_left at at body others b.0 low all b.1 in
    low_judged vars at op later b.0.0 b.0.1 y kept.0 kept.1 b.2
