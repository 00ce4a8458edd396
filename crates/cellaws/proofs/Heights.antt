-- What is awaited in the open bodies is where control comes by the instructions before: so the height that is found is the one there.
use Rattle.std.proofs.Common.{◌≡◌, inr, ℕ, ◌≤◌, true, List, ◌∷◌, length, Some, refl, ap, subst, arith}
use Rattle.std.proofs.lemmas.List.{length-map}
use Rattle.instructions.specs.Op.{Op}
use Rattle.instructions.specs.Judging.{Arrival, OpenBody, height_at, has_one, is_one}
use Rattle.instructions.specs.WellFormed.{Among, Control, within}
use Rattle.instructions.proofs.Arrivals.{agree}
use Rattle.instructions.proofs.Stepping.{ends_of}
use Rattle.instructions.proofs.Awaiting.{Own, Awaits, own_here, own_awaits, awaits_outside, one_height}
use Rattle.instructions.proofs.Converse.{agreed}
use Rattle.cellaws.specs.FirstFault.{ComesBefore, HasHeight}

-- these bodies await what comes: all of it that lies in as many bodies at most
pub record Knows (code : List Op) (at : ℕ) (b : OpenBody) (os : List OpenBody) : Type 0 where
  pub sound : (c : Control) → Awaits c b os → ComesBefore code at c
  pub complete : (c : Control) → ComesBefore code at c → at ≤ c.place → length c.outer ≤ length os → Awaits c b os

pub knows_other : (code : List Op) (at : ℕ) (b o : OpenBody) (os : List OpenBody) → Knows code at b (o ∷ os) → Knows code at o os
knows_other code at b o os k = record {
  sound = λ c m. k.sound c (inr m);
  complete = λ c comes le deep. awaits_outside c b o os deep (k.complete c comes le (omega arith));
}

own_within : (b : OpenBody) (os : List OpenBody) (a : Arrival) → Among a b.awaited → Own (within b.end (ends_of os) a) b os
own_within b os a m = record { is = record { end_is = refl; outer_is = refl }; among = m }

comes_within : (code : List Op) (at : ℕ) (b : OpenBody) (os : List OpenBody) → Knows code at b os → (a : Arrival) → Among a b.awaited → a.place ≡ at
    → ComesBefore code at (record { place = at; end = b.end; outer = ends_of os; height = a.height })
comes_within code at b os k a m place =
    subst (λ (p : ℕ). ComesBefore code at (record { place = p; end = b.end; outer = ends_of os; height = a.height })) place
    (k.sound (within b.end (ends_of os) a) (own_awaits (within b.end (ends_of os) a) b os (own_within b os a m)))

among_here : (code : List Op) (at h : ℕ) (b : OpenBody) (os : List OpenBody) → Knows code at b os
    → ComesBefore code at (record { place = at; end = b.end; outer = ends_of os; height = h })
    → Among (record { place = at; height = h }) b.awaited
among_here code at h b os k comes =
    let c : Control = record { place = at; end = b.end; outer = ends_of os; height = h } in
    let depth : length (ends_of os) ≡ length os = length-map os (λ (x : OpenBody). x.end) in
    (own_here c b os depth (k.complete c comes (omega arith) (omega arith))).among

-- the height that is found is the one with which control comes
pub height_found : (code : List Op) (at h : ℕ) (b : OpenBody) (os : List OpenBody) → Knows code at b os → height_at at b.awaited ≡ Some h
    → HasHeight code at b.end (ends_of os) h
height_found code at h b os k e =
    let g = agree at h b.awaited e in
    record {
      comes = subst (λ (n : ℕ). ComesBefore code at (record { place = at; end = b.end; outer = ends_of os; height = n })) g.height
          (comes_within code at b os k g.first g.among g.place);
      alone = λ other comes. g.all (record { place = at; height = other }) (among_here code at other b os k comes) refl;
    }

pub height_is : (code : List Op) (at h : ℕ) (b : OpenBody) (os : List OpenBody) → Knows code at b os → HasHeight code at b.end (ends_of os) h
    → height_at at b.awaited ≡ Some h
height_is code at h b os k has =
    agreed at h b.awaited (record { place = at; height = h }) (among_here code at h b os k has.comes) refl
    (λ a m place. has.alone a.height (comes_within code at b os k a m place))

pub one_found : (code : List Op) (at : ℕ) (b : OpenBody) (os : List OpenBody) → Knows code at b os → has_one at b ≡ true → HasHeight code at b.end (ends_of os) 1
one_found code at b os k one = height_found code at 1 b os k (one_height at b one)

pub one_there : (code : List Op) (at : ℕ) (b : OpenBody) (os : List OpenBody) → Knows code at b os → HasHeight code at b.end (ends_of os) 1 → has_one at b ≡ true
one_there code at b os k has = ap is_one (height_is code at 1 b os k has)
