-- A well-formed plan has no fault: the pass has not stopped up to any place.
use Rattle.std.proofs.Common.{◌≡◌, inl, inr, ℕ, zero, suc, ◌<◌, Bool, true, false, not, cond, ◌&&◌, ◌||◌, ◌==◌, eq-eqb, List, [], ◌∷◌, take, Option, Some, refl, sym, ap, ◌∙◌, arith}
use Rattle.std.specs.Prelude.{slice_get}
use Rattle.std.specs.List.{find, list_all}
use Rattle.std.proofs.lemmas.Bool.{eqb-true}
use Rattle.instructions.specs.Judging.{Arrival, height_at, height_of_first, comes_to}
use Rattle.instructions.specs.WellFormed.{Among}

-- ---- tests that pass

pub and_true : (b c : Bool) → b ≡ true → c ≡ true → (b && c) ≡ true
and_true b c p q = rw (p, q) refl

pub all_from : {X : Type 0} (p : X → Bool) (xs : List X) → ((x : X) → Among x xs → p x ≡ true) → list_all p xs ≡ true
all_from p [] each = refl
all_from p (x ∷ xs) each = and_true (p x) (list_all p xs) (each x (inl refl)) (all_from p xs (λ y m. each y (inr m)))

pub all_taken_from : {X : Type 0} (p : X → Bool) (n : ℕ) (xs : List X) → ((i : ℕ) (x : X) → i < n → slice_get xs i ≡ Some x → p x ≡ true) → list_all p (take n xs) ≡ true
all_taken_from p zero xs each = refl
all_taken_from p (suc n) [] each = refl
all_taken_from p (suc n) (x ∷ xs) each = and_true (p x) (list_all p (take n xs)) (each zero x (omega arith) refl) (all_taken_from p n xs (λ i y lt is. each (suc i) y (omega arith) is))

find_at : (b : Bool) (p : Arrival → Bool) (a x : Arrival) (xs : List Arrival) → p x ≡ b → (Among a xs → (first : Arrival) × (find p xs ≡ Some first) × Among first xs × (p first ≡ true)) → Among a (x ∷ xs) → p a ≡ true → (first : Arrival) × (cond b (Some x) (find p xs) ≡ Some first) × Among first (x ∷ xs) × (p first ≡ true)
find_at true p a x xs is more m t = (x, refl, inl refl, is)
find_at false p a x xs is more (inl e) t = (let k : p x ≡ true = ap p e ∙ t in absurd cc)
find_at false p a x xs is more (inr m) t = let r = more m in (r.0, r.1, inr r.2, r.3)

find_some : (p : Arrival → Bool) (a : Arrival) (xs : List Arrival) → p a ≡ true → Among a xs → (first : Arrival) × (find p xs ≡ Some first) × Among first xs × (p first ≡ true)
find_some p a [] t m = absurd m
find_some p a (x ∷ xs) t m = find_at (p x) p a x xs refl (find_some p a xs t) m t

or_true : (b c : Bool) → (b ≡ true → c ≡ true) → (not b || c) ≡ true
or_true true c f = f refl
or_true false c f = refl

height_first : (at h : ℕ) (awaited : List Arrival) (first : Arrival) (o : Option Arrival) → o ≡ Some first → first.height ≡ h → list_all (λ a. not (comes_to at a) || (a.height == first.height)) awaited ≡ true → height_of_first at awaited o ≡ Some h
height_first at h awaited first o is same all = ap (height_of_first at awaited) is ∙ rw all (ap (λ (k : ℕ). Some k) same)

-- all that come to a place come with one height
pub agreed : (at h : ℕ) (awaited : List Arrival) (a : Arrival) → Among a awaited → a.place ≡ at → ((b : Arrival) → Among b awaited → b.place ≡ at → b.height ≡ h) → height_at at awaited ≡ Some h
agreed at h awaited a m place each =
    let f = find_some (comes_to at) a awaited (eq-eqb _ _ place) m in
    let first : f.0.height ≡ h = each f.0 f.2 (eqb-true _ _ f.3) in
    height_first at h awaited f.0 (find (comes_to at) awaited) f.1 first
    (all_from (λ b. not (comes_to at b) || (b.height == f.0.height)) awaited
    (λ b k. or_true (comes_to at b) (b.height == f.0.height) (λ t. eq-eqb _ _ (each b k (eqb-true _ _ t) ∙ sym first))))
