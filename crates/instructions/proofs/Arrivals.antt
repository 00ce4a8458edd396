-- Lists of arrivals, and the height at a place.
use Rattle.std.proofs.Common.{◌≡◌, inl, inr, ℕ, zero, suc, ◌<◌, Bool, true, false, not, cond, ◌&&◌, ◌||◌, ◌==◌, eq-eqb, List, [], ◌∷◌, ◌++◌, map, take, Option, Some, None, Result, Ok, Err, refl, sym, ap, ◌∙◌, arith}
use Rattle.std.specs.Prelude.{slice_get}
use Rattle.std.specs.List.{find, list_all, filter}
use Rattle.std.proofs.lemmas.Bool.{eqb-true}
use Rattle.std.proofs.lemmas.Option.{cond_some, same_Some}
use Rattle.instructions.specs.declared.fault.CodeFault.{CodeFault}
use Rattle.instructions.specs.Faults.{◌>>=◌}
use Rattle.instructions.specs.Judging.{Arrival, height_at, height_of_first, comes_to}
use Rattle.instructions.specs.WellFormed.{Among}

pub among_left : {X : Type 0} (x : X) (xs ys : List X) → Among x xs → Among x (xs ++ ys)
among_left x [] ys m = absurd m
among_left x (y ∷ xs) ys (inl e) = inl e
among_left x (y ∷ xs) ys (inr m) = inr (among_left x xs ys m)

pub among_right : {X : Type 0} (x : X) (xs ys : List X) → Among x ys → Among x (xs ++ ys)
among_right x [] ys m = m
among_right x (y ∷ xs) ys m = inr (among_right x xs ys m)

pub among_either : {X P : Type 0} (x : X) (xs ys : List X) → Among x (xs ++ ys) → (Among x xs → P) → (Among x ys → P) → P
among_either x [] ys m l r = r m
among_either x (y ∷ xs) ys (inl e) l r = l (inl e)
among_either x (y ∷ xs) ys (inr m) l r = among_either x xs ys m (λ n. l (inr n)) r

pub among_map : {X Y P : Type 0} (f : X → Y) (y : Y) (xs : List X) → Among y (map f xs) → ((x : X) → Among x xs → f x ≡ y → P) → P
among_map f y [] m k = absurd m
among_map f y (x ∷ xs) (inl e) k = k x (inl refl) e
among_map f y (x ∷ xs) (inr m) k = among_map f y xs m (λ z n e. k z (inr n) e)

pub mapped : {X Y : Type 0} (f : X → Y) (x : X) (xs : List X) → Among x xs → Among (f x) (map f xs)
mapped f x [] m = absurd m
mapped f x (y ∷ xs) (inl e) = inl (ap f e)
mapped f x (y ∷ xs) (inr m) = inr (mapped f x xs m)

pub filtered : {X : Type 0} (p : X → Bool) (x : X) (xs : List X) → p x ≡ true → Among x xs → Among x (filter p xs)
filtered p x [] t m = absurd m
filtered p x (y ∷ xs) t (inl e) = let q : p y ≡ true = ap p e ∙ t in rw q (inl e)
filtered p x (y ∷ xs) t (inr m) = elim (p y) as (λ b. Among x (cond b (y ∷ filter p xs) (filter p xs))) [ true ↦ inr (filtered p x xs t m) | false ↦ filtered p x xs t m ]

filter_cons : {X : Type 0} (b : Bool) (p : X → Bool) (x y : X) (xs fs : List X) → p y ≡ b → (Among x fs → Among x xs × (p x ≡ true)) → Among x (cond b (y ∷ fs) fs) → Among x (y ∷ xs) × (p x ≡ true)
filter_cons true p x y xs fs is more (inl e) = (inl e, sym (ap p e) ∙ is)
filter_cons true p x y xs fs is more (inr m) = let r = more m in (inr r.0, r.1)
filter_cons false p x y xs fs is more m = let r = more m in (inr r.0, r.1)

pub among_filter : {X : Type 0} (p : X → Bool) (x : X) (xs : List X) → Among x (filter p xs) → Among x xs × (p x ≡ true)
among_filter p x [] m = absurd m
among_filter p x (y ∷ xs) m = filter_cons (p y) p x y xs (filter p xs) refl (among_filter p x xs) m

pub and_left : (b c : Bool) → (b && c) ≡ true → b ≡ true
and_left true c e = refl
and_left false c e = absurd cc

pub and_right : (b c : Bool) → (b && c) ≡ true → c ≡ true
and_right true c e = e
and_right false c e = absurd cc

pub not_true : (b : Bool) → not b ≡ true → b ≡ false
not_true true e = absurd cc
not_true false e = refl

or_right : (b c : Bool) → b ≡ true → (not b || c) ≡ true → c ≡ true
or_right true c e h = h
or_right false c e h = absurd cc

pub all_among : {X : Type 0} (p : X → Bool) (x : X) (xs : List X) → list_all p xs ≡ true → Among x xs → p x ≡ true
all_among p x [] all m = absurd m
all_among p x (y ∷ xs) all (inl e) = sym (ap p e) ∙ and_left (p y) (list_all p xs) all
all_among p x (y ∷ xs) all (inr m) = all_among p x xs (and_right (p y) (list_all p xs) all) m

pub all_taken : {X : Type 0} (p : X → Bool) (n i : ℕ) (x : X) (xs : List X) → list_all p (take n xs) ≡ true → i < n → slice_get xs i ≡ Some x → p x ≡ true
all_taken p n i x [] all lt e = absurd cc
all_taken p zero i x (y ∷ xs) all lt e = absurd (omega arith)
all_taken p (suc n) zero x (y ∷ xs) all lt e = sym (ap p (same_Some y x e)) ∙ and_left (p y) (list_all p (take n xs)) all
all_taken p (suc n) (suc i) x (y ∷ xs) all lt e = all_taken p n i x xs (and_right (p y) (list_all p (take n xs)) all) (omega arith) e

find_cons : {X : Type 0} (b : Bool) (p : X → Bool) (x y : X) (xs : List X) (rest : Option X) → p y ≡ b → (rest ≡ Some x → Among x xs × (p x ≡ true)) → cond b (Some y) rest ≡ Some x → Among x (y ∷ xs) × (p x ≡ true)
find_cons true p x y xs rest is more e = let k : y ≡ x = same_Some y x e in (inl k, sym (ap p k) ∙ is)
find_cons false p x y xs rest is more e = let r = more e in (inr r.0, r.1)

pub found : {X : Type 0} (p : X → Bool) (x : X) (xs : List X) → find p xs ≡ Some x → Among x xs × (p x ≡ true)
found p x [] e = absurd cc
found p x (y ∷ xs) e = find_cons (p y) p x y xs (find p xs) refl (found p x xs) e

-- what the height at a place says
pub record Agree (at h : ℕ) (awaited : List Arrival) : Type 0 where
  pub first : Arrival
  pub among : Among first awaited
  pub place : first.place ≡ at
  pub height : first.height ≡ h
  pub all : (a : Arrival) → Among a awaited → a.place ≡ at → a.height ≡ h

agree_first : (at h : ℕ) (awaited : List Arrival) (o : Option Arrival) → find (comes_to at) awaited ≡ o → height_of_first at awaited o ≡ Some h → Agree at h awaited
agree_first at h awaited None is e = absurd cc
agree_first at h awaited (Some first) is e =
    let c = cond_some (list_all (λ a. not (comes_to at a) || (a.height == first.height)) awaited) first.height h e in
    let f = found (comes_to at) first awaited is in
    record {
      first = first;
      among = f.0;
      place = eqb-true _ _ f.1;
      height = c.1;
      all = λ a m p. eqb-true _ _ (or_right (comes_to at a) (a.height == first.height) (eq-eqb _ _ p) (all_among (λ a. not (comes_to at a) || (a.height == first.height)) a awaited c.0 m)) ∙ c.1;
    }

pub agree : (at h : ℕ) (awaited : List Arrival) → height_at at awaited ≡ Some h → Agree at h awaited
agree at h awaited e = agree_first at h awaited (find (comes_to at) awaited) refl e

-- ---- steps that did not fail

pub bind_ok : {A B : Type 0} (r : Result A CodeFault) (f : A → Result B CodeFault) (y : B) → (r >>= f) ≡ Ok y → (x : A) × (r ≡ Ok x) × (f x ≡ Ok y)
bind_ok (Ok x) f y e = (x, refl, e)
bind_ok (Err d) f y e = absurd cc

pub chosen : {A : Type 0} (b : Bool) (f : CodeFault) (r : Result A CodeFault) (y : A) → cond b (Err f) r ≡ Ok y → (b ≡ false) × (r ≡ Ok y)
chosen true f r y e = absurd cc
chosen false f r y e = (refl, e)

pub not_false : (b : Bool) → not b ≡ false → b ≡ true
not_false true e = refl
not_false false e = absurd cc

abbrev done : {A : Type 0} → A → Result A CodeFault
done x = Ok x

pub ok_is : {A : Type 0} (x y : A) → done x ≡ done y → x ≡ y
ok_is x y e = cc
