-- Parts of texts and lists.
use Rattle.std.proofs.Common.{◌≡◌, ℕ, zero, suc, ◌≤◌, List, [], ◌∷◌, ◌++◌, length, take, map, refl, ap, append_assoc}
use Rattle.std.proofs.lemmas.List.{take_all}
use Rattle.std.specs.List.{flat_map}

pub all_taken : {A : Type 0} (n : ℕ) (xs : List A) → length xs ≤ n → take n xs ≡ xs
all_taken n xs h = take_all n xs h

map-take : {A B : Type 0} (f : A → B) (n : ℕ) (xs : List A) → map f (take n xs) ≡ take n (map f xs)
map-take f zero xs = refl
map-take f (suc n) [] = refl
map-take f (suc n) (x ∷ xs) = ap (λ ys. f x ∷ ys) (map-take f n xs)

pub taken_first : {A B C : Type 0} (g : B → List C) (f : A → B) (n : ℕ) (xs : List A) → flat_map g (map f (take n xs)) ≡ flat_map g (take n (map f xs))
taken_first g f n xs = ap (λ ys. flat_map g ys) (map-take f n xs)

-- a text that names a policy and a binding, and what stands after it
pub named_parts : (a policy b binding c rest : List ℕ) → a ++ (policy ++ (b ++ (binding ++ (c ++ rest)))) ≡ (a ++ (policy ++ (b ++ (binding ++ c)))) ++ rest
named_parts a policy b binding c rest = simp append_assoc
