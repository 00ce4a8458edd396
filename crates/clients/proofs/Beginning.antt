-- A list of which each element is the same.
use Rattle.std.proofs.Common.{◌≡◌, refl, ℕ, zero, suc, List, [], ◌∷◌, ◌++◌, get_or, ap, ◌∙◌, ◌+◌, length}
use Rattle.std.proofs.lemmas.List.{length-append}

pub one_more : {A : Type 0} (d : A) (xs : List A) → ((i : ℕ) → get_or xs i d ≡ d) → (i : ℕ) → get_or (xs ++ d ∷ []) i d ≡ d
one_more d [] all zero = refl
one_more d [] all (suc i) = refl
one_more d (x ∷ xs) all zero = all 0
one_more d (x ∷ xs) all (suc i) = one_more d xs (λ j. all (suc j)) i

pub one_longer : {A : Type 0} (d : A) (xs ys : List A) (n : ℕ) → ys ≡ xs ++ d ∷ [] → length xs ≡ n → length ys ≡ n + 1
one_longer d xs ys n is size = ap length is ∙ length-append xs (d ∷ []) ∙ ap (λ k. k + 1) size
