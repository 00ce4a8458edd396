-- How many bytes were counted.
use Rattle.std.specs.Prelude.{◌≡◌, ℕ, ◌+◌, ◌-◌, ◌^◌, List, [], ◌∷◌, ◌++◌, min}
use Rattle.std.proofs.Common.{refl, sym, ap, ◌∙◌}

-- a count, and these bytes more: 2^64 - 1 at most
abbrev pub counted : ℕ → List ℕ → ℕ
counted n [] = n
counted n (b ∷ bytes) = counted (min (n + 1) (2 ^ 64 - 1)) bytes

counted-append : (n : ℕ) (front back : List ℕ) → counted n (front ++ back) ≡ counted (counted n front) back
counted-append n [] back = refl
counted-append n (b ∷ front) back = counted-append (min (n + 1) (2 ^ 64 - 1)) front back

pub counts_none : (n : ℕ) → n ≡ counted n []
counts_none n = refl

pub counts_then : (a b c : ℕ) (front back : List ℕ) → b ≡ counted a front → c ≡ counted b back → c ≡ counted a (front ++ back)
counts_then a b c front back first second = second ∙ ap (λ n. counted n back) first ∙ sym (counted-append a front back)
