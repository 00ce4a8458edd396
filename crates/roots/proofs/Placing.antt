-- Where a generation is placed.
use Rattle.std.proofs.Common.{arith, ◌≤◌, ◌+◌, ◌*◌, ◌⊎◌, inl, inr, ⊎_elim, ℕ}
use Rattle.std.proofs.lemmas.Bool.{cases_lt}
use Rattle.roots.specs.Install.{IsPlace}

-- among the data
pub place-in_data : (start last pages place : ℕ) → 8 ≤ last → IsPlace start last pages place → 8 ≤ place
place-in_data start last pages place low is = ⊎_elim
    (λ less. let here = is.behind less in omega (arith, here, low))
    (λ more. let here = is.front more in omega (arith, here))
    (cases_lt start (8 + 64 * pages + 1))

-- inside of a device that reaches to the end of the log in use
pub place-inside : (start last pages place n : ℕ) → 8 ≤ last → 512 * last + 512 ≤ n → IsPlace start last pages place → 512 * place ≤ n
place-inside start last pages place n low reaches is = ⊎_elim
    (λ less. let here = is.behind less in omega (arith, here, reaches))
    (λ more. let here = is.front more in omega (arith, here, low, reaches))
    (cases_lt start (8 + 64 * pages + 1))

-- off the generation in use
pub place-off : (start last pages place : ℕ) → IsPlace start last pages place → (place + 64 * pages + 1 ≤ start) ⊎ (last + 1 ≤ place)
place-off start last pages place is = ⊎_elim
    (λ less. let here = is.behind less in inr (omega (arith, here)))
    (λ more. let here = is.front more in inl (omega (arith, here, more)))
    (cases_lt start (8 + 64 * pages + 1))
