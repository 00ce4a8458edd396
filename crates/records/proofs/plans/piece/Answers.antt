use Rattle.std.proofs.Common.{arith, ◌≡◌, ◌∙◌, sym, ap, ⊎_elim, ◌*◌, ◌-◌, min, ℕ, List, length, take, drop}
use Rattle.std.proofs.lemmas.Bool.{cases_lt}
use Rattle.std.proofs.lemmas.List.{take_all, take_rest}
use Rattle.records.proofs.plans.piece.Goals as goal

cut : (n m : ℕ) (xs : List ℕ) → m ≡ min (length xs) n → take m xs ≡ take n xs
cut n m xs is =
    ⊎_elim (λ long. let same : m ≡ n = omega arith in ap (λ k. take k xs) same)
    (λ short. take_all m xs (omega arith) ∙ sym (take_all n xs short)) (cases_lt n (length xs))

pub returns : goal.returns
returns c =
    let xs = c.args.plans.now in
    let from : ℕ = 16384 * c.args.number in
    let rest : take (length xs - from) (drop from xs) ≡ drop from xs = take_rest xs from in
    ap (take c.min.result) rest ∙ cut 16384 c.min.result (drop from xs) (omega (arith, c.min.ensures, ap length rest))
