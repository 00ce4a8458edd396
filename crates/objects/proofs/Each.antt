-- Lists whose members are told apart by what stands for each.
use Rattle.std.proofs.Common.{◌≡◌, refl, List, [], ◌∷◌, map}
use Rattle.std.specs.List.{AllByRecursion}

-- where at most one of these has what stands for it, at most one list of these has what stands for them
pub one_each : {A B : Type 0} (Q : A → Type 0) (f : A → B) → ((x y : A) → Q x → Q y → f x ≡ f y → x ≡ y)
    → (xs ys : List A) → AllByRecursion Q xs → AllByRecursion Q ys → map f xs ≡ map f ys → xs ≡ ys
one_each Q f one [] [] a b same = refl
one_each Q f one [] (y ∷ ys) a b same = cc
one_each Q f one (x ∷ xs) [] a b same = cc
one_each Q f one (x ∷ xs) (y ∷ ys) a b same =
    let first : f x ≡ f y = cc in
    let rest : map f xs ≡ map f ys = cc in
    let here : x ≡ y = one x y a.0 b.0 first in
    let others : xs ≡ ys = one_each Q f one xs ys a.1 b.1 rest in
    λ i. here i ∷ others i
