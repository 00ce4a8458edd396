-- Lists, item by item.
use Rattle.std.proofs.Common.{◌≡◌, ◌<◌, ℕ, ◌+◌, suc, length, get_or, drop, add-one, List, ◌∷◌, sym, ap, ◌∙◌}
use Rattle.std.proofs.Math.Seq.{drop-cons}

-- what is left at an index: the item there, and what is left after it
pub drop-next : {X : Type 0} (xs : List X) (i : ℕ) (x d : X) → i < length xs → x ≡ get_or xs i d → drop i xs ≡ x ∷ drop (i + 1) xs
drop-next xs i x d inside is =
    drop-cons xs i d inside ∙ ap (λ y. y ∷ drop (suc i) xs) (sym is) ∙ ap (λ n. x ∷ drop n xs) (sym (add-one i))
