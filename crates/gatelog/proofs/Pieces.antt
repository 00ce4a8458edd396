-- What a piece of a device's content holds.
use Rattle.std.proofs.Common.{rules, arith, ◌≡◌, ◌∙◌, sym, ap, subst, ◌≤◌, ◌+◌, ◌*◌, ◌-◌, ℕ, List, length, take, drop}
use Rattle.std.proofs.lemmas.List.{same_lists, places, drop-drop}

-- a part of the front of a list is one of the list
pub inner-part : (from n m : ℕ) (xs : List ℕ) → from + n ≤ m → take n (drop from (take m xs)) ≡ take n (drop from xs)
inner-part from n m xs inside = same_lists _ _ (search (rules, places)) (λ k d h. grind (arith, places))

-- a part of a piece is one of the content
pub from-piece : (from n m at place : ℕ) (piece content : List ℕ) → from + n ≤ m → at + from ≡ place → take m piece ≡ take m (drop at content)
    → take n (drop from piece) ≡ take n (drop place content)
from-piece from n m at place piece content inside is_place read =
    sym (inner-part from n m piece inside) ∙ ap (λ (x : List ℕ). take n (drop from x)) read ∙ inner-part from n m (drop at content) inside
    ∙ ap (take n) (drop-drop from at content) ∙ ap (λ (p : ℕ). take n (drop p content)) is_place
