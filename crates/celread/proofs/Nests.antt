-- The macros in what is left of a list, or of a map: those in the next item, and those in the items after it.
use Rattle.std.proofs.Common.{◌≡◌, ℕ, suc, ◌+◌, ◌<◌, Bool, ◌&&◌, List, ◌∷◌, length, get_or, drop, drop-cons, add-one, sym, ap, ◌∙◌}
use Rattle.celtree.specs.declared.tree.Tree.{Tree}
use Rattle.celtree.specs.Nesting.{nests_within, all_within, pairs_within}
use Rattle.celtree.specs.View.{view, views, pair_views}

-- what is left after an item, before that item: `xs` is the list as it was read, `ys` the same list as it was handed over
after : {X : Type 0} (xs ys : List X) (i : ℕ) (x : X) → xs ≡ ys → i < length xs → x ≡ get_or xs i x → x ∷ drop (i + 1) ys ≡ drop i ys
after xs ys i x same inside is = rw (← same, add-one) (ap (λ y. y ∷ drop (suc i) xs) is ∙ sym (drop-cons xs i x inside))

pub next_item : (xs ys : List Tree) (i : ℕ) (t : Tree) (n : ℕ) (all : Bool) → xs ≡ ys → i < length xs → t ≡ get_or xs i t → all_within (views (drop i ys)) n ≡ all
    → nests_within (view t) n && all_within (views (drop (i + 1) ys)) n ≡ all
next_item xs ys i t n all same inside is left = ap (λ ts. all_within (views ts) n) (after xs ys i t same inside is) ∙ left

pub next_entry : (xs ys : List (Tree × Tree)) (i : ℕ) (p : Tree × Tree) (n : ℕ) (all : Bool) → xs ≡ ys → i < length xs → p ≡ get_or xs i p → pairs_within (pair_views (drop i ys)) n ≡ all
    → (nests_within (view p.0) n && nests_within (view p.1) n) && pairs_within (pair_views (drop (i + 1) ys)) n ≡ all
next_entry xs ys i p n all same inside is left = ap (λ ps. pairs_within (pair_views ps) n) (after xs ys i p same inside is) ∙ left
