-- What stands in a tree of the program are values.
use Rattle.std.proofs.Common.{◌≡◌, ℕ, ◌≤◌, List, Result, Ok, Err, OnOk, Global, String, drop, length, string_bytes, sym, subst, rules}
use Rattle.std.proofs.lemmas.List.{drop_all}
use Rattle.std.proofs.lemmas.Str.{IsUtf8-string_bytes}
use Rattle.celtree.specs.declared.tree.Tree as tree
use Rattle.celtree.specs.declared.tree.Tree.{Tree, the_lemmas}
use Rattle.celtree.specs.Tree as expr
use Rattle.celtree.specs.View.{view, views, pair_views}
use Rattle.plan.specs.Values.{HasValues, HaveValues, PairsHaveValues}

view-Text : (s : String Global) → view (tree.Text s) ≡ expr.Text (string_bytes s)
view-Text s = search (rules, the_lemmas)

pub text_has_values : (t : Tree) (s : String Global) → t ≡ tree.Text s → HasValues (view t)
text_has_values t s e = rw (e, view-Text s) (IsUtf8-string_bytes s)

-- none is left
pub no_items_left : (xs : List Tree) (i : ℕ) → length xs ≤ i → HaveValues (views (drop i xs))
no_items_left xs i h = subst (λ (zs : List Tree). HaveValues (views zs)) (sym (drop_all i xs h)) tt

pub no_pairs_left : (xs : List (Tree × Tree)) (i : ℕ) → length xs ≤ i → PairsHaveValues (pair_views (drop i xs))
no_pairs_left xs i h = subst (λ (zs : List (Tree × Tree)). PairsHaveValues (pair_views zs)) (sym (drop_all i xs h)) tt

-- a fact stands, out of memory or not
pub on_ok : {X Y : Type 0} (r : Result X Y) (P : Type 0) → P → OnOk r P
on_ok (Ok x) P p = p
on_ok (Err e) P p = tt
