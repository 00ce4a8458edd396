-- Whether the keys of entries in memory ascend, from one to the next.
use Rattle.std.proofs.Common.{arith, ◌≡◌, ◌∙◌, refl, sym, ap, subst, ◌↔◌, ◌<◌, ◌≤◌, ◌+◌, ℕ, true, List, [], ◌∷◌, ◌++◌, length, get_or, take, drop}
use Rattle.std.proofs.lemmas.List.{get_or-map, get_or-take, length-take, take-append-drop}
use Rattle.std.proofs.lemmas.Grind.{take_at_read}
use Rattle.std.specs.FinMap.{is_sorted}
use Rattle.std.specs.declared.alloc.Global.{Global}
use Rattle.std.specs.declared.vec.Vec.{Vec}
use Rattle.std.specs.declared.cmp.Ordering.TheVariants.{Less}
use Rattle.pages.specs.Page.{Entry, bytes_cmp}
use Rattle.checkpoint.specs.EntryList.{listed}
use Rattle.checkpoint.specs.Index.{last_key}
use Rattle.checkpoint.proofs.Order.{sorted_front, sorted_where_met, last_key-at}
use Rattle.checkpoint.proofs.Passing.{listed_length}

abbrev Pair : Type 0
Pair = Vec ℕ Global × Vec ℕ Global

pub ascend_one : (all : List Entry) → is_sorted bytes_cmp (take 1 all) ≡ true
ascend_one [] = refl
ascend_one (entry ∷ all) = refl

-- two entries that stand beside one another
module _ (pairs : List Pair) (i at : ℕ) (x y : Pair) (follows : i + 1 ≡ at) (inside : at < length pairs) (first : x ≡ get_or pairs i x) (second : y ≡ get_or pairs at y)
    (sorted : is_sorted bytes_cmp (take at (listed pairs)) ≡ true) where
  within : at < length (listed pairs)
  within = omega (arith, inside, listed_length pairs)

  entry_at : (j : ℕ) (z : Pair) → j < length pairs → z ≡ get_or pairs j z → get_or (listed pairs) j ([], []) ≡ (z.0.items, z.1.items)
  entry_at j z in_pairs is =
      let entry : Pair → Entry = λ pair. (pair.0.items, pair.1.items) in
      get_or-map entry pairs j z ([], []) in_pairs ∙ ap entry (sym is)

  last_is : last_key (take at (listed pairs)) ≡ x.0.items
  last_is =
      let size : i + 1 ≡ length (take at (listed pairs)) = omega (arith, follows, within, length-take at (listed pairs)) in
      sym (last_key-at (take at (listed pairs)) i ([], []) size)
      ∙ ap (λ (e : Entry). e.0) (get_or-take at (listed pairs) i ([], []) (omega (arith, follows)) ∙ entry_at i x (omega (arith, follows, inside)) first)

  next_is : take (at + 1) (listed pairs) ≡ take at (listed pairs) ++ (y.0.items, y.1.items) ∷ []
  next_is =
      (take_at_read (listed pairs) at ([], []) within).1 ∙ ap (λ (e : Entry). take at (listed pairs) ++ e ∷ []) (entry_at at y inside second)

  met : (bytes_cmp x.0.items y.0.items ≡ Less) ↔ (is_sorted bytes_cmp (take (at + 1) (listed pairs)) ≡ true)
  met =
      let some : 1 ≤ length (take at (listed pairs)) = omega (arith, follows, within, length-take at (listed pairs)) in
      let Meets : List ℕ → List Entry → Type 0 = λ key all. (bytes_cmp key y.0.items ≡ Less) ↔ (is_sorted bytes_cmp all ≡ true) in
      subst (Meets x.0.items) (sym next_is)
      (subst (λ key. Meets key (take at (listed pairs) ++ (y.0.items, y.1.items) ∷ [])) last_is
      (sorted_where_met (take at (listed pairs)) ((y.0.items, y.1.items) ∷ []) sorted refl some (omega arith)))

  pub ascend_more : bytes_cmp x.0.items y.0.items ≡ Less → is_sorted bytes_cmp (take (at + 1) (listed pairs)) ≡ true
  ascend_more less = met.0 less

  pub ascend_all : is_sorted bytes_cmp (listed pairs) ≡ true → bytes_cmp x.0.items y.0.items ≡ Less
  ascend_all all =
      let Sorted : List Entry → Type 0 = λ es. is_sorted bytes_cmp es ≡ true in
      met.1 (sorted_front (take (at + 1) (listed pairs)) (drop (at + 1) (listed pairs))
      (subst Sorted (sym (take-append-drop (at + 1) (listed pairs))) all))
