-- The last items of a list that grows.
use Rattle.std.proofs.Common.{◌≡◌, ℕ, ◌+◌, ◌-◌, List, [], ◌∷◌, ◌++◌, length, drop, sym, ap, ◌∙◌, arith, length-drop, length-append}
use Rattle.std.proofs.lemmas.List.{drop-drop, drop-append-le}
use Rattle.std.specs.Prelude.{Option, None, Some, MatchOption}
use Rattle.circular_buffer.specs.Buffer.{keep_last}

module _ {X : Type 0} where
  -- the last n of a list's last n and some more items are the last n of the list and those items
  pub keep_last-append : (n : ℕ) (xs ys : List X) → keep_last n (keep_last n xs ++ ys) ≡ keep_last n (xs ++ ys)
  keep_last-append n xs ys =
      let m : ℕ = length xs - n in
      let joined : drop m xs ++ ys ≡ drop m (xs ++ ys) = sym (drop-append-le m xs ys (omega arith)) in
      ap (λ zs. drop (length zs - n) zs) joined ∙ drop-drop (length (drop m (xs ++ ys)) - n) m (xs ++ ys)
      ∙ ap (λ k. drop k (xs ++ ys)) (omega (arith, length-drop m (xs ++ ys), length-append xs ys))

  -- what is left after one item more
  pub drop-after_none : (xs : List X) (i : ℕ) → drop i xs ≡ [] → drop (i + 1) xs ≡ []
  drop-after_none xs i h = sym (drop-drop 1 i xs) ∙ ap (drop 1) h

  pub drop-after_some : (xs : List X) (i : ℕ) (x : X) (rest : List X) → drop i xs ≡ x ∷ rest → drop (i + 1) xs ≡ rest
  drop-after_some xs i x rest h = sym (drop-drop 1 i xs) ∙ ap (drop 1) h

  -- one step of an iterator over what is left after the first i items
  pub drop-next : {A : Type 0} (shows : A → X) (xs : List X) (i : ℕ) (s t : List X) (r : Option A) → s ≡ drop i xs
      → MatchOption r ((s ≡ []) × (t ≡ [])) (λ x. s ≡ shows x ∷ t) → t ≡ drop (i + 1) xs
  drop-next shows xs i s t None e h = h.1 ∙ sym (drop-after_none xs i (sym e ∙ h.0))
  drop-next shows xs i s t (Some x) e h = sym (drop-after_some xs i (shows x) t (sym e ∙ h))
