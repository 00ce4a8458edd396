-- Rows of parts: what the bytes of a row say of its parts, where bytes that begin with a part begin with no other.
use Rattle.std.proofs.Common.{arith, ◌≡◌, ℕ, ◌<◌, List, [], ◌∷◌, ◌++◌, length, refl, sym, ap, ◌∙◌, append_assoc}
use Rattle.std.proofs.lemmas.Grind.{flat_map-append}
use Rattle.std.proofs.lemmas.List.{append-nil}
use Rattle.std.specs.Prelude.{flat_map}
use Rattle.std.specs.List.{AllByRecursion}

module _ {W : Type 0} (bytes : W → List ℕ) where
  -- a part more has its bytes after the others
  pub bytes-push : (ws : List W) (w : W) → flat_map bytes (ws ++ w ∷ []) ≡ flat_map bytes ws ++ bytes w
  bytes-push ws w = flat_map-append bytes ws (w ∷ []) ∙ ap (λ (x : List ℕ). flat_map bytes ws ++ x) (append-nil (bytes w))

  -- one part more was read
  pub one_more : (ws : List W) (w : W) (rest after whole : List ℕ) → flat_map bytes ws ++ rest ≡ whole → bytes w ++ after ≡ rest → flat_map bytes (ws ++ w ∷ []) ++ after ≡ whole
  one_more ws w rest after whole read front =
      ap (λ (x : List ℕ). x ++ after) (bytes-push ws w) ∙ append_assoc (flat_map bytes ws) (bytes w) after ∙ ap (λ (x : List ℕ). flat_map bytes ws ++ x) front ∙ read

module _ {W : Type 0} (bytes : W → List ℕ) (Fits : W → Type 0)
    (one_front : (v w : W) (x y : List ℕ) → Fits v → Fits w → bytes v ++ x ≡ bytes w ++ y → (v ≡ w) × (x ≡ y)) where
  -- this many parts have their bytes alone
  pub same_rows : (vs ws : List W) → AllByRecursion Fits vs → AllByRecursion Fits ws → length vs ≡ length ws → flat_map bytes vs ≡ flat_map bytes ws → vs ≡ ws
  same_rows [] [] a b sizes same = refl
  same_rows [] (w ∷ ws) a b sizes same = cc
  same_rows (v ∷ vs) [] a b sizes same = cc
  same_rows (v ∷ vs) (w ∷ ws) a b sizes same =
      let first = one_front v w (flat_map bytes vs) (flat_map bytes ws) a.0 b.0 same in
      let fewer : length vs ≡ length ws = cc in
      let others : vs ≡ ws = same_rows vs ws a.1 b.1 fewer first.1 in
      λ i. first.0 i ∷ others i

  -- what stands after the bytes of the first of these parts
  after_first : (v w : W) (vs ws : List W) (rest : List ℕ) → Fits v → Fits w → flat_map bytes (v ∷ vs) ≡ flat_map bytes (w ∷ ws) ++ rest
      → flat_map bytes vs ≡ flat_map bytes ws ++ rest
  after_first v w vs ws rest a b same = (one_front v w (flat_map bytes vs) (flat_map bytes ws ++ rest) a b (same ∙ append_assoc (bytes w) (flat_map bytes ws) rest)).1

  -- no more parts than these have their bytes and the rest, where the rest begins with no part
  pub none_next : (vs ws : List W) (rest : List ℕ) → AllByRecursion Fits vs → AllByRecursion Fits ws → length ws < length vs
      → ((w : W) (after : List ℕ) → Fits w → bytes w ++ after ≡ rest → ⊥) → flat_map bytes vs ≡ flat_map bytes ws ++ rest → ⊥
  none_next [] ws rest a b fewer none same = absurd (omega arith)
  none_next (v ∷ vs) [] rest a b fewer none same = none v (flat_map bytes vs) a.0 same
  none_next (v ∷ vs) (w ∷ ws) rest a b fewer none same = none_next vs ws rest a.1 b.1 (omega arith) none (after_first v w vs ws rest a.0 b.0 same)

  -- as many parts with their bytes and the rest leave no rest
  pub none_after : (vs ws : List W) (rest : List ℕ) → AllByRecursion Fits vs → AllByRecursion Fits ws → length ws ≡ length vs
      → flat_map bytes vs ≡ flat_map bytes ws ++ rest → rest ≡ []
  none_after [] [] rest a b sizes same = sym same
  none_after [] (w ∷ ws) rest a b sizes same = cc
  none_after (v ∷ vs) [] rest a b sizes same = cc
  none_after (v ∷ vs) (w ∷ ws) rest a b sizes same = none_after vs ws rest a.1 b.1 (cc) (after_first v w vs ws rest a.0 b.0 same)
