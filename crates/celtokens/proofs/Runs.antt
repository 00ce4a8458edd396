-- Where a run of one kind ends.
use Rattle.std.proofs.Common.{◌≡◌, ℕ, zero, suc, ◌<◌, ◌≤◌, Bool, true, false, cond, ◌⊎◌, inl, inr, List, [], ◌∷◌, length, get_or, take, drop, refl, ap, arith}
use Rattle.std.specs.Prelude.{nat_lt}
use Rattle.std.specs.Char.{digit_value}
use Rattle.celtree.specs.Digits.{all_digits}
use Rattle.celtokens.specs.declared.run.Kind.{Kind}
use Rattle.celtokens.specs.Run.{is_in, Run, stop, more, front, beyond}

module _ (k : Kind) where
  -- the first i characters are of the kind, and the next is not
  pub front_take : (cs : List ℕ) (i : ℕ) → i ≤ length cs → ((j : ℕ) → j < i → is_in k (get_or cs j 0) ≡ true) → (i < length cs → is_in k (get_or cs i 0) ≡ false) → front k cs ≡ take i cs
  front_take [] zero le below here = refl
  front_take [] (suc i) le below here = absurd (omega arith)
  front_take (c ∷ cs) zero le below here = let out : is_in k c ≡ false = here (omega arith) in rw out
  front_take (c ∷ cs) (suc i) le below here =
      let first : is_in k c ≡ true = below 0 (omega arith) in
      let rest : front k cs ≡ take i cs = front_take cs i (omega arith) (λ j h. below (suc j) (omega arith)) (λ h. here (omega arith)) in
      rw first (ap (λ l. c ∷ l) rest)

  pub beyond_drop : (cs : List ℕ) (i : ℕ) → i ≤ length cs → ((j : ℕ) → j < i → is_in k (get_or cs j 0) ≡ true) → (i < length cs → is_in k (get_or cs i 0) ≡ false) → beyond k cs ≡ drop i cs
  beyond_drop [] zero le below here = refl
  beyond_drop [] (suc i) le below here = absurd (omega arith)
  beyond_drop (c ∷ cs) zero le below here = let out : is_in k c ≡ false = here (omega arith) in rw out
  beyond_drop (c ∷ cs) (suc i) le below here =
      let first : is_in k c ≡ true = below 0 (omega arith) in
      rw first (beyond_drop cs i (omega arith) (λ j h. below (suc j) (omega arith)) (λ h. here (omega arith)))

-- the first character is of the kind
abbrev pub Continues : Kind → List ℕ → Type 0
Continues k [] = ⊥
Continues k (c ∷ i) = is_in k c ≡ true

module _ (k : Kind) where
  run_is_step : (c : ℕ) (i : List ℕ) (b : Bool) → is_in k c ≡ b → Run k i (front k i) (beyond k i) → Run k (c ∷ i) (cond b (c ∷ front k i) []) (cond b (beyond k i) (c ∷ i))
  run_is_step c i true e run = more e run
  run_is_step c i false e run = stop

  -- the characters at the front are a run
  pub run_is : (i : List ℕ) → Run k i (front k i) (beyond k i)
  run_is [] = stop
  run_is (c ∷ i) = run_is_step c i (is_in k c) refl (run_is i)

  beyond_le_step : (c : ℕ) (i : List ℕ) (b : Bool) → length (beyond k i) ≤ length i → length (cond b (beyond k i) (c ∷ i)) ≤ suc (length i)
  beyond_le_step c i true h = omega arith
  beyond_le_step c i false h = omega arith

  pub beyond_le : (i : List ℕ) → length (beyond k i) ≤ length i
  beyond_le [] = omega arith
  beyond_le (c ∷ i) = beyond_le_step c i (is_in k c) (beyond_le i)

  stop_shorter : (c : ℕ) (i : List ℕ) (b : Bool) → is_in k c ≡ b → ((length (cond b (beyond k i) (c ∷ i)) < suc (length i)) × Continues k (c ∷ i)) ⊎ (([] ≡ cond b (c ∷ front k i) []) × (c ∷ i ≡ cond b (beyond k i) (c ∷ i)))
  stop_shorter c i true e = let le : length (beyond k i) ≤ length i = beyond_le i in inl (omega arith, e)
  stop_shorter c i false e = inr (refl, refl)

  -- a run is the longest one, or is shorter and could go on
  pub run_shorter : {i cs r : List ℕ} → Run k i cs r → ((length (beyond k i) < length r) × Continues k r) ⊎ ((cs ≡ front k i) × (r ≡ beyond k i))
  run_shorter (stop {r = []}) = inr (refl, refl)
  run_shorter (stop {r = c ∷ i}) = stop_shorter c i (is_in k c) refl
  run_shorter (more {c = c} {i = i} {cs = cs} {r = r} e run) =
      rw e (elim (run_shorter run) [ inl w ↦ inl w | inr w ↦ inr (ap (λ l. c ∷ l) w.0, w.1) ])

  all_digits_front_step : (base c : ℕ) (i : List ℕ) (b : Bool) → is_in k c ≡ b → ((c : ℕ) → is_in k c ≡ true → nat_lt (digit_value c) base ≡ true) → all_digits base (front k i) ≡ true → all_digits base (cond b (c ∷ front k i) []) ≡ true
  all_digits_front_step base c i true e in_base rest = rw (in_base c e) rest
  all_digits_front_step base c i false e in_base rest = refl

  -- characters of a kind that are digits in the base
  pub all_digits_front : (base : ℕ) → ((c : ℕ) → is_in k c ≡ true → nat_lt (digit_value c) base ≡ true) → (i : List ℕ) → all_digits base (front k i) ≡ true
  all_digits_front base in_base [] = refl
  all_digits_front base in_base (c ∷ i) = all_digits_front_step base c i (is_in k c) refl in_base (all_digits_front base in_base i)
