-- The values of the fields of a name, as a walk over the fields meets them.
use Rattle.std.proofs.Common.{◌≡◌, ℕ, ◌+◌, Bool, true, false, List, [], ◌∷◌, length, map, refl, arith, ap, Some, None, option_map, cond, sym}
use Rattle.std.proofs.lemmas.List.Recursion.{is_count_by}
use Rattle.std.specs.Prelude.{◌&&◌, ◌||◌, find, count_by}
use Rattle.std.specs.List.{list_any}
use Rattle.std.specs.Str.{str_eq_ignore_ascii_case}
use Rattle.std.specs.Str.Parse.{digits_value}
use Rattle.httpmsg.specs.Head.{values, first_of, is_length, is_number, first_number}

module _ {A : Type 0} (name : List ℕ) (g : A → List ℕ × List ℕ) where
  abbrev pub has_name : A → Bool
  has_name x = str_eq_ignore_ascii_case (g x).0 name

  length_step : (x : A) (xs : List A) (t : Bool) → has_name x ≡ t
      → length (values name (map g (x ∷ xs))) ≡ cond t (1 + length (values name (map g xs))) (length (values name (map g xs)))
  length_step x xs true e = rw e (omega arith)
  length_step x xs false e = rw e refl

  -- how many values there are
  pub length_values : (xs : List A) → length (values name (map g xs)) ≡ count_by has_name xs
  length_values xs = is_count_by (λ ys. length (values name (map g ys))) has_name refl (λ y ys. length_step y ys (has_name y) refl) xs

  first_step : (x : A) (xs : List A) (t : Bool) → has_name x ≡ t
      → first_of (values name (map g xs)) ≡ option_map (λ y. (g y).1) (find has_name xs)
      → first_of (values name (map g (x ∷ xs))) ≡ option_map (λ y. (g y).1) (find has_name (x ∷ xs))
  first_step x xs true e here = rw e refl
  first_step x xs false e here = rw e here

  -- the first one
  pub first_value : (xs : List A) → first_of (values name (map g xs)) ≡ option_map (λ y. (g y).1) (find has_name xs)
  first_value [] = refl
  first_value (x ∷ xs) = first_step x xs (has_name x) refl (first_value xs)

  any_step : (p : List ℕ → Bool) (x : A) (xs : List A) (t : Bool) → has_name x ≡ t
      → list_any p (values name (map g xs)) ≡ list_any (λ y. has_name y && p (g y).1) xs
      → list_any p (values name (map g (x ∷ xs))) ≡ list_any (λ y. has_name y && p (g y).1) (x ∷ xs)
  any_step p x xs true e here = rw e (ap (λ t. p (g x).1 || t) here)
  any_step p x xs false e here = rw e here

  -- whether one passes a test
  pub any_value : (p : List ℕ → Bool) (xs : List A)
      → list_any p (values name (map g xs)) ≡ list_any (λ y. has_name y && p (g y).1) xs
  any_value p [] = refl
  any_value p (x ∷ xs) = any_step p x xs (has_name x) refl (any_value p xs)

-- no value: no body
pub no_value : (vs : List (List ℕ)) → length vs ≡ 0 → (is_length vs ≡ true) × (first_number vs ≡ 0)
no_value [] none = (refl, refl)
no_value (v ∷ vs) none = absurd (omega (arith, none))

-- one value is the first
pub one_value : (vs : List (List ℕ)) (v : List ℕ) → length vs ≡ 1 → Some v ≡ first_of vs
    → (is_length vs ≡ is_number v) × (first_number vs ≡ digits_value 10 v)
one_value [] v one first = absurd (omega (arith, one))
one_value (w ∷ []) v one first =
    let same : v ≡ w = cc in (ap is_number (sym same), ap (digits_value 10) (sym same))
one_value (w ∷ x ∷ ws) v one first = absurd (omega (arith, one))

-- one value cannot be missing
pub one_missing : (vs : List (List ℕ)) → length vs ≡ 1 → None ≡ first_of vs → ⊥
one_missing [] one first = omega (arith, one)
one_missing (w ∷ ws) one first = cc

-- more than one value is no length
pub many_values : (vs : List (List ℕ)) → (length vs ≡ 0 → ⊥) → (length vs ≡ 1 → ⊥) → is_length vs ≡ false
many_values [] some more = absurd (some refl)
many_values (v ∷ []) some more = absurd (more (omega arith))
many_values (v ∷ w ∷ vs) some more = refl
