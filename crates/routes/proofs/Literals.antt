-- A router whose routes have no parameters finds a path where a table of them does.
use Rattle.std.proofs.Common.{◌≡◌, ℕ, zero, suc, ◌-◌, List, [], ◌∷◌, length, Option, Some, None, Bool, true, false, cond, refl, ap, ◌∙◌, ◌==◌, ◌&&◌, ltb, arith}
use Rattle.std.proofs.lemmas.Bool.Decides.{nat_tests}
use Rattle.matchit.specs.Rows.{RowsOf, param_token, catch_all_token}
use Rattle.matchit.specs.Seek.{same_text, own, step, or_else, seek, first, param_step, has_slash}
use Rattle.matchit.specs.Order.{lookup}

-- each token is a byte
abbrev pub is_literal : List ℕ → Bool
is_literal [] = true
is_literal (token ∷ rest) = ltb token 256 && is_literal rest

module _ {K : Type 0} where
  abbrev pub are_literal : RowsOf K → Bool
  are_literal [] = true
  are_literal ((pattern, key) ∷ rest) = is_literal pattern && are_literal rest

  -- no row goes on with a parameter or a catch-all
  step-token : (token : ℕ) (rows : RowsOf K) → ltb token 256 ≡ false → are_literal rows ≡ true → step token rows ≡ []
  step-token token [] above are = refl
  step-token token (([], key) ∷ rest) above are = step-token token rest above are
  step-token token ((x ∷ pattern, key) ∷ rest) above are =
      let other : (x == token) ≡ false = grind (arith, nat_tests) in
      let rest_are : are_literal rest ≡ true = grind arith in
      rw other (step-token token rest above rest_are)

  -- what is left of literal rows is literal
  step-literal : (byte : ℕ) (rows : RowsOf K) → are_literal rows ≡ true → are_literal (step byte rows) ≡ true
  step-literal byte [] are = refl
  step-literal byte (([], key) ∷ rest) are = step-literal byte rest are
  step-literal byte ((x ∷ pattern, key) ∷ rest) are =
      let rest_are : are_literal rest ≡ true = grind arith in
      let pattern_is : is_literal pattern ≡ true = grind arith in
      let left = step-literal byte rest rest_are in
      elim (x == byte) as (λ v. are_literal (cond v ((pattern, key) ∷ step byte rest) (step byte rest)) ≡ true) [
        | true ↦ rw (pattern_is, left) refl
        | false ↦ left
      ]

  own-lookup : (rows : RowsOf K) → own rows ≡ lookup [] rows
  own-lookup [] = refl
  own-lookup (([], key) ∷ rest) = refl
  own-lookup ((x ∷ pattern, key) ∷ rest) = own-lookup rest

  step-lookup : (byte : ℕ) (path : List ℕ) (rows : RowsOf K) → lookup path (step byte rows) ≡ lookup (byte ∷ path) rows
  step-lookup byte path [] = refl
  step-lookup byte path (([], key) ∷ rest) = step-lookup byte path rest
  step-lookup byte path ((x ∷ pattern, key) ∷ rest) =
      let later = step-lookup byte path rest in
      elim (x == byte) as (λ v. lookup path (cond v ((pattern, key) ∷ step byte rest) (step byte rest)) ≡ cond (v && same_text pattern path) (Some key) (lookup (byte ∷ path) rest)) [
        | true ↦ ap (λ other. cond (same_text pattern path) (Some key) other) later
        | false ↦ later
      ]

  or_else-none : (found : Option K) → or_else found None ≡ found
  or_else-none None = refl
  or_else-none (Some key) = refl

  param_step-none : (path : List ℕ) → (param_step {K = K} [] path).1 ≡ []
  unfolding param_step
  param_step-none path =
      elim (has_slash path) as (λ v. (cond {A = ℕ × RowsOf K} v (0, []) (length path, [])).1 ≡ []) [
        | true ↦ refl
        | false ↦ refl
      ]

  seek-none : (skip : ℕ) (path : List ℕ) → seek {K = K} skip [] path ≡ None
  unfolding seek
  seek-none skip [] = refl
  seek-none (suc skip) (byte ∷ path) = seek-none skip path
  seek-none zero (byte ∷ path) = simp (seek-none 0 path, param_step-none (byte ∷ path), seek-none (((param_step {K = K} [] (byte ∷ path)).0) - 1) path)

  -- literal rows are a table
  pub first-lookup : (path : List ℕ) (rows : RowsOf K) → are_literal rows ≡ true → first rows path ≡ lookup path rows
  unfolding seek
  first-lookup [] rows are = own-lookup rows
  first-lookup (byte ∷ path) rows are =
      let no_param : step param_token rows ≡ [] = step-token param_token rows refl are in
      let no_rest : step catch_all_token rows ≡ [] = step-token catch_all_token rows refl are in
      let goes_on = first-lookup path (step byte rows) (step-literal byte rows are) in
      let before : first rows (byte ∷ path) ≡ first (step byte rows) path =
      simp (no_param, no_rest, param_step-none (byte ∷ path), seek-none ((param_step {K = K} [] (byte ∷ path)).0 - 1) path, or_else-none)
      in before ∙ goes_on ∙ step-lookup byte path rows
