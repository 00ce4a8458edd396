-- The items that a filter keeps, one by one.
use Rattle.std.proofs.Common.{◌≡◌, ℕ, zero, suc, ◌<◌, ◌≤◌, min, Bool, true, false, cond, List, [], ◌∷◌, ◌++◌, length, drop, get_or, refl, arith}
use Rattle.celmean.specs.Value as seen
use Rattle.celmean.specs.Macros.{is_true, kept}
use Rattle.celmean.specs.Seen.{value_of, values_seen, outcome_of, outcomes_seen}
use Rattle.celmean.specs.declared.value.Value.{Value}
use Rattle.celmean.specs.declared.value.Outcome.{Outcome}

one_more : (b : Bool) (v : seen.Value) (rest : List seen.Value) → cond b (v ∷ rest) rest ≡ cond b (v ∷ []) [] ++ rest
one_more true v rest = refl
one_more false v rest = refl

pub kept-step : (n : ℕ) (vs : List Value) (os : List Outcome) (v : Value) (o : Outcome) → n < length vs → n < length os → v ≡ get_or vs n v → o ≡ get_or os n o
    → kept (values_seen (drop n vs)) (outcomes_seen (drop n os)) ≡ cond (is_true (outcome_of o)) (value_of v ∷ []) [] ++ kept (values_seen (drop (suc n) vs)) (outcomes_seen (drop (suc n) os))
kept-step n [] os v o in_items in_outcomes item outcome = absurd (omega arith)
kept-step n (w ∷ vs) [] v o in_items in_outcomes item outcome = absurd (omega arith)
kept-step zero (w ∷ vs) (p ∷ os) v o in_items in_outcomes item outcome = rw (item, outcome) (one_more (is_true (outcome_of p)) (value_of w) (kept (values_seen vs) (outcomes_seen os)))
kept-step (suc n) (w ∷ vs) (p ∷ os) v o in_items in_outcomes item outcome = kept-step n vs os v o (omega arith) (omega arith) item outcome

kept-nil : (vs : List seen.Value) → kept vs [] ≡ []
kept-nil [] = refl
kept-nil (v ∷ vs) = refl

pub kept-end : (n : ℕ) (vs : List Value) (os : List Outcome) → min (length vs) (length os) ≤ n → kept (values_seen (drop n vs)) (outcomes_seen (drop n os)) ≡ []
kept-end zero [] os short = refl
kept-end zero (v ∷ vs) [] short = refl
kept-end zero (v ∷ vs) (o ∷ os) short = absurd (omega arith)
kept-end (suc n) [] os short = refl
kept-end (suc n) (v ∷ vs) [] short = kept-nil (values_seen (drop n vs))
kept-end (suc n) (v ∷ vs) (o ∷ os) short = kept-end n vs os (omega arith)
