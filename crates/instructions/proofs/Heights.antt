-- What arrivals tell of a place, and what a table holds of it.
use Rattle.std.proofs.Common.{◌≡◌, ℕ, ◌<◌, Bool, true, false, not, cond, ◌&&◌, ◌||◌, ◌==◌, List, [], ◌∷◌, ◌++◌, Option, Some, None, refl, sym, ap, ◌∙◌, arith, eqb-true, eq-eqb}
use Rattle.std.specs.List.{find, list_all, filter}
use Rattle.instructions.specs.Judging.{Arrival, height_at, height_of_first, comes_to}
use Rattle.instructions.specs.declared.bodies.Height.{Height}
use Rattle.instructions.specs.declared.bodies.Height.TheVariants as height
use Rattle.instructions.specs.Bodies.{joined, one_height, told, all_told}

-- two heights stay two
told_mixed : (place : ℕ) (came : List Arrival) → all_told place height.Mixed came ≡ height.Mixed
told_mixed place [] = refl
told_mixed place (a ∷ came) = elim (comes_to place a) as (λ b. all_told place (cond b height.Mixed height.Mixed) came ≡ height.Mixed) [ true ↦ told_mixed place came | false ↦ told_mixed place came ]

abbrev has_height : ℕ → ℕ → Arrival → Bool
has_height place h a = not (comes_to place a) || (a.height == h)

told_always : (place h : ℕ) (came : List Arrival) → all_told place (height.Always h) came ≡ cond (list_all (has_height place h) came) (height.Always h) height.Mixed
told_always place h [] = refl
told_always place h (a ∷ came) =
    elim (comes_to place a) as (λ b. all_told place (cond b (cond (a.height == h) (height.Always h) height.Mixed) (height.Always h)) came ≡ cond ((not b || (a.height == h)) && list_all (has_height place h) came) (height.Always h) height.Mixed)
    [ true ↦ elim (a.height == h) as (λ c. all_told place (cond c (height.Always h) height.Mixed) came ≡ cond (c && list_all (has_height place h) came) (height.Always h) height.Mixed) [ true ↦ told_always place h came | false ↦ told_mixed place came ] | false ↦ told_always place h came ]

one_always : (b : Bool) (h : ℕ) → one_height (cond b (height.Always h) height.Mixed) ≡ cond b (Some h) None
one_always true h = refl
one_always false h = refl

or_true : (b : Bool) → (b || true) ≡ true
or_true true = refl
or_true false = refl

is_first : (place : ℕ) (a : Arrival) (came : List Arrival) → comes_to place a ≡ true → height_at place (a ∷ came) ≡ one_height (all_told place height.Never (a ∷ came))
is_first place a came e =
    let here : has_height place a.height a ≡ true = ap (λ b. not (comes_to place a) || b) (eq-eqb a.height a.height refl) ∙ or_true (not (comes_to place a)) in
    ap (λ b. height_of_first place (a ∷ came) (cond b (Some a) (find (comes_to place) came))) e
    ∙ ap (λ b. cond (b && list_all (has_height place a.height) came) (Some a.height) None) here
    ∙ sym (one_always (list_all (has_height place a.height) came) a.height)
    ∙ sym (ap one_height (told_always place a.height came))
    ∙ sym (ap (λ b. one_height (all_told place (cond b (height.Always a.height) height.Never) came)) e)

passed_by : (place : ℕ) (a : Arrival) (came : List Arrival) (first : Option Arrival) → comes_to place a ≡ false → height_of_first place (a ∷ came) first ≡ height_of_first place came first
passed_by place a came None e = refl
passed_by place a came (Some first) e = rw e refl

not_came : (place : ℕ) (a : Arrival) (came : List Arrival) → comes_to place a ≡ false → height_at place came ≡ one_height (all_told place height.Never came) → height_at place (a ∷ came) ≡ one_height (all_told place height.Never (a ∷ came))
not_came place a came e others = rw e (passed_by place a came (find (comes_to place) came) e ∙ others)

pub height_is : (place : ℕ) (came : List Arrival) → height_at place came ≡ one_height (all_told place height.Never came)
height_is place [] = refl
height_is place (a ∷ came) = (elim (comes_to place a) as (λ b. comes_to place a ≡ b → height_at place (a ∷ came) ≡ one_height (all_told place height.Never (a ∷ came))) [ true ↦ is_first place a came | false ↦ λ e. not_came place a came e (height_is place came) ]) refl

pub told_append : (place : ℕ) (known : Height) (came bs : List Arrival) → all_told place known (came ++ bs) ≡ all_told place (all_told place known came) bs
told_append place known [] bs = refl
told_append place known (a ∷ came) bs = told_append place (told place known a) came bs

-- arrivals that came elsewhere tell nothing of a place
pub told_filter : (at place : ℕ) (known : Height) (came : List Arrival) → at < place → all_told place known (filter (λ a. not (comes_to at a)) came) ≡ all_told place known came
told_filter at place known [] lt = refl
told_filter at place known (a ∷ came) lt =
    (elim (comes_to at a) as (λ b. comes_to at a ≡ b → all_told place known (cond (not b) (a ∷ filter (λ x. not (comes_to at x)) came) (filter (λ x. not (comes_to at x)) came)) ≡ all_told place known (a ∷ came)) [
      | true ↦ λ e. let k : a.place ≡ at = eqb-true a.place at e in let n : comes_to place a ≡ false = grind arith in told_filter at place known came lt ∙ sym (ap (λ b. all_told place (cond b (joined known a.height) known) came) n)
      | false ↦ λ e. told_filter at place (told place known a) came lt
    ]) refl
