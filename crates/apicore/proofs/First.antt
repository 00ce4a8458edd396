-- The first refusal of lists of conditions, one after the other.
use Rattle.std.proofs.Common.{◌≡◌, ◌∙◌, ap, refl, List, [], ◌∷◌, ◌++◌, Bool, true, false, option_map, Option, Some, None}
use Rattle.requests.specs.Refusal as table
use Rattle.apicore.specs.Conditions.{Refusal, Condition, known, first_of, of_table}

either : Option Refusal → Option Refusal → Option Refusal
either None second = second
either (Some r) second = Some r

first_append : (xs ys : List Condition) → first_of (xs ++ ys) ≡ either (first_of xs) (first_of ys)
unfolding either
first_append [] ys = refl
first_append ((r, true) ∷ xs) ys = refl
first_append ((r, false) ∷ xs) ys = first_append xs ys

pub none_of_both : (fs gs : List Condition) → first_of fs ≡ None → first_of gs ≡ None → first_of (fs ++ gs) ≡ None
unfolding either
none_of_both fs gs none also = first_append fs gs ∙ ap (λ (x : Option Refusal). either x (first_of gs)) none ∙ also

pub refused_alone : (fs ts : List Condition) (r : Refusal) → first_of fs ≡ Some r → first_of (fs ++ ts) ≡ Some r
unfolding either
refused_alone fs ts r is = first_append fs ts ∙ ap (λ (x : Option Refusal). either x (first_of ts)) is

pub none_after : (fs ts : List Condition) → first_of fs ≡ None → first_of (fs ++ ts) ≡ first_of ts
unfolding either
none_after fs ts none = first_append fs ts ∙ ap (λ (x : Option Refusal). either x (first_of ts)) none

pub first_of_table : (cs : List table.Condition) → first_of (of_table cs) ≡ option_map known (table.first_of cs)
first_of_table [] = refl
first_of_table ((r, true) ∷ cs) = refl
first_of_table ((r, false) ∷ cs) = first_of_table cs

pub nothing_more : (cs : List Condition) → first_of (cs ++ []) ≡ first_of cs
nothing_more [] = refl
nothing_more ((r, true) ∷ cs) = refl
nothing_more ((r, false) ∷ cs) = nothing_more cs

pub is_there : (b : Bool) (r : Refusal) → b ≡ true → first_of ((r, b) ∷ []) ≡ Some r
is_there b r is = ap (λ (x : Bool). first_of ((r, x) ∷ [])) is

pub is_not : (b : Bool) (r : Refusal) → b ≡ false → first_of ((r, b) ∷ []) ≡ None
is_not b r is = ap (λ (x : Bool). first_of ((r, x) ∷ [])) is
