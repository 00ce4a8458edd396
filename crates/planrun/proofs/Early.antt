-- A macro that is decided before its last item.
use Rattle.std.proofs.Common.{◌≡◌, ℕ, zero, suc, ◌<◌, ◌≤◌, Bool, true, false, ◌||◌, List, [], ◌∷◌, ◌++◌, length, map, take, drop, get_or, refl, sym, ap, ◌∙◌, arith}
use Rattle.std.proofs.lemmas.List.{map-append, take_all}
use Rattle.celtree.specs.declared.tree.Macro.{Macro}
use Rattle.celtree.specs.declared.tree.Macro.TheVariants as macro_of
use Rattle.celmean.specs.declared.value.Value as value
use Rattle.celmean.specs.declared.value.Outcome as outcome
use Rattle.celmean.specs.Seen.{value_of, values_seen, outcome_of, outcomes_seen}
use Rattle.celmean.specs.Value.{Value, Outcome, Gives, Truth}
use Rattle.celmean.specs.Macros.{is_true, is_false, some_is, all_of, some_of, reduced}
use Rattle.planrun.specs.Deciding.{decides}

or_true : (b c : Bool) → c ≡ true → (b || c) ≡ true
or_true true c e = refl
or_true false c e = e

or_left : (b c : Bool) → b ≡ true → (b || c) ≡ true
or_left true c e = refl
or_left false c e = absurd cc

-- one that is there is there whatever comes after
some_among : (p : Outcome → Bool) (os rest : List Outcome) (o : Outcome) → p o ≡ true → some_is p (os ++ o ∷ rest) ≡ true
some_among p [] rest o e = or_left (p o) (some_is p rest) e
some_among p (x ∷ os) rest o e = or_true (p x) (some_is p (os ++ o ∷ rest)) (some_among p os rest o e)

all_decided : (os rest : List Outcome) (o : Outcome) → is_false o ≡ true → all_of (os ++ o ∷ rest) ≡ Gives (Truth false)
all_decided os rest o e = rw (some_among is_false os rest o e) refl

some_decided : (os rest : List Outcome) (o : Outcome) → is_true o ≡ true → some_of (os ++ o ∷ rest) ≡ Gives (Truth true)
some_decided os rest o e = rw (some_among is_true os rest o e) refl

-- so what the outcomes so far give is what all give
pub decided : (m : Macro) (vs : List Value) (os rest : List Outcome) (o : Outcome) → decides m o ≡ true → reduced m vs (os ++ o ∷ []) ≡ reduced m vs (os ++ o ∷ rest)
decided macro_of.All vs os rest o e = all_decided os [] o e ∙ sym (all_decided os rest o e)
decided macro_of.Exists vs os rest o e = some_decided os [] o e ∙ sym (some_decided os rest o e)
decided macro_of.ExistsOne vs os rest o e = absurd cc
decided macro_of.Map vs os rest o e = absurd cc
decided macro_of.Filter vs os rest o e = absurd cc

-- a list is what stands before a place, what stands there, and what stands after
split : {A B C : Type 0} (f : B → C) (g : A → B) (xs : List A) (i : ℕ) (x : A) → i < length xs → x ≡ get_or xs i x → map f (map g (take i xs)) ++ f (g x) ∷ map f (map g (drop (suc i) xs)) ≡ map f (map g xs)
split f g [] i x less e = absurd (omega arith)
split f g (y ∷ xs) zero x less e = ap (λ z. f (g z) ∷ map f (map g xs)) e
split f g (y ∷ xs) (suc i) x less e = ap (λ t. f (g y) ∷ t) (split f g xs i x (omega arith) e)

-- the outcomes up to the item that decides
pub early : (m : Macro) (f : Value → Outcome) (vs : List Value) (xs : List value.Value) (i : ℕ) (x : value.Value) (before : List outcome.Outcome) (o : outcome.Outcome)
    → i < length xs → x ≡ get_or xs i x → outcomes_seen before ≡ map f (values_seen (take i xs)) → outcome_of o ≡ f (value_of x) → decides m (outcome_of o) ≡ true
    → reduced m vs (outcomes_seen (before ++ o ∷ [])) ≡ reduced m vs (map f (values_seen xs))
early m f vs xs i x before o less here was is t =
    let so_far : outcomes_seen (before ++ o ∷ []) ≡ map f (values_seen (take i xs)) ++ outcome_of o ∷ [] = map-append outcome_of before (o ∷ []) ∙ ap (λ s. s ++ outcome_of o ∷ []) was in
    let rest : List Outcome = map f (values_seen (drop (suc i) xs)) in
    let all : map f (values_seen (take i xs)) ++ outcome_of o ∷ rest ≡ map f (values_seen xs) = ap (λ (y : Outcome). map f (values_seen (take i xs)) ++ y ∷ rest) is ∙ split f value_of xs i x less here in
    ap (λ (s : List Outcome). reduced m vs s) so_far ∙ (decided m vs (map f (values_seen (take i xs))) rest (outcome_of o) t ∙ ap (λ (s : List Outcome). reduced m vs s) all)

-- the outcomes up to an item, with its own
front : {A B C : Type 0} (f : B → C) (g : A → B) (xs : List A) (i : ℕ) (x : A) → i < length xs → x ≡ get_or xs i x → map f (map g (take i xs)) ++ f (g x) ∷ [] ≡ map f (map g (take (suc i) xs))
front f g [] i x less e = absurd (omega arith)
front f g (y ∷ xs) zero x less e = ap (λ z. f (g z) ∷ []) e
front f g (y ∷ xs) (suc i) x less e = ap (λ t. f (g y) ∷ t) (front f g xs i x (omega arith) e)

pub gathered : (f : Value → Outcome) (xs : List value.Value) (i next : ℕ) (x : value.Value) (before : List outcome.Outcome) (o : outcome.Outcome)
    → i < length xs → x ≡ get_or xs i x → next ≡ suc i → outcomes_seen before ≡ map f (values_seen (take i xs)) → outcome_of o ≡ f (value_of x)
    → outcomes_seen (before ++ o ∷ []) ≡ map f (values_seen (take next xs))
gathered f xs i next x before o less here e was is =
    let so_far : outcomes_seen (before ++ o ∷ []) ≡ map f (values_seen (take i xs)) ++ outcome_of o ∷ [] = map-append outcome_of before (o ∷ []) ∙ ap (λ s. s ++ outcome_of o ∷ []) was in
    let one_more : map f (values_seen (take i xs)) ++ outcome_of o ∷ [] ≡ map f (values_seen (take (suc i) xs)) = ap (λ (y : Outcome). map f (values_seen (take i xs)) ++ y ∷ []) is ∙ front f value_of xs i x less here in
    so_far ∙ (one_more ∙ ap (λ (n : ℕ). map f (values_seen (take n xs))) (sym e))

pub all_gathered : (m : Macro) (f : Value → Outcome) (vs : List Value) (xs : List value.Value) (i : ℕ) (os : List outcome.Outcome)
    → length xs ≤ i → outcomes_seen os ≡ map f (values_seen (take i xs)) → reduced m vs (outcomes_seen os) ≡ reduced m vs (map f (values_seen xs))
all_gathered m f vs xs i os all was =
    ap (λ (s : List Outcome). reduced m vs s) (was ∙ ap (λ (ys : List value.Value). map f (values_seen ys)) (take_all i xs all))
