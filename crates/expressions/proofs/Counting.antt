-- A policy has as many places as expressions.
use Rattle.std.proofs.Common.{◌≡◌, ◌∙◌, sym, ap, refl, ℕ, ◌+◌, ◌≤◌, ◌<◌, List, [], ◌∷◌, ◌++◌, length, map, Bool, true, false, nat_le, arith, length-append, Option, Some, None}
use Rattle.std.proofs.lemmas.Bool.Decides.{nat_tests}
use Rattle.std.proofs.lemmas.List.{length-map}
use Rattle.std.specs.List.{flat_map}
use Rattle.std.specs.Option.{option_map_or}
use Rattle.std.specs.Prelude.{if◌then◌else◌}
use Rattle.policy.specs.Forms.{Text}
use Rattle.policy.specs.Spec.{NamedExpression, Policy}
use Rattle.policy.specs.Validation.{Validation}
use Rattle.expressions.specs.Expressions.{message, Source, of_condition, of_variable, of_validation, sources}
use Rattle.expressions.specs.Places.{variable_places, validation_places, places_of}

variables_counted : (n : ℕ) (vs : List NamedExpression) → length (variable_places n vs) ≡ length vs
variables_counted n [] = refl
variables_counted n (v ∷ vs) = let rest = variables_counted (n + 1) vs in omega arith

message_counted : (n : ℕ) (m : Option Text) → length {A = ℕ} (option_map_or (λ _. n ∷ []) m []) ≡ length {A = Source} (option_map_or (λ e. record { place = message; text = e } ∷ []) m [])
message_counted n None = refl
message_counted n (Some e) = refl

validations_counted : (n : ℕ) (vs : List Validation) → length (flat_map (validation_places n) vs) ≡ length (flat_map of_validation vs)
validations_counted n [] = refl
validations_counted n (v ∷ vs) =
    let one = message_counted n v.message_expression in
    let rest = validations_counted n vs in
    let a = length-append (validation_places n v) (flat_map (validation_places n) vs) in
    let b = length-append (of_validation v) (flat_map of_validation vs) in
    omega arith

pub places_counted : (p : Policy) → length (places_of p) ≡ length (sources p)
places_counted p =
    let conditions : length {A = ℕ} (map (λ _. 0) p.conditions) ≡ length {A = Source} (map of_condition p.conditions) =
    length-map {A = NamedExpression} {B = ℕ} p.conditions (λ _. 0) ∙ sym (length-map p.conditions of_condition) in
    let variables : length {A = ℕ} (variable_places 0 p.variables) ≡ length {A = Source} (map of_variable p.variables) = variables_counted 0 p.variables ∙ sym (length-map p.variables of_variable) in
    let validations = validations_counted (length p.variables) p.validations in
    let a = length-append (map (λ _. 0) p.conditions) (variable_places 0 p.variables ++ flat_map (validation_places (length p.variables)) p.validations) in
    let b = length-append (variable_places 0 p.variables) (flat_map (validation_places (length p.variables)) p.validations) in
    let c = length-append (map of_condition p.conditions) (map of_variable p.variables ++ flat_map of_validation p.validations) in
    let d = length-append (map of_variable p.variables) (flat_map of_validation p.validations) in
    omega arith

-- the places of a policy that has no more than two bytes count, and none of another
pub counted : (p : Policy) (items : List ℕ) → items ≡ places_of p → length items ≤ 65535
    → Some items ≡ (if nat_le (length (sources p)) 65535 then Some (places_of p) else None)
counted p items is few =
    let fits : nat_le (length (sources p)) 65535 ≡ true = grind (arith, nat_tests, few, ap (length {A = ℕ}) is, places_counted p) in
    ap (λ (x : List ℕ). Some x) is ∙ ap (λ (b : Bool). if b then Some (places_of p) else None) (sym fits)

pub not_counted : (p : Policy) (items : List ℕ) → items ≡ places_of p → 65535 < length items
    → None ≡ (if nat_le (length (sources p)) 65535 then Some (places_of p) else None)
not_counted p items is many =
    let fits : nat_le (length (sources p)) 65535 ≡ false = grind (arith, nat_tests, many, ap (length {A = ℕ}) is, places_counted p) in
    ap (λ (b : Bool). if b then Some (places_of p) else None) (sym fits)

-- variables are among them
pub variables_counted_too : (p : Policy) → length p.variables ≤ length (sources p)
variables_counted_too p =
    let rest = flat_map of_validation p.validations in
    let all = length-append (map of_condition p.conditions) (map of_variable p.variables ++ rest) in
    let after = length-append (map of_variable p.variables) rest in
    let each = length-map p.variables of_variable in
    omega (arith, all, after, each)
