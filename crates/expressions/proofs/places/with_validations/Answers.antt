use Rattle.std.proofs.Common.{◌≡◌, ◌∙◌, ℕ, ◌+◌, List, [], ◌∷◌, ◌++◌, map, drop, sym, ap, append_assoc, append-nil}
use Rattle.std.proofs.lemmas.List.{drop_more, drop_all}
use Rattle.std.specs.List.{flat_map}
use Rattle.policy.specs.declared.validation.Validation.{Validation}
use Rattle.policy.specs.Validation.{validation_seen}
use Rattle.expressions.specs.Places.{validation_places}
use Rattle.expressions.proofs.places.with_validations.Goals as goal

abbrev places_in : ℕ → List Validation → List ℕ
places_in all validations = flat_map (validation_places all) (map validation_seen validations)

pub loop-validation-preserved : goal.loop-validation-preserved
loop-validation-preserved c =
    let validations = c.args.validations.now in
    let i = c.loop-validation.validation-index in
    let places = c.loop-validation.places.items in
    let item = c.validation-item.result in
    let more = drop (i + 1) validations in
    let rest = places_in c.args.all more in
    let front : drop i validations ≡ item ∷ more = drop_more validations i item c.loop-validation-test.true ∙ sym (ap (λ (v : Validation). v ∷ more) c.validation-item.is) in
    c.loop-validation.invariant
    ∙ ap (λ (vs : List Validation). places ++ places_in c.args.all vs) front
    ∙ sym (append_assoc places (validation_places c.args.all (validation_seen item)) rest)
    ∙ sym (ap (λ (ns : List ℕ). ns ++ rest) c.in_ok-places.ensures)

pub returns : goal.returns
returns c =
    let places = c.loop-validation.places.items in
    let none : drop c.loop-validation.validation-index c.args.validations.now ≡ [] = drop_all c.loop-validation.validation-index c.args.validations.now c.loop-validation-test.false in
    sym (c.loop-validation.invariant ∙ ap (λ (vs : List Validation). places ++ places_in c.args.all vs) none ∙ append-nil places)
