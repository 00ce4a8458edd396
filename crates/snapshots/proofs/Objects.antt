-- Objects that are not held in memory, found and listed with what stands beside them.
use Rattle.std.specs.Prelude.{◌≡◌, Bool, true, false, not, List, [], ◌∷◌, map, Option, Some, None, option_map}
use Rattle.std.proofs.Common.{refl, sym, ap, ◌∙◌, cond, ◌==◌, ℕ, arith}
use Rattle.std.proofs.lemmas.Bool.{and_parts}
use Rattle.std.proofs.lemmas.Bool.Decides.{nat_tests}
use Rattle.std.specs.List.{AllByRecursion, filter}
use Rattle.std.specs.Option.{unwrap_or}
use Rattle.std.specs.Ordering.{eq_by_cmp}
use Rattle.names.specs.declared.resource.Resource.{Resource}
use Rattle.names.specs.Key.{Key, key_cmp}
use Rattle.names.specs.Resource.{row, numbered}
use Rattle.names.proofs.KeyOrder.{numbered-number}
use Rattle.documents.specs.Document.{Document}
use Rattle.objects.specs.Objects.{value_at, is_of}
use Rattle.objects.proofs.Changing.{find-filter}
use Rattle.histories.specs.declared.stored.Stored.{Stored}
use Rattle.holdings.specs.Sources.{found_in}
use Rattle.snapshots.specs.declared.cached_object.CachedObject.{CachedObject}
use Rattle.snapshots.specs.ObjectCache.{plain}
use Rattle.snapshots.specs.Whole.{found_of, stored_of, whole}
use Rattle.snapshots.specs.Base.{not_held}

no_both : {b : Bool} → b ≡ true → b ≡ false → ⊥
no_both is is_not = let never : true ≡ false = sym is ∙ is_not in cc

-- ---- of one resource

same_number : (a b : ℕ) → (a == b) ≡ true → a ≡ b
same_number a b is = grind (arith, nat_tests)

numbers_differ : (r s : Resource) → (row r).number ≡ (row s).number → r ≡ s
numbers_differ r s e = ap (λ (o : Option Resource). unwrap_or o r) (sym (numbered-number r) ∙ ap numbered e ∙ numbered-number s)

-- A key that is listed of a resource is of that resource.
pub resource_is : (r : Resource) (namespace : Option (List ℕ)) (key : Key) → is_of r namespace key ≡ true → key.resource ≡ r
resource_is r None key is = numbers_differ key.resource r (same_number (row key.resource).number (row r).number is)
resource_is r (Some namespace) key is =
    numbers_differ key.resource r (same_number (row key.resource).number (row r).number (and_parts ((row key.resource).number == (row r).number) _ is).0)

module _ {P : Type 0} (made : Document → P) where
  -- ---- under a key

  found_whole : (key : Key) (os : List (Key × CachedObject)) → option_map found_of (value_at key os) ≡ option_map found_in (value_at key (map (whole made) os))
  found_whole key [] = refl
  found_whole key (o ∷ os) =
      elim (eq_by_cmp key_cmp key o.0)
      as (λ b. option_map found_of (cond b (Some o.1) (value_at key os)) ≡ option_map found_in (cond b (Some (stored_of made o.1)) (value_at key (map (whole made) os)))) [
        | true ↦ refl
        | false ↦ found_whole key os
      ]

  value_whole : (key : Key) (os : List (Key × CachedObject)) → value_at key (map (whole made) os) ≡ option_map (stored_of made) (value_at key os)
  value_whole key [] = refl
  value_whole key (o ∷ os) =
      elim (eq_by_cmp key_cmp key o.0)
      as (λ b. cond b (Some (stored_of made o.1)) (value_at key (map (whole made) os)) ≡ option_map (stored_of made) (cond b (Some o.1) (value_at key os))) [
        | true ↦ refl
        | false ↦ value_whole key os
      ]

  module _ (held : Resource → Bool) where
    among : (key : Key) (all : List (Key × CachedObject)) (b : Bool) → held key.resource ≡ b → value_at key (not_held held all) ≡ cond (not b) (value_at key all) None
    among key all b is = find-filter (λ k. not (held k.resource)) key all ∙ ap (λ t. cond (not t) (value_at key all) None) is

    -- What is found in the pages under a key whose resource is not held is found of what lies below,
    pub found_lying : (key : Key) (all : List (Key × CachedObject)) → held key.resource ≡ false
        → option_map found_of (value_at key all) ≡ option_map found_in (value_at key (map (whole made) (not_held held all)))
    found_lying key all is = ap (option_map found_of) (sym (among key all false is)) ∙ found_whole key (not_held held all)

    -- and of a held resource nothing lies there.
    pub none_lies : (key : Key) (all : List (Key × CachedObject)) → held key.resource ≡ true → value_at key (map (whole made) (not_held held all)) ≡ None
    none_lies key all is = value_whole key (not_held held all) ∙ ap (option_map (stored_of made)) (among key all true is)

    -- ---- of a resource

    module _ (r : Resource) (namespace : Option (List ℕ)) where
      listed_one : (o : Key × CachedObject) (nh os : List (Key × CachedObject)) (b c : Bool) → held r ≡ false → held o.0.resource ≡ b → is_of r namespace o.0 ≡ c
          → map (whole made) os ≡ filter (λ o. is_of r namespace o.0) (map (whole made) nh)
          → map (whole made) (cond c (o ∷ os) os) ≡ filter (λ o. is_of r namespace o.0) (map (whole made) (cond (not b) (o ∷ nh) nh))
      listed_one o nh os false true shown is of more =
          ap (λ (es : List (Key × Stored P)). whole made o ∷ es) more
          ∙ ap (λ t. cond t (whole made o ∷ filter (λ o. is_of r namespace o.0) (map (whole made) nh)) (filter (λ o. is_of r namespace o.0) (map (whole made) nh))) (sym of)
      listed_one o nh os false false shown is of more =
          more
          ∙ ap (λ t. cond t (whole made o ∷ filter (λ o. is_of r namespace o.0) (map (whole made) nh)) (filter (λ o. is_of r namespace o.0) (map (whole made) nh))) (sym of)
      listed_one o nh os true false shown is of more = more
      listed_one o nh os true true shown is of more = absurd (no_both (ap held (sym (resource_is r namespace o.0 of)) ∙ is) shown)

      -- What the pages list of a resource that is not held is what lies below of it,
      pub listed_lying : (all : List (Key × CachedObject)) → held r ≡ false
          → map (whole made) (filter (λ o. is_of r namespace o.0) all) ≡ filter (λ o. is_of r namespace o.0) (map (whole made) (not_held held all))
      listed_lying [] shown = refl
      listed_lying (o ∷ all) shown =
          listed_one o (not_held held all) (filter (λ o. is_of r namespace o.0) all) (held o.0.resource) (is_of r namespace o.0) shown refl refl (listed_lying all shown)

      none_one : (o : Key × CachedObject) (nh : List (Key × CachedObject)) (b c : Bool) → held r ≡ true → held o.0.resource ≡ b → is_of r namespace o.0 ≡ c
          → filter (λ o. is_of r namespace o.0) (map (whole made) nh) ≡ [] → filter (λ o. is_of r namespace o.0) (map (whole made) (cond (not b) (o ∷ nh) nh)) ≡ []
      none_one o nh true c hidden is of none = none
      none_one o nh false false hidden is of none =
          ap (λ t. cond t (whole made o ∷ filter (λ o. is_of r namespace o.0) (map (whole made) nh)) (filter (λ o. is_of r namespace o.0) (map (whole made) nh))) of ∙ none
      none_one o nh false true hidden is of none = absurd (no_both (ap held (resource_is r namespace o.0 of) ∙ hidden) is)

      -- and of a held resource nothing lies there.
      pub none_listed : (all : List (Key × CachedObject)) → held r ≡ true → filter (λ o. is_of r namespace o.0) (map (whole made) (not_held held all)) ≡ []
      none_listed [] hidden = refl
      none_listed (o ∷ all) hidden = none_one o (not_held held all) (held o.0.resource) (is_of r namespace o.0) hidden refl refl (none_listed all hidden)

  -- ---- whole again

  -- each that passes has beside it what is made of its document
  abbrev pub AreMade : (Key → Bool) → List (Key × Stored P) → Type 0
  AreMade chosen os = AllByRecursion (λ o. chosen o.0 ≡ true → o.1.beside ≡ made o.1.document) os

  again_one : (chosen : Key → Bool) (o : Key × Stored P) (plains : List (Key × CachedObject)) (wholes : List (Key × Stored P)) (b : Bool) → chosen o.0 ≡ b
      → (chosen o.0 ≡ true → o.1.beside ≡ made o.1.document) → map (whole made) plains ≡ wholes → map (whole made) (cond b (plain o ∷ plains) plains) ≡ cond b (o ∷ wholes) wholes
  again_one chosen o plains wholes false is beside more = more
  again_one chosen o plains wholes true is beside more =
      let back = sym (beside is) in λ i. (o.0, record { document = o.1.document; beside = back i; revision = o.1.revision }) ∷ more i

  -- What is chosen by its key is whole again as it was.
  pub whole_again : (chosen : Key → Bool) (os : List (Key × Stored P)) → AreMade chosen os → map (whole made) (filter (λ o. chosen o.0) (map plain os)) ≡ filter (λ o. chosen o.0) os
  whole_again chosen [] all = refl
  whole_again chosen (o ∷ os) all =
      again_one chosen o (filter (λ o. chosen o.0) (map plain os)) (filter (λ o. chosen o.0) os) (chosen o.0) refl all.0 (whole_again chosen os all.1)
