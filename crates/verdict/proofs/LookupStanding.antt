-- Objects as they are held, beside those that they stand for.
use Rattle.std.proofs.Common.{◌≡◌, true, false, cond, List, [], ◌∷◌, Option, Some, option_map, map, refl, sym, ap, ◌∙◌}
use Rattle.std.specs.Ordering.{eq_by_cmp}
use Rattle.documents.specs.Document.{shown}
use Rattle.names.specs.Key.{Key, key_cmp}
use Rattle.names.specs.declared.resource.Resource.{Resource}
use Rattle.objects.specs.Objects.{value_at, is_of}
use Rattle.policy.specs.Forms.{Text}
use Rattle.verdict.specs.Objects.{Object, Objects, Held, held, all_held, shown_objects}
use Rattle.verdict.specs.Listed.{listed}
use Rattle.verdict.specs.LookupSeen.{shown_held}

-- ---- maps of values

module _ {A B : Type 0} (f : A → B) where
  -- what is listed of a map of values
  pub listed-map : (r : Resource) (n : Option Text) (os : List (Key × A)) → listed r n (map (λ o. (o.0, f o.1)) os) ≡ map (λ o. (o.0, f o.1)) (listed r n os)
  listed-map r n [] = refl
  listed-map r n (o ∷ os) =
      elim (is_of r n o.0) as (λ b. cond b ((o.0, f o.1) ∷ listed r n (map (λ o. (o.0, f o.1)) os)) (listed r n (map (λ o. (o.0, f o.1)) os))
      ≡ map (λ o. (o.0, f o.1)) (cond b (o ∷ listed r n os) (listed r n os))) [
        | true ↦ ap (λ ps. (o.0, f o.1) ∷ ps) (listed-map r n os)
        | false ↦ listed-map r n os
      ]

  -- what stands under a key in a map of values
  pub value_at-map : (key : Key) (os : List (Key × A)) → value_at key (map (λ o. (o.0, f o.1)) os) ≡ option_map f (value_at key os)
  value_at-map key [] = refl
  value_at-map key (o ∷ os) =
      elim (eq_by_cmp key_cmp key o.0) as (λ b. cond b (Some (f o.1)) (value_at key (map (λ o. (o.0, f o.1)) os)) ≡ option_map f (cond b (Some o.1) (value_at key os))) [
        | true ↦ refl
        | false ↦ value_at-map key os
      ]

-- ---- what is shown

shown_of_held : (os : Objects) → map shown_held (all_held os) ≡ shown_objects os
shown_of_held [] = refl
shown_of_held (o ∷ os) = ap (λ rest. (o.0, shown o.1.document o.1.revision) ∷ rest) (shown_of_held os)

-- what is listed of the objects as they are held, is listed of them as they are shown
pub shown_listed : (r : Resource) (n : Option Text) (objects : Objects) → map shown_held (listed r n (all_held objects)) ≡ listed r n (shown_objects objects)
shown_listed r n objects =
    ap (λ (l : List (Key × Held)). map shown_held l) (listed-map held r n objects)
    ∙ shown_of_held (listed r n objects)
    ∙ sym (listed-map (λ (o : Object). shown o.document o.revision) r n objects)
