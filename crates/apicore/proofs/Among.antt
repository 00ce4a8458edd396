-- What is wanted, as it is held.
use Rattle.std.proofs.Common.{◌≡◌, true, false, cond, List, [], ◌∷◌, Some, None, map, refl, ap}
use Rattle.std.specs.List.{filter, filter_map, cons_option}
use Rattle.names.specs.Key.{Key}
use Rattle.policy.specs.Spec.{Wanted}
use Rattle.verdict.specs.Objects.{Held}
use Rattle.verdict.specs.Listed.{is_wanted, wanted_of}
use Rattle.verdict.specs.LookupSeen.{shown_held}
use Rattle.apicore.specs.Wanted.{if_wanted}

-- those wanted of a list, in one step
pub wanted_held : (wanted : Wanted) (os : List (Key × Held)) → filter_map (if_wanted wanted) os ≡ wanted_of wanted (map shown_held os)
wanted_held wanted [] = refl
wanted_held wanted (o ∷ os) =
    elim (is_wanted wanted (shown_held o)) as (λ b. cons_option (cond b (Some (shown_held o).1) None) (filter_map (if_wanted wanted) os)
    ≡ map (λ o. o.1) (cond b (shown_held o ∷ filter (is_wanted wanted) (map shown_held os)) (filter (is_wanted wanted) (map shown_held os)))) [
      | true ↦ ap (λ ds. (shown_held o).1 ∷ ds) (wanted_held wanted os)
      | false ↦ wanted_held wanted os
    ]
