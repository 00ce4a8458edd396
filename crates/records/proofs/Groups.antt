-- The writes of groups.
use Rattle.std.proofs.Common.{◌≡◌, ◌∙◌, ap, List, [], ◌∷◌, ◌++◌}
use Rattle.std.specs.List.{AllByRecursion}
use Rattle.std.proofs.lemmas.Grind.{flat_map-append}
use Rattle.std.proofs.lemmas.List.{append-nil}
use Rattle.records.specs.Payload.{writes_in}

-- a group more has its writes after the others
pub writes_in-push : {W : Type 0} (groups : List (List W)) (ws : List W) → writes_in (groups ++ ws ∷ []) ≡ writes_in groups ++ ws
writes_in-push {W} groups ws = flat_map-append (λ (g : List W). g) groups (ws ∷ []) ∙ ap (λ (x : List W). writes_in groups ++ x) (append-nil ws)

-- what holds of each, and of one more, holds of each then
pub all-push : {X : Type 0} (P : X → Type 0) (xs : List X) (x : X) → AllByRecursion P xs → P x → AllByRecursion P (xs ++ x ∷ [])
all-push P [] x all last = (last, tt)
all-push P (y ∷ xs) x all last = (all.0, all-push P xs x all.1 last)
