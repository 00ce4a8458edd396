use Rattle.std.proofs.Common.{◌≡◌, ◌∙◌, ap, rules, List, [], ◌∷◌, ◌++◌, ℕ, map}
use Rattle.std.proofs.lemmas.Grind.{common_steps}
use Rattle.std.proofs.lemmas.List.{map_push}
use Rattle.diskmodels.specs.Moments.{Moment, moment_of, past, present}
use Rattle.diskmodels.proofs.recorded.Recorded.remember.Goals as goal

pub returns-clause-ok : goal.returns-clause-ok
returns-clause-ok c =
    let old = c.args.self.now in
    let current : c.in_ok-current.current.items ≡ old.current.items = search (rules, common_steps) in
    let synced : c.in_ok-synced.synced.items ≡ old.synced.items = search (rules, common_steps) in
    let Row : List ℕ → List ℕ → Moment = λ x y. record { now = x; synced = y } in
    let here : Row c.in_ok-current.current.items c.in_ok-synced.synced.items ≡ present old =
    ap (λ x. Row x c.in_ok-synced.synced.items) current ∙ ap (Row old.current.items) synced
    in
    ap (map moment_of) c.in_ok-push.ensures.items ∙ map_push moment_of old.past.items _ ∙ ap (λ (m : Moment). past old ++ m ∷ []) here
