use Rattle.std.proofs.Common.{◌≡◌, ◌∙◌, ◌-◌, ◌<◌, suc, length, get_or, sym, ap, arith}
use Rattle.celmean.specs.Value.{Outcome}
use Rattle.celmean.specs.Collections.{put_entry}
use Rattle.celmean.specs.Seen.{outcome_of, outcome_pairs_seen}
use Rattle.celmean.proofs.Places.{map_of-error, map_of-step, map_of-drop}
use Rattle.celmean.proofs.collections.map_of.Goals as goal

pub returns-in-None : goal.returns-in-None
returns-in-None c =
    let os = c.args.outcomes.now.items in
    let n = c.entries.left - 1 in
    let place : suc n ≡ c.entries.left = omega arith in
    let within : n < length os = omega arith in
    let o = c.index.result.now in
    let is : o ≡ get_or os n o = c.index.ensures in
    let step = map_of-step n os o within is in
    let after = rw (← place) at c.entries.invariant.after in
    let none = rw c.in-None.is at c.in_ok-more.ensures in
    sym (map_of-error n (outcome_pairs_seen os) (map_of-drop n os ∙ (step ∙ (ap (λ (m : Outcome). put_entry (outcome_of o.0) (outcome_of o.1) m) after ∙ sym none))))
