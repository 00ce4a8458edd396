use Rattle.std.proofs.Common.{◌≡◌, ◌∙◌, ◌++◌, ◌∷◌, [], List, Option, Some, None, option_map, sym, refl, ap, append_assoc}
use Rattle.std.proofs.lemmas.List.{map-append}
use Rattle.std.specs.Vec.Iter.{into_iter_items}
use Rattle.celmean.specs.Value as seen
use Rattle.celmean.specs.Collections.{values_of}
use Rattle.celmean.specs.Seen.{value_of, values_seen, outcomes_seen}
use Rattle.celmean.specs.declared.value.Value.{Value}
use Rattle.celmean.specs.declared.value.Outcome.{Outcome}
use Rattle.celmean.specs.declared.value.Outcome.TheVariants as outcome
use Rattle.celmean.proofs.collections.values_of.Goals as goal

joined : (xs : List seen.Value) (v : seen.Value) (o : Option (List seen.Value)) → option_map (λ vs. xs ++ vs) (option_map (λ vs. v ∷ vs) o) ≡ option_map (λ vs. (xs ++ v ∷ []) ++ vs) o
joined xs v None = refl
joined xs v (Some vs) = ap Some (sym (append_assoc xs (v ∷ []) vs))

-- a value more
turn : (all left more : List Outcome) (before after : List Value) (o : Outcome) (v : Value)
    → values_of (outcomes_seen all) ≡ option_map (λ vs. values_seen before ++ vs) (values_of (outcomes_seen left))
    → left ≡ o ∷ more → o ≡ outcome.Gives v → after ≡ before ++ v ∷ []
    → values_of (outcomes_seen all) ≡ option_map (λ vs. values_seen after ++ vs) (values_of (outcomes_seen more))
turn all left more before after o v so_far here gives pushed =
    rw (pushed, map-append value_of before (v ∷ [])) ((rw (here, gives) at so_far) ∙ joined (values_seen before) (value_of v) (values_of (outcomes_seen more)))

pub loop-outcome-preserved : goal.loop-outcome-preserved
loop-outcome-preserved c =
    turn c.args.outcomes.items (into_iter_items c.loop-outcome.outcome-iterator) (into_iter_items c.next.new.self) c.loop-outcome.values.items c.push.new.self.items c.in-Some.outcome c.in-Gives.value
    c.loop-outcome.invariant c.in-Some.ensures.steps.0 c.in-Gives.is c.in_ok-push-in-Gives.ensures.items

pub returns-in-Error : goal.returns-in-Error
returns-in-Error c = sym (rw (c.in-Some.ensures.steps.0, c.in-Error.is) at c.loop-outcome.invariant)
