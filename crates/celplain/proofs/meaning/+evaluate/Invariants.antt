use Rattle.std.proofs.Common.{◌≡◌, map, take}
use Rattle.celtree.specs.View.{view}
use Rattle.celmean.specs.Meaning.{mean, bind}
use Rattle.celmean.specs.Seen.{values_seen, outcomes_seen, outcome_pairs_seen}
use Rattle.celplain.specs.Seen.{environment_of}
use Rattle.celplain.proofs.meaning.+evaluate.Given as goal

abbrev pub invariant-evaluate_all-loop-tree : goal.invariant-evaluate_all-loop-tree
invariant-evaluate_all-loop-tree l = outcomes_seen l.outcomes.items ≡ map (λ t. mean (view t) (environment_of l.environment)) (take l.tree-index l.trees.items)

abbrev pub invariant-evaluate_pairs-loop-key : goal.invariant-evaluate_pairs-loop-key
invariant-evaluate_pairs-loop-key l =
    outcome_pairs_seen l.outcomes.items ≡ map (λ p. (mean (view p.0) (environment_of l.environment), mean (view p.1) (environment_of l.environment))) (take l.key-index l.entries.items)

abbrev pub invariant-evaluate_items-loop-item : goal.invariant-evaluate_items-loop-item
invariant-evaluate_items-loop-item l =
    outcomes_seen l.outcomes.items ≡ map (λ x. mean (view l.body) (bind l.variable x (environment_of l.environment))) (values_seen (take l.item-index l.items.items))
