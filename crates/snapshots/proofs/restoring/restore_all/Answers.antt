use Rattle.std.proofs.Common.{rules, arith, refl, ◌∙◌, ◌+◌, ℕ, List, drop}
use Rattle.snapshots.specs.Restoring.{IsDamaged}
use Rattle.snapshots.proofs.Held.{Kept, at_index, holds_none, holds_next, holds_more}
use Rattle.snapshots.proofs.restoring.restore_all.Goals as goal

pub loop-object-init : goal.loop-object-init
loop-object-init g c = record { rules_stay = refl; holds = holds_none (g.B.Below.lies c.args.below.now) c.args.core.now c.args.objects.now c.requires.none }

pub returns-in_err-restore-clause-damaged : goal.returns-in_err-restore-clause-damaged
returns-in_err-restore-clause-damaged g c is_damaged os are =
    let told : IsDamaged c.restore.result = search rules in
    let all : List Kept = c.args.objects.now in
    let i : ℕ = c.loop-object.object-index in
    let next =
    holds_next (g.B.Below.lies c.args.below.now) c.args.core.now c.loop-object.core all (drop i all) c.object-item.result (drop (i + 1) all) os
    c.loop-object.invariant.holds (at_index all i c.object-item.result (omega arith) c.object-item.is) are
    in
    c.restore.ensures.damaged told next.0 next.1

pub loop-object-preserved : goal.loop-object-preserved
loop-object-preserved g c =
    let all : List Kept = c.args.objects.now in
    let i : ℕ = c.loop-object.object-index in
    let held = c.in_ok-restore.ensures.held in
    record {
      rules_stay = c.restore.ensures.rules ∙ c.loop-object.invariant.rules_stay;
      holds =
          holds_more (g.B.Below.lies c.args.below.now) c.args.core.now c.loop-object.core c.restore.new.core all (drop i all) c.object-item.result (drop (i + 1) all)
          held.0 c.requires.ascend c.loop-object.invariant.holds (at_index all i c.object-item.result (omega arith) c.object-item.is) held.1 held.2;
    }
