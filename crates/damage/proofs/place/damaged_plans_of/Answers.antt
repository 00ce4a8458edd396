use Rattle.std.proofs.Common.{subst, ℕ, List}
use Rattle.gatelog.proofs.Walking.{same_then}
use Rattle.damage.specs.declared.place.Place.TheVariants as place
use Rattle.damage.specs.Place.{IsAt}
use Rattle.damage.proofs.place.damaged_plans_of.Goals as goal

pub returns-in-Some-clause-at : goal.returns-in-Some-clause-at
returns-in-Some-clause-at g c = λ keeps.
    let ran = c.counted_root.ensures.ran in
    let At : List ℕ → Type 0 = λ content. IsAt content c.in-Ok.root (place.Plans c.in-Some.key) in
    record {
      root = c.in-Ok.root;
      holds = c.in-Ok.ensures.found keeps;
      there = subst At (ran.seen keeps) (c.in-Some.ensures.at (ran.kept keeps));
    }

pub returns-in-Some-clause-ran : goal.returns-in-Some-clause-ran
returns-in-Some-clause-ran g c =
    same_then g.D.Device.disk c.args.device.now c.counted_root.new.device c.other_plans.new.device c.counted_root.ensures.ran c.other_plans.ensures.ran
