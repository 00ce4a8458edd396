use Rattle.std.proofs.Common.{arith, length, eqb-true, ◌≡◌, ◌∙◌, sym, ap, refl, ℕ, List, ◌++◌, take, drop}
use Rattle.std.proofs.lemmas.List.{take-append-drop, nil_from_length}
use Rattle.httpmsg.specs.Stream.{Message}
use Rattle.api.proofs.Causes.{no_fault, causes_none, causes_later, refuses_passed}
use Rattle.api.proofs.Folds.{before_none, before_more, before_all, before_stops}
use Rattle.api.proofs.answer.answer_all.Goals as goal

pub loop-rest-init : goal.loop-rest-init
loop-rest-init g c = record {
  before = λ rules v shows. before_none rules g.O.Output.took g.met.O.Output.took_then c.args.output.now c.args.store.now v c.args.messages.now
      (g.met.O.Output.took_none c.args.output.now) shows (λ keeps content since. g.met.D.Device.only_now _ content keeps since);
  output_well = refl;
  device_later = omega arith;
  goes_on = refl;
}

-- the rest is a group and what stands after it
split_of : (rest group more : List Message) (n : ℕ) → group ≡ take n rest → more ≡ drop n rest → rest ≡ group ++ more
split_of rest group more n group_is more_is =
    sym (take-append-drop n rest) ∙ ap (λ (x : List Message). x ++ drop n rest) (sym group_is) ∙ ap (λ (x : List Message). group ++ x) (sym more_is)

pub returns-in-Err-clause-outcome : goal.returns-in-Err-clause-outcome
returns-in-Err-clause-outcome g c rules v shows =
    let rest = c.loop-rest.rest.now in
    let group = c.split_at.result.0.now in
    let more = c.split_at.result.1.now in
    let before = c.loop-rest.invariant.before rules v shows in
    before_stops rules g.O.Output.took g.met.O.Output.took_then g.O.Output.failures c.args.output.now c.loop-rest.output c.answer_group.new.output
    (omega (arith, c.loop-rest.invariant.output_well)) c.args.store.now c.loop-rest.store c.answer_group.new.store v c.args.messages.now rest group more c.in-Err.fault before
    (split_of rest group more c.group_size.result c.split_at.ensures.front c.split_at.ensures.back) (c.in-Err.ensures.outcome rules _ before.answers.store.shows)

pub loop-rest-preserved : goal.loop-rest-preserved
loop-rest-preserved g c = record {
  before = λ rules v shows.
      let rest = c.loop-rest.rest.now in
      let group = c.split_at.result.0.now in
      let more = c.split_at.result.1.now in
      let before = c.loop-rest.invariant.before rules v shows in
      before_more rules g.O.Output.took g.met.O.Output.took_then c.args.output.now c.loop-rest.output c.answer_group.new.output c.args.store.now c.loop-rest.store
      c.answer_group.new.store v c.args.messages.now rest group more before (split_of rest group more c.group_size.result c.split_at.ensures.front c.split_at.ensures.back)
      (c.in-Ok.ensures.outcome rules _ before.answers.store.shows);
  output_well = c.in-Ok.ensures.causes.output_well ∙ c.loop-rest.invariant.output_well;
  device_later = omega (arith, c.in-Ok.ensures.causes.device_later);
  goes_on = c.in-Ok.ensures.causes.goes_on ∙ c.loop-rest.invariant.goes_on;
}

pub returns-clause-outcome : goal.returns-clause-outcome
returns-clause-outcome g c rules v shows =
    before_all rules g.O.Output.took g.met.O.Output.took_then c.args.output.now c.loop-rest.output c.args.store.now c.loop-rest.store v c.args.messages.now c.loop-rest.rest.now
    (c.loop-rest.invariant.before rules v shows) (nil_from_length c.loop-rest.rest.now (eqb-true (length c.loop-rest.rest.now) 0 (sym c.is_empty.ensures ∙ c.loop-rest-test.false)))

pub returns-in-Err-clause-causes : goal.returns-in-Err-clause-causes
returns-in-Err-clause-causes g c =
    causes_later _ _ _ _ _ _ _ _ _ c.in-Err.fault (omega (arith, c.loop-rest.invariant.output_well)) c.loop-rest.invariant.device_later c.loop-rest.invariant.goes_on c.in-Err.ensures.causes

pub returns-clause-causes : goal.returns-clause-causes
returns-clause-causes g c = causes_none _ _ _ _ _ _ _ c.loop-rest.invariant.output_well c.loop-rest.invariant.device_later c.loop-rest.invariant.goes_on

pub returns-in-Err-clause-damage_told : goal.returns-in-Err-clause-damage_told
returns-in-Err-clause-damage_told g c =
    refuses_passed g.O.Output.took g.O.Output.failures c.args.output.now c.loop-rest.output c.answer_group.new.output c.in-Err.fault
    (omega (arith, c.loop-rest.invariant.output_well)) c.in-Err.ensures.damage_told

pub returns-clause-damage_told : goal.returns-clause-damage_told
returns-clause-damage_told g c damage is = absurd (no_fault is)
