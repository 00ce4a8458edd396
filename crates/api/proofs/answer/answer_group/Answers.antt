use Rattle.std.proofs.Common.{arith, length, eqb-true, ◌∙◌, sym, refl, [], take, drop}
use Rattle.std.proofs.lemmas.List.{append-nil, take-append-drop, take_rest, length-drop, nil_from_length}
use Rattle.api.proofs.Causes.{no_fault, causes_none, causes_later, refuses_passed}
use Rattle.api.proofs.Folds.{before_none, before_more, before_all, before_stops}
use Rattle.api.proofs.answer.answer_group.Goals as goal

pub loop-rest-init : goal.loop-rest-init
loop-rest-init g c = record {
  before = λ rules v shows. before_none rules g.O.Output.took g.met.O.Output.took_then c.args.output.now c.args.store.now v c.args.messages.now
      (g.met.O.Output.took_none c.args.output.now) shows (λ keeps content since. g.met.D.Device.only_now _ content keeps since);
  output_well = refl;
  device_later = omega arith;
  goes_on = refl;
  few = c.requires;
}

pub returns-in-Err-clause-outcome : goal.returns-in-Err-clause-outcome
returns-in-Err-clause-outcome g c rules v shows =
    let rest = c.loop-rest.rest.now in
    let before = c.loop-rest.invariant.before rules v shows in
    before_stops rules g.O.Output.took g.met.O.Output.took_then g.O.Output.failures c.args.output.now c.loop-rest.output c.answer_front.new.output
    (omega (arith, c.loop-rest.invariant.output_well)) c.args.store.now c.loop-rest.store c.answer_front.new.store v c.args.messages.now rest rest [] c.in-Err.fault before
    (sym (append-nil rest)) (c.in-Err.ensures.outcome rules _ before.answers.store.shows)

pub loop-rest-preserved : goal.loop-rest-preserved
loop-rest-preserved g c =
    let rest = c.loop-rest.rest.now in
    let count = c.in-Ok.count in
    record {
      before = λ rules v shows.
          let before = c.loop-rest.invariant.before rules v shows in
          simp take_rest
          (before_more rules g.O.Output.took g.met.O.Output.took_then c.args.output.now c.loop-rest.output c.answer_front.new.output c.args.store.now c.loop-rest.store
          c.answer_front.new.store v c.args.messages.now rest (take count rest) (drop count rest) before (sym (take-append-drop count rest))
          (c.in-Ok.ensures.outcome rules _ before.answers.store.shows));
      output_well = c.in-Ok.ensures.causes.output_well ∙ c.loop-rest.invariant.output_well;
      device_later = omega (arith, c.in-Ok.ensures.causes.device_later);
      goes_on = c.in-Ok.ensures.causes.goes_on ∙ c.loop-rest.invariant.goes_on;
      few = simp take_rest (omega (arith, length-drop count rest));
    }

pub returns-clause-outcome : goal.returns-clause-outcome
returns-clause-outcome g c rules v shows =
    before_all rules g.O.Output.took g.met.O.Output.took_then c.args.output.now c.loop-rest.output c.args.store.now c.loop-rest.store v c.args.messages.now c.loop-rest.rest.now
    (c.loop-rest.invariant.before rules v shows) (nil_from_length c.loop-rest.rest.now (eqb-true (length c.loop-rest.rest.now) 0 (sym c.is_empty.ensures ∙ c.loop-rest-test.false)))

pub returns-in-Err-clause-causes : goal.returns-in-Err-clause-causes
returns-in-Err-clause-causes g c =
    causes_later _ _ _ _ _ _ _ _ _ c.in-Err.fault (omega (arith, c.loop-rest.invariant.output_well)) c.loop-rest.invariant.device_later c.loop-rest.invariant.goes_on c.in-Err.ensures.causes

pub returns-clause-causes : goal.returns-clause-causes
returns-clause-causes g c = causes_none _ _ _ _ _ _ _ c.loop-rest.invariant.output_well c.loop-rest.invariant.device_later c.loop-rest.invariant.goes_on

pub returns-in-Err-clause-damage_told : goal.returns-in-Err-clause-damage_told
returns-in-Err-clause-damage_told g c =
    refuses_passed g.O.Output.took g.O.Output.failures c.args.output.now c.loop-rest.output c.answer_front.new.output c.in-Err.fault
    (omega (arith, c.loop-rest.invariant.output_well)) c.in-Err.ensures.damage_told

pub returns-clause-damage_told : goal.returns-clause-damage_told
returns-clause-damage_told g c damage is = absurd (no_fault is)
