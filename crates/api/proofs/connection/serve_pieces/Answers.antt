use Rattle.std.proofs.Common.{[], Ok, Err, ap, arith, refl, sym, inl, ◌≤◌, ◌∙◌, subst, take}
use Rattle.std.proofs.lemmas.Result.{on_ok_weaker}
use Rattle.httpmsg.specs.Stream.{Progress}
use Rattle.api.specs.declared.piece.Step.{Step}
use Rattle.api.specs.Piece.{Steps}
use Rattle.api.specs.declared.fault.ServeFault.TheVariants.{Memory, Write, Damaged}
use Rattle.api.proofs.Causes.{no_fault, all_none, all_end, apart, write_alone, refuses_passed, no_damage_told}
use Rattle.api.proofs.Folds.{seen, grown_after}
use Rattle.api.proofs.Runs.{SoFar, so_far_none, so_far_told, so_far_read, no_more, no_more_in_part, ended_at, wrong_at, finished_at, causes_err}
use Rattle.api.proofs.connection.serve_pieces.Goals as goal

pub loop-init : goal.loop-init
loop-init g c = (
  λ rules v shows.
      let gave = g.I.Input.gave in
      let took = g.O.Output.took in
      let Now : Progress → Type 0 =
      λ now. SoFar rules gave took c.args.input.now c.args.input.now c.args.output.now c.args.output.now c.args.store.now c.args.store.now v now []
      in
      subst Now (sym c.requires.fresh)
      (so_far_none rules gave took g.O.Output.failures c.args.input.now c.args.output.now c.args.store.now v (g.met.I.Input.gave_none c.args.input.now)
      (g.met.O.Output.took_none c.args.output.now) (λ keeps content since. g.met.D.Device.only_now _ content keeps since) shows),
  omega arith,
  c.requires.buffer,
  refl,
  refl,
  omega arith,
  refl,
)

pub returns-in-Ok-Finish-clause-outcome : goal.returns-in-Ok-Finish-clause-outcome
returns-in-Ok-Finish-clause-outcome g c rules v shows =
    let gave = g.I.Input.gave in
    let took = g.O.Output.took in
    let so_far = c.loop.invariant.0 rules v shows in
    let Stepped : Step → Type 0 =
    λ step. Steps rules gave took g.O.Output.failures c.loop.input c.next_step.new.input c.loop.output c.next_step.new.output c.loop.store c.next_step.new.store
    (seen rules v so_far.answers.answered) so_far.read so_far.ms c.loop.connection.cutter (take c.loop.count c.loop.buffer) c.next_step.new.connection.cutter
    c.next_step.new.buffer (g.I.Input.has_ended c.next_step.new.input) step
    in
    let step = subst Stepped c.in-Ok-Finish.field-0-is (c.in-Ok-Finish.ensures.outcome rules _ so_far.read so_far.ms so_far.answers.store.shows so_far.cut) in
    let later =
    so_far_told rules gave took g.O.Output.failures g.met.O.Output.took_then c.args.input.now c.loop.input c.args.output.now c.loop.output c.next_step.new.output c.args.store.now
    c.loop.store c.next_step.new.store v c.loop.connection.cutter c.next_step.new.connection.cutter (take c.loop.count c.loop.buffer) so_far step.0
    in
    finished_at rules gave took g.O.Output.failures g.met.O.Output.took_then c.args.input.now c.loop.input c.next_step.new.input c.args.output.now c.next_step.new.output
    c.finish.new.output c.args.store.now c.next_step.new.store v c.next_step.new.connection.cutter (g.I.Input.has_ended c.next_step.new.input) c.finish.result
    g.met.I.Input.gave_then later step.2 step.3 (c.finish.ensures.outcome later.read later.ms later.cut step.1)

pub returns-in-Ok-End-clause-outcome : goal.returns-in-Ok-End-clause-outcome
returns-in-Ok-End-clause-outcome g c rules v shows =
    let gave = g.I.Input.gave in
    let took = g.O.Output.took in
    let so_far = c.loop.invariant.0 rules v shows in
    let Stepped : Step → Type 0 =
    λ step. Steps rules gave took g.O.Output.failures c.loop.input c.next_step.new.input c.loop.output c.next_step.new.output c.loop.store c.next_step.new.store
    (seen rules v so_far.answers.answered) so_far.read so_far.ms c.loop.connection.cutter (take c.loop.count c.loop.buffer) c.next_step.new.connection.cutter
    c.next_step.new.buffer (g.I.Input.has_ended c.next_step.new.input) step
    in
    ended_at rules gave took g.O.Output.failures g.met.O.Output.took_then c.args.input.now c.loop.input c.next_step.new.input c.args.output.now c.loop.output c.next_step.new.output
    c.args.store.now c.loop.store c.next_step.new.store v c.loop.connection.cutter c.next_step.new.connection.cutter (take c.loop.count c.loop.buffer)
    (g.I.Input.has_ended c.next_step.new.input) c.in-Ok-End.end g.met.I.Input.gave_then so_far
    (subst Stepped c.in-Ok-End.field-0-is (c.in-Ok-End.ensures.outcome rules _ so_far.read so_far.ms so_far.answers.store.shows so_far.cut))

pub returns-in-Err-clause-outcome : goal.returns-in-Err-clause-outcome
returns-in-Err-clause-outcome g c rules v shows =
    let so_far = c.loop.invariant.0 rules v shows in
    wrong_at rules g.I.Input.gave g.O.Output.took g.O.Output.failures g.met.O.Output.took_then c.args.input.now c.loop.input c.next_step.new.input c.args.output.now c.loop.output
    c.next_step.new.output (omega (arith, c.loop.invariant.4)) c.args.store.now c.loop.store c.next_step.new.store v c.loop.connection.cutter c.next_step.new.connection.cutter
    (take c.loop.count c.loop.buffer) c.in-Err.fault g.met.I.Input.gave_then so_far
    (c.in-Err.ensures.outcome rules _ so_far.read so_far.ms so_far.answers.store.shows so_far.cut)

pub returns-in-Err-clause-causes : goal.returns-in-Err-clause-causes
returns-in-Err-clause-causes g c =
    causes_err _ _ _ _ _ _ _ _ _ _ _ _ c.in-Err.fault c.loop.invariant.3 (omega (arith, c.loop.invariant.4)) c.loop.invariant.5 c.loop.invariant.6 c.in-Err.ensures.causes

pub loop-preserved : goal.loop-preserved
loop-preserved g c = (
  λ rules v shows.
      let gave = g.I.Input.gave in
      let took = g.O.Output.took in
      let so_far = c.loop.invariant.0 rules v shows in
      let Stepped : Step → Type 0 =
      λ step. Steps rules gave took g.O.Output.failures c.loop.input c.next_step.new.input c.loop.output c.next_step.new.output c.loop.store c.next_step.new.store
      (seen rules v so_far.answers.answered) so_far.read so_far.ms c.loop.connection.cutter (take c.loop.count c.loop.buffer) c.next_step.new.connection.cutter
      c.next_step.new.buffer (g.I.Input.has_ended c.next_step.new.input) step
      in
      let step = subst Stepped c.in-Ok-Feed.field-0-is (c.in-Ok-Feed.ensures.outcome rules _ so_far.read so_far.ms so_far.answers.store.shows so_far.cut) in
      so_far_read rules gave took g.O.Output.failures c.args.input.now c.loop.input c.next_step.new.input c.args.output.now c.next_step.new.output c.args.store.now
      c.next_step.new.store v c.next_step.new.connection.cutter (take c.in-Ok-Feed.more c.next_step.new.buffer) g.met.I.Input.gave_then
      (so_far_told rules gave took g.O.Output.failures g.met.O.Output.took_then c.args.input.now c.loop.input c.args.output.now c.loop.output c.next_step.new.output
      c.args.store.now c.loop.store c.next_step.new.store v c.loop.connection.cutter c.next_step.new.connection.cutter (take c.loop.count c.loop.buffer) so_far step.0)
      step.1,
  c.in-Ok-Feed.ensures.fits c.in-Ok-Feed.more (ap Ok c.in-Ok-Feed.field-0-is),
  omega (arith, c.loop.invariant.2, c.next_step.auto.buffer),
  c.in-Ok-Feed.ensures.causes.input_well no_fault ∙ c.loop.invariant.3,
  c.in-Ok-Feed.ensures.causes.output_well ∙ c.loop.invariant.4,
  omega (arith, c.loop.invariant.5, c.in-Ok-Feed.ensures.causes.device_later),
  c.in-Ok-Feed.ensures.causes.goes_on ∙ c.loop.invariant.6,
)

pub returns-in-Ok-clause-outcome : goal.returns-in-Ok-clause-outcome
returns-in-Ok-clause-outcome g c rules v shows =
    no_more rules g.I.Input.gave g.O.Output.took g.O.Output.failures g.met.O.Output.took_then c.args.input.now c.loop.input c.args.output.now c.loop.output
    c.write_no_more-written.new.output c.args.store.now c.loop.store v c.loop.connection.cutter (take c.loop.count c.loop.buffer) (c.loop.invariant.0 rules v shows)
    c.in-Ok.ensures.writes

pub returns-in-Ok-clause-causes : goal.returns-in-Ok-clause-causes
returns-in-Ok-clause-causes g c =
    all_end _ _ _ _ _ _ _ _ (Err Memory) c.loop.invariant.3 (omega (arith, c.loop.invariant.4, c.write_no_more-written.ensures.cause.later)) tt c.loop.invariant.5 c.loop.invariant.6
    (λ is. apart Memory Write (λ is. cc) is) (inl refl)

pub returns-in-Err-written-clause-outcome : goal.returns-in-Err-written-clause-outcome
returns-in-Err-written-clause-outcome g c rules v shows =
    no_more_in_part rules g.I.Input.gave g.O.Output.took g.O.Output.failures g.met.O.Output.took_then c.args.input.now c.loop.input c.args.output.now c.loop.output
    c.write_no_more-written.new.output c.args.store.now c.loop.store v c.loop.connection.cutter (take c.loop.count c.loop.buffer) (c.loop.invariant.0 rules v shows)
    c.in-Err-written.ensures.writes

pub returns-in-Ok-Finish-clause-causes : goal.returns-in-Ok-Finish-clause-causes
returns-in-Ok-Finish-clause-causes g c =
    let causes = c.in-Ok-Finish.ensures.causes in
    let before : g.O.Output.failures c.args.output.now ≤ g.O.Output.failures c.next_step.new.output = omega (arith, c.loop.invariant.4, causes.output_later) in
    all_end _ _ _ _ _ _ _ _ c.finish.result (causes.input_well no_fault ∙ c.loop.invariant.3) (omega (arith, before, c.finish.ensures.later))
    (on_ok_weaker c.finish.result (λ same. same ∙ causes.output_well ∙ c.loop.invariant.4) c.finish.ensures.well)
    (omega (arith, c.loop.invariant.5, causes.device_later)) (causes.goes_on ∙ c.loop.invariant.6)
    (λ is. grown_after _ _ _ before (c.finish.ensures.cause is)) (write_alone c.finish.result c.finish.ensures.only)

pub returns-in-Ok-End-clause-causes : goal.returns-in-Ok-End-clause-causes
returns-in-Ok-End-clause-causes g c =
    let causes = c.in-Ok-End.ensures.causes in
    all_none _ _ _ _ _ _ _ _ c.in-Ok-End.end (causes.input_well no_fault ∙ c.loop.invariant.3) (causes.output_well ∙ c.loop.invariant.4)
    (omega (arith, c.loop.invariant.5, causes.device_later)) (causes.goes_on ∙ c.loop.invariant.6)

pub returns-in-Ok-Finish-clause-damage_told : goal.returns-in-Ok-Finish-clause-damage_told
returns-in-Ok-Finish-clause-damage_told g c damage is = no_damage_told c.finish.result (write_alone c.finish.result c.finish.ensures.only) damage is

pub returns-in-Ok-End-clause-damage_told : goal.returns-in-Ok-End-clause-damage_told
returns-in-Ok-End-clause-damage_told g c damage is = absurd (no_fault is)

pub returns-in-Err-clause-damage_told : goal.returns-in-Err-clause-damage_told
returns-in-Err-clause-damage_told g c =
    refuses_passed g.O.Output.took g.O.Output.failures c.args.output.now c.loop.output c.next_step.new.output c.in-Err.fault (omega (arith, c.loop.invariant.4))
    c.in-Err.ensures.damage_told

pub returns-in-Ok-clause-damage_told : goal.returns-in-Ok-clause-damage_told
returns-in-Ok-clause-damage_told g c damage is = apart Memory (Damaged damage) (λ is. cc) is

pub returns-in-Err-written-clause-damage_told : goal.returns-in-Err-written-clause-damage_told
returns-in-Err-written-clause-damage_told g c damage is = apart Write (Damaged damage) (λ is. cc) is
