use Rattle.std.proofs.Common.{arith, [], ◌∙◌, ap, sym, subst, List, Err}
use Rattle.httpmsg.specs.Stream.{Message}
use Rattle.api.specs.Answers.{Answers, Stops}
use Rattle.api.proofs.Causes.{no_fault, causes_none, causes_retyped, causes_output, refuses_passed, no_damage_told}
use Rattle.api.proofs.Tellings.{tells_by, breaks_by, unfed}
use Rattle.api.proofs.piece.Connection.take_piece.Goals as goal

pub returns-in-Ok-answer_all-clause-outcome : goal.returns-in-Ok-answer_all-clause-outcome
returns-in-Ok-answer_all-clause-outcome g c rules v read ms shows cut =
    let took = g.O.Output.took in
    let more : List Message = c.in-Ok.messages.items in
    let Answered : List Message → Type 0 =
    λ xs. Answers rules took c.args.output.now c.answer_all.new.output c.args.store.now c.answer_all.new.store v xs []
    in
    tells_by rules took g.O.Output.failures c.args.output.now c.answer_all.new.output c.args.store.now c.answer_all.new.store v read ms c.args.self.now.cutter c.args.piece.now
    c.feed.new.self c.told_by.result
    (record {
      more = more;
      cut = c.in-Ok.ensures.ok read ms cut;
      answers = subst Answered c.deref.ensures.value (c.in-Ok-answer_all.ensures.outcome rules v shows);
    })
    (λ is. let none = c.told_by.ensures.nothing is in (sym c.deref-in-Ok-answer_all.ensures.value ∙ none.0, none.1))
    c.told_by.ensures.ends c.in-Ok.ensures.told

pub returns-in-Ok-clause-outcome : goal.returns-in-Ok-clause-outcome
returns-in-Ok-clause-outcome g c rules v read ms shows cut =
    let took = g.O.Output.took in
    let Stopped : List Message → Type 0 =
    λ xs. Stops rules took g.O.Output.failures c.args.output.now c.answer_all.new.output c.args.store.now c.answer_all.new.store v xs c.in-Err-answer_all.fault
    in
    breaks_by rules took g.O.Output.failures c.args.output.now c.answer_all.new.output c.args.store.now c.answer_all.new.store v read ms c.in-Ok.messages.items
    c.args.self.now.cutter c.args.piece.now c.feed.new.self c.in-Err-answer_all.fault (c.in-Ok.ensures.ok read ms cut)
    (subst Stopped c.deref.ensures.value (c.in-Err-answer_all.ensures.outcome rules v shows))

pub returns-clause-outcome : goal.returns-clause-outcome
returns-clause-outcome g c rules v read ms shows cut =
    unfed rules g.O.Output.took g.O.Output.failures c.args.output.now c.answer_fault.new.output c.args.store.now v read ms c.args.self.now.cutter c.args.piece.now
    c.feed.new.self c.in-Err.fault c.answer_fault.result
    (λ b is. c.in-Err.ensures.broken read ms cut b (ap Err is)) (λ is. c.in-Err.ensures.memory (ap Err is))
    c.answer_fault.ensures.broken c.answer_fault.ensures.memory
    (λ keeps content since. g.met.D.Device.only_now _ content keeps since) shows

pub returns-in-Ok-answer_all-clause-causes : goal.returns-in-Ok-answer_all-clause-causes
returns-in-Ok-answer_all-clause-causes g c =
    let causes = c.in-Ok-answer_all.ensures.causes in
    causes_none _ _ _ _ _ _ c.told_by.result causes.output_well causes.device_later causes.goes_on

pub returns-in-Ok-clause-causes : goal.returns-in-Ok-clause-causes
returns-in-Ok-clause-causes g c = causes_retyped _ _ _ _ _ _ c.in-Err-answer_all.fault c.in-Err-answer_all.ensures.causes

pub returns-clause-causes : goal.returns-clause-causes
returns-clause-causes g c = causes_output _ _ _ _ c.answer_fault.result c.answer_fault.ensures.later c.answer_fault.ensures.well c.answer_fault.ensures.cause c.answer_fault.ensures.only

pub returns-in-Ok-answer_all-clause-damage_told : goal.returns-in-Ok-answer_all-clause-damage_told
returns-in-Ok-answer_all-clause-damage_told g c damage is = absurd (no_fault is)

pub returns-in-Ok-clause-damage_told : goal.returns-in-Ok-clause-damage_told
returns-in-Ok-clause-damage_told g c =
    refuses_passed g.O.Output.took g.O.Output.failures c.args.output.now c.args.output.now c.answer_all.new.output c.in-Err-answer_all.fault (omega arith)
    c.in-Err-answer_all.ensures.damage_told

pub returns-clause-damage_told : goal.returns-clause-damage_told
returns-clause-damage_told g c damage is = no_damage_told c.answer_fault.result c.answer_fault.ensures.only damage is
