use Rattle.std.proofs.Common.{arith, subst, inl, inr, take, refl, ℕ}
use Rattle.api.specs.declared.piece.Told.{Told}
use Rattle.api.specs.declared.fault.ServeFault.TheVariants.{Read, Damaged}
use Rattle.api.specs.Piece.{Tells}
use Rattle.api.proofs.Causes.{no_fault, apart, all_none, all_read, all_of, refuses_passed}
use Rattle.api.proofs.piece.next_step.Goals as goal

pub returns-in-Ok-Messages-clause-outcome : goal.returns-in-Ok-Messages-clause-outcome
returns-in-Ok-Messages-clause-outcome g c rules v read ms shows cut =
    let Told_by : Told → Type 0 =
    λ t. Tells rules g.O.Output.took g.O.Output.failures c.args.output.now c.take_piece.new.output c.args.store.now c.take_piece.new.store v read ms c.args.connection.now.cutter
    (take c.args.count c.args.buffer.now) c.take_piece.new.self.cutter t
    in (
      subst Told_by c.in-Ok-Messages.field-0-is (c.in-Ok-Messages.ensures.outcome rules v read ms shows cut),
      g.met.I.Input.gave_none c.args.input.now,
      omega arith,
    )

pub returns-in-Ok-Ends-clause-outcome : goal.returns-in-Ok-Ends-clause-outcome
returns-in-Ok-Ends-clause-outcome g c rules v read ms shows cut =
    let Told_by : Told → Type 0 =
    λ t. Tells rules g.O.Output.took g.O.Output.failures c.args.output.now c.take_piece.new.output c.args.store.now c.take_piece.new.store v read ms c.args.connection.now.cutter
    (take c.args.count c.args.buffer.now) c.take_piece.new.self.cutter t
    in
    let told = subst Told_by c.in-Ok-Ends.field-0-is (c.in-Ok-Ends.ensures.outcome rules v read ms shows cut) in
    (told.0, told.1, g.met.I.Input.gave_none c.args.input.now)

pub returns-in-Err-clause-outcome : goal.returns-in-Err-clause-outcome
returns-in-Err-clause-outcome g c rules v read ms shows cut =
    (inl (c.in-Err.ensures.outcome rules v read ms shows cut), g.met.I.Input.gave_none c.args.input.now)

pub returns-in-Ok-eq0-clause-outcome : goal.returns-in-Ok-eq0-clause-outcome
returns-in-Ok-eq0-clause-outcome g c rules v read ms shows cut =
    let Told_by : Told → Type 0 =
    λ t. Tells rules g.O.Output.took g.O.Output.failures c.args.output.now c.take_piece.new.output c.args.store.now c.take_piece.new.store v read ms c.args.connection.now.cutter
    (take c.args.count c.args.buffer.now) c.take_piece.new.self.cutter t
    in
    let Gave : ℕ → Type 0 = λ n. g.I.Input.gave c.args.input.now c.read.new.self (take n c.read.new.buffer) in
    let told = subst Told_by c.in-Ok-Nothing.field-0-is (c.in-Ok-Nothing.ensures.outcome rules v read ms shows cut) in (
      told.0,
      told.1,
      subst Gave c.in-Ok-eq0.field-0-test c.in-Ok-eq0.ensures.gives,
      c.in-Ok-eq0.ensures.ends c.in-Ok-eq0.field-0-test (omega (arith, c.requires.room, c.read.auto.buffer)),
    )

pub returns-in-Ok-clause-outcome : goal.returns-in-Ok-clause-outcome
returns-in-Ok-clause-outcome g c rules v read ms shows cut =
    let Told_by : Told → Type 0 =
    λ t. Tells rules g.O.Output.took g.O.Output.failures c.args.output.now c.take_piece.new.output c.args.store.now c.take_piece.new.store v read ms c.args.connection.now.cutter
    (take c.args.count c.args.buffer.now) c.take_piece.new.self.cutter t
    in
    let told = subst Told_by c.in-Ok-Nothing.field-0-is (c.in-Ok-Nothing.ensures.outcome rules v read ms shows cut) in
    (told.0, c.in-Ok.ensures.gives, c.in-Ok.ensures.count)

pub returns-in-Err-read-clause-outcome : goal.returns-in-Err-read-clause-outcome
returns-in-Err-read-clause-outcome g c rules v read ms shows cut =
    let Told_by : Told → Type 0 =
    λ t. Tells rules g.O.Output.took g.O.Output.failures c.args.output.now c.take_piece.new.output c.args.store.now c.take_piece.new.store v read ms c.args.connection.now.cutter
    (take c.args.count c.args.buffer.now) c.take_piece.new.self.cutter t
    in
    let told = subst Told_by c.in-Ok-Nothing.field-0-is (c.in-Ok-Nothing.ensures.outcome rules v read ms shows cut) in
    (inr (refl, told.0, told.1), c.in-Err-read.ensures.nothing)

pub returns-in-Ok-Messages-clause-causes : goal.returns-in-Ok-Messages-clause-causes
returns-in-Ok-Messages-clause-causes g c =
    let causes = c.in-Ok-Messages.ensures.causes in
    all_none _ _ _ _ _ _ _ _ _ refl causes.output_well causes.device_later causes.goes_on

pub returns-in-Ok-Ends-clause-causes : goal.returns-in-Ok-Ends-clause-causes
returns-in-Ok-Ends-clause-causes g c =
    let causes = c.in-Ok-Ends.ensures.causes in
    all_none _ _ _ _ _ _ _ _ _ refl causes.output_well causes.device_later causes.goes_on

pub returns-in-Err-clause-causes : goal.returns-in-Err-clause-causes
returns-in-Err-clause-causes g c = all_of _ _ _ _ _ _ _ c.in-Err.fault c.in-Err.ensures.causes

pub returns-in-Ok-eq0-clause-causes : goal.returns-in-Ok-eq0-clause-causes
returns-in-Ok-eq0-clause-causes g c =
    let causes = c.in-Ok-Nothing.ensures.causes in
    all_none _ _ _ _ _ _ _ _ _ (c.in-Ok-eq0.ensures.cause.well refl) causes.output_well causes.device_later causes.goes_on

pub returns-in-Ok-clause-causes : goal.returns-in-Ok-clause-causes
returns-in-Ok-clause-causes g c =
    let causes = c.in-Ok-Nothing.ensures.causes in
    all_none _ _ _ _ _ _ _ _ _ (c.in-Ok.ensures.cause.well refl) causes.output_well causes.device_later causes.goes_on

pub returns-in-Err-read-clause-causes : goal.returns-in-Err-read-clause-causes
returns-in-Err-read-clause-causes g c =
    let causes = c.in-Ok-Nothing.ensures.causes in
    let read = c.in-Err-read.ensures.cause in
    all_read _ _ _ _ _ _ _ _ read.later causes.output_later causes.device_later (read.failed refl)

pub returns-in-Ok-Messages-clause-damage_told : goal.returns-in-Ok-Messages-clause-damage_told
returns-in-Ok-Messages-clause-damage_told g c damage is = absurd (no_fault is)

pub returns-in-Ok-Ends-clause-damage_told : goal.returns-in-Ok-Ends-clause-damage_told
returns-in-Ok-Ends-clause-damage_told g c damage is = absurd (no_fault is)

pub returns-in-Ok-eq0-clause-damage_told : goal.returns-in-Ok-eq0-clause-damage_told
returns-in-Ok-eq0-clause-damage_told g c damage is = absurd (no_fault is)

pub returns-in-Ok-clause-damage_told : goal.returns-in-Ok-clause-damage_told
returns-in-Ok-clause-damage_told g c damage is = absurd (no_fault is)

pub returns-in-Err-clause-damage_told : goal.returns-in-Err-clause-damage_told
returns-in-Err-clause-damage_told g c =
    refuses_passed g.O.Output.took g.O.Output.failures c.args.output.now c.args.output.now c.take_piece.new.output c.in-Err.fault (omega arith)
    c.in-Err.ensures.damage_told

pub returns-in-Err-read-clause-damage_told : goal.returns-in-Err-read-clause-damage_told
returns-in-Err-read-clause-damage_told g c damage is = apart Read (Damaged damage) (λ is. cc) is
