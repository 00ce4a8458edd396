use Rattle.std.proofs.Common.{map}
use Rattle.histories.specs.Mapped.{mapped}
use Rattle.decoded.specs.Shown.{plans_held}
use Rattle.records.specs.WriteOf.{write_of}
use Rattle.recovery.specs.Known.{IsOfGroup}
use Rattle.recovery.proofs.Histories.{on_ok_to, always_ok, group_taken, group_recorded}
use Rattle.recovery.proofs.Knowing.{written_known}
use Rattle.recovery.proofs.redo.redo.Goals as goal

pub returns-clause-taken : goal.returns-clause-taken
returns-clause-taken c = λ base held shows known.
    let read = c.in_ok-writes in
    on_ok_to c.redo_writes.result _ _
    (λ taken. (
      taken.0,
      taken.1,
      group_taken c.args.core.now.rules (mapped plans_held held) (mapped plans_held taken.0) (map write_of read.writes.items) c.args.bytes.now taken.2 read.ensures.form read.ensures.writes,
    ))
    (c.redo_writes.ensures.taken base held shows
    (written_known c.args.core.now base (map write_of read.writes.items) c.args.bytes.now read.ensures.form read.ensures.writes known))

pub returns-clause-group : goal.returns-clause-group
returns-clause-group c =
    let read = c.in_ok-writes in
    always_ok c.redo_writes.result (IsOfGroup c.args.bytes.now) (map write_of read.writes.items, read.ensures.form, read.ensures.writes)

pub returns-clause-damaged : goal.returns-clause-damaged
returns-clause-damaged c = λ base held shows known is_damaged ws group is follow.
    let read = c.in_ok-writes in
    c.redo_writes.ensures.damaged base held shows
    (written_known c.args.core.now base (map write_of read.writes.items) c.args.bytes.now read.ensures.form read.ensures.writes known) is_damaged ws
    (group_recorded ws (map write_of read.writes.items) c.args.bytes.now group read.ensures.form is read.ensures.writes) follow

pub returns-clause-plans : goal.returns-clause-plans
returns-clause-plans c = λ told.
    let read = c.in_ok-writes in
    record { writes = map write_of read.writes.items; group = read.ensures.form; payload_is = read.ensures.writes; one = c.redo_writes.ensures.plans told }
