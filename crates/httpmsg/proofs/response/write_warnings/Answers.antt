use Rattle.std.proofs.Common.{◌≡◌, ℕ, List, ap, ◌∙◌, subst, get_or, refl}
use Rattle.std.specs.String.{string_bytes}
use Rattle.httpmsg.specs.Flow.{TookSome}
use Rattle.httpmsg.specs.Response.{warning_line}
use Rattle.httpmsg.proofs.Flows.{piece_some, piece_more}
use Rattle.httpmsg.proofs.response.write_warnings.Goals as goal

pub returns-in-Err-clause-writes : goal.returns-in-Err-clause-writes
returns-in-Err-clause-writes g c =
    let Some_taken : List ℕ → Type 0 = λ w. TookSome g.O.Output.took c.loop-warning.output c.write_warning.new.output w in
    let line_is : warning_line c.deref.result.now
    ≡ warning_line (string_bytes (get_or c.args.warnings.now c.loop-warning.warning-index c.warning-item.result)) =
    ap warning_line (c.deref.ensures ∙ ap string_bytes c.warning-item.is)
    in
    piece_some g.O.Output.took g.met.O.Output.took_none g.met.O.Output.took_then (λ w. warning_line (string_bytes w)) c.args.warnings.now
    c.loop-warning.warning-index c.warning-item.result c.args.output.now c.loop-warning.output c.write_warning.new.output
    c.loop-warning-test.true c.loop-warning.invariant.0 (subst Some_taken line_is c.in-Err.ensures.writes)

pub loop-warning-preserved : goal.loop-warning-preserved
loop-warning-preserved g c =
    let Taken : List ℕ → Type 0 = λ w. g.O.Output.took c.loop-warning.output c.write_warning.new.output w in
    let line_is : warning_line c.deref.result.now
    ≡ warning_line (string_bytes (get_or c.args.warnings.now c.loop-warning.warning-index c.warning-item.result)) =
    ap warning_line (c.deref.ensures ∙ ap string_bytes c.warning-item.is)
    in (
      piece_more g.O.Output.took g.met.O.Output.took_none g.met.O.Output.took_then (λ w. warning_line (string_bytes w)) c.args.warnings.now
          c.loop-warning.warning-index c.warning-item.result c.args.output.now c.loop-warning.output c.write_warning.new.output
          c.loop-warning-test.true c.loop-warning.invariant.0 (subst Taken line_is c.in-Ok.ensures.writes),
      c.in-Ok.ensures.cause.well refl ∙ c.loop-warning.invariant.1,
    )
