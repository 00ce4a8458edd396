use Rattle.std.proofs.Common.{◌≡◌, take}
use Rattle.std.specs.String.{string_bytes}
use Rattle.std.specs.List.{flat_map}
use Rattle.httpmsg.specs.Response.{warning_line}
use Rattle.httpmsg.proofs.response.write_warnings.Given as goal

abbrev pub invariant-loop-warning : goal.invariant-loop-warning
invariant-loop-warning g l =
    g.O.Output.took l.fn.output l.output (flat_map (λ w. warning_line (string_bytes w)) (take l.warning-index l.warnings))
    × (g.O.Output.failures l.output ≡ g.O.Output.failures l.fn.output)
