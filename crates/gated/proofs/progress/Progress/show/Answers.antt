use Rattle.std.proofs.Common.{◌∙◌, ◌/◌, subst, codes, Option}
use Rattle.std.specs.Prelude.{decimal}
use Rattle.gated.specs.Progress.{Shows, progress_text}
use Rattle.gated.proofs.Showing.{shows_nothing, shows_written, five_joined}
use Rattle.gated.proofs.progress.Progress.show.Goals as goal

pub returns-in-Ok-clause-shown : goal.returns-in-Ok-clause-shown
returns-in-Ok-clause-shown g c =
    let before = c.args.self.now in
    shows_written g.P.Output.took before.output c.in-Some.output c.write_all.new.output (progress_text before.read_bytes before.written_bytes)
    c.as_bytes.result.now c.write_all.result c.in-Some.is
    (c.as_bytes.ensures.value ∙ c.in-Ok.ensures.ok
    ∙ five_joined (codes "\rgated: ") (decimal (before.read_bytes / 1000000)) (codes " MB read, ") (decimal (before.written_bytes / 1000000)) (codes " MB written"))
    c.write_all.ensures.writes

pub returns-in_default-format-clause-shown : goal.returns-in_default-format-clause-shown
returns-in_default-format-clause-shown g c =
    let before = c.args.self.now in
    let text = progress_text before.read_bytes before.written_bytes in
    subst (λ (o : Option _). Shows g.P.Output.took before.output o text) c.in-Some.is
    (shows_nothing g.P.Output.took g.met.P.Output.took_none before.output text)
