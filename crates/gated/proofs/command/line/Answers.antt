use Rattle.std.proofs.Common.{ap, codes, true, ◌≡◌, ◌∙◌}
use Rattle.std.proofs.lemmas.Result.{IfOk-weaker}
use Rattle.clap.specs.Words.{App, Shape, Text, app_of, new_app, with_subcommand}
use Rattle.clap.specs.Simple.{app_of_fields, on_top}
use Rattle.gated.specs.CommandLine.{create_shape, gated_line, over_file, serve_shape}
use Rattle.gated.proofs.command.line.Goals as goal

-- the line, with a subcommand of this name that takes a file
abbrev with : Text → App → App
with name line = with_subcommand line (over_file name)

pub returns : goal.returns
unfolding gated_line
returns c =
    let alone : app_of c.subcommand_required-alone.result
    ≡ on_top (λ (s : Shape). record s { has_version = true; subcommand_required = true }) (new_app (codes "gated")) =
    ap app_of_fields c.subcommand_required-alone.ensures ∙ ap (on_top (λ (s : Shape). record s { subcommand_required = true }))
    (ap app_of_fields c.version.ensures ∙ ap (on_top (λ (s : Shape). record s { has_version = true })) (ap app_of_fields c.about.ensures ∙ c.new.ensures.app))
    in
    let with_create = c.in_ok-with_create.ensures ∙ ap (λ (line : App). with_subcommand line create_shape) alone in
    let with_replay = c.in_ok-with_replay.ensures ∙ ap (with (codes "replay")) with_create in
    let with_serve = c.in_ok-with_serve.ensures ∙ ap (λ (line : App). with_subcommand line serve_shape) with_replay in
    let with_compact = c.in_ok-with_compact.ensures ∙ ap (with (codes "compact")) with_serve in
    let with_upgrade = c.in_ok-with_upgrade.ensures ∙ ap (with (codes "upgrade")) with_compact in
    IfOk-weaker c.with_over_file-4.result _ _ (λ r h. h ∙ ap (with (codes "check")) with_upgrade) c.with_over_file-4.ensures
