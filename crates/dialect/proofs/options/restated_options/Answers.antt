use Rattle.std.proofs.Common.{rules, ◌≡◌, true, string_bytes}
use Rattle.serde_json.specs.Data.{Data}
use Rattle.requests.proofs.Forms.{IsDocument-text}
use Rattle.dialect.specs.Options.{has_idle_option, kept_options}
use Rattle.dialect.proofs.Complete.{options_again}
use Rattle.dialect.proofs.options.restated_options.Goals as goal

pub returns-clause-again : goal.returns-clause-again
returns-clause-again c =
    let d : Data = c.in-Ok.options in
    let idle : has_idle_option d ≡ true = search rules in
    options_again c.args.body.now d c.in-Ok.ensures.ok c.in-Ok.ensures.nests idle
    (IsDocument-text (kept_options d) c.keep_options.new.options (string_bytes c.in_ok-text.field-0) c.keep_options.ensures c.in_ok-text.ensures.text c.in_ok-text.ensures.reads_back)
