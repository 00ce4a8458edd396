use Rattle.std.proofs.Common.{rules, ◌≡◌, ◌∙◌, ap, true, string_bytes}
use Rattle.serde_json.specs.Data.{Data}
use Rattle.requests.proofs.Forms.{IsDocument-text}
use Rattle.dialect.specs.Labels.{labelled}
use Rattle.dialect.specs.Objects.{completed, is_short, with_kind}
use Rattle.dialect.proofs.Complete.{object_again}
use Rattle.dialect.proofs.nulls.restated_object.Goals as goal

pub returns-clause-again : goal.returns-clause-again
returns-clause-again c =
    let r = c.args.resource in
    let d : Data = c.in-Ok.document in
    let short : is_short r d ≡ true = search rules in
    let same : c.put_label.new.document ≡ completed r d =
    c.in_ok-put_label.ensures ∙ ap (labelled r) (c.in_ok-put_kind.ensures ∙ ap (with_kind r) c.in_ok-drop_null_metadata.ensures) in
    object_again r c.args.body.now d c.in-Ok.ensures.ok c.in-Ok.ensures.nests short
    (IsDocument-text (completed r d) c.put_label.new.document (string_bytes c.in_ok-text.field-0) same c.in_ok-text.ensures.text c.in_ok-text.ensures.reads_back)
