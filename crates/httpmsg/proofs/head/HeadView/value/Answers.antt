use Rattle.std.proofs.Common.{sym, ◌∙◌}
use Rattle.httparse.specs.Spans.{header_bytes}
use Rattle.httpmsg.proofs.Values.{first_value}
use Rattle.httpmsg.proofs.head.HeadView.value.Goals as goal

pub returns : goal.returns
returns c =
    rw (← c.self.view_is) (c.value_named.ensures ∙ sym (first_value c.args.name.now (header_bytes c.self.inside.bytes.now) c.self.inside.fields.now))
