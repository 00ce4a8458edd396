use Rattle.std.proofs.Common.{sym, ◌∙◌}
use Rattle.httparse.specs.Spans.{header_bytes}
use Rattle.httpmsg.proofs.Values.{length_values}
use Rattle.httpmsg.proofs.head.HeadView.count.Goals as goal

pub returns : goal.returns
returns c =
    rw (← c.self.view_is) (c.count_named.ensures ∙ sym (length_values c.args.name.now (header_bytes c.self.inside.bytes.now) c.self.inside.fields.now))
