use Rattle.std.proofs.Common.{sym, ◌∙◌, codes}
use Rattle.httparse.specs.Spans.{header_bytes}
use Rattle.httpmsg.specs.Head.{lists_close}
use Rattle.httpmsg.proofs.Values.{any_value}
use Rattle.httpmsg.proofs.head.HeadView.says_close.Goals as goal

pub returns : goal.returns
returns c =
    rw (← c.self.view_is) (c.any_says_close.ensures
    ∙ sym (any_value (codes "connection") (header_bytes c.self.inside.bytes.now) lists_close c.self.inside.fields.now))
