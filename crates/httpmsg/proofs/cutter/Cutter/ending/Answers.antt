use Rattle.std.proofs.Common.{ap, sym, ◌∙◌, inl, ◌≡◌, true, false, length}
use Rattle.std.specs.Bool.{◌==◌}
use Rattle.httpmsg.specs.Cut.{end_of}
use Rattle.httpmsg.proofs.Leads.{cut_stream}
use Rattle.httpmsg.proofs.Feeds.{nothing_left, something_left}
use Rattle.httpmsg.proofs.cutter.Cutter.ending.Goals as goal

pub returns-in-Some-Broken-clause-stream : goal.returns-in-Some-Broken-clause-stream
returns-in-Some-Broken-clause-stream c = λ all ms cut. cut_stream all ms c.args.self.now cut

pub returns-in-Some-Closed-clause-stream : goal.returns-in-Some-Closed-clause-stream
returns-in-Some-Closed-clause-stream c = λ all ms cut. cut_stream all ms c.args.self.now cut

pub returns-in-Some-Closed-2-clause-stream : goal.returns-in-Some-Closed-2-clause-stream
returns-in-Some-Closed-2-clause-stream c = λ all ms cut. cut_stream all ms c.args.self.now cut

pub returns-then-is_empty-clause-stream : goal.returns-then-is_empty-clause-stream
returns-then-is_empty-clause-stream c = λ all ms cut. cut_stream all ms c.args.self.now cut

pub returns-then-is_empty-clause-end : goal.returns-then-is_empty-clause-end
returns-then-is_empty-clause-end c =
    let none : (length c.self.inside.pending.items == 0) ≡ true =
    ap (λ x. length x == 0) (sym c.as_slice.ensures.value) ∙ sym c.is_empty.ensures ∙ c.if-is_empty.true
    in
    inl (ap end_of (sym c.self.view_is)
    ∙ nothing_left (record { pending = c.self.inside.pending.items; end = c.self.inside.end }) c.in-None.is none)

pub returns-else-is_empty-clause-stream : goal.returns-else-is_empty-clause-stream
returns-else-is_empty-clause-stream c = λ all ms cut. cut_stream all ms c.args.self.now cut

pub returns-else-is_empty-clause-end : goal.returns-else-is_empty-clause-end
returns-else-is_empty-clause-end c =
    let some : (length c.self.inside.pending.items == 0) ≡ false =
    ap (λ x. length x == 0) (sym c.as_slice.ensures.value) ∙ sym c.is_empty.ensures ∙ c.if-is_empty.false
    in
    ap end_of (sym c.self.view_is)
    ∙ something_left (record { pending = c.self.inside.pending.items; end = c.self.inside.end }) c.in-None.is some
