use Rattle.std.proofs.Common.{rules, ◌≡◌, ◌<◌, ◌∙◌, sym, ap, Some, None}
use Rattle.std.proofs.lemmas.List.{get_or-set_same}
use Rattle.clients.specs.declared.line.Line.{Line}
use Rattle.clients.specs.Places.{count, line_at}
use Rattle.clients.proofs.Turns.{some_same, at_index}
use Rattle.clients.proofs.places.Places.mark.Goals as goal

pub returns-in-Some-clause-stream : goal.returns-in-Some-clause-stream
returns-in-Some-clause-stream g c line is =
    let inside : c.args.place < count c.args.self.now = search rules in
    let at : line_at c.args.self.now c.args.place ≡ Some c.in-Some.line =
    at_index c.args.self.now.lines.items c.args.place c.index_mut.result.now None inside c.index_mut.ensures.value ∙ c.in-Some.is in
    let same : c.in-Some.line ≡ line = some_same c.in-Some.line line (sym at ∙ is) in
    (c.mark.new.self, get_or-set_same c.args.self.now.lines.items c.args.place (Some c.mark.new.self) None inside, c.mark.ensures.stream ∙ ap (λ (l : Line g.row.S.Denot). l.stream) same, c.mark.ensures.later ∙ ap (λ (l : Line g.row.S.Denot). l.later) same)
