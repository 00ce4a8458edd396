use Rattle.std.proofs.lemmas.List.{length-set}
use Rattle.std.proofs.Common.{subst, rules, ◌≡◌, ◌<◌, ◌∙◌, sym, refl, Some, None, length}
use Rattle.clients.specs.Places.{fresh, count, line_at, session_at}
use Rattle.clients.proofs.Turns.{at_index, sends_nothing, sends_on, sends_off}
use Rattle.clients.proofs.places.Places.last_turn.Goals as goal

pub returns-then-place-len : goal.returns-then-place-len
returns-then-place-len g c =
    sends_nothing g.S.Stream.moved g.S.Stream.has_ended g.S.Stream.failures None g.met.S.Stream.moved_none g.met.S.Stream.moved_then c.args.self.now c.args.place

pub returns-else-is_err : goal.returns-else-is_err
returns-else-is_err g c =
    let inside : c.args.place < count c.args.self.now = search rules in
    let room : c.args.place < length c.args.self.now.sessions.items = search rules in
    let was : line_at c.args.self.now c.args.place ≡ Some c.in-Some.line =
    at_index c.args.self.now.lines.items c.args.place c.index_mut.result.now None inside c.index_mut.ensures.value ∙ c.in-Some.is in
    let had : session_at c.args.self.now c.args.place ≡ c.index_mut-2.result.now =
    at_index c.args.self.now.sessions.items c.args.place c.index_mut-2.result.now fresh room c.index_mut-2.ensures.value in
    sends_on g.S.Stream.moved g.S.Stream.has_ended g.S.Stream.failures None g.met.S.Stream.moved_none g.met.S.Stream.moved_then c.args.self.now _ c.args.place
    c.in-Some.line c.last_turn-turned.new.self c.index_mut-2.result.now c.last_turn-turned.new.session inside room refl refl was had c.last_turn-turned.ensures.sent

pub returns-then-is_err : goal.returns-then-is_err
returns-then-is_err g c =
    let inside : c.args.place < count c.args.self.now = search rules in
    let room : c.args.place < length c.args.self.now.sessions.items = search rules in
    let was : line_at c.args.self.now c.args.place ≡ Some c.in-Some.line =
    at_index c.args.self.now.lines.items c.args.place c.index_mut.result.now None inside c.index_mut.ensures.value ∙ c.in-Some.is in
    let had : session_at c.args.self.now c.args.place ≡ c.index_mut-2.result.now =
    at_index c.args.self.now.sessions.items c.args.place c.index_mut-2.result.now fresh room c.index_mut-2.ensures.value in
    let within = subst (λ n. c.args.place < n) (sym (length-set c.args.self.now.lines.items c.args.place (Some c.last_turn-turned.new.self))) inside in
    sends_off g.S.Stream.moved g.S.Stream.has_ended g.S.Stream.failures None g.met.S.Stream.moved_none g.met.S.Stream.moved_then c.args.self.now _ c.args.place
    c.in-Some.line c.last_turn-turned.new.self c.index_mut-2.result.now c.last_turn-turned.new.session inside room refl refl was had c.let_go.new.self
    c.last_turn-turned.ensures.sent c.let_go.ensures.beside (c.let_go.ensures.free within) c.let_go.ensures.fresh
