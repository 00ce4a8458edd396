use Rattle.std.proofs.lemmas.List.{length-set}
use Rattle.clients.proofs.Leaving.{reason_of}
use Rattle.std.proofs.Common.{subst, rules, ◌≡◌, ◌<◌, ◌∙◌, sym, refl, Some, None, length}
use Rattle.clients.specs.Places.{fresh, count, line_at, session_at}
use Rattle.clients.proofs.Turns.{at_index, takes_none, takes_on, takes_off}
use Rattle.clients.proofs.places.Places.turn.Goals as goal

pub returns-then-place-len : goal.returns-then-place-len
returns-then-place-len g c =
    takes_none g.S.Stream.moved g.S.Stream.has_ended g.S.Stream.failures c.args.idle g.met.S.Stream.moved_none g.met.S.Stream.moved_then c.args.self.now c.args.place

pub returns-in-Ok : goal.returns-in-Ok
returns-in-Ok g c =
    let inside : c.args.place < count c.args.self.now = search rules in
    let room : c.args.place < length c.args.self.now.sessions.items = search rules in
    let was : line_at c.args.self.now c.args.place ≡ Some c.in-Some.line =
    at_index c.args.self.now.lines.items c.args.place c.index_mut.result.now None inside c.index_mut.ensures.value ∙ c.in-Some.is in
    let had : session_at c.args.self.now c.args.place ≡ c.index_mut-2.result.now =
    at_index c.args.self.now.sessions.items c.args.place c.index_mut-2.result.now fresh room c.index_mut-2.ensures.value in
    takes_on g.S.Stream.moved g.S.Stream.has_ended g.S.Stream.failures c.args.idle g.met.S.Stream.moved_none g.met.S.Stream.moved_then c.args.self.now _ c.args.place
    c.in-Some.line c.turn.new.self c.index_mut-2.result.now c.turn.new.session inside room refl refl was had c.turn.ensures.goes_on c.turn.ensures.dialect c.turn.ensures.later

pub returns-in-Err : goal.returns-in-Err
returns-in-Err g c =
    let inside : c.args.place < count c.args.self.now = search rules in
    let room : c.args.place < length c.args.self.now.sessions.items = search rules in
    let was : line_at c.args.self.now c.args.place ≡ Some c.in-Some.line =
    at_index c.args.self.now.lines.items c.args.place c.index_mut.result.now None inside c.index_mut.ensures.value ∙ c.in-Some.is in
    let had : session_at c.args.self.now c.args.place ≡ c.index_mut-2.result.now =
    at_index c.args.self.now.sessions.items c.args.place c.index_mut-2.result.now fresh room c.index_mut-2.ensures.value in
    let within = subst (λ n. c.args.place < n) (sym (length-set c.args.self.now.lines.items c.args.place (Some c.turn.new.self))) inside in
    takes_off g.S.Stream.moved g.S.Stream.has_ended g.S.Stream.failures c.args.idle g.met.S.Stream.moved_none g.met.S.Stream.moved_then c.args.self.now _ c.args.place
    c.in-Some.line c.turn.new.self c.index_mut-2.result.now c.turn.new.session inside room refl refl was had c.let_go.new.self c.in-Err.field-0 c.turn.ensures.goes_on
    c.turn.ensures.later
    (reason_of c.in-Err.field-0 c.index_mut-2.result.now c.turn.new.session _ _ c.turn.new.self.since c.args.now c.args.idle c.in-Err.ensures.ends)
    c.let_go.ensures.beside (c.let_go.ensures.free within) c.let_go.ensures.fresh
