use Rattle.std.proofs.Common.{◌≡◌, ◌∙◌, ap, sym, subst, [], Option, option_map}
use Rattle.std.specs.Option.{option_map_or}
use Rattle.sessions.specs.State.{State}
use Rattle.sessions.specs.Restating.{Queue}
use Rattle.clients.specs.Plain.{later_of, HandsOver}
use Rattle.clients.specs.Moving.{Reads}
use Rattle.clients.specs.Story.{GoesOn}
use Rattle.clients.proofs.Stories.{reads_go}
use Rattle.clients.proofs.line.Line.read.Goals as goal

pub returns-in_err-note_read-clause-goes_on : goal.returns-in_err-note_read-clause-goes_on
returns-in_err-note_read-clause-goes_on g c plain =
    let To : g.row.S.Denot → Type 0 = λ s. GoesOn g.S.Stream.moved g.S.Stream.has_ended c.args.self.now.stream s c.args.session.now c.read_once-moved.new.session in
    subst To (sym c.note_read.ensures.stream)
    (reads_go g.S.Stream.moved g.S.Stream.has_ended c.args.self.now.stream c.read_once-moved.new.stream c.args.session.now c.read_once-moved.new.session c.read_once-moved.result c.requires.idle c.requires.opened
    g.met.S.Stream.ended_then c.read_once-moved.ensures.reads)

pub returns-clause-goes_on : goal.returns-clause-goes_on
returns-clause-goes_on g c plain =
    let is_plain = ap (λ (o : Option Queue). option_map (λ (q : Queue). q.format) o) c.note_read.ensures.later ∙ plain in
    let same : c.hand_over.new.session ≡ c.read_once-moved.new.session = c.hand_over.ensures.plain is_plain in
    let To : g.row.S.Denot → State → Type 0 = λ s t. GoesOn g.S.Stream.moved g.S.Stream.has_ended c.args.self.now.stream s c.args.session.now t in
    subst (λ s. To s c.hand_over.new.session) (sym (c.hand_over.ensures.stream ∙ c.note_read.ensures.stream)) (subst (λ t. To c.read_once-moved.new.stream t) (sym same)
    (reads_go g.S.Stream.moved g.S.Stream.has_ended c.args.self.now.stream c.read_once-moved.new.stream c.args.session.now c.read_once-moved.new.session c.read_once-moved.result c.requires.idle c.requires.opened
    g.met.S.Stream.ended_then c.read_once-moved.ensures.reads))

pub returns-clause-restated : goal.returns-clause-restated
returns-clause-restated g c f is read ms cut =
    let format_is = ap (λ (o : Option Queue). option_map (λ (q : Queue). q.format) o) c.note_read.ensures.later ∙ is in
    let between = c.read_once-moved.new.session in
    let By : g.row.S.Denot → Type 0 = λ s. Reads g.S.Stream.moved c.args.self.now.stream s g.S.Stream.has_ended read ms c.args.session.now between c.read_once-moved.result in
    let From : Option Queue → Type 0 = λ o. HandsOver f between c.hand_over.new.session (option_map_or (λ (q : Queue). q.messages) o []) (later_of c.hand_over.new.self) in
    record {
      moved_so = c.read_once-moved.result;
      between = between;
      reads = subst By (sym (c.hand_over.ensures.stream ∙ c.note_read.ensures.stream)) (c.read_once-moved.ensures.reads read ms cut);
      hands = subst From c.note_read.ensures.later (c.hand_over.ensures.hands f format_is);
    }
