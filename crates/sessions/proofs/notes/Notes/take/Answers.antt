use Rattle.std.proofs.Common.{arith, ◌≡◌, ◌∙◌, sym, ap, ◌<◌, ◌+◌, ℕ, List, [], ◌∷◌, ◌++◌, length, drop, get_or}
use Rattle.std.proofs.lemmas.List.{append_assoc, append-nil, length-append}
use Rattle.requests.specs.declared.refusal.Refusal.TheVariants.{OutOfMemory}
use Rattle.requests.specs.Reply.{Reply, status}
use Rattle.httpmsg.specs.Stream.{Message}
use Rattle.routes.proofs.Sheets.{can_answer_at}
use Rattle.sessions.specs.declared.note.Note.{Note}
use Rattle.sessions.specs.Notes.{listed, note_of, notes_to}
use Rattle.sessions.proofs.Noting.{notes_more, notes_end}
use Rattle.sessions.proofs.notes.Notes.take.Goals as goal

pub loop-index-preserved : goal.loop-index-preserved
loop-index-preserved c = record {
  kept = c.add.ensures.kept ∙ c.loop-index.invariant.kept;
  told = λ format can fits.
      let ms : List Message = c.args.messages.now in
      let rs : List Reply = c.args.replies.now in
      let k : ℕ = c.loop-index.index in
      let m : Message = c.index-messages-index.result in
      let none : Reply = status OutOfMemory in
      let below : k < length ms = c.loop-index-test.true in
      let is = c.index-messages-index.is in
      let found = c.get.ensures.lookup in
      let before = c.loop-index.invariant.told format can fits in
      let held : List Note = listed c.loop-index.self in
      let note : Note = note_of format (get_or ms k m) (get_or rs k none) in
      let rest : List Note = notes_to format (drop (k + 1) ms) (drop (k + 1) rs) in
      let note_is : c.note_of.result ≡ note =
      c.note_of.ensures format (can_answer_at format ms rs c.args.allows.now can k m below is c.get.result found c.methods_at-allow.result c.methods_at-allow.ensures)
      ∙ ap (note_of format m) (found.4 (omega arith) none) ∙ ap (λ x. note_of format x (get_or rs k none)) is
      in
      let added : listed c.add.new.self ≡ held ++ note ∷ [] = c.add.ensures.added (omega (arith, before.0, fits, below)) ∙ ap (λ x. held ++ x ∷ []) note_is in (
        ap length added ∙ length-append held (note ∷ []) ∙ omega (arith, before.0),
        ap (λ l. l ++ rest) added ∙ append_assoc held (note ∷ []) rest ∙ ap (λ l. held ++ l) (sym (notes_more format ms rs k m below)) ∙ before.1,
      );
}

pub returns-clause-told : goal.returns-clause-told
returns-clause-told c format can keeps fits =
    let held : List Note = listed c.loop-index.self in
    sym (append-nil held)
    ∙ ap (λ l. held ++ l) (sym (notes_end format c.loop-index.index c.args.messages.now c.args.replies.now c.loop-index-test.false))
    ∙ (c.loop-index.invariant.told format can fits).1
