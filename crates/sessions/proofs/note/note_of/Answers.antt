use Rattle.std.proofs.Common.{◌≡◌, ◌∙◌, ap, ap₂, ◌-◌, ◌^◌, ℕ, List, length}
use Rattle.std.specs.Prelude.{min, option_map}
use Rattle.routes.specs.AnswerBytes.{answer_bytes}
use Rattle.sessions.specs.declared.tally.Tally.{Tally}
use Rattle.sessions.specs.Tally.{counted}
use Rattle.sessions.proofs.Counting.{counted_all}
use Rattle.sessions.proofs.Noting.{taken_whole}
use Rattle.sessions.proofs.note.note_of.Goals as goal

pub returns : goal.returns
returns c format can =
    let bytes : List ℕ = answer_bytes format c.args.message.now (option_map (λ r. r.now) c.args.reply) in
    let took = taken_whole (λ (old new : Tally) (all : List ℕ). new.bytes ≡ counted old.bytes all) c.new-tally.result c.write_answer.new.output bytes c.write_answer.result
    c.write_answer.ensures.cause (c.write_answer.ensures.writes format can)
    in
    let count : c.bytes.result ≡ min (length bytes) (2 ^ 64 - 1) =
    c.bytes.ensures ∙ took ∙ ap (λ (t : Tally). counted t.bytes bytes) c.new-tally.ensures ∙ counted_all bytes
    in
    ap₂ (λ s b. record { status = s; bytes = b }) c.code_of.ensures count
