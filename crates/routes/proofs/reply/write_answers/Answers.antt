use Rattle.std.proofs.Common.{◌∙◌, refl, ℕ, suc, List, ap, sym, subst, take, drop}
use Rattle.std.proofs.lemmas.List.{take_all}
use Rattle.httpmsg.specs.Sheet.{gathered}
use Rattle.httpmsg.proofs.Flows.{HasTaken}
use Rattle.routes.specs.AnswerBytes.{answers_bytes}
use Rattle.routes.proofs.Sheets.{held_more, held_some, held_written, bytes_at, next_bytes, all_bytes_by, can_answer_at}
use Rattle.routes.proofs.reply.write_answers.Goals as goal

pub returns-in-Err-clause-writes : goal.returns-in-Err-clause-writes
returns-in-Err-clause-writes g c format can =
    let ms = c.args.messages.now in
    let rs = c.args.replies.now in
    let i = c.loop-index.index in
    let m = c.index-messages-index.result in
    let below = c.loop-index-test.true in
    let is = c.index-messages-index.is in
    let here = can_answer_at format ms rs c.args.allows.now can i m below is c.get.result c.get.ensures.lookup c.methods_at-allow.result c.methods_at-allow.ensures in
    held_some g.O.Output.took g.met.O.Output.took_none g.met.O.Output.took_then c.args.output.now c.loop-index.output c.put_answer.new.output
    (answers_bytes format (take i ms) rs) (gathered c.loop-index.sheet) (gathered c.put_answer.new.sheet) (bytes_at format ms rs i m below is c.get.result c.get.ensures.lookup)
    (answers_bytes format (drop (suc i) ms) (drop (suc i) rs)) (answers_bytes format ms rs) c.in-Err.fault (c.loop-index.invariant.writes format can) (c.in-Err.ensures.puts format here)
    (all_bytes_by format ms rs i m below is c.get.result c.get.ensures.lookup)

pub loop-index-preserved : goal.loop-index-preserved
loop-index-preserved g c = record {
  writes = λ format can.
      let ms = c.args.messages.now in
      let rs = c.args.replies.now in
      let i = c.loop-index.index in
      let m = c.index-messages-index.result in
      let below = c.loop-index-test.true in
      let is = c.index-messages-index.is in
      let here = can_answer_at format ms rs c.args.allows.now can i m below is c.get.result c.get.ensures.lookup c.methods_at-allow.result c.methods_at-allow.ensures in
      let Taken : List ℕ → Type 0 = λ b. HasTaken g.O.Output.took c.args.output.now c.put_answer.new.output b (gathered c.put_answer.new.sheet) in
      subst Taken (sym (next_bytes format ms rs i m below is c.get.result c.get.ensures.lookup))
      (held_more g.O.Output.took g.met.O.Output.took_none g.met.O.Output.took_then c.args.output.now c.loop-index.output c.put_answer.new.output
      (answers_bytes format (take i ms) rs) (gathered c.loop-index.sheet) (gathered c.put_answer.new.sheet) (bytes_at format ms rs i m below is c.get.result c.get.ensures.lookup)
      c.in-Ok.field-0 (c.loop-index.invariant.writes format can) (c.in-Ok.ensures.puts format here));
  same = c.in-Ok.ensures.cause.well refl ∙ c.loop-index.invariant.same;
}

pub returns-clause-writes : goal.returns-clause-writes
returns-clause-writes g c format can =
    let ms = c.args.messages.now in
    let rs = c.args.replies.now in
    let Taken : List ℕ → Type 0 = λ b. HasTaken g.O.Output.took c.args.output.now c.loop-index.output b c.bytes.result.now in
    let Held : List ℕ → Type 0 = λ h. HasTaken g.O.Output.took c.args.output.now c.loop-index.output (answers_bytes format (take c.loop-index.index ms) rs) h in
    held_written g.O.Output.took g.met.O.Output.took_none g.met.O.Output.took_then c.args.output.now c.loop-index.output c.write_all.new.output (answers_bytes format ms rs)
    c.bytes.result.now c.write_all.result
    (subst Taken (ap (λ xs. answers_bytes format xs rs) (take_all c.loop-index.index ms c.loop-index-test.false))
    (subst Held (sym c.bytes.ensures) (c.loop-index.invariant.writes format can)))
    c.write_all.ensures.writes
