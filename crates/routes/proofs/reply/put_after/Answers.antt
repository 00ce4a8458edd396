use Rattle.std.proofs.Common.{◌≡◌, ◌∙◌, ap, subst, ℕ, List, length, take, ◌++◌, refl}
use Rattle.std.proofs.lemmas.List.{take_at}
use Rattle.httpmsg.specs.Flow.{TookSome}
use Rattle.httpmsg.specs.Sheet.{gathered}
use Rattle.httpmsg.specs.Response.{response_bytes}
use Rattle.routes.proofs.Sheets.{puts_held, puts_written, puts_some}
use Rattle.routes.proofs.reply.put_after.Goals as goal

pub returns-in-Ok-clause-puts : goal.returns-in-Ok-clause-puts
returns-in-Ok-clause-puts g c =
    puts_held g.O.Output.took g.met.O.Output.took_none g.met.O.Output.took_then c.args.output.now (gathered c.args.sheet.now) (gathered c.write.new.output)
    (response_bytes c.args.response.now) _ c.in-Ok.ensures.writes

-- the bytes that are shown begin with those that were shown before
held_before : (held front before now : List ℕ) → before ≡ held → now ≡ held ++ front → take (length before) now ≡ held
held_before held front before now before_is now_is =
    ap (λ (b : List ℕ). take (length b) now) before_is ∙ ap (take (length held)) now_is ∙ take_at held front (length held) refl

pub returns-in-Ok-write_all-clause-puts : goal.returns-in-Ok-write_all-clause-puts
returns-in-Ok-write_all-clause-puts g c =
    let held = gathered c.args.sheet.now in
    let part = c.in-Err.ensures.writes in
    let Took : List ℕ → Type 0 = λ b. g.O.Output.took c.args.output.now c.write_all.new.output b in
    let front = held_before held part.front c.bytes-held.result.now c.bytes.result.now c.bytes-held.ensures (c.bytes.ensures ∙ part.taken) in
    puts_written g.O.Output.took g.met.O.Output.took_none g.met.O.Output.took_then c.args.output.now c.write_all.new.output c.write_at_once-written.new.output held
    (gathered c.clear.new.self) (response_bytes c.args.response.now) c.write_at_once-written.result (subst Took front c.in-Ok-write_all.ensures.writes)
    c.write_at_once-written.ensures.writes c.clear.ensures

pub returns-in-Err-write_all-clause-puts : goal.returns-in-Err-write_all-clause-puts
returns-in-Err-write_all-clause-puts g c =
    let held = gathered c.args.sheet.now in
    let part = c.in-Err.ensures.writes in
    let Some_took : List ℕ → Type 0 = λ b. TookSome g.O.Output.took c.args.output.now c.write_all.new.output b in
    let front = held_before held part.front c.bytes-held.result.now c.bytes.result.now c.bytes-held.ensures (c.bytes.ensures ∙ part.taken) in
    puts_some g.O.Output.took g.met.O.Output.took_none g.met.O.Output.took_then c.args.output.now c.write_all.new.output held (gathered c.write.new.output)
    (response_bytes c.args.response.now) c.in-Err-write_all.fault (subst Some_took front c.in-Err-write_all.ensures.writes)
