use Rattle.std.proofs.Common.{arith, ◌<◌, sym, subst, ℕ, List, length, get_or, set}
use Rattle.std.proofs.lemmas.List.{get_or_default}
use Rattle.requests.specs.declared.refusal.Refusal.TheVariants.{OutOfMemory}
use Rattle.requests.specs.Reply.{Reply, status}
use Rattle.httpmsg.specs.Stream.{Message}
use Rattle.routes.specs.ReplyBytes.{reply_bytes}
use Rattle.routes.proofs.Sheets.{can_answer_at}
use Rattle.sessions.specs.State.{GoesOnWith}
use Rattle.sessions.proofs.Gaining.{gains_none, gains_then, one_to, answers_more, answers_end, one_gains}
use Rattle.sessions.proofs.turn.deliver.Goals as goal

pub loop-index-preserved : goal.loop-index-preserved
loop-index-preserved c = record {
  given = λ format can i d later below gains.
      let all = c.loop-index.sessions in
      let k : ℕ = c.loop-index.index in
      let p : ℕ = get_or c.args.places.now k 0 in
      let r = c.index-sessions-place.result in
      let s = get_or all p r in
      let t = c.put.new.self in
      let ms : List Message = c.args.messages.now in
      let rs : List Reply = c.args.replies.now in
      let m : Message = c.index-messages-index.result in
      let none : Reply = status OutOfMemory in
      let inside : k < length ms = omega (arith, c.loop-index-test.true, c.requires.counted) in
      let found = c.get.ensures.lookup in
      let put =
      c.put.ensures format (can_answer_at format ms rs c.args.allows.now can k m inside c.index-messages-index.is c.get.result found c.methods_at-allow.result c.methods_at-allow.ensures)
      in
      let Reply_of : Reply → Type 0 = λ x. GoesOnWith s t (reply_bytes format m x) in
      let Message_of : Message → Type 0 = λ x. GoesOnWith s t (reply_bytes format x (get_or rs k none)) in
      let one : GoesOnWith s t (reply_bytes format (get_or ms k m) (get_or rs k none)) =
      subst Message_of c.index-messages-index.is (subst Reply_of (found.4 (omega arith) none) put)
      in
      let known : p < length all = omega (arith, c.requires.known k 0 c.loop-index-test.true, c.loop-index.auto.sessions) in
      let here : i < length all = omega (arith, below, c.loop-index.auto.sessions) in
      let From : List ℕ → Type 0 = λ w. GoesOnWith (get_or all i d) later w in
      c.loop-index.invariant.given format can i d later below
      (subst From (sym (answers_more format i c.args.places.now ms rs k m c.loop-index-test.true c.requires.counted))
      (gains_then (get_or all i d) (get_or (set all p t) i d) later (one_to format i p (get_or ms k m) (get_or rs k none)) _
      (one_gains format all p s t (get_or ms k m) (get_or rs k none) known (get_or_default all p r s known) one i d here) gains));
}

pub returns : goal.returns
returns c format can i d below =
    let From : List ℕ → Type 0 = λ w. GoesOnWith (get_or c.loop-index.sessions i d) (get_or c.loop-index.sessions i d) w in
    c.loop-index.invariant.given format can i d (get_or c.loop-index.sessions i d) below
    (subst From (sym (answers_end format i c.loop-index.index c.args.places.now c.args.messages.now c.args.replies.now c.loop-index-test.false))
    (gains_none (get_or c.loop-index.sessions i d)))
