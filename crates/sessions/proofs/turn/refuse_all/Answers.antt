use Rattle.std.proofs.Common.{arith, ◌<◌, refl, ℕ, length, get_or}
use Rattle.std.proofs.lemmas.List.{get_or_default}
use Rattle.sessions.specs.State.{State}
use Rattle.sessions.proofs.Refusals.{refused_more, refused_end}
use Rattle.sessions.proofs.turn.refuse_all.Goals as goal

pub loop-place-preserved : goal.loop-place-preserved
loop-place-preserved c = record {
  refused = λ i d later below after.
      let all = c.loop-place.sessions in
      let k : ℕ = c.loop-place.place-index in
      let p : ℕ = get_or c.args.places.now k 0 in
      let r = c.index-sessions-place.result in
      let known : p < length all = omega (arith, c.requires k 0 c.loop-place-test.true, c.loop-place.auto.sessions) in
      c.loop-place.invariant.refused i d later below
      (refused_more all c.args.places.now k p i d (get_or all p r) c.refuse.new.self later c.loop-place-test.true refl known (λ (e : State). get_or_default all p e r known)
      (record { refused = c.refuse.ensures.refused; progress = c.refuse.ensures.progress; over = c.refuse.ensures.over }) after);
}

pub returns : goal.returns
returns c i d below = c.loop-place.invariant.refused i d (get_or c.loop-place.sessions i d) below
    (refused_end i c.loop-place.place-index c.args.places.now (get_or c.loop-place.sessions i d) c.loop-place-test.false)
