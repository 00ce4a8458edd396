use Rattle.std.proofs.Common.{arith, ◌≡◌, ◌<◌, ◌≤◌, ◌-◌, ◌++◌, ◌∙◌, take, drop, ⊎_elim, ap, subst, ℕ, [], length, sym, refl, get_or, set}
use Rattle.std.proofs.lemmas.List.{get_or_default, nil_from_length}
use Rattle.std.proofs.lemmas.Bool.{cases_lt}
use Rattle.records.specs.Payload.{group_limit}
use Rattle.sessions.specs.State.{State}
use Rattle.sessions.specs.Batch.{held, places_of, with_turn, IsPassedOver}
use Rattle.sessions.proofs.Taking.{kept_none, kept_then, kept_one, known_one, no_fewer, none_taken, passed_still, ahead_still, at_still, before_still, turns_none, turns_more}
use Rattle.sessions.proofs.batch.Batch.pass.Goals as goal

pub loop-place-init : goal.loop-place-init
loop-place-init c = record {
  kept = kept_none c.args.self.now c.args.sessions.now;
  known = λ all. all;
  more = omega arith;
  none = λ is i d from below. absurd (omega (arith, from, below));
  ahead = refl;
  before = refl;
  still = λ none. refl;
  turns = turns_none c.args.from c.args.self.now c.args.sessions.now;
}

pub loop-place-preserved : goal.loop-place-preserved
loop-place-preserved c =
    let all = c.loop-place.sessions in
    let p : ℕ = c.loop-place.place in
    let r = c.index-sessions-place.result in
    let s = get_or all p r in
    let known : p < length all = omega (arith, c.loop-place-test.true, c.loop-place.auto.sessions, c.loop-place.auto.place-end, c.requires) in
    let low : c.args.from ≤ p = c.loop-place.auto.place in
    let more : length (held c.loop-place.self) ≤ length (held c.take_from.new.self) =
    no_fewer p c.loop-place.self c.take_from.new.self s c.take_from.new.session c.take_from.ensures
    in
    record {
      kept = kept_then c.args.self.now c.loop-place.self c.take_from.new.self c.args.sessions.now all (set all p c.take_from.new.session) c.loop-place.auto.sessions
          c.loop-place.invariant.kept
          (kept_one c.loop-place.self c.take_from.new.self all p s c.take_from.new.session known (λ (d : State). get_or_default all p d r known)
          c.loop-place.self.alike c.take_from.ensures);
      known = λ before. known_one (length c.args.sessions.now) p c.loop-place.self c.take_from.new.self s c.take_from.new.session
          (omega (arith, known, c.loop-place.auto.sessions)) c.take_from.ensures (c.loop-place.invariant.known before);
      more = omega (arith, c.loop-place.invariant.more, more);
      none = λ is i d from below.
          let size : length (held c.take_from.new.self) ≡ 0 = ap length is in
          let was : held c.loop-place.self ≡ [] = nil_from_length (held c.loop-place.self) (omega (arith, size, more)) in
          let first : held c.args.self.now ≡ [] = nil_from_length (held c.args.self.now) (omega (arith, size, more, c.loop-place.invariant.more)) in
          ⊎_elim (λ before. c.loop-place.invariant.none was i d from before)
          (λ after.
          let at : p ≡ i = omega (arith, after, below) in
          let here : get_or all i d ≡ s = ap (λ n. get_or all n d) (sym at) ∙ get_or_default all p d r known in
          passed_still c.args.self.now c.loop-place.self c.args.sessions.now all c.loop-place.invariant.kept first was i d
          (omega (arith, at, known, c.loop-place.auto.sessions))
          (subst IsPassedOver (sym here) (none_taken p c.loop-place.self c.take_from.new.self s c.take_from.new.session c.take_from.ensures size)))
          (cases_lt i p);
      ahead = ahead_still p c.args.sessions.now all c.take_from.new.session c.loop-place.invariant.ahead;
      before = before_still c.args.from p c.args.sessions.now all c.take_from.new.session low c.loop-place.invariant.before;
      still = λ none. absurd (omega (arith, none, low, c.loop-place-test.true));
      turns = turns_more c.args.from p c.args.self.now c.loop-place.self c.take_from.new.self c.args.sessions.now s c.take_from.new.session low
          (omega (arith, known, c.loop-place.auto.sessions))
          (at_still p c.args.sessions.now all s c.loop-place.invariant.ahead (λ (d : State). get_or_default all p d r known)) c.take_from.ensures
          c.loop-place.invariant.turns;
    }

pub returns-clause-turns : goal.returns-clause-turns
returns-clause-turns c =
    let first = c.args.self.now in
    let many : c.loop-place.place - c.args.from ≡ c.args.to - c.args.from =
    ⊎_elim (λ none. omega (arith, none, c.loop-place.invariant.still none)) (λ some. omega (arith, c.loop-place-test.false, c.loop-place.auto.place-end some))
    (cases_lt c.args.to c.args.from)
    in
    c.loop-place.invariant.turns
    ∙ ap (λ n. places_of first ++ take (group_limit - length (places_of first)) (with_turn c.args.from (take n (drop c.args.from c.args.sessions.now)))) many
