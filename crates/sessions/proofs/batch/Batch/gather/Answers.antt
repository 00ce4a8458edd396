use Rattle.std.proofs.Common.{arith, ◌≡◌, ◌<◌, ◌∙◌, ℕ, All, length, ap, subst}
use Rattle.std.proofs.lemmas.List.{nil_from_length}
use Rattle.sessions.specs.Batch.{held, places_of}
use Rattle.sessions.proofs.Taking.{kept_then, none_known, begins_first, begins_then}
use Rattle.sessions.proofs.batch.Batch.gather.Goals as goal

pub loop-before-init : goal.loop-before-init
loop-before-init c = record {
  kept = c.round.ensures.kept;
  known = c.round.ensures.known (none_known (length c.args.sessions.now) c.args.self.now c.requires.empty);
  some = c.round.ensures.none;
  begins = begins_first c.args.first c.min-first.result c.args.self.now c.round.new.self c.args.sessions.now c.min-first.ensures c.requires.empty c.round.ensures.turns;
  first = omega (arith, c.min-first.ensures);
}

pub loop-before-smaller : goal.loop-before-smaller
loop-before-smaller c = omega (arith, c.loop-before-test.true, c.loop-before.self.few)

pub loop-before-preserved : goal.loop-before-preserved
loop-before-preserved c =
    let size : length c.loop-before.sessions ≡ length c.args.sessions.now = c.loop-before.auto.sessions ∙ c.round.auto.sessions in
    record {
      kept = kept_then c.args.self.now c.loop-before.self c.round-in-loop-before.new.self c.args.sessions.now c.loop-before.sessions c.round-in-loop-before.new.sessions
          size c.loop-before.invariant.kept c.round-in-loop-before.ensures.kept;
      known =
          let Under : ℕ → Type 0 = λ n. All (λ p. p < n) (places_of c.loop-before.self) → All (λ p. p < n) (places_of c.round-in-loop-before.new.self) in
          subst Under size c.round-in-loop-before.ensures.known c.loop-before.invariant.known;
      some = λ is. c.loop-before.invariant.some (nil_from_length (held c.loop-before.self) (omega (arith, ap length is, c.round-in-loop-before.ensures.more)));
      begins = begins_then c.args.first c.args.sessions.now (places_of c.loop-before.self) (places_of c.round-in-loop-before.new.self) _ c.loop-before.invariant.begins
          c.round-in-loop-before.ensures.turns;
      first = c.loop-before.invariant.first;
    }

pub returns-in-Some-clause-kept : goal.returns-in-Some-clause-kept
returns-in-Some-clause-kept c = c.loop-before.invariant.kept

pub returns-in-Some-clause-known : goal.returns-in-Some-clause-known
returns-in-Some-clause-known c = c.loop-before.invariant.known

pub returns-in-Some-clause-some : goal.returns-in-Some-clause-some
returns-in-Some-clause-some c = c.loop-before.invariant.some

pub returns-in-None-clause-kept : goal.returns-in-None-clause-kept
returns-in-None-clause-kept c = c.loop-before.invariant.kept

pub returns-in-None-clause-known : goal.returns-in-None-clause-known
returns-in-None-clause-known c = c.loop-before.invariant.known

pub returns-in-None-clause-some : goal.returns-in-None-clause-some
returns-in-None-clause-some c = c.loop-before.invariant.some

pub returns-in-Some-clause-begins : goal.returns-in-Some-clause-begins
returns-in-Some-clause-begins c = c.loop-before.invariant.begins

pub returns-in-None-clause-begins : goal.returns-in-None-clause-begins
returns-in-None-clause-begins c = c.loop-before.invariant.begins
