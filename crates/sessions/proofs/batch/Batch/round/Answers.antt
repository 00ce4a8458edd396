use Rattle.std.proofs.Common.{arith, ◌≡◌, ◌<◌, ℕ, All, ap, refl, subst, [], length, ⊎_elim}
use Rattle.std.proofs.lemmas.List.{nil_from_length}
use Rattle.std.proofs.lemmas.Bool.{cases_lt}
use Rattle.sessions.specs.Batch.{held, places_of}
use Rattle.sessions.proofs.Taking.{kept_then, passed_still, round_turns}
use Rattle.sessions.proofs.batch.Batch.round.Goals as goal

pub returns-clause-kept : goal.returns-clause-kept
returns-clause-kept c =
    kept_then c.args.self.now c.pass.new.self c.pass-2.new.self c.args.sessions.now c.pass.new.sessions c.pass-2.new.sessions c.pass.auto.sessions c.pass.ensures.kept
    c.pass-2.ensures.kept

pub returns-clause-known : goal.returns-clause-known
returns-clause-known c all =
    let Under : ℕ → Type 0 = λ n. All (λ p. p < n) (places_of c.pass.new.self) → All (λ p. p < n) (places_of c.pass-2.new.self) in
    subst Under c.pass.auto.sessions c.pass-2.ensures.known (c.pass.ensures.known all)

pub returns-clause-more : goal.returns-clause-more
returns-clause-more c = omega (arith, c.pass.ensures.more, c.pass-2.ensures.more)

pub returns-clause-none : goal.returns-clause-none
returns-clause-none c is i d below =
    let mid : held c.pass.new.self ≡ [] = nil_from_length (held c.pass.new.self) (omega (arith, ap length is, c.pass-2.ensures.more)) in
    let first : held c.args.self.now ≡ [] = nil_from_length (held c.args.self.now) (omega (arith, ap length mid, c.pass.ensures.more)) in
    ⊎_elim
    (λ before. passed_still c.args.self.now c.pass.new.self c.args.sessions.now c.pass.new.sessions c.pass.ensures.kept first mid i d below
    (c.pass-2.ensures.none is i d (omega arith) before))
    (λ after. c.pass.ensures.none mid i d after (omega (arith, below)))
    (cases_lt i c.args.first)

pub returns-clause-turns : goal.returns-clause-turns
returns-clause-turns c =
    round_turns c.args.first (length c.args.sessions.now) c.args.self.now c.pass.new.self c.pass-2.new.self c.args.sessions.now c.pass.new.sessions refl
    c.pass.ensures.before c.pass.ensures.turns c.pass-2.ensures.turns
