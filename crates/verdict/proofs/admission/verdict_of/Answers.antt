use Rattle.std.proofs.Common.{rules, ◌≡◌, ◌+◌, map, drop, string_bytes, Option, sym, ap, ◌∙◌}
use Rattle.std.specs.Option.{option_map_or}
use Rattle.std.proofs.lemmas.Result.{IfOk-from_err}
use Rattle.policy.specs.Rules.{attempt_seen}
use Rattle.verdict.specs.Admission.{finding}
use Rattle.verdict.specs.Deciding.{verdict_of}
use Rattle.verdict.specs.Deciding.{after_warnings}
use Rattle.verdict.specs.DenialSeen.{verdict_seen}
use Rattle.verdict.specs.declared.verdict.Verdict as code_verdict
use Rattle.verdict.proofs.Faults.{same_fault, no_fault, as_many, no_fewer, grown_after}
use Rattle.verdict.proofs.Turns.{turn, begun, ended}
use Rattle.verdict.proofs.Spoiling.{none_begun, none_more, none_at_all}
use Rattle.verdict.proofs.admission.verdict_of.Goals as goal

pub returns-in-Some-clause-found : goal.returns-in-Some-clause-found
returns-in-Some-clause-found g c objects shows trees =
    let bs = c.args.bindings.now in
    let w = attempt_seen c.args.attempt.now in
    let ws = map string_bytes c.loop-named.warnings.items in
    let more = map string_bytes c.turn.new.warnings.items in
    let here = c.loop-named.named-index in
    let rest = verdict_of (map (finding objects w) (drop (here + 1) bs)) in
    let turned = c.in_ok-verdict.ensures.found objects (c.loop-named.invariant.1 objects shows) trees rest in
    let said : option_map_or verdict_seen c.in_ok-verdict.field-0 (after_warnings more rest) ≡ verdict_seen c.in-Some.verdict =
    ap (λ (o : Option code_verdict.Verdict). option_map_or verdict_seen o (after_warnings more rest)) c.in-Some.is
    in
    sym (turn objects w here bs c.named-item.result ws (verdict_of (map (finding objects w) bs)) (verdict_seen c.in-Some.verdict) c.loop-named-test.true c.named-item.is
    (c.loop-named.invariant.0 objects shows trees) (turned ∙ said))

pub loop-named-preserved : goal.loop-named-preserved
loop-named-preserved g c =
    let bs = c.args.bindings.now in
    let w = attempt_seen c.args.attempt.now in
    let ws = map string_bytes c.loop-named.warnings.items in
    let more = map string_bytes c.turn.new.warnings.items in
    let here = c.loop-named.named-index in (
      λ objects shows trees.
          let rest = verdict_of (map (finding objects w) (drop (here + 1) bs)) in
          let turned = c.in_ok-verdict.ensures.found objects (c.loop-named.invariant.1 objects shows) trees rest in
          let said : option_map_or verdict_seen c.in_ok-verdict.field-0 (after_warnings more rest) ≡ after_warnings more rest =
          ap (λ (o : Option code_verdict.Verdict). option_map_or verdict_seen o (after_warnings more rest)) c.in_default.is
          in
          turn objects w here bs c.named-item.result ws (verdict_of (map (finding objects w) bs)) (after_warnings more rest) c.loop-named-test.true c.named-item.is
          (c.loop-named.invariant.0 objects shows trees) (turned ∙ said),
      λ objects shows. c.in_ok-verdict.ensures.kept objects (c.loop-named.invariant.1 objects shows),
      search rules,
      no_fewer (g.L.Lookup.failures c.args.lookup.now) (g.L.Lookup.failures c.loop-named.lookup) (g.L.Lookup.failures c.turn.new.lookup)
          c.loop-named.invariant.3 c.turn.ensures.counts,
      c.in_ok-verdict.ensures.told,
      (let here : g.L.Lookup.unfailed c.loop-named.lookup c.turn.new.lookup = c.in_ok-verdict.ensures.steady in
          let before : g.L.Lookup.unfailed c.args.lookup.now c.loop-named.lookup = c.loop-named.invariant.5 in
          search rules),
      λ all lends.
          let goes : g.L.Lookup.goes_to c.args.lookup.now c.loop-named.lookup = c.loop-named.invariant.2 in
          let still : g.L.Lookup.lends c.loop-named.lookup all = search rules in
          none_more all w bs here c.named-item.result c.loop-named-test.true c.named-item.is (c.loop-named.invariant.6 all lends)
          (λ asks. no_fault (c.in_ok-verdict.ensures.never_passed all still asks)),
    )

pub loop-named-init : goal.loop-named-init
loop-named-init g c = (
  λ objects shows trees. begun (map string_bytes c.new-warnings.result.items) _ (ap (λ ss. map string_bytes ss) c.new-warnings.ensures.items),
  λ objects shows. shows,
  search rules,
  as_many (g.L.Lookup.failures c.args.lookup.now),
  tt,
  search rules,
  λ all lends. none_begun all (attempt_seen c.args.attempt.now) c.args.bindings.now,
)

pub returns-clause-found : goal.returns-clause-found
returns-clause-found g c = λ objects shows trees.
    ended objects (attempt_seen c.args.attempt.now) c.loop-named.named-index c.args.bindings.now (map string_bytes c.loop-named.warnings.items) _
    c.loop-named-test.false (c.loop-named.invariant.0 objects shows trees)

pub returns-clause-kept : goal.returns-clause-kept
returns-clause-kept g c = c.loop-named.invariant.1

pub returns-clause-goes : goal.returns-clause-goes
returns-clause-goes g c = c.loop-named.invariant.2

pub returns-clause-counts : goal.returns-clause-counts
returns-clause-counts g c = c.loop-named.invariant.3

pub returns-clause-device : goal.returns-clause-device
returns-clause-device g c = λ told. absurd (no_fault told)

pub returns-clause-damaged : goal.returns-clause-damaged
returns-clause-damaged g c = λ part told objects shows. no_fault told

pub returns-in_err-verdict-clause-found : goal.returns-in_err-verdict-clause-found
returns-in_err-verdict-clause-found g c = λ objects shows trees. IfOk-from_err c.from_residual.result _ c.from_residual.ensures.0

pub returns-in_err-verdict-clause-kept : goal.returns-in_err-verdict-clause-kept
returns-in_err-verdict-clause-kept g c = λ objects shows. c.turn.ensures.kept objects (c.loop-named.invariant.1 objects shows)

pub returns-in_err-verdict-clause-counts : goal.returns-in_err-verdict-clause-counts
returns-in_err-verdict-clause-counts g c =
    no_fewer (g.L.Lookup.failures c.args.lookup.now) (g.L.Lookup.failures c.loop-named.lookup) (g.L.Lookup.failures c.turn.new.lookup)
    c.loop-named.invariant.3 c.turn.ensures.counts

pub returns-in_err-verdict-clause-device : goal.returns-in_err-verdict-clause-device
returns-in_err-verdict-clause-device g c = λ told.
    grown_after (g.L.Lookup.failures c.args.lookup.now) (g.L.Lookup.failures c.loop-named.lookup) (g.L.Lookup.failures c.turn.new.lookup) c.loop-named.invariant.3
    (c.turn.ensures.device (same_fault c.from_residual.ensures.1 c.in_err-verdict.was told))

pub returns-in_err-verdict-clause-damaged : goal.returns-in_err-verdict-clause-damaged
returns-in_err-verdict-clause-damaged g c = λ part told objects shows.
    c.turn.ensures.damaged part (same_fault c.from_residual.ensures.1 c.in_err-verdict.was told)
    objects (c.loop-named.invariant.1 objects shows)

pub returns-in-Some-clause-kept : goal.returns-in-Some-clause-kept
returns-in-Some-clause-kept g c = λ objects shows. c.turn.ensures.kept objects (c.loop-named.invariant.1 objects shows)

pub returns-in-Some-clause-counts : goal.returns-in-Some-clause-counts
returns-in-Some-clause-counts g c =
    no_fewer (g.L.Lookup.failures c.args.lookup.now) (g.L.Lookup.failures c.loop-named.lookup) (g.L.Lookup.failures c.turn.new.lookup)
    c.loop-named.invariant.3 c.turn.ensures.counts

pub returns-in-Some-clause-device : goal.returns-in-Some-clause-device
returns-in-Some-clause-device g c = λ told. absurd (no_fault told)

pub returns-in-Some-clause-damaged : goal.returns-in-Some-clause-damaged
returns-in-Some-clause-damaged g c = λ part told objects shows. no_fault told

pub returns-clause-steady : goal.returns-clause-steady
returns-clause-steady g c = c.loop-named.invariant.5

pub returns-clause-memory : goal.returns-clause-memory
returns-clause-memory g c = λ told. absurd (no_fault told)

pub returns-clause-damage : goal.returns-clause-damage
returns-clause-damage g c = λ part told. absurd (no_fault told)

pub returns-clause-never_passed : goal.returns-clause-never_passed
returns-clause-never_passed g c = λ all b lends has asks.
    absurd (none_at_all all (attempt_seen c.args.attempt.now) c.args.bindings.now c.loop-named.named-index c.loop-named-test.false (c.loop-named.invariant.6 all lends) b has asks)

pub returns-in_err-verdict-clause-memory : goal.returns-in_err-verdict-clause-memory
returns-in_err-verdict-clause-memory g c = λ told.
    let here : g.L.Lookup.unfailed c.loop-named.lookup c.turn.new.lookup = c.turn.ensures.memory (same_fault c.from_residual.ensures.1 c.in_err-verdict.was told) in
    let before : g.L.Lookup.unfailed c.args.lookup.now c.loop-named.lookup = c.loop-named.invariant.5 in
    search rules

pub returns-in_err-verdict-clause-damage : goal.returns-in_err-verdict-clause-damage
returns-in_err-verdict-clause-damage g c = λ part told.
    c.turn.ensures.damage part (same_fault c.from_residual.ensures.1 c.in_err-verdict.was told)

pub returns-in_err-verdict-clause-never_passed : goal.returns-in_err-verdict-clause-never_passed
returns-in_err-verdict-clause-never_passed g c = λ all b lends has asks. IfOk-from_err c.from_residual.result _ c.from_residual.ensures.0

pub returns-in-Some-clause-steady : goal.returns-in-Some-clause-steady
returns-in-Some-clause-steady g c =
    let here : g.L.Lookup.unfailed c.loop-named.lookup c.turn.new.lookup = c.in_ok-verdict.ensures.steady in
    let before : g.L.Lookup.unfailed c.args.lookup.now c.loop-named.lookup = c.loop-named.invariant.5 in
    search rules

pub returns-in-Some-clause-memory : goal.returns-in-Some-clause-memory
returns-in-Some-clause-memory g c = λ told. absurd (no_fault told)

pub returns-in-Some-clause-damage : goal.returns-in-Some-clause-damage
returns-in-Some-clause-damage g c = λ part told. absurd (no_fault told)

pub returns-in-Some-clause-never_passed : goal.returns-in-Some-clause-never_passed
returns-in-Some-clause-never_passed g c = λ all b lends has asks.
    rw c.in-Some.is at c.in_ok-verdict.ensures.denies
