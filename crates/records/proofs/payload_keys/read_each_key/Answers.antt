use Rattle.std.proofs.Common.{rules, arith, ◌≡◌, ◌∙◌, ap, subst, sym, List, ℕ, [], ◌∷◌, ◌++◌, ◌==◌, ◌+◌, true, length}
use Rattle.std.specs.Prelude.{IsErrOf}
use Rattle.names.specs.Key.{Key}
use Rattle.records.specs.declared.fault.RecordFault.TheVariants as RecordFault
use Rattle.records.specs.Frames.{key_in, LieInFront}
use Rattle.records.proofs.Frames.{one_more_frame, none_more, no_rest}
use Rattle.records.proofs.payload_keys.read_each_key.Goals as goal

pub returns-in_err-key-clause-damaged : goal.returns-in_err-key-clause-damaged
returns-in_err-key-clause-damaged c is_damaged fs fitting count same =
    let bad : IsErrOf c.read_key.result RecordFault.Damaged = search rules in
    none_more c.args.bytes.now c.loop.rest.now c.loop.counter c.loop.keys.items c.loop.invariant fs fitting (omega (arith, count, c.loop-test.true)) (c.read_key.ensures.damaged bad) same

pub returns-then-not-is_empty-clause-damaged : goal.returns-then-not-is_empty-clause-damaged
returns-then-not-is_empty-clause-damaged c is_damaged fs fitting count same =
    let none : c.loop.rest.now ≡ [] =
    no_rest c.args.bytes.now c.loop.rest.now c.loop.counter c.loop.keys.items c.loop.invariant fs fitting (omega (arith, count, c.loop-test.false)) same in
    let empty : c.is_empty.result ≡ true = c.is_empty.ensures ∙ ap (λ (x : List ℕ). length x == 0) none in
    cc

pub loop-preserved : goal.loop-preserved
loop-preserved c =
    let found = c.in_ok-key.ensures.frame in
    let now = one_more_frame c.args.bytes.now c.loop.rest.now c.loop.counter c.loop.keys.items c.loop.invariant found.0 c.in_ok-key.after.now found.1 found.3 in
    let Keys : List Key → Type 0 = λ ks. LieInFront c.args.bytes.now c.in_ok-key.after.now (c.loop.counter + 1) ks in
    let same : c.loop.keys.items ++ key_in found.0 ∷ [] ≡ c.push.new.self.items =
    ap (λ (k : Key). c.loop.keys.items ++ k ∷ []) found.2 ∙ sym c.in_ok-push.ensures.items in
    subst Keys same now
