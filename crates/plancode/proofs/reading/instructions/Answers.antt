use Rattle.std.proofs.Common.{◌≡◌, ◌++◌, ◌∷◌, []}
use Rattle.std.proofs.lemmas.Result.{err_from_is_err_and}
use Rattle.std.proofs.lemmas.List.{map_push}
use Rattle.instructions.specs.Seen.{op_of, ops_of}
use Rattle.plancode.specs.Reading.{ops_at}
use Rattle.plancode.proofs.Counting.{goes_on, ends, is_done}
use Rattle.plancode.proofs.reading.instructions.Goals as goal

pub returns-in_err-first : goal.returns-in_err-first
returns-in_err-first c =
    let p = err_from_is_err_and c.from_residual.result c.from_residual.ensures.1 in
    rw (p.1, p.2) (ends c.in_err-first.field-0.0 c.args.greatest (ops_of c.loop.read.items) c.args.count c.loop.counter c.loop.rest.now (ops_at c.args.greatest c.args.count c.args.bytes.now) c.loop-test.true c.in_err-first.ensures c.loop.invariant)

pub loop-preserved : goal.loop-preserved
loop-preserved c =
    let n = c.in_ok-first.first in
    let e : ops_of c.push.new.self.items ≡ ops_of c.loop.read.items ++ op_of n ∷ [] = rw c.in_ok-push.ensures.items (map_push _ c.loop.read.items n) in
    rw e (goes_on c.args.greatest (ops_of c.loop.read.items) c.args.count c.loop.counter c.loop.rest.now (op_of n) c.in_ok-first.after.now (ops_at c.args.greatest c.args.count c.args.bytes.now) c.loop-test.true c.in_ok-first.ensures c.loop.invariant)

pub returns : goal.returns
returns c = is_done c.args.greatest (ops_of c.loop.read.items) c.args.count c.loop.counter c.loop.rest.now (ops_at c.args.greatest c.args.count c.args.bytes.now) c.loop-test.false c.loop.invariant
