use Rattle.std.proofs.Common.{◌++◌, refl, List, ℕ, codes, subst}
use Rattle.httpmsg.specs.Flow.{TookSome}
use Rattle.httpmsg.proofs.Flows.{some_front, some_then, writes_then}
use Rattle.gated.proofs.problem.write_line.Goals as goal

pub returns-in-Err-clause-writes : goal.returns-in-Err-clause-writes
returns-in-Err-clause-writes g c =
    some_front g.E.Output.took g.met.E.Output.took_none g.met.E.Output.took_then c.args.errors.now c.write_all.new.output
    (codes "gated: ") (c.args.text.now ++ codes "\n") _ c.in-Err.ensures.writes refl

pub returns-in-Err-write_all-clause-writes : goal.returns-in-Err-write_all-clause-writes
returns-in-Err-write_all-clause-writes g c =
    let took = g.E.Output.took in
    let Told : List ℕ → Type 0 = λ text. TookSome took c.write_all.new.output c.write_all-2.new.output text in
    some_then took g.met.E.Output.took_none g.met.E.Output.took_then c.args.errors.now c.write_all.new.output c.write_all-2.new.output
    (codes "gated: ") c.args.text.now (codes "\n") _ c.in_default.ensures.writes
    (subst Told c.as_bytes.ensures.value c.in-Err-write_all.ensures.writes) refl

pub returns-clause-writes : goal.returns-clause-writes
returns-clause-writes g c =
    let took = g.E.Output.took in
    let Told : List ℕ → Type 0 = λ text. took c.write_all.new.output c.write_all-2.new.output text in
    writes_then took g.met.E.Output.took_none g.met.E.Output.took_then c.args.errors.now c.write_all-2.new.output c.write_all-3.new.output
    (codes "gated: " ++ c.args.text.now) (codes "\n") c.write_all-3.result
    (g.met.E.Output.took_then c.args.errors.now c.write_all.new.output c.write_all-2.new.output (codes "gated: ") c.args.text.now c.in_default.ensures.writes
    (subst Told c.as_bytes.ensures.value c.in_default-write_all.ensures.writes))
    c.write_all-3.ensures.writes
