use Rattle.std.proofs.Common.{rules, arith}
use Rattle.std.specs.Prelude.{IsErrOf}
use Rattle.checkpoint.specs.declared.reader.ReaderFault.TheVariants as ReaderFault
use Rattle.checkpoint.proofs.Hearing.{told_more, told_all, refused_at}
use Rattle.checkpoint.proofs.reader.tell_page.Goals as goal

pub loop-i-init : goal.loop-i-init
loop-i-init g c = g.met.R.Reader.told_none c.args.reader.now

pub loop-i-preserved : goal.loop-i-preserved
loop-i-preserved g c =
    told_more g.R.Reader.told g.met.R.Reader.told_then c.args.reader.now c.loop-i.reader c.entry.new.self c.args.page.now c.loop-i.i
    c.key.result.now c.cell.result.now (omega arith) c.key.ensures c.cell.ensures c.loop-i.invariant c.in_ok-entry.ensures.told

pub returns-in_err-entry-clause-refused : goal.returns-in_err-entry-clause-refused
returns-in_err-entry-clause-refused g c is =
    let refused : IsErrOf c.entry.result ReaderFault.Entry = search rules in
    refused_at g.R.Reader.told g.R.Reader.refuses c.args.reader.now c.loop-i.reader c.args.page.now c.loop-i.i
    c.key.result.now c.cell.result.now (omega arith) c.key.ensures c.cell.ensures c.loop-i.invariant (c.entry.ensures.refused refused)

pub returns-clause-told : goal.returns-clause-told
returns-clause-told g c =
    told_all g.R.Reader.told c.args.reader.now c.loop-i.reader c.args.page.now c.loop-i.i (omega arith) c.loop-i.invariant
