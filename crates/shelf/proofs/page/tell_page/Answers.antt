use Rattle.std.proofs.Common.{arith}
use Rattle.std.proofs.lemmas.Result.{IfOk-from_err}
use Rattle.checkpoint.proofs.Faults.{err_is, was_err, no_fault}
use Rattle.shelf.specs.declared.fault.ShelfFault.TheVariants as ShelfFault
use Rattle.shelf.proofs.Telling.{an_entry, told_by, told_more, told_all, refused_at}
use Rattle.shelf.proofs.page.tell_page.Goals as goal

pub loop-i-init : goal.loop-i-init
loop-i-init g c = g.met.R.Reader.told_none c.args.reader.now

pub loop-i-preserved : goal.loop-i-preserved
loop-i-preserved g c =
    told_more g.R.Reader.told g.met.R.Reader.told_then c.args.reader.now c.loop-i.reader c.tell_entry.new.reader c.args.page.now c.args.prefix.now c.loop-i.i
    c.key.result.now c.cell.result.now (omega arith) c.key.ensures c.cell.ensures c.loop-i.invariant c.in_ok-tell_entry.ensures.told

pub returns-in_err-tell_entry : goal.returns-in_err-tell_entry
returns-in_err-tell_entry g c =
    let handed = c.from_residual in
    record {
      told = IfOk-from_err handed.result _ handed.ensures.0;
      refused = λ is.
          refused_at g.R.Reader.told g.met.R.Reader.told_then g.R.Reader.refuses c.args.reader.now c.loop-i.reader c.args.page.now c.args.prefix.now c.loop-i.i
          c.key.result.now c.cell.result.now (omega arith) c.key.ensures c.cell.ensures c.loop-i.invariant
          (c.tell_entry.ensures.refused (was_err c.in_err-tell_entry.was (an_entry _ (err_is handed.result _ ShelfFault.Entry handed.ensures.1 is))));
      refusal = told_by handed.result _ handed.ensures.1;
    }

pub returns : goal.returns
returns g c = record {
  told = told_all g.R.Reader.told c.args.reader.now c.loop-i.reader c.args.page.now c.args.prefix.now c.loop-i.i (omega arith) c.loop-i.invariant;
  refused = λ is. absurd (no_fault is);
  refusal = tt;
}
