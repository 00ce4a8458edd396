use Rattle.std.proofs.Common.{rules, subst, [], ap}
use Rattle.std.specs.Prelude.{IsErrOf}
use Rattle.pages.specs.Page.{Entry}
use Rattle.checkpoint.specs.declared.reader.ReaderFault.TheVariants as ReaderFault
use Rattle.chunks.specs.Joining.{held}
use Rattle.chunks.proofs.joining.Joining.finish.Goals as goal

pub returns-in_err-entry-clause-refused : goal.returns-in_err-entry-clause-refused
returns-in_err-entry-clause-refused g c is =
    let refused : IsErrOf c.entry.result ReaderFault.Entry = search rules in
    let w : Entry = (c.in-Some.w.key.items, c.in-Some.w.value.items) in
    let Refuses : Entry → Type 0 = λ e. g.R.Reader.refuses c.args.self.reader e in
    record {
      before = [];
      entry = w;
      after = [];
      are = ap held c.in-Some.is;
      reader = c.args.self.reader;
      was_told = g.met.R.Reader.told_none c.args.self.reader;
      refused = subst Refuses (λ i. (c.deref.ensures.value i, c.deref-in-Some.ensures.value i)) (c.entry.ensures.refused refused);
    }
