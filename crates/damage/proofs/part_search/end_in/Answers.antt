use Rattle.std.proofs.Common.{◌∙◌, sym, ◌++◌}
use Rattle.byteorder.specs.Endian.{big_bytes}
use Rattle.damage.proofs.Finding.{last_same, some_last}
use Rattle.damage.proofs.part_search.end_in.Goals as goal

pub returns-in-Some : goal.returns-in-Some
returns-in-Some c told others last is =
    c.is_full_part.ensures told last
    (last_same c.in-Some._others.now others c.in-Some.last.now (c.args.stem.now ++ big_bytes 2 c.args.number, last) (sym c.in-Some.ensures.cases.0 ∙ is))

pub returns-in-None : goal.returns-in-None
returns-in-None c told others last is = absurd (some_last c.args.before.now others (c.args.stem.now ++ big_bytes 2 c.args.number, last) c.in-None.ensures.cases is)
