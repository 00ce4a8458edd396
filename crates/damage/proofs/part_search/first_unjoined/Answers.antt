use Rattle.std.proofs.Common.{arith, ◌<◌, sym, subst, ℕ, List, length, take, drop, ◌+◌}
use Rattle.std.proofs.lemmas.Option.{IfSome_then}
use Rattle.names.specs.Format.{has_chunks}
use Rattle.damage.specs.Parts.{HasUnjoined}
use Rattle.damage.proofs.Finding.{split_there}
use Rattle.damage.proofs.part_search.first_unjoined.Goals as goal

pub returns-in-Some : goal.returns-in-Some
returns-in-Some c =
    let entries = c.args.entries.now in
    let item = c.index-entries-i.result in
    let below : c.each.i < length entries = omega (arith, c.each-test.true) in
    let there : HasUnjoined (has_chunks c.args.format) entries c.in-Some.stem.now = record {
      before = take c.each.i entries;
      entry = item;
      after = drop (c.each.i + 1) entries;
      are = split_there entries c.each.i item below (sym c.index-entries-i.is);
      unjoined = c.in-Some.ensures;
    } in
    let Of : List ℕ → Type 0 = λ stem. HasUnjoined (has_chunks c.args.format) entries stem in
    IfSome_then c.copied.result c.copied.ensures (λ copy is. subst Of (sym is) there)
