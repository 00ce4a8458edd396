use Rattle.std.proofs.Common.{refl}
use Rattle.roots.proofs.Placing.{place-in_data, place-off}
use Rattle.roots.proofs.next.next_root.Goals as goal

pub returns-clause-next : goal.returns-clause-next
returns-clause-next c = record {
  slot = c.other.ensures;
  generation = refl;
  in_data = place-in_data c.args.current.now.first_sector c.args.last_gate_sector c.args.pages c.next_first_sector.result c.requires.in_data c.next_first_sector.ensures;
  off = place-off c.args.current.now.first_sector c.args.last_gate_sector c.args.pages c.next_first_sector.result c.next_first_sector.ensures;
}
