use Rattle.std.specs.Prelude.{◌≡◌}
use Rattle.device.specs.Step.{Same}
use Rattle.device.specs.Run.{Ran}
use Rattle.checkpoint.specs.Index.{IsIndexed}
use Rattle.checkpoint.specs.Pages.{pages_at, AreSound, joined}
use Rattle.checkpoint.specs.Reader.{Heard}
use Rattle.checkpoint.proofs.scanning.take_pages.Given as goal

abbrev pub invariant-loop-i : goal.invariant-loop-i
invariant-loop-i g l = record {
  ran : Ran g.D.Device.disk l.fn.device l.device Same;
  steady : g.D.Device.disk.failures l.device ≡ g.D.Device.disk.failures l.fn.device;
  sound : g.D.Device.disk.keeps l.fn.device → AreSound l.root.first_sector l.i (g.D.Device.disk.content l.fn.device);
  indexed : g.D.Device.disk.keeps l.fn.device → IsIndexed l.index (pages_at l.root.first_sector l.i (g.D.Device.disk.content l.fn.device));
  heard : g.D.Device.disk.keeps l.fn.device
      → Heard g.R.Reader.told g.R.Reader.refuses l.fn.reader l.reader (joined (pages_at l.root.first_sector l.i (g.D.Device.disk.content l.fn.device))) l.refused;
}
