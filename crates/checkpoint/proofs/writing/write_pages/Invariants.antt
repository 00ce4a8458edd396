use Rattle.std.proofs.Common.{◌≡◌, ◌<◌, ◌≤◌, ◌+◌, ◌*◌, ◌⊎◌, [], ℕ, List, length, IsTrue}
use Rattle.std.specs.FinMap.{is_sorted}
use Rattle.device.specs.Run.{Ran}
use Rattle.device.specs.Step.{Torn}
use Rattle.pages.specs.Page.{Entry, bytes_cmp}
use Rattle.checkpoint.specs.Filling.{AllFit, pages_of}
use Rattle.checkpoint.specs.PageWriter.{IsLaid, Advances, end_of}
use Rattle.checkpoint.proofs.writing.write_pages.Given as goal

abbrev pub invariant-walk : goal.invariant-walk
invariant-walk g l = record {
  ran : Ran g.D.Device.disk l.fn.device l.device (Torn (512 * l.fn.writer.at) (32768 * (l.fn.writer.filled + l.fn.writer.left)));
  steady : g.D.Device.disk.failures l.device ≡ g.D.Device.disk.failures l.fn.device;
  goes_on : Advances l.fn.writer l.writer;
  inside : g.D.Device.disk.keeps l.device → 512 * l.writer.at ≤ length (g.D.Device.disk.content l.device);
  gives : (content : List ℕ) (all : List Entry) → g.E.Entries.gives l.fn.entries content all → g.E.Entries.gives l.entries content all;
  reads : (k : ℕ) → g.E.Entries.reads l.entries k → g.E.Entries.reads l.fn.entries k;
  laid : g.D.Device.disk.keeps l.fn.device → (all : List Entry) → g.E.Entries.gives l.fn.entries (g.D.Device.disk.content l.fn.device) all
      → ((k : ℕ) → g.E.Entries.reads l.fn.entries k → (k < 512 * l.fn.writer.at) ⊎ (512 * end_of l.fn.writer ≤ k))
      → IsTrue (is_sorted bytes_cmp all) → AllFit all → l.fn.writer.page ≡ [] → l.fn.writer.left ≡ length (pages_of all)
      → (rest : List Entry) × g.E.Entries.ahead l.entries (g.D.Device.disk.content l.device) rest
      × IsLaid l.writer l.fn.writer.at rest all (g.D.Device.disk.content l.device);
}

abbrev pub decreases-walk : goal.decreases-walk
decreases-walk g l = g.E.Entries.most l.entries
