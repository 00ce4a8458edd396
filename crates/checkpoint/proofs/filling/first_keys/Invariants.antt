use Rattle.std.proofs.Common.{◌≡◌, ℕ, List}
use Rattle.device.specs.Step.{Same}
use Rattle.device.specs.Run.{Ran}
use Rattle.pages.specs.Page.{Entry}
use Rattle.checkpoint.specs.Index.{keys_of}
use Rattle.checkpoint.proofs.Cutting.{Walked}
use Rattle.checkpoint.proofs.filling.first_keys.Given as goal

abbrev pub invariant-walk : goal.invariant-walk
invariant-walk g l = record {
  ran : Ran g.D.Device.disk l.fn.device l.device Same;
  steady : g.D.Device.disk.failures l.device ≡ g.D.Device.disk.failures l.fn.device;
  gives : (content : List ℕ) (all : List Entry) → g.E.Entries.gives l.fn.entries content all → g.E.Entries.gives l.entries content all;
  reads : (k : ℕ) → g.E.Entries.reads l.entries k → g.E.Entries.reads l.fn.entries k;
  walked : g.D.Device.disk.keeps l.fn.device → (all : List Entry) → g.E.Entries.gives l.fn.entries (g.D.Device.disk.content l.fn.device) all
      → Walked (g.E.Entries.ahead l.entries (g.D.Device.disk.content l.fn.device)) (keys_of l.filling.first_keys.items) l.filling.free all;
}

abbrev pub decreases-walk : goal.decreases-walk
decreases-walk g l = g.E.Entries.most l.entries
