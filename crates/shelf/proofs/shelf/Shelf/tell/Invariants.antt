use Rattle.std.proofs.Common.{◌≡◌, List}
use Rattle.device.specs.Run.{Ran}
use Rattle.device.specs.Step.{Same}
use Rattle.pages.specs.Page.{Entry}
use Rattle.checkpoint.specs.Pages.{joined}
use Rattle.shelf.specs.Prefix.{beginning}
use Rattle.shelf.specs.Shelf.{root_of, pages_of, Shelves}
use Rattle.shelf.proofs.Ranging.{pages_from}
use Rattle.shelf.proofs.shelf.Shelf.tell.Given as goal

abbrev pub invariant-loop-i : goal.invariant-loop-i
invariant-loop-i g l =
    let disk = g.D.Device.disk in
    record {
      ran : Ran disk l.fn.device l.device Same;
      steady : disk.failures l.device ≡ disk.failures l.fn.device;
      root : root_of l.self ≡ root_of l.fn.self;
      kept : (entries : List Entry) → Shelves disk l.fn.device l.fn.self entries → Shelves disk l.device l.self entries;
      pages : (entries : List Entry) → Shelves disk l.fn.device l.fn.self entries → pages_of disk l.device l.self ≡ pages_of disk l.fn.device l.fn.self;
      told : (entries : List Entry) → Shelves disk l.fn.device l.fn.self entries
          → g.R.Reader.told l.fn.reader l.reader (beginning l.prefix (joined (pages_from (pages_of disk l.fn.device l.fn.self) l.start l.i)));
    }
