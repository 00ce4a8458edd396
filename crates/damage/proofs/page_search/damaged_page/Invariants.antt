use Rattle.std.proofs.Common.{◌<◌, ◌≤◌, ◌-◌}
use Rattle.device.specs.Run.{Ran}
use Rattle.device.specs.Step.{Same}
use Rattle.checkpoint.specs.Pages.{HoldsPages}
use Rattle.damage.specs.Pages.{with_pages}
use Rattle.damage.proofs.page_search.damaged_page.Given as goal

abbrev pub invariant-halves : goal.invariant-halves
invariant-halves g l =
    let disk = g.D.Device.disk in
    record {
      ran : Ran disk l.fn.device l.device Same;
      between : l.whole < l.damaged;
      inside : l.damaged ≤ l.root.pages;
      before : disk.keeps l.fn.device → HoldsPages (disk.content l.fn.device) (with_pages l.whole l.root);
      behind : disk.keeps l.fn.device → HoldsPages (disk.content l.fn.device) (with_pages l.damaged l.root) → ⊥;
    }

abbrev pub decreases-halves : goal.decreases-halves
decreases-halves g l = l.damaged - l.whole
