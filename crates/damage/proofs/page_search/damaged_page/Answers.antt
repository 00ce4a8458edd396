use Rattle.std.proofs.Common.{arith, ◌≡◌, subst, sym, suc}
use Rattle.checkpoint.specs.Pages.{HoldsPages}
use Rattle.damage.specs.Pages.{with_pages}
use Rattle.damage.proofs.page_search.damaged_page.Goals as goal

pub returns-clause-first : goal.returns-clause-first
returns-clause-first g c keeps =
    let disk = g.D.Device.disk in
    let next : c.halves.damaged ≡ suc c.halves.whole = omega (arith, c.halves-test.false, c.halves.invariant.between) in
    record {
      there = omega (arith, c.halves.invariant.between, c.halves.invariant.inside);
      before = c.halves.invariant.before keeps;
      damaged = λ holds. c.halves.invariant.behind keeps (subst (λ n. HoldsPages (disk.content c.args.device.now) (with_pages n c.args.root.now)) (sym next) holds);
    }
