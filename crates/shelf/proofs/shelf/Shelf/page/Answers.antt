use Rattle.std.proofs.Common.{arith, ◌∙◌, sym}
use Rattle.shelf.proofs.Cached.{cached_at}
use Rattle.shelf.proofs.shelf.Shelf.page.Goals as goal

pub returns : goal.returns
returns g c entries shelves inside =
    let held = shelves.held (omega (arith, inside)) in
    c.page.ensures ∙ cached_at _ c.args.page c.args.self.now.cache c.in-Some.owned.now (sym c.in-Some.ensures) held.cached
