use Rattle.std.proofs.Common.{◌≡◌, ◌∙◌, sym, ap, List, ℕ, [], ◌∷◌, Some}
use Rattle.pages.specs.Page.{Entry}
use Rattle.chunks.specs.Joining.{held}
use Rattle.chunks.proofs.joining.Joining.go_on.Goals as goal

pub returns-clause-added : goal.returns-clause-added
returns-clause-added g c =
    let w : Entry = (c.in-Some.w.key.items, c.in-Some.w.value.items) in
    let goes = c.goes_on.ensures.yes c.if-not-goes_on.false in
    let was : c.args.self.now.waiting ≡ Some c.in-Some.w = sym c.take.ensures.value ∙ c.in-Some.is in
    let With : List ℕ → List Entry = λ value. (c.in-Some.w.key.items, value) ∷ [] in
    (w, ap held was, goes.0, goes.1, ap With c.in_ok-extend_from_slice.ensures.items)
