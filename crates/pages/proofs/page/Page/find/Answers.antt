use Rattle.std.proofs.Common.{◌∙◌, sym, ap, List, ℕ, Some}
use Rattle.std.specs.FinMap.{find}
use Rattle.pages.specs.Page.{Entry, bytes_cmp}
use Rattle.pages.proofs.Searching.{found_some, found_none}
use Rattle.pages.proofs.page.Page.find.Goals as goal

pub returns-in-Some : goal.returns-in-Some
returns-in-Some c =
    let bytes = c.self.inside.bytes.now in
    ap (λ (value : List ℕ). Some value) c.read_value.ensures
    ∙ sym (found_some bytes c.args.key.now c.self.invariant.order c.in-Some.i c.in-Some.ensures.inside c.in-Some.ensures.found)
    ∙ ap (λ (entries : List Entry). find bytes_cmp c.args.key.now entries) c.self.view_is

pub returns-in-None : goal.returns-in-None
returns-in-None c =
    sym (found_none c.self.inside.bytes.now c.args.key.now c.in-None.ensures.absent)
    ∙ ap (λ (entries : List Entry). find bytes_cmp c.args.key.now entries) c.self.view_is
