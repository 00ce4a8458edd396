use Rattle.std.proofs.Common.{rules, ◌≡◌, ◌∙◌, sym, ap, subst, ◌<◌, ℕ, List, [], get_or}
use Rattle.std.specs.FinMap.{find}
use Rattle.std.specs.Option.{option_map_or}
use Rattle.std.specs.Prelude.{Option, Some, None, IfSome}
use Rattle.pages.specs.Page.{Entry, bytes_cmp}
use Rattle.shelf.specs.Shelf.{root_of, pages_of, Has}
use Rattle.shelf.proofs.shelf.Shelf.cell.Goals as goal

pub returns-in-Some : goal.returns-in-Some
returns-in-Some g c entries shelves =
    let shelf = c.args.self.now in
    let key : List ℕ = c.args.key.now in
    let pages : List (List Entry) = pages_of g.D.Device.disk c.args.device.now shelf in
    let is : c.args.page ≡ Some c.in-Some.page = search rules in
    let There : Option ℕ → Type 0 = λ place. IfSome place (λ page. (page < (root_of shelf).pages) × Has shelf page) in
    let there : (c.in-Some.page < (root_of shelf).pages) × Has shelf c.in-Some.page = subst There is c.requires.there in
    c.find.ensures
    ∙ ap (λ (page : List Entry). find bytes_cmp key page) (c.page.ensures entries shelves there.0)
    ∙ sym (c.requires.found pages shelves.index ∙ ap (λ place. option_map_or (λ page. find bytes_cmp key (get_or pages page [])) place None) is)
    ∙ ap (λ (es : List Entry). find bytes_cmp key es) shelves.are

pub returns-in-None : goal.returns-in-None
returns-in-None g c entries shelves =
    let shelf = c.args.self.now in
    let key : List ℕ = c.args.key.now in
    let pages : List (List Entry) = pages_of g.D.Device.disk c.args.device.now shelf in
    let is : c.args.page ≡ None = search rules in
    sym (c.requires.found pages shelves.index ∙ ap (λ place. option_map_or (λ page. find bytes_cmp key (get_or pages page [])) place None) is)
    ∙ ap (λ (es : List Entry). find bytes_cmp key es) shelves.are
