use Rattle.std.proofs.Common.{arith, refl, ◌≡◌, ◌∙◌, sym, ap, subst, ◌+◌, ◌*◌, List, ℕ, [], length, get_or}
use Rattle.std.specs.Prelude.{IfOk}
use Rattle.gatelog.specs.Record.{part}
use Rattle.pages.specs.Page.{Entry, entries_in, IsSound}
use Rattle.checkpoint.proofs.Joining.{sound_at}
use Rattle.shelf.specs.Shelf.{pages_of}
use Rattle.shelf.proofs.Holding.{get-pages_at, page_inside, shelves_still, ran_same}
use Rattle.shelf.proofs.shelf.Shelf.read.Goals as goal

pub read_page-requires : goal.read_page-requires
read_page-requires g c = record {
  inside = λ keeps.
      let inside = page_inside c.args.self.now.root c.args.page (length (g.D.Device.disk.content c.args.device.now)) c.requires.number (c.requires.inside keeps) in
      omega (arith, c.from.ensures, inside);
}

pub returns-clause-page : goal.returns-clause-page
returns-clause-page g c entries shelves =
    let root = c.args.self.now.root in
    let content : List ℕ = g.D.Device.disk.content c.args.device.now in
    let held = shelves.held (omega (arith, c.requires.number)) in
    let place : root.first_sector + 64 * c.from.result ≡ root.first_sector + 64 * c.args.page = omega (arith, c.from.ensures) in
    let there : entries_in (part (512 * (root.first_sector + 64 * c.from.result)) 32768 content) ≡ get_or (pages_of g.D.Device.disk c.args.device.now c.args.self.now) c.args.page [] =
    ap (λ at. entries_in (part (512 * at) 32768 content)) place ∙ sym (get-pages_at root.first_sector root.pages c.args.page content c.requires.number)
    in
    let Read : List Entry → Type 0 = λ page. IfOk c.read_page.result (λ read. read ≡ page) in
    subst Read there (c.read_page.ensures.page held.keeps)

pub returns-clause-kept : goal.returns-clause-kept
returns-clause-kept g c entries shelves =
    shelves_still g.D.Device.disk c.args.device.now _ c.args.self.now _ entries refl refl
    (λ held.
    let still = ran_same _ _ _ c.read_page.ensures.ran held.keeps in
    (still.0, still.1, held.cached)) shelves

pub returns-clause-damaged : goal.returns-clause-damaged
returns-clause-damaged g c entries shelves is =
    let root = c.args.self.now.root in
    let content : List ℕ = g.D.Device.disk.content c.args.device.now in
    let held = shelves.held (omega (arith, c.requires.number)) in
    let place : root.first_sector + 64 * c.args.page ≡ root.first_sector + 64 * c.from.result = omega (arith, c.from.ensures) in
    c.read_page.ensures.damaged held.keeps is
    (subst (λ at. IsSound (part (512 * at) 32768 content)) place (sound_at root.first_sector root.pages c.args.page content held.sound c.requires.number))

pub returns-clause-steady : goal.returns-clause-steady
returns-clause-steady g c = c.read_page.ensures.steady

pub returns-clause-unfailed : goal.returns-clause-unfailed
returns-clause-unfailed g c = c.read_page.ensures.unfailed
