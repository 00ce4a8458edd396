use Rattle.std.proofs.Common.{arith, refl, ◌≡◌, ◌<◌, ◌∙◌, ap, subst, List, ℕ, [], get_or, OnOk}
use Rattle.std.proofs.lemmas.Result.{IfOk-from_err, on_ok_weaker}
use Rattle.device.specs.Disk.{Disk}
use Rattle.device.specs.Run.{Ran}
use Rattle.device.specs.Step.{Same}
use Rattle.device.proofs.Runs.{not_yet}
use Rattle.pages.specs.Page.{Entry}
use Rattle.roots.specs.declared.root.Root.{Root}
use Rattle.checkpoint.specs.Pages.{pages_of_root}
use Rattle.checkpoint.specs.Reader.{IsRefused}
use Rattle.shelf.specs.Prefix.{beginning}
use Rattle.shelf.specs.Shelf.{root_of, pages_of, Shelves}
use Rattle.shelf.specs.declared.fault.ShelfFault.TheVariants as ShelfFault
use Rattle.shelf.specs.declared.shelf.Shelf.{Shelf}
use Rattle.checkpoint.proofs.Faults.{err_is, was_err}
use Rattle.shelf.proofs.Telling.{never_page, never_device}
use Rattle.shelf.proofs.shelf.Shelf.tell_one.Goals as goal

-- reading leaves the pages as they are
same_pages : {D : Type 0} (disk : Disk D) (start new : D) (shelf after : Shelf) (entries : List Entry) (page : ℕ) → page < (root_of shelf).pages
    → Ran disk start new Same → root_of after ≡ root_of shelf → Shelves disk start shelf entries → pages_of disk new after ≡ pages_of disk start shelf
same_pages disk start new shelf after entries page inside run same shelves =
    ap (λ (root : Root). pages_of_root root (disk.content new)) same
    ∙ ap (λ (content : List ℕ). pages_of_root (root_of shelf) content) (run.seen (shelves.held (omega (arith, inside))).keeps)

pub returns-in_err-fetch-in-Kept : goal.returns-in_err-fetch-in-Kept
returns-in_err-fetch-in-Kept g c =
    let handed = c.from_residual in
    let was = c.in_err-fetch-in-Kept.was in
    let fetch = c.fetch.ensures in
    record {
      told = λ entries shelves. IfOk-from_err handed.result _ handed.ensures.0;
      refused = λ entries shelves is. absurd (fetch.refusal (was_err was (err_is handed.result _ ShelfFault.Entry handed.ensures.1 is)));
      kept = fetch.kept;
      pages = λ entries shelves.
          same_pages g.D.Device.disk c.args.device.now c.fetch.new.device c.args.self.now c.fetch.new.self entries c.args.page c.requires.number fetch.ran fetch.root shelves;
      root = fetch.root;
      damaged = λ entries shelves is. fetch.damaged entries shelves (was_err was (err_is handed.result _ ShelfFault.Page handed.ensures.1 is));
      ran = fetch.ran;
      cause = λ is. fetch.cause (was_err was (err_is handed.result _ ShelfFault.Device handed.ensures.1 is));
      steady = IfOk-from_err handed.result _ handed.ensures.0;
      unfailed = λ is. fetch.unfailed (was_err was (err_is handed.result _ ShelfFault.Memory handed.ensures.1 is));
      stopped = λ is. absurd (fetch.refusal (was_err was (err_is handed.result _ ShelfFault.Entry handed.ensures.1 is)));
    }

pub returns-in_ok-fetch-in-Kept : goal.returns-in_ok-fetch-in-Kept
returns-in_ok-fetch-in-Kept g c =
    let disk = g.D.Device.disk in
    let shelf = c.args.self.now in
    let fetch = c.fetch.ensures in
    let telling = c.tell_page.ensures in
    let inside : c.args.page < (root_of c.fetch.new.self).pages = omega (arith, c.requires.number, ap (λ (r : Root). r.pages) fetch.root) in
    let page = λ (entries : List Entry) (shelves : Shelves disk c.args.device.now shelf entries).
    c.page.ensures entries (fetch.kept entries shelves) inside
    ∙ ap (λ (pages : List (List Entry)). get_or pages c.args.page [])
    (same_pages disk c.args.device.now c.fetch.new.device shelf c.fetch.new.self entries c.args.page c.requires.number fetch.ran fetch.root shelves)
    in
    let Told : List Entry → Type 0 = λ page. OnOk c.tell_page.result (g.R.Reader.told c.args.reader.now c.tell_page.new.reader (beginning c.args.prefix.now page)) in
    let Refused : List Entry → Type 0 = λ page. IsRefused g.R.Reader.told g.R.Reader.refuses c.args.reader.now (beginning c.args.prefix.now page) in
    record {
      told = λ entries shelves. subst Told (page entries shelves) telling.told;
      refused = λ entries shelves is. subst Refused (page entries shelves) (telling.refused is);
      kept = fetch.kept;
      pages = λ entries shelves.
          same_pages disk c.args.device.now c.fetch.new.device shelf c.fetch.new.self entries c.args.page c.requires.number fetch.ran fetch.root shelves;
      root = fetch.root;
      damaged = λ entries shelves is. never_page c.tell_page.result telling.refusal is;
      ran = fetch.ran;
      cause = λ is. absurd (never_device c.tell_page.result telling.refusal is);
      steady = on_ok_weaker c.tell_page.result (λ told. c.in_ok-fetch-in-Kept.ensures.steady) telling.told;
      unfailed = λ is. c.in_ok-fetch-in-Kept.ensures.steady;
      stopped = λ is. c.in_ok-fetch-in-Kept.ensures.steady;
    }

pub returns-in-Passing : goal.returns-in-Passing
returns-in-Passing g c =
    let disk = g.D.Device.disk in
    let device = c.args.device.now in
    let telling = c.tell_page-in-Passing.ensures in
    let told = c.tell_page-in-Passing.result in
    let Told : List Entry → Type 0 = λ page. OnOk told (g.R.Reader.told c.args.reader.now c.tell_page-in-Passing.new.reader (beginning c.args.prefix.now page)) in
    let Refused : List Entry → Type 0 = λ page. IsRefused g.R.Reader.told g.R.Reader.refuses c.args.reader.now (beginning c.args.prefix.now page) in
    record {
      told = λ entries shelves. subst Told (c.page-in-Passing.ensures entries shelves c.requires.number) telling.told;
      refused = λ entries shelves is. subst Refused (c.page-in-Passing.ensures entries shelves c.requires.number) (telling.refused is);
      kept = λ entries shelves. shelves;
      pages = λ entries shelves. refl;
      root = refl;
      damaged = λ entries shelves is. never_page told telling.refusal is;
      ran = not_yet disk device Same (λ c. refl) (λ keeps content since. g.met.D.Device.only_now device content keeps since);
      cause = λ is. absurd (never_device told telling.refusal is);
      steady = on_ok_weaker told (λ told. refl) telling.told;
      unfailed = λ is. refl;
      stopped = λ is. refl;
    }

pub returns-in_err-owned-in-Passing-2 : goal.returns-in_err-owned-in-Passing-2
returns-in_err-owned-in-Passing-2 g c =
    let handed = c.from_residual-in_err-owned-in-Passing-2 in
    let was = c.in_err-owned-in-Passing-2.was in
    let read = c.read.ensures in
    record {
      told = λ entries shelves. IfOk-from_err handed.result _ handed.ensures.0;
      refused = λ entries shelves is. absurd (read.refusal (was_err was (err_is handed.result _ ShelfFault.Entry handed.ensures.1 is)));
      kept = read.kept;
      pages = λ entries shelves.
          same_pages g.D.Device.disk c.args.device.now c.read.new.device c.args.self.now c.args.self.now entries c.args.page c.requires.number read.ran refl shelves;
      root = refl;
      damaged = λ entries shelves is. read.damaged entries shelves (was_err was (err_is handed.result _ ShelfFault.Page handed.ensures.1 is));
      ran = read.ran;
      cause = λ is. read.cause (was_err was (err_is handed.result _ ShelfFault.Device handed.ensures.1 is));
      steady = IfOk-from_err handed.result _ handed.ensures.0;
      unfailed = λ is. read.unfailed (was_err was (err_is handed.result _ ShelfFault.Memory handed.ensures.1 is));
      stopped = λ is. absurd (read.refusal (was_err was (err_is handed.result _ ShelfFault.Entry handed.ensures.1 is)));
    }

pub returns-in_ok-owned-in-Passing-2 : goal.returns-in_ok-owned-in-Passing-2
returns-in_ok-owned-in-Passing-2 g c =
    let disk = g.D.Device.disk in
    let shelf = c.args.self.now in
    let read = c.read.ensures in
    let telling = c.tell_page-in-Passing-2.ensures in
    let told = c.tell_page-in-Passing-2.result in
    let page = λ (entries : List Entry) (shelves : Shelves disk c.args.device.now shelf entries).
    c.page-in-Passing-2.ensures ∙ c.in_ok-owned-in-Passing-2.ensures.page entries shelves
    in
    let Told : List Entry → Type 0 = λ page. OnOk told (g.R.Reader.told c.args.reader.now c.tell_page-in-Passing-2.new.reader (beginning c.args.prefix.now page)) in
    let Refused : List Entry → Type 0 = λ page. IsRefused g.R.Reader.told g.R.Reader.refuses c.args.reader.now (beginning c.args.prefix.now page) in
    record {
      told = λ entries shelves. subst Told (page entries shelves) telling.told;
      refused = λ entries shelves is. subst Refused (page entries shelves) (telling.refused is);
      kept = read.kept;
      pages = λ entries shelves. same_pages disk c.args.device.now c.read.new.device shelf shelf entries c.args.page c.requires.number read.ran refl shelves;
      root = refl;
      damaged = λ entries shelves is. never_page told telling.refusal is;
      ran = read.ran;
      cause = λ is. absurd (never_device told telling.refusal is);
      steady = on_ok_weaker told (λ told. c.in_ok-owned-in-Passing-2.ensures.steady) telling.told;
      unfailed = λ is. c.in_ok-owned-in-Passing-2.ensures.steady;
      stopped = λ is. c.in_ok-owned-in-Passing-2.ensures.steady;
    }
