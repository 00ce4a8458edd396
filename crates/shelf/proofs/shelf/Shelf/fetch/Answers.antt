use Rattle.std.proofs.Common.{rules, arith, refl, ◌≡◌, ◌∙◌, sym, ap, subst, ◌+◌, ◌*◌, List, ℕ, [], length, get_or, nat_eq}
use Rattle.std.proofs.lemmas.Cmp.{nat_eq_equiv}
use Rattle.std.specs.Prelude.{IsErrOf}
use Rattle.std.proofs.lemmas.Result.{IfOk-from_err}
use Rattle.device.specs.Step.{Same}
use Rattle.device.proofs.Runs.{not_yet}
use Rattle.lru.specs.LruCache.{LruCache}
use Rattle.lru.proofs.CallerLemmas.{lookup-put_entries}
use Rattle.gatelog.specs.Record.{part}
use Rattle.pages.specs.Page.{Entry, entries_in, IsSound}
use Rattle.checkpoint.proofs.Faults.{err_is, was_err, no_fault}
use Rattle.checkpoint.proofs.Joining.{sound_at}
use Rattle.shelf.specs.Shelf.{pages_of}
use Rattle.shelf.specs.declared.fault.ShelfFault.TheVariants as ShelfFault
use Rattle.shelf.proofs.Cached.{AreCached, promoted_some, cached_promoted, cached_put}
use Rattle.shelf.proofs.Holding.{get-pages_at, page_inside, shelves_still, ran_same}
use Rattle.shelf.proofs.Telling.{no_want}
use Rattle.shelf.proofs.shelf.Shelf.fetch.Goals as goal

pub returns-then-promote-clause-there : goal.returns-then-promote-clause-there
returns-then-promote-clause-there g c =
    rw c.promote.ensures.entries (promoted_some (nat_eq c.args.page) c.args.self.now.cache.entries (sym c.promote.ensures.value ∙ c.if-promote.true))

pub returns-then-promote-clause-kept : goal.returns-then-promote-clause-kept
returns-then-promote-clause-kept g c entries shelves =
    shelves_still g.D.Device.disk c.args.device.now _ c.args.self.now _ entries refl refl
    (λ held. (held.keeps, refl, cached_promoted _ c.args.page c.args.self.now.cache c.promote.new.self c.promote.ensures.entries held.cached)) shelves

pub read_page-requires : goal.read_page-requires
read_page-requires g c = record {
  inside = λ keeps.
      let root = c.args.self.now.root in
      let size : ℕ = length (g.D.Device.disk.content c.args.device.now) in
      let inside = page_inside root c.args.page size c.requires.number (c.requires.inside keeps) in
      omega (arith, c.from.ensures, inside);
}

pub returns-in_err-owned-clause-kept : goal.returns-in_err-owned-clause-kept
returns-in_err-owned-clause-kept g c entries shelves =
    shelves_still g.D.Device.disk c.args.device.now _ c.args.self.now _ entries refl refl
    (λ held.
    let still = ran_same _ _ _ c.read_page.ensures.ran held.keeps in
    (still.0, still.1, cached_promoted _ c.args.page c.args.self.now.cache c.promote.new.self c.promote.ensures.entries held.cached)) shelves

pub returns-in_err-owned-clause-damaged : goal.returns-in_err-owned-clause-damaged
returns-in_err-owned-clause-damaged g c entries shelves is =
    let root = c.args.self.now.root in
    let content : List ℕ = g.D.Device.disk.content c.args.device.now in
    let held = shelves.held (omega (arith, c.requires.number)) in
    let told : IsErrOf c.read_page.result ShelfFault.Page = search rules in
    let place : root.first_sector + 64 * c.args.page ≡ root.first_sector + 64 * c.from.result = omega (arith, c.from.ensures) in
    c.read_page.ensures.damaged held.keeps told
    (subst (λ at. IsSound (part (512 * at) 32768 content)) place (sound_at root.first_sector root.pages c.args.page content held.sound c.requires.number))

pub returns-in_err-put-clause-kept : goal.returns-in_err-put-clause-kept
returns-in_err-put-clause-kept g c entries shelves =
    shelves_still g.D.Device.disk c.args.device.now _ c.args.self.now _ entries refl refl
    (λ held.
    let still = ran_same _ _ _ c.read_page.ensures.ran held.keeps in
    let Cached : LruCache ℕ (List Entry) → Type 0 = λ cache. AreCached (pages_of g.D.Device.disk c.args.device.now c.args.self.now) cache in
    (still.0, still.1, subst Cached (sym c.in_err-put.ensures.err) (cached_promoted _ c.args.page c.args.self.now.cache c.promote.new.self c.promote.ensures.entries held.cached))) shelves

pub returns-clause-there : goal.returns-clause-there
returns-clause-there g c =
    rw (c.in_ok-put.ensures.entries, lookup-put_entries nat_eq c.promote.new.self c.args.page c.in_ok-owned.owned nat_eq_equiv) refl

pub returns-clause-kept : goal.returns-clause-kept
returns-clause-kept g c entries shelves =
    shelves_still g.D.Device.disk c.args.device.now _ c.args.self.now _ entries refl refl
    (λ held.
    let root = c.args.self.now.root in
    let content : List ℕ = g.D.Device.disk.content c.args.device.now in
    let still = ran_same _ _ _ c.read_page.ensures.ran held.keeps in
    let place : root.first_sector + 64 * c.from.result ≡ root.first_sector + 64 * c.args.page = omega (arith, c.from.ensures) in
    let read : c.in_ok-owned.owned ≡ get_or (pages_of g.D.Device.disk c.args.device.now c.args.self.now) c.args.page [] =
    c.in_ok-owned.ensures.page held.keeps ∙ ap (λ at. entries_in (part (512 * at) 32768 content)) place
    ∙ sym (get-pages_at root.first_sector root.pages c.args.page content c.requires.number)
    in (
      still.0,
      still.1,
      cached_put _ c.args.page c.in_ok-owned.owned c.promote.new.self c.put.new.self c.in_ok-put.ensures.entries read
          (cached_promoted _ c.args.page c.args.self.now.cache c.promote.new.self c.promote.ensures.entries held.cached),
    )) shelves

pub returns-then-promote-clause-root : goal.returns-then-promote-clause-root
returns-then-promote-clause-root g c = refl

pub returns-then-promote-clause-firsts : goal.returns-then-promote-clause-firsts
returns-then-promote-clause-firsts g c = refl

pub returns-in_err-owned-clause-root : goal.returns-in_err-owned-clause-root
returns-in_err-owned-clause-root g c = refl

pub returns-in_err-owned-clause-firsts : goal.returns-in_err-owned-clause-firsts
returns-in_err-owned-clause-firsts g c = refl

pub returns-in_err-put-clause-root : goal.returns-in_err-put-clause-root
returns-in_err-put-clause-root g c = refl

pub returns-in_err-put-clause-firsts : goal.returns-in_err-put-clause-firsts
returns-in_err-put-clause-firsts g c = refl

pub returns-clause-root : goal.returns-clause-root
returns-clause-root g c = refl

pub returns-clause-firsts : goal.returns-clause-firsts
returns-clause-firsts g c = refl

pub returns-then-promote-clause-damaged : goal.returns-then-promote-clause-damaged
returns-then-promote-clause-damaged g c entries shelves is = no_fault is

pub returns-then-promote-clause-refusal : goal.returns-then-promote-clause-refusal
returns-then-promote-clause-refusal g c is = no_fault is

pub returns-then-promote-clause-ran : goal.returns-then-promote-clause-ran
returns-then-promote-clause-ran g c = not_yet g.D.Device.disk c.args.device.now Same (λ c. refl) (λ keeps content since. g.met.D.Device.only_now c.args.device.now content keeps since)

pub returns-then-promote-clause-cause : goal.returns-then-promote-clause-cause
returns-then-promote-clause-cause g c is = absurd (no_fault is)

pub returns-in_err-owned-clause-there : goal.returns-in_err-owned-clause-there
returns-in_err-owned-clause-there g c = IfOk-from_err c.from_residual.result _ c.from_residual.ensures.0

pub returns-in_err-owned-clause-refusal : goal.returns-in_err-owned-clause-refusal
returns-in_err-owned-clause-refusal g c is = c.read_page.ensures.refusal (was_err c.in_err-owned.was (err_is c.from_residual.result _ ShelfFault.Entry c.from_residual.ensures.1 is))

pub returns-in_err-owned-clause-ran : goal.returns-in_err-owned-clause-ran
returns-in_err-owned-clause-ran g c = c.read_page.ensures.ran

pub returns-in_err-owned-clause-cause : goal.returns-in_err-owned-clause-cause
returns-in_err-owned-clause-cause g c is = c.read_page.ensures.cause (was_err c.in_err-owned.was (err_is c.from_residual.result _ ShelfFault.Device c.from_residual.ensures.1 is))

pub returns-in_err-put-clause-there : goal.returns-in_err-put-clause-there
returns-in_err-put-clause-there g c = IfOk-from_err c.from_residual-in_err-put.result _ c.from_residual-in_err-put.ensures.0

pub returns-in_err-put-clause-damaged : goal.returns-in_err-put-clause-damaged
returns-in_err-put-clause-damaged g c entries shelves is = no_want c.from_residual-in_err-put.result ShelfFault.Page (λ is. cc) c.from_residual-in_err-put.ensures.1 is

pub returns-in_err-put-clause-refusal : goal.returns-in_err-put-clause-refusal
returns-in_err-put-clause-refusal g c is = no_want c.from_residual-in_err-put.result ShelfFault.Entry (λ is. cc) c.from_residual-in_err-put.ensures.1 is

pub returns-in_err-put-clause-cause : goal.returns-in_err-put-clause-cause
returns-in_err-put-clause-cause g c is = absurd (no_want c.from_residual-in_err-put.result ShelfFault.Device (λ is. cc) c.from_residual-in_err-put.ensures.1 is)

pub returns-in_err-put-clause-ran : goal.returns-in_err-put-clause-ran
returns-in_err-put-clause-ran g c = c.read_page.ensures.ran

pub returns-clause-damaged : goal.returns-clause-damaged
returns-clause-damaged g c entries shelves is = no_fault is

pub returns-clause-refusal : goal.returns-clause-refusal
returns-clause-refusal g c is = no_fault is

pub returns-clause-ran : goal.returns-clause-ran
returns-clause-ran g c = c.read_page.ensures.ran

pub returns-clause-cause : goal.returns-clause-cause
returns-clause-cause g c is = absurd (no_fault is)

pub returns-then-promote-clause-steady : goal.returns-then-promote-clause-steady
returns-then-promote-clause-steady g c = refl

pub returns-then-promote-clause-unfailed : goal.returns-then-promote-clause-unfailed
returns-then-promote-clause-unfailed g c is = refl

pub returns-in_err-owned-clause-steady : goal.returns-in_err-owned-clause-steady
returns-in_err-owned-clause-steady g c = IfOk-from_err c.from_residual.result _ c.from_residual.ensures.0

pub returns-in_err-owned-clause-unfailed : goal.returns-in_err-owned-clause-unfailed
returns-in_err-owned-clause-unfailed g c is = c.read_page.ensures.unfailed (was_err c.in_err-owned.was (err_is c.from_residual.result _ ShelfFault.Memory c.from_residual.ensures.1 is))

pub returns-in_err-put-clause-steady : goal.returns-in_err-put-clause-steady
returns-in_err-put-clause-steady g c = IfOk-from_err c.from_residual-in_err-put.result _ c.from_residual-in_err-put.ensures.0

pub returns-in_err-put-clause-unfailed : goal.returns-in_err-put-clause-unfailed
returns-in_err-put-clause-unfailed g c is = c.in_ok-owned.ensures.steady

pub returns-clause-steady : goal.returns-clause-steady
returns-clause-steady g c = c.in_ok-owned.ensures.steady

pub returns-clause-unfailed : goal.returns-clause-unfailed
returns-clause-unfailed g c is = c.in_ok-owned.ensures.steady
