use Rattle.std.proofs.Common.{rules, arith, ◌≡◌, ◌∙◌, ap, subst, ◌-◌, List}
use Rattle.std.specs.Prelude.{IsErrOf}
use Rattle.std.proofs.lemmas.Result.{IfOk-from_err}
use Rattle.checkpoint.proofs.Faults.{err_is, was_err, no_fault}
use Rattle.gatelog.proofs.Walking.{same_then}
use Rattle.pages.specs.Page.{Entry}
use Rattle.checkpoint.specs.Reader.{IsRefused}
use Rattle.roots.specs.declared.root.Root.{Root}
use Rattle.shelf.specs.Shelf.{root_of, pages_of}
use Rattle.shelf.specs.declared.fault.ShelfFault.TheVariants as ShelfFault
use Rattle.shelf.proofs.Holding.{length-pages_of, inside_still}
use Rattle.shelf.proofs.Telling.{told_page, refused_page, range_shown}
use Rattle.shelf.proofs.shelf.Shelf.tell.Goals as goal

pub tell_one-requires : goal.tell_one-requires
tell_one-requires g c =
    let inv = c.loop-i.invariant in
    let shelf = c.args.self.now in
    let high = c.count_with.ensures.bound in
    let count : c.saturating_sub-i-end.result ≡ c.count_with.result - c.saturating_sub-start.result = c.saturating_sub-i-end.ensures in
    let number : (root_of c.loop-i.self).pages ≡ (root_of shelf).pages = ap (λ (r : Root). r.pages) inv.root in
    record {
      number = omega (arith, high, count, number, c.loop-i-test.true);
      inside = inside_still g.D.Device.disk c.args.device.now c.loop-i.device (root_of shelf) (root_of c.loop-i.self) inv.root inv.ran c.requires.inside;
    }

pub returns-in_err-tell_one-clause-refused : goal.returns-in_err-tell_one-clause-refused
returns-in_err-tell_one-clause-refused g c entries shelves is =
    let inv = c.loop-i.invariant in
    let disk = g.D.Device.disk in
    let pages : List (List Entry) = pages_of disk c.args.device.now c.args.self.now in
    let size = length-pages_of disk c.args.device.now c.args.self.now in
    let high = c.count_with.ensures.bound in
    let count : c.saturating_sub-i-end.result ≡ c.count_with.result - c.saturating_sub-start.result = c.saturating_sub-i-end.ensures in
    let told : IsErrOf c.tell_one.result ShelfFault.Entry = search rules in
    let Refused : List Entry → Type 0 = λ es. IsRefused g.R.Reader.told g.R.Reader.refuses c.args.reader.now es in
    subst Refused
    (range_shown disk c.args.device.now c.args.self.now entries c.args.prefix.now c.count_up_to.result c.count_with.result c.saturating_sub-start.result c.saturating_sub-i-end.result
    shelves (c.count_up_to.ensures.split _ shelves.index) (c.count_with.ensures.split _ shelves.index) c.count_up_to.ensures.bound high c.saturating_sub-start.ensures count)
    (refused_page g.R.Reader.told g.met.R.Reader.told_then g.R.Reader.refuses c.args.reader.now c.loop-i.reader pages (pages_of disk c.loop-i.device c.loop-i.self) c.saturating_sub-start.result c.loop-i.i
    c.saturating_sub-i-end.result c.args.prefix.now (inv.pages entries shelves) (omega (arith, size, high, count, c.loop-i-test.true)) (omega (arith, c.loop-i-test.true)) (inv.told entries shelves)
    (c.tell_one.ensures.refused entries (inv.kept entries shelves) told))

pub returns-in_err-tell_one-clause-kept : goal.returns-in_err-tell_one-clause-kept
returns-in_err-tell_one-clause-kept g c entries shelves = c.tell_one.ensures.kept entries (c.loop-i.invariant.kept entries shelves)

pub loop-i-preserved : goal.loop-i-preserved
loop-i-preserved g c =
    let inv = c.loop-i.invariant in
    let shelf = c.args.self.now in
    let disk = g.D.Device.disk in
    let size = length-pages_of disk c.args.device.now shelf in
    let high = c.count_with.ensures.bound in
    let count : c.saturating_sub-i-end.result ≡ c.count_with.result - c.saturating_sub-start.result = c.saturating_sub-i-end.ensures in
    record {
      ran = same_then _ _ _ _ inv.ran c.tell_one.ensures.ran;
      steady = c.in_ok-tell_one.ensures.steady ∙ inv.steady;
      root = c.tell_one.ensures.root ∙ inv.root;
      kept = λ entries shelves. c.tell_one.ensures.kept entries (inv.kept entries shelves);
      pages = λ entries shelves. c.tell_one.ensures.pages entries (inv.kept entries shelves) ∙ inv.pages entries shelves;
      told = λ entries shelves.
          told_page g.R.Reader.told g.met.R.Reader.told_then c.args.reader.now c.loop-i.reader c.tell_one.new.reader (pages_of disk c.args.device.now shelf) (pages_of disk c.loop-i.device c.loop-i.self)
          c.saturating_sub-start.result c.loop-i.i c.args.prefix.now (inv.pages entries shelves) (omega (arith, size, high, count, c.loop-i-test.true)) (inv.told entries shelves)
          (c.in_ok-tell_one.ensures.told entries (inv.kept entries shelves));
    }

pub returns-clause-told : goal.returns-clause-told
returns-clause-told g c entries shelves =
    let count : c.loop-i.i ≡ c.count_with.result - c.saturating_sub-start.result = omega (arith, c.saturating_sub-i-end.ensures) in
    let Told : List Entry → Type 0 = λ es. g.R.Reader.told c.args.reader.now c.loop-i.reader es in
    subst Told
    (range_shown g.D.Device.disk c.args.device.now c.args.self.now entries c.args.prefix.now c.count_up_to.result c.count_with.result c.saturating_sub-start.result c.loop-i.i
    shelves (c.count_up_to.ensures.split _ shelves.index) (c.count_with.ensures.split _ shelves.index) c.count_up_to.ensures.bound c.count_with.ensures.bound
    c.saturating_sub-start.ensures count)
    (c.loop-i.invariant.told entries shelves)

pub returns-in_err-tell_one-clause-told : goal.returns-in_err-tell_one-clause-told
returns-in_err-tell_one-clause-told g c entries shelves = IfOk-from_err c.from_residual.result _ c.from_residual.ensures.0

pub returns-in_err-tell_one-clause-root : goal.returns-in_err-tell_one-clause-root
returns-in_err-tell_one-clause-root g c = c.tell_one.ensures.root ∙ c.loop-i.invariant.root

pub returns-in_err-tell_one-clause-damaged : goal.returns-in_err-tell_one-clause-damaged
returns-in_err-tell_one-clause-damaged g c entries shelves is = c.tell_one.ensures.damaged entries (c.loop-i.invariant.kept entries shelves) (was_err c.in_err-tell_one.was (err_is c.from_residual.result _ ShelfFault.Page c.from_residual.ensures.1 is))

pub returns-in_err-tell_one-clause-ran : goal.returns-in_err-tell_one-clause-ran
returns-in_err-tell_one-clause-ran g c = same_then _ _ _ _ c.loop-i.invariant.ran c.tell_one.ensures.ran

pub returns-clause-refused : goal.returns-clause-refused
returns-clause-refused g c entries shelves is = absurd (no_fault is)

pub returns-clause-kept : goal.returns-clause-kept
returns-clause-kept g c = c.loop-i.invariant.kept

pub returns-clause-root : goal.returns-clause-root
returns-clause-root g c = c.loop-i.invariant.root

pub returns-clause-damaged : goal.returns-clause-damaged
returns-clause-damaged g c entries shelves is = no_fault is

pub returns-clause-ran : goal.returns-clause-ran
returns-clause-ran g c = c.loop-i.invariant.ran

pub returns-clause-cause : goal.returns-clause-cause
returns-clause-cause g c is = absurd (no_fault is)

pub returns-in_err-tell_one-clause-steady : goal.returns-in_err-tell_one-clause-steady
returns-in_err-tell_one-clause-steady g c = IfOk-from_err c.from_residual.result _ c.from_residual.ensures.0

pub returns-in_err-tell_one-clause-unfailed : goal.returns-in_err-tell_one-clause-unfailed
returns-in_err-tell_one-clause-unfailed g c is =
    c.tell_one.ensures.unfailed (was_err c.in_err-tell_one.was (err_is c.from_residual.result _ ShelfFault.Memory c.from_residual.ensures.1 is))
    ∙ c.loop-i.invariant.steady

pub returns-clause-steady : goal.returns-clause-steady
returns-clause-steady g c = c.loop-i.invariant.steady

pub returns-clause-unfailed : goal.returns-clause-unfailed
returns-clause-unfailed g c is = c.loop-i.invariant.steady

pub returns-in_err-tell_one-clause-stopped : goal.returns-in_err-tell_one-clause-stopped
returns-in_err-tell_one-clause-stopped g c is =
    c.tell_one.ensures.stopped (was_err c.in_err-tell_one.was (err_is c.from_residual.result _ ShelfFault.Entry c.from_residual.ensures.1 is))
    ∙ c.loop-i.invariant.steady

pub returns-clause-stopped : goal.returns-clause-stopped
returns-clause-stopped g c is = c.loop-i.invariant.steady
