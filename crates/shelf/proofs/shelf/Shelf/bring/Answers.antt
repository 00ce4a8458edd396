use Rattle.std.proofs.Common.{rules, arith, refl, ◌≡◌, sym, ap, subst, ◌-◌, ◌≤◌, ℕ, List}
use Rattle.std.proofs.lemmas.Result.{IfOk-from_err}
use Rattle.device.specs.Step.{Same}
use Rattle.device.proofs.Runs.{not_yet}
use Rattle.checkpoint.proofs.Faults.{err_is, was_err, no_fault}
use Rattle.checkpoint.specs.Pages.{IsIndex}
use Rattle.roots.specs.declared.root.Root.{Root}
use Rattle.shelf.specs.Places.{is_at_or_below, IsSplit}
use Rattle.shelf.specs.Shelf.{root_of, firsts_of}
use Rattle.shelf.specs.declared.fault.ShelfFault.TheVariants as ShelfFault
use Rattle.shelf.proofs.Places.{brought_none, brought_some, keys_length}
use Rattle.shelf.proofs.shelf.Shelf.bring.Goals as goal

pub returns-then-count-eq0-clause-brought : goal.returns-then-count-eq0-clause-brought
returns-then-count-eq0-clause-brought g c =
    let key : List ℕ = c.args.key.now in
    let none : c.count_up_to-count.result ≡ 0 = search rules in
    record {
      there = tt;
      found = λ pages index.
          let Split : ℕ → Type 0 = λ n. IsSplit (is_at_or_below key) (firsts_of c.args.self.now) n in
          brought_none _ _ index key (subst Split none (c.count_up_to-count.ensures.split pages index));
    }

pub returns-clause-brought : goal.returns-clause-brought
returns-clause-brought g c =
    let key : List ℕ = c.args.key.now in
    let count : ℕ = c.count_up_to-count.result in
    let some : 1 ≤ count = search rules in
    let new = c.fetch.new.self in
    let root : root_of new ≡ root_of c.args.self.now = c.fetch.ensures.root in
    let number : (root_of new).pages ≡ (root_of c.args.self.now).pages = ap (λ (r : Root). r.pages) root in
    record {
      there = (omega (arith, some, number, c.count_up_to-count.ensures.bound), c.in_ok-fetch.ensures.there);
      found = λ pages index.
          let By : List (List ℕ) → Type 0 = λ firsts. IsIndex firsts pages in
          let Split : List (List ℕ) → Type 0 = λ firsts. IsSplit (is_at_or_below key) firsts count in
          let split = subst Split (sym c.fetch.ensures.firsts) (c.count_up_to-count.ensures.split pages (subst By c.fetch.ensures.firsts index)) in
          let size = keys_length new.first_keys.items pages index in
          brought_some _ _ index key count (count - 1) split (omega (arith, some)) (omega (arith, size, new.counted, number, c.count_up_to-count.ensures.bound));
    }

pub returns-then-count-eq0-clause-kept : goal.returns-then-count-eq0-clause-kept
returns-then-count-eq0-clause-kept g c entries shelves = shelves

pub returns-then-count-eq0-clause-root : goal.returns-then-count-eq0-clause-root
returns-then-count-eq0-clause-root g c = refl

pub returns-then-count-eq0-clause-damaged : goal.returns-then-count-eq0-clause-damaged
returns-then-count-eq0-clause-damaged g c entries shelves is = no_fault is

pub returns-then-count-eq0-clause-refusal : goal.returns-then-count-eq0-clause-refusal
returns-then-count-eq0-clause-refusal g c is = no_fault is

pub returns-then-count-eq0-clause-ran : goal.returns-then-count-eq0-clause-ran
returns-then-count-eq0-clause-ran g c = not_yet g.D.Device.disk c.args.device.now Same (λ c. refl) (λ keeps content since. g.met.D.Device.only_now c.args.device.now content keeps since)

pub returns-then-count-eq0-clause-cause : goal.returns-then-count-eq0-clause-cause
returns-then-count-eq0-clause-cause g c is = absurd (no_fault is)

pub returns-in_err-fetch-clause-brought : goal.returns-in_err-fetch-clause-brought
returns-in_err-fetch-clause-brought g c = IfOk-from_err c.from_residual.result _ c.from_residual.ensures.0

pub returns-in_err-fetch-clause-kept : goal.returns-in_err-fetch-clause-kept
returns-in_err-fetch-clause-kept g c = c.fetch.ensures.kept

pub returns-in_err-fetch-clause-root : goal.returns-in_err-fetch-clause-root
returns-in_err-fetch-clause-root g c = c.fetch.ensures.root

pub returns-in_err-fetch-clause-damaged : goal.returns-in_err-fetch-clause-damaged
returns-in_err-fetch-clause-damaged g c entries shelves is = c.fetch.ensures.damaged entries shelves (was_err c.in_err-fetch.was (err_is c.from_residual.result _ ShelfFault.Page c.from_residual.ensures.1 is))

pub returns-in_err-fetch-clause-refusal : goal.returns-in_err-fetch-clause-refusal
returns-in_err-fetch-clause-refusal g c is = c.fetch.ensures.refusal (was_err c.in_err-fetch.was (err_is c.from_residual.result _ ShelfFault.Entry c.from_residual.ensures.1 is))

pub returns-in_err-fetch-clause-ran : goal.returns-in_err-fetch-clause-ran
returns-in_err-fetch-clause-ran g c = c.fetch.ensures.ran

pub returns-in_err-fetch-clause-cause : goal.returns-in_err-fetch-clause-cause
returns-in_err-fetch-clause-cause g c is = c.fetch.ensures.cause (was_err c.in_err-fetch.was (err_is c.from_residual.result _ ShelfFault.Device c.from_residual.ensures.1 is))

pub returns-clause-kept : goal.returns-clause-kept
returns-clause-kept g c = c.fetch.ensures.kept

pub returns-clause-root : goal.returns-clause-root
returns-clause-root g c = c.fetch.ensures.root

pub returns-clause-damaged : goal.returns-clause-damaged
returns-clause-damaged g c entries shelves is = no_fault is

pub returns-clause-refusal : goal.returns-clause-refusal
returns-clause-refusal g c is = no_fault is

pub returns-clause-ran : goal.returns-clause-ran
returns-clause-ran g c = c.fetch.ensures.ran

pub returns-clause-cause : goal.returns-clause-cause
returns-clause-cause g c is = absurd (no_fault is)

pub returns-then-count-eq0-clause-steady : goal.returns-then-count-eq0-clause-steady
returns-then-count-eq0-clause-steady g c = refl

pub returns-then-count-eq0-clause-unfailed : goal.returns-then-count-eq0-clause-unfailed
returns-then-count-eq0-clause-unfailed g c is = refl

pub returns-in_err-fetch-clause-steady : goal.returns-in_err-fetch-clause-steady
returns-in_err-fetch-clause-steady g c = IfOk-from_err c.from_residual.result _ c.from_residual.ensures.0

pub returns-in_err-fetch-clause-unfailed : goal.returns-in_err-fetch-clause-unfailed
returns-in_err-fetch-clause-unfailed g c is = c.fetch.ensures.unfailed (was_err c.in_err-fetch.was (err_is c.from_residual.result _ ShelfFault.Memory c.from_residual.ensures.1 is))

pub returns-clause-steady : goal.returns-clause-steady
returns-clause-steady g c = c.in_ok-fetch.ensures.steady

pub returns-clause-unfailed : goal.returns-clause-unfailed
returns-clause-unfailed g c is = c.in_ok-fetch.ensures.steady
