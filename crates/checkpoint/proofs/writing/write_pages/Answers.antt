use Rattle.std.proofs.Common.{arith, refl, ◌≡◌, ◌∙◌, sym, ap, subst, ⊎_elim, inl, inr, ◌⊎◌, length, ◌+◌, ◌*◌, ◌∷◌, [], ℕ, Bool, false, true≢false, List, IsTrue}
use Rattle.std.proofs.lemmas.Result.{IfOk-from_err, on_ok_weaker}
use Rattle.std.specs.Prelude.{IsErrOf, OnErr}
use Rattle.device.specs.Step.{Torn}
use Rattle.device.proofs.Runs.{not_yet}
use Rattle.device.proofs.Steps.{torn_idle, torn-bytes}
use Rattle.pages.specs.Page.{Entry}
use Rattle.checkpoint.specs.PageWriter.{IsLaid}
use Rattle.checkpoint.specs.declared.filling.EntriesFault.TheVariants as EntriesFault
use Rattle.checkpoint.specs.declared.writing.WriteFault.TheVariants as WriteFault
use Rattle.checkpoint.proofs.Buffering.{look_then_within, pages_within, pages_looked, no_pages_there}
use Rattle.checkpoint.proofs.Faults.{same_error, entries_fault, failed_since}
use Rattle.checkpoint.proofs.Paging.{laid_none, some_entries, laid_step, laid_stop, laid_end}
use Rattle.checkpoint.proofs.writing.write_pages.Goals as goal

is_not : (b : Bool) → b ≡ false → IsTrue b → ⊥
is_not b unset told = true≢false (sym told ∙ unset)

pub walk-init : goal.walk-init
walk-init g c =
    let disk = g.D.Device.disk in
    let writer = c.args.writer.now in
    let content : List ℕ = disk.content c.args.device.now in
    record {
      ran = not_yet disk c.args.device.now (Torn (512 * writer.at) (32768 * (writer.filled + writer.left)))
          (λ x. torn_idle (512 * writer.at) (32768 * (writer.filled + writer.left)) x) (λ keeps x since. g.met.D.Device.only_now c.args.device.now x keeps since);
      steady = refl;
      goes_on = record { at = omega arith; end = refl };
      inside = c.requires.inside;
      gives = λ x all gives. c.rewind.ensures.gives x all gives;
      reads = λ k reads. c.rewind.ensures.reads k reads;
      laid = λ keeps all gives apart sorted fit empty left. (
        all,
        c.rewind.ensures.ahead content all gives,
        laid_none writer all content (some_entries all (λ none. c.if-writer-eq0.false (left ∙ none))) fit c.requires.none empty left (c.requires.inside keeps),
      );
    }

pub walk-preserved : goal.walk-preserved
walk-preserved g c =
    let inv = c.walk.invariant in
    let disk = g.D.Device.disk in
    let start = c.args.writer.now in
    let old = c.walk.writer in
    let was : List ℕ = disk.content c.walk.device in
    let seen : List ℕ = disk.content c.advance.new.device in
    let now : List ℕ = disk.content c.add.new.device in
    let here : Entry = g.E.Entries.here c.advance.new.self in
    let ahead : List Entry → Type 0 = λ es. g.E.Entries.ahead c.walk.entries was es in
    let after : List Entry → Type 0 = λ es. g.E.Entries.ahead c.advance.new.self now es in
    let told : ◌≡◌ {A = Entry} (c.key.result.now, c.cell.result.now) here = λ j. (c.key.ensures j, c.cell.ensures j) in
    record {
      ran = look_then_within disk c.args.device.now c.walk.device c.advance.new.device c.add.new.device (512 * start.at) (32768 * (start.filled + start.left))
          (512 * old.at) (32768 * (old.filled + old.left)) (omega (arith, inv.goes_on.at)) (omega (arith, inv.goes_on.end))
          inv.ran c.advance.ensures.ran c.add.ensures.ran;
      steady = c.in_ok-add.ensures.steady ∙ (c.in_ok-advance.ensures.steady ∙ inv.steady);
      goes_on = record {
        at = omega (arith, inv.goes_on.at, c.in_ok-add.ensures.goes_on.at);
        end = c.in_ok-add.ensures.goes_on.end ∙ inv.goes_on.end;
      };
      inside = λ keeps. c.in_ok-add.ensures.inside (c.add.ensures.ran.had_kept keeps);
      gives = λ x all gives. c.in_ok-advance.ensures.gives x all (inv.gives x all gives);
      reads = λ k reads. inv.reads k (c.in_ok-advance.ensures.reads k reads);
      laid = λ keeps all gives apart sorted fit empty left.
          let laid = inv.laid keeps all gives apart sorted fit empty left in
          let kept = inv.ran.kept keeps in
          let looked = c.advance.ensures.ran.kept kept in
          let same : seen ≡ was = c.advance.ensures.ran.seen kept in
          let torn : Torn (512 * old.at) (32768 * (old.filled + old.left)) was now =
          subst (λ (x : List ℕ). Torn (512 * old.at) (32768 * (old.filled + old.left)) x now) same (c.add.ensures.ran.seen looked)
          in
          laid_step ahead after old c.add.new.self start.at all here was now laid.0 laid.1 laid.2
          (λ there. c.in_ok-advance.ensures.none kept there c.if-not-branch.false)
          (λ entry entries there.
          let next = c.in_ok-advance.ensures.some kept entry entries there in (
            next.1,
            g.met.E.Entries.ahead_same c.advance.new.self was now entries torn.no_shorter
                (λ k reads. torn-bytes (512 * old.at) (32768 * (old.filled + old.left)) was now torn k
                (⊎_elim (λ front. inl (omega (arith, front, inv.goes_on.at))) (λ behind. inr (omega (arith, behind, inv.goes_on.end)))
                (apart k (inv.reads k (c.in_ok-advance.ensures.reads k reads)))))
                next.2,
          ))
          (λ entries there.
          let Laid : List ℕ → Type 0 = λ x. IsLaid old start.at (here ∷ entries) all x in
          let At : Entry → Type 0 = λ e. IsLaid old start.at (e ∷ entries) all seen in
          c.in_ok-add.ensures.laid looked start.at entries all sorted (subst At (sym told) (subst Laid (sym same) there)));
    }

pub returns-then-not-branch-clause-damaged : goal.returns-then-not-branch-clause-damaged
returns-then-not-branch-clause-damaged g c keeps all gives apart sorted fit empty left =
    let inv = c.walk.invariant in
    let disk = g.D.Device.disk in
    let start = c.args.writer.now in
    let was : List ℕ = disk.content c.walk.device in
    let laid = inv.laid keeps all gives apart sorted fit empty left in
    let kept = inv.ran.kept keeps in
    let same : disk.content c.advance.new.device ≡ was = c.advance.ensures.ran.seen kept in
    let Laid : List ℕ → Type 0 = λ x. IsLaid c.walk.writer start.at [] all x in
    c.finish.ensures.damaged (c.advance.ensures.ran.kept kept) start.at all
    (subst Laid (sym same) (laid_end (λ es. g.E.Entries.ahead c.walk.entries was es) c.walk.writer start.at all was laid.0 laid.1 laid.2
    (λ entry entries there. is_not c.in_ok-advance.field-0 c.if-not-branch.true (c.in_ok-advance.ensures.some kept entry entries there).0)))

pub returns-then-not-branch-clause-ran : goal.returns-then-not-branch-clause-ran
returns-then-not-branch-clause-ran g c =
    pages_within g.D.Device.disk c.args.device.now c.walk.device c.advance.new.device c.finish.new.device c.args.writer.now c.walk.writer c.requires.none c.walk.invariant.goes_on
    c.walk.invariant.ran c.advance.ensures.ran c.finish.ensures.ran

pub returns-in_err-add-clause-damaged : goal.returns-in_err-add-clause-damaged
returns-in_err-add-clause-damaged g c keeps all gives apart sorted fit empty left is =
    let inv = c.walk.invariant in
    let disk = g.D.Device.disk in
    let start = c.args.writer.now in
    let old = c.walk.writer in
    let was : List ℕ = disk.content c.walk.device in
    let seen : List ℕ = disk.content c.advance.new.device in
    let here : Entry = g.E.Entries.here c.advance.new.self in
    let laid = inv.laid keeps all gives apart sorted fit empty left in
    let kept = inv.ran.kept keeps in
    let same : seen ≡ was = c.advance.ensures.ran.seen kept in
    let told : ◌≡◌ {A = Entry} (c.key.result.now, c.cell.result.now) here = λ j. (c.key.ensures j, c.cell.ensures j) in
    let passed = same_error c.from_residual-in_err-add.result c.add.result c.from_residual-in_err-add.ensures.1 c.in_err-add.was in
    let damaged : IsErrOf c.add.result WriteFault.Damaged = sym passed ∙ is in
    laid_stop (λ es. g.E.Entries.ahead c.walk.entries was es) old start.at all here was laid.0 laid.1 laid.2
    (λ there. c.in_ok-advance.ensures.none kept there c.if-not-branch.false)
    (λ entry entries there. (c.in_ok-advance.ensures.some kept entry entries there).1)
    (λ entries there.
    let Laid : List ℕ → Type 0 = λ x. IsLaid old start.at (here ∷ entries) all x in
    let At : Entry → Type 0 = λ e. IsLaid old start.at (e ∷ entries) all seen in
    c.add.ensures.damaged (c.advance.ensures.ran.kept kept) start.at entries all (subst At (sym told) (subst Laid (sym same) there)) damaged)

pub returns-in_err-add-clause-ran : goal.returns-in_err-add-clause-ran
returns-in_err-add-clause-ran g c =
    pages_within g.D.Device.disk c.args.device.now c.walk.device c.advance.new.device c.add.new.device c.args.writer.now c.walk.writer c.requires.none c.walk.invariant.goes_on
    c.walk.invariant.ran c.advance.ensures.ran c.add.ensures.ran

pub returns-then-writer-eq0-clause-pages : goal.returns-then-writer-eq0-clause-pages
returns-then-writer-eq0-clause-pages g c keeps all gives apart sorted fit empty left =
    no_pages_there c.args.writer.now.at all (g.D.Device.disk.content c.args.device.now) (c.requires.inside keeps) (sym left ∙ c.if-writer-eq0.true)

pub returns-then-writer-eq0-clause-inside : goal.returns-then-writer-eq0-clause-inside
returns-then-writer-eq0-clause-inside g c keeps = omega (arith, c.requires.inside keeps, c.requires.none, c.if-writer-eq0.true)

pub returns-then-writer-eq0-clause-ran : goal.returns-then-writer-eq0-clause-ran
returns-then-writer-eq0-clause-ran g c =
    let writer = c.args.writer.now in
    not_yet g.D.Device.disk c.args.device.now (Torn (512 * writer.at) (32768 * writer.left)) (λ x. torn_idle (512 * writer.at) (32768 * writer.left) x)
    (λ keeps x since. g.met.D.Device.only_now c.args.device.now x keeps since)

pub returns-in_err-advance-clause-pages : goal.returns-in_err-advance-clause-pages
returns-in_err-advance-clause-pages g c keeps all gives apart sorted fit empty left = IfOk-from_err c.from_residual.result _ c.from_residual.ensures.0

pub returns-in_err-advance-clause-inside : goal.returns-in_err-advance-clause-inside
returns-in_err-advance-clause-inside g c keeps = IfOk-from_err c.from_residual.result _ c.from_residual.ensures.0

pub returns-in_err-advance-clause-gives : goal.returns-in_err-advance-clause-gives
returns-in_err-advance-clause-gives g c content all gives = c.advance.ensures.gives content all (c.walk.invariant.gives content all gives)

pub returns-in_err-advance-clause-ran : goal.returns-in_err-advance-clause-ran
returns-in_err-advance-clause-ran g c =
    pages_looked g.D.Device.disk c.args.device.now c.walk.device c.advance.new.device c.args.writer.now c.requires.none c.walk.invariant.ran c.advance.ensures.ran

pub returns-then-not-branch-clause-pages : goal.returns-then-not-branch-clause-pages
returns-then-not-branch-clause-pages g c keeps all gives apart sorted fit empty left =
    let inv = c.walk.invariant in
    let disk = g.D.Device.disk in
    let start = c.args.writer.now in
    let was : List ℕ = disk.content c.walk.device in
    let laid = inv.laid keeps all gives apart sorted fit empty left in
    let kept = inv.ran.kept keeps in
    let same : disk.content c.advance.new.device ≡ was = c.advance.ensures.ran.seen kept in
    let Laid : List ℕ → Type 0 = λ x. IsLaid c.walk.writer start.at [] all x in
    c.finish.ensures.pages (c.advance.ensures.ran.kept kept) start.at all sorted
    (subst Laid (sym same) (laid_end (λ es. g.E.Entries.ahead c.walk.entries was es) c.walk.writer start.at all was laid.0 laid.1 laid.2
    (λ entry entries there. is_not c.in_ok-advance.field-0 c.if-not-branch.true (c.in_ok-advance.ensures.some kept entry entries there).0)))

pub returns-then-not-branch-clause-inside : goal.returns-then-not-branch-clause-inside
returns-then-not-branch-clause-inside g c keeps =
    on_ok_weaker c.finish.result (λ le. omega (arith, le, c.walk.invariant.goes_on.end))
    (c.finish.ensures.inside (c.advance.ensures.ran.kept (c.walk.invariant.ran.kept keeps)))

pub returns-then-not-branch-clause-gives : goal.returns-then-not-branch-clause-gives
returns-then-not-branch-clause-gives g c content all gives = c.in_ok-advance.ensures.gives content all (c.walk.invariant.gives content all gives)

pub returns-then-not-branch-clause-refusal : goal.returns-then-not-branch-clause-refusal
returns-then-not-branch-clause-refusal g c = c.finish.ensures.refusal

pub returns-then-not-branch-clause-cause : goal.returns-then-not-branch-clause-cause
returns-then-not-branch-clause-cause g c told =
    failed_since g.D.Device.disk c.args.device.now c.walk.device c.finish.new.device c.walk.invariant.ran.count
    (failed_since g.D.Device.disk c.walk.device c.advance.new.device c.finish.new.device c.advance.ensures.ran.count (c.finish.ensures.cause told))

pub returns-in_err-add-clause-pages : goal.returns-in_err-add-clause-pages
returns-in_err-add-clause-pages g c keeps all gives apart sorted fit empty left =
    IfOk-from_err c.from_residual-in_err-add.result _ c.from_residual-in_err-add.ensures.0

pub returns-in_err-add-clause-inside : goal.returns-in_err-add-clause-inside
returns-in_err-add-clause-inside g c keeps = IfOk-from_err c.from_residual-in_err-add.result _ c.from_residual-in_err-add.ensures.0

pub returns-in_err-add-clause-gives : goal.returns-in_err-add-clause-gives
returns-in_err-add-clause-gives g c content all gives = c.in_ok-advance.ensures.gives content all (c.walk.invariant.gives content all gives)

pub returns-in_err-add-clause-refusal : goal.returns-in_err-add-clause-refusal
returns-in_err-add-clause-refusal g c =
    let same = same_error c.from_residual-in_err-add.result c.add.result c.from_residual-in_err-add.ensures.1 c.in_err-add.was in
    subst (λ r. OnErr r (IsErrOf r WriteFault.Device ⊎ IsErrOf r WriteFault.Damaged)) (sym same) c.add.ensures.refusal

pub returns-in_err-add-clause-cause : goal.returns-in_err-add-clause-cause
returns-in_err-add-clause-cause g c told =
    let same = same_error c.from_residual-in_err-add.result c.add.result c.from_residual-in_err-add.ensures.1 c.in_err-add.was in
    failed_since g.D.Device.disk c.args.device.now c.walk.device c.add.new.device c.walk.invariant.ran.count
    (failed_since g.D.Device.disk c.walk.device c.advance.new.device c.add.new.device c.advance.ensures.ran.count (c.add.ensures.cause (sym same ∙ told)))

pub returns-in_err-advance-clause-damaged : goal.returns-in_err-advance-clause-damaged
returns-in_err-advance-clause-damaged g c keeps all gives apart sorted fit empty left told =
    let laid = c.walk.invariant.laid keeps all gives apart sorted fit empty left in
    c.advance.ensures.damaged (c.walk.invariant.ran.kept keeps)
    (entries_fault c.from_residual.result EntriesFault.Damaged c.from_residual.ensures.1 c.in_err-advance.was told) laid.0 laid.1

pub returns-in_err-advance-clause-cause : goal.returns-in_err-advance-clause-cause
returns-in_err-advance-clause-cause g c told =
    failed_since g.D.Device.disk c.args.device.now c.walk.device c.advance.new.device c.walk.invariant.ran.count
    (c.advance.ensures.cause (entries_fault c.from_residual.result EntriesFault.Device c.from_residual.ensures.1 c.in_err-advance.was told))

pub walk-smaller : goal.walk-smaller
walk-smaller g c = c.in_ok-advance.ensures.most c.if-not-branch.false

pub finish-requires : goal.finish-requires
finish-requires g c =
    record {
      inside = λ keeps.
          let was = c.advance.ensures.ran.had_kept keeps in
          omega (arith, c.walk.invariant.inside was, ap (λ (x : List ℕ). length x) (c.advance.ensures.ran.seen was));
    }

pub add-requires : goal.add-requires
add-requires g c =
    record {
      inside = λ keeps.
          let was = c.advance.ensures.ran.had_kept keeps in
          omega (arith, c.walk.invariant.inside was, ap (λ (x : List ℕ). length x) (c.advance.ensures.ran.seen was));
    }

pub key-requires : goal.key-requires
key-requires g c = c.in_ok-advance.ensures.stands c.if-not-branch.false

pub cell-requires : goal.cell-requires
cell-requires g c = c.in_ok-advance.ensures.stands c.if-not-branch.false

pub returns-then-writer-eq0-clause-steady : goal.returns-then-writer-eq0-clause-steady
returns-then-writer-eq0-clause-steady g c = refl

pub returns-in_err-advance-clause-steady : goal.returns-in_err-advance-clause-steady
returns-in_err-advance-clause-steady g c = IfOk-from_err c.from_residual.result _ c.from_residual.ensures.0

pub returns-in_err-add-clause-steady : goal.returns-in_err-add-clause-steady
returns-in_err-add-clause-steady g c = IfOk-from_err c.from_residual-in_err-add.result _ c.from_residual-in_err-add.ensures.0

pub returns-then-not-branch-clause-steady : goal.returns-then-not-branch-clause-steady
returns-then-not-branch-clause-steady g c = on_ok_weaker c.finish.result (λ same. same ∙ (c.in_ok-advance.ensures.steady ∙ c.walk.invariant.steady)) c.finish.ensures.steady
