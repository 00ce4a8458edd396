use Rattle.std.proofs.Common.{rules, ⊎_elim, ◌≡◌, ◌∙◌, sym, ap, subst, ◌<◌, ◌≤◌, ◌++◌, ◌∷◌, ℕ, Bool, false, true≢false, IsTrue, List, [], map}
use Rattle.std.proofs.lemmas.Result.{IfOk-from_err}
use Rattle.std.specs.Prelude.{IsErrOf}
use Rattle.gatelog.proofs.Walking.{same_then}
use Rattle.pages.specs.Page.{Entry, room_of}
use Rattle.checkpoint.specs.Filling.{AllFit, keys_from, pages_of}
use Rattle.checkpoint.specs.Index.{keys_of}
use Rattle.checkpoint.specs.Pages.{first_key}
use Rattle.checkpoint.specs.declared.filling.EntriesFault.TheVariants as EntriesFault
use Rattle.checkpoint.proofs.Faults.{err_is, was_err, no_fault, one_of_two, failed_since}
use Rattle.checkpoint.proofs.Cutting.{walked_all, walked_more, walked_long}
use Rattle.checkpoint.proofs.filling.first_keys.Given.{Over}
use Rattle.checkpoint.proofs.filling.first_keys.Goals.{After-into_first_keys}
use Rattle.checkpoint.proofs.filling.first_keys.Goals as goal

is_not : (b : Bool) → b ≡ false → IsTrue b → ⊥
is_not b unset told = true≢false (sym told ∙ unset)

-- the walk took all entries
took_all : (g : Over) (c : After-into_first_keys g) (all : List Entry) → g.D.Device.disk.keeps c.args.device.now
    → g.E.Entries.gives c.args.entries.now (g.D.Device.disk.content c.args.device.now) all
    → (keys_of c.walk.filling.first_keys.items ≡ map first_key (pages_of all)) × AllFit all
took_all g c all keeps gives =
    let inv = c.walk.invariant in
    let content : List ℕ = g.D.Device.disk.content c.args.device.now in
    let ahead : List ℕ → List Entry → Type 0 = λ x es. g.E.Entries.ahead c.walk.entries x es in
    walked_all (ahead content) (keys_of c.walk.filling.first_keys.items) c.walk.filling.free all (inv.walked keeps all gives)
    (λ entry entries there.
    let back : ahead (g.D.Device.disk.content c.walk.device) (entry ∷ entries) = subst (λ x. ahead x (entry ∷ entries)) (sym (inv.ran.seen keeps)) there in
    is_not c.in_ok-advance.field-0 c.if-not-branch.true (c.in_ok-advance.ensures.some (inv.ran.kept keeps) entry entries back).0)

pub returns-then-not-branch-clause-keys : goal.returns-then-not-branch-clause-keys
returns-then-not-branch-clause-keys g c keeps all gives =
    ap (λ keys. keys_of keys.items) c.into_first_keys.ensures ∙ (took_all g (goal.at.returns-then-not-branch-clause-keys g c).After-into_first_keys all keeps gives).0

pub returns-then-not-branch-clause-fit : goal.returns-then-not-branch-clause-fit
returns-then-not-branch-clause-fit g c keeps all gives = (took_all g (goal.at.returns-then-not-branch-clause-fit g c).After-into_first_keys all keeps gives).1

pub walk-preserved : goal.walk-preserved
walk-preserved g c =
    let inv = c.walk.invariant in
    let disk = g.D.Device.disk in
    let content : List ℕ = disk.content c.args.device.now in
    let now : List ℕ = disk.content c.walk.device in
    let here : Entry = g.E.Entries.here c.advance.new.self in
    let ahead : List ℕ → List Entry → Type 0 = λ x es. g.E.Entries.ahead c.walk.entries x es in
    let after : List ℕ → List Entry → Type 0 = λ x es. g.E.Entries.ahead c.advance.new.self x es in
    let told : ◌≡◌ {A = Entry} (c.key.result.now, c.cell.result.now) here = λ j. (c.key.ensures j, c.cell.ensures j) in
    record {
      ran = same_then disk c.args.device.now c.walk.device c.advance.new.device inv.ran c.advance.ensures.ran;
      steady = c.in_ok-advance.ensures.steady ∙ inv.steady;
      gives = λ x all gives. c.in_ok-advance.ensures.gives x all (inv.gives x all gives);
      reads = λ k reads. inv.reads k (c.in_ok-advance.ensures.reads k reads);
      walked = λ keeps all gives.
          let same : now ≡ content = inv.ran.seen keeps in
          let kept = inv.ran.kept keeps in
          let old_keys : List (List ℕ) = keys_of c.walk.filling.first_keys.items in
          let new_keys : List (List ℕ) = keys_of c.add.new.self.first_keys.items in
          walked_more (ahead content) (after content) old_keys new_keys c.walk.filling.free c.add.new.self.free all here (inv.walked keeps all gives)
          (λ there. c.in_ok-advance.ensures.none kept (subst (λ x. ahead x []) (sym same) there) c.if-not-branch.false)
          (λ entry entries there.
          let next = c.in_ok-advance.ensures.some kept entry entries (subst (λ x. ahead x (entry ∷ entries)) (sym same) there) in
          (next.1, subst (λ x. after x entries) same next.2))
          (λ entries.
          let Adds : Entry → Type 0 = λ e.
          new_keys ++ keys_from c.add.new.self.free entries ≡ old_keys ++ keys_from c.walk.filling.free (e ∷ entries)
          in
          subst Adds told (c.in_ok-add.ensures.keys entries))
          (subst (λ (e : Entry). room_of (e ∷ []) ≤ 32768) told c.in_ok-add.ensures.fits);
    }

pub returns-in_err-add-clause-too_long : goal.returns-in_err-add-clause-too_long
returns-in_err-add-clause-too_long g c keeps all gives is fit =
    let inv = c.walk.invariant in
    let disk = g.D.Device.disk in
    let content : List ℕ = disk.content c.args.device.now in
    let now : List ℕ = disk.content c.walk.device in
    let here : Entry = g.E.Entries.here c.advance.new.self in
    let ahead : List ℕ → List Entry → Type 0 = λ x es. g.E.Entries.ahead c.walk.entries x es in
    let told : ◌≡◌ {A = Entry} (c.key.result.now, c.cell.result.now) here = λ j. (c.key.ensures j, c.cell.ensures j) in
    let same : now ≡ content = inv.ran.seen keeps in
    let kept = inv.ran.kept keeps in
    let long : IsErrOf c.add.result EntriesFault.TooLong = search rules in
    walked_long (ahead content) (keys_of c.walk.filling.first_keys.items) c.walk.filling.free all here (inv.walked keeps all gives)
    (λ there. c.in_ok-advance.ensures.none kept (subst (λ x. ahead x []) (sym same) there) c.if-not-branch.false)
    (λ entry entries there. (c.in_ok-advance.ensures.some kept entry entries (subst (λ x. ahead x (entry ∷ entries)) (sym same) there)).1)
    (subst (λ (e : Entry). 32768 < room_of (e ∷ [])) told (c.add.ensures.too_long long)) fit

pub returns-in_err-advance-clause-damaged : goal.returns-in_err-advance-clause-damaged
returns-in_err-advance-clause-damaged g c keeps is all gives =
    let inv = c.walk.invariant in
    let disk = g.D.Device.disk in
    let content : List ℕ = disk.content c.args.device.now in
    let now : List ℕ = disk.content c.walk.device in
    let walked = inv.walked keeps all gives in
    let same : now ≡ content = inv.ran.seen keeps in
    let ahead : List ℕ → List Entry → Type 0 = λ x es. g.E.Entries.ahead c.walk.entries x es in
    let damaged : IsErrOf c.advance.result EntriesFault.Damaged = search rules in
    c.advance.ensures.damaged (inv.ran.kept keeps) damaged walked.rest (subst (λ x. ahead x walked.rest) (sym same) walked.there)

pub returns-in_err-advance-clause-keys : goal.returns-in_err-advance-clause-keys
returns-in_err-advance-clause-keys g c keeps all gives = IfOk-from_err c.from_residual.result _ c.from_residual.ensures.0

pub returns-in_err-advance-clause-fit : goal.returns-in_err-advance-clause-fit
returns-in_err-advance-clause-fit g c keeps all gives = IfOk-from_err c.from_residual.result _ c.from_residual.ensures.0

pub returns-in_err-add-clause-keys : goal.returns-in_err-add-clause-keys
returns-in_err-add-clause-keys g c keeps all gives = IfOk-from_err c.from_residual-in_err-add.result _ c.from_residual-in_err-add.ensures.0

pub returns-in_err-add-clause-fit : goal.returns-in_err-add-clause-fit
returns-in_err-add-clause-fit g c keeps all gives = IfOk-from_err c.from_residual-in_err-add.result _ c.from_residual-in_err-add.ensures.0

pub returns-in_err-advance-clause-too_long : goal.returns-in_err-advance-clause-too_long
returns-in_err-advance-clause-too_long g c keeps all gives told fit =
    absurd (⊎_elim (λ is. cc) (λ is. cc)
    (one_of_two c.from_residual.result c.advance.result EntriesFault.Device EntriesFault.Damaged EntriesFault.TooLong
    c.from_residual.ensures.1 c.in_err-advance.was c.advance.ensures.refusal told))

pub returns-in_err-add-clause-damaged : goal.returns-in_err-add-clause-damaged
returns-in_err-add-clause-damaged g c keeps told all gives =
    absurd (⊎_elim (λ is. cc) (λ is. cc)
    (one_of_two c.from_residual-in_err-add.result c.add.result EntriesFault.TooLong EntriesFault.Memory EntriesFault.Damaged
    c.from_residual-in_err-add.ensures.1 c.in_err-add.was c.add.ensures.refusal told))

pub returns-in_err-add-clause-cause : goal.returns-in_err-add-clause-cause
returns-in_err-add-clause-cause g c told =
    absurd (⊎_elim (λ is. cc) (λ is. cc)
    (one_of_two c.from_residual-in_err-add.result c.add.result EntriesFault.TooLong EntriesFault.Memory EntriesFault.Device
    c.from_residual-in_err-add.ensures.1 c.in_err-add.was c.add.ensures.refusal told))

pub returns-in_err-advance-clause-cause : goal.returns-in_err-advance-clause-cause
returns-in_err-advance-clause-cause g c told =
    failed_since g.D.Device.disk c.args.device.now c.walk.device c.advance.new.device c.walk.invariant.ran.count
    (c.advance.ensures.cause (was_err c.in_err-advance.was (err_is c.from_residual.result _ EntriesFault.Device c.from_residual.ensures.1 told)))

pub returns-in_err-advance-clause-gives : goal.returns-in_err-advance-clause-gives
returns-in_err-advance-clause-gives g c content all gives = c.advance.ensures.gives content all (c.walk.invariant.gives content all gives)

pub returns-in_err-advance-clause-reads : goal.returns-in_err-advance-clause-reads
returns-in_err-advance-clause-reads g c k reads = c.walk.invariant.reads k (c.advance.ensures.reads k reads)

pub returns-in_err-advance-clause-ran : goal.returns-in_err-advance-clause-ran
returns-in_err-advance-clause-ran g c =
    same_then g.D.Device.disk c.args.device.now c.walk.device c.advance.new.device c.walk.invariant.ran c.advance.ensures.ran

pub returns-then-not-branch-clause-gives : goal.returns-then-not-branch-clause-gives
returns-then-not-branch-clause-gives g c content all gives = c.advance.ensures.gives content all (c.walk.invariant.gives content all gives)

pub returns-then-not-branch-clause-reads : goal.returns-then-not-branch-clause-reads
returns-then-not-branch-clause-reads g c k reads = c.walk.invariant.reads k (c.advance.ensures.reads k reads)

pub returns-then-not-branch-clause-ran : goal.returns-then-not-branch-clause-ran
returns-then-not-branch-clause-ran g c =
    same_then g.D.Device.disk c.args.device.now c.walk.device c.advance.new.device c.walk.invariant.ran c.advance.ensures.ran

pub returns-in_err-add-clause-gives : goal.returns-in_err-add-clause-gives
returns-in_err-add-clause-gives g c content all gives = c.advance.ensures.gives content all (c.walk.invariant.gives content all gives)

pub returns-in_err-add-clause-reads : goal.returns-in_err-add-clause-reads
returns-in_err-add-clause-reads g c k reads = c.walk.invariant.reads k (c.advance.ensures.reads k reads)

pub returns-in_err-add-clause-ran : goal.returns-in_err-add-clause-ran
returns-in_err-add-clause-ran g c =
    same_then g.D.Device.disk c.args.device.now c.walk.device c.advance.new.device c.walk.invariant.ran c.advance.ensures.ran

pub returns-then-not-branch-clause-too_long : goal.returns-then-not-branch-clause-too_long
returns-then-not-branch-clause-too_long g c keeps all gives told fit = no_fault told

pub returns-then-not-branch-clause-damaged : goal.returns-then-not-branch-clause-damaged
returns-then-not-branch-clause-damaged g c keeps told all gives = no_fault told

pub returns-then-not-branch-clause-cause : goal.returns-then-not-branch-clause-cause
returns-then-not-branch-clause-cause g c told = absurd (no_fault told)

pub walk-smaller : goal.walk-smaller
walk-smaller g c = c.in_ok-advance.ensures.most c.if-not-branch.false

pub key-requires : goal.key-requires
key-requires g c = c.in_ok-advance.ensures.stands c.if-not-branch.false

pub cell-requires : goal.cell-requires
cell-requires g c = c.in_ok-advance.ensures.stands c.if-not-branch.false

pub returns-in_err-advance-clause-steady : goal.returns-in_err-advance-clause-steady
returns-in_err-advance-clause-steady g c = IfOk-from_err c.from_residual.result _ c.from_residual.ensures.0

pub returns-in_err-add-clause-steady : goal.returns-in_err-add-clause-steady
returns-in_err-add-clause-steady g c = IfOk-from_err c.from_residual-in_err-add.result _ c.from_residual-in_err-add.ensures.0

pub returns-then-not-branch-clause-steady : goal.returns-then-not-branch-clause-steady
returns-then-not-branch-clause-steady g c = c.in_ok-advance.ensures.steady ∙ c.walk.invariant.steady

pub returns-in_err-advance-clause-unfailed : goal.returns-in_err-advance-clause-unfailed
returns-in_err-advance-clause-unfailed g c told =
    absurd (⊎_elim (λ is. cc) (λ is. cc)
    (one_of_two c.from_residual.result c.advance.result EntriesFault.Device EntriesFault.Damaged EntriesFault.Memory
    c.from_residual.ensures.1 c.in_err-advance.was c.advance.ensures.refusal told))

pub returns-in_err-add-clause-unfailed : goal.returns-in_err-add-clause-unfailed
returns-in_err-add-clause-unfailed g c told = c.in_ok-advance.ensures.steady ∙ c.walk.invariant.steady

pub returns-then-not-branch-clause-unfailed : goal.returns-then-not-branch-clause-unfailed
returns-then-not-branch-clause-unfailed g c told = c.in_ok-advance.ensures.steady ∙ c.walk.invariant.steady
