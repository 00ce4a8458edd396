use Rattle.std.proofs.Common.{rules, subst, sym, inl, inr, IfOk}
use Rattle.std.proofs.lemmas.Result.{IfOk-from_err}
use Rattle.requests.specs.Manifest.{BodyHasForm}
use Rattle.apicore.specs.Conditions.{known}
use Rattle.apicore.specs.Places.{IsPlaceOf}
use Rattle.apicore.specs.Prepared.{put_request, IsPrepared}
use Rattle.apicore.specs.declared.placed.Put.TheVariants.{Creates, Replaces}
use Rattle.apicore.proofs.Looking.{looked_not, looked_after, looked_as, looked_on}
use Rattle.decoded.proofs.Over.{over_kept}
use Rattle.apicore.proofs.Own.{misplaced}
use Rattle.apicore.proofs.Deciding.{refused_own, prepared_of, read_put}
use Rattle.apicore.proofs.Faults.{only_memory, same_fault}
use Rattle.apicore.proofs.preparing.prepare_manifest.Goals as goal

pub returns-in-Refused-clause-step : goal.returns-in-Refused-clause-step
returns-in-Refused-clause-step g c =
    let core = c.args.core.now in
    let m = c.args.manifest.now in
    let put = c.args.put in
    let read = rw c.rules-format.ensures at c.in_ok-specification.ensures in
    prepared_of _ core (put_request put m) read.0 (read_put core.rules.format put m read.0 read.1) c.refused.result
    (λ held v over.
    let place = subst (λ p. IsPlaceOf core.rules held m.key p) c.in-Refused.is (rw c.key.ensures at c.in_ok-place.ensures.place held v over) in
    refused_own core.rules held v (put_request put m) read.0 c.refused.result _ (misplaced core.rules held m v over.plans put read.0 (known c.in-Refused.refusal) place) c.refused.ensures.step)

pub returns-clause-step : goal.returns-clause-step
returns-clause-step g c =
    let core = c.args.core.now in
    let m = c.args.manifest.now in
    let read = rw c.rules-format.ensures at c.in_ok-specification.ensures in
    subst (λ b. IfOk c.replace_in.result (IsPrepared (g.S.Source.holds c.args.source.now) core (put_request b m))) (sym c.in-Replaces.is)
    (prepared_of _ core (put_request Replaces m) read.0 read.1 c.replace_in.result
    (λ held v over.
    let place = subst (λ p. IsPlaceOf core.rules held m.key p) c.in-In.is (rw c.key.ensures at c.in_ok-place.ensures.place held v over) in
    c.replace_in.ensures.step read.0 read.2 held v (over_kept _ _ core held v c.in_ok-place.ensures.looked.kept over) place))

pub returns-in-Creates-clause-step : goal.returns-in-Creates-clause-step
returns-in-Creates-clause-step g c =
    let core = c.args.core.now in
    let m = c.args.manifest.now in
    let read = rw c.rules-format.ensures at c.in_ok-specification.ensures in
    subst (λ b. IfOk c.create_in.result (IsPrepared (g.S.Source.holds c.args.source.now) core (put_request b m))) (sym c.in-Creates.is)
    (prepared_of _ core (put_request Creates m) read.0 read.1 c.create_in.result
    (λ held v over.
    let place = subst (λ p. IsPlaceOf core.rules held m.key p) c.in-In.is (rw c.key.ensures at c.in_ok-place.ensures.place held v over) in
    c.create_in.ensures.step read.0 read.2 held v (over_kept _ _ core held v c.in_ok-place.ensures.looked.kept over) place))

pub returns-in_err-specification-clause-read : goal.returns-in_err-specification-clause-read
returns-in_err-specification-clause-read g c = λ told.
    let never : ⊥ = elim told [ inl device ↦ search rules | inr damaged ↦ search rules ] in
    absurd never

pub returns-in_err-place-clause-read : goal.returns-in_err-place-clause-read
returns-in_err-place-clause-read g c = λ _. let read = rw c.rules-format.ensures at c.in_ok-specification.ensures in (read.0, read_put c.args.core.now.rules.format c.args.put c.args.manifest.now read.0 read.1)

pub returns-in-Refused-clause-read : goal.returns-in-Refused-clause-read
returns-in-Refused-clause-read g c = λ _. let read = rw c.rules-format.ensures at c.in_ok-specification.ensures in (read.0, read_put c.args.core.now.rules.format c.args.put c.args.manifest.now read.0 read.1)

pub returns-clause-read : goal.returns-clause-read
returns-clause-read g c = λ _. let read = rw c.rules-format.ensures at c.in_ok-specification.ensures in (read.0, read_put c.args.core.now.rules.format c.args.put c.args.manifest.now read.0 read.1)

pub returns-in-Creates-clause-read : goal.returns-in-Creates-clause-read
returns-in-Creates-clause-read g c = λ _. let read = rw c.rules-format.ensures at c.in_ok-specification.ensures in (read.0, read_put c.args.core.now.rules.format c.args.put c.args.manifest.now read.0 read.1)

pub returns-in-Refused-clause-looked : goal.returns-in-Refused-clause-looked
returns-in-Refused-clause-looked g c =
    let looked = c.in_ok-place.ensures.looked in
    looked_after g.S.Source.holds g.S.Source.goes_to g.S.Source.failures g.S.Source.unfailed c.args.core.now c.args.source.now c.place_of.new.source c.refused.result
    looked.kept looked.goes looked.counts looked.steady c.refused.ensures.memory

pub returns-clause-looked : goal.returns-clause-looked
returns-clause-looked g c =
    let looked = c.in_ok-place.ensures.looked in
    looked_on g.S.Source.holds g.S.Source.goes_to g.S.Source.failures g.S.Source.unfailed c.args.core.now c.args.source.now c.place_of.new.source c.replace_in.new.source c.replace_in.result
    looked.kept looked.counts
    (g.met.S.Source.unfailed_on c.args.source.now c.place_of.new.source c.replace_in.new.source looked.steady)
    (g.met.S.Source.goes_on c.args.source.now c.place_of.new.source c.replace_in.new.source looked.goes c.replace_in.ensures.looked.goes) c.replace_in.ensures.looked

pub returns-in-Creates-clause-looked : goal.returns-in-Creates-clause-looked
returns-in-Creates-clause-looked g c =
    let looked = c.in_ok-place.ensures.looked in
    looked_on g.S.Source.holds g.S.Source.goes_to g.S.Source.failures g.S.Source.unfailed c.args.core.now c.args.source.now c.place_of.new.source c.create_in.new.source c.create_in.result
    looked.kept looked.counts
    (g.met.S.Source.unfailed_on c.args.source.now c.place_of.new.source c.create_in.new.source looked.steady)
    (g.met.S.Source.goes_on c.args.source.now c.place_of.new.source c.create_in.new.source looked.goes c.create_in.ensures.looked.goes) c.create_in.ensures.looked

pub returns-in_err-place-clause-looked : goal.returns-in_err-place-clause-looked
returns-in_err-place-clause-looked g c =
    let handed = c.from_residual-in_err-place in
    looked_as g.S.Source.holds g.S.Source.goes_to g.S.Source.failures g.S.Source.unfailed c.args.core.now c.args.source.now c.place_of.new.source c.place_of.result handed.result
    (λ fault told. same_fault handed.ensures.1 c.in_err-place.was told) (IfOk-from_err handed.result _ handed.ensures.0) c.place_of.ensures.looked

pub returns-in_err-specification-clause-looked : goal.returns-in_err-specification-clause-looked
returns-in_err-specification-clause-looked g c =
    looked_not g.S.Source.holds g.S.Source.goes_to g.S.Source.failures g.S.Source.unfailed c.args.core.now c.args.source.now c.from_residual.result
    (g.met.S.Source.stays c.args.source.now) (g.met.S.Source.unfailed_itself c.args.source.now) (only_memory c.from_residual.result c.from_residual.ensures.1)

pub returns-in_err-specification-clause-step : goal.returns-in_err-specification-clause-step
returns-in_err-specification-clause-step g c = IfOk-from_err c.from_residual.result _ c.from_residual.ensures.0

pub returns-in_err-specification-clause-ready : goal.returns-in_err-specification-clause-ready
returns-in_err-specification-clause-ready g c = IfOk-from_err c.from_residual.result _ c.from_residual.ensures.0

pub returns-in_err-place-clause-step : goal.returns-in_err-place-clause-step
returns-in_err-place-clause-step g c = IfOk-from_err c.from_residual-in_err-place.result _ c.from_residual-in_err-place.ensures.0

pub returns-in_err-place-clause-ready : goal.returns-in_err-place-clause-ready
returns-in_err-place-clause-ready g c = IfOk-from_err c.from_residual-in_err-place.result _ c.from_residual-in_err-place.ensures.0

pub returns-clause-same : goal.returns-clause-same
returns-clause-same g c = c.replace_in.ensures.same

pub returns-in-Creates-clause-same : goal.returns-in-Creates-clause-same
returns-in-Creates-clause-same g c = c.create_in.ensures.same

pub returns-clause-ready : goal.returns-clause-ready
returns-clause-ready g c = c.replace_in.ensures.ready

pub returns-in-Creates-clause-ready : goal.returns-in-Creates-clause-ready
returns-in-Creates-clause-ready g c = c.create_in.ensures.ready

pub returns-in_err-specification-clause-form : goal.returns-in_err-specification-clause-form
returns-in_err-specification-clause-form g c =
    subst (λ b. BodyHasForm c.args.manifest.now.key b) (sym c.document-document.ensures.body) c.document-document.ensures.form

pub returns-in_err-place-clause-form : goal.returns-in_err-place-clause-form
returns-in_err-place-clause-form g c =
    subst (λ b. BodyHasForm c.args.manifest.now.key b) (sym c.document-document.ensures.body) c.document-document.ensures.form

pub returns-in-Refused-clause-form : goal.returns-in-Refused-clause-form
returns-in-Refused-clause-form g c =
    subst (λ b. BodyHasForm c.args.manifest.now.key b) (sym c.document-document.ensures.body) c.document-document.ensures.form

pub returns-clause-form : goal.returns-clause-form
returns-clause-form g c =
    subst (λ b. BodyHasForm c.args.manifest.now.key b) (sym c.document-document.ensures.body) c.document-document.ensures.form

pub returns-in-Creates-clause-form : goal.returns-in-Creates-clause-form
returns-in-Creates-clause-form g c =
    subst (λ b. BodyHasForm c.args.manifest.now.key b) (sym c.document-document.ensures.body) c.document-document.ensures.form
