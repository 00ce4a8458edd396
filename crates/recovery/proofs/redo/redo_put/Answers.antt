use Rattle.std.proofs.Common.{rules, ◌≡◌, ap, subst, sym, ◌∙◌, ℕ, List}
use Rattle.std.specs.Prelude.{IsErrOf}
use Rattle.requests.specs.Codes.{document_in}
use Rattle.names.specs.Key.{Key}
use Rattle.names.specs.declared.resource.Resource.{Resource}
use Rattle.serde_json.specs.Data.{Data}
use Rattle.holdings.specs.declared.redo.RedoFault.TheVariants as RedoFault
use Rattle.histories.specs.History.{put}
use Rattle.histories.specs.Mapped.{mapped}
use Rattle.histories.specs.View.{after}
use Rattle.histories.proofs.Mapping.{follows_mapped, follows_back, after_mapped}
use Rattle.expressions.specs.Specification.{Plans, plans_bytes, plans_seen, MayHavePlans}
use Rattle.decoded.specs.Decoded.{Decoded, spelled}
use Rattle.decoded.specs.Shown.{plans_held}
use Rattle.recovery.proofs.Histories.{put_of_recorded}
use Rattle.plancode.specs.declared.list_reading.ReadPlansFault.TheVariants as ReadPlansFault
use Rattle.recovery.proofs.OtherPlans.{other_of, never_told}
use Rattle.recovery.proofs.redo.redo_put.Goals as goal

pub returns-in_err-redo_put-clause-damaged : goal.returns-in_err-redo_put-clause-damaged
returns-in_err-redo_put-clause-damaged c = λ base held shows known is_damaged w has is may.
    let told : IsErrOf c.redo_put.result RedoFault.NotAllowed = search rules in
    let m = c.args.manifest.now in
    let core = c.args.core.now in
    c.redo_put.ensures.not_allowed base held shows known told
    (follows_back plans_held core.rules held (put m.key (document_in m.body) c.in_ok-beside.beside)
    (put_of_recorded core.rules (mapped plans_held held) w m.key (document_in m.body) c.args.plans.now is may))

pub returns-clause-taken : goal.returns-clause-taken
returns-clause-taken c = λ base held shows known.
    let m = c.args.manifest.now in
    let core = c.args.core.now in
    let plans = plans_seen c.in_ok-plans.plans in
    let beside = c.in_ok-beside.beside in
    let w = put m.key (document_in m.body) beside in
    let taken = c.in_ok-redo_put.ensures.taken base held shows known in
    let again : c.json-2.result.now ≡ (document_in m.body).json = c.json-2.ensures ∙ sym (ap (λ b. (document_in b).json) c.document-2.ensures.body) in
    let alone : beside ≡ spelled (document_in m.body).json plans = c.in_ok-beside.ensures ∙ ap (λ (d : Data). spelled d plans) again in
    let listed : beside.plans ≡ plans = ap (λ (b : Decoded). b.plans) alone in
    let resource : c.resource.result ≡ m.key.resource = c.resource.ensures.value ∙ ap (λ (k : Key). k.resource) c.key.ensures in
    let json : c.json.result.now ≡ (document_in m.body).json = c.json.ensures ∙ sym (ap (λ b. (document_in b).json) c.document.ensures.body) in
    let Has : Resource → Data → Type 0 = λ r d. MayHavePlans r d plans in
    let Bytes : Resource → Type 0 = λ r. plans_bytes r plans ≡ c.args.plans.now in (
      after core.rules held w,
      taken.1,
      record {
        write = w;
        plans = (
          subst (λ (ps : Plans). MayHavePlans m.key.resource (document_in m.body).json ps) (sym listed) (subst (Has m.key.resource) json (subst (λ r. Has r c.json.result.now) resource c.in_ok-plans.ensures.fits)),
          alone ∙ ap (λ (ps : Plans). spelled (document_in m.body).json ps) (sym listed),
        );
        same = ap (λ (x : List ℕ). put m.key (document_in m.body) x) (ap (λ (ps : Plans). plans_bytes m.key.resource ps) listed ∙ subst Bytes resource c.in_ok-plans.ensures.found);
        follows = follows_mapped plans_held core.rules held w taken.0;
        shows = after_mapped plans_held core.rules held w;
      },
    )

pub returns-in_err-plans-clause-plans : goal.returns-in_err-plans-clause-plans
returns-in_err-plans-clause-plans c = λ told.
    let m = c.args.manifest.now in
    let damaged : IsErrOf c.stored_plans.result ReadPlansFault.Damaged = search rules in
    let resource : c.resource.result ≡ m.key.resource = c.resource.ensures.value ∙ ap (λ (k : Key). k.resource) c.key.ensures in
    let json : c.json.result.now ≡ (document_in m.body).json = c.json.ensures ∙ sym (ap (λ b. (document_in b).json) c.document.ensures.body) in
    other_of c.args.plans.now c.resource.result m.key.resource c.json.result.now (document_in m.body).json resource json (c.stored_plans.ensures.damaged damaged)

pub returns-in_err-plans-clause-told : goal.returns-in_err-plans-clause-told
returns-in_err-plans-clause-told c = λ other.
    let m = c.args.manifest.now in
    let resource : c.resource.result ≡ m.key.resource = c.resource.ensures.value ∙ ap (λ (k : Key). k.resource) c.key.ensures in
    let json : c.json.result.now ≡ (document_in m.body).json = c.json.ensures ∙ sym (ap (λ b. (document_in b).json) c.document.ensures.body) in
    let damaged : IsErrOf c.stored_plans.result ReadPlansFault.Damaged =
    c.stored_plans.ensures.refused (other_of c.args.plans.now m.key.resource c.resource.result (document_in m.body).json c.json.result.now (sym resource) (sym json) other)
    in
    search rules

pub returns-in_err-beside-clause-told : goal.returns-in_err-beside-clause-told
returns-in_err-beside-clause-told c = λ other.
    let m = c.args.manifest.now in
    let resource : c.resource.result ≡ m.key.resource = c.resource.ensures.value ∙ ap (λ (k : Key). k.resource) c.key.ensures in
    let json : c.json.result.now ≡ (document_in m.body).json = c.json.ensures ∙ sym (ap (λ b. (document_in b).json) c.document.ensures.body) in
    absurd (never_told (c.in_ok-plans.ensures.refused (other_of c.args.plans.now m.key.resource c.resource.result (document_in m.body).json c.json.result.now (sym resource) (sym json) other)))

pub returns-in_err-redo_put-clause-told : goal.returns-in_err-redo_put-clause-told
returns-in_err-redo_put-clause-told c = λ other.
    let m = c.args.manifest.now in
    let resource : c.resource.result ≡ m.key.resource = c.resource.ensures.value ∙ ap (λ (k : Key). k.resource) c.key.ensures in
    let json : c.json.result.now ≡ (document_in m.body).json = c.json.ensures ∙ sym (ap (λ b. (document_in b).json) c.document.ensures.body) in
    absurd (never_told (c.in_ok-plans.ensures.refused (other_of c.args.plans.now m.key.resource c.resource.result (document_in m.body).json c.json.result.now (sym resource) (sym json) other)))

pub returns-clause-told : goal.returns-clause-told
returns-clause-told c = λ other.
    let m = c.args.manifest.now in
    let resource : c.resource.result ≡ m.key.resource = c.resource.ensures.value ∙ ap (λ (k : Key). k.resource) c.key.ensures in
    let json : c.json.result.now ≡ (document_in m.body).json = c.json.ensures ∙ sym (ap (λ b. (document_in b).json) c.document.ensures.body) in
    absurd (never_told (c.in_ok-plans.ensures.refused (other_of c.args.plans.now m.key.resource c.resource.result (document_in m.body).json c.json.result.now (sym resource) (sym json) other)))
