use Rattle.std.proofs.Common.{rules, arith, refl, ◌≡◌, ◌∙◌, sym, ap, subst, map, take, drop, ◌+◌, ◌++◌, ◌∷◌, ◌⊎◌, inl, inr, [], List, ℕ, Vec, Global}
use Rattle.std.proofs.lemmas.List.{map_more, take_all}
use Rattle.std.specs.Prelude.{IsErrOf}
use Rattle.std.specs.List.{AllByRecursion}
use Rattle.recovery.specs.declared.fault.RecoveryFault.TheVariants as RecoveryFault
use Rattle.histories.specs.Mapped.{mapped}
use Rattle.decoded.specs.Shown.{plans_held}
use Rattle.recovery.specs.Written.{IsWritten}
use Rattle.recovery.proofs.Histories.{IsWritten-none, grown, stuck, map-at}
use Rattle.records.proofs.Groups.{all-push}
use Rattle.recovery.specs.Known.{IsOfGroup}
use Rattle.recovery.proofs.Knowing.{known_at, contains_at}
use Rattle.recovery.specs.Faults.{HasOtherPlans}
use Rattle.recovery.proofs.redo.redone.Goals as goal

abbrev items : Vec ℕ Global → List ℕ
items v = v.items

pub loop-payload-init : goal.loop-payload-init
loop-payload-init c = record {
  rules_stay = refl;
  known = λ _ _ known. known;
  groups = tt;
  found = λ base held shows known. (held, shows, ([], IsWritten-none c.args.core.rules (mapped plans_held held), refl));
}

pub returns-in_err-redo-clause-damaged : goal.returns-in_err-redo-clause-damaged
returns-in_err-redo-clause-damaged c = λ base held shows known is_damaged ws written.
    let inv = c.loop-payload.invariant in
    let now = inv.found base held shows known in
    let told : IsErrOf c.redo.result RecoveryFault.Damaged ⊎ IsErrOf c.redo.result RecoveryFault.Plans = elim is_damaged [ inl damaged ↦ inl (search rules) | inr plans ↦ inr (search rules) ] in
    let i = c.loop-payload.payload-index in
    let xs = c.args.payloads.now in
    let x = c.payload-item.result in
    stuck c.args.core.rules c.loop-payload.core.rules (mapped plans_held held) (mapped plans_held now.0) now.2.0 ws (map items (take i xs)) (map items xs) x.items (map items (drop (i + 1) xs))
    inv.rules_stay now.2.2 now.2.1 written (map-at items xs i x (omega arith) c.payload-item.is)
    (λ us group is follow. c.redo.ensures.damaged base now.0 now.1
    (known_at c.args.core c.loop-payload.core base xs i x c.deref.result.now inv.known known (omega arith) c.payload-item.is c.deref.ensures.value) told us group
    (is ∙ sym c.deref.ensures.value) follow)

pub loop-payload-preserved : goal.loop-payload-preserved
loop-payload-preserved c =
    let inv = c.loop-payload.invariant in
    let i = c.loop-payload.payload-index in
    let xs = c.args.payloads.now in
    let x = c.payload-item.result in
    let more : map items (take (i + 1) xs) ≡ map items (take i xs) ++ x.items ∷ [] =
    map_more items xs i x (omega arith) ∙ ap (λ (v : Vec ℕ Global). map items (take i xs) ++ v.items ∷ []) (sym c.payload-item.is)
    in
    let Each : List (List ℕ) → Type 0 = λ ps. AllByRecursion IsOfGroup ps in
    let Group : List ℕ → Type 0 = λ p. IsOfGroup p in
    record {
      rules_stay = c.redo.ensures.rules ∙ inv.rules_stay;
      known = λ base k known. c.redo.ensures.known base k (inv.known base k known);
      groups = subst Each (sym more) (all-push IsOfGroup (map items (take i xs)) x.items inv.groups (subst Group c.deref.ensures.value c.in_ok-redo.ensures.group));
      found = λ base held shows known.
          let now = inv.found base held shows known in
          let next =
          c.in_ok-redo.ensures.taken base now.0 now.1
          (known_at c.args.core c.loop-payload.core base xs i x c.deref.result.now inv.known known (omega arith) c.payload-item.is c.deref.ensures.value)
          in (
            next.0,
            next.1,
            grown c.args.core.rules c.loop-payload.core.rules (mapped plans_held held) (mapped plans_held now.0) (mapped plans_held next.0) now.2.0 (map items (take i xs))
                (map items (take (i + 1) xs)) x.items next.2.0 inv.rules_stay now.2.1 now.2.2 next.2.1 (next.2.2 ∙ c.deref.ensures.value) next.2.3 next.2.4 more,
          );
    }

pub returns-clause-rules : goal.returns-clause-rules
returns-clause-rules c = c.loop-payload.invariant.rules_stay

pub returns-clause-found : goal.returns-clause-found
returns-clause-found c = λ base held shows known.
    let now = c.loop-payload.invariant.found base held shows known in
    let all : map items (take c.loop-payload.payload-index c.args.payloads.now) ≡ map items c.args.payloads.now =
    ap (map items) (take_all c.loop-payload.payload-index c.args.payloads.now c.loop-payload-test.false)
    in
    record {
      now = now.0;
      shows = now.1;
      writes = now.2.0;
      written = subst (IsWritten c.args.core.rules (mapped plans_held held) now.2.0) all now.2.1;
      left = now.2.2;
    }

pub returns-clause-groups : goal.returns-clause-groups
returns-clause-groups c =
    let Each : List (Vec ℕ Global) → Type 0 = λ ps. AllByRecursion IsOfGroup (map items ps) in
    subst Each (take_all c.loop-payload.payload-index c.args.payloads.now c.loop-payload-test.false) c.loop-payload.invariant.groups

pub returns-in_err-redo-clause-plans : goal.returns-in_err-redo-clause-plans
returns-in_err-redo-clause-plans c = λ is.
    let told : IsErrOf c.redo.result RecoveryFault.Plans = search rules in
    let x = c.payload-item.result in
    let Has : List ℕ → Type 0 = λ bytes. HasOtherPlans bytes in (
      x.items,
      contains_at items c.args.payloads.now c.loop-payload.payload-index x (omega arith) c.payload-item.is,
      subst Has c.deref.ensures.value (c.redo.ensures.plans told),
    )

pub returns-clause-known : goal.returns-clause-known
returns-clause-known c = c.loop-payload.invariant.known
