use Rattle.std.proofs.Common.{rules, refl, ◌≡◌, ◌∙◌, ap, map, ◌∷◌, ◌++◌, ◌⊎◌, inl, inr, []}
use Rattle.std.specs.Prelude.{IsErrOf}
use Rattle.std.specs.Vec.Iter.{into_iter_items}
use Rattle.histories.specs.Mapped.{mapped}
use Rattle.records.specs.WriteOf.{write_of}
use Rattle.recovery.specs.declared.fault.RecoveryFault.TheVariants as RecoveryFault
use Rattle.decoded.specs.Shown.{plans_held}
use Rattle.recovery.specs.Known.{written_key}
use Rattle.recovery.proofs.Histories.{taken_more, none_taken}
use Rattle.recovery.proofs.Knowing.{next_known}
use Rattle.recovery.proofs.OtherPlans.{next_of, one_done}
use Rattle.recovery.proofs.redo.redo_writes.Goals as goal

pub loop-write-init : goal.loop-write-init
loop-write-init c =
    let gives : into_iter_items c.into_iter-write-iterator.result ≡ c.args.writes.items = c.into_iter-write-iterator.ensures.into_iter_gives.0 in
    record {
      rules_stay = refl;
      known = λ _ _ known. known;
      parts = ([], ap (map write_of) gives);
      taken = λ base held shows knows. (held, shows, record { writes = []; plans = tt; parts = ap (map write_of) gives; follow = tt; shows = refl });
    }

pub returns-in_err-redo_write-clause-damaged : goal.returns-in_err-redo_write-clause-damaged
returns-in_err-redo_write-clause-damaged c = λ base held shows knows is_damaged ws are follow.
    let inv = c.loop-write.invariant in
    let now = inv.taken base held shows knows in
    let all = map write_of c.args.writes.items in
    let left = map write_of (into_iter_items c.loop-write.write-iterator) in
    let raw = write_of c.in-Some.write in
    let rest = map write_of (into_iter_items c.next.new.self) in
    let step : left ≡ raw ∷ rest = ap (map write_of) c.in-Some.ensures.steps.0 in
    let known = inv.known base (written_key raw) (next_known c.args.core.now base c.args.core.now.rules (mapped plans_held held) (mapped plans_held now.0) all left raw rest now.2 step knows) in
    let told : IsErrOf c.redo_write.result RecoveryFault.Damaged ⊎ IsErrOf c.redo_write.result RecoveryFault.Plans =
    elim is_damaged [ inl damaged ↦ inl (search rules) | inr plans ↦ inr (search rules) ] in
    none_taken c.args.core.now.rules c.loop-write.core.rules (mapped plans_held held) (mapped plans_held now.0) all left raw rest ws inv.rules_stay now.2 step are follow
    (c.redo_write.ensures.damaged base now.0 now.1 known told)

pub loop-write-preserved : goal.loop-write-preserved
loop-write-preserved c =
    let inv = c.loop-write.invariant in
    let all = map write_of c.args.writes.items in
    let left = map write_of (into_iter_items c.loop-write.write-iterator) in
    let raw = write_of c.in-Some.write in
    let rest = map write_of (into_iter_items c.next.new.self) in
    let step : left ≡ raw ∷ rest = ap (map write_of) c.in-Some.ensures.steps.0 in
    record {
      rules_stay = c.redo_write.ensures.rules ∙ inv.rules_stay;
      known = λ base k known. c.redo_write.ensures.known base k (inv.known base k known);
      parts = (inv.parts.0 ++ raw ∷ [], one_done inv.parts.0 left all raw rest inv.parts.1 step);
      taken = λ base held shows knows.
          let now = inv.taken base held shows knows in
          let known = inv.known base (written_key raw) (next_known c.args.core.now base c.args.core.now.rules (mapped plans_held held) (mapped plans_held now.0) all left raw rest now.2 step knows) in
          let one = c.in_ok-redo_write.ensures.taken base now.0 now.1 known in (
            one.0,
            one.1,
            taken_more c.args.core.now.rules c.loop-write.core.rules (mapped plans_held held) (mapped plans_held now.0) (mapped plans_held one.0) all left raw rest one.2.write inv.rules_stay now.2
                step one.2.plans one.2.same one.2.follows one.2.shows,
          );
    }

pub returns-in_err-redo_write-clause-plans : goal.returns-in_err-redo_write-clause-plans
returns-in_err-redo_write-clause-plans c = λ is.
    let inv = c.loop-write.invariant in
    let all = map write_of c.args.writes.items in
    let left = map write_of (into_iter_items c.loop-write.write-iterator) in
    let raw = write_of c.in-Some.write in
    let rest = map write_of (into_iter_items c.next.new.self) in
    let step : left ≡ raw ∷ rest = ap (map write_of) c.in-Some.ensures.steps.0 in
    let told : IsErrOf c.redo_write.result RecoveryFault.Plans = search rules in
    next_of inv.parts.0 left all raw rest inv.parts.1 step (c.redo_write.ensures.plans told)
