use Rattle.std.proofs.Common.{rules, arith, ◌≡◌, ⊎_elim, subst, ℕ, List, [], ◌∷◌, Contains, IsErrOf}
use Rattle.std.proofs.lemmas.List.Elements.{Contains-push_cases}
use Rattle.recovery.specs.Known.{Writes, IsOfGroup}
use Rattle.recovery.proofs.Knowing.{contains_first}
use Rattle.recovery.proofs.Written.{writes_framed}
use Rattle.recovery.specs.declared.fault.RecoveryFault.TheVariants as RecoveryFault
use Rattle.durable.proofs.content.keys_in.Goals as goal

-- the one payload
the_one : (one p : List ℕ) → Contains (one ∷ []) p → one ≡ p
the_one one p has = ⊎_elim (λ (none : Contains [] p). absurd (omega (arith, none.1))) (λ (same : one ≡ p). same) (Contains-push_cases [] one p has)

pub returns-in-Ok-clause-all : goal.returns-in-Ok-clause-all
returns-in-Ok-clause-all c key writes = c.in-Ok.ensures.all c.args.payload.items key (contains_first c.args.payload.items []) writes

pub returns-in-Ok-clause-only : goal.returns-in-Ok-clause-only
returns-in-Ok-clause-only c key has of_group =
    let found = c.in-Ok.ensures.only key has in
    let same = the_one c.args.payload.items found.0 found.1 in
    let Of : List ℕ → Type 0 = λ p. (IsOfGroup p → Writes p key) → Writes c.args.payload.items key in
    subst Of same (λ of. of of_group) found.2

pub returns-in-Err-Damaged-clause-all : goal.returns-in-Err-Damaged-clause-all
returns-in-Err-Damaged-clause-all c key writes =
    let told : IsErrOf c.written_keys.result RecoveryFault.Damaged = search rules in
    let bad = c.written_keys.ensures.damaged told in
    let Of : List ℕ → Type 0 = λ p. Writes p key in
    let framed = writes_framed bad.0 key (subst Of (the_one c.args.payload.items bad.0 bad.1) writes) in
    absurd (bad.2 framed.0 framed.1)
