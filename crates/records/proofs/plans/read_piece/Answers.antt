use Rattle.std.proofs.Common.{arith, ◌≡◌, ◌∙◌, sym, ap, subst, ◌<◌, ◌≤◌, ◌*◌, ◌/◌, ◌%◌, ◌^◌, true, ℕ, List, [], ◌∷◌, ◌++◌, length}
use Rattle.std.specs.Int.{div_ceil}
use Rattle.records.proofs.Parts.{same_bytes, other_bytes}
use Rattle.byteorder.specs.Endian.{big_bytes}
use Rattle.names.specs.Key.{Key}
use Rattle.records.specs.Entries.{plan_entry, plan_entries}
use Rattle.records.proofs.Adding.{added, next_key, all_full, may_follow}
use Rattle.records.proofs.plans.read_piece.Goals as goal

pub returns-then-not-may_follow-clause-damaged : goal.returns-then-not-may_follow-clause-damaged
returns-then-not-may_follow-clause-damaged c is_damaged all rest small same =
    let old = c.args.plans.now.items in
    let cell = c.args.cell.now in
    let Follows : List ℕ → Type 0 = λ x. (length x % 16384 ≡ 0) × (length x < 2 ^ 30) × (0 < length cell) × (length cell ≤ 16384) in
    let follows : Follows c.deref.result.now = subst Follows (sym c.deref.ensures.value) (may_follow c.args.policy.now old all c.args.key.now cell rest same small) in
    let yes : c.may_follow.result ≡ true = c.may_follow.ensures.1 follows in
    cc

pub returns-then-ne-clause-damaged : goal.returns-then-ne-clause-damaged
returns-then-ne-clause-damaged c is_damaged all rest small same =
    let policy : Key = c.args.policy.now in
    let old : List ℕ = c.args.plans.now.items in
    let full : length old ≡ 16384 * div_ceil (length old) 16384 = all_full policy old all c.args.key.now c.args.cell.now rest same in
    let number : div_ceil (length old) 16384 ≡ c.len.result / 16384 = omega (arith, full, c.len.ensures) in
    let key : c.args.key.now ≡ (plan_entry policy [] (div_ceil (length old) 16384)).0 = next_key policy old all c.args.key.now c.args.cell.now rest same in
    let equal : c.args.key.now ≡ c.as_slice.result.now =
    key ∙ ap (λ (n : ℕ). (2 ∷ policy.name) ++ 0 ∷ big_bytes 2 n) number ∙ sym c.in_ok-next.ensures ∙ sym c.as_slice.ensures.value in
    other_bytes c.args.key.now c.as_slice.result.now c.ne.result c.ne.ensures c.if-ne.true equal

pub returns-clause-entry : goal.returns-clause-entry
returns-clause-entry c =
    let policy : Key = c.args.policy.now in
    let old : List ℕ = c.args.plans.now.items in
    let cell : List ℕ = c.args.cell.now in
    let n : ℕ = c.len.result / 16384 in
    let Follows : List ℕ → Type 0 = λ x. (length x % 16384 ≡ 0) × (length x < 2 ^ 30) × (0 < length cell) × (length cell ≤ 16384) in
    let yes : c.may_follow.result ≡ true = cc in
    let follows : Follows old = subst Follows c.deref.ensures.value (c.may_follow.ensures.0 yes) in
    let exact : length old ≡ 16384 * n = omega (arith, follows.0, c.len.ensures) in
    let equal : (plan_entry policy [] n).0 ≡ c.args.key.now =
    sym c.in_ok-next.ensures ∙ sym c.as_slice.ensures.value ∙ sym (same_bytes c.args.key.now c.as_slice.result.now c.ne.result c.ne.ensures c.if-ne.false) in
    ap (plan_entries policy) c.in_ok-extend_from_slice.ensures.items
    ∙ added policy old cell n exact follows.2 follows.3
    ∙ ap (λ (k : List ℕ). plan_entries policy old ++ (k, cell) ∷ []) equal
