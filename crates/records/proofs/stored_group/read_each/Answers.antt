use Rattle.std.proofs.Common.{rules, arith, ◌≡◌, ◌∙◌, sym, ap, subst, ◌+◌, List, ℕ, [], ◌∷◌, ◌++◌, ◌==◌, true, map, length}
use Rattle.std.specs.Prelude.{IsErrOf, flat_map}
use Rattle.std.specs.List.{AllByRecursion}
use Rattle.std.proofs.lemmas.List.{map_push, length_push}
use Rattle.histories.specs.History.{Write}
use Rattle.records.specs.declared.fault.RecordFault.TheVariants as RecordFault
use Rattle.records.specs.Payload.{write_bytes, IsStorable}
use Rattle.records.specs.WriteOf.{write_of}
use Rattle.records.proofs.Groups.{all-push}
use Rattle.records.proofs.Writes.{one_more, none_next, none_after}
use Rattle.records.proofs.stored_group.read_each.Goals as goal

pub returns-in_err-write-clause-damaged : goal.returns-in_err-write-clause-damaged
returns-in_err-write-clause-damaged c is_damaged ws storable count same =
    let inv = c.loop.invariant in
    let bad : IsErrOf c.read_one.result RecordFault.Damaged = search rules in
    none_next ws (map write_of c.loop.writes.items) c.loop.rest.now storable inv.storable (omega (arith, count, inv.counted, c.loop-test.true))
    (c.read_one.ensures.damaged bad) (same ∙ sym inv.read)

pub returns-then-not-is_empty-clause-damaged : goal.returns-then-not-is_empty-clause-damaged
returns-then-not-is_empty-clause-damaged c is_damaged ws storable count same =
    let inv = c.loop.invariant in
    let none : c.loop.rest.now ≡ [] =
    none_after ws (map write_of c.loop.writes.items) c.loop.rest.now storable inv.storable (omega (arith, count, inv.counted, c.loop-test.false)) (same ∙ sym inv.read) in
    let empty : c.is_empty.result ≡ true = c.is_empty.ensures ∙ ap (λ (x : List ℕ). length x == 0) none in
    cc

pub loop-preserved : goal.loop-preserved
loop-preserved c =
    let inv = c.loop.invariant in
    let ws : List (Write (List ℕ)) = map write_of c.loop.writes.items in
    let w : Write (List ℕ) = write_of c.in_ok-write.write in
    let now : map write_of c.push.new.self.items ≡ ws ++ w ∷ [] = ap (map write_of) c.in_ok-push.ensures.items ∙ map_push write_of c.loop.writes.items c.in_ok-write.write in
    let More : List (Write (List ℕ)) → Type 0 = AllByRecursion IsStorable in
    record {
      read = ap (λ (us : List (Write (List ℕ))). flat_map write_bytes us ++ c.in_ok-write.after.now) now
          ∙ one_more ws w c.loop.rest.now c.in_ok-write.after.now c.args.bytes.now inv.read c.in_ok-write.ensures.write;
      counted = ap length now ∙ length_push ws w ∙ ap (λ (n : ℕ). n + 1) inv.counted;
      storable = subst More (sym now) (all-push IsStorable ws w inv.storable c.in_ok-write.ensures.form);
    }
