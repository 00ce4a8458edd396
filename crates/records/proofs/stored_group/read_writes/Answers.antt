use Rattle.std.proofs.Common.{arith, refl, ◌≡◌, ◌∙◌, sym, map, length}
use Rattle.std.specs.Prelude.{flat_map}
use Rattle.std.specs.List.{AllByRecursion}
use Rattle.records.specs.Payload.{write_bytes, payload, IsStorable, IsGroup}
use Rattle.records.specs.WriteOf.{write_of}
use Rattle.records.proofs.Parts.{all-ok}
use Rattle.records.proofs.Writes.{payload-parts, payload-found}
use Rattle.records.proofs.stored_group.read_writes.Goals as goal

pub returns-in-Some-clause-writes : goal.returns-in-Some-clause-writes
returns-in-Some-clause-writes c =
    let found = c.in-Some in
    all-ok c.read_each.result (λ ws. flat_map write_bytes (map write_of ws.items) ≡ found.rest.now) (λ ws. length (map write_of ws.items) ≡ found.count)
    (λ ws. payload (map write_of ws.items) ≡ c.args.bytes.now) c.read_each.ensures.writes c.read_each.ensures.count
    (λ ws same counted. payload-found (map write_of ws.items) found.count found.rest.now c.args.bytes.now found.ensures.parts same counted)

pub returns-in-Some-clause-form : goal.returns-in-Some-clause-form
returns-in-Some-clause-form c =
    all-ok c.read_each.result (λ ws. AllByRecursion IsStorable (map write_of ws.items)) (λ ws. length (map write_of ws.items) ≡ c.in-Some.count) (λ ws. IsGroup (map write_of ws.items))
    c.read_each.ensures.form c.read_each.ensures.count
    (λ ws storable counted. record { some = omega (arith, counted, c.in-Some.ensures.some); few = omega (arith, counted, c.in-Some.ensures.few); storable = storable })

pub returns-in-Some-clause-damaged : goal.returns-in-Some-clause-damaged
returns-in-Some-clause-damaged c is_damaged ws group same =
    let found = c.in-Some in
    let parts = payload-parts ws found.count found.rest.now (omega (arith, group.few)) (omega (arith, found.ensures.few)) (same ∙ found.ensures.parts) in
    c.read_each.ensures.damaged is_damaged ws group.storable parts.0 parts.1

pub returns-in-None-clause-damaged : goal.returns-in-None-clause-damaged
returns-in-None-clause-damaged c is_damaged ws group same = c.in-None.ensures.none refl (length ws) (flat_map write_bytes ws) group.some group.few (sym same)
