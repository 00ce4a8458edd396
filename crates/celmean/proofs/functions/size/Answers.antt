use Rattle.std.proofs.Common.{◌≡◌, ◌∙◌, pos, length, ap, arith}
use Rattle.std.proofs.lemmas.List.{length-map}
use Rattle.celmean.specs.Arithmetic.{signed}
use Rattle.celmean.specs.Seen.{value_of, values_seen, entry_seen, entries_seen}
use Rattle.celmean.proofs.Lists.{items-sequence, entries-mapping}
use Rattle.celmean.proofs.Inside.{value_of-List, value_of-Map}
use Rattle.celmean.proofs.functions.size.Goals as goal

pub returns-in-List : goal.returns-in-List
returns-in-List c =
    let xs = c.in-List.items in
    let count : c.len.result ≡ length (values_seen xs.value.items) = rw (← c.deref-in-List.ensures) (omega (arith, length-map c.deref-in-List.result.now.items value_of, c.deref-in-List.result.now.ok.0)) in
    rw (c.in-List.is, value_of-List xs, items-sequence (values_seen xs.value.items)) (c.count.ensures ∙ ap (λ n. signed (pos n)) count)

pub returns-in-Map : goal.returns-in-Map
returns-in-Map c =
    let es = c.in-Map.entries in
    let count : c.len-in-Map.result ≡ length (entries_seen es.value.items) = rw (← c.deref-in-Map.ensures) (omega (arith, length-map c.deref-in-Map.result.now.items entry_seen, c.deref-in-Map.result.now.ok.0)) in
    rw (c.in-Map.is, value_of-Map es, entries-mapping (entries_seen es.value.items)) (c.count-in-Map.ensures ∙ ap (λ n. signed (pos n)) count)
