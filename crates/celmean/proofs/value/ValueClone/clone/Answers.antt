use Rattle.std.proofs.Common.{◌∙◌, sym, ap}
use Rattle.celmean.specs.Value.{Sequence, sequence, Mapping, mapping}
use Rattle.celmean.specs.Seen.{value_of, values_seen, entries_seen}
use Rattle.celmean.proofs.Inside.{value_of-List, value_of-Map}
use Rattle.celmean.proofs.value.ValueClone.clone.Goals as goal

pub returns-in_ok-clone-in-List : goal.returns-in_ok-clone-in-List
returns-in_ok-clone-in-List c = record {
  cases =
      value_of-List c.in_ok-clone-in-List.field-0
      ∙ ap (λ items. Sequence (sequence (values_seen items.items))) c.in_ok-clone-in-List.ensures.cases
      ∙ sym (ap value_of c.in-List.is ∙ value_of-List c.in-List.items);
}

pub returns-in_ok-clone-in-Map : goal.returns-in_ok-clone-in-Map
returns-in_ok-clone-in-Map c = record {
  cases =
      value_of-Map c.in_ok-clone-in-Map.field-0
      ∙ ap (λ entries. Mapping (mapping (entries_seen entries.items))) c.in_ok-clone-in-Map.ensures.cases
      ∙ sym (ap value_of c.in-Map.is ∙ value_of-Map c.in-Map.entries);
}
