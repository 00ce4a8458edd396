-- The order of keys is total, and only equal keys tie in it.
use Rattle.std.proofs.lemmas.Cmp.{nat_cmp_total, nat_list_cmp_total, on_total, then_total}
use Rattle.std.specs.Cmp.{IsTotalOrder}
use Rattle.names.specs.Key.{Key, key_cmp}
use Rattle.names.specs.Resource.{row}

pub key_cmp_total : IsTotalOrder key_cmp
key_cmp_total =
    then_total (on_total (λ (key : Key). (row key.resource).number) nat_cmp_total)
    (then_total (on_total (λ (key : Key). key.namespace) nat_list_cmp_total) (on_total (λ (key : Key). key.name) nat_list_cmp_total))
