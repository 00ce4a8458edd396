use Rattle.std.proofs.Common.{◌≡◌, ◌++◌, option_map, drop}
use Rattle.celtree.specs.View.{views, pair_views}
use Rattle.celtypes.specs.Computed.{types_of, key_types_of, value_types_of}
use Rattle.celtypes.specs.Seen.{types_seen, scope_seen}
use Rattle.celtypes.proofs.checking.+typed.Given as goal

abbrev pub invariant-typed_items-loop-item : goal.invariant-typed_items-loop-item
invariant-typed_items-loop-item l =
    types_of (views l.items.items) (scope_seen l.scope)
    ≡ option_map (λ ts. types_seen l.types.items ++ ts) (types_of (views (drop l.item-index l.items.items)) (scope_seen l.scope))

abbrev pub invariant-typed_keys-loop-key : goal.invariant-typed_keys-loop-key
invariant-typed_keys-loop-key l =
    key_types_of (pair_views l.entries.items) (scope_seen l.scope)
    ≡ option_map (λ ts. types_seen l.types.items ++ ts) (key_types_of (pair_views (drop l.key-index l.entries.items)) (scope_seen l.scope))

abbrev pub invariant-typed_values-loop-value : goal.invariant-typed_values-loop-value
invariant-typed_values-loop-value l =
    value_types_of (pair_views l.entries.items) (scope_seen l.scope)
    ≡ option_map (λ ts. types_seen l.types.items ++ ts) (value_types_of (pair_views (drop l.value-index l.entries.items)) (scope_seen l.scope))
