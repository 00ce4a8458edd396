use Rattle.std.proofs.Common.{◌≡◌, ◌+◌, ◌*◌, ◌++◌, drop, length, string_bytes}
use Rattle.celtree.specs.Tree as expr
use Rattle.celtree.specs.View.{view, views, pair_views}
use Rattle.instructions.specs.Seen.{ops_of}
use Rattle.plan.specs.Compilation.{size, size_of_items, size_of_pairs, compiled_items, compiled_pairs}
use Rattle.plan.specs.Seen.{names_seen}
use Rattle.plan.specs.Values.{HaveValues, PairsHaveValues}
use Rattle.plan.proofs.compiling.+code_of.Given as goal

abbrev pub invariant-code_of_items-loop-item : goal.invariant-code_of_items-loop-item
invariant-code_of_items-loop-item l =
    (ops_of l.code.items ++ compiled_items (views (drop l.item-index l.items.items)) (l.at + length l.code.items) (names_seen l.names) ≡ compiled_items (views l.items.items) l.at (names_seen l.names))
    × (length l.code.items + size_of_items (views (drop l.item-index l.items.items)) ≡ size_of_items (views l.items.items))
    × (HaveValues (views (drop l.item-index l.items.items)) → HaveValues (views l.items.items))

abbrev pub invariant-code_of_pairs-loop-entry : goal.invariant-code_of_pairs-loop-entry
invariant-code_of_pairs-loop-entry l =
    (ops_of l.code.items ++ compiled_pairs (pair_views (drop l.entry-index l.entries.items)) (l.at + length l.code.items) (names_seen l.names) ≡ compiled_pairs (pair_views l.entries.items) l.at (names_seen l.names))
    × (length l.code.items + size_of_pairs (pair_views (drop l.entry-index l.entries.items)) ≡ size_of_pairs (pair_views l.entries.items))
    × (PairsHaveValues (pair_views (drop l.entry-index l.entries.items)) → PairsHaveValues (pair_views l.entries.items))

abbrev pub decreases-code_of : goal.decreases-code_of
decreases-code_of l = 4 * size (view l.tree.now) + 1

abbrev pub decreases-code_of_field : goal.decreases-code_of_field
decreases-code_of_field l = 4 * size (expr.Field (view l.of.now.value) (string_bytes l.name.now))

abbrev pub decreases-code_of_presence : goal.decreases-code_of_presence
decreases-code_of_presence l = 4 * size (expr.Has (view l.of.now.value) (string_bytes l.name.now))

abbrev pub decreases-code_of_index : goal.decreases-code_of_index
decreases-code_of_index l = 4 * size (expr.Index (view l.of.now.value) (view l.index.now.value))

abbrev pub decreases-code_of_list : goal.decreases-code_of_list
decreases-code_of_list l = 4 * size (expr.Sequence (views l.items.now.items))

abbrev pub decreases-code_of_map : goal.decreases-code_of_map
decreases-code_of_map l = 4 * size (expr.Mapping (pair_views l.entries.now.items))

abbrev pub decreases-code_of_unary : goal.decreases-code_of_unary
decreases-code_of_unary l = 4 * size (expr.Unary l.prefix (view l.of.now.value))

abbrev pub decreases-code_of_infix : goal.decreases-code_of_infix
decreases-code_of_infix l = 4 * size (expr.Infix l.operator (view l.left.now.value) (view l.right.now.value))

abbrev pub decreases-code_of_conditional : goal.decreases-code_of_conditional
decreases-code_of_conditional l = 4 * size (expr.Conditional (view l.test.now.value) (view l.first.now.value) (view l.second.now.value))

abbrev pub decreases-code_of_call : goal.decreases-code_of_call
decreases-code_of_call l = 4 * size (expr.Call (string_bytes l.name.now) (views l.arguments.now.items))

abbrev pub decreases-code_of_method : goal.decreases-code_of_method
decreases-code_of_method l = 4 * size (expr.Method (view l.of.now.value) (string_bytes l.name.now) (views l.arguments.now.items))

abbrev pub decreases-code_of_macro : goal.decreases-code_of_macro
decreases-code_of_macro l = 4 * size (expr.Over l.kind (view l.of.now.value) (string_bytes l.variable.now) (view l.body.now.value))

abbrev pub decreases-code_of_body : goal.decreases-code_of_body
decreases-code_of_body l = 4 * size (view l.body.now.value) + 2

abbrev pub decreases-code_of_items : goal.decreases-code_of_items
decreases-code_of_items l = 4 * size_of_items (views l.items.now.items) + 2

abbrev pub decreases-code_of_pairs : goal.decreases-code_of_pairs
decreases-code_of_pairs l = 4 * size_of_pairs (pair_views l.entries.now.items) + 3

abbrev pub decreases-code_of_pair : goal.decreases-code_of_pair
decreases-code_of_pair l = 4 * (size (view l.entry.now.0) + size (view l.entry.now.1)) + 2
