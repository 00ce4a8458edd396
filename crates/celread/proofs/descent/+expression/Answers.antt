use Rattle.std.proofs.Common.{◌≡◌, suc, ◌-◌, sym, arith}
use Rattle.std.proofs.lemmas.Option.{MatchOption-at_some}
use Rattle.std.proofs.lemmas.Result.{IfOk-weaker, IfErr-weaker}
use Rattle.celtokens.specs.Seen.{terminals}
use Rattle.celtokens.specs.Literal.{Literal}
use Rattle.celread.specs.Grammar.{Member}
use Rattle.celread.specs.Ends.{HasNoTree, Read, Refuses}
use Rattle.celtokens.specs.Ahead.{HasNoLiteral}
use Rattle.celtree.specs.View.{view}
use Rattle.celread.proofs.Refusals.{refuses, handed_on, of_ok, of_err, of_memory, map-pair_view, view-push, no_tree_at, read_at}
use Rattle.celread.proofs.Chains.{going_start, start_none, going_next, next_none, going_end}
use Rattle.celread.proofs.Prefixes.{unary_plain, unary_plain_none, unary_prefixed, unary_prefixed_none, prefixed_again, prefixed_again_none, prefixed_bare}
use Rattle.celread.proofs.Suffixes.{member_start, member_none, member_field, member_method, member_no_arguments, member_no_call, member_index, member_no_index, member_end, member_wrong}
use Rattle.celread.proofs.Primaries.{primary_literal, composite_name, composite_call, composite_no_arguments, composite_no_call, composite_brackets, composite_no_inner, composite_list, composite_no_list, composite_map, composite_no_map, composite_nothing}
use Rattle.celread.proofs.Conditionals.{whole_simple, whole_none, branches, branches_none, branches_no_colon, branches_no_second, branches_both, before_none, before_other}
use Rattle.celread.proofs.Lists.{items_empty, items_first, items_read, items_none, items_comma, items_end, items_wrong, entry_read, entry_no_key, entry_no_value, entries_empty, entries_first, entries_read, entries_none, entries_comma, entries_end, entries_wrong}
use Rattle.celread.proofs.descent.+expression.Goals as goal

pub composite-returns-in_err-arguments-in-Call-clause-none : goal.composite-returns-in_err-arguments-in-Call-clause-none
composite-returns-in_err-arguments-in-Call-clause-none t c =
    handed_on c.from_residual.result c.in_err-arguments-in-Call.field-0.0 c.from_residual.ensures.1
    (composite_no_arguments c.in-Call.name.now _ _ c.in-Call.ensures.0)
    c.in_err-arguments-in-Call.ensures.none

pub composite-returns-in_err-items-in-Bracket-clause-none : goal.composite-returns-in_err-items-in-Bracket-clause-none
composite-returns-in_err-items-in-Bracket-clause-none t c =
    handed_on c.from_residual-in_err-items-in-Bracket.result c.in_err-items-in-Bracket.field-0.0 c.from_residual-in_err-items-in-Bracket.ensures.1
    (composite_no_list _ _ c.in-Bracket.ensures.0)
    c.in_err-items-in-Bracket.ensures.none

pub composite-returns-in_err-entries-in-Brace-clause-none : goal.composite-returns-in_err-entries-in-Brace-clause-none
composite-returns-in_err-entries-in-Brace-clause-none t c =
    handed_on c.from_residual-in_err-entries-in-Brace.result c.in_err-entries-in-Brace.field-0.0 c.from_residual-in_err-entries-in-Brace.ensures.1
    (composite_no_map _ _ c.in-Brace.ensures.0)
    c.in_err-entries-in-Brace.ensures.none

pub composite-returns-in-Name-clause-tree : goal.composite-returns-in-Name-clause-tree
composite-returns-in-Name-clause-tree t c =
    of_ok _ c.named.result c.named.ensures (λ x h. rw (h.0, h.1) (composite_name _ c.in-Name.name.now _ c.in-Name.ensures.0 c.in-Name.ensures.1))

pub composite-returns-in-Name-clause-none : goal.composite-returns-in-Name-clause-none
composite-returns-in-Name-clause-none t c = of_memory _ _ c.named.result c.named.ensures

pub composite-returns-in-Name-clause-shorter : goal.composite-returns-in-Name-clause-shorter
composite-returns-in-Name-clause-shorter t c = of_ok _ c.named.result c.named.ensures (λ x h. rw h.1 c.in-Name.ensures.2)

pub composite-returns-in_ok-arguments-in-Call-clause-tree : goal.composite-returns-in_ok-arguments-in-Call-clause-tree
composite-returns-in_ok-arguments-in-Call-clause-tree t c =
    of_ok _ c.function_call.result c.function_call.ensures (λ x h. rw h.1 (composite_call c.in-Call.name.now _ _ c.in-Call.ensures.0 _ _ _ c.in_ok-arguments-in-Call.ensures.items h.0))

pub composite-returns-in_ok-arguments-in-Call-clause-none : goal.composite-returns-in_ok-arguments-in-Call-clause-none
composite-returns-in_ok-arguments-in-Call-clause-none t c =
    of_err _ c.function_call.result c.function_call.ensures (λ e h. refuses e (composite_no_call c.in-Call.name.now _ _ c.in-Call.ensures.0 _ _ c.in_ok-arguments-in-Call.ensures.items) h)

pub composite-returns-in_ok-arguments-in-Call-clause-shorter : goal.composite-returns-in_ok-arguments-in-Call-clause-shorter
composite-returns-in_ok-arguments-in-Call-clause-shorter t c =
    of_ok _ c.function_call.result c.function_call.ensures (λ x h. rw h.1 (omega (arith, c.in-Call.ensures.1, c.in_ok-arguments-in-Call.ensures.shorter)))

pub composite-returns-in-Parenthesis-clause-tree : goal.composite-returns-in-Parenthesis-clause-tree
composite-returns-in-Parenthesis-clause-tree t c =
    IfOk-weaker c.expression_before.result _ _ (λ x h. composite_brackets _ _ c.in-Parenthesis.ensures.0 _ _ h) c.expression_before.ensures.tree

pub composite-returns-in-Parenthesis-clause-none : goal.composite-returns-in-Parenthesis-clause-none
composite-returns-in-Parenthesis-clause-none t c =
    IfErr-weaker c.expression_before.result _ _ (λ e h. refuses e (composite_no_inner _ _ c.in-Parenthesis.ensures.0) h) c.expression_before.ensures.none

pub composite-returns-in-Parenthesis-clause-shorter : goal.composite-returns-in-Parenthesis-clause-shorter
composite-returns-in-Parenthesis-clause-shorter t c =
    IfOk-weaker c.expression_before.result _ _ (λ x h. omega (arith, h, c.in-Parenthesis.ensures.1)) c.expression_before.ensures.shorter

pub composite-returns-in_ok-items-in-Bracket-clause-tree : goal.composite-returns-in_ok-items-in-Bracket-clause-tree
composite-returns-in_ok-items-in-Bracket-clause-tree t c =
    of_ok _ c.list_of.result c.list_of.ensures (λ x h. rw (h.0, h.1) (composite_list _ _ c.in-Bracket.ensures.0 _ _ c.in_ok-items-in-Bracket.ensures.items))

pub composite-returns-in_ok-items-in-Bracket-clause-none : goal.composite-returns-in_ok-items-in-Bracket-clause-none
composite-returns-in_ok-items-in-Bracket-clause-none t c = of_memory _ _ c.list_of.result c.list_of.ensures

pub composite-returns-in_ok-items-in-Bracket-clause-shorter : goal.composite-returns-in_ok-items-in-Bracket-clause-shorter
composite-returns-in_ok-items-in-Bracket-clause-shorter t c =
    of_ok _ c.list_of.result c.list_of.ensures (λ x h. rw h.1 (omega (arith, c.in-Bracket.ensures.1, c.in_ok-items-in-Bracket.ensures.shorter)))

pub composite-returns-in_ok-entries-in-Brace-clause-tree : goal.composite-returns-in_ok-entries-in-Brace-clause-tree
composite-returns-in_ok-entries-in-Brace-clause-tree t c =
    of_ok _ c.map_of.result c.map_of.ensures (λ x h. rw (h.0, h.1) (composite_map _ _ c.in-Brace.ensures.0 _ _ c.in_ok-entries-in-Brace.ensures.entries))

pub composite-returns-in_ok-entries-in-Brace-clause-none : goal.composite-returns-in_ok-entries-in-Brace-clause-none
composite-returns-in_ok-entries-in-Brace-clause-none t c = of_memory _ _ c.map_of.result c.map_of.ensures

pub composite-returns-in_ok-entries-in-Brace-clause-shorter : goal.composite-returns-in_ok-entries-in-Brace-clause-shorter
composite-returns-in_ok-entries-in-Brace-clause-shorter t c =
    of_ok _ c.map_of.result c.map_of.ensures (λ x h. rw h.1 (omega (arith, c.in-Brace.ensures.1, c.in_ok-entries-in-Brace.ensures.shorter)))

pub composite-returns-in-Nothing-clause-none : goal.composite-returns-in-Nothing-clause-none
composite-returns-in-Nothing-clause-none t c =
    composite_nothing _ c.in-Nothing.ensures.0 c.in-Nothing.ensures.1 c.in-Nothing.ensures.2 c.in-Nothing.ensures.3

pub entries-returns-then-is_empty-clause-entries : goal.entries-returns-then-is_empty-clause-entries
entries-returns-then-is_empty-clause-entries t c =
    rw c.new-entries.ensures.items (entries_empty _ _ (c.skip-is_empty.ensures.found c.if-is_empty.true).0)

pub entries-returns-then-is_empty-clause-shorter : goal.entries-returns-then-is_empty-clause-shorter
entries-returns-then-is_empty-clause-shorter t c = (c.skip-is_empty.ensures.found c.if-is_empty.true).1

pub entries-more_entries-init : goal.entries-more_entries-init
entries-more_entries-init t c =
    let all = c.skip-is_empty.ensures.kept c.if-is_empty.false in
    record { here = rw (all.1, c.new-entries.ensures.items) (entries_first _ all.0); within = rw all.1 (omega arith) }

pub entries-returns-in_err-key-clause-none : goal.entries-returns-in_err-key-clause-none
entries-returns-in_err-key-clause-none t c =
    handed_on c.from_residual.result c.in_err-key.field-0.0 c.from_residual.ensures.1
    (λ none. entries_none _ _ _ c.more_entries.invariant.here (entry_no_key _ none))
    c.in_err-key.ensures.none

pub entries-returns-in_err-value-clause-none : goal.entries-returns-in_err-value-clause-none
entries-returns-in_err-value-clause-none t c =
    handed_on c.from_residual-in_err-value.result c.in_err-value.field-0.0 c.from_residual-in_err-value.ensures.1
    (λ none. entries_none _ _ _ c.more_entries.invariant.here (entry_no_value _ _ _ c.in_ok-key.ensures.tree none))
    c.in_err-value.ensures.none

pub entries-returns-in-End-clause-entries : goal.entries-returns-in-End-clause-entries
entries-returns-in-End-clause-entries t c =
    let entry = entry_read _ _ _ _ _ c.in_ok-key.ensures.tree c.in_ok-value.ensures.tree in
    let going = entries_read _ _ _ c.more_entries.invariant.here _ _ _ entry in
    rw (c.in_ok-longer.ensures, map-pair_view c.more_entries.entries.items (c.in_ok-key.key.value, c.in_ok-value.value.value))
    (entries_end _ _ _ going _ c.in-End.ensures.0)

pub entries-more_entries-preserved : goal.entries-more_entries-preserved
entries-more_entries-preserved t c =
    let entry = entry_read _ _ _ _ _ c.in_ok-key.ensures.tree c.in_ok-value.ensures.tree in
    let going = entries_read _ _ _ c.more_entries.invariant.here _ _ _ entry in
    record {
      here = rw (c.in_ok-longer.ensures, map-pair_view c.more_entries.entries.items (c.in_ok-key.key.value, c.in_ok-value.value.value))
          (entries_comma _ _ _ going _ c.in-Comma.ensures.0 c.in-Comma.ensures.1);
      within = omega (arith, c.more_entries.invariant.within, c.in_ok-key.ensures.shorter, c.in_ok-value.ensures.shorter, c.in-Comma.ensures.2);
    }

pub entries-returns-in-Wrong-clause-none : goal.entries-returns-in-Wrong-clause-none
entries-returns-in-Wrong-clause-none t c =
    let entry = entry_read _ _ _ _ _ c.in_ok-key.ensures.tree c.in_ok-value.ensures.tree in
    let going = entries_read _ _ _ c.more_entries.invariant.here _ _ _ entry in
    entries_wrong _ _ _ going c.in-Wrong.ensures.0 c.in-Wrong.ensures.1

pub entries-returns-in-End-clause-shorter : goal.entries-returns-in-End-clause-shorter
entries-returns-in-End-clause-shorter t c =
    omega (arith, c.more_entries.invariant.within, c.in_ok-key.ensures.shorter, c.in_ok-value.ensures.shorter, c.in-End.ensures.1)

pub entries-more_entries-smaller : goal.entries-more_entries-smaller
entries-more_entries-smaller t c = omega (arith, c.in_ok-key.ensures.shorter, c.in_ok-value.ensures.shorter, c.in-Comma.ensures.2)

pub items-returns-then-is_empty-clause-items : goal.items-returns-then-is_empty-clause-items
items-returns-then-is_empty-clause-items t c =
    rw c.new-items.ensures.items (items_empty c.args.closing _ _ (rw c.close_sign.ensures at (c.skip-is_empty.ensures.found c.if-is_empty.true).0))

pub items-returns-then-is_empty-clause-shorter : goal.items-returns-then-is_empty-clause-shorter
items-returns-then-is_empty-clause-shorter t c = (c.skip-is_empty.ensures.found c.if-is_empty.true).1

pub items-more_items-init : goal.items-more_items-init
items-more_items-init t c =
    let all = c.skip-is_empty.ensures.kept c.if-is_empty.false in
    record { here = rw (all.1, c.new-items.ensures.items) (items_first c.args.closing _ (rw c.close_sign.ensures at all.0)); within = rw all.1 (omega arith) }

pub items-returns-in_err-item-clause-none : goal.items-returns-in_err-item-clause-none
items-returns-in_err-item-clause-none t c =
    handed_on c.from_residual.result c.in_err-item.field-0.0 c.from_residual.ensures.1
    (items_none c.args.closing _ _ _ c.more_items.invariant.here)
    c.in_err-item.ensures.none

pub items-returns-in-End-clause-items : goal.items-returns-in-End-clause-items
items-returns-in-End-clause-items t c =
    let going = items_read c.args.closing _ _ _ c.more_items.invariant.here _ _ c.in_ok-item.ensures.tree in
    rw (c.in_ok-longer.ensures, view-push c.more_items.items.items c.in_ok-item.item.value)
    (items_end c.args.closing _ _ _ going _ c.in-End.ensures.0)

pub items-more_items-preserved : goal.items-more_items-preserved
items-more_items-preserved t c =
    let going = items_read c.args.closing _ _ _ c.more_items.invariant.here _ _ c.in_ok-item.ensures.tree in
    record {
      here = rw (c.in_ok-longer.ensures, view-push c.more_items.items.items c.in_ok-item.item.value)
          (items_comma c.args.closing _ _ _ going _ c.in-Comma.ensures.0 c.in-Comma.ensures.1);
      within = omega (arith, c.more_items.invariant.within, c.in_ok-item.ensures.shorter, c.in-Comma.ensures.2);
    }

pub items-returns-in-Wrong-clause-none : goal.items-returns-in-Wrong-clause-none
items-returns-in-Wrong-clause-none t c =
    let going = items_read c.args.closing _ _ _ c.more_items.invariant.here _ _ c.in_ok-item.ensures.tree in
    items_wrong c.args.closing _ _ _ going c.in-Wrong.ensures.0 c.in-Wrong.ensures.1

pub items-returns-in-End-clause-shorter : goal.items-returns-in-End-clause-shorter
items-returns-in-End-clause-shorter t c =
    omega (arith, c.more_items.invariant.within, c.in_ok-item.ensures.shorter, c.in-End.ensures.1)

pub items-more_items-smaller : goal.items-more_items-smaller
items-more_items-smaller t c = omega (arith, c.in_ok-item.ensures.shorter, c.in-Comma.ensures.2)

pub expression-returns-in_err-test-clause-none : goal.expression-returns-in_err-test-clause-none
expression-returns-in_err-test-clause-none t c =
    handed_on c.from_residual.result c.in_err-test.field-0.0 c.from_residual.ensures.1
    (whole_none _)
    c.in_err-test.ensures.none

pub expression-returns-in-None-clause-tree : goal.expression-returns-in-None-clause-tree
expression-returns-in-None-clause-tree t c = whole_simple _ _ _ c.in_ok-test.ensures.tree c.in-None.ensures.value

pub expression-returns-in_err-first-in-Some-clause-none : goal.expression-returns-in_err-first-in-Some-clause-none
expression-returns-in_err-first-in-Some-clause-none t c =
    handed_on c.from_residual-in_err-first-in-Some.result c.in_err-first-in-Some.field-0.0 c.from_residual-in_err-first-in-Some.ensures.1
    (branches_none _ _ _ (branches _ _ _ _ c.in_ok-test.ensures.tree c.in-Some.ensures.value))
    c.in_err-first-in-Some.ensures.none

pub expression-returns-in-None-after-clause-none : goal.expression-returns-in-None-after-clause-none
expression-returns-in-None-after-clause-none t c =
    branches_no_colon _ _ _ (branches _ _ _ _ c.in_ok-test.ensures.tree c.in-Some.ensures.value) _ _ c.in_ok-first-in-Some.ensures.tree c.in-None-after.ensures.value

pub expression-returns-in_err-second-in-Some-after-clause-none : goal.expression-returns-in_err-second-in-Some-after-clause-none
expression-returns-in_err-second-in-Some-after-clause-none t c =
    handed_on c.from_residual-in_err-second-in-Some-after.result c.in_err-second-in-Some-after.field-0.0 c.from_residual-in_err-second-in-Some-after.ensures.1
    (branches_no_second _ _ _ (branches _ _ _ _ c.in_ok-test.ensures.tree c.in-Some.ensures.value) _ _ _ c.in_ok-first-in-Some.ensures.tree c.in-Some-after.ensures.value)
    c.in_err-second-in-Some-after.ensures.none

pub expression-returns-in_ok-second-in-Some-after-clause-tree : goal.expression-returns-in_ok-second-in-Some-after-clause-tree
expression-returns-in_ok-second-in-Some-after-clause-tree t c =
    let two = branches _ _ _ _ c.in_ok-test.ensures.tree c.in-Some.ensures.value in
    let read = branches_both _ _ _ two _ _ _ c.in_ok-first-in-Some.ensures.tree c.in-Some-after.ensures.value _ _ c.in_ok-second-in-Some-after.ensures.tree in
    of_ok _ c.conditional.result c.conditional.ensures (λ x h. rw (h.0, h.1) read)

pub expression-returns-in_ok-second-in-Some-after-clause-none : goal.expression-returns-in_ok-second-in-Some-after-clause-none
expression-returns-in_ok-second-in-Some-after-clause-none t c = of_memory _ _ c.conditional.result c.conditional.ensures

pub expression-returns-in_ok-second-in-Some-after-clause-shorter : goal.expression-returns-in_ok-second-in-Some-after-clause-shorter
expression-returns-in_ok-second-in-Some-after-clause-shorter t c =
    of_ok _ c.conditional.result c.conditional.ensures (λ x h. rw h.1
    (omega (arith, c.in_ok-test.ensures.shorter, c.in-Some.ensures.shorter, c.in_ok-first-in-Some.ensures.shorter, c.in-Some-after.ensures.shorter, c.in_ok-second-in-Some-after.ensures.shorter)))

pub expression_before-returns-in_err-tree-clause-none : goal.expression_before-returns-in_err-tree-clause-none
expression_before-returns-in_err-tree-clause-none t c =
    handed_on c.from_residual.result c.in_err-tree.field-0.0 c.from_residual.ensures.1
    (before_none c.args.sign _)
    c.in_err-tree.ensures.none

pub expression_before-returns-in-Some-clause-tree : goal.expression_before-returns-in-Some-clause-tree
expression_before-returns-in-Some-clause-tree t c = rw c.in-Some.ensures.value at c.in_ok-tree.ensures.tree

pub expression_before-returns-in-Some-clause-shorter : goal.expression_before-returns-in-Some-clause-shorter
expression_before-returns-in-Some-clause-shorter t c = omega (arith, c.in_ok-tree.ensures.shorter, c.in-Some.ensures.shorter)

pub expression_before-returns-in-None-clause-none : goal.expression_before-returns-in-None-clause-none
expression_before-returns-in-None-clause-none t c =
    before_other c.args.sign _ _ _ c.in_ok-tree.ensures.tree c.in-None.ensures.value

pub infix-returns-in_err-left-clause-none : goal.infix-returns-in_err-left-clause-none
infix-returns-in_err-left-clause-none t c = handed_on c.from_residual.result c.in_err-left.field-0.0 c.from_residual.ensures.1 (λ none. no_tree_at c.args.height (c.args.height - 1) (terminals c.args.tokens.now) (let e : c.args.height ≡ suc (c.args.height - 1) = omega arith in e) (start_none (c.args.height - 1) (terminals c.args.tokens.now) none)) c.in_err-left.ensures.none

pub infix-operators-init : goal.infix-operators-init
infix-operators-init t c = record { going = going_start (c.args.height - 1) (terminals c.args.tokens.now) (view c.in_ok-left.left.value) (terminals c.in_ok-left.rest.now) c.in_ok-left.ensures.tree; shorter = c.in_ok-left.ensures.shorter }

pub infix-operators-preserved : goal.infix-operators-preserved
infix-operators-preserved t c = record { going = rw c.in_ok-tree-in-Some.ensures (going_next (c.args.height - 1) c.in-Some.ensures.value.0 c.in-Some.operator (terminals c.in-Some.beyond.now) c.in-Some.ensures.value.2 (terminals c.args.tokens.now) (view c.operators.left.value) (terminals c.operators.rest.now) (view c.in_ok-right-in-Some.right.value) (terminals c.in_ok-right-in-Some.after.now) c.operators.invariant.going c.in-Some.ensures.value.1 c.in_ok-right-in-Some.ensures.tree); shorter = omega (arith, c.in-Some.ensures.shorter, c.in_ok-right-in-Some.ensures.shorter, c.operators.invariant.shorter) }

pub infix-returns-in-None-clause-tree : goal.infix-returns-in-None-clause-tree
infix-returns-in-None-clause-tree t c = read_at c.args.height (c.args.height - 1) (terminals c.args.tokens.now) (view c.operators.left.value) (terminals c.operators.rest.now) (let e : c.args.height ≡ suc (c.args.height - 1) = omega arith in e) (going_end (c.args.height - 1) (terminals c.args.tokens.now) (view c.operators.left.value) (terminals c.operators.rest.now) c.operators.invariant.going c.in-None.ensures.value)

pub infix-returns-in_err-right-in-Some-clause-none : goal.infix-returns-in_err-right-in-Some-clause-none
infix-returns-in_err-right-in-Some-clause-none t c = handed_on c.from_residual-in_err-right-in-Some.result c.in_err-right-in-Some.field-0.0 c.from_residual-in_err-right-in-Some.ensures.1 (λ none. no_tree_at c.args.height (c.args.height - 1) (terminals c.args.tokens.now) (let e : c.args.height ≡ suc (c.args.height - 1) = omega arith in e) (next_none (c.args.height - 1) c.in-Some.ensures.value.0 c.in-Some.operator (terminals c.in-Some.beyond.now) c.in-Some.ensures.value.2 (terminals c.args.tokens.now) (view c.operators.left.value) (terminals c.operators.rest.now) c.operators.invariant.going c.in-Some.ensures.value.1 none)) c.in_err-right-in-Some.ensures.none

pub member-returns-in_err-of-clause-none : goal.member-returns-in_err-of-clause-none
member-returns-in_err-of-clause-none t c =
    handed_on c.from_residual.result c.in_err-of.field-0.0 c.from_residual.ensures.1
    (member_none _)
    c.in_err-of.ensures.none

pub member-suffixes-init : goal.member-suffixes-init
member-suffixes-init t c = record { going = member_start _ _ _ c.in_ok-of.ensures.tree; shorter = c.in_ok-of.ensures.shorter }

pub member-suffixes-preserved-in-Field : goal.member-suffixes-preserved-in-Field
member-suffixes-preserved-in-Field t c = record {
  going = rw c.in_ok-tree-in-Field.ensures (member_field _ _ _ c.suffixes.invariant.going c.in-Field.ensures.0 _ c.in-Field.ensures.2 _ c.in-Field.ensures.1 c.in-Field.ensures.3);
  shorter = omega (arith, c.in-Field.ensures.4, c.suffixes.invariant.shorter);
}

pub member-returns-in_err-arguments-in-Method-clause-none : goal.member-returns-in_err-arguments-in-Method-clause-none
member-returns-in_err-arguments-in-Method-clause-none t c =
    handed_on c.from_residual-in_err-arguments-in-Method.result c.in_err-arguments-in-Method.field-0.0 c.from_residual-in_err-arguments-in-Method.ensures.1
    (member_no_arguments _ _ _ c.suffixes.invariant.going c.in-Method.ensures.0 _ c.in-Method.ensures.2 _ c.in-Method.ensures.1)
    c.in_err-arguments-in-Method.ensures.none

pub member-returns-in-Nothing-clause-tree : goal.member-returns-in-Nothing-clause-tree
member-returns-in-Nothing-clause-tree t c =
    member_end _ _ _ c.suffixes.invariant.going c.in-Nothing.ensures.0 c.in-Nothing.ensures.1 c.in-Nothing.ensures.2

pub member-returns-in-Wrong-clause-none : goal.member-returns-in-Wrong-clause-none
member-returns-in-Wrong-clause-none t c = member_wrong _ _ _ c.suffixes.invariant.going c.in-Wrong.ensures.0 c.in-Wrong.ensures.1

pub member-suffixes-preserved : goal.member-suffixes-preserved
member-suffixes-preserved t c = record {
  going = rw c.in_ok-tree-in-Index.ensures (member_index _ _ _ c.suffixes.invariant.going _ _ _ c.in-Index.ensures.0 c.in_ok-index-in-Index.ensures.tree);
  shorter = omega (arith, c.in-Index.ensures.1, c.in_ok-index-in-Index.ensures.shorter, c.suffixes.invariant.shorter);
}

pub member-suffixes-preserved-in-Method : goal.member-suffixes-preserved-in-Method
member-suffixes-preserved-in-Method t c = record {
  going = member_method _ _ _ c.suffixes.invariant.going c.in-Method.ensures.0 _ c.in-Method.ensures.2 _ _ _ _ c.in-Method.ensures.1 c.in_ok-arguments-in-Method.ensures.items c.in_ok-tree-in-Method.ensures;
  shorter = omega (arith, c.in-Method.ensures.3, c.in_ok-arguments-in-Method.ensures.shorter, c.suffixes.invariant.shorter);
}

pub member-returns-in_err-tree-in-Method-clause-none : goal.member-returns-in_err-tree-in-Method-clause-none
member-returns-in_err-tree-in-Method-clause-none t c =
    handed_on c.from_residual-in_err-tree-in-Method.result c.in_err-tree-in-Method.field-0.0 c.from_residual-in_err-tree-in-Method.ensures.1
    (member_no_call _ _ _ c.suffixes.invariant.going c.in-Method.ensures.0 _ c.in-Method.ensures.2 _ _ _ c.in-Method.ensures.1 c.in_ok-arguments-in-Method.ensures.items)
    c.in_err-tree-in-Method.ensures

pub member-returns-in_err-index-in-Index-clause-none : goal.member-returns-in_err-index-in-Index-clause-none
member-returns-in_err-index-in-Index-clause-none t c =
    handed_on c.from_residual-in_err-index-in-Index.result c.in_err-index-in-Index.field-0.0 c.from_residual-in_err-index-in-Index.ensures.1
    (member_no_index _ _ _ c.suffixes.invariant.going _ c.in-Index.ensures.0)
    c.in_err-index-in-Index.ensures.none

pub prefixed-returns-in_err-of-in-Some-clause-none : goal.prefixed-returns-in_err-of-in-Some-clause-none
prefixed-returns-in_err-of-in-Some-clause-none t c =
    handed_on c.from_residual.result c.in_err-of-in-Some.field-0.0 c.from_residual.ensures.1
    (prefixed_again_none c.args.prefix _ _ (sym c.in-Some.ensures.value))
    c.in_err-of-in-Some.ensures.none

pub prefixed-returns-in-None-clause-tree : goal.prefixed-returns-in-None-clause-tree
prefixed-returns-in-None-clause-tree t c = IfOk-weaker c.member.result (λ x. Read Member (terminals c.args.tokens.now) (view x.0.value) (terminals x.1.now)) _ (λ x g. prefixed_bare c.args.prefix (terminals c.args.tokens.now) (view x.0.value) (terminals x.1.now) (sym c.in-None.ensures.value) g) c.member.ensures.tree

pub primary-returns-in-Some-clause-tree : goal.primary-returns-in-Some-clause-tree
primary-returns-in-Some-clause-tree t c = primary_literal (terminals c.args.tokens.now) (view c.in-Some.tree.value) (terminals c.in_ok-found.rest.now) (MatchOption-at_some (HasNoLiteral (terminals c.args.tokens.now)) (λ t. Literal (terminals c.args.tokens.now) (view t.value) (terminals c.in_ok-found.rest.now)) c.in-Some.tree c.in-Some.is c.in_ok-found.ensures.value)

pub unary-returns-in_err-of-in-Some-clause-none : goal.unary-returns-in_err-of-in-Some-clause-none
unary-returns-in_err-of-in-Some-clause-none t c =
    handed_on c.from_residual.result c.in_err-of-in-Some.field-0.0 c.from_residual.ensures.1
    (unary_prefixed_none c.in-Some.prefix _ _ c.in-Some.ensures.value)
    c.in_err-of-in-Some.ensures.none

pub unary-returns-in-None-clause-tree : goal.unary-returns-in-None-clause-tree
unary-returns-in-None-clause-tree t c = IfOk-weaker c.member.result (λ x. Read Member (terminals c.args.tokens.now) (view x.0.value) (terminals x.1.now)) _ (λ x g. unary_plain (terminals c.args.tokens.now) (view x.0.value) (terminals x.1.now) c.in-None.ensures.value g) c.member.ensures.tree

pub unary-returns-in-None-clause-none : goal.unary-returns-in-None-clause-none
unary-returns-in-None-clause-none t c = IfErr-weaker c.member.result (λ e. Refuses e (HasNoTree Member (terminals c.args.tokens.now))) _ (λ e g. refuses e (unary_plain_none (terminals c.args.tokens.now) c.in-None.ensures.value) g) c.member.ensures.none

pub prefixed-returns-in_ok-of-in-Some-clause-tree : goal.prefixed-returns-in_ok-of-in-Some-clause-tree
prefixed-returns-in_ok-of-in-Some-clause-tree t c =
    of_ok _ c.unary_of.result c.unary_of.ensures (λ x h. rw (h.0, h.1) (prefixed_again c.args.prefix _ _ (sym c.in-Some.ensures.value) _ _ c.in_ok-of-in-Some.ensures.tree))

pub prefixed-returns-in_ok-of-in-Some-clause-none : goal.prefixed-returns-in_ok-of-in-Some-clause-none
prefixed-returns-in_ok-of-in-Some-clause-none t c = of_memory _ _ c.unary_of.result c.unary_of.ensures

pub prefixed-returns-in_ok-of-in-Some-clause-shorter : goal.prefixed-returns-in_ok-of-in-Some-clause-shorter
prefixed-returns-in_ok-of-in-Some-clause-shorter t c =
    of_ok _ c.unary_of.result c.unary_of.ensures (λ x h. rw h.1 (omega (arith, c.in-Some.ensures.shorter, c.in_ok-of-in-Some.ensures.shorter)))

pub unary-returns-in_ok-of-in-Some-clause-tree : goal.unary-returns-in_ok-of-in-Some-clause-tree
unary-returns-in_ok-of-in-Some-clause-tree t c =
    of_ok _ c.unary_of.result c.unary_of.ensures (λ x h. rw (h.0, h.1) (unary_prefixed c.in-Some.prefix _ _ c.in-Some.ensures.value _ _ c.in_ok-of-in-Some.ensures.tree))

pub unary-returns-in_ok-of-in-Some-clause-none : goal.unary-returns-in_ok-of-in-Some-clause-none
unary-returns-in_ok-of-in-Some-clause-none t c = of_memory _ _ c.unary_of.result c.unary_of.ensures

pub unary-returns-in_ok-of-in-Some-clause-shorter : goal.unary-returns-in_ok-of-in-Some-clause-shorter
unary-returns-in_ok-of-in-Some-clause-shorter t c =
    of_ok _ c.unary_of.result c.unary_of.ensures (λ x h. rw h.1 (omega (arith, c.in-Some.ensures.shorter, c.in_ok-of-in-Some.ensures.shorter)))

-- each call is of fewer tokens, or of a function that stands lower

pub composite-items-requires : goal.composite-items-requires
composite-items-requires t c = (omega (arith, c.decreases, c.in-Call.ensures.1), tt)

pub composite-expression_before-requires : goal.composite-expression_before-requires
composite-expression_before-requires t c = (omega (arith, c.decreases, c.in-Parenthesis.ensures.1), tt)

pub composite-items-requires-in-Bracket : goal.composite-items-requires-in-Bracket
composite-items-requires-in-Bracket t c = (omega (arith, c.decreases, c.in-Bracket.ensures.1), tt)

pub composite-entries-requires : goal.composite-entries-requires
composite-entries-requires t c = (omega (arith, c.decreases, c.in-Brace.ensures.1), tt)

pub entries-expression_before-requires : goal.entries-expression_before-requires
entries-expression_before-requires t c = (omega (arith, c.decreases, c.more_entries.invariant.within), tt)

pub entries-expression-requires : goal.entries-expression-requires
entries-expression-requires t c = (omega (arith, c.decreases, c.more_entries.invariant.within, c.in_ok-key.ensures.shorter), tt)

pub expression-infix-requires : goal.expression-infix-requires
expression-infix-requires t c = (omega (arith, c.decreases), tt)

pub expression-infix-requires-in-Some : goal.expression-infix-requires-in-Some
expression-infix-requires-in-Some t c = (omega (arith, c.decreases, c.in_ok-test.ensures.shorter, c.in-Some.ensures.shorter), tt)

pub expression-expression-requires : goal.expression-expression-requires
expression-expression-requires t c =
    (omega (arith, c.decreases, c.in_ok-test.ensures.shorter, c.in-Some.ensures.shorter, c.in_ok-first-in-Some.ensures.shorter, c.in-Some-after.ensures.shorter), tt)

pub expression_before-expression-requires : goal.expression_before-expression-requires
expression_before-expression-requires t c = (omega (arith, c.decreases), tt)

pub infix-unary-requires : goal.infix-unary-requires
infix-unary-requires t c = (omega (arith, c.decreases), tt)

pub infix-infix-requires : goal.infix-infix-requires
infix-infix-requires t c = (omega (arith, c.decreases), tt)

pub infix-infix-requires-in-Some : goal.infix-infix-requires-in-Some
infix-infix-requires-in-Some t c = (omega (arith, c.decreases, c.operators.invariant.shorter, c.in-Some.ensures.shorter), tt)

pub items-expression-requires : goal.items-expression-requires
items-expression-requires t c = (omega (arith, c.decreases, c.more_items.invariant.within), tt)

pub member-primary-requires : goal.member-primary-requires
member-primary-requires t c = (omega (arith, c.decreases), tt)

pub member-items-requires : goal.member-items-requires
member-items-requires t c = (omega (arith, c.decreases, c.suffixes.invariant.shorter, c.in-Method.ensures.3), tt)

pub member-expression_before-requires : goal.member-expression_before-requires
member-expression_before-requires t c = (omega (arith, c.decreases, c.suffixes.invariant.shorter, c.in-Index.ensures.1), tt)

pub prefixed-prefixed-requires : goal.prefixed-prefixed-requires
prefixed-prefixed-requires t c = (omega (arith, c.decreases, c.in-Some.ensures.shorter), tt)

pub prefixed-member-requires : goal.prefixed-member-requires
prefixed-member-requires t c = (omega (arith, c.decreases), tt)

pub primary-composite-requires : goal.primary-composite-requires
primary-composite-requires t c = (omega (arith, c.decreases), tt)

pub unary-prefixed-requires : goal.unary-prefixed-requires
unary-prefixed-requires t c = (omega (arith, c.decreases, c.in-Some.ensures.shorter), tt)

pub unary-member-requires : goal.unary-member-requires
unary-member-requires t c = (omega (arith, c.decreases), tt)

-- and leaves fewer

pub infix-operators-smaller : goal.infix-operators-smaller
infix-operators-smaller t c = omega (arith, c.in-Some.ensures.shorter, c.in_ok-right-in-Some.ensures.shorter)

pub infix-returns-in-None-clause-shorter : goal.infix-returns-in-None-clause-shorter
infix-returns-in-None-clause-shorter t c = c.operators.invariant.shorter

pub infix-returns-then-height-eq0-clause-shorter : goal.infix-returns-then-height-eq0-clause-shorter
infix-returns-then-height-eq0-clause-shorter t c = c.unary.ensures.shorter

pub member-suffixes-smaller-in-Field : goal.member-suffixes-smaller-in-Field
member-suffixes-smaller-in-Field t c = c.in-Field.ensures.4

pub member-suffixes-smaller-in-Method : goal.member-suffixes-smaller-in-Method
member-suffixes-smaller-in-Method t c = omega (arith, c.in-Method.ensures.3, c.in_ok-arguments-in-Method.ensures.shorter)

pub member-suffixes-smaller : goal.member-suffixes-smaller
member-suffixes-smaller t c = omega (arith, c.in-Index.ensures.1, c.in_ok-index-in-Index.ensures.shorter)

pub member-returns-in-Nothing-clause-shorter : goal.member-returns-in-Nothing-clause-shorter
member-returns-in-Nothing-clause-shorter t c = c.suffixes.invariant.shorter

pub expression-returns-in-None-clause-shorter : goal.expression-returns-in-None-clause-shorter
expression-returns-in-None-clause-shorter t c = c.in_ok-test.ensures.shorter

pub prefixed-returns-in-None-clause-shorter : goal.prefixed-returns-in-None-clause-shorter
prefixed-returns-in-None-clause-shorter t c = c.member.ensures.shorter

pub unary-returns-in-None-clause-shorter : goal.unary-returns-in-None-clause-shorter
unary-returns-in-None-clause-shorter t c = c.member.ensures.shorter

pub primary-returns-in-None-clause-shorter : goal.primary-returns-in-None-clause-shorter
primary-returns-in-None-clause-shorter t c = c.composite.ensures.shorter
