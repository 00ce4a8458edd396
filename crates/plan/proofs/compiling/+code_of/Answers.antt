use Rattle.std.proofs.lemmas.List.{append-nil, drop_all, drop_more}
use Rattle.std.proofs.Common.{◌≡◌, ℕ, List, Result, Vec, Global, IfOk, OnOk, [], drop, length, ◌+◌, ◌∷◌, ◌++◌, string_bytes, refl, sym, ap, subst, ◌∙◌, arith}
use Rattle.std.proofs.lemmas.Str.{IsUtf8-string_bytes}
use Rattle.std.proofs.lemmas.Result.{IfOk-weaker}
use Rattle.std.specs.declared.alloc.AllocError.{AllocError}
use Rattle.celtree.specs.declared.tree.Tree.{Tree, roll-Tree, map-Tree, fold-roll-Tree}
use Rattle.celtree.specs.declared.tree.Tree.TheOpen.{Tree-F}
use Rattle.celtree.specs.declared.tree.Tree.TheVariants as tree
use Rattle.celtree.specs.Tree as expr
use Rattle.celtree.specs.Tree.{Expr}
use Rattle.celtree.specs.View.{view, views, pair_views, view_step}
use Rattle.instructions.specs.declared.instruction.Instruction.{Instruction}
use Rattle.instructions.specs.Op.{TakeItems, TakePairs, TakeCall}
use Rattle.instructions.specs.Seen.{ops_of}
use Rattle.plan.specs.Names.{Names, bind}
use Rattle.plan.specs.Tables.{steps_between, function_named, method_named}
use Rattle.plan.specs.Compilation.{count, pair_count, size, size_of_items, size_of_pairs, compiled, compiled_items, compiled_pairs}
use Rattle.plan.specs.Seen.{names_seen}
use Rattle.plan.specs.Values.{HasValues, HaveValues, PairsHaveValues}
use Rattle.plan.proofs.Parts.{Makes, joined_by, followed_by, gathered_by, infix_by, conditional_by, macro_by}
use Rattle.plan.proofs.Places.{placed, count_is, pair_count_is, few_items, few_pairs, items_turn, pairs_turn}
use Rattle.plan.proofs.TreeValues.{text_has_values, no_items_left, no_pairs_left, on_ok}
use Rattle.plan.proofs.compiling.+code_of.Goals as goal

pub code_of_index-returns-clause-code : goal.code_of_index-returns-clause-code
code_of_index-returns-clause-code t c =
    let d = names_seen c.args.names.now in
    let at = c.args.at in
    let e = c.args.of.now.value in
    let first = placed c.in_ok-operand.operand.items c.deref.result.now e at at d c.in_ok-operand.ensures.code c.deref.ensures refl in
    let second = placed c.in_ok-index.index.items c.deref-2.result.now c.args.index.now.value c.after-index_at.result (at + size (view e)) d c.in_ok-index.ensures.code c.deref-2.ensures c.after-index_at.ensures in
    gathered_by c.gathered.result first second refl c.gathered.ensures.code

pub code_of_list-overflow_cast-len : goal.code_of_list-overflow_cast-len
code_of_list-overflow_cast-len t c =
    record { fits = omega (arith, c.len.ensures, c.args.items.now.ok.0, few_items c.args.items.now.items) }

pub code_of_list-returns-clause-code : goal.code_of_list-returns-clause-code
code_of_list-returns-clause-code t c =
    let many : c.len.result ≡ count (views c.args.items.now.items) = c.len.ensures ∙ (c.args.items.now.ok.0 ∙ sym (count_is c.args.items.now.items)) in
    followed_by c.followed.result c.in_ok-code.ensures.code (ap TakeItems many) c.followed.ensures.code

pub code_of_map-overflow_cast-len : goal.code_of_map-overflow_cast-len
code_of_map-overflow_cast-len t c =
    record { fits = omega (arith, c.len.ensures, c.args.entries.now.ok.0, few_pairs c.args.entries.now.items) }

pub code_of_map-returns-clause-code : goal.code_of_map-returns-clause-code
code_of_map-returns-clause-code t c =
    let many : c.len.result ≡ pair_count (pair_views c.args.entries.now.items) = c.len.ensures ∙ (c.args.entries.now.ok.0 ∙ sym (pair_count_is c.args.entries.now.items)) in
    followed_by c.followed.result c.in_ok-code.ensures.code (ap TakePairs many) c.followed.ensures.code

pub code_of_infix-returns-clause-code : goal.code_of_infix-returns-clause-code
code_of_infix-returns-clause-code t c =
    let d = names_seen c.args.names.now in
    let o = c.args.operator in
    let a = c.args.left.now.value in
    let b = c.args.right.now.value in
    let at = c.args.at in
    let p = c.after.result + c.steps_between.result in
    let place : p ≡ at + size (view a) + steps_between o = omega (arith, c.after.ensures, c.steps_between.ensures) in
    let target : c.after-end.result + 1 ≡ at + size (expr.Infix o (view a) (view b)) = omega (arith, place, c.after-end.ensures) in
    let first = placed c.in_ok-first.first.items c.deref.result.now a at at d c.in_ok-first.ensures.code c.deref.ensures refl in
    let second = placed c.in_ok-second.second.items c.deref-2.result.now b p (at + size (view a) + steps_between o) d c.in_ok-second.ensures.code c.deref-2.ensures place in
    infix_by c.infix_code.result o first second target c.infix_code.ensures.code

pub code_of_conditional-returns-clause-code : goal.code_of_conditional-returns-clause-code
code_of_conditional-returns-clause-code t c =
    let d = names_seen c.args.names.now in
    let at = c.args.at in
    let e = c.args.test.now.value in
    let a = c.args.first.now.value in
    let b = c.args.second.now.value in
    let p = c.after-first_at.result + 1 in
    let q = c.after-second_at.result + 1 in
    let p' = at + size (view e) + 1 in
    let q' = at + size (view e) + 1 + size (view a) + 1 in
    let pp : p ≡ p' = omega (arith, c.after-first_at.ensures) in
    let qq : q ≡ q' = omega (arith, pp, c.after-second_at.ensures) in
    let target : c.after-end.result ≡ at + size (expr.Conditional (view e) (view a) (view b)) = omega (arith, qq, c.after-end.ensures) in
    let x = placed c.in_ok-start.start.items c.deref.result.now e at at d c.in_ok-start.ensures.code c.deref.ensures refl in
    let y = placed c.in_ok-middle.middle.items c.deref-2.result.now a p p' d c.in_ok-middle.ensures.code c.deref-2.ensures pp in
    let z = placed c.in_ok-rest.rest.items c.deref-3.result.now b q q' d c.in_ok-rest.ensures.code c.deref-3.ensures qq in
    conditional_by c.conditional_code.result x y z qq target c.conditional_code.ensures.code

pub code_of_method-returns-clause-code : goal.code_of_method-returns-clause-code
code_of_method-returns-clause-code t c =
    let d = names_seen c.args.names.now in
    let at = c.args.at in
    let first = placed c.in_ok-operand.operand.items c.deref.result.now c.args.of.now.value at at d c.in_ok-operand.ensures.code c.deref.ensures refl in
    let second = c.in_ok-rest.ensures.code ∙ ap (λ n. compiled_items (views c.args.arguments.now.items) n d) c.after-arguments_at.ensures in
    gathered_by c.gathered.result first second (ap TakeCall (c.method_named.ensures ∙ ap method_named c.deref-2.ensures)) c.gathered.ensures.code

pub code_of_macro-returns-clause-code : goal.code_of_macro-returns-clause-code
code_of_macro-returns-clause-code t c =
    let d = names_seen c.args.names.now in
    let at = c.args.at in
    let e = c.args.of.now.value in
    let b = c.args.body.now.value in
    let x = string_bytes c.args.variable.now in
    let p = c.after-body_at.result + 1 in
    let place : p ≡ at + size (view e) + 1 = omega (arith, c.after-body_at.ensures) in
    let target : c.after-end.result ≡ at + size (expr.Over c.args.kind (view e) x (view b)) = omega (arith, place, c.after-end.ensures) in
    let first = placed c.in_ok-operand.operand.items c.deref.result.now e at at d c.in_ok-operand.ensures.code c.deref.ensures refl in
    let second = c.in_ok-inside.ensures.code ∙ (ap (λ y. compiled (view b) p (bind y d)) c.deref-2.ensures ∙ ap (λ n. compiled (view b) n (bind x d)) place) in
    macro_by c.macro_code.result c.args.kind first second target c.macro_code.ensures.code

pub code_of_pair-returns-clause-code : goal.code_of_pair-returns-clause-code
code_of_pair-returns-clause-code t c =
    let d = names_seen c.args.names.now in
    let k = c.args.entry.now.0 in
    let v = c.args.entry.now.1 in
    let second = placed c.in_ok-value.value.items v v c.after_tree-value_at.result (c.args.at + size (view k)) d c.in_ok-value.ensures.code refl c.after_tree-value_at.ensures in
    joined_by c.joined.result c.in_ok-key.ensures.code second c.joined.ensures.code

pub code_of_index-code_of-requires-2 : goal.code_of_index-code_of-requires-2
code_of_index-code_of-requires-2 t c =
    let e = ap (λ (t : Tree). size (view t)) c.deref-2.ensures in
    (omega (arith, e), (omega (arith, e, c.after-index_at.ensures), c.requires.few))

pub code_of_infix-code_of-requires-2 : goal.code_of_infix-code_of-requires-2
code_of_infix-code_of-requires-2 t c =
    let e = ap (λ (t : Tree). size (view t)) c.deref-2.ensures in
    (omega (arith, e), (omega (arith, e, c.after.ensures, c.steps_between.ensures), c.requires.few))

pub code_of_conditional-code_of-requires-2 : goal.code_of_conditional-code_of-requires-2
code_of_conditional-code_of-requires-2 t c =
    let e = ap (λ (t : Tree). size (view t)) c.deref-2.ensures in
    (omega (arith, e), (omega (arith, e, c.after-first_at.ensures), c.requires.few))

pub code_of_conditional-code_of-requires-3 : goal.code_of_conditional-code_of-requires-3
code_of_conditional-code_of-requires-3 t c =
    let e = ap (λ (t : Tree). size (view t)) c.deref-3.ensures in
    (omega (arith, e), (omega (arith, e, c.after-first_at.ensures, c.after-second_at.ensures), c.requires.few))

pub code_of_method-code_of_items-requires : goal.code_of_method-code_of_items-requires
code_of_method-code_of_items-requires t c =
    (omega (arith), (omega (arith, c.after-arguments_at.ensures), c.requires.few))

pub code_of_macro-code_of_body-requires : goal.code_of_macro-code_of_body-requires
code_of_macro-code_of_body-requires t c =
    (omega (arith), (omega (arith, c.after-body_at.ensures), c.requires.few))

pub code_of_pairs-code_of_pair-requires : goal.code_of_pairs-code_of_pair-requires
code_of_pairs-code_of_pair-requires t c =
    let xs = c.deref-entry-items.result.now in
    let i = c.loop-entry.entry-index in
    let x = c.entry-item.result in
    let here : drop i xs ≡ x ∷ drop (i + 1) xs = drop_more xs i x (omega arith) ∙ ap (λ y. y ∷ drop (i + 1) xs) (sym c.entry-item.is) in
    let rest : size_of_pairs (pair_views (drop i c.args.entries.now.items)) ≡ size (view x.0) + size (view x.1) + size_of_pairs (pair_views (drop (i + 1) xs)) =
    ap (λ ys. size_of_pairs (pair_views (drop i ys))) (sym c.deref-entry-items.ensures.value) ∙ ap (λ ys. size_of_pairs (pair_views ys)) here in
    let l = c.len.ensures ∙ c.loop-entry.code.ok.0 in
    (omega (arith, c.loop-entry.invariant.1, rest), (omega (arith, l, c.loop-entry.invariant.1, rest), c.requires.few))

pub code_of_items-code_of-requires : goal.code_of_items-code_of-requires
code_of_items-code_of-requires t c =
    let xs = c.deref-item-items.result.now in
    let i = c.loop-item.item-index in
    let x = c.item-item.result in
    let here : drop i xs ≡ x ∷ drop (i + 1) xs = drop_more xs i x (omega arith) ∙ ap (λ y. y ∷ drop (i + 1) xs) (sym c.item-item.is) in
    let rest : size_of_items (views (drop i c.args.items.now.items)) ≡ size (view x) + size_of_items (views (drop (i + 1) xs)) =
    ap (λ ys. size_of_items (views (drop i ys))) (sym c.deref-item-items.ensures.value) ∙ ap (λ ys. size_of_items (views ys)) here in
    let l = c.len.ensures ∙ c.loop-item.code.ok.0 in
    (omega (arith, c.loop-item.invariant.1, rest), (omega (arith, l, c.loop-item.invariant.1, rest), c.requires.few))

pub code_of-returns-in_ok-clone-in-Text-clause-values : goal.code_of-returns-in_ok-clone-in-Text-clause-values
code_of-returns-in_ok-clone-in-Text-clause-values t c = on_ok c.alone-in-Text.result (HasValues (view c.args.tree.now)) (text_has_values c.args.tree.now c.in-Text.text c.in-Text.is)

pub code_of_field-returns-clause-values : goal.code_of_field-returns-clause-values
code_of_field-returns-clause-values t c =
    on_ok c.followed.result (HasValues (expr.Field (view c.args.of.now.value) (string_bytes c.args.name.now)))
    (subst (λ (t : Tree). HasValues (view t)) c.deref-2.ensures c.in_ok-code.ensures.values, IsUtf8-string_bytes c.args.name.now)

pub code_of_presence-returns-clause-values : goal.code_of_presence-returns-clause-values
code_of_presence-returns-clause-values t c =
    on_ok c.followed.result (HasValues (expr.Has (view c.args.of.now.value) (string_bytes c.args.name.now)))
    (subst (λ (t : Tree). HasValues (view t)) c.deref.ensures c.in_ok-code.ensures.values, IsUtf8-string_bytes c.args.name.now)

pub code_of_items-returns-clause-values : goal.code_of_items-returns-clause-values
code_of_items-returns-clause-values t c =
    let l = ap (λ (ts : List Tree). length ts) c.deref-item-items.ensures.value in
    c.loop-item.invariant.2 (no_items_left c.args.items.now.items c.loop-item.item-index (omega (arith, l)))

pub code_of_pairs-returns-clause-values : goal.code_of_pairs-returns-clause-values
code_of_pairs-returns-clause-values t c =
    let l = ap (λ (ps : List (Tree × Tree)). length ps) c.deref-entry-items.ensures.value in
    c.loop-entry.invariant.2 (no_pairs_left c.args.entries.now.items c.loop-entry.entry-index (omega (arith, l)))

pub code_of_items-loop-item-preserved : goal.code_of_items-loop-item-preserved
code_of_items-loop-item-preserved t c =
    let ts = c.args.items.now.items in
    let xs = c.deref-item-items.result.now in
    let i = c.loop-item.item-index in
    let x = c.item-item.result in
    let there : drop i xs ≡ x ∷ drop (i + 1) xs = drop_more xs i x (omega arith) ∙ ap (λ y. y ∷ drop (i + 1) xs) (sym c.item-item.is) in
    let here : drop i ts ≡ x ∷ drop (i + 1) ts = subst (λ (ys : List Tree). drop i ys ≡ x ∷ drop (i + 1) ys) c.deref-item-items.ensures.value there in
    items_turn c.loop-item.code.items c.in_ok-more.more.items c.in_ok-code.code.items x (drop i ts) (drop (i + 1) ts) ts c.len.result c.args.at
    (names_seen c.args.names.now) here (c.len.ensures ∙ c.loop-item.code.ok.0) c.loop-item.invariant c.in_ok-more.ensures.code c.in_ok-more.ensures.as_long
    c.in_ok-more.ensures.values c.in_ok-code.ensures.code c.in_ok-code.ensures.as_long

pub code_of_pairs-loop-entry-preserved : goal.code_of_pairs-loop-entry-preserved
code_of_pairs-loop-entry-preserved t c =
    let ts = c.args.entries.now.items in
    let xs = c.deref-entry-items.result.now in
    let i = c.loop-entry.entry-index in
    let x = c.entry-item.result in
    let there : drop i xs ≡ x ∷ drop (i + 1) xs = drop_more xs i x (omega arith) ∙ ap (λ y. y ∷ drop (i + 1) xs) (sym c.entry-item.is) in
    let here : drop i ts ≡ x ∷ drop (i + 1) ts = subst (λ (ys : List (Tree × Tree)). drop i ys ≡ x ∷ drop (i + 1) ys) c.deref-entry-items.ensures.value there in
    pairs_turn c.loop-entry.code.items c.in_ok-more.more.items c.in_ok-code.code.items x (drop i ts) (drop (i + 1) ts) ts c.len.result c.args.at
    (names_seen c.args.names.now) here (c.len.ensures ∙ c.loop-entry.code.ok.0) c.loop-entry.invariant c.in_ok-more.ensures.code c.in_ok-more.ensures.as_long
    c.in_ok-more.ensures.values c.in_ok-code.ensures.code c.in_ok-code.ensures.as_long

pub code_of_items-returns-clause-code : goal.code_of_items-returns-clause-code
code_of_items-returns-clause-code t c =
    let ts = c.args.items.now.items in
    let i = c.loop-item.item-index in
    let l = ap (λ (ys : List Tree). length ys) c.deref-item-items.ensures.value in
    let none : drop i ts ≡ [] = drop_all i ts (omega (arith, l)) in
    let code = c.loop-item.code.items in
    let d = names_seen c.args.names.now in
    let whole = compiled_items (views ts) c.args.at d in
    sym (append-nil (ops_of code)) ∙ subst (λ (ys : List Tree). ops_of code ++ compiled_items (views ys) (c.args.at + length code) d ≡ whole) none c.loop-item.invariant.0

pub code_of_items-returns-clause-as_long : goal.code_of_items-returns-clause-as_long
code_of_items-returns-clause-as_long t c =
    let ts = c.args.items.now.items in
    let i = c.loop-item.item-index in
    let l = ap (λ (ys : List Tree). length ys) c.deref-item-items.ensures.value in
    let none : drop i ts ≡ [] = drop_all i ts (omega (arith, l)) in
    omega (arith, ap (λ ys. size_of_items (views ys)) none, c.loop-item.invariant.1)

pub code_of_pairs-returns-clause-code : goal.code_of_pairs-returns-clause-code
code_of_pairs-returns-clause-code t c =
    let ts = c.args.entries.now.items in
    let i = c.loop-entry.entry-index in
    let l = ap (λ (ys : List (Tree × Tree)). length ys) c.deref-entry-items.ensures.value in
    let none : drop i ts ≡ [] = drop_all i ts (omega (arith, l)) in
    let code = c.loop-entry.code.items in
    let d = names_seen c.args.names.now in
    let whole = compiled_pairs (pair_views ts) c.args.at d in
    sym (append-nil (ops_of code)) ∙ subst (λ (ys : List (Tree × Tree)). ops_of code ++ compiled_pairs (pair_views ys) (c.args.at + length code) d ≡ whole) none c.loop-entry.invariant.0

pub code_of_pairs-returns-clause-as_long : goal.code_of_pairs-returns-clause-as_long
code_of_pairs-returns-clause-as_long t c =
    let ts = c.args.entries.now.items in
    let i = c.loop-entry.entry-index in
    let l = ap (λ (ys : List (Tree × Tree)). length ys) c.deref-entry-items.ensures.value in
    let none : drop i ts ≡ [] = drop_all i ts (omega (arith, l)) in
    omega (arith, ap (λ ys. size_of_pairs (pair_views ys)) none, c.loop-entry.invariant.1)

-- the view of a tree, by its variant
same_view : (tree of : Tree) (layer : Tree-F Tree) → tree ≡ of → roll-Tree layer ≡ of → view tree ≡ view_step (map-Tree Tree Expr view layer)
same_view tree of layer is rolls = ap view (is ∙ sym rolls) ∙ fold-roll-Tree Expr view_step layer

-- what is made of a tree, by its view
code_as : (r : Result (Vec Instruction Global) AllocError) (e f : Expr) (at : ℕ) (d : Names) → e ≡ f → Makes r (compiled f at d) → Makes r (compiled e at d)
code_as r e f at d same made = subst (λ x. Makes r (compiled x at d)) (sym same) made

long_as : (r : Result (Vec Instruction Global) AllocError) (e f : Expr) → e ≡ f → IfOk r (λ v. length v.items ≡ size f) → IfOk r (λ v. length v.items ≡ size e)
long_as r e f same made = subst (λ x. IfOk r (λ v. length v.items ≡ size x)) (sym same) made

values_as : (r : Result (Vec Instruction Global) AllocError) (e f : Expr) → e ≡ f → OnOk r (HasValues f) → OnOk r (HasValues e)
values_as r e f same made = subst (λ x. OnOk r (HasValues x)) (sym same) made

pub code_of-returns-in-Field : goal.code_of-returns-in-Field
code_of-returns-in-Field t c =
    let e = same_view c.args.tree.now (tree.Field c.in-Field.of c.in-Field.name) (Tree-F.Field c.in-Field.of c.in-Field.name) c.in-Field.is (tree.rolls-Field c.in-Field.of c.in-Field.name) in
    record {
      code = code_as c.code_of_field.result _ _ c.args.at (names_seen c.args.names.now) e c.code_of_field.ensures.code;
      as_long = long_as c.code_of_field.result _ _ e c.code_of_field.ensures.as_long;
      values = values_as c.code_of_field.result _ _ e c.code_of_field.ensures.values;
    }

pub code_of-code_of_field-requires : goal.code_of-code_of_field-requires
code_of-code_of_field-requires t c =
    let e = ap size (same_view c.args.tree.now (tree.Field c.in-Field.of c.in-Field.name) (Tree-F.Field c.in-Field.of c.in-Field.name) c.in-Field.is (tree.rolls-Field c.in-Field.of c.in-Field.name)) in
    (omega (arith, e), (omega (arith, e), c.requires.few))

pub code_of-returns-in-Has : goal.code_of-returns-in-Has
code_of-returns-in-Has t c =
    let e = same_view c.args.tree.now (tree.Has c.in-Has.of c.in-Has.name) (Tree-F.Has c.in-Has.of c.in-Has.name) c.in-Has.is (tree.rolls-Has c.in-Has.of c.in-Has.name) in
    record {
      code = code_as c.code_of_presence.result _ _ c.args.at (names_seen c.args.names.now) e c.code_of_presence.ensures.code;
      as_long = long_as c.code_of_presence.result _ _ e c.code_of_presence.ensures.as_long;
      values = values_as c.code_of_presence.result _ _ e c.code_of_presence.ensures.values;
    }

pub code_of-code_of_presence-requires : goal.code_of-code_of_presence-requires
code_of-code_of_presence-requires t c =
    let e = ap size (same_view c.args.tree.now (tree.Has c.in-Has.of c.in-Has.name) (Tree-F.Has c.in-Has.of c.in-Has.name) c.in-Has.is (tree.rolls-Has c.in-Has.of c.in-Has.name)) in
    (omega (arith, e), (omega (arith, e), c.requires.few))

pub code_of-returns-in-Index : goal.code_of-returns-in-Index
code_of-returns-in-Index t c =
    let e = same_view c.args.tree.now (tree.Index c.in-Index.of c.in-Index.index) (Tree-F.Index c.in-Index.of c.in-Index.index) c.in-Index.is (tree.rolls-Index c.in-Index.of c.in-Index.index) in
    record {
      code = code_as c.code_of_index.result _ _ c.args.at (names_seen c.args.names.now) e c.code_of_index.ensures.code;
      as_long = long_as c.code_of_index.result _ _ e c.code_of_index.ensures.as_long;
      values = values_as c.code_of_index.result _ _ e c.code_of_index.ensures.values;
    }

pub code_of-code_of_index-requires : goal.code_of-code_of_index-requires
code_of-code_of_index-requires t c =
    let e = ap size (same_view c.args.tree.now (tree.Index c.in-Index.of c.in-Index.index) (Tree-F.Index c.in-Index.of c.in-Index.index) c.in-Index.is (tree.rolls-Index c.in-Index.of c.in-Index.index)) in
    (omega (arith, e), (omega (arith, e), c.requires.few))

pub code_of-returns-in-List : goal.code_of-returns-in-List
code_of-returns-in-List t c =
    let e = same_view c.args.tree.now (tree.List c.in-List.items) (Tree-F.List c.in-List.items) c.in-List.is (tree.rolls-List c.in-List.items) in
    record {
      code = code_as c.code_of_list.result _ _ c.args.at (names_seen c.args.names.now) e c.code_of_list.ensures.code;
      as_long = long_as c.code_of_list.result _ _ e c.code_of_list.ensures.as_long;
      values = values_as c.code_of_list.result _ _ e c.code_of_list.ensures.values;
    }

pub code_of-code_of_list-requires : goal.code_of-code_of_list-requires
code_of-code_of_list-requires t c =
    let e = ap size (same_view c.args.tree.now (tree.List c.in-List.items) (Tree-F.List c.in-List.items) c.in-List.is (tree.rolls-List c.in-List.items)) in
    (omega (arith, e), (omega (arith, e), c.requires.few))

pub code_of-returns-in-Map : goal.code_of-returns-in-Map
code_of-returns-in-Map t c =
    let e = same_view c.args.tree.now (tree.Map c.in-Map.entries) (Tree-F.Map c.in-Map.entries) c.in-Map.is (tree.rolls-Map c.in-Map.entries) in
    record {
      code = code_as c.code_of_map.result _ _ c.args.at (names_seen c.args.names.now) e c.code_of_map.ensures.code;
      as_long = long_as c.code_of_map.result _ _ e c.code_of_map.ensures.as_long;
      values = values_as c.code_of_map.result _ _ e c.code_of_map.ensures.values;
    }

pub code_of-code_of_map-requires : goal.code_of-code_of_map-requires
code_of-code_of_map-requires t c =
    let e = ap size (same_view c.args.tree.now (tree.Map c.in-Map.entries) (Tree-F.Map c.in-Map.entries) c.in-Map.is (tree.rolls-Map c.in-Map.entries)) in
    (omega (arith, e), (omega (arith, e), c.requires.few))

pub code_of-returns-in-Unary : goal.code_of-returns-in-Unary
code_of-returns-in-Unary t c =
    let e = same_view c.args.tree.now (tree.Unary c.in-Unary.prefix c.in-Unary.of) (Tree-F.Unary c.in-Unary.prefix c.in-Unary.of) c.in-Unary.is (tree.rolls-Unary c.in-Unary.prefix c.in-Unary.of) in
    record {
      code = code_as c.code_of_unary.result _ _ c.args.at (names_seen c.args.names.now) e c.code_of_unary.ensures.code;
      as_long = long_as c.code_of_unary.result _ _ e c.code_of_unary.ensures.as_long;
      values = values_as c.code_of_unary.result _ _ e c.code_of_unary.ensures.values;
    }

pub code_of-code_of_unary-requires : goal.code_of-code_of_unary-requires
code_of-code_of_unary-requires t c =
    let e = ap size (same_view c.args.tree.now (tree.Unary c.in-Unary.prefix c.in-Unary.of) (Tree-F.Unary c.in-Unary.prefix c.in-Unary.of) c.in-Unary.is (tree.rolls-Unary c.in-Unary.prefix c.in-Unary.of)) in
    (omega (arith, e), (omega (arith, e), c.requires.few))

pub code_of-returns-in-Infix : goal.code_of-returns-in-Infix
code_of-returns-in-Infix t c =
    let e = same_view c.args.tree.now (tree.Infix c.in-Infix.operator c.in-Infix.left c.in-Infix.right) (Tree-F.Infix c.in-Infix.operator c.in-Infix.left c.in-Infix.right) c.in-Infix.is (tree.rolls-Infix c.in-Infix.operator c.in-Infix.left c.in-Infix.right) in
    record {
      code = code_as c.code_of_infix.result _ _ c.args.at (names_seen c.args.names.now) e c.code_of_infix.ensures.code;
      as_long = long_as c.code_of_infix.result _ _ e c.code_of_infix.ensures.as_long;
      values = values_as c.code_of_infix.result _ _ e c.code_of_infix.ensures.values;
    }

pub code_of-code_of_infix-requires : goal.code_of-code_of_infix-requires
code_of-code_of_infix-requires t c =
    let e = ap size (same_view c.args.tree.now (tree.Infix c.in-Infix.operator c.in-Infix.left c.in-Infix.right) (Tree-F.Infix c.in-Infix.operator c.in-Infix.left c.in-Infix.right) c.in-Infix.is (tree.rolls-Infix c.in-Infix.operator c.in-Infix.left c.in-Infix.right)) in
    (omega (arith, e), (omega (arith, e), c.requires.few))

pub code_of-returns-in-Conditional : goal.code_of-returns-in-Conditional
code_of-returns-in-Conditional t c =
    let e = same_view c.args.tree.now (tree.Conditional c.in-Conditional.test c.in-Conditional.first c.in-Conditional.second) (Tree-F.Conditional c.in-Conditional.test c.in-Conditional.first c.in-Conditional.second) c.in-Conditional.is (tree.rolls-Conditional c.in-Conditional.test c.in-Conditional.first c.in-Conditional.second) in
    record {
      code = code_as c.code_of_conditional.result _ _ c.args.at (names_seen c.args.names.now) e c.code_of_conditional.ensures.code;
      as_long = long_as c.code_of_conditional.result _ _ e c.code_of_conditional.ensures.as_long;
      values = values_as c.code_of_conditional.result _ _ e c.code_of_conditional.ensures.values;
    }

pub code_of-code_of_conditional-requires : goal.code_of-code_of_conditional-requires
code_of-code_of_conditional-requires t c =
    let e = ap size (same_view c.args.tree.now (tree.Conditional c.in-Conditional.test c.in-Conditional.first c.in-Conditional.second) (Tree-F.Conditional c.in-Conditional.test c.in-Conditional.first c.in-Conditional.second) c.in-Conditional.is (tree.rolls-Conditional c.in-Conditional.test c.in-Conditional.first c.in-Conditional.second)) in
    (omega (arith, e), (omega (arith, e), c.requires.few))

pub code_of-returns-in-Call : goal.code_of-returns-in-Call
code_of-returns-in-Call t c =
    let e = same_view c.args.tree.now (tree.Call c.in-Call.name c.in-Call.arguments) (Tree-F.Call c.in-Call.name c.in-Call.arguments) c.in-Call.is (tree.rolls-Call c.in-Call.name c.in-Call.arguments) in
    record {
      code = code_as c.code_of_call.result _ _ c.args.at (names_seen c.args.names.now) e c.code_of_call.ensures.code;
      as_long = long_as c.code_of_call.result _ _ e c.code_of_call.ensures.as_long;
      values = values_as c.code_of_call.result _ _ e c.code_of_call.ensures.values;
    }

pub code_of-code_of_call-requires : goal.code_of-code_of_call-requires
code_of-code_of_call-requires t c =
    let e = ap size (same_view c.args.tree.now (tree.Call c.in-Call.name c.in-Call.arguments) (Tree-F.Call c.in-Call.name c.in-Call.arguments) c.in-Call.is (tree.rolls-Call c.in-Call.name c.in-Call.arguments)) in
    (omega (arith, e), (omega (arith, e), c.requires.few))

pub code_of-returns-in-Method : goal.code_of-returns-in-Method
code_of-returns-in-Method t c =
    let e = same_view c.args.tree.now (tree.Method c.in-Method.of c.in-Method.name c.in-Method.arguments) (Tree-F.Method c.in-Method.of c.in-Method.name c.in-Method.arguments) c.in-Method.is (tree.rolls-Method c.in-Method.of c.in-Method.name c.in-Method.arguments) in
    record {
      code = code_as c.code_of_method.result _ _ c.args.at (names_seen c.args.names.now) e c.code_of_method.ensures.code;
      as_long = long_as c.code_of_method.result _ _ e c.code_of_method.ensures.as_long;
      values = values_as c.code_of_method.result _ _ e c.code_of_method.ensures.values;
    }

pub code_of-code_of_method-requires : goal.code_of-code_of_method-requires
code_of-code_of_method-requires t c =
    let e = ap size (same_view c.args.tree.now (tree.Method c.in-Method.of c.in-Method.name c.in-Method.arguments) (Tree-F.Method c.in-Method.of c.in-Method.name c.in-Method.arguments) c.in-Method.is (tree.rolls-Method c.in-Method.of c.in-Method.name c.in-Method.arguments)) in
    (omega (arith, e), (omega (arith, e), c.requires.few))

pub code_of-returns-in-Macro : goal.code_of-returns-in-Macro
code_of-returns-in-Macro t c =
    let e = same_view c.args.tree.now (tree.Macro c.in-Macro.kind c.in-Macro.of c.in-Macro.variable c.in-Macro.body) (Tree-F.Macro c.in-Macro.kind c.in-Macro.of c.in-Macro.variable c.in-Macro.body) c.in-Macro.is (tree.rolls-Macro c.in-Macro.kind c.in-Macro.of c.in-Macro.variable c.in-Macro.body) in
    record {
      code = code_as c.code_of_macro.result _ _ c.args.at (names_seen c.args.names.now) e c.code_of_macro.ensures.code;
      as_long = long_as c.code_of_macro.result _ _ e c.code_of_macro.ensures.as_long;
      values = values_as c.code_of_macro.result _ _ e c.code_of_macro.ensures.values;
    }

pub code_of-code_of_macro-requires : goal.code_of-code_of_macro-requires
code_of-code_of_macro-requires t c =
    let e = ap size (same_view c.args.tree.now (tree.Macro c.in-Macro.kind c.in-Macro.of c.in-Macro.variable c.in-Macro.body) (Tree-F.Macro c.in-Macro.kind c.in-Macro.of c.in-Macro.variable c.in-Macro.body) c.in-Macro.is (tree.rolls-Macro c.in-Macro.kind c.in-Macro.of c.in-Macro.variable c.in-Macro.body)) in
    (omega (arith, e), (omega (arith, e), c.requires.few))

pub code_of-returns-in-Null : goal.code_of-returns-in-Null
code_of-returns-in-Null t c =
    let e = same_view c.args.tree.now tree.Null Tree-F.Null c.in-Null.is tree.rolls-Null in
    record {
      code = code_as c.alone.result _ _ c.args.at (names_seen c.args.names.now) e c.alone.ensures.code;
      as_long = long_as c.alone.result _ _ e c.alone.ensures.as_long;
      values = values_as c.alone.result _ _ e (on_ok c.alone.result (Unit {0}) tt);
    }

pub code_of-returns-in-Bool : goal.code_of-returns-in-Bool
code_of-returns-in-Bool t c =
    let e = same_view c.args.tree.now (tree.Bool c.in-Bool.truth) (Tree-F.Bool c.in-Bool.truth) c.in-Bool.is (tree.rolls-Bool c.in-Bool.truth) in
    record {
      code = code_as c.alone-in-Bool.result _ _ c.args.at (names_seen c.args.names.now) e c.alone-in-Bool.ensures.code;
      as_long = long_as c.alone-in-Bool.result _ _ e c.alone-in-Bool.ensures.as_long;
      values = values_as c.alone-in-Bool.result _ _ e (on_ok c.alone-in-Bool.result (Unit {0}) tt);
    }

pub code_of-returns-in-Int-clause-as_long : goal.code_of-returns-in-Int-clause-as_long
code_of-returns-in-Int-clause-as_long t c =
    long_as c.alone-in-Int.result _ _ (same_view c.args.tree.now (tree.Int c.in-Int.number) (Tree-F.Int c.in-Int.number) c.in-Int.is (tree.rolls-Int c.in-Int.number)) c.alone-in-Int.ensures.as_long

pub code_of-returns-in-Uint-clause-code : goal.code_of-returns-in-Uint-clause-code
code_of-returns-in-Uint-clause-code t c =
    code_as c.alone-in-Uint.result _ _ c.args.at (names_seen c.args.names.now) (same_view c.args.tree.now (tree.Uint c.in-Uint.number) (Tree-F.Uint c.in-Uint.number) c.in-Uint.is (tree.rolls-Uint c.in-Uint.number)) c.alone-in-Uint.ensures.code

pub code_of-returns-in-Uint-clause-as_long : goal.code_of-returns-in-Uint-clause-as_long
code_of-returns-in-Uint-clause-as_long t c =
    long_as c.alone-in-Uint.result _ _ (same_view c.args.tree.now (tree.Uint c.in-Uint.number) (Tree-F.Uint c.in-Uint.number) c.in-Uint.is (tree.rolls-Uint c.in-Uint.number)) c.alone-in-Uint.ensures.as_long

-- how many instructions there are, where that of each part is known
long_by : (r : Result (Vec Instruction Global) AllocError) {n m : ℕ} → n ≡ m → IfOk r (λ v. length v.items ≡ n) → IfOk r (λ v. length v.items ≡ m)
long_by r {n} {m} same made = IfOk-weaker r (λ v. length v.items ≡ n) (λ v. length v.items ≡ m) (λ v is. is ∙ same) made

pub code_of_presence-returns-clause-as_long : goal.code_of_presence-returns-clause-as_long
code_of_presence-returns-clause-as_long t c = long_by c.followed.result (ap (λ (n : ℕ). n + 1) (c.in_ok-code.ensures.as_long ∙ ap (λ (t : Tree). size (view t)) c.deref.ensures)) c.followed.ensures.as_long

pub code_of_unary-returns-clause-as_long : goal.code_of_unary-returns-clause-as_long
code_of_unary-returns-clause-as_long t c = long_by c.followed.result (ap (λ (n : ℕ). n + 1) (c.in_ok-code.ensures.as_long ∙ ap (λ (t : Tree). size (view t)) c.deref.ensures)) c.followed.ensures.as_long

pub code_of_unary-returns-clause-values : goal.code_of_unary-returns-clause-values
code_of_unary-returns-clause-values t c = on_ok c.followed.result (HasValues (expr.Unary c.args.prefix (view c.args.of.now.value))) (subst (λ (t : Tree). HasValues (view t)) c.deref.ensures c.in_ok-code.ensures.values)

pub code_of_list-returns-clause-as_long : goal.code_of_list-returns-clause-as_long
code_of_list-returns-clause-as_long t c = long_by c.followed.result (ap (λ (n : ℕ). n + 1) (c.in_ok-code.ensures.as_long)) c.followed.ensures.as_long

pub code_of_list-returns-clause-values : goal.code_of_list-returns-clause-values
code_of_list-returns-clause-values t c = on_ok c.followed.result (HaveValues (views c.args.items.now.items)) (c.in_ok-code.ensures.values)

pub code_of_map-returns-clause-as_long : goal.code_of_map-returns-clause-as_long
code_of_map-returns-clause-as_long t c = long_by c.followed.result (ap (λ (n : ℕ). n + 1) (c.in_ok-code.ensures.as_long)) c.followed.ensures.as_long

pub code_of_map-returns-clause-values : goal.code_of_map-returns-clause-values
code_of_map-returns-clause-values t c = on_ok c.followed.result (PairsHaveValues (pair_views c.args.entries.now.items)) (c.in_ok-code.ensures.values)

pub code_of_call-returns-clause-as_long : goal.code_of_call-returns-clause-as_long
code_of_call-returns-clause-as_long t c = long_by c.followed.result (ap (λ (n : ℕ). n + 1) (c.in_ok-code.ensures.as_long)) c.followed.ensures.as_long

pub code_of_call-returns-clause-values : goal.code_of_call-returns-clause-values
code_of_call-returns-clause-values t c = on_ok c.followed.result (HaveValues (views c.args.arguments.now.items)) (c.in_ok-code.ensures.values)

pub code_of_index-returns-clause-as_long : goal.code_of_index-returns-clause-as_long
code_of_index-returns-clause-as_long t c = long_by c.gathered.result (omega (arith, c.in_ok-operand.ensures.as_long ∙ ap (λ (t : Tree). size (view t)) c.deref.ensures, c.in_ok-index.ensures.as_long ∙ ap (λ (t : Tree). size (view t)) c.deref-2.ensures)) c.gathered.ensures.as_long

pub code_of_index-returns-clause-values : goal.code_of_index-returns-clause-values
code_of_index-returns-clause-values t c = on_ok c.gathered.result (HasValues (expr.Index (view c.args.of.now.value) (view c.args.index.now.value))) (subst (λ (t : Tree). HasValues (view t)) c.deref.ensures c.in_ok-operand.ensures.values, subst (λ (t : Tree). HasValues (view t)) c.deref-2.ensures c.in_ok-index.ensures.values)

pub code_of_method-returns-clause-as_long : goal.code_of_method-returns-clause-as_long
code_of_method-returns-clause-as_long t c = long_by c.gathered.result (omega (arith, c.in_ok-operand.ensures.as_long ∙ ap (λ (t : Tree). size (view t)) c.deref.ensures, c.in_ok-rest.ensures.as_long)) c.gathered.ensures.as_long

pub code_of_method-returns-clause-values : goal.code_of_method-returns-clause-values
code_of_method-returns-clause-values t c = on_ok c.gathered.result (HasValues (expr.Method (view c.args.of.now.value) (string_bytes c.args.name.now) (views c.args.arguments.now.items))) (subst (λ (t : Tree). HasValues (view t)) c.deref.ensures c.in_ok-operand.ensures.values, c.in_ok-rest.ensures.values)

pub code_of_infix-returns-clause-as_long : goal.code_of_infix-returns-clause-as_long
code_of_infix-returns-clause-as_long t c = long_by c.infix_code.result (omega (arith, c.in_ok-first.ensures.as_long ∙ ap (λ (t : Tree). size (view t)) c.deref.ensures, c.in_ok-second.ensures.as_long ∙ ap (λ (t : Tree). size (view t)) c.deref-2.ensures)) c.infix_code.ensures.as_long

pub code_of_infix-returns-clause-values : goal.code_of_infix-returns-clause-values
code_of_infix-returns-clause-values t c = on_ok c.infix_code.result (HasValues (expr.Infix c.args.operator (view c.args.left.now.value) (view c.args.right.now.value))) (subst (λ (t : Tree). HasValues (view t)) c.deref.ensures c.in_ok-first.ensures.values, subst (λ (t : Tree). HasValues (view t)) c.deref-2.ensures c.in_ok-second.ensures.values)

pub code_of_conditional-returns-clause-as_long : goal.code_of_conditional-returns-clause-as_long
code_of_conditional-returns-clause-as_long t c = long_by c.conditional_code.result (omega (arith, c.in_ok-start.ensures.as_long ∙ ap (λ (t : Tree). size (view t)) c.deref.ensures, c.in_ok-middle.ensures.as_long ∙ ap (λ (t : Tree). size (view t)) c.deref-2.ensures, c.in_ok-rest.ensures.as_long ∙ ap (λ (t : Tree). size (view t)) c.deref-3.ensures)) c.conditional_code.ensures.as_long

pub code_of_conditional-returns-clause-values : goal.code_of_conditional-returns-clause-values
code_of_conditional-returns-clause-values t c = on_ok c.conditional_code.result (HasValues (expr.Conditional (view c.args.test.now.value) (view c.args.first.now.value) (view c.args.second.now.value))) (subst (λ (t : Tree). HasValues (view t)) c.deref.ensures c.in_ok-start.ensures.values, subst (λ (t : Tree). HasValues (view t)) c.deref-2.ensures c.in_ok-middle.ensures.values, subst (λ (t : Tree). HasValues (view t)) c.deref-3.ensures c.in_ok-rest.ensures.values)

pub code_of_macro-returns-clause-as_long : goal.code_of_macro-returns-clause-as_long
code_of_macro-returns-clause-as_long t c = long_by c.macro_code.result (omega (arith, c.in_ok-operand.ensures.as_long ∙ ap (λ (t : Tree). size (view t)) c.deref.ensures, c.in_ok-inside.ensures.as_long)) c.macro_code.ensures.as_long

pub code_of_macro-returns-clause-values : goal.code_of_macro-returns-clause-values
code_of_macro-returns-clause-values t c = on_ok c.macro_code.result (HasValues (expr.Over c.args.kind (view c.args.of.now.value) (string_bytes c.args.variable.now) (view c.args.body.now.value))) (subst (λ (t : Tree). HasValues (view t)) c.deref.ensures c.in_ok-operand.ensures.values, c.in_ok-inside.ensures.values)

pub code_of_pair-returns-clause-as_long : goal.code_of_pair-returns-clause-as_long
code_of_pair-returns-clause-as_long t c = long_by c.joined.result (omega (arith, c.in_ok-key.ensures.as_long, c.in_ok-value.ensures.as_long)) c.joined.ensures.as_long

pub code_of_pair-returns-clause-values : goal.code_of_pair-returns-clause-values
code_of_pair-returns-clause-values t c = on_ok c.joined.result (HasValues (view c.args.entry.now.0) × HasValues (view c.args.entry.now.1)) (c.in_ok-key.ensures.values, c.in_ok-value.ensures.values)

pub code_of_unary-returns-clause-code : goal.code_of_unary-returns-clause-code
code_of_unary-returns-clause-code t c =
    let d = names_seen c.args.names.now in
    let at = c.args.at in
    let operand = placed c.in_ok-code.code.items c.deref.result.now c.args.of.now.value at at d c.in_ok-code.ensures.code c.deref.ensures refl in
    followed_by c.followed.result operand refl c.followed.ensures.code

pub code_of_call-returns-clause-code : goal.code_of_call-returns-clause-code
code_of_call-returns-clause-code t c =
    followed_by c.followed.result c.in_ok-code.ensures.code (ap TakeCall (c.function_named.ensures ∙ ap function_named c.deref.ensures)) c.followed.ensures.code

-- each call is of a smaller tree, whose instructions have room

pub code_of_presence-code_of-requires : goal.code_of_presence-code_of-requires
code_of_presence-code_of-requires t c =
    let e = ap (λ (t : Tree). size (view t)) c.deref.ensures in
    (omega (arith, e), (omega (arith, e), c.requires.few))

pub code_of_unary-code_of-requires : goal.code_of_unary-code_of-requires
code_of_unary-code_of-requires t c =
    let e = ap (λ (t : Tree). size (view t)) c.deref.ensures in
    (omega (arith, e), (omega (arith, e), c.requires.few))

pub code_of_index-code_of-requires : goal.code_of_index-code_of-requires
code_of_index-code_of-requires t c =
    let e = ap (λ (t : Tree). size (view t)) c.deref.ensures in
    (omega (arith, e), (omega (arith, e), c.requires.few))

pub code_of_infix-code_of-requires : goal.code_of_infix-code_of-requires
code_of_infix-code_of-requires t c =
    let e = ap (λ (t : Tree). size (view t)) c.deref.ensures in
    (omega (arith, e), (omega (arith, e), c.requires.few))

pub code_of_conditional-code_of-requires : goal.code_of_conditional-code_of-requires
code_of_conditional-code_of-requires t c =
    let e = ap (λ (t : Tree). size (view t)) c.deref.ensures in
    (omega (arith, e), (omega (arith, e), c.requires.few))

pub code_of_method-code_of-requires : goal.code_of_method-code_of-requires
code_of_method-code_of-requires t c =
    let e = ap (λ (t : Tree). size (view t)) c.deref.ensures in
    (omega (arith, e), (omega (arith, e), c.requires.few))

pub code_of_macro-code_of-requires : goal.code_of_macro-code_of-requires
code_of_macro-code_of-requires t c =
    let e = ap (λ (t : Tree). size (view t)) c.deref.ensures in
    (omega (arith, e), (omega (arith, e), c.requires.few))

pub code_of_list-code_of_items-requires : goal.code_of_list-code_of_items-requires
code_of_list-code_of_items-requires t c =
    (omega arith, (omega arith, c.requires.few))

pub code_of_map-code_of_pairs-requires : goal.code_of_map-code_of_pairs-requires
code_of_map-code_of_pairs-requires t c =
    (omega arith, (omega arith, c.requires.few))

pub code_of_call-code_of_items-requires : goal.code_of_call-code_of_items-requires
code_of_call-code_of_items-requires t c =
    (omega arith, (omega arith, c.requires.few))

pub code_of_pair-code_of-requires : goal.code_of_pair-code_of-requires
code_of_pair-code_of-requires t c =
    (omega arith, (omega arith, c.requires.few))

pub code_of_pair-code_of-requires-2 : goal.code_of_pair-code_of-requires-2
code_of_pair-code_of-requires-2 t c = (omega arith, (omega (arith, c.after_tree-value_at.ensures), c.requires.few))

pub code_of_index-after-index_at-requires : goal.code_of_index-after-index_at-requires
code_of_index-after-index_at-requires t c = record {
  whole = c.in_ok-operand.ensures.as_long ∙ ap (λ (t : Tree). size (view t)) c.deref.ensures;
  room = omega arith;
}

pub code_of_infix-after-requires : goal.code_of_infix-after-requires
code_of_infix-after-requires t c = record {
  whole = c.in_ok-first.ensures.as_long ∙ ap (λ (t : Tree). size (view t)) c.deref.ensures;
  room = omega arith;
}

pub code_of_infix-after-end-requires : goal.code_of_infix-after-end-requires
code_of_infix-after-end-requires t c = record {
  whole = c.in_ok-second.ensures.as_long ∙ ap (λ (t : Tree). size (view t)) c.deref-2.ensures;
  room = omega (arith, c.after.ensures, c.steps_between.ensures);
}

pub code_of_conditional-after-first_at-requires : goal.code_of_conditional-after-first_at-requires
code_of_conditional-after-first_at-requires t c = record {
  whole = c.in_ok-start.ensures.as_long ∙ ap (λ (t : Tree). size (view t)) c.deref.ensures;
  room = omega arith;
}

pub code_of_conditional-after-second_at-requires : goal.code_of_conditional-after-second_at-requires
code_of_conditional-after-second_at-requires t c = record {
  whole = c.in_ok-middle.ensures.as_long ∙ ap (λ (t : Tree). size (view t)) c.deref-2.ensures;
  room = omega (arith, c.after-first_at.ensures);
}

pub code_of_conditional-after-end-requires : goal.code_of_conditional-after-end-requires
code_of_conditional-after-end-requires t c = record {
  whole = c.in_ok-rest.ensures.as_long ∙ ap (λ (t : Tree). size (view t)) c.deref-3.ensures;
  room = omega (arith, c.after-first_at.ensures, c.after-second_at.ensures);
}

pub code_of_method-after-arguments_at-requires : goal.code_of_method-after-arguments_at-requires
code_of_method-after-arguments_at-requires t c = record {
  whole = c.in_ok-operand.ensures.as_long ∙ ap (λ (t : Tree). size (view t)) c.deref.ensures;
  room = omega arith;
}

pub code_of_macro-after-body_at-requires : goal.code_of_macro-after-body_at-requires
code_of_macro-after-body_at-requires t c = record {
  whole = c.in_ok-operand.ensures.as_long ∙ ap (λ (t : Tree). size (view t)) c.deref.ensures;
  room = omega arith;
}

pub code_of_macro-after-end-requires : goal.code_of_macro-after-end-requires
code_of_macro-after-end-requires t c = record { whole = c.in_ok-inside.ensures.as_long; room = omega (arith, c.after-body_at.ensures) }

pub code_of_pair-after_tree-value_at-requires : goal.code_of_pair-after_tree-value_at-requires
code_of_pair-after_tree-value_at-requires t c = record { whole = c.in_ok-key.ensures.as_long; room = omega arith }
