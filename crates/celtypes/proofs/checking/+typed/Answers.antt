use Rattle.std.proofs.Common.{◌≡◌, ◌∙◌, ◌+◌, List, [], ◌∷◌, ◌++◌, Option, Some, None, option_map, option_and_then, drop, get_or, length, string_bytes, refl, sym, ap, subst, arith, Result}
use Rattle.std.specs.Result.{IfOk}
use Rattle.std.specs.declared.alloc.AllocError.{AllocError}
use Rattle.std.proofs.lemmas.List.{at_drop_more}
use Rattle.celtree.specs.declared.tree.Tree.{Tree, roll-Tree, map-Tree, fold-roll-Tree}
use Rattle.celtree.specs.declared.tree.Tree.TheOpen.{Tree-F}
use Rattle.celtree.specs.declared.tree.Tree.TheVariants as tree
use Rattle.celtree.specs.Tree.{Expr}
use Rattle.celtree.specs.View.{view, views, pair_views, view_step}
use Rattle.celtypes.specs.Types as type
use Rattle.celtypes.specs.Types.{ValueType}
use Rattle.celtypes.specs.Typing.{Scope}
use Rattle.celtypes.specs.declared.types.CelType.{CelType, fold-roll-CelType}
use Rattle.celtypes.specs.declared.types.CelType.TheOpen.{CelType-F}
use Rattle.celtypes.specs.declared.types.CelType.TheVariants as cel
use Rattle.celtypes.specs.Computed.{name_type, index_type, infix_type, method_type, type_of, types_of, key_types_of, value_types_of}
use Rattle.celtypes.specs.Seen.{type_step, type_seen, types_seen, scope_seen}
use Rattle.celtypes.proofs.checking.+typed.Goals as goal

abbrev types_and : List CelType → Option (List ValueType) → Option (List ValueType)
types_and types rest = option_map (λ us. types_seen types ++ us) rest

map_more : (types : List CelType) (found : CelType) (us : List ValueType)
    → types_seen (types ++ found ∷ []) ++ us ≡ types_seen types ++ type_seen found ∷ us
map_more [] found us = refl
map_more (t ∷ types) found us = ap (λ vs. type_seen t ∷ vs) (map_more types found us)

one_more : (before after : List CelType) (found : CelType) (first : Option ValueType) (rest : Option (List ValueType))
    → Some (type_seen found) ≡ first → after ≡ before ++ found ∷ []
    → types_and before (option_and_then (λ t. option_map (λ ts. t ∷ ts) rest) first) ≡ types_and after rest
one_more before after found first None is e = ap (λ o. types_and before (option_and_then (λ t. option_map (λ ts. t ∷ ts) None) o)) (sym is)
one_more before after found first (Some us) is e =
    ap (λ o. types_and before (option_and_then (λ t. option_map (λ ts. t ∷ ts) (Some us)) o)) (sym is)
    ∙ ap Some (sym (map_more before found us)) ∙ ap (λ vs. types_and vs (Some us)) (sym e)

no_more : (before : List CelType) (first : Option ValueType) (rest : Option (List ValueType)) → None ≡ first
    → types_and before (option_and_then (λ t. option_map (λ ts. t ∷ ts) rest) first) ≡ None
no_more before first rest is = ap (λ o. types_and before (option_and_then (λ t. option_map (λ ts. t ∷ ts) rest) o)) (sym is)

pub typed_items-returns-in-None : goal.typed_items-returns-in-None
typed_items-returns-in-None t c =
    let xs = c.args.items.now.items in
    let i = c.loop-item.item-index in
    let g = scope_seen c.args.scope.now in
    let types = c.loop-item.types.items in
    let l = ap (λ (ys : List Tree). length ys) c.deref-item-items.ensures.value in
    let x = c.item-item.result in
    let y = get_or xs i x in
    let rest = types_of (views (drop (i + 1) xs)) g in
    let here : x ≡ y = c.item-item.is ∙ ap (λ ys. get_or ys i x) c.deref-item-items.ensures.value in
    let first = c.in_ok-found.ensures ∙ ap (λ z. type_of (view z) g) here in
    let before = c.loop-item.invariant ∙ at_drop_more (λ ys. types_and types (types_of (views ys) g)) xs i x (omega (arith, c.loop-item-test.true, l)) in
    sym (before ∙ no_more types (type_of (view y) g) rest (ap (λ o. option_map type_seen o) (sym c.in-None.is) ∙ first))

pub typed_items-loop-item-preserved : goal.typed_items-loop-item-preserved
typed_items-loop-item-preserved t c =
    let xs = c.args.items.now.items in
    let i = c.loop-item.item-index in
    let g = scope_seen c.args.scope.now in
    let types = c.loop-item.types.items in
    let l = ap (λ (ys : List Tree). length ys) c.deref-item-items.ensures.value in
    let x = c.item-item.result in
    let y = get_or xs i x in
    let rest = types_of (views (drop (i + 1) xs)) g in
    let here : x ≡ y = c.item-item.is ∙ ap (λ ys. get_or ys i x) c.deref-item-items.ensures.value in
    let first = c.in_ok-found.ensures ∙ ap (λ z. type_of (view z) g) here in
    let before = c.loop-item.invariant ∙ at_drop_more (λ ys. types_and types (types_of (views ys) g)) xs i x (omega (arith, c.loop-item-test.true, l)) in
    before
    ∙ one_more types c.push.new.self.items c.in-Some.found (type_of (view y) g) rest
    (ap (λ o. option_map type_seen o) (sym c.in-Some.is) ∙ first) c.in_ok-push-in-Some.ensures.items

pub typed_keys-returns-in-None : goal.typed_keys-returns-in-None
typed_keys-returns-in-None t c =
    let xs = c.args.entries.now.items in
    let i = c.loop-key.key-index in
    let g = scope_seen c.args.scope.now in
    let types = c.loop-key.types.items in
    let l = ap (λ (ys : List (Tree × Tree)). length ys) c.deref-key-items.ensures.value in
    let x = c.loop-key-item.result in
    let y = get_or xs i x in
    let rest = key_types_of (pair_views (drop (i + 1) xs)) g in
    let here : x ≡ y = c.loop-key-item.is ∙ ap (λ ys. get_or ys i x) c.deref-key-items.ensures.value in
    let first = c.in_ok-found.ensures ∙ ap (λ z. type_of (view z.0) g) here in
    let before = c.loop-key.invariant ∙ at_drop_more (λ ys. types_and types (key_types_of (pair_views ys) g)) xs i x (omega (arith, c.loop-key-test.true, l)) in
    sym (before ∙ no_more types (type_of (view y.0) g) rest (ap (λ o. option_map type_seen o) (sym c.in-None.is) ∙ first))

pub typed_keys-loop-key-preserved : goal.typed_keys-loop-key-preserved
typed_keys-loop-key-preserved t c =
    let xs = c.args.entries.now.items in
    let i = c.loop-key.key-index in
    let g = scope_seen c.args.scope.now in
    let types = c.loop-key.types.items in
    let l = ap (λ (ys : List (Tree × Tree)). length ys) c.deref-key-items.ensures.value in
    let x = c.loop-key-item.result in
    let y = get_or xs i x in
    let rest = key_types_of (pair_views (drop (i + 1) xs)) g in
    let here : x ≡ y = c.loop-key-item.is ∙ ap (λ ys. get_or ys i x) c.deref-key-items.ensures.value in
    let first = c.in_ok-found.ensures ∙ ap (λ z. type_of (view z.0) g) here in
    let before = c.loop-key.invariant ∙ at_drop_more (λ ys. types_and types (key_types_of (pair_views ys) g)) xs i x (omega (arith, c.loop-key-test.true, l)) in
    before
    ∙ one_more types c.push.new.self.items c.in-Some.found (type_of (view y.0) g) rest
    (ap (λ o. option_map type_seen o) (sym c.in-Some.is) ∙ first) c.in_ok-push-in-Some.ensures.items

pub typed_values-returns-in-None : goal.typed_values-returns-in-None
typed_values-returns-in-None t c =
    let xs = c.args.entries.now.items in
    let i = c.loop-value.value-index in
    let g = scope_seen c.args.scope.now in
    let types = c.loop-value.types.items in
    let l = ap (λ (ys : List (Tree × Tree)). length ys) c.deref-value-items.ensures.value in
    let x = c.loop-value-item.result in
    let y = get_or xs i x in
    let rest = value_types_of (pair_views (drop (i + 1) xs)) g in
    let here : x ≡ y = c.loop-value-item.is ∙ ap (λ ys. get_or ys i x) c.deref-value-items.ensures.value in
    let first = c.in_ok-found.ensures ∙ ap (λ z. type_of (view z.1) g) here in
    let before = c.loop-value.invariant ∙ at_drop_more (λ ys. types_and types (value_types_of (pair_views ys) g)) xs i x (omega (arith, c.loop-value-test.true, l)) in
    sym (before ∙ no_more types (type_of (view y.1) g) rest (ap (λ o. option_map type_seen o) (sym c.in-None.is) ∙ first))

pub typed_values-loop-value-preserved : goal.typed_values-loop-value-preserved
typed_values-loop-value-preserved t c =
    let xs = c.args.entries.now.items in
    let i = c.loop-value.value-index in
    let g = scope_seen c.args.scope.now in
    let types = c.loop-value.types.items in
    let l = ap (λ (ys : List (Tree × Tree)). length ys) c.deref-value-items.ensures.value in
    let x = c.loop-value-item.result in
    let y = get_or xs i x in
    let rest = value_types_of (pair_views (drop (i + 1) xs)) g in
    let here : x ≡ y = c.loop-value-item.is ∙ ap (λ ys. get_or ys i x) c.deref-value-items.ensures.value in
    let first = c.in_ok-found.ensures ∙ ap (λ z. type_of (view z.1) g) here in
    let before = c.loop-value.invariant ∙ at_drop_more (λ ys. types_and types (value_types_of (pair_views ys) g)) xs i x (omega (arith, c.loop-value-test.true, l)) in
    before
    ∙ one_more types c.push.new.self.items c.in-Some.found (type_of (view y.1) g) rest
    (ap (λ o. option_map type_seen o) (sym c.in-Some.is) ∙ first) c.in_ok-push-in-Some.ensures.items

-- a call gives this type, if it does not fail
abbrev Gives : Result (Option CelType) AllocError → Option ValueType → Type 0
Gives r o = IfOk r (λ found. option_map type_seen found ≡ o)

gives_as : (tree of : Tree) (layer : Tree-F Tree) (g : Scope) (r : Result (Option CelType) AllocError) → tree ≡ of → roll-Tree layer ≡ of
    → Gives r (type_of (view_step (map-Tree Tree Expr view layer)) g) → Gives r (type_of (view tree) g)
gives_as tree of layer g r is rolls gives =
    subst (λ e. Gives r (type_of e g)) (sym (ap view (is ∙ sym rolls) ∙ fold-roll-Tree Expr view_step layer)) gives

gives_by : (f : Option ValueType → Option ValueType) (a b : Option ValueType) (r : Result (Option CelType) AllocError) → a ≡ b → Gives r (f a)
    → Gives r (f b)
gives_by f a b r is gives = subst (λ o. Gives r (f o)) is gives

-- a literal's type
literal : (tree of : Tree) (layer : Tree-F Tree) (g : Scope) (found : CelType) (t : ValueType) → tree ≡ of → roll-Tree layer ≡ of → type_seen found ≡ t
    → Some t ≡ type_of (view_step (map-Tree Tree Expr view layer)) g → Some (type_seen found) ≡ type_of (view tree) g
literal tree of layer g found t is rolls seen gives =
    ap Some seen ∙ gives ∙ ap (λ e. type_of e g) (sym (ap view (is ∙ sym rolls) ∙ fold-roll-Tree Expr view_step layer))

pub typed_variant-returns-in-Null : goal.typed_variant-returns-in-Null
typed_variant-returns-in-Null t c =
    literal c.args.tree.now _ Tree-F.Null (scope_seen c.args.scope.now) cel.Null type.null c.in-Null.is tree.rolls-Null
    (ap type_seen (sym cel.rolls-Null) ∙ fold-roll-CelType ValueType type_step CelType-F.Null) refl

pub typed_variant-returns-in-Bool : goal.typed_variant-returns-in-Bool
typed_variant-returns-in-Bool t c =
    literal c.args.tree.now _ (Tree-F.Bool c.in-Bool.field-0) (scope_seen c.args.scope.now) cel.Bool type.bool c.in-Bool.is (tree.rolls-Bool c.in-Bool.field-0)
    (ap type_seen (sym cel.rolls-Bool) ∙ fold-roll-CelType ValueType type_step CelType-F.Bool) refl

pub typed_variant-returns-in-Int : goal.typed_variant-returns-in-Int
typed_variant-returns-in-Int t c =
    literal c.args.tree.now _ (Tree-F.Int c.in-Int.field-0) (scope_seen c.args.scope.now) cel.Int type.int c.in-Int.is (tree.rolls-Int c.in-Int.field-0)
    (ap type_seen (sym cel.rolls-Int) ∙ fold-roll-CelType ValueType type_step CelType-F.Int) refl

pub typed_variant-returns-in-Uint : goal.typed_variant-returns-in-Uint
typed_variant-returns-in-Uint t c =
    literal c.args.tree.now _ (Tree-F.Uint c.in-Uint.field-0) (scope_seen c.args.scope.now) cel.Uint type.uint c.in-Uint.is (tree.rolls-Uint c.in-Uint.field-0)
    (ap type_seen (sym cel.rolls-Uint) ∙ fold-roll-CelType ValueType type_step CelType-F.Uint) refl

pub typed_variant-returns-in-Text : goal.typed_variant-returns-in-Text
typed_variant-returns-in-Text t c =
    literal c.args.tree.now _ (Tree-F.Text c.in-Text.field-0) (scope_seen c.args.scope.now) cel.Text type.string c.in-Text.is (tree.rolls-Text c.in-Text.field-0)
    (ap type_seen (sym cel.rolls-Text) ∙ fold-roll-CelType ValueType type_step CelType-F.Text) refl

pub typed-returns-in-Field : goal.typed-returns-in-Field
typed-returns-in-Field t c =
    gives_as c.args.tree.now _ (Tree-F.Field c.in-Field.of c.in-Field.name) (scope_seen c.args.scope.now) c.typed_field.result c.in-Field.is (tree.rolls-Field c.in-Field.of c.in-Field.name)
    c.typed_field.ensures

pub typed-returns-in_ok-left-in-Infix : goal.typed-returns-in_ok-left-in-Infix
typed-returns-in_ok-left-in-Infix t c =
    let g = scope_seen c.args.scope.now in
    let first = c.in_ok-left-in-Infix.ensures ∙ ap (λ z. type_of (view z) g) c.deref-in-Infix.ensures in
    gives_as c.args.tree.now _ (Tree-F.Infix c.in-Infix.operator c.in-Infix.left c.in-Infix.right) g c.typed_infix.result c.in-Infix.is (tree.rolls-Infix c.in-Infix.operator c.in-Infix.left c.in-Infix.right)
    (gives_by (λ o. option_and_then (λ t. option_and_then (infix_type c.in-Infix.operator t) (type_of (view c.in-Infix.right.value) g)) o) _
    (type_of (view c.in-Infix.left.value) g) c.typed_infix.result first c.typed_infix.ensures)

pub typed_variant-returns-in-Name : goal.typed_variant-returns-in-Name
typed_variant-returns-in-Name t c =
    let g = scope_seen c.args.scope.now in
    gives_as c.args.tree.now _ (Tree-F.Name c.in-Name.name) g c.name_type.result c.in-Name.is (tree.rolls-Name c.in-Name.name)
    (subst (Gives c.name_type.result) (ap (λ x. name_type x g) c.deref.ensures) c.name_type.ensures)

pub typed_variant-returns-in-Field : goal.typed_variant-returns-in-Field
typed_variant-returns-in-Field t c =
    gives_as c.args.tree.now _ (Tree-F.Field c.in-Field.of c.in-Field.name) (scope_seen c.args.scope.now) c.typed_field.result c.in-Field.is (tree.rolls-Field c.in-Field.of c.in-Field.name)
    c.typed_field.ensures

pub typed_variant-returns-in-Map : goal.typed_variant-returns-in-Map
typed_variant-returns-in-Map t c =
    gives_as c.args.tree.now _ (Tree-F.Map c.in-Map.entries) (scope_seen c.args.scope.now) c.typed_map.result c.in-Map.is (tree.rolls-Map c.in-Map.entries)
    c.typed_map.ensures

pub typed_variant-returns-in_ok-of-in-Index : goal.typed_variant-returns-in_ok-of-in-Index
typed_variant-returns-in_ok-of-in-Index t c =
    let g = scope_seen c.args.scope.now in
    let first = c.in_ok-of-in-Index.ensures ∙ ap (λ z. type_of (view z) g) c.deref-in-Index.ensures in
    gives_as c.args.tree.now _ (Tree-F.Index c.in-Index.of c.in-Index.index) g c.typed_index.result c.in-Index.is (tree.rolls-Index c.in-Index.of c.in-Index.index)
    (gives_by (λ o. option_and_then (λ t. option_and_then (index_type t) (type_of (view c.in-Index.index.value) g)) o) _
    (type_of (view c.in-Index.of.value) g) c.typed_index.result first c.typed_index.ensures)

pub typed_variant-returns-in_ok-left-in-Infix : goal.typed_variant-returns-in_ok-left-in-Infix
typed_variant-returns-in_ok-left-in-Infix t c =
    let g = scope_seen c.args.scope.now in
    let first = c.in_ok-left-in-Infix.ensures ∙ ap (λ z. type_of (view z) g) c.deref-in-Infix.ensures in
    gives_as c.args.tree.now _ (Tree-F.Infix c.in-Infix.operator c.in-Infix.left c.in-Infix.right) g c.typed_infix.result c.in-Infix.is (tree.rolls-Infix c.in-Infix.operator c.in-Infix.left c.in-Infix.right)
    (gives_by (λ o. option_and_then (λ t. option_and_then (infix_type c.in-Infix.operator t) (type_of (view c.in-Infix.right.value) g)) o) _
    (type_of (view c.in-Infix.left.value) g) c.typed_infix.result first c.typed_infix.ensures)

pub typed_variant-returns-in_ok-of-in-Method : goal.typed_variant-returns-in_ok-of-in-Method
typed_variant-returns-in_ok-of-in-Method t c =
    let g = scope_seen c.args.scope.now in
    let first = c.in_ok-of-in-Method.ensures ∙ ap (λ z. type_of (view z) g) c.deref-in-Method.ensures in
    gives_as c.args.tree.now _ (Tree-F.Method c.in-Method.of c.in-Method.name c.in-Method.arguments) g c.typed_method.result c.in-Method.is (tree.rolls-Method c.in-Method.of c.in-Method.name c.in-Method.arguments)
    (gives_by (λ o. option_and_then (λ t. option_and_then (method_type (string_bytes c.in-Method.name) t) (types_of (views c.in-Method.arguments.items) g)) o) _
    (type_of (view c.in-Method.of.value) g) c.typed_method.result first c.typed_method.ensures)
