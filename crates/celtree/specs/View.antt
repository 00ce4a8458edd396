-- The pure tree that the program's tree stands for.
use Rattle.std.specs.Prelude.{List, [], ◌∷◌, map, string_bytes}
use Rattle.celtree.specs.declared.tree.Tree.{Tree, fold-Tree}
use Rattle.celtree.specs.declared.tree.Tree.TheOpen.{Tree-F}
use Rattle.celtree.specs.Tree as expr
use Rattle.celtree.specs.Tree.{Expr, Exprs, Pairs, no_items, item, no_pairs, pair}

abbrev pub items_of : List Expr → Exprs
items_of [] = no_items
items_of (t ∷ ts) = item t (items_of ts)

abbrev pub pairs_of : List (Expr × Expr) → Pairs
pairs_of [] = no_pairs
pairs_of (p ∷ ps) = pair p.0 p.1 (pairs_of ps)

-- one level, with each tree inside already seen
abbrev pub view_step : Tree-F Expr → Expr
view_step Tree-F.Null = expr.Null
view_step (Tree-F.Bool b) = expr.Truth b
view_step (Tree-F.Int n) = expr.Int n
view_step (Tree-F.Uint n) = expr.Uint n
view_step (Tree-F.Text s) = expr.Text (string_bytes s)
view_step (Tree-F.Name s) = expr.Name (string_bytes s)
view_step (Tree-F.Field e s) = expr.Field e.value (string_bytes s)
view_step (Tree-F.Has e s) = expr.Has e.value (string_bytes s)
view_step (Tree-F.Index e x) = expr.Index e.value x.value
view_step (Tree-F.List v) = expr.Sequence (items_of v.items)
view_step (Tree-F.Map v) = expr.Mapping (pairs_of v.items)
view_step (Tree-F.Unary p e) = expr.Unary p e.value
view_step (Tree-F.Infix o a b) = expr.Infix o a.value b.value
view_step (Tree-F.Conditional c a b) = expr.Conditional c.value a.value b.value
view_step (Tree-F.Call f v) = expr.Call (string_bytes f) (items_of v.items)
view_step (Tree-F.Method e f v) = expr.Method e.value (string_bytes f) (items_of v.items)
view_step (Tree-F.Macro m e x b) = expr.Over m e.value (string_bytes x) b.value

abbrev pub view : Tree → Expr
view = fold-Tree Expr view_step

abbrev pub views : List Tree → Exprs
views ts = items_of (map view ts)

abbrev pub pair_views : List (Tree × Tree) → Pairs
pair_views ps = pairs_of (map (λ p. (view p.0, view p.1)) ps)
