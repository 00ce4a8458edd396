-- The views of the trees of an entry.
use Rattle.celtree.specs.declared.tree.Tree.{Tree}
use Rattle.celtree.specs.Tree.{Expr}
use Rattle.celtree.specs.View.{view}

abbrev pub pair_view : Tree × Tree → Expr × Expr
pair_view p = (view p.0, view p.1)
