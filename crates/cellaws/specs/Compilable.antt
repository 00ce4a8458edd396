-- Which trees are compiled: each that was read, and that has a type.
use Rattle.std.specs.Prelude.{List, ℕ, IsUtf8}
use Rattle.celtree.specs.Tree.{Expr}
use Rattle.celread.specs.Reading.{IsReadAs}
use Rattle.plan.specs.Seen.{IsSmall}

-- A tree that a text is read as is as small as `plan::compile` asks.
abbrev pub ReadTreesAreSmall : Type 0
ReadTreesAreSmall = (text : List ℕ) (e : Expr) → IsUtf8 text → IsReadAs text e → IsSmall e
