use Rattle.std.proofs.Common.{ℕ, ◌+◌, ◌≤◌, List, IsUtf8, arith}
use Rattle.celtree.specs.Tree.{Expr}
use Rattle.celread.specs.Reading.{IsReadAs}
use Rattle.celread.proofs.Sizes.{read_size}
use Rattle.plan.specs.Seen.{IsSmall}
use Rattle.cellaws.proofs.laws.read_trees_are_small.Goals as goal

small : (text : List ℕ) (e : Expr) → IsUtf8 text → IsReadAs text e → IsSmall e
small text e utf8 read = let le = read_size text e utf8 read in record { short = omega (arith, read.short); nested = read.parsed.nested }

pub returns : goal.returns
returns c = small
