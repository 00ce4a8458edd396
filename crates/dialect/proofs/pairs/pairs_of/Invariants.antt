use Rattle.std.proofs.Common.{◌≡◌, ◌++◌, map}
use Rattle.form_urlencoded.specs.Parse.{owned_pairs_left}
use Rattle.routes.specs.Query.{decoded, pairs_of}
use Rattle.dialect.proofs.pairs.pairs_of.Given as goal

abbrev pub invariant-loop-pair : goal.invariant-loop-pair
invariant-loop-pair l = l.pairs.items ++ map decoded (owned_pairs_left l.pair-iterator) ≡ pairs_of l.query
