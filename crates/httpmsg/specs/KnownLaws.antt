-- The laws of an input and an output over a reader or a writer of std.
use Rattle.std.specs.Prelude.{List, [], ◌++◌, ℕ, Option}
use Rattle.std.specs.Io.KnownBytes.{Consumes, Appends}
use Rattle.std.proofs.KnownBytes.{Consumes-nil, Consumes-trans, Appends-nil, Appends-trans}

pub consumes_none : (a : Option (List ℕ)) → Consumes a a []
consumes_none a = Consumes-nil a

pub consumes_then : (a b c : Option (List ℕ)) (front back : List ℕ) → Consumes a b front → Consumes b c back → Consumes a c (front ++ back)
consumes_then a b c front back first second = Consumes-trans a b c front back first second

pub appends_none : (a : Option (List ℕ)) → Appends a a []
appends_none a = Appends-nil a

pub appends_then : (a b c : Option (List ℕ)) (front back : List ℕ) → Appends a b front → Appends b c back → Appends a c (front ++ back)
appends_then a b c front back first second = Appends-trans a b c front back first second
