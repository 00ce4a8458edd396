-- What the definitions promise.
use Rattle.std.specs.Prelude.{IsTrue}
use Rattle.std.specs.Cmp.Lexicographic.{slice_cmp}
use Rattle.std.specs.FinMap.{is_sorted}
use Rattle.std.specs.List.{AllByRecursion}
use Rattle.std.specs.Ordering.{nat_cmp}
use Rattle.names.specs.Key.{is_key, key_cmp}
use Rattle.verdict.specs.Objects.{Objects}
use Rattle.verdict.specs.Admission.{bindings}

-- Where the keys of the objects ascend and are well formed, the names of the bindings ascend, byte by byte.
abbrev pub BindingsAscend : Type 0
BindingsAscend =
    (objects : Objects) → IsTrue (is_sorted key_cmp objects) → AllByRecursion (λ o. IsTrue (is_key o.0)) objects
    → IsTrue (is_sorted (slice_cmp nat_cmp) (bindings objects))
