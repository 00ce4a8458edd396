use Rattle.std.proofs.Common.{◌≡◌, [], drop}
use Rattle.form_urlencoded.specs.Form.{extend_pairs}
use Rattle.dialect.specs.Pairs.{kept}
use Rattle.dialect.proofs.pairs.kept_query.Given as goal

-- what was written, and then what is left
abbrev pub invariant-loop-pair : goal.invariant-loop-pair
invariant-loop-pair l =
    (l.form.prefix ≡ []) × (extend_pairs l.form.form (kept l.method l.watches (drop l.pair-index l.pairs)) ≡ extend_pairs [] (kept l.method l.watches l.pairs))
