use Rattle.std.proofs.Common.{◌≡◌, refl, subst}
use Rattle.std.specs.Prelude.{IfOk}
use Rattle.std.specs.Vec.Iter.{into_iter_items}
use Rattle.std.proofs.lemmas.Iterator.{items_from_collect}
use Rattle.std.proofs.lemmas.Iterator.Adapters.{YieldsList-from_vec}
use Rattle.gated.proofs.words.listed.Goals as goal

pub returns-in-Ok-clause-words : goal.returns-in-Ok-clause-words
returns-in-Ok-clause-words c =
    let words = c.args.words in
    subst (λ r. IfOk r (λ list. list.items ≡ into_iter_items words)) c.in-Ok.is
    (items_from_collect c.collect.result c.collect.ensures.ran (YieldsList-from_vec (into_iter_items words) refl words.rest.ok.0))
