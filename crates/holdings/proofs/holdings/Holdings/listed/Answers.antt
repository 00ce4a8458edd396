use Rattle.requests.specs.Collection.{collection_of}
use Rattle.requests.specs.Selector.{selector_seen}
use Rattle.holdings.proofs.Telling.{shows_listed}
use Rattle.holdings.proofs.holdings.Holdings.listed.Goals as goal

pub returns : goal.returns
returns g c = λ base v shows below.
    shows_listed c.args.self.now base v (collection_of c.args.collection.now) _ (selector_seen c.args.selector.now) c.args.below.now c.in_ok-objects.objects.items
    c.deref.result.now c.revision.result c.listed.result c.namespace.ensures shows below (λ of. c.in_ok-objects.ensures base v shows of) c.deref.ensures.value c.revision.ensures
    c.listed.ensures
