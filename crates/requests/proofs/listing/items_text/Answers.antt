use Rattle.std.proofs.Common.{drop, ap, sym, ◌∙◌, ◌++◌, List, ◌+◌, cond, string_bytes}
use Rattle.serde_json.specs.Data.{Items, item}
use Rattle.serde_json.specs.View.{items_of}
use Rattle.serde_json.specs.Written.{items_text}
use Rattle.names.specs.Key.{Key}
use Rattle.histories.specs.declared.stored.Stored.{Stored}
use Rattle.documents.specs.Document.{shown}
use Rattle.requests.specs.Selector.{selects, selector_seen}
use Rattle.requests.proofs.Lists.{drop-next}
use Rattle.requests.specs.Listing.{shown_items}
use Rattle.requests.proofs.Listings.{items-shown}
use Rattle.requests.proofs.listing.items_text.Goals as goal

pub loop-object-preserved : goal.loop-object-preserved
loop-object-preserved g c =
    let i = c.loop-object.object-index in
    let objects : List (Key × Stored g.row.P.Denot) = c.args.objects.now in
    let object : Key × Stored g.row.P.Denot = c.object-item.result in
    let s = selector_seen c.args.selector.now in
    let out = string_bytes c.loop-object.out in
    let later = c.loop-object.later in
    let rest = drop (i + 1) objects in
    let others = items_of (shown_items s rest) in
    c.in_ok-later.ensures others
    ∙ ap (λ (o : Key × Stored g.row.P.Denot). out ++ items_text later (cond (selects s o.1.document) (item (shown o.1.document o.1.revision) others) others)) c.object.view_is
    ∙ ap (λ (ds : Items). out ++ items_text later ds) (items-shown s object rest)
    ∙ ap (λ (os : List (Key × Stored g.row.P.Denot)). out ++ items_text later (items_of (shown_items s os))) (sym (drop-next objects i object _ c.loop-object-test.true c.object-item.is))
    ∙ c.loop-object.invariant
