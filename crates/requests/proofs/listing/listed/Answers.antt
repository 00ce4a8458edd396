use Rattle.std.proofs.Common.{◌≡◌, ◌∙◌, ap, refl, codes}
use Rattle.serde_json.specs.Data.{Data, array}
use Rattle.serde_json.specs.View.{items_of}
use Rattle.jsondoc.specs.Json.{text, with_member}
use Rattle.requests.specs.Frames.{list_frame}
use Rattle.requests.specs.Listing.{shown_items, list_of, served}
use Rattle.requests.specs.Selector.{selector_seen}
use Rattle.requests.proofs.listing.listed.Goals as goal

pub returns : goal.returns
returns g c =
    let items : Data = array (items_of (shown_items (selector_seen c.args.selector.now) c.args.objects.now)) in
    let framed : with_member (codes "items") items (list_frame c.args.resource c.args.revision) ≡ list_of c.args.resource c.args.revision items = refl in
    c.served.ensures
    ∙ ap served (c.in_ok-text_with.ensures items (c.as_str.ensures.value ∙ c.in_ok-items.ensures)
    ∙ ap (λ (f : Data). text (with_member (codes "items") items f)) c.in_ok-frame.ensures
    ∙ ap text framed)
