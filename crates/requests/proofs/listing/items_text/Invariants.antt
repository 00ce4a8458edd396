use Rattle.std.proofs.Common.{◌≡◌, ◌++◌, drop, string_bytes}
use Rattle.serde_json.specs.Data.{array}
use Rattle.serde_json.specs.View.{items_of}
use Rattle.serde_json.specs.Written.{items_text}
use Rattle.jsondoc.specs.Json.{text}
use Rattle.requests.specs.Selector.{selector_seen}
use Rattle.requests.specs.Listing.{shown_items}
use Rattle.requests.proofs.listing.items_text.Given as goal

-- what was written, and then what is left
abbrev pub invariant-loop-object : goal.invariant-loop-object
invariant-loop-object g l =
    string_bytes l.out ++ items_text l.later (items_of (shown_items (selector_seen l.selector) (drop l.object-index l.objects)))
    ≡ text (array (items_of (shown_items (selector_seen l.selector) l.objects)))
