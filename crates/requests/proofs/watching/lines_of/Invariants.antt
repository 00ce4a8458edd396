use Rattle.std.proofs.Common.{◌≡◌, ◌++◌, string_bytes}
use Rattle.requests.specs.Collection.{collection_of}
use Rattle.requests.specs.Listing.{lines_of}
use Rattle.requests.proofs.watching.lines_of.Given as goal

-- what was written, and then what is left
abbrev pub invariant-loop-event : goal.invariant-loop-event
invariant-loop-event l =
    string_bytes l.lines ++ lines_of (collection_of l.collection) l.event-iterator ≡ lines_of (collection_of l.collection) l.fn.events
