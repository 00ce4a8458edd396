-- Lists and lines, item by item.
use Rattle.std.proofs.Common.{◌≡◌, ℕ, Bool, true, false, cond, List, [], ◌∷◌, ◌++◌, append_assoc, map, refl, sym}
use Rattle.std.specs.List.{filter, concat}
use Rattle.serde_json.specs.Data.{Data, item}
use Rattle.serde_json.specs.View.{items_of}
use Rattle.names.specs.Key.{Key}
use Rattle.window.specs.declared.event.Event.{Event}
use Rattle.histories.specs.declared.stored.Stored.{Stored}
use Rattle.documents.specs.Document.{Document, shown}
use Rattle.requests.specs.Collection.{Collection, has_key}
use Rattle.documents.specs.Requirement.{Requirement}
use Rattle.requests.specs.Selector.{selects}
use Rattle.requests.specs.Listing.{shown_items, lines_of, event_document, line_feed}
use Rattle.jsondoc.specs.Json.{text}

one_item : {P : Type 0} (b : Bool) (f : Key × Stored P → Data) (e : Key × Stored P) (es : List (Key × Stored P))
    → cond b (item (f e) (items_of (map f es))) (items_of (map f es)) ≡ items_of (map f (cond b (e ∷ es) es))
one_item true f e es = refl
one_item false f e es = refl

-- the items of objects are those of the first, if it is selected, and then those of the others
pub items-shown : {P : Type 0} (s : List Requirement) (e : Key × Stored P) (es : List (Key × Stored P))
    → cond (selects s e.1.document) (item (shown e.1.document e.1.revision) (items_of (shown_items s es))) (items_of (shown_items s es)) ≡ items_of (shown_items s (e ∷ es))
items-shown s e es = one_item (selects s e.1.document) (λ x. shown x.1.document x.1.revision) e (filter (λ x. selects s x.1.document) es)

one_line : (b : Bool) (f : Event Document → List ℕ) (e : Event Document) (es : List (Event Document))
    → concat (map f (cond b (e ∷ es) es)) ≡ concat (map f (cond b (e ∷ []) [])) ++ concat (map f es)
one_line true f e es = sym (append_assoc (f e) [] (concat (map f es)))
one_line false f e es = refl

-- the lines of events are those of the first, and then those of the others
pub lines_of-cons : (c : Collection) (e : Event Document) (es : List (Event Document))
    → lines_of c (e ∷ es) ≡ lines_of c (e ∷ []) ++ lines_of c es
lines_of-cons c e es =
    one_line (has_key c e.key) (λ x. text (event_document x) ++ line_feed ∷ []) e (filter (λ x. has_key c x.key) es)
