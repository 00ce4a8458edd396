-- Queries: what stands after the question mark of a target, as the pairs of a form (URL Standard section 5.1).
use Rattle.std.specs.Prelude.{ℕ, ◌^◌, Bool, true, false, List, [], ◌∷◌, map, find, ◌&&◌, ◌||◌, nat_lt, codes, if◌then◌else◌, Option, Some, None, option_map, option_and_then, unwrap_or}
use Rattle.std.specs.List.{list_all, count_by}
use Rattle.std.specs.Option.{option_map_or}
use Rattle.std.specs.Str.{bytes_eq, all_ascii_digits}
use Rattle.std.specs.Str.Lossy.{utf8_lossy}
use Rattle.std.specs.Str.Parse.{digits_value}
use Rattle.form_urlencoded.specs.Form.{raw_pairs, decode}
use Rattle.documents.specs.Requirement.{Requirement}
use Rattle.requests.specs.Selector.{selector_of}

-- ---- the pairs of a query

-- the text that an encoded name or value stands for
abbrev pub text_of : List ℕ → List ℕ
text_of bytes = utf8_lossy (decode bytes)

-- a name and its value
abbrev pub Pair : Type 0
Pair = List ℕ × List ℕ

-- the pair that an encoded one stands for
abbrev pub decoded : Pair → Pair
decoded pair = (text_of pair.0, text_of pair.1)

-- the pairs of a query, decoded
abbrev pub pairs_of : (query : List ℕ) → List Pair
pairs_of query = map decoded (raw_pairs query)

abbrev pub is_any : List Pair → Bool
is_any [] = false
is_any (pair ∷ more) = true

-- the query has a pair
abbrev pub has_pairs : (query : List ℕ) → Bool
has_pairs query = is_any (raw_pairs query)

-- how many pairs have this name
abbrev pub count_of : (name : List ℕ) → List Pair → ℕ
count_of name pairs = count_by (λ pair. bytes_eq pair.0 name) pairs

-- the value of the first pair with this name
abbrev pub value_of : (name : List ℕ) → List Pair → Option (List ℕ)
value_of name pairs = option_map (λ pair. pair.1) (find (λ pair. bytes_eq pair.0 name) pairs)

-- ---- what may stand in the query of a collection

-- the names that are served (Kubernetes API concepts, "Efficient detection of changes")
abbrev pub is_served : (name : List ℕ) → Bool
is_served name = bytes_eq name (codes "labelSelector") || bytes_eq name (codes "watch") || bytes_eq name (codes "resourceVersion")

abbrev pub is_at_most_once : (name : List ℕ) → List Pair → Bool
is_at_most_once name pairs = nat_lt (count_of name pairs) 2

-- each name is served, and none stands twice
abbrev pub has_known_names : List Pair → Bool
has_known_names pairs =
    list_all (λ pair. is_served pair.0) pairs
    && is_at_most_once (codes "labelSelector") pairs
    && is_at_most_once (codes "watch") pairs
    && is_at_most_once (codes "resourceVersion") pairs

-- whether a value of `watch` asks for a watch, if it is one of the four that there are
abbrev pub truth_of : List ℕ → Option Bool
truth_of text =
    if bytes_eq text (codes "true") || bytes_eq text (codes "1") then Some true
    else (if bytes_eq text (codes "false") || bytes_eq text (codes "0") then Some false else None)

-- whether a watch is asked for: not without `watch`
abbrev pub watches : Option (List ℕ) → Option Bool
watches value = option_map_or truth_of value (Some false)

-- ---- revisions

-- how many numbers there are of 64 bits
unfoldable pub revisions : ℕ
revisions = 2 ^ 64

-- the text begins with a digit that is not zero
abbrev pub begins_above_zero : List ℕ → Bool
begins_above_zero [] = false
begins_above_zero (byte ∷ more) = nat_lt 48 byte && nat_lt byte 58

-- a revision: decimal digits, of which the first is not zero, below 2^64
abbrev pub is_revision : List ℕ → Bool
is_revision text = begins_above_zero text && all_ascii_digits text && nat_lt (digits_value 10 text) revisions

-- the revision that a text spells, if it spells one
abbrev pub revision_of : List ℕ → Option ℕ
revision_of text = if is_revision text then Some (digits_value 10 text) else None

-- ---- what a query asks of a collection

pub data Question : Type 0 where
  -- the objects that meet each requirement
  objects : List Requirement → Question
  -- the events above a revision; none where no revision is spelled
  events : Option ℕ → Question

-- what a watch asks: it takes no `labelSelector`
abbrev pub watched : (selector version : Option (List ℕ)) → Option Question
watched None version = Some (events (option_and_then revision_of version))
watched (Some text) version = None

-- what a list asks: it takes no `resourceVersion`, and without `labelSelector` it selects each object
abbrev pub listed : (selector version : Option (List ℕ)) → Option Question
listed selector None = option_map objects (selector_of (unwrap_or selector []))
listed selector (Some text) = None

-- what the values of the three names ask together, where they go together
abbrev pub question_by : (selector watch version : Option (List ℕ)) → Option Question
question_by selector watch version =
    option_and_then (λ asks_to_watch. if asks_to_watch then watched selector version else listed selector version) (watches watch)

-- what the pairs of a query ask of a collection, if they may stand there
abbrev pub question_of : List Pair → Option Question
question_of pairs =
    if has_known_names pairs then
    question_by (value_of (codes "labelSelector") pairs) (value_of (codes "watch") pairs) (value_of (codes "resourceVersion") pairs)
    else None
