-- Messages that are served stay as they are, but for the label of a Namespace.
use Rattle.std.proofs.Common.{◌≡◌, ℕ, ◌+◌, List, [], ◌∷◌, map, Bool, true, false, not, ◌&&◌, ◌||◌, cond, nat_lt, codes, Option, Some, None, refl, sym, ap, ◌∙◌, subst, true≢false, arith}
use Rattle.std.proofs.lemmas.Bool.{cond-false}
use Rattle.std.specs.Prelude.{unwrap_or, is_none, option_map, option_and_then, find}
use Rattle.std.specs.List.{list_any, list_all, count_by}
use Rattle.std.specs.Option.{option_map_or}
use Rattle.std.specs.Str.{bytes_eq}
use Rattle.std.proofs.lemmas.Slice.Eq.{bytes_eq-Decides}
use Rattle.std.proofs.lemmas.Bool.Decides.{nat_tests}
use Rattle.std.proofs.lemmas.List.Sums.{sum_by-cons}
use Rattle.form_urlencoded.specs.Form.{raw_pairs}
use Rattle.names.specs.declared.format.Format.{Format}
use Rattle.names.specs.declared.resource.Resource.{Resource}
use Rattle.documents.specs.Requirement.{Requirement}
use Rattle.requests.specs.declared.refusal.Refusal.{Refusal}
use Rattle.requests.specs.declared.refusal.Refusal.TheVariants.{NoSuchPath, MethodNotAllowed, BadQuery, BadNameInPath, BadVersion}
use Rattle.requests.specs.Collection.{Collection}
use Rattle.requests.specs.Manifest.{Target, is_target, body_conditions, reading_conditions}
use Rattle.requests.specs.DeleteOptions.{delete_body_conditions, version_of_body}
use Rattle.jsondoc.specs.Json.{reading}
use Rattle.names.specs.Key.{key_of}
use Rattle.requests.specs.Refusal.{Condition, first_of}
use Rattle.requests.specs.Request.{Request, refused, watch, delete}
use Rattle.httpmsg.specs.declared.head.Method.{Method}
use Rattle.httpmsg.specs.declared.head.Method.TheVariants.{Get, Head, Post, Put, Delete, Other}
use Rattle.httpmsg.specs.Stream.{Message}
use Rattle.routes.specs.Asked.{unless_refused, item_conditions, look, creation, replacement, deletion, answering, collection_conditions, collection_request, collection_at, all_of, of_item, of_collection, of_everywhere, asked_at, place_in, asked}
use Rattle.routes.specs.Path.{PathPlace, everywhere, within, query_of, resource_in}
use Rattle.routes.specs.Query.{Pair, Question, objects, events, decoded, has_pairs, is_any, is_served, truth_of, watches, watched, listed, count_of, value_of, has_known_names, question_of}
use Rattle.dialect.specs.Pairs.{is_left_out, is_misread, is_restated}
use Rattle.dialect.specs.Restated.{pairs_in, is_watch, has_other_pair, body_read, restated_target, restated_body, restated}
use Rattle.dialect.specs.Laws.{body_labelled, labelled_message}
use Rattle.dialect.proofs.Refusing.{others}
use Rattle.dialect.proofs.Bodies.{first_fails, options_are_kept, object_is_kept}

-- ---- what is not refused

abbrev pub IsServed : Request → Type 0
IsServed request = (r : Refusal) → request ≡ refused r → ⊥

abbrev pub IsNoWatch : Request → Type 0
IsNoWatch request = (c : Collection) (n : ℕ) → request ≡ watch c n → ⊥

passed : (found : Option Refusal) (request : Request) → IsServed (option_map_or refused found request) → found ≡ None
passed None request served = refl
passed (Some r) request served = absurd (served r refl)

-- no condition holds
pub passes : (conditions : List Condition) (request : Request) → IsServed (unless_refused conditions request) → first_of conditions ≡ None
passes conditions request served = passed (first_of conditions) request served

-- ---- pairs

no_raw : (raw : List Pair) → is_any raw ≡ false → map decoded raw ≡ []
no_raw [] none = refl
no_raw (pair ∷ raw) none = absurd (true≢false none)

pub target_stays : (m : Message) → is_restated m.method (is_watch m) (pairs_in m) ≡ false → restated_target m ≡ m.target
target_stays m none = cond-false _ _ _ none

pub no_pairs : (m : Message) → has_pairs (query_of m.target) ≡ false → restated_target m ≡ m.target
no_pairs m none = target_stays m (ap (is_restated m.method (is_watch m)) (no_raw (raw_pairs (query_of m.target)) none))

-- ---- the pairs of a list

-- a name that is served and is not `resourceVersion` is not left out
kept_label : (w : Bool) (value : List ℕ) → is_left_out Get w (codes "labelSelector", value) ≡ false
kept_label true value = refl
kept_label false value = refl

kept_watch : (w : Bool) (value : List ℕ) → is_left_out Get w (codes "watch", value) ≡ false
kept_watch true value = refl
kept_watch false value = refl

kept_by : (w : Bool) (pair : Pair) (label watching version : Bool) → bytes_eq pair.0 (codes "labelSelector") ≡ label → bytes_eq pair.0 (codes "watch") ≡ watching
    → ((label || watching) || version) ≡ true → version ≡ false → is_left_out Get w pair ≡ false
kept_by w pair true watching version is_label is_watching some none =
    subst (λ (name : List ℕ). is_left_out Get w (name, pair.1) ≡ false) (sym ((bytes_eq-Decides pair.0 (codes "labelSelector")).0 is_label)) (kept_label w pair.1)
kept_by w pair false true version is_label is_watching some none =
    subst (λ (name : List ℕ). is_left_out Get w (name, pair.1) ≡ false) (sym ((bytes_eq-Decides pair.0 (codes "watch")).0 is_watching)) (kept_watch w pair.1)
kept_by w pair false false version is_label is_watching some none = absurd (true≢false (sym some ∙ none))

three : (a b c : Bool) → a ≡ false → b ≡ false → c ≡ false → ((a || b) || c) ≡ false
three a b c p q r = rw (p, q, r) refl

cond_none : {X : Type 0} (b : Bool) (x : X) (rest : Option X) → cond b (Some x) rest ≡ None → (b ≡ false) × (rest ≡ None)
cond_none true x rest none = absurd (let bad : Some x ≡ None = none in cc)
cond_none false x rest none = (refl, none)

both_are : (a b : Bool) → (a && b) ≡ true → (a ≡ true) × (b ≡ true)
both_are true b is = (refl, is)
both_are false b is = absurd (true≢false (sym is))

either_none : (a b : Bool) → (a || b) ≡ false → (a ≡ false) × (b ≡ false)
either_none true b none = absurd (true≢false none)
either_none false b none = (refl, none)

quiet : (w : Bool) (pairs : List Pair) → list_all (λ pair. is_served pair.0) pairs ≡ true → find (λ pair. bytes_eq pair.0 (codes "resourceVersion")) pairs ≡ None
    → list_any is_misread pairs ≡ false → is_restated Get w pairs ≡ false
quiet w [] all none read = refl
quiet w (pair ∷ pairs) all none read =
    let here = both_are (is_served pair.0) (list_all (λ p. is_served p.0) pairs) all in
    let version = cond_none (bytes_eq pair.0 (codes "resourceVersion")) pair _ none in
    let reads = either_none (is_misread pair) (list_any is_misread pairs) read in
    three _ _ _ (kept_by w pair (bytes_eq pair.0 (codes "labelSelector")) (bytes_eq pair.0 (codes "watch")) (bytes_eq pair.0 (codes "resourceVersion")) refl refl here.0 version.0) reads.0 (quiet w pairs here.1 version.1 reads.1)

-- ---- `watch`

abbrev is_named : Pair → Bool
is_named pair = bytes_eq pair.0 (codes "watch")

unnamed : (named : Bool) (rest : ℕ) → cond named 1 0 + rest ≡ 0 → (named ≡ false) × (rest ≡ 0)
unnamed true rest none = absurd (omega (arith, none))
unnamed false rest none = (refl, omega (arith, none))

never : (pairs : List Pair) → count_by is_named pairs ≡ 0 → list_any is_misread pairs ≡ false
never [] none = refl
never (pair ∷ pairs) none =
    let here = unnamed (is_named pair) (count_by is_named pairs) (sym (sum_by-cons (λ p. cond (is_named p) 1 0) pair pairs) ∙ none) in
    rw (here.0, never pairs here.1) refl

truth : (text : List ℕ) (pair_text : Option (List ℕ)) → truth_of text ≡ Some false → is_none (truth_of text) ≡ false
truth text other is = rw is refl

once : (named : Bool) (pair : Pair) (pairs : List Pair) (found : Option Pair) → is_named pair ≡ named
    → nat_lt (cond named 1 0 + count_by is_named pairs) 2 ≡ true
    → watches (option_map (λ p. p.1) (cond named (Some pair) found)) ≡ Some false
    → (nat_lt (count_by is_named pairs) 2 ≡ true → watches (option_map (λ p. p.1) found) ≡ Some false → list_any is_misread pairs ≡ false)
    → ((named && is_none (truth_of pair.1)) || list_any is_misread pairs) ≡ false
once true pair pairs found is few reads later =
    let none : count_by is_named pairs ≡ 0 = grind (arith, nat_tests) in
    let read : truth_of pair.1 ≡ Some false = reads in
    rw (read, never pairs none) refl
once false pair pairs found is few reads later = later (subst (λ (n : ℕ). nat_lt n 2 ≡ true) (omega arith) few) reads

pub read_once : (pairs : List Pair) → nat_lt (count_by is_named pairs) 2 ≡ true → watches (option_map (λ p. p.1) (find is_named pairs)) ≡ Some false
    → list_any is_misread pairs ≡ false
read_once [] few reads = refl
read_once (pair ∷ pairs) few reads = once (is_named pair) pair pairs (find is_named pairs) refl
    (subst (λ (n : ℕ). nat_lt n 2 ≡ true) (sum_by-cons (λ p. cond (is_named p) 1 0) pair pairs) few) reads (read_once pairs)

-- ---- the question of a list

abbrev IsList : Option Question → Type 0
IsList question = (requirements : List Requirement) × (question ≡ Some (objects requirements))

no_value : (found : Option Pair) → option_map (λ p. p.1) found ≡ None → found ≡ None
no_value None none = refl
no_value (Some p) none = absurd (let bad : Some p.1 ≡ None = none in cc)

not_listed : (selector version : Option (List ℕ)) → IsList (listed selector version) → version ≡ None
not_listed selector None is = refl
not_listed selector (Some text) is = absurd (let bad : None ≡ Some (objects is.0) = is.1 in cc)

not_watched : (selector version : Option (List ℕ)) → IsList (watched selector version) → ⊥
not_watched None version is = let bad : Some (events (option_and_then _ version)) ≡ Some (objects is.0) = is.1 in cc
not_watched (Some text) version is = let bad : None ≡ Some (objects is.0) = is.1 in cc

by_truth : (selector version : Option (List ℕ)) (truth : Option Bool)
    → IsList (option_and_then (λ asks. cond asks (watched selector version) (listed selector version)) truth) → (truth ≡ Some false) × (version ≡ None)
by_truth selector version None is = absurd (let bad : None ≡ Some (objects is.0) = is.1 in cc)
by_truth selector version (Some true) is = absurd (not_watched selector version is)
by_truth selector version (Some false) is = (refl, not_listed selector version is)

by_names : (known : Bool) (question : Option Question) → IsList (cond known question None) → (known ≡ true) × IsList question
by_names true question is = (refl, is)
by_names false question is = absurd (let bad : None ≡ Some (objects is.0) = is.1 in cc)

list_stays : (w : Bool) (pairs : List Pair) → IsList (question_of pairs) → is_restated Get w pairs ≡ false
list_stays w pairs is =
    let names = by_names (has_known_names pairs) _ is in
    let values = by_truth (value_of (codes "labelSelector") pairs) (value_of (codes "resourceVersion") pairs) (watches (value_of (codes "watch") pairs)) names.1 in
    let all = list_all (λ pair. is_served pair.0) pairs in
    let labels = nat_lt (count_of (codes "labelSelector") pairs) 2 in
    let watch_count = nat_lt (count_of (codes "watch") pairs) 2 in
    let versions = nat_lt (count_of (codes "resourceVersion") pairs) 2 in
    let three_of = both_are (all && labels && watch_count) versions names.0 in
    let two_of = both_are (all && labels) watch_count three_of.0 in
    let one_of = both_are all labels two_of.0 in
    quiet w pairs one_of.0 (no_value (find (λ pair. bytes_eq pair.0 (codes "resourceVersion")) pairs) values.1) (read_once pairs two_of.1 values.0)

answered : (c : Collection) (question : Question) → IsServed (answering c question) → IsNoWatch (answering c question) → (requirements : List Requirement) × (question ≡ objects requirements)
answered c (objects requirements) served other = (requirements, refl)
answered c (events None) served other = absurd (served BadVersion refl)
answered c (events (Some n)) served other = absurd (other c n refl)

unless_none : (conditions : List Condition) (request : Request) → first_of conditions ≡ None → unless_refused conditions request ≡ request
unless_none conditions request none = ap (λ found. option_map_or refused found request) none

asked_question : (m : Message) (c : Collection) (question : Option Question)
    → IsServed (option_map_or (λ q. unless_refused (collection_conditions m c) (answering c q)) question (refused BadQuery))
    → IsNoWatch (option_map_or (λ q. unless_refused (collection_conditions m c) (answering c q)) question (refused BadQuery)) → IsList question
asked_question m c None served other = absurd (served BadQuery refl)
asked_question m c (Some q) served other =
    let same = unless_none (collection_conditions m c) (answering c q) (passes (collection_conditions m c) (answering c q) served) in
    let is = answered c q (subst IsServed same served) (subst IsNoWatch same other) in
    (is.0, ap Some is.1)

collection_stays : (m : Message) (c : Collection) (w : Bool) → IsServed (collection_request m c) → IsNoWatch (collection_request m c) → is_restated Get w (pairs_in m) ≡ false
collection_stays m c w served other = list_stays w (pairs_in m) (asked_question m c (question_of (pairs_in m)) served other)

-- ---- all of a message

abbrev Stays : Message → (method : Method) → Option Resource → Type 0
Stays m method r = ((m.method ≡ method) → restated_target m ≡ m.target) × (body_read method r m.body ≡ body_labelled method r m.body)

module _ (m : Message) where
  of_list : (c : Collection) (r : Option Resource) → IsServed (collection_request m c) → IsNoWatch (collection_request m c) → Stays m Get r
  of_list c r served other = (
    (λ is. target_stays m (subst (λ (method : Method). is_restated method (is_watch m) (pairs_in m) ≡ false) (sym is) (collection_stays m c (is_watch m) served other))),
    refl,
  )

  -- of one that must have no pair, and whose body is judged by other conditions
  no_query : (method : Method) (r : Option Resource) (conditions : List Condition) (request : Request)
      → IsServed (unless_refused ((BadQuery, has_pairs (query_of m.target)) ∷ conditions) request)
      → (first_of conditions ≡ None → body_read method r m.body ≡ body_labelled method r m.body) → Stays m method r
  no_query method r conditions request served body =
      let first = first_fails BadQuery (has_pairs (query_of m.target)) conditions (passes ((BadQuery, has_pairs (query_of m.target)) ∷ conditions) request served) in
      ((λ is. no_pairs m first.0), body first.1)

  in_everywhere : (r : Resource) (method : Method) → IsServed (unwrap_or (of_everywhere m r method) (refused MethodNotAllowed))
      → IsNoWatch (unwrap_or (of_everywhere m r method) (refused MethodNotAllowed)) → Stays m method (Some r)
  in_everywhere r Get served other = of_list (all_of r) (Some r) served other
  in_everywhere r Head served other = absurd (served MethodNotAllowed refl)
  in_everywhere r Post served other = absurd (served MethodNotAllowed refl)
  in_everywhere r Put served other = absurd (served MethodNotAllowed refl)
  in_everywhere r Delete served other = absurd (served MethodNotAllowed refl)
  in_everywhere r Other served other = absurd (served MethodNotAllowed refl)

  in_collection : (t : Target) (method : Method) → IsServed (unwrap_or (of_collection m t method) (refused MethodNotAllowed))
      → IsNoWatch (unwrap_or (of_collection m t method) (refused MethodNotAllowed)) → Stays m method (Some t.resource)
  in_collection t Get served other = of_list (collection_at t) (Some t.resource) served other
  in_collection t Head served other = absurd (served MethodNotAllowed refl)
  in_collection t Post served other =
      no_query Post (Some t.resource) (body_conditions t m.body) (creation t (reading m.body)) served
      (λ none. object_is_kept t t.resource m.body (first_fails BadNameInPath (not (is_target t)) (reading_conditions t (reading m.body)) none).1)
  in_collection t Put served other = absurd (served MethodNotAllowed refl)
  in_collection t Delete served other = absurd (served MethodNotAllowed refl)
  in_collection t Other served other = absurd (served MethodNotAllowed refl)

  in_item : (t : Target) (name : List ℕ) (method : Method) → IsServed (unwrap_or (of_item m t name method) (refused MethodNotAllowed)) → Stays m method (Some t.resource)
  in_item t name Get served =
      no_query Get (Some t.resource) ((BadNameInPath, not (is_target t)) ∷ []) (look (key_of t.resource t.namespace name) m.body) served (λ none. refl)
  in_item t name Head served = absurd (served MethodNotAllowed refl)
  in_item t name Post served = absurd (served MethodNotAllowed refl)
  in_item t name Put served =
      no_query Put (Some t.resource) (body_conditions t m.body) (replacement t (reading m.body)) served
      (λ none. object_is_kept t t.resource m.body (first_fails BadNameInPath (not (is_target t)) (reading_conditions t (reading m.body)) none).1)
  in_item t name Delete served =
      let k = key_of t.resource t.namespace name in
      let same = unless_none (item_conditions m t) (deletion k m.body) (passes (item_conditions m t) (deletion k m.body) served) in
      no_query Delete (Some t.resource) ((BadNameInPath, not (is_target t)) ∷ []) (deletion k m.body) served
      (λ none. options_are_kept m.body (passes (delete_body_conditions m.body) (delete k (version_of_body m.body)) (subst IsServed same served)))
  in_item t name Other served = absurd (served MethodNotAllowed refl)

  within_target : (t : Target) (name : Option (List ℕ))
      → IsServed (unwrap_or (option_map_or (λ n. of_item m t n m.method) name (of_collection m t m.method)) (refused MethodNotAllowed))
      → IsNoWatch (unwrap_or (option_map_or (λ n. of_item m t n m.method) name (of_collection m t m.method)) (refused MethodNotAllowed))
      → Stays m m.method (Some t.resource)
  within_target t None served other = in_collection t m.method served other
  within_target t (Some name) served other = in_item t name m.method served

  at_place : (place : Option PathPlace) → IsServed (option_map_or (λ p. unwrap_or (asked_at m p) (refused MethodNotAllowed)) place (refused NoSuchPath))
      → IsNoWatch (option_map_or (λ p. unwrap_or (asked_at m p) (refused MethodNotAllowed)) place (refused NoSuchPath)) → Stays m m.method (option_map resource_in place)
  at_place None served other = absurd (served NoSuchPath refl)
  at_place (Some (everywhere r)) served other = in_everywhere r m.method served other
  at_place (Some (within t)) served other = within_target t t.name served other

with_both : (m : Message) (target body new : List ℕ) → target ≡ m.target → body ≡ new
    → (let restated : Message = record { method = m.method; target = target; closes = m.closes; body = body } in
    let expected : Message = record { method = m.method; target = m.target; closes = m.closes; body = new } in restated ≡ expected)
with_both m target body new is_target is_body = λ i. record { method = m.method; target = is_target i; closes = m.closes; body = is_body i }

pub stays : (f : Format) (m : Message) → IsServed (asked f m) → IsNoWatch (asked f m) → restated f m ≡ labelled_message f m
stays f m served other = go (has_other_pair m) refl
  where
    go : (b : Bool) → has_other_pair m ≡ b → restated f m ≡ labelled_message f m
    go true is = let refusal = others f m is in absurd (served refusal.0 refusal.1)
    go false is =
        let same = at_place m (place_in f m) served other in
        cond-false _ _ _ is ∙ with_both m (restated_target m) (restated_body f m) (body_labelled m.method (option_map resource_in (place_in f m)) m.body) (same.0 refl) same.1
