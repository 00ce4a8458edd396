-- A message that was restated is asked as it is, where it is read again: its target, and all of it where its body stays.
use Rattle.std.proofs.Common.{◌≡◌, ◌≢◌, ℕ, List, [], ◌∷◌, ◌++◌, Bool, true, false, not, ◌&&◌, ◌||◌, cond, codes, None, IsUtf8, All, refl, sym, ap, ◌∙◌, subst, ⊎_elim, true≢false, length, arith}
use Rattle.std.specs.Prelude.{is_none, option_map}
use Rattle.std.specs.List.{list_any}
use Rattle.std.specs.Option.{option_map_or}
use Rattle.std.specs.Str.{bytes_eq}
use Rattle.std.proofs.lemmas.Bool.{cond-false, cond_both, cases_eq, and_parts, ne_eqb}
use Rattle.std.proofs.lemmas.List.Elements.{All-nil, All-cons}
use Rattle.std.proofs.lemmas.Slice.Eq.{bytes_eq-Decides}
use lib.Utf8.{encode}
use Rattle.form_urlencoded.specs.Form.{split_once, raw_pairs, extend_pairs}
use Rattle.form_urlencoded.proofs.FormLemmas.{split_once_before_same, split_once_before_other, split_once_before_at, split_once_after_at, split_once_before_none, split_once_after_none}
use Rattle.names.specs.declared.format.Format.{Format}
use Rattle.httpmsg.specs.declared.head.Method.{Method}
use Rattle.httpmsg.specs.declared.head.Method.TheVariants.{Get, Head, Post, Put, Delete, Other}
use Rattle.httpmsg.specs.Stream.{Message}
use Rattle.routes.specs.Asked.{place_in}
use Rattle.routes.specs.Path.{path_of, query_of, parts_of, place_at, resource_in, is_empty}
use Rattle.routes.specs.Query.{Pair, pairs_of, truth_of}
use Rattle.dialect.specs.Discovery.{constant_at}
use Rattle.dialect.specs.Pairs.{is_left_out, is_other, is_misread, is_true, may_stay, served_truth, served_pair, kept, is_restated, asks_to_watch, with_query, target_of}
use Rattle.dialect.specs.Restated.{asks, constant, pairs_in, is_watch, has_other_pair, body_read, restated_target, restated_body, restated, reads, constant_of, reading_of}
use Rattle.dialect.specs.ReadingOf.{reading_seen, IsReadOnce}
use Rattle.dialect.specs.declared.reading.Reading as code
use Rattle.dialect.specs.declared.reading.Reading.TheVariants.{Plain, Restated, Constant}
use Rattle.dialect.proofs.Decoding.{AreTexts, texts_in, written_pairs}

-- ---- a pair that is kept

watch_stays : (method : Method) (w : Bool) (value : List ℕ) → is_left_out method w (codes "watch", value) ≡ false
watch_stays Get true value = refl
watch_stays Get false value = refl
watch_stays Head w value = refl
watch_stays Post w value = refl
watch_stays Put w value = refl
watch_stays Delete w value = refl
watch_stays Other w value = refl

-- a pair named `watch` is never left out
named_stays : (method : Method) (w : Bool) (name value : List ℕ) → bytes_eq name (codes "watch") ≡ true → is_left_out method w (name, value) ≡ false
named_stays method w name value is =
    subst (λ (n : List ℕ). is_left_out method w (n, value) ≡ false) (sym ((bytes_eq-Decides name (codes "watch")).0 is)) (watch_stays method w value)

truth_is_served : (text : List ℕ) → is_none (truth_of (served_truth text)) ≡ false
truth_is_served text = cond_both (is_true text) (codes "true") (codes "false") (λ (t : List ℕ). is_none (truth_of t) ≡ false) (λ _. refl) (λ _. refl)

truth_stays : (text : List ℕ) → is_true (served_truth text) ≡ is_true text
truth_stays text = cond_both (is_true text) (codes "true") (codes "false") (λ (t : List ℕ). is_true t ≡ is_true text) (λ is. sym is) (λ is. sym is)

and_rest : (a b : Bool) → a ≡ false → (not a && b) ≡ false → b ≡ false
and_rest true b is none = absurd (true≢false is)
and_rest false b is none = none

and_false : (a b : Bool) → b ≡ false → (a && b) ≡ false
and_false true b is = is
and_false false b is = refl

either_none : (a b : Bool) → (a || b) ≡ false → (a ≡ false) × (b ≡ false)
either_none true b none = absurd (true≢false none)
either_none false b none = (refl, none)

neither : (a b : Bool) → a ≡ false → b ≡ false → (a || b) ≡ false
neither a b p q = rw (p, q) refl

-- the pair asks for a watch
abbrev asks_watch : Pair → Bool
asks_watch pair = bytes_eq pair.0 (codes "watch") && is_true pair.1

-- what is served of a pair is served again as it is
abbrev Stays : (method : Method) (w : Bool) (pair q : Pair) → Type 0
Stays method w pair q =
    (is_left_out method w q ≡ false) × (is_other method w q ≡ false) × (is_misread q ≡ false) × (asks_watch q ≡ asks_watch pair)

served_stays : (method : Method) (w : Bool) (pair : Pair) → is_left_out method w pair ≡ false → is_other method w pair ≡ false → Stays method w pair (served_pair pair)
served_stays method w pair left other =
    cond_both (is_misread pair) (pair.0, served_truth pair.1) pair (Stays method w pair)
    (λ is.
    let named = (and_parts (bytes_eq pair.0 (codes "watch")) (is_none (truth_of pair.1)) is).0 in (
      named_stays method w pair.0 (served_truth pair.1) named,
      and_false _ _ (and_rest (is_left_out method w pair) (not (may_stay method pair.0)) left other),
      and_false _ _ (truth_is_served pair.1),
      ap (λ b. bytes_eq pair.0 (codes "watch") && b) (truth_stays pair.1),
    ))
    (λ is. (left, other, is, refl))

-- a pair that is left out asks for no watch
left_is_quiet : (method : Method) (w : Bool) (pair : Pair) → is_left_out method w pair ≡ true → asks_watch pair ≡ false
left_is_quiet method w pair left = go (bytes_eq pair.0 (codes "watch")) refl
  where
    go : (b : Bool) → bytes_eq pair.0 (codes "watch") ≡ b → (b && is_true pair.1) ≡ false
    go true is = absurd (true≢false (sym left ∙ named_stays method w pair.0 pair.1 is))
    go false is = refl

-- ---- the pairs that are kept

abbrev KeptStay : (method : Method) (w asked : Bool) → List Pair → Type 0
KeptStay method w asked pairs =
    (list_any (is_other method w) pairs ≡ false) × (is_restated method w pairs ≡ false) × (asks_to_watch pairs ≡ asked)

kept_more : (method : Method) (w asked : Bool) (pair q : Pair) (pairs : List Pair) → Stays method w pair q → KeptStay method w asked pairs
    → KeptStay method w (asks_watch pair || asked) (q ∷ pairs)
kept_more method w asked pair q pairs stays rest = (
  neither _ _ stays.1 rest.0,
  neither _ _ (neither _ _ stays.0 stays.2) rest.1,
  (λ i. stays.3 i || rest.2 i),
)

kept_stay : (method : Method) (w : Bool) (pairs : List Pair) → list_any (is_other method w) pairs ≡ false → KeptStay method w (asks_to_watch pairs) (kept method w pairs)
kept_stay method w [] none = (refl, refl, refl)
kept_stay method w (pair ∷ pairs) none =
    let parts = either_none (is_other method w pair) (list_any (is_other method w) pairs) none in
    let rest = kept_stay method w pairs parts.1 in
    cond_both (is_left_out method w pair) (kept method w pairs) (served_pair pair ∷ kept method w pairs) (KeptStay method w (asks_to_watch (pair ∷ pairs)))
    (λ left. (rest.0, rest.1, rest.2 ∙ ap (λ b. b || asks_to_watch pairs) (sym (left_is_quiet method w pair left))))
    (λ left. kept_more method w (asks_to_watch pairs) pair (served_pair pair) (kept method w pairs) (served_stays method w pair left parts.0) rest)

true_is_text : IsUtf8 (codes "true")
unfolding encode
true_is_text = (codes "true", (refl, refl))

false_is_text : IsUtf8 (codes "false")
unfolding encode
false_is_text = (codes "false", (refl, refl))

served_text : (pair : Pair) → IsUtf8 pair.0 → IsUtf8 pair.1 → IsUtf8 (served_pair pair).0 × IsUtf8 (served_pair pair).1
served_text pair name value =
    cond_both (is_misread pair) (pair.0, served_truth pair.1) pair (λ (q : Pair). IsUtf8 q.0 × IsUtf8 q.1)
    (λ _. (name, cond_both (is_true pair.1) (codes "true") (codes "false") IsUtf8 (λ _. true_is_text) (λ _. false_is_text)))
    (λ _. (name, value))

kept_texts : (method : Method) (w : Bool) (pairs : List Pair) → AreTexts pairs → AreTexts (kept method w pairs)
kept_texts method w [] texts = tt
kept_texts method w (pair ∷ pairs) texts =
    let rest = kept_texts method w pairs texts.2 in
    let served = served_text pair texts.0 texts.1 in
    cond_both (is_left_out method w pair) (kept method w pairs) (served_pair pair ∷ kept method w pairs) AreTexts (λ _. rest) (λ _. (served.0, served.1, rest))

-- ---- the target

no_mark : (text : List ℕ) → All (λ (b : ℕ). b ≢ 63) (path_of text)
no_mark [] = All-nil (λ (b : ℕ). b ≢ 63)
no_mark (b ∷ text) = ⊎_elim
    (λ same. subst (λ (l : List ℕ). All (λ (c : ℕ). c ≢ 63) l) (sym (ap (λ (c : ℕ). (split_once 63 (c ∷ text)).0) same ∙ split_once_before_same 63 text)) (All-nil (λ (c : ℕ). c ≢ 63)))
    (λ other. subst (λ (l : List ℕ). All (λ (c : ℕ). c ≢ 63) l) (sym (split_once_before_other 63 b text other)) (All-cons (λ (c : ℕ). c ≢ 63) b (path_of text) other (no_mark text)))
    (cases_eq b 63)

target_parts : (path query : List ℕ) → All (λ (b : ℕ). b ≢ 63) path → (path_of (with_query path query) ≡ path) × (query_of (with_query path query) ≡ query)
target_parts path [] none = (split_once_before_none 63 path none, split_once_after_none 63 path none)
target_parts path (byte ∷ query) none =
    let some : is_empty (byte ∷ query) ≡ false = ne_eqb (length (byte ∷ query)) 0 (omega arith) in
    let made : with_query path (byte ∷ query) ≡ path ++ 63 ∷ byte ∷ query = cond-false _ _ _ some in
    (ap path_of made ∙ split_once_before_at 63 path (byte ∷ query) none, ap query_of made ∙ split_once_after_at 63 path (byte ∷ query) none)

-- a target has this path, and pairs that stay
abbrev TargetStays : (method : Method) (w : Bool) (path target : List ℕ) → Type 0
TargetStays method w path target = (path_of target ≡ path) × KeptStay method w w (pairs_of (query_of target))

target_stays : (m : Message) → has_other_pair m ≡ false → TargetStays m.method (is_watch m) (path_of m.target) (restated_target m)
target_stays m none =
    let w = is_watch m in
    let path = path_of m.target in
    let left = kept m.method w (pairs_in m) in
    let query = extend_pairs [] left in
    let parts = target_parts path query (no_mark m.target) in
    let texts = kept_texts m.method w (pairs_in m) (texts_in (raw_pairs (query_of m.target))) in
    let same : pairs_of (query_of (target_of path left)) ≡ left = ap pairs_of parts.1 ∙ written_pairs left texts in
    cond_both (is_restated m.method w (pairs_in m)) (target_of path left) m.target (TargetStays m.method w path)
    (λ _. (parts.0, subst (KeptStay m.method w w) (sym same) (kept_stay m.method w (pairs_in m) none)))
    (λ is. (refl, (none, is, refl)))

-- ---- all of a message

record_same : (m : Message) (target body : List ℕ) → target ≡ m.target → body ≡ m.body
    → (let made : Message = record { method = m.method; target = target; closes = m.closes; body = body } in made ≡ m)
record_same m target body is_target is_body = λ i. record { method = m.method; target = is_target i; closes = m.closes; body = is_body i }

-- a message whose target and body stay is not restated
stays_whole : (f : Format) (m : Message) (w : Bool) → is_watch m ≡ w → KeptStay m.method w w (pairs_in m) → restated_body f m ≡ m.body → restated f m ≡ m
stays_whole f m w is pairs body =
    let other : has_other_pair m ≡ false = ap (λ b. list_any (is_other m.method b) (pairs_in m)) is ∙ pairs.0 in
    let quiet : is_restated m.method (is_watch m) (pairs_in m) ≡ false = ap (λ b. is_restated m.method b (pairs_in m)) is ∙ pairs.1 in
    cond-false _ _ _ other ∙ record_same m (restated_target m) (restated_body f m) (cond-false _ _ _ quiet) body

pub read_again : (f : Format) (m : Message) → has_other_pair m ≡ false → constant_of f m ≡ None
    → body_read m.method (option_map resource_in (place_in f m)) (restated_body f m) ≡ restated_body f m
    → (let again : Message = record { method = m.method; target = restated_target m; closes = m.closes; body = restated_body f m } in reading_of f again ≡ asks again)
read_again f m none no_constant body =
    let again : Message = record { method = m.method; target = restated_target m; closes = m.closes; body = restated_body f m } in
    let stays = target_stays m none in
    let watches : is_watch again ≡ is_watch m = stays.1.2 in
    let place : place_in f again ≡ place_in f m = ap (λ (path : List ℕ). place_at f (parts_of path)) stays.0 in
    let same_body : restated_body f again ≡ again.body = ap (λ found. body_read m.method (option_map resource_in found) (restated_body f m)) place ∙ body in
    let same : restated f again ≡ again = stays_whole f again (is_watch m) watches stays.1 same_body in
    let no_more : constant_of f again ≡ None =
    ap (λ (path : List ℕ). cond (reads m.method && not (is_watch again)) (constant_at f path) None) stays.0
    ∙ ap (λ b. cond (reads m.method && not b) (constant_at f (path_of m.target)) None) watches ∙ no_constant in
    ap (λ found. option_map_or constant found (asks (restated f again))) no_more ∙ ap asks same

-- what is handed out as restated is the message that it was restated as
pub once : (f : Format) (m x : Message) (r : code.Reading) → reading_seen m r ≡ asks x → reading_of f x ≡ asks x → IsReadOnce f r
once f m x Plain seen again = tt
once f m x (Restated other) seen again = let same : other ≡ x = cc in subst (λ (y : Message). reading_of f y ≡ asks y) (sym same) again
once f m x (Constant text) seen again = tt
