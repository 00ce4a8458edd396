-- Behind the writes of an upgrade stands a history, and what is seen of it is told by what was seen before.
use Rattle.std.proofs.Common.{arith, ◌≡◌, ◌∙◌, sym, ap, subst, refl, inr, ℕ, ◌+◌, ◌*◌, ◌≤◌, nat_le, nat_lt, true, false, Bool, cond, List, [], ◌∷◌, ◌++◌, length, map, Less, Equal, Greater, length-append}
use Rattle.std.proofs.lemmas.Bool.{and_parts}
use Rattle.std.proofs.lemmas.Bool.Decides.{nat_tests}
use Rattle.std.proofs.lemmas.List.{length-map}
use Rattle.std.specs.FinMap.Entries.{by_order}
use Rattle.json.specs.Print.{escape, escape_byte, escape_letter}
use Rattle.serde_json.specs.Data.{Data}
use Rattle.celtree.specs.Tree.{Expr}
use Rattle.documents.specs.Document.{Document}
use Rattle.jsondoc.specs.Json.{text}
use Rattle.names.specs.declared.format.Format.TheVariants.{First, Second, Third}
use Rattle.names.specs.Format.{has_namespaces, has_resource, rules_of}
use Rattle.names.specs.Key.{Key, key_of, key_cmp}
use Rattle.names.specs.Name.{is_label, is_namespace}
use Rattle.names.specs.Resource.{row}
use Rattle.names.specs.declared.format.Format.{Format}
use Rattle.names.specs.declared.format.Format.TheVariants.{First, Second, Third}
use Rattle.names.specs.declared.format.Rules.{Rules}
use Rattle.names.specs.declared.resource.Resource.TheVariants.{Namespace}
use Rattle.objects.specs.Objects.{with_value}
use Rattle.histories.specs.declared.stored.Stored.{Stored}
use Rattle.histories.specs.History as plain
use Rattle.histories.specs.History.{put}
use Rattle.documents.specs.Form.{HasForm}
use Rattle.histories.specs.Mapped.{each, mapped, mapped_write}
use Rattle.requests.specs.Namespaces.{namespace_document, and_name, names_among, namespaces_in_use, namespace_puts}
use Rattle.histories.specs.View as seen
use Rattle.histories.specs.View.{after, after_all, empty, view, MayPut}
use Rattle.histories.specs.Wider.{AreWider, floor_at}
use Rattle.histories.proofs.Mapping.{all_mapped}
use Rattle.histories.proofs.ViewLemmas.{after_all-append, revision-after_all}
use Rattle.histories.proofs.Wider.{views_stay_above_floor}
use Rattle.expressions.specs.Specification.{these}
use Rattle.expressions.proofs.Standing.{no_plans}
use Rattle.decoded.specs.Decoded.{decoded_of}
use Rattle.decoded.specs.Laws.{TreesStay, UpgradesFollow, UpgradesShow}
use Rattle.decoded.specs.Standing.{Write, History, View, HasTrees, IsHistory, AllMayFollow, with_plans, plans_beside}
use Rattle.decoded.specs.Upgraded.{newest, upgraded_rules, unless_objects, new_names, upgrade_writes, rules_behind, upgraded_history, upgraded_revision, HaveForm, HasRoomForUpgrade}
use Rattle.decoded.proofs.Following.{AllMayFollow-append}

-- ---- the rules

wider_of : (f : Format) (floor : ℕ) → AreWider (rules_of f 0) (rules_of newest floor)
unfolding rules_of
wider_of First floor = record { texts = omega arith; objects = omega arith; revisions = omega arith; namespaces = λ has. refl }
wider_of Second floor = record { texts = omega arith; objects = omega arith; revisions = omega arith; namespaces = λ has. refl }
wider_of Third floor = record { texts = omega arith; objects = omega arith; revisions = omega arith; namespaces = λ has. refl }

window_of : (f : Format) (floor : ℕ) → (rules_of f 0).window_events ≤ (rules_of newest floor).window_events
unfolding rules_of
window_of First floor = omega arith
window_of Second floor = omega arith
window_of Third floor = omega arith

none_below : (f : Format) → (rules_of f 0).floor ≡ 0
unfolding rules_of
none_below f = refl

floor_is : (floor : ℕ) → (rules_of newest floor).floor ≡ floor
unfolding rules_of
floor_is floor = refl

has_namespace_objects : (floor : ℕ) → has_resource (rules_of newest floor).format Namespace ≡ true
unfolding rules_of
has_namespace_objects floor = refl

has_long_texts : (floor : ℕ) → 512 ≤ (rules_of newest floor).text_limit_bytes
unfolding rules_of
has_long_texts floor = omega arith

-- those of a format are no wider than those behind an upgrade
pub upgraded-AreWider : (rules : Rules) (revision : ℕ) → rules ≡ rules_of rules.format 0 → AreWider rules (upgraded_rules rules revision)
upgraded-AreWider rules revision is = subst (λ (r : Rules). AreWider r (upgraded_rules rules revision)) (sym is) (wider_of rules.format (floor_at rules.window_events revision))

-- a history is seen under them as it was
pub seen_still : (rules : Rules) (h : History) → rules ≡ rules_of rules.format 0 → view (rules_behind rules h) h ≡ view rules h
seen_still rules h is =
    let floor : ℕ = floor_at rules.window_events (view rules h).revision in
    views_stay_above_floor (List Expr) rules (rules_behind rules h) h (ap (λ (r : Rules). r.floor) is ∙ none_below rules.format)
    (subst (λ n. n ≤ (rules_of newest floor).window_events) (sym (ap (λ (r : Rules). r.window_events) is)) (window_of rules.format floor))
    (floor_is floor)

-- ---- what is seen

pub upgraded-view : (rules : Rules) (h : History) → rules ≡ rules_of rules.format 0
    → view (rules_behind rules h) (upgraded_history rules h) ≡ after_all (rules_behind rules h) (view rules h) (upgrade_writes rules (view rules h))
upgraded-view rules h is =
    after_all-append (rules_behind rules h) empty h (upgrade_writes rules (view rules h))
    ∙ ap (λ (v : View). after_all (rules_behind rules h) v (upgrade_writes rules (view rules h))) (seen_still rules h is)

pub upgraded-revision : (rules : Rules) (h : History) → (view (rules_behind rules h) (upgraded_history rules h)).revision ≡ upgraded_revision rules (view rules h)
upgraded-revision rules h =
    let v : View = view rules h in
    let before : v.revision ≡ 1 + length h = revision-after_all rules empty h in
    let behind : (view (rules_behind rules h) (upgraded_history rules h)).revision ≡ 1 + length (h ++ upgrade_writes rules v) =
    revision-after_all (rules_behind rules h) empty (h ++ upgrade_writes rules v) in
    let count : length (upgrade_writes rules v) ≡ length (new_names rules v) = length-map (new_names rules v) _ in
    omega (arith, before, behind, count, length-append h (upgrade_writes rules v))

-- with something else beside each document
module _ {A B : Type 0} (f : Document → A → B) where
  among_mapped : (os : List (Key × Stored A)) → names_among (each f os) ≡ names_among os
  among_mapped [] = refl
  among_mapped (o ∷ os) = ap (and_name (row o.0.resource).scope o.0.namespace) (among_mapped os)

  pub in_use_mapped : (v : seen.View A) → namespaces_in_use (mapped f v) ≡ namespaces_in_use v
  in_use_mapped v = ap (λ (names : List (List ℕ × Unit {0})). map (λ n. n.0) names) (among_mapped v.objects)

  pub puts_mapped : (beside : Document → A) (names : List (List ℕ)) → map (mapped_write f) (namespace_puts beside names) ≡ namespace_puts (λ d. f d (beside d)) names
  puts_mapped beside [] = refl
  puts_mapped beside (n ∷ names) =
      let d : Document = namespace_document n in
      ap (λ (ws : List (plain.Write B)). put (key_of Namespace [] n) d (f d (beside d)) ∷ ws) (puts_mapped beside names)

pub new_mapped : {A B : Type 0} (f : Document → A → B) (old : Rules) (v : seen.View A) → new_names old (mapped f v) ≡ new_names old v
new_mapped f old v = ap (unless_objects (has_namespaces old.format)) (in_use_mapped f v)

pub upgrades_show : UpgradesShow
upgrades_show rules h is =
    let v : View = view rules h in
    ap with_plans (upgraded-view rules h is)
    ∙ all_mapped plans_beside (rules_behind rules h) v (upgrade_writes rules v)
    ∙ ap (after_all (rules_behind rules h) (with_plans v))
    (puts_mapped plans_beside (λ d. []) (new_names rules v) ∙ ap (namespace_puts (λ d. decoded_of d.json [])) (sym (new_mapped plans_beside rules v)))

-- ---- the document of a Namespace has few bytes

at_most_six : (letter byte : Bool) (x : ℕ) (short long : List ℕ) → length short ≤ 6 → length long ≤ 6 → length (cond letter short (cond byte long (x ∷ []))) ≤ 6
at_most_six true byte x short long a b = a
at_most_six false true x short long a b = b
at_most_six false false x short long a b = omega arith

one_escaped : (x : ℕ) → length (escape_byte x) ≤ 6
unfolding escape_byte
one_escaped x = at_most_six (nat_lt 0 (escape_letter x)) (nat_lt x 32) x _ _ (omega arith) (omega arith)

all_escaped : (s : List ℕ) → length (escape s) ≤ 6 * length s
all_escaped [] = omega arith
all_escaped (x ∷ xs) = omega (arith, one_escaped x, all_escaped xs, length-append (escape_byte x) (escape xs))

name_at_end : (n : List ℕ) → length (((escape n ++ 34 ∷ []) ++ 125 ∷ []) ++ 125 ∷ []) ≤ 3 + 6 * length n
name_at_end n =
    omega (
      arith,
      all_escaped n,
      length-append ((escape n ++ 34 ∷ []) ++ 125 ∷ []) (125 ∷ []),
      length-append (escape n ++ 34 ∷ []) (125 ∷ []),
      length-append (escape n) (34 ∷ []),
    )

text_of_namespace : (n : List ℕ) → length (text (namespace_document n).json) ≤ 100 + 6 * length n
unfolding escape_byte
text_of_namespace n = omega (arith, name_at_end n)

short_name : (n : List ℕ) → is_namespace n ≡ true → length n ≤ 63
short_name n is = let short : nat_le (length n) 63 ≡ true = (and_parts (nat_le (length n) 63) (is_label n) is).0 in grind (arith, nat_tests)

short_text : (floor : ℕ) (n : List ℕ) → is_namespace n ≡ true → length (text (namespace_document n).json) ≤ (rules_of newest floor).text_limit_bytes
short_text floor n is = omega (arith, text_of_namespace n, short_name n is, has_long_texts floor)

-- ---- it has no expressions

has_no_trees : (f : Format) (d : Data) → HasTrees f Namespace d []
has_no_trees f d = record { spelled = refl; alone = λ other spells. spells; held = ap these (no_plans d); short = omega arith }

-- ---- its writes may follow

module _ {X : Type 0} where
  one_more : (k : Key) (x : X) (os : List (Key × X)) → length (with_value k x os) ≤ length os + 1
  one_more k x [] = omega arith
  one_more k x (o ∷ os) =
      elim (key_cmp k o.0) as (λ r. length (by_order r ((k, x) ∷ o ∷ os) ((o.0, x) ∷ os) (o ∷ with_value k x os)) ≤ length (o ∷ os) + 1) [
        | Less ↦ omega arith
        | Equal ↦ omega arith
        | Greater ↦ omega (arith, one_more k x os)
      ]

abbrev put_of : List ℕ → Write
put_of n = put (key_of Namespace [] n) (namespace_document n) []

module _ (floor : ℕ) where
  abbrev behind : Rules
  behind = rules_of newest floor

  may_put : (v : View) (n : List ℕ) → HasForm (key_of Namespace [] n) (namespace_document n) → length v.objects + 1 ≤ behind.object_limit
      → v.revision + 1 ≤ behind.greatest_revision → MayPut behind v (key_of Namespace [] n) (namespace_document n)
  may_put v n form objects revisions = record {
    served = has_namespace_objects floor;
    form = form;
    size = short_text floor n form.key;
    room = inr (omega arith);
    revision = omega arith;
  }

  puts_follow : (v : View) (names : List (List ℕ)) → HaveForm names → length v.objects + length names ≤ behind.object_limit
      → v.revision + length names ≤ behind.greatest_revision → AllMayFollow behind v (namespace_puts (λ d. []) names)
  puts_follow v [] form objects revisions = tt
  puts_follow v (n ∷ names) form objects revisions =
      let more : length (after behind v (put_of n)).objects ≤ length v.objects + 1 = one_more (key_of Namespace [] n) _ v.objects in (
        (may_put v n form.0 (omega arith) (omega arith), has_no_trees behind.format (namespace_document n).json),
        puts_follow (after behind v (put_of n)) names form.1 (omega (arith, more)) (omega arith),
      )

-- where the history is one under the new rules
pub upgrade_follows : (rules : Rules) (h : History) → rules ≡ rules_of rules.format 0 → IsHistory (rules_behind rules h) h → HaveForm (new_names rules (view rules h))
    → HasRoomForUpgrade rules (view rules h) → IsHistory (rules_behind rules h) (upgraded_history rules h)
upgrade_follows rules h is history form room =
    let v : View = view rules h in
    let Follow : View → Type 0 = λ u. AllMayFollow (rules_behind rules h) u (upgrade_writes rules v) in
    let follow : Follow v = puts_follow (floor_at rules.window_events v.revision) v (new_names rules v) form room.objects room.revisions in
    AllMayFollow-append (rules_behind rules h) empty h (upgrade_writes rules v) history (subst Follow (sym (seen_still rules h is)) follow)

pub upgrades_follow : TreesStay → UpgradesFollow
upgrades_follow stay rules h is history form room =
    upgrade_follows rules h is (stay rules (rules_behind rules h) h (upgraded-AreWider rules (view rules h).revision is) history) form room
