-- What is found in a core, as it is looked up.
use Rattle.std.proofs.Common.{◌≡◌, ◌∙◌, sym, ap, refl, subst, List, [], ◌∷◌, length, map, nat_le, Bool, true, false, cond, ◌&&◌, ◌==◌, option_map, option_and_then, if◌then◌else◌, Option, Some, None, IsTrue}
use Rattle.std.specs.FinMap.{is_sorted}
use Rattle.std.specs.FinMap.Entries.{below_all}
use Rattle.std.specs.List.{AllByRecursion}
use Rattle.std.specs.Ordering.{is_lt}
use Rattle.serde_json.specs.Data.{Data}
use Rattle.celtree.specs.Tree.{Expr}
use Rattle.names.specs.Key.{Key, key_cmp}
use Rattle.names.specs.Resource.{row}
use Rattle.names.specs.declared.resource.Resource.{Resource}
use Rattle.names.specs.declared.resource.Resource.TheVariants.{ConfigMap, Node, Pod, Service, Deployment, ValidatingAdmissionPolicy, ValidatingAdmissionPolicyBinding, Namespace}
use Rattle.objects.specs.Objects.{value_at, is_of}
use Rattle.objects.specs.Covered.{AreCovered}
use Rattle.objects.specs.Merged.{over}
use Rattle.objects.proofs.Covering.{found_where_covered}
use Rattle.holdings.specs.Holdings as holdings
use Rattle.holdings.specs.Holdings.{State}
use Rattle.histories.specs.declared.stored.Stored.{Stored}
use Rattle.histories.specs.Mapped.{each}
use Rattle.histories.specs.View as seen
use Rattle.policy.specs.Forms.{Text}
use Rattle.policy.specs.Policies.{policy_of}
use Rattle.policy.specs.Spec.{Policy, Wanted}
use Rattle.expressions.specs.Expressions.{sources}
use Rattle.expressions.specs.Typed.{AreTyped}
use Rattle.names.specs.declared.format.Format.{Format}
use Rattle.expressions.specs.Places.{policy_in}
use Rattle.expressions.proofs.Standing.{counted_policy}
use Rattle.verdict.specs.Objects as asked
use Rattle.verdict.specs.Objects.{Held, Objects, all_held, shown_objects}
use Rattle.verdict.specs.Listed.{listed, wanted_of}
use Rattle.verdict.specs.LookupSeen.{shown_held}
use Rattle.expressions.proofs.Standing.{counted_policy}
use Rattle.verdict.proofs.LookupStanding.{listed-map, value_at-map, shown_listed}
use Rattle.decoded.specs.Decoded.{Decoded}
use Rattle.decoded.specs.Shown.{plans_held, HasNoRules, Shows}
use Rattle.apicore.specs.StoreLookups.{held_of, entry_held}
use Rattle.decoded.specs.Standing.{View, IsView, HasTrees, plans_beside}
use Rattle.apicore.specs.Attempts.{object_of, objects_of}

abbrev Stands : Type 0
Stands = Stored Decoded

-- ---- looking up

pub value_found : (key : Key) (os : List (Key × Stands)) → value_at key (map entry_held os) ≡ option_map held_of (value_at key os)
value_found key os = value_at-map held_of key os

pub listed_found : (r : Resource) (n : Option Text) (os : List (Key × Stands)) → listed r n (map entry_held os) ≡ map entry_held (listed r n os)
listed_found r n os = listed-map held_of r n os

is_policy : (k : Key) → k.resource ≡ ValidatingAdmissionPolicy → IsTrue (is_of ValidatingAdmissionPolicy None k)
is_policy k is = ap (λ (r : Resource). (row r).number == (row ValidatingAdmissionPolicy).number) is

-- a policy is found among the changes, since none lies below
pub policy_found : (core : State Decoded) (base : List (Key × Stands)) (held : seen.View Decoded) (all : List (Key × Held)) (k : Key) (change : Option (Option Stands))
    → holdings.Shows core base held → HasNoRules base → map entry_held held.objects ≡ all → k.resource ≡ ValidatingAdmissionPolicy → change ≡ value_at k core.changes.made
    → option_map held_of (over change None) ≡ value_at k all
policy_found core base held all k change shows free are is changes =
    ap (λ (c : Option (Option Stands)). option_map held_of (over c None)) changes
    ∙ ap (option_map held_of) (sym (found_where_covered ValidatingAdmissionPolicy k core.changes.made base (λ key of _. free.policies key of refl) (is_policy k is)))
    ∙ ap (λ (os : List (Key × Stands)). option_map held_of (value_at k os)) shows.objects.are
    ∙ sym (value_found k held.objects)
    ∙ ap (value_at k) are

-- and all bindings are listed
pub bindings_found : (r : Resource) (os : List (Key × Stands)) (all : List (Key × Held)) (lent : List (Key × Stands)) (hs : List (Key × Held)) → hs ≡ map entry_held lent → lent ≡ listed r None os
    → map entry_held os ≡ all → hs ≡ listed r None all
bindings_found r os all lent hs shown_all are held_all =
    shown_all ∙ ap (map entry_held) are ∙ sym (listed_found r None os) ∙ ap (λ (ps : List (Key × Held)). listed r None ps) held_all

pub bindings_covered : (changes : List (Key × Option Stands)) (base : List (Key × Stands)) → HasNoRules base → AreCovered ValidatingAdmissionPolicyBinding changes base
bindings_covered changes base free = λ key of _. free.bindings key of refl

-- what is wanted of what is listed, as it is shown
pub parameters_found : (w : Wanted) (r : Resource) (n : Text) (os : List (Key × Stands)) (objects : Objects) (hs : List (Key × Held)) (ds : List Data)
    → ds ≡ wanted_of w (map shown_held hs) → hs ≡ map entry_held (listed r (Some n) os) → map entry_held os ≡ all_held objects
    → ds ≡ wanted_of w (listed r (Some n) (shown_objects objects))
parameters_found w r n os objects hs ds wanted lent shows =
    let held_there = lent ∙ sym (listed_found r (Some n) os) ∙ ap (λ (ps : List (Key × Held)). listed r (Some n) ps) shows in
    wanted ∙ ap (λ (ps : List (Key × Held)). wanted_of w (map shown_held ps)) held_there ∙ ap (λ (ps : List (Key × Data)). wanted_of w ps) (shown_listed r (Some n) objects)

-- ---- what a core shows it has

abbrev planned : Stored Decoded → Held
planned s = held_of s

abbrev all_planned : List (Key × Stored Decoded) → List (Key × Held)
all_planned os = map (λ o. (o.0, planned o.1)) os

held_planned : (os : List (Key × Stands)) → all_planned (each plans_held os) ≡ map entry_held os
held_planned [] = refl
held_planned (o ∷ os) = ap (λ (rest : List (Key × Held)). entry_held o ∷ rest) (held_planned os)

beside_planned : (os : List (Key × Stored (List Expr))) → all_planned (each plans_beside os) ≡ all_held (map (λ o. (o.0, object_of o.1)) os)
beside_planned [] = refl
beside_planned (o ∷ os) = ap (λ (rest : List (Key × Held)). (o.0, asked.held (object_of o.1)) ∷ rest) (beside_planned os)

pub held_shown : (core : seen.View Decoded) (v : View) → Shows core v → map entry_held core.objects ≡ all_held (objects_of v)
held_shown core v shows =
    sym (held_planned core.objects) ∙ ap (λ (u : seen.View Decoded). all_planned u.objects) shows ∙ beside_planned v.objects

module _ {A B : Type 0} (f : A → B) where
  below_map : (key : Key) (os : List (Key × A)) → below_all key_cmp key (map (λ o. (o.0, f o.1)) os) ≡ below_all key_cmp key os
  below_map key [] = refl
  below_map key (o ∷ os) = ap (λ (b : Bool). is_lt (key_cmp key o.0) && b) (below_map key os)

  -- whether keys ascend lies not in what stands under them
  pub sorted_map : (os : List (Key × A)) → is_sorted key_cmp (map (λ o. (o.0, f o.1)) os) ≡ is_sorted key_cmp os
  sorted_map [] = refl
  sorted_map (o ∷ os) =
      ap (λ (b : Bool). b && is_sorted key_cmp (map (λ p. (p.0, f p.1)) os)) (below_map o.0 os)
      ∙ ap (λ (b : Bool). below_all key_cmp o.0 os && b) (sorted_map os)

pub sees_shown : (f : Format) (core : seen.View Decoded) (v : View) → Shows core v → IsView f v
    → (map entry_held core.objects ≡ all_held (objects_of v)) × IsTrue (is_sorted key_cmp (objects_of v))
sees_shown f core v shows is_view = (held_shown core v shows, sorted_map object_of v.objects ∙ is_view.ascends)

-- ---- the trees of policies

one_policy : (p q : Policy) (b : Bool) → cond b (Some p) None ≡ Some q → q ≡ p
one_policy p q true same = let e : p ≡ q = cc in sym e
one_policy p q false same = absurd (let never : ◌≡◌ {A = Option Policy} None (Some q) = same in cc)

policy_is : (d : Data) (p q : Policy) → policy_of d ≡ Some p → policy_in d ≡ Some q → q ≡ p
policy_is d p q spelled stands =
    one_policy p q (nat_le (length (sources p)) 65535)
    (sym (ap (λ (o : Option Policy). option_and_then (λ x. if nat_le (length (sources x)) 65535 then Some x else None) o) spelled) ∙ stands)

trees_of : (f : Format) (r : Resource) (o : Stored (List Expr)) → HasTrees f r o.document.json o.beside → asked.HasTrees r (object_of o)
trees_of f ValidatingAdmissionPolicy o has = λ p spelled.
    let stands = has.spelled in
    (f, subst (λ (q : Policy). AreTyped f q [] (sources q) o.beside) (policy_is o.document.json p stands.0 spelled (counted_policy f o.document.json stands.0 stands.1)) stands.2)
trees_of f ConfigMap o has = tt
trees_of f Node o has = tt
trees_of f Pod o has = tt
trees_of f Service o has = tt
trees_of f Deployment o has = tt
trees_of f ValidatingAdmissionPolicyBinding o has = tt
trees_of f Namespace o has = tt

all_trees : (f : Format) (os : List (Key × Stored (List Expr))) → AllByRecursion (λ o. HasTrees f o.0.resource o.1.document.json o.1.beside) os
    → asked.HaveTrees (map (λ o. (o.0, object_of o.1)) os)
all_trees f [] have = tt
all_trees f (o ∷ os) have = (trees_of f o.0.resource o.1 have.0, all_trees f os have.1)

pub have_trees : (f : Format) (v : View) → IsView f v → asked.HaveTrees (objects_of v)
have_trees f v is_view = all_trees f v.objects is_view.trees
