-- Entries in order, cut in two.
use Rattle.std.proofs.Common.{arith, ◌≡◌, refl, ap, ◌&&◌, ◌↔◌, ◌+◌, ◌≤◌, ℕ, zero, suc, Bool, true, false, List, [], ◌∷◌, ◌++◌, length, get_or}
use Rattle.std.proofs.lemmas.Bool.{and_parts}
use Rattle.std.proofs.lemmas.Cmp.{nat_list_cmp_total}
use Rattle.std.specs.FinMap.{is_sorted}
use Rattle.std.specs.FinMap.Entries.{below_all}
use Rattle.std.specs.Ordering.{is_lt}
use Rattle.std.specs.declared.cmp.Ordering.{Ordering}
use Rattle.std.specs.declared.cmp.Ordering.TheVariants.{Less, Equal, Greater}
use Rattle.pages.specs.Page.{Entry, bytes_cmp}
use Rattle.checkpoint.specs.Pages.{first_key}
use Rattle.checkpoint.specs.Index.{last_key}

less_from_test : (o : Ordering) → is_lt o ≡ true → o ≡ Less
less_from_test Less h = refl
less_from_test Equal h = cc
less_from_test Greater h = cc

both : (a b : Bool) → a ≡ true → b ≡ true → (a && b) ≡ true
both true b p q = q
both false b p q = cc

below_front : (key : List ℕ) (a b : List Entry) → below_all bytes_cmp key (a ++ b) ≡ true → below_all bytes_cmp key a ≡ true
below_front key [] b h = refl
below_front key (entry ∷ a) b h =
    let parts = and_parts (is_lt (bytes_cmp key entry.0)) (below_all bytes_cmp key (a ++ b)) h in
    both (is_lt (bytes_cmp key entry.0)) (below_all bytes_cmp key a) parts.0 (below_front key a b parts.1)

below_lower : (low key : List ℕ) (entries : List Entry) → bytes_cmp low key ≡ Less → below_all bytes_cmp key entries ≡ true
    → below_all bytes_cmp low entries ≡ true
below_lower low key [] less h = refl
below_lower low key (entry ∷ entries) less h =
    let parts = and_parts (is_lt (bytes_cmp key entry.0)) (below_all bytes_cmp key entries) h in
    let here : bytes_cmp low entry.0 ≡ Less =
    nat_list_cmp_total.trans low key entry.0 less (less_from_test (bytes_cmp key entry.0) parts.0)
    in
    both (is_lt (bytes_cmp low entry.0)) (below_all bytes_cmp low entries) (ap is_lt here) (below_lower low key entries less parts.1)

pub sorted_front : (a b : List Entry) → is_sorted bytes_cmp (a ++ b) ≡ true → is_sorted bytes_cmp a ≡ true
sorted_front [] b h = refl
sorted_front (entry ∷ a) b h =
    let parts = and_parts (below_all bytes_cmp entry.0 (a ++ b)) (is_sorted bytes_cmp (a ++ b)) h in
    both (below_all bytes_cmp entry.0 a) (is_sorted bytes_cmp a) (below_front entry.0 a b parts.0) (sorted_front a b parts.1)

-- the last key of the front is below the first one after it
pub last_below : (a : List Entry) (entry : Entry) (b : List Entry) → 1 ≤ length a → is_sorted bytes_cmp (a ++ entry ∷ b) ≡ true
    → bytes_cmp (last_key a) entry.0 ≡ Less
last_below [] entry b some h = absurd (omega arith)
last_below (last ∷ []) entry b some h =
    let below = (and_parts (below_all bytes_cmp last.0 (entry ∷ b)) (is_sorted bytes_cmp (entry ∷ b)) h).0 in
    less_from_test (bytes_cmp last.0 entry.0) (and_parts (is_lt (bytes_cmp last.0 entry.0)) (below_all bytes_cmp last.0 b) below).0
last_below (first ∷ next ∷ a) entry b some h =
    let rest : List Entry = next ∷ (a ++ entry ∷ b) in
    last_below (next ∷ a) entry b (omega arith) (and_parts (below_all bytes_cmp first.0 rest) (is_sorted bytes_cmp rest) h).1

pub sorted_join : (a : List Entry) (entry : Entry) (b : List Entry) → is_sorted bytes_cmp a ≡ true → is_sorted bytes_cmp (entry ∷ b) ≡ true
    → (1 ≤ length a → bytes_cmp (last_key a) entry.0 ≡ Less) → is_sorted bytes_cmp (a ++ entry ∷ b) ≡ true
sorted_join [] entry b front back less = back
sorted_join (last ∷ []) entry b front back less =
    let here : bytes_cmp last.0 entry.0 ≡ Less = less (omega arith) in
    let parts = and_parts (below_all bytes_cmp entry.0 b) (is_sorted bytes_cmp b) back in
    let above : below_all bytes_cmp last.0 (entry ∷ b) ≡ true =
    both (is_lt (bytes_cmp last.0 entry.0)) (below_all bytes_cmp last.0 b) (ap is_lt here) (below_lower last.0 entry.0 b here parts.0)
    in
    both (below_all bytes_cmp last.0 (entry ∷ b)) (is_sorted bytes_cmp (entry ∷ b)) above back
sorted_join (first ∷ next ∷ a) entry b front back less =
    let rest : List Entry = next ∷ (a ++ entry ∷ b) in
    let parts = and_parts (below_all bytes_cmp first.0 (next ∷ a)) (is_sorted bytes_cmp (next ∷ a)) front in
    let here : bytes_cmp first.0 next.0 ≡ Less =
    less_from_test (bytes_cmp first.0 next.0) (and_parts (is_lt (bytes_cmp first.0 next.0)) (below_all bytes_cmp first.0 a) parts.0).0
    in
    let behind : is_sorted bytes_cmp rest ≡ true = sorted_join (next ∷ a) entry b parts.1 back (λ _. less (omega arith)) in
    let next_below : below_all bytes_cmp next.0 (a ++ entry ∷ b) ≡ true =
    (and_parts (below_all bytes_cmp next.0 (a ++ entry ∷ b)) (is_sorted bytes_cmp (a ++ entry ∷ b)) behind).0
    in
    let above : below_all bytes_cmp first.0 rest ≡ true =
    both (is_lt (bytes_cmp first.0 next.0)) (below_all bytes_cmp first.0 (a ++ entry ∷ b)) (ap is_lt here)
    (below_lower first.0 next.0 (a ++ entry ∷ b) here next_below)
    in
    both (below_all bytes_cmp first.0 rest) (is_sorted bytes_cmp rest) above behind

-- whether the keys still ascend is seen where the two meet
pub sorted_where_met : (a page : List Entry) → is_sorted bytes_cmp a ≡ true → is_sorted bytes_cmp page ≡ true → 1 ≤ length a → 1 ≤ length page
    → (bytes_cmp (last_key a) (first_key page) ≡ Less) ↔ (is_sorted bytes_cmp (a ++ page) ≡ true)
sorted_where_met a [] front back some more = absurd (omega arith)
sorted_where_met a (entry ∷ b) front back some more =
    (λ less. sorted_join a entry b front back (λ _. less), λ sorted. last_below a entry b some sorted)

pub last_key-append : (a b : List Entry) → 1 ≤ length b → last_key (a ++ b) ≡ last_key b
last_key-append [] b some = refl
last_key-append (entry ∷ []) [] some = absurd (omega arith)
last_key-append (entry ∷ []) (next ∷ b) some = refl
last_key-append (entry ∷ next ∷ a) b some = last_key-append (next ∷ a) b some

pub last_key-at : (entries : List Entry) (i : ℕ) (d : Entry) → i + 1 ≡ length entries → (get_or entries i d).0 ≡ last_key entries
last_key-at [] i d is = absurd (omega arith)
last_key-at (entry ∷ []) zero d is = refl
last_key-at (entry ∷ []) (suc i) d is = absurd (omega arith)
last_key-at (entry ∷ next ∷ entries) zero d is = absurd (omega arith)
last_key-at (entry ∷ next ∷ entries) (suc i) d is = last_key-at (next ∷ entries) i d (omega arith)

pub first_key-at : (entries : List Entry) (d : Entry) → 1 ≤ length entries → (get_or entries 0 d).0 ≡ first_key entries
first_key-at [] d some = absurd (omega arith)
first_key-at (entry ∷ entries) d some = refl
