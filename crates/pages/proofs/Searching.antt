-- Where a key stands among ascending ones.
use Rattle.std.proofs.Common.{arith, ◌≡◌, ◌≢◌, ◌∙◌, sym, ap, subst, refl, ⊎_elim, ◌<◌, ◌≤◌, ◌+◌, ℕ, zero, suc, add-one, true, false, cond, List, [], ◌∷◌, length, get_or}
use Rattle.std.proofs.lemmas.Bool.{cases_lt}
use Rattle.std.proofs.lemmas.Cmp.{nat_list_cmp_total, tied_itself}
use Rattle.std.specs.FinMap.{find, nat_cmp-IsAntisymmetric, slice_cmp-IsAntisymmetric}
use Rattle.std.specs.Ordering.{is_eq, ordering_reverse}
use Rattle.std.specs.Prelude.{Some, None}
use Rattle.std.specs.declared.cmp.Ordering.{Ordering}
use Rattle.std.specs.declared.cmp.Ordering.TheVariants.{Less, Equal, Greater}
use Rattle.pages.specs.Page.{Entry, bytes_cmp, count, key_at, value_at, entry_at, entries_in, HasOrder}
use Rattle.pages.proofs.Entries.{length-entries_in, get_or-entries_in}

pub same_key : (a b : List ℕ) → bytes_cmp a b ≡ Equal → a ≡ b
same_key a b tie = slice_cmp-IsAntisymmetric nat_cmp-IsAntisymmetric a b tie

pub keys_rise : (bytes : List ℕ) → HasOrder bytes → (j i : ℕ) → i < j → j < count bytes
    → bytes_cmp (key_at i bytes) (key_at j bytes) ≡ Less
keys_rise bytes order zero i l m = absurd (omega arith)
keys_rise bytes order (suc j) i l m =
    let To : ℕ → Type 0 = λ k. bytes_cmp (key_at j bytes) (key_at k bytes) ≡ Less in
    let last : To (suc j) = subst To (add-one j) (order j (omega arith)) in
    let From : ℕ → Type 0 = λ k. bytes_cmp (key_at k bytes) (key_at (suc j) bytes) ≡ Less in
    ⊎_elim
    (λ lt.
    let before = keys_rise bytes order j i lt (omega arith) in
    nat_list_cmp_total.trans (key_at i bytes) (key_at j bytes) (key_at (suc j) bytes) before last)
    (λ past. let same : j ≡ i = omega arith in subst From same last)
    (cases_lt i j)

pub lower_rise : (bytes key : List ℕ) → HasOrder bytes → (middle : ℕ) → middle < count bytes → bytes_cmp (key_at middle bytes) key ≡ Less
    → (k : ℕ) → k < middle + 1 → bytes_cmp (key_at k bytes) key ≡ Less
lower_rise bytes key order middle inside less k l =
    let Is : ℕ → Type 0 = λ j. bytes_cmp (key_at j bytes) key ≡ Less in
    ⊎_elim
    (λ lt. nat_list_cmp_total.trans (key_at k bytes) (key_at middle bytes) key (keys_rise bytes order middle k lt inside) less)
    (λ past. let same : middle ≡ k = omega arith in subst Is same less)
    (cases_lt k middle)

turned : (a b : List ℕ) → bytes_cmp a b ≡ Less → bytes_cmp b a ≡ Greater
turned a b less = nat_list_cmp_total.antisymm b a ∙ ap ordering_reverse less

turned_back : (a b : List ℕ) → bytes_cmp a b ≡ Greater → bytes_cmp b a ≡ Less
turned_back a b greater = nat_list_cmp_total.antisymm b a ∙ ap ordering_reverse greater

pub higher_rise : (bytes key : List ℕ) → HasOrder bytes → (middle : ℕ) → bytes_cmp (key_at middle bytes) key ≡ Greater
    → (k : ℕ) → middle ≤ k → k < count bytes → bytes_cmp (key_at k bytes) key ≡ Greater
higher_rise bytes key order middle greater k low l =
    let Is : ℕ → Type 0 = λ j. bytes_cmp (key_at j bytes) key ≡ Greater in
    ⊎_elim
    (λ lt.
    let below : bytes_cmp key (key_at middle bytes) ≡ Less = turned_back (key_at middle bytes) key greater in
    let behind = keys_rise bytes order k middle lt l in
    turned key (key_at k bytes) (nat_list_cmp_total.trans key (key_at middle bytes) (key_at k bytes) below behind))
    (λ past. let same : middle ≡ k = omega arith in subst Is same greater)
    (cases_lt middle k)

tied : (key : List ℕ) → bytes_cmp key key ≡ Equal
tied key = tied_itself nat_list_cmp_total key

less_apart : (a b : List ℕ) → bytes_cmp a b ≡ Less → a ≢ b
less_apart a b less same = let tie : bytes_cmp a b ≡ Equal = subst (λ (x : List ℕ). bytes_cmp a x ≡ Equal) same (tied a) in cc

greater_apart : (a b : List ℕ) → bytes_cmp a b ≡ Greater → a ≢ b
greater_apart a b greater same = let tie : bytes_cmp a b ≡ Equal = subst (λ (x : List ℕ). bytes_cmp a x ≡ Equal) same (tied a) in cc

pub none_there : (bytes key : List ℕ) (place : ℕ) → ((k : ℕ) → k < place → bytes_cmp (key_at k bytes) key ≡ Less)
    → ((k : ℕ) → place ≤ k → k < count bytes → bytes_cmp (key_at k bytes) key ≡ Greater) → (k : ℕ) → k < count bytes → key_at k bytes ≢ key
none_there bytes key place lower higher k l = ⊎_elim
    (λ lt. less_apart (key_at k bytes) key (lower k lt))
    (λ past. greater_apart (key_at k bytes) key (higher k past l))
    (cases_lt k place)

untied : (a b : List ℕ) → b ≢ a → (o : Ordering) → bytes_cmp a b ≡ o → is_eq o ≡ false
untied a b apart Less is = refl
untied a b apart Equal is = absurd (apart (sym (same_key a b is)))
untied a b apart Greater is = refl

find_none : (key : List ℕ) (entries : List Entry) → ((i : ℕ) (d : Entry) → i < length entries → (get_or entries i d).0 ≢ key)
    → find bytes_cmp key entries ≡ None
find_none key [] apart = refl
find_none key (entry ∷ entries) apart =
    let first : is_eq (bytes_cmp key entry.0) ≡ false = untied key entry.0 (apart 0 entry (omega arith)) (bytes_cmp key entry.0) refl in
    ap (λ b. cond b (Some entry.1) (find bytes_cmp key entries)) first
    ∙ find_none key entries (λ i d l. apart (suc i) d (omega arith))

find_some : (key : List ℕ) (entries : List Entry) (i : ℕ) (d : Entry) → i < length entries
    → ((k : ℕ) (e : Entry) → k < i → (get_or entries k e).0 ≢ key) → (get_or entries i d).0 ≡ key
    → find bytes_cmp key entries ≡ Some (get_or entries i d).1
find_some key [] i d l apart there = absurd (omega arith)
find_some key (entry ∷ entries) zero d l apart there =
    let first : is_eq (bytes_cmp key entry.0) ≡ true = ap is_eq (ap (bytes_cmp key) there ∙ tied key) in
    ap (λ b. cond b (Some entry.1) (find bytes_cmp key entries)) first
find_some key (entry ∷ entries) (suc i) d l apart there =
    let first : is_eq (bytes_cmp key entry.0) ≡ false = untied key entry.0 (apart 0 entry (omega arith)) (bytes_cmp key entry.0) refl in
    ap (λ b. cond b (Some entry.1) (find bytes_cmp key entries)) first
    ∙ find_some key entries i d (omega arith) (λ k e lt. apart (suc k) e (omega arith)) there

pub found_none : (bytes key : List ℕ) → ((i : ℕ) → i < count bytes → key_at i bytes ≢ key) → find bytes_cmp key (entries_in bytes) ≡ None
found_none bytes key apart = find_none key (entries_in bytes) (λ i d l same.
    let inside : i < count bytes = omega (arith, length-entries_in bytes) in
    apart i inside (ap (λ (entry : Entry). entry.0) (sym (get_or-entries_in bytes i d inside)) ∙ same))

pub found_some : (bytes key : List ℕ) → HasOrder bytes → (i : ℕ) → i < count bytes → key_at i bytes ≡ key
    → find bytes_cmp key (entries_in bytes) ≡ Some (value_at i bytes)
found_some bytes key order i inside there =
    let entry = entry_at bytes i in
    let read = get_or-entries_in bytes i entry inside in
    find_some key (entries_in bytes) i entry (omega (arith, length-entries_in bytes)) (λ k e lt same.
    let below : bytes_cmp (key_at k bytes) (key_at i bytes) ≡ Less = keys_rise bytes order i k lt inside in
    less_apart (key_at k bytes) (key_at i bytes) below
    (ap (λ (x : Entry). x.0) (sym (get_or-entries_in bytes k e (omega arith))) ∙ same ∙ sym there))
    (ap (λ (x : Entry). x.0) read ∙ there)
    ∙ ap (λ (x : Entry). Some x.1) read
