-- Entries that are below a key, or above it.
use Rattle.std.proofs.Common.{◌≡◌, ℕ, true, false, cond, List, [], ◌∷◌, ◌++◌, refl, ap, ◌∙◌}
use Rattle.std.proofs.lemmas.Bool.{and_parts}
use Rattle.std.proofs.lemmas.Cmp.{nat_list_cmp_total}
use Rattle.std.specs.FinMap.{find, is_sorted}
use Rattle.std.specs.FinMap.Entries.{below_all}
use Rattle.std.specs.Ordering.{is_lt, is_eq, ordering_reverse}
use Rattle.std.specs.Prelude.{Option, Some, None}
use Rattle.std.specs.declared.cmp.Ordering.{Ordering}
use Rattle.std.specs.declared.cmp.Ordering.TheVariants.{Less, Equal, Greater}
use Rattle.pages.specs.Page.{Entry, bytes_cmp}

less_from_test : (o : Ordering) → is_lt o ≡ true → o ≡ Less
less_from_test Less h = refl
less_from_test Equal h = cc
less_from_test Greater h = cc

abbrev pub AllAbove : List ℕ → List Entry → Type 0
AllAbove key [] = Unit {0}
AllAbove key (entry ∷ entries) = (bytes_cmp key entry.0 ≡ Less) × AllAbove key entries

abbrev pub AllBelow : List ℕ → List Entry → Type 0
AllBelow key [] = Unit {0}
AllBelow key (entry ∷ entries) = (bytes_cmp entry.0 key ≡ Less) × AllBelow key entries

pub turned : (a b : List ℕ) → bytes_cmp a b ≡ Less → bytes_cmp b a ≡ Greater
turned a b h = nat_list_cmp_total.antisymm b a ∙ ap ordering_reverse h

pub turned_back : (a b : List ℕ) → bytes_cmp a b ≡ Greater → bytes_cmp b a ≡ Less
turned_back a b h = nat_list_cmp_total.antisymm b a ∙ ap ordering_reverse h

-- below what is not below another key is below that
pub less_then : (a b c : List ℕ) → bytes_cmp a b ≡ Less → (bytes_cmp c b ≡ Less → ⊥) → bytes_cmp a c ≡ Less
less_then a b c below not_below = step (bytes_cmp c b) refl
  where
    step : (o : Ordering) → bytes_cmp c b ≡ o → bytes_cmp a c ≡ Less
    step Less is = absurd (not_below is)
    step Equal is =
        let alike : bytes_cmp c a ≡ bytes_cmp b a = nat_list_cmp_total.congr c b a is in
        turned_back c a (alike ∙ turned a b below)
    step Greater is = nat_list_cmp_total.trans a b c below (turned_back c b is)

-- ---- what is found

abbrev pub or_else : {A : Type 0} → Option A → Option A → Option A
or_else (Some x) y = Some x
or_else None y = y

pub or_else-none : {A : Type 0} (x : Option A) → or_else x None ≡ x
or_else-none (Some x) = refl
or_else-none None = refl

pub find-append : (key : List ℕ) (a b : List Entry) → find bytes_cmp key (a ++ b) ≡ or_else (find bytes_cmp key a) (find bytes_cmp key b)
find-append key [] b = refl
find-append key (entry ∷ a) b =
    elim (is_eq (bytes_cmp key entry.0)) as (λ t. cond t (Some entry.1) (find bytes_cmp key (a ++ b)) ≡ or_else (cond t (Some entry.1) (find bytes_cmp key a)) (find bytes_cmp key b)) [
      | true ↦ refl
      | false ↦ find-append key a b
    ]

pub find-above : (key : List ℕ) (entries : List Entry) → AllAbove key entries → find bytes_cmp key entries ≡ None
find-above key [] h = refl
find-above key (entry ∷ entries) h = ap (λ o. cond (is_eq o) (Some entry.1) (find bytes_cmp key entries)) h.0 ∙ find-above key entries h.1

pub find-below : (key : List ℕ) (entries : List Entry) → AllBelow key entries → find bytes_cmp key entries ≡ None
find-below key [] h = refl
find-below key (entry ∷ entries) h =
    ap (λ o. cond (is_eq o) (Some entry.1) (find bytes_cmp key entries)) (turned entry.0 key h.0) ∙ find-below key entries h.1

-- ---- along ascending entries

above-from_test : (key : List ℕ) (entries : List Entry) → below_all bytes_cmp key entries ≡ true → AllAbove key entries
above-from_test key [] h = tt
above-from_test key (entry ∷ entries) h =
    let parts = and_parts (is_lt (bytes_cmp key entry.0)) (below_all bytes_cmp key entries) h in
    (less_from_test (bytes_cmp key entry.0) parts.0, above-from_test key entries parts.1)

pub above-lower : (low key : List ℕ) (entries : List Entry) → bytes_cmp low key ≡ Less → AllAbove key entries → AllAbove low entries
above-lower low key [] h above = tt
above-lower low key (entry ∷ entries) h above =
    (nat_list_cmp_total.trans low key entry.0 h above.0, above-lower low key entries h above.1)

pub below-higher : (key high : List ℕ) (entries : List Entry) → (bytes_cmp high key ≡ Less → ⊥) → AllBelow key entries → AllBelow high entries
below-higher key high [] h below = tt
below-higher key high (entry ∷ entries) h below = (less_then entry.0 key high below.0 h, below-higher key high entries h below.1)

pub first_above : (entry : Entry) (entries : List Entry) → is_sorted bytes_cmp (entry ∷ entries) ≡ true → AllAbove entry.0 entries
first_above entry entries h = above-from_test entry.0 entries (and_parts (below_all bytes_cmp entry.0 entries) (is_sorted bytes_cmp entries) h).0

pub rest_sorted : (entry : Entry) (entries : List Entry) → is_sorted bytes_cmp (entry ∷ entries) ≡ true → is_sorted bytes_cmp entries ≡ true
rest_sorted entry entries h = (and_parts (below_all bytes_cmp entry.0 entries) (is_sorted bytes_cmp entries) h).1

pub sorted-behind : (a b : List Entry) → is_sorted bytes_cmp (a ++ b) ≡ true → is_sorted bytes_cmp b ≡ true
sorted-behind [] b h = h
sorted-behind (entry ∷ a) b h = sorted-behind a b (rest_sorted entry (a ++ b) h)

above-at : (key : List ℕ) (a : List Entry) (f : Entry) (b : List Entry) → AllAbove key (a ++ f ∷ b) → bytes_cmp key f.0 ≡ Less
above-at key [] f b h = h.0
above-at key (entry ∷ a) f b h = above-at key a f b h.1

pub sorted-before : (a : List Entry) (f : Entry) (b : List Entry) → is_sorted bytes_cmp (a ++ f ∷ b) ≡ true → AllBelow f.0 a
sorted-before [] f b h = tt
sorted-before (entry ∷ a) f b h = (above-at entry.0 a f b (first_above entry (a ++ f ∷ b) h), sorted-before a f b (rest_sorted entry (a ++ f ∷ b) h))
