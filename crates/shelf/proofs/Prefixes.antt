-- Keys that begin with a prefix, among ascending keys.
use Rattle.std.proofs.Common.{◌≡◌, ℕ, true, false, cond, List, [], ◌∷◌, ◌++◌, length, drop, refl, sym, ap, ◌∙◌, ⊎_elim}
use Rattle.std.proofs.lemmas.Bool.{cases_Bool, true≢false}
use Rattle.std.proofs.lemmas.Bool.Decides.{Decides-eqb}
use Rattle.std.proofs.lemmas.Cmp.{nat_cmp_total, tied_itself}
use Rattle.std.proofs.lemmas.Slice.Eq.{starts_is}
use Rattle.std.specs.FinMap.{nat_cmp-IsAntisymmetric}
use Rattle.std.specs.Ordering.{nat_cmp, ordering_then}
use Rattle.std.specs.declared.cmp.Ordering.{Ordering}
use Rattle.std.specs.declared.cmp.Ordering.TheVariants.{Less, Equal, Greater}
use Rattle.pages.specs.Page.{Entry, bytes_cmp}
use Rattle.shelf.specs.Prefix.{begins, beginning}
use Rattle.shelf.proofs.Order.{AllAbove, AllBelow, turned}

pub begins-split : (prefix key : List ℕ) → begins prefix key ≡ true → key ≡ prefix ++ drop (length prefix) key
begins-split prefix key h = (starts_is Decides-eqb key prefix (begins prefix key) refl).0 h

pub begins-joined : (prefix key rest : List ℕ) → key ≡ prefix ++ rest → begins prefix key ≡ true
begins-joined prefix key rest h = (starts_is Decides-eqb key prefix (begins prefix key) refl).1 rest h

-- a prefix is not above what begins with it
not_lower : (prefix rest : List ℕ) → bytes_cmp (prefix ++ rest) prefix ≡ Less → ⊥
not_lower [] [] h = cc
not_lower [] (x ∷ rest) h = cc
not_lower (p ∷ prefix) rest h =
    not_lower prefix rest (sym (ap (λ o. ordering_then o (bytes_cmp (prefix ++ rest) prefix)) (tied_itself nat_cmp_total p)) ∙ h)

pub not_below : (prefix key : List ℕ) → begins prefix key ≡ true → bytes_cmp key prefix ≡ Less → ⊥
not_below prefix key h below =
    not_lower prefix (drop (length prefix) key) (ap (λ (k : List ℕ). bytes_cmp k prefix) (sym (begins-split prefix key h)) ∙ below)

greater_is_not_less : Greater ≡ Less → ⊥
greater_is_not_less h = cc

less_is_not_greater : Less ≡ Greater → ⊥
less_is_not_greater h = cc

not_both : (a b : List ℕ) → bytes_cmp a b ≡ Less → bytes_cmp b a ≡ Less → ⊥
not_both a b p q = less_is_not_greater (sym q ∙ turned a b p)

between_first : (p k : ℕ) (prefix key : List ℕ) (low high : Ordering) → (o : Ordering) → nat_cmp p k ≡ o
    → ordering_then (nat_cmp p k) low ≡ Less → (ordering_then (nat_cmp p k) high ≡ Less → ⊥)
    → (low ≡ Less → (high ≡ Less → ⊥) → key ≡ prefix ++ drop (length prefix) key)
    → k ∷ key ≡ p ∷ (prefix ++ drop (length prefix) key)
between_first p k prefix key low high Less is above below more = absurd (below (ap (λ o. ordering_then o high) is))
between_first p k prefix key low high Equal is above below more =
    let same : k ≡ p = sym (nat_cmp-IsAntisymmetric p k is) in
    let rest : key ≡ prefix ++ drop (length prefix) key =
    more (sym (ap (λ o. ordering_then o low) is) ∙ above) (λ less. below (ap (λ o. ordering_then o high) is ∙ less))
    in
    λ i. same i ∷ rest i
between_first p k prefix key low high Greater is above below more =
    absurd (greater_is_not_less (sym (ap (λ o. ordering_then o low) is) ∙ above))

-- what lies above a prefix, and not above something that begins with it, begins with it
between : (prefix key rest : List ℕ) → bytes_cmp prefix key ≡ Less → (bytes_cmp (prefix ++ rest) key ≡ Less → ⊥) → key ≡ prefix ++ drop (length prefix) key
between [] key rest above below = refl
between (p ∷ prefix) [] rest above below = absurd (greater_is_not_less above)
between (p ∷ prefix) (k ∷ key) rest above below =
    between_first p k prefix key (bytes_cmp prefix key) (bytes_cmp (prefix ++ rest) key) (nat_cmp p k) refl above below (between prefix key rest)

pub begins_between : (prefix key high : List ℕ) → bytes_cmp prefix key ≡ Less → begins prefix high ≡ true → (bytes_cmp high key ≡ Less → ⊥) → begins prefix key ≡ true
begins_between prefix key high above h not_above =
    let split = begins-split prefix high h in
    begins-joined prefix key (drop (length prefix) key)
    (between prefix key (drop (length prefix) high) above (λ less. not_above (ap (λ (k : List ℕ). bytes_cmp k key) split ∙ less)))

-- ---- entries of which none begins so

none : (prefix : List ℕ) (entry : Entry) (entries : List Entry) → (begins prefix entry.0 ≡ true → ⊥) → beginning prefix entries ≡ [] → beginning prefix (entry ∷ entries) ≡ []
none prefix entry entries never rest =
    let fails : begins prefix entry.0 ≡ false = ⊎_elim (λ passes. absurd (never passes)) (λ fails. fails) (cases_Bool (begins prefix entry.0)) in
    ap (λ b. cond b (entry ∷ beginning prefix entries) (beginning prefix entries)) fails ∙ rest

pub beginning-below : (prefix : List ℕ) (entries : List Entry) → AllBelow prefix entries → beginning prefix entries ≡ []
beginning-below prefix [] below = refl
beginning-below prefix (entry ∷ entries) below =
    none prefix entry entries (λ h. not_below prefix entry.0 h below.0) (beginning-below prefix entries below.1)

-- behind a key that is above the prefix and does not begin so
pub beginning-above : (prefix key : List ℕ) (entries : List Entry) → bytes_cmp prefix key ≡ Less → begins prefix key ≡ false → AllAbove key entries → beginning prefix entries ≡ []
beginning-above prefix key [] above never higher = refl
beginning-above prefix key (entry ∷ entries) above never higher =
    none prefix entry entries
    (λ h. true≢false (sym (begins_between prefix key entry.0 above h (λ less. not_both key entry.0 higher.0 less)) ∙ never))
    (beginning-above prefix key entries above never higher.1)
