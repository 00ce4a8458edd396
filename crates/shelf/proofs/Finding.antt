-- The page of a key.
use Rattle.std.proofs.Common.{◌≡◌, ⊎_elim, ℕ, zero, suc, List, [], ◌∷◌, ◌++◌, length, get_or, take, drop, ◌+◌, ◌<◌, refl, sym, ap, subst, ◌∙◌, arith}
use Rattle.std.proofs.lemmas.Bool.{cases_lt}
use Rattle.std.proofs.lemmas.List.{drop_more, drop_all, take-append-drop}
use Rattle.std.specs.FinMap.{find, is_sorted}
use Rattle.std.specs.Prelude.{None, true}
use Rattle.std.specs.declared.cmp.Ordering.TheVariants.{Less}
use Rattle.pages.specs.Page.{Entry, bytes_cmp}
use Rattle.checkpoint.specs.Pages.{joined, first_key, NoneEmpty}
use Rattle.checkpoint.proofs.Joining.{joined-append}
use Rattle.shelf.proofs.Order.{AllAbove, AllBelow, or_else, or_else-none, find-append, find-above, find-below, above-lower, below-higher, first_above, sorted-behind, sorted-before}

-- the pages before one, that page, and those behind it
pub parted : (pages : List (List Entry)) (n : ℕ) → n < length pages
    → joined pages ≡ joined (take n pages) ++ (get_or pages n [] ++ joined (drop (n + 1) pages))
parted pages n inside =
    ap joined (sym (take-append-drop n pages)) ∙ joined-append (take n pages) (drop n pages)
    ∙ ap (λ (ps : List (List Entry)). joined (take n pages) ++ joined ps) (drop_more pages n [] inside)

pub some_at : (pages : List (List Entry)) (n : ℕ) → NoneEmpty pages → n < length pages → get_or pages n [] ≡ [] → ⊥
some_at [] n some inside = absurd (omega arith)
some_at (page ∷ pages) zero some inside = some.0
some_at (page ∷ pages) (suc n) some inside = some_at pages n some.1 (omega arith)

-- the keys before a page that does not begin above the key are below it
pub front_below : (pages : List (List Entry)) (n : ℕ) (key : List ℕ) → NoneEmpty pages → is_sorted bytes_cmp (joined pages) ≡ true → n < length pages
    → (bytes_cmp key (first_key (get_or pages n [])) ≡ Less → ⊥) → AllBelow key (joined (take n pages))
front_below pages n key some sorted inside not_above =
    step (get_or pages n []) (some_at pages n some inside) not_above (ap (λ (es : List Entry). is_sorted bytes_cmp es) (sym (parted pages n inside)) ∙ sorted)
  where
    step : (page : List Entry) → (page ≡ [] → ⊥) → (bytes_cmp key (first_key page) ≡ Less → ⊥)
        → is_sorted bytes_cmp (joined (take n pages) ++ (page ++ joined (drop (n + 1) pages))) ≡ true → AllBelow key (joined (take n pages))
    step [] some_there not_above all = absurd (some_there refl)
    step (entry ∷ entries) some_there not_above all =
        below-higher entry.0 key (joined (take n pages)) not_above
        (sorted-before (joined (take n pages)) entry (entries ++ joined (drop (n + 1) pages)) all)

-- the keys from a page on that begins above the key are above it
pub back_above : (pages : List (List Entry)) (n : ℕ) (key : List ℕ) → NoneEmpty pages → is_sorted bytes_cmp (joined pages) ≡ true → n < length pages
    → bytes_cmp key (first_key (get_or pages n [])) ≡ Less → AllAbove key (joined (drop n pages))
back_above pages n key some sorted inside above =
    subst (λ (ps : List (List Entry)). AllAbove key (joined ps)) (sym (drop_more pages n [] inside))
    (step (get_or pages n []) (some_at pages n some inside) above (ap (λ (es : List Entry). is_sorted bytes_cmp es) (sym (parted pages n inside)) ∙ sorted))
  where
    step : (page : List Entry) → (page ≡ [] → ⊥) → bytes_cmp key (first_key page) ≡ Less
        → is_sorted bytes_cmp (joined (take n pages) ++ (page ++ joined (drop (n + 1) pages))) ≡ true → AllAbove key (page ++ joined (drop (n + 1) pages))
    step [] some_there above all = absurd (some_there refl)
    step (entry ∷ entries) some_there above all =
        let back = sorted-behind (joined (take n pages)) (entry ∷ (entries ++ joined (drop (n + 1) pages))) all in
        (above, above-lower key entry.0 (entries ++ joined (drop (n + 1) pages)) above (first_above entry (entries ++ joined (drop (n + 1) pages)) back))

-- what a first page is not found in
pub found_nowhere : (pages : List (List Entry)) (key : List ℕ) → NoneEmpty pages → is_sorted bytes_cmp (joined pages) ≡ true
    → (0 < length pages → bytes_cmp key (first_key (get_or pages 0 [])) ≡ Less) → find bytes_cmp key (joined pages) ≡ None
found_nowhere [] key some sorted above = refl
found_nowhere (page ∷ pages) key some sorted above =
    find-above key (joined (page ∷ pages)) (back_above (page ∷ pages) 0 key some sorted (omega arith) (above (omega arith)))

-- The last page that does not begin above a key is the page of the key.
pub found_at : (pages : List (List Entry)) (n : ℕ) (key : List ℕ) → NoneEmpty pages → is_sorted bytes_cmp (joined pages) ≡ true → n < length pages
    → (bytes_cmp key (first_key (get_or pages n [])) ≡ Less → ⊥) → (n + 1 < length pages → bytes_cmp key (first_key (get_or pages (n + 1) [])) ≡ Less)
    → find bytes_cmp key (joined pages) ≡ find bytes_cmp key (get_or pages n [])
found_at pages n key some sorted inside not_above above =
    let front = find-below key (joined (take n pages)) (front_below pages n key some sorted inside not_above) in
    let page : List Entry = get_or pages n [] in
    ap (find bytes_cmp key) (parted pages n inside)
    ∙ find-append key (joined (take n pages)) (page ++ joined (drop (n + 1) pages))
    ∙ ap (λ found. or_else found (find bytes_cmp key (page ++ joined (drop (n + 1) pages)))) front
    ∙ find-append key page (joined (drop (n + 1) pages))
    ∙ ap (or_else (find bytes_cmp key page)) behind
    ∙ or_else-none (find bytes_cmp key page)
  where
    behind : find bytes_cmp key (joined (drop (n + 1) pages)) ≡ None
    behind =
        ⊎_elim
        (λ more. find-above key (joined (drop (n + 1) pages)) (back_above pages (n + 1) key some sorted more (above more)))
        (λ all. ap (λ (ps : List (List Entry)). find bytes_cmp key (joined ps)) (drop_all (n + 1) pages all))
        (cases_lt (n + 1) (length pages))
