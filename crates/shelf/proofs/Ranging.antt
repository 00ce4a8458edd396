-- The pages that may have keys with a prefix.
use Rattle.std.proofs.Common.{◌≡◌, ◌⊎◌, inl, inr, cond, ℕ, List, [], ◌∷◌, ◌++◌, length, get_or, take, drop, ◌+◌, ◌-◌, ◌≤◌, ◌<◌, refl, sym, ap, ◌∙◌, arith}
use Rattle.std.proofs.lemmas.List.{append-nil, drop_all, drop_more, drop-drop, get_or-drop, length-drop, take_more, take-append-drop, take-take}
use Rattle.std.proofs.lemmas.List.Elements.{filter-append}
use Rattle.std.specs.FinMap.{is_sorted}
use Rattle.std.specs.Prelude.{true, false}
use Rattle.std.specs.declared.cmp.Ordering.TheVariants.{Less}
use Rattle.pages.specs.Page.{Entry, bytes_cmp}
use Rattle.checkpoint.specs.Pages.{joined, first_key, NoneEmpty}
use Rattle.checkpoint.proofs.Joining.{joined-append, joined-push}
use Rattle.shelf.specs.Prefix.{begins, beginning}
use Rattle.shelf.proofs.Order.{first_above, sorted-behind}
use Rattle.shelf.proofs.Prefixes.{beginning-below, beginning-above}
use Rattle.shelf.proofs.Finding.{front_below, some_at, parted}

pub beginning-append : (prefix : List ℕ) (a b : List Entry) → beginning prefix (a ++ b) ≡ beginning prefix a ++ beginning prefix b
beginning-append prefix a b = filter-append (λ (entry : Entry). begins prefix entry.0) a b

-- this many pages, from one on
abbrev pub pages_from : (pages : List (List Entry)) (start count : ℕ) → List (List Entry)
pages_from pages start count = take count (drop start pages)

-- of none
pub range_none : (pages : List (List Entry)) (start : ℕ) (prefix : List ℕ) → beginning prefix (joined (pages_from pages start 0)) ≡ []
range_none pages start prefix = refl

-- and of one more
pub range_more : (pages : List (List Entry)) (start n : ℕ) (prefix : List ℕ) → start + n < length pages
    → beginning prefix (joined (pages_from pages start n)) ++ beginning prefix (get_or pages (start + n) []) ≡ beginning prefix (joined (pages_from pages start (n + 1)))
range_more pages start n prefix inside =
    let size : length (drop start pages) ≡ length pages - start = length-drop start pages in
    let room : n < length (drop start pages) = omega (arith, size, inside) in
    ap (λ (page : List Entry). beginning prefix (joined (pages_from pages start n)) ++ beginning prefix page) (sym (get_or-drop start pages n []))
    ∙ sym (beginning-append prefix (joined (pages_from pages start n)) (get_or (drop start pages) n []))
    ∙ ap (beginning prefix) (sym (joined-push (pages_from pages start n) (get_or (drop start pages) n [])))
    ∙ ap (λ (ps : List (List Entry)). beginning prefix (joined ps)) (sym (take_more (drop start pages) n [] room))

-- a part of the range is a front of what there is
pub range_front : (pages : List (List Entry)) (start n end : ℕ) (prefix : List ℕ) → n ≤ end
    → (rest : List Entry) × (beginning prefix (joined (pages_from pages start n)) ++ rest ≡ beginning prefix (joined (pages_from pages start end)))
range_front pages start n end prefix within =
    let front : List (List Entry) = pages_from pages start n in
    let back : List (List Entry) = drop n (pages_from pages start end) in
    let parts : front ++ back ≡ pages_from pages start end =
    ap (λ (ps : List (List Entry)). ps ++ back) (sym (take-take n end (drop start pages) within)) ∙ take-append-drop n (pages_from pages start end)
    in (
      beginning prefix (joined back),
      sym (beginning-append prefix (joined front) (joined back)) ∙ ap (beginning prefix) (sym (joined-append front back)) ∙ ap (λ (ps : List (List Entry)). beginning prefix (joined ps)) parts,
    )

-- no page before the range has such a key
front_none : (pages : List (List Entry)) (start : ℕ) (prefix : List ℕ) → NoneEmpty pages → is_sorted bytes_cmp (joined pages) ≡ true
    → (start ≡ 0) ⊎ ((start < length pages) × (bytes_cmp prefix (first_key (get_or pages start [])) ≡ Less → ⊥)) → beginning prefix (joined (take start pages)) ≡ []
front_none pages start prefix some sorted (inl first) = ap (λ n. beginning prefix (joined (take n pages))) first
front_none pages start prefix some sorted (inr low) =
    beginning-below prefix (joined (take start pages)) (front_below pages start prefix some sorted low.0 low.1)

-- and none behind it
back_none : (pages : List (List Entry)) (end : ℕ) (prefix : List ℕ) → NoneEmpty pages → is_sorted bytes_cmp (joined pages) ≡ true
    → (length pages ≤ end) ⊎ ((end < length pages) × (bytes_cmp prefix (first_key (get_or pages end [])) ≡ Less) × (begins prefix (first_key (get_or pages end [])) ≡ false))
    → beginning prefix (joined (drop end pages)) ≡ []
back_none pages end prefix some sorted (inl all) = ap (λ (ps : List (List Entry)). beginning prefix (joined ps)) (drop_all end pages all)
back_none pages end prefix some sorted (inr high) =
    ap (λ (ps : List (List Entry)). beginning prefix (joined ps)) (drop_more pages end [] high.0)
    ∙ step (get_or pages end []) (some_at pages end some high.0) high.1 high.2
    (ap (λ (es : List Entry). is_sorted bytes_cmp es) (sym (parted pages end high.0)) ∙ sorted)
  where
    behind : List Entry
    behind = joined (drop (end + 1) pages)

    step : (page : List Entry) → (page ≡ [] → ⊥) → bytes_cmp prefix (first_key page) ≡ Less → begins prefix (first_key page) ≡ false
        → is_sorted bytes_cmp (joined (take end pages) ++ (page ++ behind)) ≡ true → beginning prefix (page ++ behind) ≡ []
    step [] some_there above never all = absurd (some_there refl)
    step (entry ∷ entries) some_there above never all =
        let back = sorted-behind (joined (take end pages)) (entry ∷ (entries ++ behind)) all in
        ap (λ b. cond b (entry ∷ beginning prefix (entries ++ behind)) (beginning prefix (entries ++ behind))) never
        ∙ beginning-above prefix entry.0 (entries ++ behind) above never (first_above entry (entries ++ behind) back)

-- The entries with the prefix are those of the range.
pub range_all : (pages : List (List Entry)) (start end : ℕ) (prefix : List ℕ) → NoneEmpty pages → is_sorted bytes_cmp (joined pages) ≡ true → start ≤ end
    → (start ≡ 0) ⊎ ((start < length pages) × (bytes_cmp prefix (first_key (get_or pages start [])) ≡ Less → ⊥))
    → (length pages ≤ end) ⊎ ((end < length pages) × (bytes_cmp prefix (first_key (get_or pages end [])) ≡ Less) × (begins prefix (first_key (get_or pages end [])) ≡ false))
    → beginning prefix (joined pages) ≡ beginning prefix (joined (pages_from pages start (end - start)))
range_all pages start end prefix some sorted order low high =
    let n : ℕ = end - start in
    let middle : List (List Entry) = pages_from pages start n in
    let place : start + n ≡ end = omega (arith, order) in
    let rest : drop start pages ≡ middle ++ drop end pages =
    sym (take-append-drop n (drop start pages))
    ∙ ap (λ (ps : List (List Entry)). middle ++ ps) (drop-drop n start pages ∙ ap (λ k. drop k pages) place)
    in
    ap (λ (ps : List (List Entry)). beginning prefix (joined ps)) (sym (take-append-drop start pages) ∙ ap (λ (ps : List (List Entry)). take start pages ++ ps) rest)
    ∙ ap (beginning prefix) (joined-append (take start pages) (middle ++ drop end pages))
    ∙ beginning-append prefix (joined (take start pages)) (joined (middle ++ drop end pages))
    ∙ ap (λ (es : List Entry). es ++ beginning prefix (joined (middle ++ drop end pages))) (front_none pages start prefix some sorted low)
    ∙ ap (beginning prefix) (joined-append middle (drop end pages))
    ∙ beginning-append prefix (joined middle) (joined (drop end pages))
    ∙ ap (λ (es : List Entry). beginning prefix (joined middle) ++ es) (back_none pages end prefix some sorted high)
    ∙ append-nil (beginning prefix (joined middle))
