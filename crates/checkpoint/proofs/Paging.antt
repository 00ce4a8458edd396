-- Entries that are laid on pages, one after the other.
use Rattle.std.proofs.Common.{arith, refl, ◌≡◌, ◌∙◌, sym, ap, subst, ◌<◌, ◌≤◌, ◌+◌, ◌*◌, ◌++◌, ◌∷◌, [], ℕ, true, false, cond, IsTrue, List, length}
use Rattle.std.proofs.lemmas.Bool.{and_parts}
use Rattle.std.proofs.lemmas.Bool.Decides.{nat_tests}
use Rattle.std.proofs.lemmas.List.{length-append, append_assoc}
use Rattle.std.specs.Prelude.{nat_le}
use Rattle.std.specs.FinMap.{is_sorted}
use Rattle.std.specs.FinMap.Entries.{below_all}
use Rattle.pages.specs.Page.{Entry, bytes_cmp, room_of}
use Rattle.checkpoint.specs.declared.page_writer.PageWriter.{PageWriter}
use Rattle.checkpoint.specs.Pages.{joined, NoneEmpty}
use Rattle.checkpoint.specs.Filling.{AllFit, pages_from, pages_of}
use Rattle.checkpoint.specs.PageWriter.{IsFilled, IsLaid}
use Rattle.checkpoint.proofs.Buffering.{filled_none}
use Rattle.checkpoint.proofs.Cutting.{joined_pages_from, joined_pages_of}
use Rattle.checkpoint.proofs.Joining.{joined-append}
use Rattle.checkpoint.proofs.Order.{sorted_front}

sorted_back : (a b : List Entry) → is_sorted bytes_cmp (a ++ b) ≡ true → is_sorted bytes_cmp b ≡ true
sorted_back [] b h = h
sorted_back (entry ∷ a) b h = sorted_back a b (and_parts (below_all bytes_cmp entry.0 (a ++ b)) (is_sorted bytes_cmp (a ++ b)) h).1

-- ---- pages of entries

-- where the next cell fits, and where it does not
pages_same : (page entries : List Entry) (entry : Entry) → room_of (page ++ entry ∷ []) ≤ 32768
    → pages_from page (entry ∷ entries) ≡ pages_from (page ++ entry ∷ []) entries
pages_same page entries entry fits =
    let test : nat_le (room_of (page ++ entry ∷ [])) 32768 ≡ true = grind (arith, nat_tests) in
    ap (λ b. cond b (pages_from (page ++ entry ∷ []) entries) (page ∷ pages_from (entry ∷ []) entries)) test

pages_next : (page entries : List Entry) (entry : Entry) → 32768 < room_of (page ++ entry ∷ [])
    → pages_from page (entry ∷ entries) ≡ page ∷ pages_from (entry ∷ []) entries
pages_next page entries entry full =
    let test : nat_le (room_of (page ++ entry ∷ [])) 32768 ≡ false = grind (arith, nat_tests) in
    ap (λ b. cond b (pages_from (page ++ entry ∷ []) entries) (page ∷ pages_from (entry ∷ []) entries)) test

none_empty_from : (page entries : List Entry) → 1 ≤ length page → NoneEmpty (pages_from page entries)
none_empty_from page [] some = (λ is. let empty : length page ≡ 0 = ap length is in absurd (omega (arith, empty, some)), tt)
none_empty_from page (entry ∷ entries) some =
    elim (nat_le (room_of (page ++ entry ∷ [])) 32768) as (λ b. NoneEmpty (cond b (pages_from (page ++ entry ∷ []) entries) (page ∷ pages_from (entry ∷ []) entries))) [
      | true ↦ none_empty_from (page ++ entry ∷ []) entries (omega (arith, length-append page (entry ∷ [])))
      | false ↦ (λ is. let empty : length page ≡ 0 = ap length is in absurd (omega (arith, empty, some)), none_empty_from (entry ∷ []) entries (omega arith))
    ]

pub none_empty : (entries : List Entry) → NoneEmpty (pages_of entries)
none_empty [] = tt
none_empty (entry ∷ entries) = none_empty_from (entry ∷ []) entries (omega arith)

none_empty_back : (a b : List (List Entry)) → NoneEmpty (a ++ b) → NoneEmpty b
none_empty_back [] b none = none
none_empty_back (page ∷ a) b none = none_empty_back a b none.1

some_pages_from : (page entries : List Entry) → 1 ≤ length (pages_from page entries)
some_pages_from page [] = omega arith
some_pages_from page (entry ∷ entries) =
    elim (nat_le (room_of (page ++ entry ∷ [])) 32768) as (λ b. 1 ≤ length (cond b (pages_from (page ++ entry ∷ []) entries) (page ∷ pages_from (entry ∷ []) entries))) [
      | true ↦ some_pages_from (page ++ entry ∷ []) entries
      | false ↦ omega arith
    ]

-- a first page that has no cell yet
pages_of_from : (entry : Entry) (entries : List Entry) → room_of (entry ∷ []) ≤ 32768 → pages_from [] (entry ∷ entries) ≡ pages_of (entry ∷ entries)
pages_of_from entry entries fits = pages_same [] entries entry fits

-- ---- what is laid

-- before the first entry
pub laid_none : (writer : PageWriter) (all : List Entry) (content : List ℕ) → 1 ≤ length all → AllFit all → writer.filled ≡ 0 → writer.page ≡ []
    → writer.left ≡ length (pages_of all) → 512 * writer.at ≤ length content → IsLaid writer writer.at all all content
laid_none writer [] content some fit none empty left inside = absurd (omega (arith, some))
laid_none writer (entry ∷ entries) content some fit none empty left inside = record {
  pages = [];
  filled = filled_none writer content none inside;
  are = ap (λ (page : List Entry). pages_from page (entry ∷ entries)) empty ∙ pages_of_from entry entries fit.0;
  fit = fit;
  count = omega (arith, left);
}

-- the page that is being filled ascends
pub laid_ascends : (writer : PageWriter) (first : ℕ) (rest all : List Entry) (content : List ℕ) → IsTrue (is_sorted bytes_cmp all)
    → IsLaid writer first rest all content → IsTrue (is_sorted bytes_cmp writer.page)
laid_ascends writer first rest all content sorted laid =
    let Sorted : List Entry → Type 0 = λ es. is_sorted bytes_cmp es ≡ true in
    let is : all ≡ joined laid.pages ++ (writer.page ++ rest) =
    sym (joined_pages_of all) ∙ ap joined (sym laid.are) ∙ joined-append laid.pages (pages_from writer.page rest)
    ∙ ap (λ (es : List Entry). joined laid.pages ++ es) (joined_pages_from writer.page rest)
    in
    sorted_front writer.page rest (sorted_back (joined laid.pages) (writer.page ++ rest) (subst Sorted is sorted))

-- a page is still to come
pub laid_left : (writer : PageWriter) (first : ℕ) (rest all : List Entry) (content : List ℕ) → IsLaid writer first rest all content → 1 ≤ writer.left
laid_left writer first rest all content laid =
    let size : length (laid.pages ++ pages_from writer.page rest) ≡ length (pages_of all) = ap length laid.are in
    omega (arith, laid.count, size, length-append laid.pages (pages_from writer.page rest), some_pages_from writer.page rest)

-- the next entry fits the page
pub laid_more : (old new : PageWriter) (first : ℕ) (entry : Entry) (rest all : List Entry) (content : List ℕ) → IsLaid old first (entry ∷ rest) all content
    → room_of (old.page ++ entry ∷ []) ≤ 32768 → new.page ≡ old.page ++ entry ∷ [] → new.left ≡ old.left
    → ((pages : List (List Entry)) → IsFilled old first pages content → IsFilled new first pages content) → IsLaid new first rest all content
laid_more old new first entry rest all content laid fits page left same = record {
  pages = laid.pages;
  filled = same laid.pages laid.filled;
  are = ap (λ (es : List Entry). laid.pages ++ pages_from es rest) page
      ∙ ap (λ (ps : List (List Entry)). laid.pages ++ ps) (sym (pages_same old.page rest entry fits)) ∙ laid.are;
  fit = laid.fit.1;
  count = omega (arith, left, laid.count);
}

-- it does not, so there is a cell on the page
pub laid_some : (writer : PageWriter) (first : ℕ) (entry : Entry) (rest all : List Entry) (content : List ℕ) → IsLaid writer first (entry ∷ rest) all content
    → 32768 < room_of (writer.page ++ entry ∷ []) → writer.page ≡ [] → ⊥
laid_some writer first entry rest all content laid full empty =
    let room : room_of (writer.page ++ entry ∷ []) ≡ room_of (entry ∷ []) = ap (λ (es : List Entry). room_of (es ++ entry ∷ [])) empty in
    absurd (omega (arith, full, room, laid.fit.0))

-- and the next page begins
pub laid_next : (old new : PageWriter) (first : ℕ) (entry : Entry) (rest all : List Entry) (before after : List ℕ) → IsLaid old first (entry ∷ rest) all before
    → 32768 < room_of (old.page ++ entry ∷ []) → new.page ≡ entry ∷ [] → new.left + 1 ≡ old.left
    → ((pages : List (List Entry)) → IsFilled old first pages before → IsFilled new first (pages ++ old.page ∷ []) after) → IsLaid new first rest all after
laid_next old new first entry rest all before after laid full page left more = record {
  pages = laid.pages ++ old.page ∷ [];
  filled = more laid.pages laid.filled;
  are = append_assoc laid.pages (old.page ∷ []) (pages_from new.page rest)
      ∙ ap (λ (es : List Entry). laid.pages ++ old.page ∷ pages_from es rest) page
      ∙ ap (λ (ps : List (List Entry)). laid.pages ++ ps) (sym (pages_next old.page rest entry full)) ∙ laid.are;
  fit = laid.fit.1;
  count = omega (arith, left, laid.count, length-append laid.pages (old.page ∷ []));
}

-- behind the last entry there is a cell on the page, and no other page is to come
pub laid_last_some : (writer : PageWriter) (first : ℕ) (all : List Entry) (content : List ℕ) → IsLaid writer first [] all content → writer.page ≡ [] → ⊥
laid_last_some writer first all content laid =
    (none_empty_back laid.pages (writer.page ∷ []) (subst (λ (ps : List (List Entry)). NoneEmpty ps) (sym laid.are) (none_empty all))).0

pub laid_last : (writer : PageWriter) (first : ℕ) (all : List Entry) (content : List ℕ) → IsLaid writer first [] all content → writer.left ≡ 1
laid_last writer first all content laid =
    let size : length (laid.pages ++ writer.page ∷ []) ≡ length (pages_of all) = ap length laid.are in
    omega (arith, laid.count, size, length-append laid.pages (writer.page ∷ []))

-- there is an entry where there is a page
pub some_entries : (all : List Entry) → (length (pages_of all) ≡ 0 → ⊥) → 1 ≤ length all
some_entries [] some = absurd (some refl)
some_entries (entry ∷ all) some = omega arith

-- ---- a walk

-- the entry that the walk came to is laid
pub laid_step : (ahead after : List Entry → Type 0) (old new : PageWriter) (first : ℕ) (all : List Entry) (here : Entry) (before content : List ℕ)
    → (rest : List Entry) → ahead rest → IsLaid old first rest all before → (ahead [] → ⊥)
    → ((entry : Entry) (entries : List Entry) → ahead (entry ∷ entries) → (here ≡ entry) × after entries)
    → ((entries : List Entry) → IsLaid old first (here ∷ entries) all before → IsLaid new first entries all content)
    → (rest : List Entry) × after rest × IsLaid new first rest all content
laid_step ahead after old new first all here before content [] there laid some next adds = absurd (some there)
laid_step ahead after old new first all here before content (entry ∷ entries) there laid some next adds =
    let found = next entry entries there in
    let Laid : Entry → Type 0 = λ e. IsLaid old first (e ∷ entries) all before in
    (entries, found.1, adds entries (subst Laid (sym found.0) laid))

-- or it cannot be what was ahead
pub laid_stop : (ahead : List Entry → Type 0) (old : PageWriter) (first : ℕ) (all : List Entry) (here : Entry) (before : List ℕ)
    → (rest : List Entry) → ahead rest → IsLaid old first rest all before → (ahead [] → ⊥)
    → ((entry : Entry) (entries : List Entry) → ahead (entry ∷ entries) → here ≡ entry)
    → ((entries : List Entry) → IsLaid old first (here ∷ entries) all before → ⊥) → ⊥
laid_stop ahead old first all here before [] there laid some next refuses = absurd (some there)
laid_stop ahead old first all here before (entry ∷ entries) there laid some next refuses =
    let Laid : Entry → Type 0 = λ e. IsLaid old first (e ∷ entries) all before in
    refuses entries (subst Laid (sym (next entry entries there)) laid)

-- at the end of the walk all is laid
pub laid_end : (ahead : List Entry → Type 0) (old : PageWriter) (first : ℕ) (all : List Entry) (before : List ℕ) (rest : List Entry) → ahead rest
    → IsLaid old first rest all before → ((entry : Entry) (entries : List Entry) → ahead (entry ∷ entries) → ⊥) → IsLaid old first [] all before
laid_end ahead old first all before [] there laid none = laid
laid_end ahead old first all before (entry ∷ entries) there laid none = absurd (none entry entries there)
