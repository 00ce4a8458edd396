-- Pages, one after the other.
use Rattle.std.proofs.Common.{arith, ◌≡◌, refl, sym, ap, subst, ◌∙◌, ◌↔◌, ◌+◌, ◌*◌, ◌<◌, ◌≤◌, ℕ, zero, suc, add-one, true, IsTrue, List, [], ◌∷◌, ◌++◌, length, append_assoc}
use Rattle.std.proofs.lemmas.List.{append-nil, map_push, length-map}
use Rattle.std.specs.FinMap.{is_sorted}
use Rattle.std.specs.declared.alloc.Global.{Global}
use Rattle.std.specs.declared.cmp.Ordering.TheVariants.{Less}
use Rattle.std.specs.declared.vec.Vec.{Vec}
use Rattle.gatelog.specs.Record.{part}
use Rattle.pages.specs.Page.{Entry, bytes_cmp, entries_in, IsSound}
use Rattle.checkpoint.specs.declared.index.Index.{Index}
use Rattle.checkpoint.specs.Index.{last_key, keys_of, IsIndexed}
use Rattle.checkpoint.specs.Pages.{pages_at, AreSound, joined, first_key, NoneEmpty}
use Rattle.checkpoint.proofs.Order.{sorted_front, sorted_where_met, last_key-append}

pub joined-append : (a b : List (List Entry)) → joined (a ++ b) ≡ joined a ++ joined b
joined-append [] b = refl
joined-append (page ∷ a) b = ap (λ (es : List Entry). page ++ es) (joined-append a b) ∙ sym (append_assoc page (joined a) (joined b))

pub joined-push : (pages : List (List Entry)) (page : List Entry) → joined (pages ++ page ∷ []) ≡ joined pages ++ page
joined-push pages page = joined-append pages (page ∷ []) ∙ ap (λ (es : List Entry). joined pages ++ es) (append-nil page)

-- ---- by place

-- the page of a number
abbrev pub page_at : ℕ → ℕ → List ℕ → List ℕ
page_at first i content = part (512 * (first + 64 * i)) 32768 content

page_at-zero : (first : ℕ) (content : List ℕ) → page_at first 0 content ≡ part (512 * first) 32768 content
page_at-zero first content = let same : first + 64 * 0 ≡ first = omega arith in ap (λ at. part (512 * at) 32768 content) same

page_at-next : (first i : ℕ) (content : List ℕ) → page_at (first + 64) i content ≡ page_at first (suc i) content
page_at-next first i content =
    let same : first + 64 + 64 * i ≡ first + 64 * suc i = omega arith in ap (λ at. part (512 * at) 32768 content) same

pages_at-suc : (first n : ℕ) (content : List ℕ) → pages_at first (suc n) content ≡ pages_at first n content ++ entries_in (page_at first n content) ∷ []
pages_at-suc first zero content = ap (λ (bytes : List ℕ). entries_in bytes ∷ []) (sym (page_at-zero first content))
pages_at-suc first (suc n) content =
    let page : List Entry = entries_in (part (512 * first) 32768 content) in
    ap (λ (pages : List (List Entry)). page ∷ pages) (pages_at-suc (first + 64) n content)
    ∙ ap (λ (bytes : List ℕ). page ∷ (pages_at (first + 64) n content ++ entries_in bytes ∷ [])) (page_at-next first n content)

pub pages_at-more : (first n : ℕ) (content : List ℕ)
    → pages_at first (n + 1) content ≡ pages_at first n content ++ entries_in (page_at first n content) ∷ []
pages_at-more first n content =
    let To : ℕ → Type 0 = λ m. pages_at first m content ≡ pages_at first n content ++ entries_in (page_at first n content) ∷ [] in
    subst To (sym (add-one n)) (pages_at-suc first n content)

sound_suc : (first n : ℕ) (content : List ℕ) → AreSound first n content → IsSound (page_at first n content) → AreSound first (suc n) content
sound_suc first zero content sound last = (subst (λ (bytes : List ℕ). IsSound bytes) (page_at-zero first content) last, tt)
sound_suc first (suc n) content sound last =
    (sound.0, sound_suc (first + 64) n content sound.1 (subst (λ (bytes : List ℕ). IsSound bytes) (sym (page_at-next first n content)) last))

pub sound_more : (first n : ℕ) (content : List ℕ) → AreSound first n content → IsSound (page_at first n content) → AreSound first (n + 1) content
sound_more first n content sound last =
    let To : ℕ → Type 0 = λ m. AreSound first m content in subst To (sym (add-one n)) (sound_suc first n content sound last)

pub sound_at : (first n i : ℕ) (content : List ℕ) → AreSound first n content → i < n → IsSound (page_at first i content)
sound_at first zero i content sound l = absurd (omega arith)
sound_at first (suc n) zero content sound l = subst (λ (bytes : List ℕ). IsSound bytes) (sym (page_at-zero first content)) sound.0
sound_at first (suc n) (suc i) content sound l =
    subst (λ (bytes : List ℕ). IsSound bytes) (page_at-next first i content) (sound_at (first + 64) n i content sound.1 (omega arith))

-- the first pages are those of a smaller number
front_of_pages : (first n m : ℕ) (content : List ℕ) → n ≤ m → (rest : List (List Entry)) × (pages_at first m content ≡ pages_at first n content ++ rest)
front_of_pages first zero m content l = (pages_at first m content, refl)
front_of_pages first (suc n) zero content l = absurd (omega arith)
front_of_pages first (suc n) (suc m) content l =
    let more = front_of_pages (first + 64) n m content (omega arith) in
    (more.0, ap (λ (pages : List (List Entry)). entries_in (part (512 * first) 32768 content) ∷ pages) more.1)

-- keys that ascend in all pages ascend up to a page
pub sorted_to : (first n i : ℕ) (content : List ℕ) → i < n → IsTrue (is_sorted bytes_cmp (joined (pages_at first n content)))
    → IsTrue (is_sorted bytes_cmp (joined (pages_at first i content) ++ entries_in (page_at first i content)))
sorted_to first n i content l sorted =
    let more = front_of_pages first (i + 1) n content (omega arith) in
    let Sorted : List Entry → Type 0 = λ es. is_sorted bytes_cmp es ≡ true in
    let page : List Entry = entries_in (page_at first i content) in
    let front : joined (pages_at first (i + 1) content) ≡ joined (pages_at first i content) ++ page =
    ap joined (pages_at-more first i content) ∙ joined-push (pages_at first i content) page
    in
    let all : joined (pages_at first n content) ≡ joined (pages_at first (i + 1) content) ++ joined more.0 =
    ap joined more.1 ∙ joined-append (pages_at first (i + 1) content) more.0
    in
    subst Sorted front (sorted_front (joined (pages_at first (i + 1) content)) (joined more.0) (subst Sorted all sorted))

-- ---- by first keys

some_push : (pages : List (List Entry)) (page : List Entry) → NoneEmpty pages → 1 ≤ length page → NoneEmpty (pages ++ page ∷ [])
some_push [] page none some = (λ is. let empty : length page ≡ 0 = ap length is in absurd (omega arith), tt)
some_push (first ∷ pages) page none some = (none.0, some_push pages page none.1 some)

some_entries : (pages : List (List Entry)) → NoneEmpty pages → 1 ≤ length pages → 1 ≤ length (joined pages)
some_entries [] none some = absurd (omega arith)
some_entries ([] ∷ pages) none some = absurd (none.0 refl)
some_entries ((entry ∷ page) ∷ pages) none some = omega arith

-- this many pages as first keys
index_length : (index : Index) (pages : List (List Entry)) → IsIndexed index pages → length index.first_keys.items ≡ length pages
index_length index pages indexed =
    let Key : Vec ℕ Global → List ℕ = λ key. key.items in
    sym (length-map index.first_keys.items Key) ∙ ap length indexed.firsts.are ∙ length-map pages first_key

-- a first page
pub above_none : (index : Index) (pages : List (List Entry)) (page : List Entry) → IsIndexed index pages → length index.first_keys.items ≡ 0
    → IsTrue (is_sorted bytes_cmp page) → IsTrue (is_sorted bytes_cmp (joined pages ++ page))
above_none index [] page indexed none sorted = sorted
above_none index (first ∷ pages) page indexed none sorted = absurd (omega (arith, index_length index (first ∷ pages) indexed))

-- a page behind others
pub above_others : (index : Index) (pages : List (List Entry)) (page : List Entry) → IsIndexed index pages → 1 ≤ length index.first_keys.items
    → 1 ≤ length page → IsTrue (is_sorted bytes_cmp page)
    → (bytes_cmp index.last_key.items (first_key page) ≡ Less) ↔ IsTrue (is_sorted bytes_cmp (joined pages ++ page))
above_others index pages page indexed others some sorted =
    let all = some_entries pages indexed.firsts.some (omega (arith, index_length index pages indexed)) in
    let met = sorted_where_met (joined pages) page indexed.firsts.ascending sorted all some in
    let same = ap (λ (key : List ℕ). bytes_cmp key (first_key page)) indexed.ends in
    (λ less. met.0 (sym same ∙ less), λ all_sorted. same ∙ met.1 all_sorted)

pub indexed_push : (old new : Index) (pages : List (List Entry)) (page : List Entry) → IsIndexed old pages → 1 ≤ length page
    → IsTrue (is_sorted bytes_cmp (joined pages ++ page))
    → keys_of new.first_keys.items ≡ keys_of old.first_keys.items ++ first_key page ∷ [] → new.last_key.items ≡ last_key page
    → IsIndexed new (pages ++ page ∷ [])
indexed_push old new pages page indexed some sorted firsts last =
    let Sorted : List Entry → Type 0 = λ es. is_sorted bytes_cmp es ≡ true in
    record {
      firsts = record {
        are = firsts ∙ ap (λ (keys : List (List ℕ)). keys ++ first_key page ∷ []) indexed.firsts.are ∙ sym (map_push first_key pages page);
        some = some_push pages page indexed.firsts.some some;
        ascending = subst Sorted (sym (joined-push pages page)) sorted;
      };
      ends = last ∙ sym (last_key-append (joined pages) page some) ∙ ap last_key (sym (joined-push pages page));
    }
