-- Pages in memory stay those that stand on the device.
use Rattle.std.proofs.Common.{arith, ◌≡◌, ◌∙◌, sym, ap, subst, refl, ◌+◌, ◌*◌, ◌≤◌, inl, inr, Bool, true, false, cond, nat_eq, ℕ, List, [], ◌∷◌, ◌++◌, length, get_or, take, drop, Contains, Some, is_some, IsSome}
use Rattle.std.proofs.lemmas.Bool.Decides.{nat_tests}
use Rattle.std.proofs.lemmas.List.{append-nil, drop_all, take_all}
use Rattle.std.specs.Map.{lookup, lookup_entry}
use Rattle.lru.specs.LruCache.{LruCache, lru_cache, promoted, put_entries}
use Rattle.lru.proofs.CallerLemmas.{Contains-promoted, Contains-put_entries, Contains-lookup, Contains-lookup_entry}
use Rattle.gatelog.specs.Record.{part}
use Rattle.gatelog.proofs.Parts.{length-part}
use Rattle.pages.specs.Page.{Entry}

-- each is the page of its number
abbrev pub AreCached : List (List Entry) → LruCache ℕ (List Entry) → Type 0
AreCached pages cache = (number : ℕ) (page : List Entry) → Contains cache.entries (number, page) → page ≡ get_or pages number []

module _ {K V : Type 0} (test : K → Bool) where
  entry_there : (es : List (K × V)) → is_some (lookup test es) ≡ true → (e : K × V) × (lookup_entry test es ≡ Some e)
  entry_there [] some = cc
  entry_there (e ∷ es) some =
      elim (test e.0) as (λ t. is_some (cond t (Some e.1) (lookup test es)) ≡ true → (f : K × V) × (cond t (Some e) (lookup_entry test es) ≡ Some f)) [
        | true ↦ λ _. (e, refl)
        | false ↦ λ is. entry_there es is
      ] some

  pub promoted_some : (es : List (K × V)) → is_some (lookup test es) ≡ true → IsSome (lookup test (promoted test es))
  promoted_some es some =
      let found = entry_there es some in
      let passes : test found.0.0 ≡ true = (Contains-lookup_entry test es found.0 found.1).1 in
      rw (found.1, passes) refl

pub cached_promoted : (pages : List (List Entry)) (page : ℕ) (cache new : LruCache ℕ (List Entry)) → new ≡ lru_cache (promoted (nat_eq page) cache.entries) cache.cap
    → AreCached pages cache → AreCached pages new
cached_promoted pages page cache new is cached = λ number entries there.
    let In : LruCache ℕ (List Entry) → Type 0 = λ c. Contains c.entries (number, entries) in
    cached number entries (Contains-promoted (nat_eq page) cache.entries (number, entries) (subst In is there))

same_number : (a b : ℕ) → nat_eq a b ≡ true → b ≡ a
same_number a b e = grind (arith, nat_tests)

pub cached_put : (pages : List (List Entry)) (page : ℕ) (entries : List Entry) (cache new : LruCache ℕ (List Entry))
    → new ≡ lru_cache (put_entries nat_eq cache page entries) cache.cap → entries ≡ get_or pages page [] → AreCached pages cache → AreCached pages new
cached_put pages page entries cache new is read cached = λ number held there.
    let In : LruCache ℕ (List Entry) → Type 0 = λ c. Contains c.entries (number, held) in
    elim (Contains-put_entries nat_eq cache page entries (number, held) (subst In is there)) as (λ _. held ≡ get_or pages number []) [
      | inl was ↦ cached number held was
      | inr put ↦
          let number_is : number ≡ page = elim put.1 as (λ _. number ≡ page) [
            | inl e ↦ e
            | inr e ↦ same_number page number e.2
          ] in
          put.0 ∙ read ∙ ap (λ n. get_or pages n []) (sym number_is)
    ]

pub cached_at : (pages : List (List Entry)) (page : ℕ) (cache : LruCache ℕ (List Entry)) (entries : List Entry) → lookup (nat_eq page) cache.entries ≡ Some entries
    → AreCached pages cache → entries ≡ get_or pages page []
cached_at pages page cache entries found cached =
    let there = Contains-lookup (nat_eq page) cache.entries entries found in
    cached there.0 entries there.1 ∙ ap (λ n. get_or pages n []) (same_number page there.0 there.2)

-- what a read into a whole buffer leaves in it
pub whole_read : (size : ℕ) (new items got : List ℕ) → new ≡ got → length got ≡ size → length items ≡ size → take size (new ++ drop (length new) items) ≡ got
whole_read size new items got is got_size items_size =
    ap (λ (x : List ℕ). take size (x ++ drop (length x) items)) is
    ∙ ap (λ (x : List ℕ). take size (got ++ x)) (drop_all (length got) items (omega (arith, got_size, items_size)))
    ∙ ap (take size) (append-nil got)
    ∙ take_all size got (omega (arith, got_size))

-- the buffer of a page, once the page was read into it
pub page_read : (at len : ℕ) (content items lent new : List ℕ) → length items ≡ 32768 → len ≡ 32768 → lent ≡ items
    → new ≡ take (length lent) (drop (512 * at) content) → 512 * at + 32768 ≤ length content
    → take len (new ++ drop (length new) items) ≡ part (512 * at) 32768 content
page_read at len content items lent new size whole is read inside =
    let got : new ≡ part (512 * at) 32768 content = read ∙ ap (λ n. take n (drop (512 * at) content)) (ap length is ∙ size) in
    let there : length (part (512 * at) 32768 content) ≡ 32768 = length-part (512 * at) 32768 content inside in
    whole_read len new items (part (512 * at) 32768 content) got (there ∙ sym whole) (size ∙ sym whole)
