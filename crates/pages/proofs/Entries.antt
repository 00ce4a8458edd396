-- The entries of a page by their places.
use Rattle.std.proofs.Common.{arith, ◌≡◌, ◌∙◌, ◌<◌, sym, ap, ℕ, List, length, get_or}
use Rattle.std.proofs.lemmas.List.FromFn.{length-map-range_with_len, get_or-map-range_with_len}
use Rattle.pages.specs.Page.{Entry, count, entry_at, entries_in}

pub length-entries_in : (bytes : List ℕ) → length (entries_in bytes) ≡ count bytes
unfolding entries_in
length-entries_in bytes = length-map-range_with_len (entry_at bytes) 0 (count bytes)

pub get_or-entries_in : (bytes : List ℕ) (i : ℕ) (d : Entry) → i < count bytes → get_or (entries_in bytes) i d ≡ entry_at bytes i
unfolding entries_in
get_or-entries_in bytes i d l = get_or-map-range_with_len (entry_at bytes) 0 (count bytes) i i d l (omega arith)

-- the places of a list of entries that a page holds are the page's
pub inside_page : (bytes : List ℕ) (entries : List Entry) (i : ℕ) → entries_in bytes ≡ entries → i < length entries → i < count bytes
inside_page bytes entries i are inside = omega (arith, length-entries_in bytes, ap length are)

-- and what stands at one of them is the page's entry there
pub entry_at-get_or : (bytes : List ℕ) (entries : List Entry) (i : ℕ) (d : Entry) → entries_in bytes ≡ entries → i < length entries
    → entry_at bytes i ≡ get_or entries i d
entry_at-get_or bytes entries i d are inside =
    sym (get_or-entries_in bytes i d (inside_page bytes entries i are inside)) ∙ ap (λ (es : List Entry). get_or es i d) are
