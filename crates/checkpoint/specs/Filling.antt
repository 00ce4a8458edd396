-- How entries are cut into pages.
use Rattle.std.specs.Prelude.{◌≤◌, ◌+◌, ◌-◌, ℕ, List, [], ◌∷◌, ◌++◌, if◌then◌else◌, nat_le}
use Rattle.pages.specs.Page.{Entry, cell_size, room_of}

-- A page is filled while the next cell fits. The first entries are those that the page has so far.
abbrev pub pages_from : List Entry → List Entry → List (List Entry)
pages_from page [] = page ∷ []
pages_from page (entry ∷ entries) =
    if nat_le (room_of (page ++ entry ∷ [])) 32768 then pages_from (page ++ entry ∷ []) entries else (page ∷ pages_from (entry ∷ []) entries)

-- The pages of entries, of which each fits a page.
abbrev pub pages_of : List Entry → List (List Entry)
pages_of [] = []
pages_of (entry ∷ entries) = pages_from (entry ∷ []) entries

-- Each entry fits a page.
abbrev pub AllFit : List Entry → Type 0
AllFit [] = Unit {0}
AllFit (entry ∷ entries) = (room_of (entry ∷ []) ≤ 32768) × AllFit entries

-- The keys of the entries that begin a page, behind a page that has this many free bytes.
abbrev pub keys_from : ℕ → List Entry → List (List ℕ)
keys_from free [] = []
keys_from free (entry ∷ entries) =
    if nat_le (4 + cell_size entry) free then keys_from (free - (4 + cell_size entry)) entries else (entry.0 ∷ keys_from (32760 - (4 + cell_size entry)) entries)
