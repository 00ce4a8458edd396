-- What pages promise.
use Rattle.std.specs.Prelude.{◌≡◌, ◌<◌, ℕ, List, slice_index}
use Rattle.pages.specs.Page.{Entry, SoundPage}

-- A page's bytes stand for one list of entries.
abbrev pub OneList : Type 0
OneList = (bytes : List ℕ) (first second : List Entry) → SoundPage bytes first → SoundPage bytes second → first ≡ second

abbrev pub AreBytes : List ℕ → Type 0
AreBytes numbers = (k : ℕ) → slice_index numbers k < 256

-- The bytes of a page follow from its entries.
abbrev pub OnePage : Type 0
OnePage = (entries : List Entry) (first second : List ℕ) → AreBytes first → AreBytes second
    → SoundPage first entries → SoundPage second entries → first ≡ second
