-- Where keys stand among pages, by the first key of each.
use Rattle.std.specs.Prelude.{◌≡◌, ◌<◌, ◌≤◌, ℕ, Bool, true, false, not, ◌||◌, List, [], length, get_or}
use Rattle.std.specs.Ordering.{is_lt}
use Rattle.pages.specs.Page.{bytes_cmp}
use Rattle.shelf.specs.Prefix.{begins}

-- a page that begins so does not begin above the key
abbrev pub is_at_or_below : (key first : List ℕ) → Bool
is_at_or_below key first = not (is_lt (bytes_cmp key first))

-- a page that begins so does not begin above all keys with the prefix
abbrev pub may_begin : (prefix first : List ℕ) → Bool
may_begin prefix first = is_at_or_below prefix first || begins prefix first

-- This many first keys pass the test, and come before those that fail it.
pub record IsSplit (test : List ℕ → Bool) (firsts : List (List ℕ)) (count : ℕ) : Type 0 where
  pub before : (k : ℕ) → k < count → k < length firsts → test (get_or firsts k []) ≡ true
  pub behind : (k : ℕ) → count ≤ k → k < length firsts → test (get_or firsts k []) ≡ false
