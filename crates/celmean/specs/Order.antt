-- How values are ordered (CEL language definition, "Ordering"), and the order of a map's keys.
use Rattle.std.specs.Prelude.{ℕ, pos, Bool, false, not, ◌&&◌, nat_lt, int_lt, Option, Some, None, List}
use Rattle.std.specs.Ordering.{is_lt, nat_cmp}
use Rattle.std.specs.Cmp.Lexicographic.{slice_cmp}
use Rattle.celmean.specs.Value.{Value, Truth, Int, Uint, Text}

-- the first text stands before the second, by code points: the order of their bytes
abbrev pub text_before : List ℕ → List ℕ → Bool
text_before s t = is_lt (slice_cmp nat_cmp s t)

-- whether the first is less: numbers by value, texts by code points, false before true; nothing else is ordered
abbrev pub less : Value → Value → Option Bool
less (Truth a) (Truth b) = Some (not a && b)
less (Int a) (Int b) = Some (int_lt a b)
less (Int a) (Uint b) = Some (int_lt a (pos b))
less (Uint a) (Int b) = Some (int_lt (pos a) b)
less (Uint a) (Uint b) = Some (nat_lt a b)
less (Text a) (Text b) = Some (text_before a b)
less _ _ = None

-- what may be a map's key: truth values come first, then numbers, then texts
abbrev pub key_rank : Value → Option ℕ
key_rank (Truth b) = Some 0
key_rank (Int n) = Some 1
key_rank (Uint n) = Some 1
key_rank (Text s) = Some 2
key_rank _ = None

abbrev rank_below : Option ℕ → Option ℕ → Bool
rank_below (Some a) (Some b) = nat_lt a b
rank_below _ _ = false

abbrev either_order : Option Bool → Bool → Bool
either_order (Some b) c = b
either_order None c = c

-- the first key stands before the second
abbrev pub key_before : Value → Value → Bool
key_before a b = either_order (less a b) (rank_below (key_rank a) (key_rank b))
