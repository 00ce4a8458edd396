-- The pieces between commas, read at the first comma.
use Rattle.std.proofs.Common.{◌≡◌, ℕ, ◌+◌, ◌<◌, ◌≤◌, Bool, true, false, List, [], ◌∷◌, length, take, drop, refl, arith, cond, position, Some, None, nat_lt, subst}
use Rattle.std.specs.Prelude.{◌==◌, ◌||◌}
use Rattle.std.specs.List.{position_or_len}
use Rattle.std.proofs.lemmas.Grind.{common_steps}
use Rattle.std.proofs.lemmas.Bool.Decides.{nat_tests}
use Rattle.std.proofs.lemmas.List.Quantifiers.{position-Some}
use Rattle.httpmsg.specs.Head.{comma_pieces, is_close, lists_close}

abbrev pub is_comma : ℕ → Bool
is_comma b = b == 44

piece_step : (b : ℕ) (bs : List ℕ) (t : Bool) → is_comma b ≡ t
    → (position_or_len is_comma bs < length bs → comma_pieces bs ≡ take (position_or_len is_comma bs) bs ∷ comma_pieces (drop (position_or_len is_comma bs + 1) bs))
    → position_or_len is_comma (b ∷ bs) < length (b ∷ bs)
    → comma_pieces (b ∷ bs) ≡ take (position_or_len is_comma (b ∷ bs)) (b ∷ bs) ∷ comma_pieces (drop (position_or_len is_comma (b ∷ bs) + 1) (b ∷ bs))
piece_step b bs true e here h = grind (arith, common_steps)
piece_step b bs false e here h = grind (arith, common_steps)

or_false : (t : Bool) → (t || false) ≡ t
or_false true = refl
or_false false = refl

-- up to the first comma, and what follows it
pub pieces_at : (v : List ℕ) → position_or_len is_comma v < length v
    → comma_pieces v ≡ take (position_or_len is_comma v) v ∷ comma_pieces (drop (position_or_len is_comma v + 1) v)
pieces_at [] h = absurd (omega arith)
pieces_at (b ∷ bs) h = piece_step b bs (is_comma b) refl (pieces_at bs) h

whole_step : (b : ℕ) (bs : List ℕ) (t : Bool) → is_comma b ≡ t
    → (length bs ≤ position_or_len is_comma bs → comma_pieces bs ≡ bs ∷ [])
    → length (b ∷ bs) ≤ position_or_len is_comma (b ∷ bs)
    → comma_pieces (b ∷ bs) ≡ (b ∷ bs) ∷ []
whole_step b bs true e here h = grind (arith, common_steps)
whole_step b bs false e here h = grind (arith, common_steps)

-- without a comma there is one piece
pub pieces_whole : (v : List ℕ) → length v ≤ position_or_len is_comma v → comma_pieces v ≡ v ∷ []
pieces_whole [] h = refl
pieces_whole (b ∷ bs) h = whole_step b bs (is_comma b) refl (pieces_whole bs) h

-- a comma stands inside
pub comma_below : (v : List ℕ) (i : ℕ) → position is_comma v ≡ Some i → i < length v
comma_below v i h = (position-Some is_comma v i 0 h).0

position_is : (v : List ℕ) (i : ℕ) (t : Bool) → cond t (Some (position_or_len is_comma v)) None ≡ Some i → position_or_len is_comma v ≡ i
position_is v i true q = cc
position_is v i false q = cc

pieces_at_position : (v : List ℕ) (i : ℕ) → position is_comma v ≡ Some i
    → comma_pieces v ≡ take i v ∷ comma_pieces (drop (i + 1) v)
pieces_at_position v i h =
    let here : position_or_len is_comma v ≡ i = position_is v i (nat_lt (position_or_len is_comma v) (length v)) h in
    let below : i < length v = comma_below v i h in
    let Split : ℕ → Type 0 = λ k. comma_pieces v ≡ take k v ∷ comma_pieces (drop (k + 1) v) in
    subst Split here (pieces_at v (omega (arith, here, below)))

-- the option before the first comma is `close`
pub close_here : (v : List ℕ) (i : ℕ) → position is_comma v ≡ Some i → is_close (take i v) ≡ true → lists_close v ≡ true
close_here v i h closes = rw (pieces_at_position v i h, closes) refl

-- it is not: the others decide
pub close_later : (v : List ℕ) (i : ℕ) → position is_comma v ≡ Some i → is_close (take i v) ≡ false
    → lists_close v ≡ lists_close (drop (i + 1) v)
close_later v i h stays = rw (pieces_at_position v i h, stays) refl

none_below : (v : List ℕ) (t : Bool) → nat_lt (position_or_len is_comma v) (length v) ≡ t
    → cond t (Some (position_or_len is_comma v)) None ≡ None → length v ≤ position_or_len is_comma v
none_below v true e q = cc
none_below v false e q = grind (arith, nat_tests)

-- there is one option
pub close_whole : (v : List ℕ) → position is_comma v ≡ None → lists_close v ≡ is_close v
close_whole v h =
    rw (pieces_whole v (none_below v (nat_lt (position_or_len is_comma v) (length v)) refl h)) (or_false (is_close v))
