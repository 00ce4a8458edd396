-- This moment is one of those since an earlier one, and since it there is no other.
use Rattle.std.proofs.Common.{ℕ, ◌⊎◌, inl, inr, List, [], ◌∷◌, length}
use Rattle.diskmodels.specs.declared.recorded.Recorded.{Recorded}
use Rattle.diskmodels.specs.Moments.{Moment, present, past, IsLeft, WasLeft}

pub none_later : (ms : List Moment) (c : List ℕ) → WasLeft ms (length ms) c → ⊥
none_later [] c was = was
none_later (m ∷ ms) c was = none_later ms c was

pub now_counts : (d : Recorded) (t : ℕ) (c : List ℕ) → IsLeft (present d) c → IsLeft (present d) c ⊎ WasLeft (past d) t c
now_counts d t c left = inl left

pub now_only : (d : Recorded) (c : List ℕ) → IsLeft (present d) c ⊎ WasLeft (past d) (length (past d)) c → IsLeft (present d) c
now_only d c (inl left) = left
now_only d c (inr was) = absurd (none_later (past d) c was)
