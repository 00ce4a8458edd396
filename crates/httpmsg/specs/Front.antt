-- What begins the bytes of a connection.
use Rattle.std.specs.Prelude.{◌≡◌, ℕ, ◌<◌, ◌≤◌, List, ◌++◌, length, drop}
use Rattle.httparse.specs.Grammar.{RequestHead, MayBecomeRequest}
use Rattle.httpmsg.specs.declared.front.Front.{Front}
use Rattle.httpmsg.specs.declared.front.Front.TheVariants.{Whole, Unfinished, Never}
use Rattle.httpmsg.specs.Head.{head_of}
use Rattle.httpmsg.specs.Stream.{BeginsWith}

-- a head of this many bytes begins the bytes, or none does yet, or none ever will
abbrev pub IsFront : List ℕ → Front → Type 0
IsFront bytes (Whole view len) =
    (len ≤ length bytes) × ((h : RequestHead) × BeginsWith bytes h (drop len bytes) × (view ≡ head_of h))
IsFront bytes Unfinished =
    (length bytes < 8192) × MayBecomeRequest bytes × ((h : RequestHead) (rest : List ℕ) → BeginsWith bytes h rest → ⊥)
IsFront bytes Never = (more : List ℕ) (h : RequestHead) (rest : List ℕ) → BeginsWith (bytes ++ more) h rest → ⊥
