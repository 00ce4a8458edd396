-- The first message of some bytes.
use Rattle.std.specs.Prelude.{◌≡◌, ℕ, ◌+◌, ◌<◌, ◌≤◌, ◌⊎◌, List, ◌++◌, [], ◌∷◌, length, drop, unwrap_or, false}
use Rattle.httparse.specs.Grammar.{print_request}
use Rattle.httpmsg.specs.declared.cut.NextMessage.{NextMessage}
use Rattle.httpmsg.specs.declared.cut.NextMessage.TheVariants.{Whole, Unfinished, Fails}
use Rattle.httpmsg.specs.declared.head.MessageFault.TheVariants as Fault
use Rattle.httpmsg.specs.declared.head.End.{End}
use Rattle.httpmsg.specs.declared.head.End.TheVariants.{Clean, Broken}
use Rattle.httpmsg.specs.Head.{head_of, content_length}
use Rattle.httpmsg.specs.Stream.{Message, Takes, LacksBody, Waits, IsUnfinished, EndsAtOnce, Progress, IsCut}

-- the fewest bytes of which more can be told: all of a message whose body is not there in full, and else one more than there are
abbrev pub IsLeast : List ℕ → ℕ → Type 0
IsLeast bytes need =
    ((b : LacksBody bytes) × (need ≡ length (print_request b.head) + content_length (head_of b.head)))
    ⊎ ((LacksBody bytes → ⊥) × (need ≡ length bytes + 1))

-- these bytes, and all that go on from them and are fewer than this many, give no message and no fault
pub record Awaits (bytes : List ℕ) (need : ℕ) : Type 0 where
  pub short : length bytes < need
  pub few : need ≤ 73728
  pub stays : (more : List ℕ) → length (bytes ++ more) < need → Waits (bytes ++ more) × IsUnfinished (bytes ++ more)
  pub least : IsLeast bytes need

-- the bytes begin with a message of this many bytes, or with none before this many are there, or end the stream whatever follows
abbrev pub IsNext : List ℕ → NextMessage → Type 0
IsNext bytes (Whole m len) = (0 < len) × (len ≤ length bytes) × Takes bytes m (drop len bytes)
IsNext bytes (Unfinished need) = Awaits bytes need
IsNext bytes (Fails broken) = EndsAtOnce bytes (Broken broken)

-- whatever is cut from the rest is, after these messages, cut from the bytes
abbrev pub Leads : List ℕ → List Message → List ℕ → Type 0
Leads bytes ms rest = (ns : List Message) (p : Progress) → IsCut rest ns p → IsCut bytes (ms ++ ns) p

abbrev pub end_at : List ℕ → End
end_at [] = Clean
end_at (b ∷ bytes) = Broken (record { fault = Fault.Malformed; is_head = false })

-- how the stream ends if no more bytes come
abbrev pub end_of : Progress → End
end_of p = unwrap_or p.end (end_at p.pending)
