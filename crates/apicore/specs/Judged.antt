-- What a step is where it is refused, and after the verdict on its write.
use Rattle.std.specs.Prelude.{◌≡◌, ℕ, List, [], ◌∷◌, map, None}
use Rattle.histories.specs.Mapped.{mapped_write}
use Rattle.requests.specs.Reply.{Reply}
use Rattle.histories.specs.View as seen
use Rattle.holdings.specs.Prepared.{writes_of, AreNext}
use Rattle.decoded.specs.Decoded.{Decoded}
use Rattle.verdict.specs.Verdict.{Verdict, admitted, denied}
use Rattle.decoded.specs.Shown.{plans_held}
use Rattle.decoded.specs.Standing.{Write, write_with_plans}
use Rattle.apicore.specs.Conditions.{Refusal, denied_by}
use Rattle.apicore.specs.Step.{status}
use Rattle.apicore.specs.declared.prepared.Prepared.{Prepared}

-- the step tells the refusal, and writes nothing
abbrev pub IsRefused : Refusal → Prepared → Type 0
IsRefused r p = (p.reply ≡ status r) × (p.write ≡ None)

-- The write is admitted: it is shown with the warnings, and the next one of what is held.
pub record IsMade (held : seen.View Decoded) (shown : Reply) (w : Write) (p : Prepared) : Type 0 where
  pub reply : p.reply ≡ shown
  pub writes : map (mapped_write plans_held) (writes_of p.write) ≡ write_with_plans w ∷ []
  pub next : AreNext held p.write

-- A denial makes no write; a write that is admitted is made.
abbrev pub IsJudged : (held : seen.View Decoded) → (shows : List (List ℕ) → Reply) → Write → Verdict → Prepared → Type 0
IsJudged held shows w (admitted warnings) p = IsMade held (shows warnings) w p
IsJudged held shows w (denied policy binding reason message) p = IsRefused (denied_by policy binding reason message) p
