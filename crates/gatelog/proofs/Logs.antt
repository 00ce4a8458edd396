-- Logs that stay, and logs that grow.
use Rattle.std.proofs.Common.{arith, refl, ◌≡◌, ◌∙◌, sym, subst, ◌≤◌, ◌+◌, ◌*◌, ◌++◌, ℕ, List, [], ◌∷◌, length, slice_index}
use Rattle.gatelog.specs.Record.{part, sectors, IsRecord, Agree}
use Rattle.gatelog.specs.Log.{IsOpen, IsClosed, HoldsLog}
use Rattle.gatelog.proofs.Parts.{part-agree}

-- a log lies inside of its content
pub inside : (payloads : List (List ℕ)) (gate last : ℕ) (c : List ℕ) → HoldsLog gate payloads last c → (gate ≤ last) × (512 * last + 512 ≤ length c)
inside [] gate last c log = (omega (arith, log.0), log.1.0)
inside (payload ∷ payloads) gate last c log = let rest = inside payloads (gate + 1 + sectors payload) last c log.2 in (omega (arith, rest.0), rest.1)

-- the records stay under a step that leaves them, and the log if its last gate is closed
pub HoldsLog-agree : (payloads : List (List ℕ)) (gate last : ℕ) (old new : List ℕ) → HoldsLog gate payloads last old
    → Agree (512 * gate) (512 * last) old new → IsClosed last new → HoldsLog gate payloads last new
HoldsLog-agree [] gate last old new log agree closed = (log.0, closed)
HoldsLog-agree (payload ∷ payloads) gate last old new log agree closed =
    let within = inside payloads (gate + 1 + sectors payload) last old log.2 in
    let same = part-agree (512 * gate + 512) (512 * sectors payload) old new (omega (arith, within.0, within.1)) (omega (arith, within.0, closed.0))
    (λ k low high. agree k (omega arith) (omega (arith, within.0))) in (
      agree (512 * gate) (omega arith) (omega (arith, within.0)) ∙ log.0,
      subst (IsRecord payload) (sym same) log.1,
      HoldsLog-agree payloads (gate + 1 + sectors payload) last old new log.2 (λ k low high. agree k (omega arith) high) closed,
    )

-- the log stays under a step that leaves the part from its first to its last gate
pub HoldsLog-stays : (payloads : List (List ℕ)) (gate last : ℕ) (old new : List ℕ) → HoldsLog gate payloads last old
    → Agree (512 * gate) (512 * last + 512) old new → 512 * last + 512 ≤ length new → HoldsLog gate payloads last new
HoldsLog-stays payloads gate last old new log agree reaches =
    let within = inside payloads gate last old log in
    HoldsLog-agree payloads gate last old new log (λ k low high. agree k low (omega arith))
    (reaches, λ is_open. (last_closed payloads gate last old log) (sym (agree (512 * last) (omega (arith, within.0)) (omega arith)) ∙ is_open))
  where
    last_closed : (payloads : List (List ℕ)) (gate last : ℕ) (c : List ℕ) → HoldsLog gate payloads last c → slice_index c (512 * last) ≡ 165 → ⊥
    last_closed [] gate last c log = log.1.1
    last_closed (payload ∷ payloads) gate last c log = last_closed payloads (gate + 1 + sectors payload) last c log.2

-- A record and the closed gate behind it stand behind a gate.
pub record IsStaged (last : ℕ) (payload content : List ℕ) : Type 0 where
  pub body : IsRecord payload (part (512 * last + 512) (512 * sectors payload) content)
  pub gate : IsClosed (last + 1 + sectors payload) content

-- with its last gate opened over a record and a closed gate behind it, a log has one payload more
pub HoldsLog-longer : (payloads : List (List ℕ)) (gate last : ℕ) (payload old new : List ℕ) → HoldsLog gate payloads last old
    → Agree (512 * gate) (512 * last) old new → IsOpen last new → IsStaged last payload new
    → HoldsLog gate (payloads ++ payload ∷ []) (last + 1 + sectors payload) new
HoldsLog-longer [] gate last payload old new log agree opened staged =
    let P : ℕ → Type 0 = λ g. HoldsLog g (payload ∷ []) (last + 1 + sectors payload) new in
    subst P (sym log.0) (opened, staged.body, (refl, staged.gate))
HoldsLog-longer (first ∷ payloads) gate last payload old new log agree opened staged =
    let within = inside payloads (gate + 1 + sectors first) last old log.2 in
    let same = part-agree (512 * gate + 512) (512 * sectors first) old new (omega (arith, within.0, within.1)) (omega (arith, within.0, staged.gate.0))
    (λ k low high. agree k (omega arith) (omega (arith, within.0))) in (
      agree (512 * gate) (omega arith) (omega (arith, within.0)) ∙ log.0,
      subst (IsRecord first) (sym same) log.1,
      HoldsLog-longer payloads (gate + 1 + sectors first) last payload old new log.2 (λ k low high. agree k (omega arith) high) opened staged,
    )
