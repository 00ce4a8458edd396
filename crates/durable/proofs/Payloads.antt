-- The payloads of a log that are read one after the other.
use Rattle.std.proofs.Common.{◌≡◌, ◌∙◌, ap, refl, sym, subst, ℕ, List, [], ◌∷◌, ◌++◌, Option, None, Some, Vec, Global}
use Rattle.std.proofs.lemmas.List.{append-nil}
use Rattle.gatelog.specs.declared.gate_log.Log.{Log}
use Rattle.gatelog.specs.Log.{HoldsLog}
use Rattle.gatelog.specs.Walk.{Passes, IsFirstOf}
use Rattle.gatelog.proofs.Walking.{passes-first}
use Rattle.durable.specs.LogStill.{IsLogStill}

abbrev Told : Type 0
Told = Vec ℕ Global × ℕ

-- The log begins at one gate and ends at another, in a content; some of its payloads were read, up to a gate. The program's log ends at a gate and the device has
-- a content that are the same.
module _ (start gate last own : ℕ) (content now : List ℕ) (passed : List (List ℕ)) (same_last : own ≡ last) (same : now ≡ content) (so_far : Passes start passed gate last content) where
  there : (payloads : List (List ℕ)) → HoldsLog gate payloads last content → HoldsLog gate payloads own now
  there payloads log =
      let At : ℕ → List ℕ → Type 0 = λ l x. HoldsLog gate payloads l x in
      subst (λ l. At l now) (sym same_last) (subst (At last) (sym same) log)

  -- where a fault says that none is left, none stands there
  pub none_left : ((payloads : List (List ℕ)) → HoldsLog gate payloads own now → ⊥) → (payloads : List (List ℕ)) → HoldsLog start payloads last content → ⊥
  none_left none payloads log = let left = so_far payloads log in none left.0 (there left.0 left.2)

  module _ (answer : Option Told) (found : (payloads : List (List ℕ)) → HoldsLog gate payloads own now → IsFirstOf answer payloads own now) where
    here : (told : Option Told) → answer ≡ told → (payloads : List (List ℕ)) → HoldsLog gate payloads last content → IsFirstOf told payloads last content
    here told is payloads log =
        let First : Option Told → ℕ → List ℕ → Type 0 = λ a l x. IsFirstOf a payloads l x in
        subst (λ a. First a last content) is (subst (First answer last) same (subst (λ l. First answer l now) same_last (found payloads (there payloads log))))

    module _ (told : Told) (is : answer ≡ Some told) where
      -- one payload more was read
      pub one_more : Passes start (passed ++ told.0.items ∷ []) told.1 last content
      one_more = passes-first start gate last content passed (passed ++ told.0.items ∷ []) told so_far (here (Some told) is) refl

      -- which is the next one of the log's
      pub next_one : (payloads : List (List ℕ)) → HoldsLog start payloads last content → (rest : List (List ℕ)) × (payloads ≡ passed ++ told.0.items ∷ rest)
      next_one payloads log =
          let left = so_far payloads log in
          let first = here (Some told) is left.0 left.2 in
          (first.0, left.1 ∙ ap (λ (x : List (List ℕ)). passed ++ x) first.1)

    -- where none is told, all were read
    pub all_read : answer ≡ None → (payloads : List (List ℕ)) → HoldsLog start payloads last content → payloads ≡ passed
    all_read is payloads log =
        let left = so_far payloads log in
        left.1 ∙ ap (λ (x : List (List ℕ)). passed ++ x) (here None is left.0 left.2) ∙ append-nil passed

-- the log that is read is the same one, on a device that was read
pub log_still : (old new : Log) (payloads : List (List ℕ)) (content now : List ℕ) → IsLogStill old new → now ≡ content
    → HoldsLog old.first_gate_sector payloads old.last_gate_sector content → HoldsLog new.first_gate_sector payloads new.last_gate_sector now
log_still old new payloads content now still same log =
    let At : ℕ → ℕ → List ℕ → Type 0 = λ first last x. HoldsLog first payloads last x in
    subst (λ first. At first new.last_gate_sector now) (sym still.first)
    (subst (λ last. At old.first_gate_sector last now) (sym still.last) (subst (At old.first_gate_sector old.last_gate_sector) (sym same) log))

pub still_then : (old mid new : Log) → IsLogStill old mid → IsLogStill mid new → IsLogStill old new
still_then old mid new first then = record { first = then.first ∙ first.first; last = then.last ∙ first.last; count = then.count ∙ first.count }
