-- How a log is walked.
use Rattle.std.proofs.Common.{◌≡◌, sym, subst, ℕ, ◌+◌, List, [], ◌∷◌, ◌++◌, append_assoc, Vec, Global, Option, None, Some}
use Rattle.std.specs.List.{AllByRecursion}
use Rattle.std.specs.Option.{IfSome, option_or}
use Rattle.std.proofs.lemmas.List.Elements.{Contains-push, Contains-append_left}
use Rattle.gatelog.specs.Log.{HoldsLog}
use Rattle.gatelog.specs.Walk.{IsFirstOf}
use Rattle.names.specs.Key.{Key}
use Rattle.roots.specs.declared.root.Root.{Root}
use Rattle.roots.specs.Root.{log_sector}
use Rattle.damage.specs.Plans.{ArePutIn, PutsOtherPlans}
use Rattle.damage.specs.Records.{IsOfWrites, IsFirstDamagedRecord}

-- A log stands at the first gate. These payloads of it were read, and the others stand at another gate.
pub record Walked (content : List ℕ) (start gate last : ℕ) (passed : List (List ℕ)) : Type 0 where
  pub rest : List (List ℕ)
  pub all : HoldsLog start (passed ++ rest) last content
  pub behind : HoldsLog gate rest last content

-- a walk begins at a gate that is this one
pub walked_here : (content : List ℕ) (start gate last : ℕ) (payloads : List (List ℕ)) → gate ≡ start → HoldsLog start payloads last content → Walked content start gate last []
walked_here content start gate last payloads is log =
    let At : ℕ → Type 0 = λ g. HoldsLog g payloads last content in record { rest = payloads; all = log; behind = subst At (sym is) log }

abbrev Told : Type 0
Told = Vec ℕ Global × ℕ

-- This payload stands at a gate, the others at another one.
record Next (content : List ℕ) (start gate last : ℕ) (passed : List (List ℕ)) (told : Told) : Type 0 where
  others : List (List ℕ)
  all : HoldsLog start (passed ++ told.0.items ∷ others) last content
  here : HoldsLog gate (told.0.items ∷ others) last content
  behind : HoldsLog told.1 others last content

-- The content of the device is the same now, and this is answered of the payloads that are left: a payload, and the gate behind its record.
module _ (content now : List ℕ) (same : now ≡ content) (start gate last : ℕ) (passed : List (List ℕ)) (walked : Walked content start gate last passed) (answer : Option Told) (told : Told)
    (is : answer ≡ Some told) (found : (payloads : List (List ℕ)) → HoldsLog gate payloads last now → IsFirstOf answer payloads last now) where
  first_left : (others : List (List ℕ)) × (walked.rest ≡ told.0.items ∷ others) × HoldsLog told.1 others last content
  first_left =
      let Log : List ℕ → Type 0 = λ x. HoldsLog gate walked.rest last x in
      let First : Option Told → List ℕ → Type 0 = λ a x. IsFirstOf a walked.rest last x in
      subst (λ a. First a content) is (subst (First answer) same (found walked.rest (subst Log (sym same) walked.behind)))

  -- it is the next one
  next_there : Next content start gate last passed told
  next_there =
      let All : List (List ℕ) → Type 0 = λ ps. HoldsLog start (passed ++ ps) last content in
      let Behind : List (List ℕ) → Type 0 = λ ps. HoldsLog gate ps last content in
      record { others = first_left.0; all = subst All first_left.1 walked.all; here = subst Behind first_left.1 walked.behind; behind = first_left.2 }

  -- over this payload, in a log whose last gate is the same one
  pub walked_on : (new_last : ℕ) → new_last ≡ last → Walked content start told.1 new_last (passed ++ told.0.items ∷ [])
  walked_on new_last stays =
      let Of : List (List ℕ) → Type 0 = λ ps. HoldsLog start ps last content in
      let Last : ℕ → Type 0 = λ l. Walked content start told.1 l (passed ++ told.0.items ∷ []) in
      subst Last (sym stays) (record {
        rest = next_there.others;
        all = subst Of (sym (append_assoc passed (told.0.items ∷ []) next_there.others)) next_there.all;
        behind = next_there.behind;
      })

  -- where it is that of no writes
  pub damaged_there : (root : Root) → start ≡ log_sector root → AllByRecursion IsOfWrites passed → (IsOfWrites told.0.items → ⊥) → (sector : ℕ) → sector ≡ gate + 1
      → IsFirstDamagedRecord content root sector
  damaged_there root is_start sound damaged sector begins =
      let Of : ℕ → Type 0 = λ s. HoldsLog s (passed ++ told.0.items ∷ next_there.others) last content in
      record {
        before = passed;
        damaged_payload = told.0.items;
        after = next_there.others;
        last = last;
        gate = gate;
        log = subst Of is_start next_there.all;
        behind = next_there.here;
        begins = begins;
        sound = sound;
        damaged = damaged;
      }

  -- where a write in it puts other plans
  pub puts_there : (root : Root) → start ≡ log_sector root → (key : Key) → ArePutIn root.label.format told.0.items key → PutsOtherPlans content root key
  puts_there root is_start key put_in =
      let all = walked_on last (λ i. last) in
      let Of : ℕ → Type 0 = λ s. HoldsLog s ((passed ++ told.0.items ∷ []) ++ all.rest) last content in
      record {
        payloads = (passed ++ told.0.items ∷ []) ++ all.rest;
        last = last;
        log = subst Of is_start all.all;
        bytes = told.0.items;
        among = Contains-append_left (passed ++ told.0.items ∷ []) all.rest told.0.items (Contains-push passed told.0.items);
        put_in = put_in;
      }

-- what was found last, else what was found before
pub either_found : (P : Key → Type 0) (here before : Option Key) → IfSome here P → IfSome before P → IfSome (option_or here before) P
either_found P (Some k) before found was = found
either_found P None before found was = was

pub if_found : (P Q : Key → Type 0) → ((k : Key) → P k → Q k) → (found : Option Key) → IfSome found P → IfSome found Q
if_found P Q to (Some k) is = to k is
if_found P Q to None is = is
