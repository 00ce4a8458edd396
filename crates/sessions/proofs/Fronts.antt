-- The answers to messages of several sessions, from what the store replied.
use Rattle.std.proofs.Common.{refl, ◌≡◌, ◌≤◌, ◌+◌, ◌∙◌, sym, ap, subst, ◌⊎◌, inl, inr, ℕ, Bool, true, List, [], ◌++◌, length, map, take, get_or}
use Rattle.device.specs.declared.device.Device.{Ghosts}
use Rattle.requests.specs.Reply.{Reply}
use Rattle.names.specs.declared.format.Rules.{Rules}
use Rattle.records.specs.Payload.{group_limit}
use Rattle.decoded.specs.Standing.{View}
use Rattle.durable.specs.declared.store.Store.{Store}
use Rattle.durable.specs.Settled.{ServesAt, HasServed}
use Rattle.httpmsg.specs.Stream.{Message}
use Rattle.routes.specs.Asked.{asked}
use Rattle.api.specs.declared.fault.ServeFault.{ServeFault}
use Rattle.api.specs.declared.fault.ServeFault.TheVariants.{Device, Failed}
use Rattle.api.proofs.Groups.{FailsAtFirst, served_as, messages-served_as, replies_are, front_first, front_applied}
use Rattle.sessions.specs.declared.note.Note.{Note}
use Rattle.sessions.specs.State.{State, GoesOnWith}
use Rattle.sessions.specs.Turn.{answers_to, AllGain}
use Rattle.sessions.specs.Notes.{notes_to, Tells}
use Rattle.sessions.specs.Refusing.{AllRefuse}
use Rattle.sessions.specs.Stops.{TurnFails, TurnStops}
use Rattle.sessions.proofs.Gaining.{gains_none}
use Rattle.sessions.proofs.Noting.{notes_of-served_as}
use Rattle.sessions.proofs.Turning.{bytes_of-served_as}

-- each session gains the answers to its own messages, and they are told of
pub front_told : {D : Type 0} {g : Ghosts D} (rules : Rules) (old new : Store D g) (v : View) (ms : List Message) (n count : ℕ) (given : List Reply)
    → (routed : n ≤ length ms) → (counted : length given ≤ length ms → length given ≤ count) → (serving : ServesAt rules old v)
    → (said : HasServed old new (take (length given) (map (asked rules.format) (take n ms))) given) → (places : List ℕ) (before after : List State)
    → AllGain before after (λ i. answers_to rules.format i places (take count ms) given) → (is_kept : Bool) → (held holds : List Note)
    → (is_kept ≡ true → length held + length (take count ms) ≤ group_limit → holds ≡ held ++ notes_to rules.format (take count ms) given)
    → Tells rules old new v places (take count ms) before after is_kept held holds
front_told rules old new v ms n count given routed counted serving said places before after gains is_kept held holds told = record {
  turned = record {
    answered = served_as (take count ms) said.asked;
    answers = messages-served_as (take count ms) said.asked;
    given = λ i d below.
        let Both : List ℕ → Type 0 = λ w. GoesOnWith (get_or before i d) (get_or after i d) w in
        subst Both
        (ap (answers_to rules.format i places (take count ms)) (replies_are rules old new v ms n count given routed counted serving said)
        ∙ sym (bytes_of-served_as rules v i places (take count ms) said.asked (front_first rules old new v ms n count given routed counted serving said)))
        (gains i d below);
    store = front_applied rules old new v ms n count given routed counted serving said;
  };
  told = λ kept fits.
      told kept fits
      ∙ ap (λ rs. held ++ notes_to rules.format (take count ms) rs) (replies_are rules old new v ms n count given routed counted serving said)
      ∙ ap (λ (z : List Note). held ++ z)
      (sym (notes_of-served_as rules v (take count ms) said.asked (front_first rules old new v ms n count given routed counted serving said)));
}

-- the device fails at the first of the messages
pub front_refused : {D : Type 0} {g : Ghosts D} (rules : Rules) (old new : Store D g) (v : View) (places : List ℕ) (ms : List Message) (before after : List State)
    (fault : ServeFault) → ((fault ≡ Device) ⊎ (fault ≡ Failed)) × FailsAtFirst rules old new v ms → AllRefuse places before after
    → TurnStops rules old new v places ms before after fault
front_refused rules old new v places ms before after fault stopped refused = on stopped.0
  where
    fails : TurnFails rules old new v places ms before after
    fails = record {
      answered = [];
      failing = stopped.1.failing;
      waiting = stopped.1.waiting;
      split = stopped.1.split;
      between = before;
      many = refl;
      given = λ i d below. gains_none (get_or before i d);
      refused = refused;
      store = stopped.1.store;
    }

    on : (fault ≡ Device) ⊎ (fault ≡ Failed) → TurnStops rules old new v places ms before after fault
    on (inl is) = subst (TurnStops rules old new v places ms before after) (sym is) fails
    on (inr is) = subst (TurnStops rules old new v places ms before after) (sym is) fails
