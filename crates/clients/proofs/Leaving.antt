-- Why a turn lets a client go.
use Rattle.std.proofs.Common.{◌≡◌, ◌∙◌, ap, refl, subst, sym, ℕ, Bool, true, List, [], ◌∷◌, Option, Some, None, option_map}
use Rattle.httpmsg.specs.Stream.{Message}
use Rattle.std.specs.declared.time.Instant.{Instant}
use Rattle.std.specs.declared.time.Duration.{Duration}
use Rattle.objects.specs.Failing.{HasGrown}
use Rattle.clients.specs.Places.{HasReason}
use Rattle.names.specs.declared.format.Format.{Format}
use Rattle.std.specs.Option.{option_map_or}
use Rattle.sessions.specs.State.{State}
use Rattle.sessions.specs.Restating.{Queue, Gives}
use Rattle.clients.specs.declared.line.Line.{Line}
use Rattle.clients.specs.Plain.{dialect_of, later_of, IsPlain}
use Rattle.clients.specs.declared.line.Gone.{Gone}
use Rattle.clients.specs.declared.line.Gone.TheVariants as gone
use Rattle.clients.specs.Waiting.{IsLate, EndsAtRest, EndsFor}

pub at_rest : (g : Gone) (old new : State) (failed later_failed late : Type 0) → (failed → later_failed) → EndsAtRest failed g new → EndsFor g old new later_failed late
at_rest gone.Lost old new failed later_failed late later ends = absurd ends
at_rest gone.Failed old new failed later_failed late later ends = later ends
at_rest gone.Done old new failed later_failed late later ends = ends
at_rest gone.Late old new failed later_failed late later ends = absurd ends

pub has_failed : (g : Gone) (old new : State) (failed late : Type 0) → g ≡ gone.Failed → failed → EndsFor g old new failed late
has_failed g old new failed late is fails = subst (λ x. EndsFor x old new failed late) (sym is) fails

-- before an open session none of its messages stands
pub none_later : (opened : Bool) (later : List Message) → opened ≡ true → ((opened ≡ true) × (later ≡ [] → ⊥) → ⊥) → later ≡ []
none_later opened [] is none = refl
none_later opened (m ∷ ms) is none = absurd (none (is, λ (clash : m ∷ ms ≡ []). cc))

-- what a turn ends for is a reason that is seen of the session and of the stream
pub reason_of : (g : Gone) (old new : State) (before now : ℕ) (since at : Instant) (idle : Option Duration)
    → EndsFor g old new (HasGrown before now) (IsLate new since at idle) → HasReason g before now new idle
reason_of gone.Lost old new before now since at idle ends = ends.0
reason_of gone.Failed old new before now since at idle ends = ends
reason_of gone.Done old new before now since at idle ends = ends
reason_of gone.Late old new before now since at idle ends = (since, at, ends)

-- a client whose messages are restated is not one whose messages are answered as they are
pub not_plain : {S : Type 0} (line : Line S) (q : Queue) → line.later ≡ Some q → IsPlain line → ⊥
not_plain line q is plain =
    let clash : Some q.format ≡ None = sym (ap (λ (o : Option Queue). option_map (λ (x : Queue). x.format) o) is) ∙ plain in cc

some_is : (g h : Format) → Some g ≡ Some h → g ≡ h
some_is g h same = cc

-- What is given of the messages before a session is so of those of its client.
pub gives_of : {S : Type 0} (line : Line S) (q after : Queue) (f : Format) (s t : State) (answered : Option Message) → line.later ≡ Some q
    → Gives q.format q.messages after.messages s t answered → dialect_of line ≡ Some f → Gives f (later_of line) after.messages s t answered
gives_of line q after f s t answered is gives same =
    let format_is : Some q.format ≡ Some f = sym (ap (λ (o : Option Queue). option_map (λ (x : Queue). x.format) o) is) ∙ same in
    let By : Format → Type 0 = λ g. Gives g q.messages after.messages s t answered in
    let From : Option Queue → Type 0 = λ o. Gives f (option_map_or (λ (x : Queue). x.messages) o []) after.messages s t answered in
    subst From (sym is) (subst By (some_is q.format f format_is) gives)

-- a client whose messages are answered as they are has no dialect
pub not_dialect : {S : Type 0} (line : Line S) (f : Format) → line.later ≡ None → dialect_of line ≡ Some f → ⊥
not_dialect line f none is =
    let clash : None ≡ Some f = sym (ap (λ (o : Option Queue). option_map (λ (x : Queue). x.format) o) none) ∙ is in cc

-- where none of its messages stands before the session, the queue is empty
pub empty_of : {S : Type 0} (line : Line S) (q : Queue) → line.later ≡ Some q → later_of line ≡ [] → q.messages ≡ []
empty_of line q is none = sym (ap (λ (o : Option Queue). option_map_or (λ (x : Queue). x.messages) o []) is) ∙ none
