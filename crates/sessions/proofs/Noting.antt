-- What is told of messages, one after another.
use Rattle.std.proofs.Common.{arith, ◌≡◌, ◌∙◌, sym, ap, refl, ◌<◌, ◌≤◌, ◌+◌, ◌-◌, ◌^◌, ◌⊎◌, inl, inr, ℕ, suc, List, [], ◌∷◌, ◌++◌, length, drop, get_or, Result, Ok, Err}
use Rattle.std.proofs.lemmas.List.{drop-drop, get_or-drop, length-drop, drop_all}
use Rattle.requests.specs.declared.refusal.Refusal.TheVariants.{OutOfMemory}
use Rattle.requests.specs.Reply.{Reply, status}
use Rattle.histories.specs.View.{after_all}
use Rattle.histories.proofs.ViewLemmas.{after_all-append}
use Rattle.names.specs.declared.format.Format.{Format}
use Rattle.names.specs.declared.format.Rules.{Rules}
use Rattle.decoded.specs.Standing.{Write, View}
use Rattle.apicore.specs.Step.{Asked, writes, reply, replies}
use Rattle.httpmsg.specs.Flow.{HasCause, Writes}
use Rattle.httpmsg.specs.Stream.{Message}
use Rattle.api.specs.Answers.{Answered, writes_of, reply_of, all_writes}
use Rattle.api.proofs.Folds.{seen}
use Rattle.api.proofs.Groups.{AskedFirst, served_as, same_asked}
use Rattle.sessions.specs.declared.note.Note.{Note}
use Rattle.sessions.specs.Notes.{note_of, notes_to, notes_of}

-- what never fails takes all the bytes
pub taken_whole : {S T E : Type 0} (took : S → S → List ℕ → Type 0) (old new : S) (bytes : List ℕ) (r : Result T E) → HasCause 0 0 r
    → Writes took old new bytes r → took old new bytes
taken_whole took old new bytes (Ok x) cause writes = writes
taken_whole took old new bytes (Err fault) cause writes = absurd (on (cause.failed refl))
  where
    on : (0 < 0) ⊎ (0 ≡ 2 ^ 64 - 1) → ⊥
    on (inl more) = omega (arith, more)
    on (inr full) = omega (arith, full)

notes_first : (format : Format) (ms : List Message) (rs : List Reply) (d : Message) → 0 < length ms
    → notes_to format ms rs ≡ note_of format (get_or ms 0 d) (get_or rs 0 (status OutOfMemory)) ∷ notes_to format (drop 1 ms) (drop 1 rs)
notes_first format [] rs d some = absurd (omega (arith, some))
notes_first format (m ∷ ms) [] d some = refl
notes_first format (m ∷ ms) (r ∷ rs) d some = refl

-- one more message
pub notes_more : (format : Format) (ms : List Message) (rs : List Reply) (k : ℕ) (d : Message) → k < length ms
    → notes_to format (drop k ms) (drop k rs)
    ≡ note_of format (get_or ms k d) (get_or rs k (status OutOfMemory)) ∷ notes_to format (drop (k + 1) ms) (drop (k + 1) rs)
notes_more format ms rs k d below =
    let none : Reply = status OutOfMemory in
    let some : 0 < length (drop k ms) = omega (arith, length-drop k ms, below) in
    let at : k + 0 ≡ k = omega arith in
    let more : List Note = notes_to format (drop 1 (drop k ms)) (drop 1 (drop k rs)) in
    notes_first format (drop k ms) (drop k rs) d some
    ∙ ap (λ m. note_of format m (get_or (drop k rs) 0 none) ∷ more) (get_or-drop k ms 0 d ∙ ap (λ n. get_or ms n d) at)
    ∙ ap (λ r. note_of format (get_or ms k d) r ∷ more) (get_or-drop k rs 0 none ∙ ap (λ n. get_or rs n none) at)
    ∙ ap (λ x. note_of format (get_or ms k d) (get_or rs k none) ∷ notes_to format x (drop 1 (drop k rs))) (drop-drop 1 k ms)
    ∙ ap (λ x. note_of format (get_or ms k d) (get_or rs k none) ∷ notes_to format (drop (k + 1) ms) x) (drop-drop 1 k rs)

pub notes_end : (format : Format) (k : ℕ) (ms : List Message) (rs : List Reply) → length ms ≤ k → notes_to format (drop k ms) (drop k rs) ≡ []
notes_end format k ms rs past = ap (λ x. notes_to format x (drop k rs)) (drop_all k ms past)

module _ (rules : Rules) where
  pub length-notes_of : (v : View) (xs : List Answered) → length (notes_of rules v xs) ≡ length xs
  length-notes_of v [] = refl
  length-notes_of v (x ∷ xs) = ap suc (length-notes_of (after_all rules v (writes_of rules v x)) xs)

  -- what is told of the answers is told of the replies
  pub notes_of-served_as : (v : View) (ms : List Message) (xs : List Asked) → AskedFirst rules.format xs ms → notes_of rules v (served_as ms xs) ≡ notes_to rules.format ms (replies rules v xs)
  notes_of-served_as v [] [] first = refl
  notes_of-served_as v [] (x ∷ xs) first = absurd first
  notes_of-served_as v (m ∷ ms) [] first = ap (λ (z : List Note). note_of rules.format m (status OutOfMemory) ∷ z) (notes_of-served_as v ms [] tt)
  notes_of-served_as v (m ∷ ms) (x ∷ xs) first =
      ap (λ y. note_of rules.format m (reply rules v y) ∷ notes_of rules (after_all rules v (writes rules v y)) (served_as ms xs)) (same_asked rules.format m x first.0)
      ∙ ap (λ (z : List Note). note_of rules.format m (reply rules v x) ∷ z) (notes_of-served_as (after_all rules v (writes rules v x)) ms xs first.1)

  -- some answers, and then others
  pub notes_of-append : (v : View) (xs ys : List Answered) → notes_of rules v (xs ++ ys) ≡ notes_of rules v xs ++ notes_of rules (seen rules v xs) ys
  notes_of-append v [] ys = refl
  notes_of-append v (x ∷ xs) ys =
      let w : List Write = writes_of rules v x in
      let u : View = after_all rules v w in
      let one : Note = note_of rules.format x.message (reply_of rules v x) in
      ap (λ (z : List Note). one ∷ z) (notes_of-append u xs ys)
      ∙ ap (λ z. one ∷ (notes_of rules u xs ++ notes_of rules z ys)) (sym (after_all-append rules v w (all_writes rules u xs)))
