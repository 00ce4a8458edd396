-- The bytes of the answers of a turn, for one session of several.
use Rattle.std.proofs.Common.{arith, ◌≡◌, ◌∙◌, sym, ap, refl, subst, ℕ, List, [], ◌∷◌, ◌++◌, length, get_or, ◌==◌, cond}
use Rattle.std.proofs.lemmas.List.{append_assoc, map-append, length-map}
use Rattle.device.specs.declared.device.Device.{Ghosts}
use Rattle.requests.specs.declared.refusal.Refusal.TheVariants.{OutOfMemory}
use Rattle.requests.specs.Reply.{status}
use Rattle.histories.specs.View.{after_all}
use Rattle.histories.proofs.ViewLemmas.{after_all-append}
use Rattle.names.specs.declared.format.Rules.{Rules}
use Rattle.decoded.specs.Standing.{Write, View}
use Rattle.apicore.specs.Step.{Asked, writes, reply, replies}
use Rattle.httpmsg.specs.Stream.{Message}
use Rattle.routes.specs.ReplyBytes.{reply_bytes}
use Rattle.durable.specs.declared.store.Store.{Store}
use Rattle.api.specs.Answers.{Answered, messages, writes_of, reply_of, all_writes}
use Rattle.api.proofs.Folds.{seen, applied_then}
use Rattle.api.proofs.Groups.{AskedFirst, served_as, same_asked}
use Rattle.sessions.specs.State.{State, GoesOnWith}
use Rattle.sessions.specs.Turn.{answers_to, bytes_of, Turned}
use Rattle.sessions.proofs.Gaining.{gains_then}

module _ (rules : Rules) where
  -- the bytes of one session's answers are those of the replies to its messages
  pub bytes_of-served_as : (v : View) (i : ℕ) (ps : List ℕ) (ms : List Message) (xs : List Asked) → AskedFirst rules.format xs ms
      → bytes_of rules v i ps (served_as ms xs) ≡ answers_to rules.format i ps ms (replies rules v xs)
  bytes_of-served_as v i [] ms xs first = refl
  bytes_of-served_as v i (p ∷ ps) [] [] first = refl
  bytes_of-served_as v i (p ∷ ps) [] (x ∷ xs) first = absurd first
  bytes_of-served_as v i (p ∷ ps) (m ∷ ms) [] first =
      ap (λ z. cond (p == i) (reply_bytes rules.format m (status OutOfMemory)) [] ++ z) (bytes_of-served_as v i ps ms [] tt)
  bytes_of-served_as v i (p ∷ ps) (m ∷ ms) (x ∷ xs) first =
      ap (λ y. cond (p == i) (reply_bytes rules.format m (reply rules v y)) [] ++ bytes_of rules (after_all rules v (writes rules v y)) i ps (served_as ms xs)) (same_asked rules.format m x first.0)
      ∙ ap (λ z. cond (p == i) (reply_bytes rules.format m (reply rules v x)) [] ++ z) (bytes_of-served_as (after_all rules v (writes rules v x)) i ps ms xs first.1)

  -- some answers, and then others
  pub bytes_of-append : (v : View) (i : ℕ) (ps qs : List ℕ) (xs ys : List Answered) → length ps ≡ length xs
      → bytes_of rules v i (ps ++ qs) (xs ++ ys) ≡ bytes_of rules v i ps xs ++ bytes_of rules (seen rules v xs) i qs ys
  bytes_of-append v i [] qs [] ys same = refl
  bytes_of-append v i [] qs (x ∷ xs) ys same = absurd (omega (arith, same))
  bytes_of-append v i (p ∷ ps) qs [] ys same = absurd (omega (arith, same))
  bytes_of-append v i (p ∷ ps) qs (x ∷ xs) ys same =
      let w : List Write = writes_of rules v x in
      let u : View = after_all rules v w in
      let one : List ℕ = cond (p == i) (reply_bytes rules.format x.message (reply_of rules v x)) [] in
      ap (λ z. one ++ z) (bytes_of-append u i ps qs xs ys (omega (arith, same)))
      ∙ sym (append_assoc one (bytes_of rules u i ps xs) (bytes_of rules (after_all rules u (all_writes rules u xs)) i qs ys))
      ∙ ap (λ z. (one ++ bytes_of rules u i ps xs) ++ bytes_of rules z i qs ys) (sym (after_all-append rules v w (all_writes rules u xs)))

-- one turn, and then another
unfoldable pub turned_then : {D : Type 0} {g : Ghosts D} (rules : Rules) (old mid new : Store D g) (v : View) (ps qs : List ℕ) (ms ns : List Message) (a b c : List State)
    → length ps ≡ length ms → length b ≡ length a
    → (before : Turned rules old mid v ps ms a b) → Turned rules mid new (seen rules v before.answered) qs ns b c → Turned rules old new v (ps ++ qs) (ms ++ ns) a c
turned_then rules old mid new v ps qs ms ns a b c same kept before after =
    let xs : List Answered = before.answered in
    let ys : List Answered = after.answered in
    record {
      answered = xs ++ ys;
      answers = map-append (λ (z : Answered). z.message) xs ys ∙ ap (λ z. z ++ messages ys) before.answers ∙ ap (λ z. ms ++ z) after.answers;
      given = λ i d below.
          let Both : List ℕ → Type 0 = λ w. GoesOnWith (get_or a i d) (get_or c i d) w in
          subst Both (sym (bytes_of-append rules v i ps qs xs ys (same ∙ sym (ap length before.answers) ∙ length-map xs (λ (z : Answered). z.message))))
          (gains_then (get_or a i d) (get_or b i d) (get_or c i d) (bytes_of rules v i ps xs) (bytes_of rules (seen rules v xs) i qs ys)
          (before.given i d below) (after.given i d (omega (arith, kept, below))));
      store = applied_then rules old mid new v xs ys before.store after.store;
    }
