-- A stream has one list of messages and one end.
use Rattle.std.proofs.Common.{◌≡◌, ℕ, inl, inr, List, [], ◌∷◌, ◌++◌, length, take, drop, refl, ap, sym, ◌∙◌, arith, subst, Some, None, Bool, true, false, length-append}
use Rattle.std.specs.Bool.{MatchBool}
use Rattle.std.proofs.Math.Seq.{take-append_seam, drop-append_seam}
use Rattle.httparse.specs.Grammar.{RequestHead}
use Rattle.httpmsg.specs.declared.head.BrokenMessage.{BrokenMessage}
use Rattle.httpmsg.specs.declared.head.End.{End}
use Rattle.httpmsg.specs.declared.head.End.TheVariants.{Clean, Closed, Broken}
use Rattle.httpmsg.specs.Head.{head_of, method_of, content_length, fault_of}
use Rattle.httpmsg.specs.Stream.{Message, message_of, Takes, is_head, EndsAt, IsStream, StreamIsUnique}
use Rattle.httpmsg.proofs.Cuts.{none_begins, one_head}

same_front : (a b r q : List ℕ) → length a ≡ length b → a ++ r ≡ b ++ q → (a ≡ b) × (r ≡ q)
same_front a b r q size same = (
  sym (take-append_seam a r) ∙ ap (take (length a)) same ∙ ap (λ n. take n (b ++ q)) size ∙ take-append_seam b q,
  sym (drop-append_seam a r) ∙ ap (drop (length a)) same ∙ ap (λ n. drop n (b ++ q)) size ∙ drop-append_seam b q,
)

takes_unique : (bytes : List ℕ) (m n : Message) (r q : List ℕ) → Takes bytes m r → Takes bytes n q → (m ≡ n) × (r ≡ q)
takes_unique bytes m n r q x y =
    let same = one_head bytes x.head y.head (m.body ++ r) (n.body ++ q) x.begins y.begins in
    let size : length m.body ≡ length n.body = x.body ∙ ap (λ h. content_length (head_of h)) same.0 ∙ sym y.body in
    let parts = same_front m.body n.body r q size same.1 in (
      x.is ∙ ap (λ h. message_of h m.body) same.0 ∙ ap (message_of y.head) parts.0 ∙ sym y.is,
      parts.1,
    )

no_message : (bytes : List ℕ) (m : Message) (rest : List ℕ) (end : End) → Takes bytes m rest → EndsAt bytes end → ⊥
no_message bytes m rest Clean takes empty =
    none_begins bytes (ap length empty) takes.head (m.body ++ rest) takes.begins
no_message bytes m rest Closed takes ends = ends
no_message bytes m rest (Broken b) takes (inl inside) =
    let short = inside.unfinished takes.head (m.body ++ rest) takes.begins in
    omega (arith, short.1, takes.body, length-append m.body rest)
no_message bytes m rest (Broken b) takes (inr fault) =
    let same = one_head bytes fault.head takes.head fault.rest (m.body ++ rest) fault.begins takes.begins in
    let clash : None ≡ Some b.fault = sym takes.sound ∙ ap (λ h. fault_of (head_of h)) (sym same.0) ∙ fault.fault in
    cc

broken_unique : (bytes : List ℕ) (b d : BrokenMessage) → EndsAt bytes (Broken b) → EndsAt bytes (Broken d) → b ≡ d
broken_unique bytes b d (inl x) (inl y) = x.is ∙ sym y.is
broken_unique bytes b d (inl x) (inr y) =
    let clash : None ≡ Some d.fault = sym (x.unfinished y.head y.rest y.begins).0 ∙ y.fault in cc
broken_unique bytes b d (inr x) (inl y) =
    let clash : None ≡ Some b.fault = sym (y.unfinished x.head x.rest x.begins).0 ∙ x.fault in cc
broken_unique bytes b d (inr x) (inr y) =
    let same = one_head bytes x.head y.head x.rest y.rest x.begins y.begins in
    let faults : Some b.fault ≡ Some d.fault = sym x.fault ∙ ap (λ h. fault_of (head_of h)) same.0 ∙ y.fault in
    let fault : b.fault ≡ d.fault = cc in
    let heads : b.is_head ≡ d.is_head = x.is_head ∙ ap (λ (h : RequestHead). is_head (method_of h.method)) same.0 ∙ sym y.is_head in
    λ i. record { fault = fault i; is_head = heads i }

empty_ends : (bytes : List ℕ) (b : BrokenMessage) → bytes ≡ [] → EndsAt bytes (Broken b) → ⊥
empty_ends bytes b none (inl inside) = inside.some none
empty_ends bytes b none (inr fault) = none_begins bytes (ap length none) fault.head fault.rest fault.begins

ends_unique : (bytes : List ℕ) (e d : End) → EndsAt bytes e → EndsAt bytes d → e ≡ d
ends_unique bytes Clean Clean x y = refl
ends_unique bytes Clean Closed x y = absurd y
ends_unique bytes Clean (Broken d) x y = absurd (empty_ends bytes d x y)
ends_unique bytes Closed d x y = absurd x
ends_unique bytes (Broken b) Clean x y = absurd (empty_ends bytes b y x)
ends_unique bytes (Broken b) Closed x y = absurd y
ends_unique bytes (Broken b) (Broken d) x y = ap Broken (broken_unique bytes b d x y)

pub stream_unique : StreamIsUnique
stream_unique bytes [] [] e d x y = (refl, ends_unique bytes e d x y)
stream_unique bytes [] (n ∷ ns) e d x (q, takes, closing) = absurd (no_message bytes n q e takes x)
stream_unique bytes (m ∷ ms) [] e d (r, takes, closing) y = absurd (no_message bytes m r d takes y)
stream_unique bytes (m ∷ ms) (n ∷ ns) e d (r, x, closing) (q, y, ending) =
    let same = takes_unique bytes m n r q x y in
    let Ending : Bool → List ℕ → Type 0 = λ b rest. MatchBool b ((ns ≡ []) × (d ≡ Closed)) (IsStream rest ns d) in
    let Here : Message → Type 0 = λ k. Ending k.closes q in
    let There : List ℕ → Type 0 = λ rest. Ending m.closes rest in
    let other : Ending m.closes r = subst There (sym same.1) (subst Here (sym same.0) ending) in
    both m.closes closing other same.0 (λ a b. stream_unique r ms ns e d a b)
  where
    both : (b : Bool) → MatchBool b ((ms ≡ []) × (e ≡ Closed)) (IsStream r ms e) → MatchBool b ((ns ≡ []) × (d ≡ Closed)) (IsStream r ns d)
        → m ≡ n → (IsStream r ms e → IsStream r ns d → (ms ≡ ns) × (e ≡ d)) → (m ∷ ms ≡ n ∷ ns) × (e ≡ d)
    both true a b head go = (cc, a.1 ∙ sym b.1)
    both false a b head go = let rest = go a b in (cc, rest.1)
