-- What sessions gain, one answer after another.
use Rattle.std.proofs.Common.{arith, ◌≡◌, ◌∙◌, sym, ap, refl, subst, ◌<◌, ◌≤◌, ◌+◌, ℕ, Bool, true, false, List, [], ◌∷◌, ◌++◌, length, drop, get_or, set, ◌==◌, cond, true≢false}
use Rattle.std.specs.Prelude.{if◌then◌else◌}
use Rattle.std.proofs.lemmas.List.{append-nil, append_assoc, drop-drop, get_or-drop, get_or-set_same, get_or-set_other, get_or_default, length-drop, drop_all}
use Rattle.std.proofs.lemmas.Bool.{eqb-true, eqb-false}
use Rattle.requests.specs.declared.refusal.Refusal.TheVariants.{OutOfMemory}
use Rattle.requests.specs.Reply.{Reply, status}
use Rattle.names.specs.declared.format.Format.{Format}
use Rattle.httpmsg.specs.Stream.{Message}
use Rattle.routes.specs.ReplyBytes.{reply_bytes}
use Rattle.sessions.specs.State.{State, is_lost, GoesOnWith}
use Rattle.sessions.specs.Turn.{answers_to}

pub gains_none : (s : State) → GoesOnWith s s []
gains_none s = record {
  gains = record { front = []; rest = []; split = refl; unsent = sym (append-nil s.unsent); whole = λ kept. refl };
  phase = λ kept. refl;
  lost = λ lost. refl;
  none = λ none. refl;
  waiting = refl;
  progress = refl;
}

nothing_in : (x y : List ℕ) → x ++ y ≡ [] → (x ≡ []) × (y ≡ [])
nothing_in [] y is = (refl, is)
nothing_in (b ∷ x) y is = absurd cc

lost_as : (s t : State) → t ≡ s → is_lost t.phase ≡ is_lost s.phase
lost_as s t same = ap (λ (u : State). is_lost u.phase) same

-- some bytes, and then others
pub gains_then : (a b c : State) (x y : List ℕ) → GoesOnWith a b x → GoesOnWith b c y → GoesOnWith a c (x ++ y)
gains_then a b c x y before after = on (is_lost b.phase) refl
  where
    nothing : x ++ y ≡ [] → c ≡ a
    nothing is = let parts = nothing_in x y is in after.none parts.1 ∙ before.none parts.0

    on : (lost : Bool) → is_lost b.phase ≡ lost → GoesOnWith a c (x ++ y)
    on false is =
        let first = before.gains in
        let second = after.gains in
        let front_is : first.front ≡ x = sym (first.split ∙ ap (λ r. first.front ++ r) (first.whole is) ∙ append-nil first.front) in
        record {
          gains = record {
            front = x ++ second.front;
            rest = second.rest;
            split = ap (λ z. x ++ z) second.split ∙ sym (append_assoc x second.front second.rest);
            unsent = second.unsent ∙ ap (λ z. z ++ second.front) (first.unsent ∙ ap (λ z. a.unsent ++ z) front_is) ∙ append_assoc a.unsent x second.front;
            whole = second.whole;
          };
          phase = λ kept. after.phase kept ∙ before.phase is;
          lost = λ lost. absurd (true≢false (sym lost ∙ sym (lost_as a b (before.lost lost)) ∙ is));
          none = nothing;
          waiting = after.waiting ∙ before.waiting;
          progress = after.progress ∙ before.progress;
        }
    on true is =
        let first = before.gains in
        let same : c ≡ b = after.lost is in
        record {
          gains = record {
            front = first.front;
            rest = first.rest ++ y;
            split = ap (λ z. z ++ y) first.split ∙ append_assoc first.front first.rest y;
            unsent = ap (λ (s : State). s.unsent) same ∙ first.unsent;
            whole = λ kept. absurd (true≢false (sym is ∙ sym (lost_as b c same) ∙ kept));
          };
          phase = λ kept. absurd (true≢false (sym is ∙ sym (lost_as b c same) ∙ kept));
          lost = λ lost. same ∙ before.lost lost;
          none = nothing;
          waiting = after.waiting ∙ before.waiting;
          progress = after.progress ∙ before.progress;
        }

-- ---- one answer of several

-- the bytes of one answer, for the session at a place
abbrev pub one_to : Format → ℕ → (place : ℕ) → Message → Reply → List ℕ
one_to format i p m r = if p == i then reply_bytes format m r else []

answers_first : (format : Format) (i : ℕ) (ps : List ℕ) (ms : List Message) (rs : List Reply) (d : Message) → 0 < length ps → length ps ≡ length ms
    → answers_to format i ps ms rs ≡ one_to format i (get_or ps 0 0) (get_or ms 0 d) (get_or rs 0 (status OutOfMemory)) ++ answers_to format i (drop 1 ps) (drop 1 ms) (drop 1 rs)
answers_first format i [] ms rs d some same = absurd (omega (arith, some))
answers_first format i (p ∷ ps) [] rs d some same = absurd (omega (arith, same))
answers_first format i (p ∷ ps) (m ∷ ms) [] d some same = refl
answers_first format i (p ∷ ps) (m ∷ ms) (r ∷ rs) d some same = refl

pub answers_more : (format : Format) (i : ℕ) (ps : List ℕ) (ms : List Message) (rs : List Reply) (k : ℕ) (d : Message) → k < length ps → length ps ≡ length ms
    → answers_to format i (drop k ps) (drop k ms) (drop k rs)
    ≡ one_to format i (get_or ps k 0) (get_or ms k d) (get_or rs k (status OutOfMemory)) ++ answers_to format i (drop (k + 1) ps) (drop (k + 1) ms) (drop (k + 1) rs)
answers_more format i ps ms rs k d below same =
    let none : Reply = status OutOfMemory in
    let some : 0 < length (drop k ps) = omega (arith, length-drop k ps, below) in
    let alike : length (drop k ps) ≡ length (drop k ms) = omega (arith, length-drop k ps, length-drop k ms, same) in
    let at : k + 0 ≡ k = omega arith in
    let back : List ℕ → List Message → List Reply → List ℕ = answers_to format i in
    let more : List ℕ = back (drop 1 (drop k ps)) (drop 1 (drop k ms)) (drop 1 (drop k rs)) in
    answers_first format i (drop k ps) (drop k ms) (drop k rs) d some alike
    ∙ ap (λ q. one_to format i q (get_or (drop k ms) 0 d) (get_or (drop k rs) 0 none) ++ more) (get_or-drop k ps 0 0 ∙ ap (λ n. get_or ps n 0) at)
    ∙ ap (λ m. one_to format i (get_or ps k 0) m (get_or (drop k rs) 0 none) ++ more) (get_or-drop k ms 0 d ∙ ap (λ n. get_or ms n d) at)
    ∙ ap (λ r. one_to format i (get_or ps k 0) (get_or ms k d) r ++ more) (get_or-drop k rs 0 none ∙ ap (λ n. get_or rs n none) at)
    ∙ ap (λ x. one_to format i (get_or ps k 0) (get_or ms k d) (get_or rs k none) ++ back x (drop 1 (drop k ms)) (drop 1 (drop k rs))) (drop-drop 1 k ps)
    ∙ ap (λ x. one_to format i (get_or ps k 0) (get_or ms k d) (get_or rs k none) ++ back (drop (k + 1) ps) x (drop 1 (drop k rs))) (drop-drop 1 k ms)
    ∙ ap (λ x. one_to format i (get_or ps k 0) (get_or ms k d) (get_or rs k none) ++ back (drop (k + 1) ps) (drop (k + 1) ms) x) (drop-drop 1 k rs)

pub answers_end : (format : Format) (i k : ℕ) (ps : List ℕ) (ms : List Message) (rs : List Reply) → length ps ≤ k → answers_to format i (drop k ps) (drop k ms) (drop k rs) ≡ []
answers_end format i k ps ms rs past = ap (λ x. answers_to format i x (drop k ms) (drop k rs)) (drop_all k ps past)

-- one session of several gains its bytes, the others nothing
pub one_gains : (format : Format) (all : List State) (p : ℕ) (s t : State) (m : Message) (r : Reply) → p < length all → s ≡ get_or all p s
    → GoesOnWith s t (reply_bytes format m r) → (i : ℕ) (d : State) → i < length all → GoesOnWith (get_or all i d) (get_or (set all p t) i d) (one_to format i p m r)
one_gains format all p s t m r known is gains i d below = on (p == i) refl
  where
    on : (b : Bool) → (p == i) ≡ b → GoesOnWith (get_or all i d) (get_or (set all p t) i d) (cond b (reply_bytes format m r) [])
    on true same =
        let at : p ≡ i = eqb-true p i same in
        let old : get_or all i d ≡ s = ap (λ n. get_or all n d) (sym at) ∙ get_or_default all p d s known ∙ sym is in
        let new : get_or (set all p t) i d ≡ t = ap (λ n. get_or (set all p t) n d) (sym at) ∙ get_or-set_same all p t d known in
        let From : State → Type 0 = λ x. GoesOnWith x (get_or (set all p t) i d) (reply_bytes format m r) in
        let To : State → Type 0 = λ x. GoesOnWith s x (reply_bytes format m r) in
        subst From (sym old) (subst To (sym new) gains)
    on false other =
        let stays : get_or (set all p t) i d ≡ get_or all i d = get_or-set_other all p i t d (λ same. eqb-false p i other (sym same)) in
        let To : State → Type 0 = λ x. GoesOnWith (get_or all i d) x [] in
        subst To (sym stays) (gains_none (get_or all i d))
