-- Messages taken of sessions, one after another.
use Rattle.std.proofs.Common.{arith, ◌≡◌, ◌∙◌, sym, ap, refl, subst, ◌<◌, ◌≤◌, ◌+◌, ◌-◌, ◌⊎◌, ◌&&◌, nat_lt, min, zero, suc, take, slice_range, ⊎_elim, All, inl, inr, ℕ, Bool, true, false, List, [], ◌∷◌, ◌++◌, length, drop, get_or, set, ◌==◌, cond}
use Rattle.std.proofs.lemmas.List.{append-nil, append_assoc, get_or-set_same, get_or-set_other, get_or_append_left, get_or_push, get_or-drop, length-append, length-drop, length-take, length-take-le, take_rest, drop_min, take_min, nil_from_length, drop-drop, drop-set-lt, take-set-le, take_more, drop_all}
use Rattle.std.proofs.lemmas.Bool.{eqb-true, eqb-false, cases_lt, lt-ltb, le-ltb}
use Rattle.httpmsg.specs.Stream.{Message}
use Rattle.sessions.specs.declared.batch.Batch.{Batch}
use Rattle.sessions.specs.State.{State}
use Rattle.records.specs.Payload.{group_limit}
use Rattle.sessions.specs.Batch.{held, places_of, messages_of, unsent_limit, StaysBut, IsPassedOver, TakesOne, TakesNone, StaysFull, Takes, taken_and_waiting, AllKept, has_turn, with_turn, by_turns, BeginsAt}

-- one message more
messages_of-push : (i : ℕ) (ps : List ℕ) (ms : List Message) (p : ℕ) (m : Message) → length ps ≡ length ms
    → messages_of i (ps ++ p ∷ []) (ms ++ m ∷ []) ≡ messages_of i ps ms ++ cond (p == i) (m ∷ []) []
messages_of-push i [] [] p m same = append-nil (cond (p == i) (m ∷ []) [])
messages_of-push i [] (n ∷ ms) p m same = absurd (omega (arith, same))
messages_of-push i (q ∷ ps) [] p m same = absurd (omega (arith, same))
messages_of-push i (q ∷ ps) (n ∷ ms) p m same =
    ap (λ (z : List Message). cond (q == i) (n ∷ []) [] ++ z) (messages_of-push i ps ms p m (omega (arith, same)))
    ∙ sym (append_assoc (cond (q == i) (n ∷ []) []) (messages_of i ps ms) (cond (p == i) (m ∷ []) []))

pub stays_none : (s : State) → StaysBut s s
stays_none s = record { unsent = refl; progress = refl; phase = refl }

stays_then : (a b c : State) → StaysBut a b → StaysBut b c → StaysBut a c
stays_then a b c first second = record {
  unsent = second.unsent ∙ first.unsent;
  progress = second.progress ∙ first.progress;
  phase = second.phase ∙ first.phase;
}

pub kept_none : (b : Batch) (all : List State) → AllKept b b all all
kept_none b all i d below = (refl, stays_none (get_or all i d))

pub kept_then : (a b c : Batch) (x y z : List State) → length y ≡ length x → AllKept a b x y → AllKept b c y z → AllKept a c x z
kept_then a b c x y z same first second i d below =
    let before = first i d below in
    let after = second i d (omega (arith, same, below)) in
    (after.0 ∙ before.0, stays_then (get_or x i d) (get_or y i d) (get_or z i d) before.1 after.1)

-- one is taken of the session at a place
pub kept_one : (old new : Batch) (all : List State) (p : ℕ) (s t : State) → p < length all → ((d : State) → get_or all p d ≡ s)
    → length (places_of old) ≡ length (held old) → Takes p old new s t → AllKept old new all (set all p t)
kept_one old new all p s t known is alike takes i d below = on takes.0 (p == i) refl
  where
    -- at its own place, and at another
    on : (TakesOne p old new s t ⊎ TakesNone old new s t ⊎ StaysFull old new s t) → (b : Bool) → (p == i) ≡ b
        → (taken_and_waiting i new (get_or (set all p t) i d) ≡ taken_and_waiting i old (get_or all i d)) × StaysBut (get_or all i d) (get_or (set all p t) i d)
    on took true same =
        let at : p ≡ i = eqb-true p i same in
        let before : get_or all i d ≡ s = ap (λ n. get_or all n d) (sym at) ∙ is d in
        let after : get_or (set all p t) i d ≡ t = ap (λ n. get_or (set all p t) n d) (sym at) ∙ get_or-set_same all p t d known in
        let From : State → Type 0 = λ x. StaysBut x (get_or (set all p t) i d) in
        let To : State → Type 0 = λ x. StaysBut s x in (
          ap (taken_and_waiting i new) after ∙ here took same ∙ sym (ap (taken_and_waiting i old) before),
          subst From (sym before) (subst To (sym after) takes.1),
        )
      where
        here : (TakesOne p old new s t ⊎ TakesNone old new s t ⊎ StaysFull old new s t) → (p == i) ≡ true → taken_and_waiting i new t ≡ taken_and_waiting i old s
        here (inl one) here_is =
            ap (λ ps. messages_of i ps (held new) ++ t.waiting) one.places
            ∙ ap (λ ms. messages_of i (places_of old ++ p ∷ []) ms ++ t.waiting) one.held
            ∙ ap (λ (z : List Message). z ++ t.waiting) (messages_of-push i (places_of old) (held old) p one.message alike)
            ∙ ap (λ b. (messages_of i (places_of old) (held old) ++ cond b (one.message ∷ []) []) ++ t.waiting) here_is
            ∙ append_assoc (messages_of i (places_of old) (held old)) (one.message ∷ []) (t.waiting)
            ∙ ap (λ (z : List Message). messages_of i (places_of old) (held old) ++ z) (sym one.waited)
        here (inr (inl none)) here_is =
            ap (λ ps. messages_of i ps (held new) ++ t.waiting) none.places
            ∙ ap (λ ms. messages_of i (places_of old) ms ++ t.waiting) none.held
            ∙ ap (λ (z : List Message). messages_of i (places_of old) (held old) ++ z) none.waits
        here (inr (inr full)) here_is = ap (λ b. taken_and_waiting i b t) full.same ∙ ap (taken_and_waiting i old) full.session
    on took false other =
        let stays : get_or (set all p t) i d ≡ get_or all i d = get_or-set_other all p i t d (λ same. eqb-false p i other (sym same)) in
        let To : State → Type 0 = λ x. StaysBut (get_or all i d) x in (
          ap (taken_and_waiting i new) stays ∙ ap (λ (z : List Message). z ++ (get_or all i d).waiting) (there took other),
          subst To (sym stays) (stays_none (get_or all i d)),
        )
      where
        there : (TakesOne p old new s t ⊎ TakesNone old new s t ⊎ StaysFull old new s t) → (p == i) ≡ false → messages_of i (places_of new) (held new) ≡ messages_of i (places_of old) (held old)
        there (inl one) not_here =
            ap (λ ps. messages_of i ps (held new)) one.places ∙ ap (λ ms. messages_of i (places_of old ++ p ∷ []) ms) one.held
            ∙ messages_of-push i (places_of old) (held old) p one.message alike
            ∙ ap (λ b. messages_of i (places_of old) (held old) ++ cond b (one.message ∷ []) []) not_here
            ∙ append-nil (messages_of i (places_of old) (held old))
        there (inr (inl none)) not_here = ap (λ ps. messages_of i ps (held new)) none.places ∙ ap (λ ms. messages_of i (places_of old) ms) none.held
        there (inr (inr full)) not_here = ap (λ b. messages_of i (places_of b) (held b)) full.same

known_push : (n p : ℕ) (ps : List ℕ) → p < n → All (λ q. q < n) ps → All (λ q. q < n) (ps ++ p ∷ [])
known_push n p ps below all k d inside = on (cases_lt k (length ps))
  where
    on : (k < length ps) ⊎ (length ps ≤ k) → get_or (ps ++ p ∷ []) k d < n
    on (inl before) = rw (get_or_append_left ps (p ∷ []) d k before) (all k d before)
    on (inr at) =
        let is : length ps ≡ k = omega (arith, at, inside, length-append ps (p ∷ [])) in
        rw (get_or_push ps p d k is) below

-- the places of what is taken are places of sessions
pub known_one : (n p : ℕ) (old new : Batch) (s t : State) → p < n → Takes p old new s t → All (λ q. q < n) (places_of old) → All (λ q. q < n) (places_of new)
known_one n p old new s t below takes all = on takes.0
  where
    on : (TakesOne p old new s t ⊎ TakesNone old new s t ⊎ StaysFull old new s t) → All (λ q. q < n) (places_of new)
    on (inl one) = let In : List ℕ → Type 0 = λ ps. All (λ q. q < n) ps in subst In (sym one.places) (known_push n p (places_of old) below all)
    on (inr (inl none)) = let In : List ℕ → Type 0 = λ ps. All (λ q. q < n) ps in subst In (sym none.places) all
    on (inr (inr full)) = let In : Batch → Type 0 = λ b. All (λ q. q < n) (places_of b) in subst In (sym full.same) all

-- ---- whether some are taken

-- as many are held as before, or more
pub no_fewer : (place : ℕ) (old new : Batch) (s t : State) → Takes place old new s t → length (held old) ≤ length (held new)
no_fewer place old new s t takes = on takes.0
  where
    on : (TakesOne place old new s t ⊎ TakesNone old new s t ⊎ StaysFull old new s t) → length (held old) ≤ length (held new)
    on (inl one) = omega (arith, ap length one.held, length-append (held old) (one.message ∷ []))
    on (inr (inl none)) = omega (arith, ap length none.held)
    on (inr (inr full)) = omega (arith, ap (λ b. length (held b)) full.same)

-- where none is held afterwards, it was passed over
pub none_taken : (place : ℕ) (old new : Batch) (s t : State) → Takes place old new s t → length (held new) ≡ 0 → IsPassedOver s
none_taken place old new s t takes empty = on takes.0
  where
    on : (TakesOne place old new s t ⊎ TakesNone old new s t ⊎ StaysFull old new s t) → IsPassedOver s
    on (inl one) = absurd (omega (arith, empty, ap length one.held, length-append (held old) (one.message ∷ [])))
    on (inr (inl none)) = none.passed
    on (inr (inr full)) = absurd (omega (arith, empty, full.full, ap (λ b. length (held b)) full.same))

none_of : (i : ℕ) (ps : List ℕ) (ms : List Message) → ms ≡ [] → messages_of i ps ms ≡ []
none_of i [] ms is = refl
none_of i (p ∷ ps) [] is = refl
none_of i (p ∷ ps) (m ∷ ms) is = cc

-- where a batch holds none, before and after, the same messages wait
pub waits_still : (old new : Batch) (before after : List State) → AllKept old new before after → held old ≡ [] → held new ≡ [] → (i : ℕ) (d : State) → i < length before
    → (get_or after i d).waiting ≡ (get_or before i d).waiting
waits_still old new before after kept was is i d below =
    let s = get_or before i d in
    let t = get_or after i d in
    ap (λ (z : List Message). z ++ t.waiting) (sym (none_of i (places_of new) (held new) is)) ∙ (kept i d below).0
    ∙ ap (λ (z : List Message). z ++ s.waiting) (none_of i (places_of old) (held old) was)

-- and what is passed over afterwards was so before
pub passed_still : (old new : Batch) (before after : List State) → AllKept old new before after → held old ≡ [] → held new ≡ [] → (i : ℕ) (d : State) → i < length before
    → IsPassedOver (get_or after i d) → IsPassedOver (get_or before i d)
passed_still old new before after kept was is i d below passed =
    let waits : (get_or after i d).waiting ≡ (get_or before i d).waiting = waits_still old new before after kept was is i d below in
    let unsent : (get_or after i d).unsent ≡ (get_or before i d).unsent = (kept i d below).1.unsent in
    ⊎_elim (λ none. inl (sym waits ∙ none)) (λ much. inr (omega (arith, much, ap length unsent))) passed

pub none_known : (n : ℕ) (b : Batch) → held b ≡ [] → All (λ q. q < n) (places_of b)
none_known n b none k d inside = absurd (omega (arith, inside, b.alike, ap length none))

-- the places that are left are places of sessions
pub known_dropped : (n k : ℕ) (ps : List ℕ) → All (λ q. q < n) ps → All (λ q. q < n) (drop k ps)
known_dropped n k ps all i d inside =
    rw (get_or-drop k ps i d) (all (k + i) d (omega (arith, inside, length-drop k ps)))

-- ---- whose turn it is

-- a list of sessions behind another
pub with_turn-append : (place : ℕ) (xs ys : List State) → with_turn place (xs ++ ys) ≡ with_turn place xs ++ with_turn (place + length xs) ys
with_turn-append place [] ys = ap (λ n. with_turn n ys) (omega arith)
with_turn-append place (s ∷ xs) ys =
    let here : List ℕ = cond (has_turn s) (place ∷ []) [] in
    let at : place + 1 + length xs ≡ place + suc (length xs) = omega arith in
    ap (λ (z : List ℕ). here ++ z) (with_turn-append (place + 1) xs ys ∙ ap (λ n. with_turn (place + 1) xs ++ with_turn n ys) at)
    ∙ sym (append_assoc here (with_turn (place + 1) xs) (with_turn (place + suc (length xs)) ys))

nothing : (n : ℕ) (xs : List ℕ) → xs ≡ [] → take n xs ≡ []
nothing zero xs is = refl
nothing (suc n) xs is = ap (λ (z : List ℕ). take (suc n) z) is

-- as many of two lists as there is room for
pub take-append : (n : ℕ) (xs ys : List ℕ) → take n (xs ++ ys) ≡ take n xs ++ take (n - length xs) ys
take-append n [] ys =
    let same : n ≡ n - 0 = omega arith in
    ap (λ k. take k ys) same ∙ ap (λ (z : List ℕ). z ++ take (n - 0) ys) (sym (nothing n [] refl))
take-append zero (x ∷ xs) ys =
    let none : 0 - length (x ∷ xs) ≡ 0 = omega arith in
    sym (ap (λ k. take k ys) none)
take-append (suc n) (x ∷ xs) ys =
    let same : n - length xs ≡ suc n - length (x ∷ xs) = omega arith in
    ap (λ z. x ∷ z) (take-append n xs ys) ∙ ap (λ k. x ∷ (take n xs ++ take k ys)) same

-- the places of two parts of all sessions, one after the other
pub turns_then : (a b c xs ys : List ℕ) (room : ℕ) → b ≡ a ++ take (room - length a) xs → c ≡ b ++ take (room - length b) ys
    → c ≡ a ++ take (room - length a) (xs ++ ys)
turns_then a b c xs ys room first second =
    let left : room - length b ≡ room - length a - length xs =
    omega (arith, ap length first, length-append a (take (room - length a) xs), length-take (room - length a) xs)
    in
    second ∙ ap (λ n. b ++ take n ys) left ∙ ap (λ (z : List ℕ). z ++ take (room - length a - length xs) ys) first
    ∙ append_assoc a (take (room - length a) xs) (take (room - length a - length xs) ys)
    ∙ ap (λ (z : List ℕ). a ++ z) (sym (take-append (room - length a) xs ys))

one_of : (n p : ℕ) → 0 < n → take n (p ∷ []) ≡ p ∷ []
one_of zero p some = absurd (omega (arith, some))
one_of (suc n) p some = take_nil n p
  where
    take_nil : (n p : ℕ) → p ∷ take n [] ≡ p ∷ []
    take_nil zero p = refl
    take_nil (suc n) p = refl

none_left : (n : ℕ) (xs : List ℕ) → n ≡ 0 → take n xs ≡ []
none_left n xs is = ap (λ k. take k xs) is

has_one : (s : State) (m : Message) (ms : List Message) → s.waiting ≡ m ∷ ms → length s.unsent < unsent_limit → has_turn s ≡ true
has_one s m ms waited unread =
    ap (λ (z : List Message). nat_lt 0 (length z) && nat_lt (length s.unsent) unsent_limit) waited
    ∙ ap (λ b. b && nat_lt (length s.unsent) unsent_limit) (lt-ltb 0 (length (m ∷ ms)) (omega arith)) ∙ lt-ltb (length s.unsent) unsent_limit unread

and_false : (b : Bool) → (b && false) ≡ false
and_false true = refl
and_false false = refl

has_none : (s : State) → IsPassedOver s → has_turn s ≡ false
has_none s (inl none) = ap (λ (z : List Message). nat_lt 0 (length z) && nat_lt (length s.unsent) unsent_limit) none
has_none s (inr much) =
    ap (λ b. nat_lt 0 (length s.waiting) && b) (le-ltb (length s.unsent) unsent_limit much) ∙ and_false (nat_lt 0 (length s.waiting))

-- one session: its place is taken where it has a turn and there is room
pub turn_of_one : (p : ℕ) (old new : Batch) (s t : State) → Takes p old new s t
    → places_of new ≡ places_of old ++ take (group_limit - length (places_of old)) (with_turn p (s ∷ []))
turn_of_one p old new s t takes = on takes.0
  where
    room : ℕ
    room = group_limit - length (places_of old)

    on : (TakesOne p old new s t ⊎ TakesNone old new s t ⊎ StaysFull old new s t) → places_of new ≡ places_of old ++ take room (with_turn p (s ∷ []))
    on (inl one) =
        let turn : has_turn s ≡ true = has_one s one.message t.waiting one.waited one.unread in
        let some : 0 < room = omega (arith, new.few, new.alike, ap length one.places, length-append (places_of old) (p ∷ [])) in
        one.places ∙ ap (λ (z : List ℕ). places_of old ++ z) (sym (ap (λ b. take room (cond b (p ∷ []) [] ++ [])) turn ∙ one_of room p some))
    on (inr (inl none)) =
        let turn : has_turn s ≡ false = has_none s none.passed in
        none.places ∙ sym (ap (λ b. places_of old ++ take room (cond b (p ∷ []) [] ++ [])) turn ∙ ap (λ (z : List ℕ). places_of old ++ z) (nothing room [] refl) ∙ append-nil (places_of old))
    on (inr (inr full)) =
        let left : room ≡ 0 = omega (arith, full.full, old.alike) in
        ap places_of full.same ∙ sym (ap (λ (z : List ℕ). places_of old ++ z) (none_left room (with_turn p (s ∷ [])) left) ∙ append-nil (places_of old))

-- and one session more
pub turns_more : (from p : ℕ) (first old new : Batch) (all : List State) (s t : State) → from ≤ p → p < length all → ((d : State) → get_or all p d ≡ s) → Takes p old new s t
    → places_of old ≡ places_of first ++ take (group_limit - length (places_of first)) (with_turn from (slice_range all from p))
    → places_of new ≡ places_of first ++ take (group_limit - length (places_of first)) (with_turn from (slice_range all from (p + 1)))
turns_more from p first old new all s t low high here takes before =
    let k : ℕ = p - from in
    let xs : List State = slice_range all from p in
    let inside : k < length (drop from all) = omega (arith, low, high, length-drop from all) in
    let many : length xs ≡ k = length-take-le k (drop from all) (omega (arith, inside)) in
    let this : get_or (drop from all) k s ≡ s = get_or-drop from all k s ∙ ap (λ n. get_or all n s) (omega (arith, low)) ∙ here s in
    let part : slice_range all from (p + 1) ≡ xs ++ s ∷ [] =
    ap (λ n. take n (drop from all)) (omega (arith, low)) ∙ take_more (drop from all) k s inside ∙ ap (λ x. xs ++ x ∷ []) this
    in
    let split : with_turn from (xs ++ s ∷ []) ≡ with_turn from xs ++ with_turn p (s ∷ []) =
    with_turn-append from xs (s ∷ []) ∙ ap (λ n. with_turn from xs ++ with_turn n (s ∷ [])) (omega (arith, many, low))
    in
    turns_then (places_of first) (places_of old) (places_of new) (with_turn from xs) (with_turn p (s ∷ [])) group_limit before (turn_of_one p old new s t takes)
    ∙ ap (λ z. places_of first ++ take (group_limit - length (places_of first)) z) (sym split ∙ ap (with_turn from) (sym part))

pub turns_none : (from : ℕ) (b : Batch) (all : List State)
    → places_of b ≡ places_of b ++ take (group_limit - length (places_of b)) (with_turn from (slice_range all from from))
turns_none from b all =
    let none : from - from ≡ 0 = omega arith in
    sym (ap (λ n. places_of b ++ take (group_limit - length (places_of b)) (with_turn from (take n (drop from all)))) none
    ∙ ap (λ (z : List ℕ). places_of b ++ z) (nothing (group_limit - length (places_of b)) [] refl) ∙ append-nil (places_of b))

-- what lies ahead of a place, and what lies before another, where the session at the place changes
pub ahead_still : (p : ℕ) (all now : List State) (t : State) → drop p now ≡ drop p all → drop (p + 1) (set now p t) ≡ drop (p + 1) all
ahead_still p all now t same =
    drop-set-lt (p + 1) now p t (omega arith) ∙ sym (drop-drop 1 p now) ∙ ap (λ (z : List State). drop 1 z) same ∙ drop-drop 1 p all

pub at_still : (p : ℕ) (all now : List State) (s : State) → drop p now ≡ drop p all → ((d : State) → get_or now p d ≡ s) → (d : State) → get_or all p d ≡ s
at_still p all now s same here d =
    let at : p + 0 ≡ p = omega arith in
    ap (λ n. get_or all n d) (sym at) ∙ sym (get_or-drop p all 0 d) ∙ ap (λ (z : List State). get_or z 0 d) (sym same) ∙ get_or-drop p now 0 d
    ∙ ap (λ n. get_or now n d) at ∙ here d

pub before_still : (from p : ℕ) (all now : List State) (t : State) → from ≤ p → take from now ≡ take from all → take from (set now p t) ≡ take from all
before_still from p all now t low same = take-set-le from now p t low ∙ same

-- the two parts of a round
pub round_turns : (first end : ℕ) (old mid new : Batch) (all now : List State) → end ≡ length all → take first now ≡ take first all
    → places_of mid ≡ places_of old ++ take (group_limit - length (places_of old)) (with_turn first (slice_range all first end))
    → places_of new ≡ places_of mid ++ take (group_limit - length (places_of mid)) (with_turn 0 (slice_range now 0 first))
    → places_of new ≡ places_of old ++ take (group_limit - length (places_of old)) (by_turns first all)
round_turns first end old mid new all now ends same front back =
    let room : ℕ = group_limit - length (places_of old) in
    let behind : slice_range all first end ≡ drop first all = ap (λ n. take (n - first) (drop first all)) ends ∙ take_rest all first in
    let whole : first - 0 ≡ first = omega arith in
    let ahead : slice_range now 0 first ≡ take first all = ap (λ n. take n now) whole ∙ same in
    turns_then (places_of old) (places_of mid) (places_of new) (with_turn first (slice_range all first end)) (with_turn 0 (slice_range now 0 first)) group_limit front back
    ∙ ap (λ z. places_of old ++ take room (with_turn first z ++ with_turn 0 (slice_range now 0 first))) behind
    ∙ ap (λ z. places_of old ++ take room (with_turn first (drop first all) ++ with_turn 0 z)) ahead

-- a place behind all sessions is as good as the first
by_turns_min : (first n : ℕ) (all : List State) → n ≡ min first (length all) → by_turns n all ≡ by_turns first all
by_turns_min first n all is =
    let ahead : take n all ≡ take first all = ap (λ k. take k all) is ∙ take_min first all in
    let same : drop n all ≡ drop first all = ap (λ k. drop k all) is ∙ drop_min first all in
    let behind : with_turn n (drop n all) ≡ with_turn first (drop first all) = ⊎_elim
    (λ inside. ap (λ k. with_turn k (drop k all)) (omega (arith, is, inside)))
    (λ past. ap (with_turn n) (same ∙ drop_all first all past) ∙ sym (ap (with_turn first) (drop_all first all past)))
    (cases_lt first (length all))
    in
    ap (λ (z : List ℕ). z ++ with_turn 0 (take n all)) behind ∙ ap (λ (z : List State). with_turn first (drop first all) ++ with_turn 0 z) ahead

pub begins_first : (first n : ℕ) (old new : Batch) (all : List State) → n ≡ min first (length all) → held old ≡ []
    → places_of new ≡ places_of old ++ take (group_limit - length (places_of old)) (by_turns n all) → BeginsAt first all (places_of new)
begins_first first n old new all is none turns =
    let empty : length (places_of old) ≡ 0 = omega (arith, old.alike, ap length none) in
    record {
      more = [];
      turns = turns ∙ ap (λ (z : List ℕ). z ++ take (group_limit - length (places_of old)) (by_turns n all)) (nil_from_length (places_of old) empty)
          ∙ ap (λ k. take (group_limit - k) (by_turns n all)) empty ∙ ap (λ z. take group_limit z) (by_turns_min first n all is)
          ∙ sym (append-nil (take group_limit (by_turns first all)));
    }

pub begins_then : (first : ℕ) (all : List State) (a b more : List ℕ) → BeginsAt first all a → b ≡ a ++ more → BeginsAt first all b
begins_then first all a b more before is = record {
  more = before.more ++ more;
  turns = is ∙ ap (λ (z : List ℕ). z ++ more) before.turns ∙ append_assoc (take group_limit (by_turns first all)) before.more more;
}
