-- A run of requests, one after the other.
use Rattle.std.proofs.Common.{arith, ◌≡◌, ◌∙◌, sym, ap, subst, ◌+◌, ◌<◌, ◌++◌, ℕ, List, [], ◌∷◌, length, refl, map, take, get_or}
use Rattle.std.proofs.lemmas.List.{append-nil, append_assoc, length-append, nil_from_length, map-append, take-map}
use Rattle.std.proofs.lemmas.Grind.{take_at_read}
use Rattle.std.proofs.Math.Seq.{take-append_seam}
use Rattle.device.specs.declared.device.Device.{Ghosts}
use Rattle.device.proofs.Moments.{followed_by}
use Rattle.names.specs.declared.format.Rules.{Rules}
use Rattle.requests.specs.Reply.{Reply}
use Rattle.histories.specs.View.{view, empty, after_all}
use Rattle.histories.proofs.ViewLemmas.{after_all-append}
use Rattle.decoded.specs.Standing.{Write, History, View}
use Rattle.apicore.specs.Step.{Asked, writes, reply, accepted, replies}
use Rattle.apicore.proofs.Admitting.{accepted_admitted}
use Rattle.durable.specs.declared.store.Store.{Store}
use Rattle.durable.specs.Stands.{StandsFor}
use Rattle.durable.specs.Settled.{added, ServesAt, IsFound, IsSettledAt, IsLeftAt, LeavesSome, HasAnsweredAt, HasServedAs, HasStoppedAs, device_of}
use Rattle.durable.proofs.Findings.{leaves-idle}
use Rattle.durable.proofs.Unwritten.{idle, read_then}

-- ---- what is found, for longer lists of writes

pub found_wider : (rules : Rules) (h : History) (kept ws tail : List Write) (c : List ℕ) → IsFound rules h kept ws c → IsFound rules h kept (ws ++ tail) c
found_wider rules h kept ws tail c found = record {
  more = found.more;
  rest = found.rest ++ tail;
  parts = ap (λ (w : List Write). w ++ tail) found.parts ∙ append_assoc kept (found.more ++ found.rest) tail
      ∙ ap (λ (w : List Write). kept ++ w) (append_assoc found.more found.rest tail);
  stands = found.stands;
}

pub found_after : (rules : Rules) (h : History) (us ws : List Write) (c : List ℕ) → IsFound rules (h ++ us) [] ws c → IsFound rules h us (us ++ ws) c
found_after rules h us ws c found = record {
  more = found.more;
  rest = found.rest;
  parts = ap (λ (w : List Write). us ++ w) found.parts;
  stands = let Of : History → Type 0 = λ x. StandsFor rules c x in subst Of (append_assoc h us found.more) found.stands;
}

-- the same after writes that were kept
found_further : (rules : Rules) (h : History) (us kept ws : List Write) (c : List ℕ) → IsFound rules (h ++ us) kept ws c → IsFound rules h (us ++ kept) (us ++ ws) c
found_further rules h us kept ws c found = record {
  more = found.more;
  rest = found.rest;
  parts = ap (λ (w : List Write). us ++ w) found.parts ∙ sym (append_assoc us kept (found.more ++ found.rest));
  stands = let Of : History → Type 0 = λ x. StandsFor rules c x in
      subst Of (append_assoc h us (kept ++ found.more) ∙ ap (λ (w : List Write). h ++ w) (sym (append_assoc us kept found.more))) found.stands;
}

pub found_first : (rules : Rules) (h : History) (us ws : List Write) (c : List ℕ) → IsFound rules h us ws c → IsFound rules h [] ws c
found_first rules h us ws c found = record {
  more = us ++ found.more;
  rest = found.rest;
  parts = found.parts ∙ sym (append_assoc us found.more found.rest);
  stands = found.stands;
}

-- ---- the writes and the replies of a longer run

pub accepted-append : (rules : Rules) (v : View) (rs qs : List Asked)
    → accepted rules v (rs ++ qs) ≡ accepted rules v rs ++ accepted rules (after_all rules v (accepted rules v rs)) qs
accepted-append rules v [] qs = refl
accepted-append rules v (r ∷ rs) qs =
    let ws : List Write = writes rules v r in
    let mid : View = after_all rules v ws in
    ap (λ (w : List Write). ws ++ w) (accepted-append rules mid rs qs)
    ∙ sym (append_assoc ws (accepted rules mid rs) (accepted rules (after_all rules mid (accepted rules mid rs)) qs))
    ∙ ap (λ x. (ws ++ accepted rules mid rs) ++ accepted rules x qs) (sym (after_all-append rules v ws (accepted rules mid rs)))

pub replies-append : (rules : Rules) (v : View) (rs qs : List Asked)
    → replies rules v (rs ++ qs) ≡ replies rules v rs ++ replies rules (after_all rules v (accepted rules v rs)) qs
replies-append rules v [] qs = refl
replies-append rules v (r ∷ rs) qs =
    let ws : List Write = writes rules v r in
    let mid : View = after_all rules v ws in
    ap (λ (w : List Reply). reply rules v r ∷ w) (replies-append rules mid rs qs)
    ∙ ap (λ x. reply rules v r ∷ (replies rules mid rs ++ replies rules x qs)) (sym (after_all-append rules v ws (accepted rules mid rs)))

view-added : (rules : Rules) (h : History) (ws : List Write) → after_all rules (view rules h) ws ≡ view rules (h ++ ws)
view-added rules h ws = sym (after_all-append rules empty h ws)

-- the writes of some requests and of those after them
pub added-append : (rules : Rules) (h : History) (rs qs : List Asked) → added rules h (rs ++ qs) ≡ added rules h rs ++ added rules (h ++ added rules h rs) qs
added-append rules h rs qs =
    accepted-append rules (view rules h) rs qs ∙ ap (λ x. added rules h rs ++ accepted rules x qs) (view-added rules h (added rules h rs))

-- ---- runs of a store

module _ {D : Type 0} {g : Ghosts D} (rules : Rules) (old mid new : Store D g) (h : History) (done : List Asked)
    (so_far : HasServedAs rules old mid h done) where
  us : List Write
  us = added rules h done

  -- the moments of a run and of a further call
  moments_then : (ws all : List Write) → LeavesSome rules mid new (h ++ us) ws → ((c : List ℕ) → IsFound rules h [] us c → IsFound rules h [] all c)
      → ((c : List ℕ) → IsFound rules (h ++ us) [] ws c → IsFound rules h [] all c) → LeavesSome rules old new h all
  unfolding us
  moments_then ws all next first_to second_to =
      followed_by g.disk (device_of old) (device_of mid) (device_of new) (IsFound rules h [] us) (IsFound rules (h ++ us) [] ws) (IsFound rules h [] all)
      so_far.moments next first_to second_to

  -- requests more
  pub served_then : (more : List Asked) → HasServedAs rules mid new (h ++ added rules h done) more → HasServedAs rules old new h (done ++ more)
  unfolding us
  served_then more next =
      let ws : List Write = added rules (h ++ us) more in
      let both : added rules h (done ++ more) ≡ us ++ ws = added-append rules h done more in
      let At : History → Type 0 = λ x. IsSettledAt rules new x in
      let Leaves : List Write → Type 0 = λ x. LeavesSome rules old new h x in
      record {
        settled = subst At (append_assoc h us ws ∙ ap (λ (w : List Write). h ++ w) (sym both)) next.settled;
        moments = subst Leaves (sym both) (moments_then ws (us ++ ws) next.moments (λ c found. found_wider rules h [] us ws c found)
            (λ c found. found_first rules h us (us ++ ws) c (found_after rules h us ws c found)));
      }

  -- the device failed in further requests
  pub stopped_then : (more all : List Asked) → HasStoppedAs rules mid new (h ++ added rules h done) more all → HasStoppedAs rules old new h (done ++ more) (done ++ all)
  unfolding us
  stopped_then more all next =
      let kept : List Write = added rules (h ++ us) more in
      let ws : List Write = added rules (h ++ us) all in
      let both : added rules h (done ++ all) ≡ us ++ ws = added-append rules h done all in
      let Left : List Write → List Write → Type 0 = λ x y. IsLeftAt rules new h x y in
      let Leaves : List Write → Type 0 = λ x. LeavesSome rules old new h x in
      record {
        left = subst (λ x. Left x (added rules h (done ++ all))) (sym (added-append rules h done more)) (subst (Left (us ++ kept)) (sym both)
            (record {
              stopped = next.left.stopped;
              keeps = next.left.keeps;
              read = found_further rules h us kept ws _ next.left.read;
              left = λ c l. found_further rules h us kept ws c (next.left.left c l);
            }));
        moments = subst Leaves (sym both) (moments_then ws (us ++ ws) next.moments (λ c found. found_wider rules h [] us ws c found)
            (λ c found. found_first rules h us (us ++ ws) c (found_after rules h us ws c found)));
      }

-- a run that has answered nothing
pub served_none : {D : Type 0} {g : Ghosts D} (rules : Rules) (store : Store D g) (h : History)
    → ((c : List ℕ) → g.disk.since (device_of store) (g.disk.moment (device_of store)) c → g.disk.left (device_of store) c)
    → IsSettledAt rules store h → HasServedAs rules store store h []
served_none rules store h only_now settled =
    let At : History → Type 0 = λ x. IsSettledAt rules store x in
    record { settled = subst At (sym (append-nil h)) settled; moments = leaves-idle rules store h [] only_now settled }

-- ---- runs by what is shown

-- what is seen after further requests
pub view_then : (rules : Rules) (v : View) (rs qs : List Asked)
    → after_all rules v (accepted rules v (rs ++ qs))
    ≡ after_all rules (after_all rules v (accepted rules v rs)) (accepted rules (after_all rules v (accepted rules v rs)) qs)
view_then rules v rs qs =
    let us : List Write = accepted rules v rs in
    ap (after_all rules v) (accepted-append rules v rs qs) ∙ after_all-append rules v us (accepted rules (after_all rules v us) qs)

no_parts : (us ws : List Write) → us ++ ws ≡ [] → (us ≡ []) × (ws ≡ [])
no_parts us ws none =
    let sum : length us + length ws ≡ 0 = sym (length-append us ws) ∙ ap length none in
    (nil_from_length us (omega (arith, sum)), nil_from_length ws (omega (arith, sum)))

-- where requests write nothing, neither do the first of them nor the others
pub none_in_none : (rules : Rules) (v : View) (rs qs : List Asked) → accepted rules v (rs ++ qs) ≡ []
    → (accepted rules v rs ≡ []) × (accepted rules (after_all rules v (accepted rules v rs)) qs ≡ [])
none_in_none rules v rs qs none =
    let us : List Write = accepted rules v rs in
    no_parts us (accepted rules (after_all rules v us) qs) (sym (accepted-append rules v rs qs) ∙ none)

pub answered_none : {D : Type 0} {g : Ghosts D} (rules : Rules) (store : Store D g) (v : View)
    → ((c : List ℕ) → g.disk.keeps (device_of store) → g.disk.since (device_of store) (g.disk.moment (device_of store)) c → g.disk.left (device_of store) c)
    → ServesAt rules store v → HasAnsweredAt rules store store v [] []
answered_none {D} {g} rules store v only_now serving =
    record { serving = serving; answered = refl; untouched = λ none. idle g.disk (device_of store) only_now; admitted = tt }

-- requests more
pub answered_then : {D : Type 0} {g : Ghosts D} (rules : Rules) (old mid new : Store D g) (v : View) (done more : List Asked) (given answers : List Reply)
    → HasAnsweredAt rules old mid v done given → HasAnsweredAt rules mid new (after_all rules v (accepted rules v done)) more answers
    → HasAnsweredAt rules old new v (done ++ more) (given ++ answers)
answered_then {D} {g} rules old mid new v done more given answers so_far next = record {
  serving = subst (ServesAt rules new) (sym (view_then rules v done more)) next.serving;
  answered = (λ i. so_far.answered i ++ next.answered i) ∙ sym (replies-append rules v done more);
  untouched = λ none.
      let parts = none_in_none rules v done more none in
      read_then g.disk (device_of old) (device_of mid) (device_of new) (so_far.untouched parts.0) (next.untouched parts.1);
  admitted = accepted_admitted rules v (done ++ more);
}

-- ---- the requests of a slice

-- this many first ones of a list are its front, where that has as many
pub first_of : {A : Type 0} (all front back : List A) (n : ℕ) → all ≡ front ++ back → n ≡ length front → take n all ≡ front
first_of all front back n split is = ap (take n) split ∙ ap (λ k. take k (front ++ back)) is ∙ take-append_seam front back

module _ {A B : Type 0} (f : A → B) (xs : List A) (i : ℕ) (x : A) (below : i < length xs) (is : x ≡ get_or xs i x) where
  pub take-next : take (i + 1) (map f xs) ≡ take i (map f xs) ++ f x ∷ []
  take-next =
      take-map f (i + 1) xs ∙ ap (map f) ((take_at_read xs i x below).1) ∙ map-append f (take i xs) (get_or xs i x ∷ [])
      ∙ ap (λ (y : A). map f (take i xs) ++ f y ∷ []) (sym is) ∙ ap (λ (ys : List B). ys ++ f x ∷ []) (sym (take-map f i xs))
