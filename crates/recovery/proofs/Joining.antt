-- The payloads of a log, taken one after the other.
use Rattle.std.proofs.Common.{◌≡◌, ◌∙◌, refl, sym, ap, subst, ℕ, List, [], ◌∷◌, ◌++◌, map, Contains}
use Rattle.std.proofs.lemmas.List.{append-nil}
use Rattle.std.proofs.lemmas.List.Elements.{Contains-append_left, Contains-append_right}
use Rattle.std.specs.List.{AllByRecursion}
use Rattle.names.specs.declared.format.Rules.{Rules}
use Rattle.names.specs.Key.{Key}
use Rattle.histories.specs.Mapped.{mapped}
use Rattle.histories.specs.declared.stored.Stored.{Stored}
use Rattle.histories.specs.View as seen
use Rattle.histories.specs.View.{after_all, AllMayFollow}
use Rattle.holdings.specs.Holdings.{State}
use Rattle.holdings.specs.Holdings as holdings
use Rattle.holdings.specs.Known.{KnowsSame}
use Rattle.records.specs.Payload.{writes_in}
use Rattle.decoded.specs.Decoded.{Decoded}
use Rattle.decoded.specs.Shown.{plans_held}
use Rattle.recovery.specs.Known.{AllKnown}
use Rattle.recovery.specs.Taken.{HasRedone}
use Rattle.recovery.specs.Written.{Write, payload, IsGroup, IsWritten}
use Rattle.recovery.proofs.Histories.{IsWritten-none, IsNext, grown, stuck}

abbrev Base : Type 0
Base = List (Key × Stored Decoded)

-- ---- what memory knows

-- of the first payloads
pub known_front : (core : State Decoded) (base : Base) (front rest : List (List ℕ)) → AllKnown core base (front ++ rest) → AllKnown core base front
known_front core base front rest known bytes key has writes = known bytes key (Contains-append_left front rest bytes has) writes

-- and of the others, in a store that knows as much
pub known_rest : (first core : State Decoded) (base : Base) (front rest : List (List ℕ)) → KnowsSame first core → AllKnown first base (front ++ rest) → AllKnown core base rest
known_rest first core base front rest same known bytes key has writes = same base key (known bytes key (Contains-append_right front rest bytes has) writes)

-- ---- the writes of one payload

-- the writes that have one payload are those of one group
one_next : (rules : Rules) (v : seen.View Decoded) (groups : List (List Write)) (bytes : List ℕ) → bytes ∷ [] ≡ map payload groups → AllByRecursion IsGroup groups
    → AllMayFollow rules v (writes_in groups) → (next : IsNext rules v bytes) × (writes_in groups ≡ next.writes)
one_next rules v [] bytes same grouped follow = cc
one_next rules v (ws ∷ []) bytes same grouped follow =
    let all : ws ++ [] ≡ ws = append-nil ws in
    let is : payload ws ≡ bytes = cc in
    let Follow : List Write → Type 0 = λ x. AllMayFollow rules v x in
    (record { writes = ws; group = grouped.0; payload_is = is; follow = subst Follow all follow }, all)
one_next rules v (ws ∷ us ∷ groups) bytes same grouped follow = cc

-- and a group has its payload alone
group_written : (rules : Rules) (v : seen.View Decoded) (ws : List Write) (bytes : List ℕ) → IsGroup ws → payload ws ≡ bytes → AllMayFollow rules v ws
    → IsWritten rules v ws (bytes ∷ [])
group_written rules v ws bytes group is follow = record {
  groups = ws ∷ [];
  payloads_are = ap (λ (x : List ℕ). x ∷ []) (sym is);
  grouped = (group, tt);
  parts = sym (append-nil ws);
  follow = follow;
}

-- ---- one payload more

-- before the first
pub redone_none : (rules : Rules) (base : Base) (held : seen.View Decoded) (core : State Decoded) → holdings.Shows core base held → HasRedone rules base held core []
redone_none rules base held core shows = record { now = held; shows = shows; writes = []; written = IsWritten-none rules (mapped plans_held held); left = refl }

-- the payloads before it were taken, and then this one
pub redone_more : (rules own : Rules) (base : Base) (held : seen.View Decoded) (core new : State Decoded) (front : List (List ℕ)) (bytes : List ℕ) → own ≡ rules
    → (so_far : HasRedone rules base held core front) → HasRedone own base so_far.now new (bytes ∷ []) → HasRedone rules base held new (front ++ bytes ∷ [])
redone_more rules own base held core new front bytes own_is so_far then =
    let v = mapped plans_held so_far.now in
    let Follow : List Write → Type 0 = λ x. AllMayFollow own v x in
    let one = one_next own v then.written.groups bytes then.written.payloads_are then.written.grouped (subst Follow then.written.parts then.written.follow) in
    let writes_are : then.writes ≡ one.0.writes = then.written.parts ∙ one.1 in
    let all = grown rules own (mapped plans_held held) v (mapped plans_held then.now) so_far.writes front (front ++ bytes ∷ []) bytes one.0.writes own_is so_far.written so_far.left
    one.0.group one.0.payload_is one.0.follow (then.left ∙ ap (λ (ws : List Write). after_all own v ws) writes_are) refl in
    record { now = then.now; shows = then.shows; writes = all.0; written = all.1; left = all.2 }

-- where the next payload is that of no writes that may follow, no writes have all of them
pub none_redone : (rules own : Rules) (base : Base) (held : seen.View Decoded) (core : State Decoded) (front : List (List ℕ)) (bytes : List ℕ) (rest all : List (List ℕ)) → own ≡ rules
    → (so_far : HasRedone rules base held core front) → all ≡ front ++ bytes ∷ rest
    → ((ws : List Write) → IsWritten own (mapped plans_held so_far.now) ws (bytes ∷ []) → ⊥)
    → (ws : List Write) → IsWritten rules (mapped plans_held held) ws all → ⊥
none_redone rules own base held core front bytes rest all own_is so_far all_is none ws written =
    let v = mapped plans_held so_far.now in
    stuck rules own (mapped plans_held held) v so_far.writes ws front all bytes rest own_is so_far.left so_far.written written all_is
    (λ us group is follow. none us (group_written own v us bytes group is follow))
