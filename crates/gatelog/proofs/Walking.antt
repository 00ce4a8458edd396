-- How a log is walked.
use Rattle.std.proofs.Common.{arith, refl, ◌≡◌, ◌∙◌, sym, ap, subst, ◌<◌, ◌≤◌, ◌+◌, ◌*◌, ◌++◌, ℕ, List, [], ◌∷◌, length, drop, slice_index, Some, Vec, Global}
use Rattle.std.proofs.lemmas.List.{append_assoc, append-nil}
use Rattle.byteorder.specs.Endian.{big_number}
use Rattle.byteorder.specs.Numbers.{big_from-take}
use Rattle.device.specs.Disk.{Disk}
use Rattle.device.specs.Step.{Same}
use Rattle.device.specs.Run.{Ran}
use Rattle.device.proofs.Runs.{ran_then}
use Rattle.gatelog.specs.Record.{part, sectors, body_sectors, IsRecord}
use Rattle.gatelog.specs.Log.{IsOpen, IsClosed, HoldsLog, AtMostOneLog}
use Rattle.gatelog.specs.Walk.{HoldsRecord, Leads, Passes, IsFirstOf}
use Rattle.gatelog.proofs.Parts.{get-part}
use Rattle.gatelog.proofs.Logs.{inside}

-- the length of a record's payload, where the record stands
pub size-here : (at : ℕ) (payload c : List ℕ) → HoldsRecord at payload c → big_number 4 (drop (512 * at) c) ≡ length payload
size-here at payload c holds = sym (big_from-take 0 4 (512 * sectors payload) (drop (512 * at) c) (omega arith)) ∙ holds.size

-- one record stands in a place
pub one_record : (at : ℕ) (payload other c : List ℕ) → HoldsRecord at payload c → HoldsRecord at other c → payload ≡ other
one_record at payload other c holds also =
    let same : length payload ≡ length other = sym (size-here at payload c holds) ∙ size-here at other c also in
    let P : ℕ → Type 0 = λ n. part 4 n (part (512 * at) (512 * body_sectors n) c) ≡ other in
    sym holds.bytes ∙ subst P (sym same) also.bytes

next_sector : (gate : ℕ) → 512 * (gate + 1) ≡ 512 * gate + 512
next_sector gate = omega arith

record-behind : (gate : ℕ) (payload c : List ℕ) → IsRecord payload (part (512 * gate + 512) (512 * sectors payload) c) → HoldsRecord (gate + 1) payload c
record-behind gate payload c record_there =
    let P : ℕ → Type 0 = λ at. IsRecord payload (part at (512 * sectors payload) c) in subst P (sym (next_sector gate)) record_there

record-ahead : (gate : ℕ) (payload c : List ℕ) → HoldsRecord (gate + 1) payload c → IsRecord payload (part (512 * gate + 512) (512 * sectors payload) c)
record-ahead gate payload c record_there =
    let P : ℕ → Type 0 = λ at. IsRecord payload (part at (512 * sectors payload) c) in subst P (next_sector gate) record_there

-- at most one list of payloads stands at a gate
pub at_most_one : AtMostOneLog
at_most_one gate c [] [] last other_last log other = (refl, sym log.0 ∙ other.0)
at_most_one gate c [] (q ∷ others) last other_last log other = absurd (closed_open log other.0)
  where
    closed_open : (gate ≡ last) × IsClosed last c → IsOpen gate c → ⊥
    closed_open closed opened = closed.1.1 (let P : ℕ → Type 0 = λ g. IsOpen g c in subst P closed.0 opened)
at_most_one gate c (p ∷ payloads) [] last other_last log other = absurd (closed_open other log.0)
  where
    closed_open : (gate ≡ other_last) × IsClosed other_last c → IsOpen gate c → ⊥
    closed_open closed opened = closed.1.1 (let P : ℕ → Type 0 = λ g. IsOpen g c in subst P closed.0 opened)
at_most_one gate c (p ∷ payloads) (q ∷ others) last other_last log other =
    let same = one_record (gate + 1) p q c (record-behind gate p c log.1) (record-behind gate q c other.1) in
    let P : List ℕ → Type 0 = λ r. HoldsLog (gate + 1 + sectors r) others other_last c in
    let rest = at_most_one (gate + 1 + sectors p) c payloads others last other_last log.2 (subst P (sym same) other.2) in
    (ap (λ (r : List ℕ). r ∷ payloads) same ∙ ap (λ (rs : List (List ℕ)). q ∷ rs) rest.0, rest.1)

-- a walk begins
pub leads-here : (at : ℕ) (c : List ℕ) → Leads at at 0 c
leads-here at c = record { forth = λ payloads last log. (payloads, omega arith, log); back = λ payloads last log. (payloads, log) }

not_closed : (gate last : ℕ) (c : List ℕ) → IsOpen gate c → (gate ≡ last) × IsClosed last c → ⊥
not_closed gate last c opened closed = closed.1.1 (let P : ℕ → Type 0 = λ g. IsOpen g c in subst P closed.0 opened)

-- over one record
pub leads-next : (from gate passed count : ℕ) (c : List ℕ) → Leads from gate passed c → IsOpen gate c
    → (payload : List ℕ) × (count ≡ sectors payload) × HoldsRecord (gate + 1) payload c → Leads from (gate + (1 + count)) (passed + 1) c
leads-next from gate passed count c so_far opened found =
    let payload = found.0 in
    let place : gate + 1 + sectors payload ≡ gate + (1 + count) = omega (arith, found.1) in
    record {
      forth = λ payloads last log.
          let P : ℕ → Type 0 = λ g. HoldsLog g payloads last c in
          let all = so_far.forth (payload ∷ payloads) last (opened, record-ahead gate payload c found.2, subst P (sym place) log) in
          (all.0, omega (arith, all.1), all.2);
      back = λ payloads last log.
          let here = so_far.back payloads last log in
          step here.0 last here.1;
    }
  where
    step : (rest : List (List ℕ)) (last : ℕ) → HoldsLog gate rest last c → (after : List (List ℕ)) × HoldsLog (gate + (1 + count)) after last c
    step [] last closed = absurd (not_closed gate last c opened closed)
    step (first ∷ rest) last log =
        let same : found.0 ≡ first = one_record (gate + 1) found.0 first c found.2 (record-behind gate first c log.1) in
        let place : gate + 1 + sectors first ≡ gate + (1 + count) = omega (arith, found.1, ap length same) in
        let P : ℕ → Type 0 = λ g. HoldsLog g rest last c in
        (rest, subst P place log.2)

-- a gate's first byte, as it is read
pub gate-byte : (gate : ℕ) (gate_sector now c : List ℕ) → gate_sector ≡ part (512 * gate) 512 now → now ≡ c → slice_index gate_sector 0 ≡ slice_index c (512 * gate)
gate-byte gate gate_sector now c is_read same =
    let e : 512 * gate + 0 ≡ 512 * gate = omega arith in
    ap (λ (x : List ℕ). slice_index x 0) is_read ∙ get-part (512 * gate) 512 0 now (omega arith) ∙ ap (slice_index now) e ∙ ap (λ (x : List ℕ). slice_index x (512 * gate)) same

-- two runs that change nothing
pub same_then : {D : Type 0} (disk : Disk D) (old mid new : D) → Ran disk old mid Same → Ran disk mid new Same → Ran disk old new Same
same_then disk old mid new first second = ran_then disk old mid new Same Same Same first second (λ a b same. same) (λ a b c same also. also ∙ same)

-- at a closed gate the log ends
pub found-closed : (from gate count : ℕ) (c : List ℕ) → Leads from gate count c → IsClosed gate c
    → (payloads : List (List ℕ)) × (count ≡ length payloads) × HoldsLog from payloads gate c
found-closed from gate count c so_far closed = let all = so_far.forth [] gate (refl, closed) in (all.0, omega (arith, all.1), all.2)

-- behind an open gate stands no record, so no log
pub no_log-body : (from gate count : ℕ) (c : List ℕ) → Leads from gate count c → IsOpen gate c → ((payload : List ℕ) → HoldsRecord (gate + 1) payload c → ⊥)
    → (payloads : List (List ℕ)) (last : ℕ) → HoldsLog from payloads last c → ⊥
no_log-body from gate count c so_far opened none payloads last log = let here = so_far.back payloads last log in step here.0 here.1
  where
    step : (rest : List (List ℕ)) → HoldsLog gate rest last c → ⊥
    step [] closed = not_closed gate last c opened closed
    step (first ∷ rest) log = none first (record-behind gate first c log.1)

-- past the end stands no gate, so no log
pub no_log-end : (from gate end count : ℕ) (c : List ℕ) → Leads from gate count c → length c ≡ 512 * end → end ≤ gate
    → (payloads : List (List ℕ)) (last : ℕ) → HoldsLog from payloads last c → ⊥
no_log-end from gate end count c so_far size past payloads last log =
    let here = so_far.back payloads last log in
    let within = inside here.0 gate last c here.1 in
    absurd (omega (arith, within.0, within.1, size))

-- the length in front of a body that was read
pub length-read : (at count size : ℕ) (payload body now c : List ℕ) → HoldsRecord at payload c → count ≡ sectors payload → body ≡ part (512 * at) (512 * count) now → now ≡ c
    → size ≡ big_number 4 body → size ≡ length payload
length-read at count size payload body now c holds is_count is_body same is_size =
    is_size ∙ ap (big_number 4) is_body ∙ ap (λ (n : ℕ). big_number 4 (part (512 * at) (512 * n) now)) is_count
    ∙ ap (λ (x : List ℕ). big_number 4 (part (512 * at) (512 * sectors payload) x)) same ∙ holds.size

-- the payload of a body that was read
pub payload-read : (at count size : ℕ) (payload body now c : List ℕ) → HoldsRecord at payload c → count ≡ sectors payload → body ≡ part (512 * at) (512 * count) now → now ≡ c
    → size ≡ big_number 4 body → part 4 size body ≡ payload
payload-read at count size payload body now c holds is_count is_body same is_size =
    let whole : body ≡ part (512 * at) (512 * sectors payload) c =
    is_body ∙ ap (λ (n : ℕ). part (512 * at) (512 * n) now) is_count ∙ ap (part (512 * at) (512 * sectors payload)) same in
    let length_payload : size ≡ length payload = is_size ∙ ap (big_number 4) whole ∙ holds.size in
    ap (part 4 size) whole ∙ ap (λ (n : ℕ). part 4 n (part (512 * at) (512 * sectors payload) c)) length_payload ∙ holds.bytes

-- before the log's end stands a record
pub no_log-record : (rest : List (List ℕ)) (gate last : ℕ) (c : List ℕ) → HoldsLog gate rest last c → gate < last → ((payload : List ℕ) → HoldsRecord (gate + 1) payload c → ⊥) → ⊥
no_log-record [] gate last c log before none = absurd (omega (arith, log.0, before))
no_log-record (first ∷ rest) gate last c log before none = none first (record-behind gate first c log.1)

pub passes-here : (from last : ℕ) (c : List ℕ) → Passes from [] from last c
passes-here from last c payloads log = (payloads, refl, log)

-- over the first payload that is left
pub passes-first : (from gate last : ℕ) (c : List ℕ) (passed after : List (List ℕ)) (told : Vec ℕ Global × ℕ) → Passes from passed gate last c
    → ((payloads : List (List ℕ)) → HoldsLog gate payloads last c → IsFirstOf (Some told) payloads last c) → after ≡ passed ++ told.0.items ∷ []
    → Passes from after told.1 last c
passes-first from gate last c passed after told so_far found is_after payloads log =
    let here = so_far payloads log in
    let first = found here.0 here.2 in (
      first.0,
      here.1 ∙ ap (λ (x : List (List ℕ)). passed ++ x) first.1 ∙ sym (append_assoc passed (told.0.items ∷ []) first.0) ∙ ap (λ (xs : List (List ℕ)). xs ++ first.0) (sym is_after),
      first.2,
    )

-- at the log's end
pub passes-end : (from gate last : ℕ) (c : List ℕ) (passed : List (List ℕ)) → Passes from passed gate last c → last ≤ gate
    → (payloads : List (List ℕ)) → HoldsLog from payloads last c → passed ≡ payloads
passes-end from gate last c passed so_far at_end payloads log = let here = so_far payloads log in step here.0 here.1 here.2
  where
    step : (rest : List (List ℕ)) → payloads ≡ passed ++ rest → HoldsLog gate rest last c → passed ≡ payloads
    step [] same closed = sym (same ∙ append-nil passed)
    step (first ∷ rest) same log = absurd (omega (arith, (inside rest (gate + 1 + sectors first) last c log.2).0, at_end))

-- at the log's end no payload is left
pub none-left : (payloads : List (List ℕ)) (gate last : ℕ) (c : List ℕ) → last ≤ gate → HoldsLog gate payloads last c → payloads ≡ []
none-left [] gate last c at_end log = refl
none-left (first ∷ rest) gate last c at_end log = absurd (omega (arith, (inside rest (gate + 1 + sectors first) last c log.2).0, at_end))

-- the first payload before it, and where the others stand
pub first-left : (payloads : List (List ℕ)) (gate count last : ℕ) (c payload : List ℕ) → gate < last → count ≡ sectors payload
    → ((first : List ℕ) → HoldsRecord (gate + 1) first c → payload ≡ first) → HoldsLog gate payloads last c
    → (others : List (List ℕ)) × (payloads ≡ payload ∷ others) × HoldsLog (gate + 1 + count) others last c
first-left [] gate count last c payload before is_count found closed = absurd (omega (arith, closed.0, before))
first-left (first ∷ rest) gate count last c payload before is_count found log =
    let is_first : payload ≡ first = found first (record-behind gate first c log.1) in
    let place : gate + 1 + sectors first ≡ gate + 1 + count = omega (arith, is_count, ap length is_first) in
    let P : ℕ → Type 0 = λ g. HoldsLog g rest last c in (rest, ap (λ (x : List ℕ). x ∷ rest) (sym is_first), subst P place log.2)
