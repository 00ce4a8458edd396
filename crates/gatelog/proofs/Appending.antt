-- How an append goes on.
use Rattle.std.proofs.Common.{arith, refl, ◌≡◌, ◌∙◌, sym, ap, subst, inl, inr, ⊎_elim, ◌<◌, ◌≤◌, ◌+◌, ◌*◌, ◌-◌, ◌++◌, ℕ, List, [], ◌∷◌, length, take, drop, max, replicate, slice_index}
use Rattle.std.proofs.lemmas.List.{take-take, length-take, length-drop, drop_at, take_at, append_assoc}
use Rattle.std.proofs.lemmas.Bool.{cases_eq}
use Rattle.device.specs.Disk.{Disk, Only}
use Rattle.device.specs.Step.{Holds, Torn}
use Rattle.device.specs.Run.{Ran, Stands}
use Rattle.device.proofs.Steps.{torn_holds, torn-bytes, length-holds}
use Rattle.device.proofs.Runs.{stands_now, stands_then, stands_synced, stands_weaker}
use Rattle.gatelog.specs.Record.{part, sectors, IsRecord, Agree}
use Rattle.gatelog.specs.Log.{IsOpen, IsClosed, HoldsLog, IsBeforeOrAfter}
use Rattle.gatelog.proofs.Parts.{agree-take, reaches-take, get-part}
use Rattle.gatelog.proofs.Logs.{inside, HoldsLog-agree, HoldsLog-stays, HoldsLog-longer, IsStaged}

-- the contents while an append goes on, before it: they agree up to the end of the closed gate
abbrev pub Before : ℕ → List ℕ → List ℕ → Type 0
Before last old c = take (512 * last + 512) c ≡ take (512 * last + 512) old

-- with the record and the next gate behind it
pub record Staged (last : ℕ) (payload old c : List ℕ) : Type 0 where
  pub front : take (512 * last + 512) c ≡ take (512 * last + 512) old
  pub staged : IsStaged last payload c

-- with any bytes in the gate
pub record Opening (last : ℕ) (payload old c : List ℕ) : Type 0 where
  pub front : take (512 * last) c ≡ take (512 * last) old
  pub staged : IsStaged last payload c

-- with the gate open
pub record Opened (last : ℕ) (payload old c : List ℕ) : Type 0 where
  pub front : take (512 * last) c ≡ take (512 * last) old
  pub staged : IsStaged last payload c
  pub opened : IsOpen last c

take_less : (m n : ℕ) (a b : List ℕ) → m ≤ n → take n a ≡ take n b → take m a ≡ take m b
take_less m n a b le same = sym (take-take m n a le) ∙ ap (take m) same ∙ take-take m n b le

next_gate : (last : ℕ) → 512 * (last + 1) ≡ 512 * last + 512
next_gate last = omega arith

before-torn : (last n : ℕ) (old a b : List ℕ) → Before last old a → Torn (512 * (last + 1)) n a b → Before last old b
before-torn last n old a b before torn =
    let P : ℕ → Type 0 = λ at. take at b ≡ take at a in
    subst P (next_gate last) torn.before ∙ before

part-holds : (at : ℕ) (bytes old new : List ℕ) → at ≤ length old → Holds old at bytes new → part at (length bytes) new ≡ bytes
part-holds at bytes old new room holds =
    let rest : drop at new ≡ bytes ++ drop (at + length bytes) old =
    rw (holds, append_assoc) (drop_at (take at old) (bytes ++ drop (at + length bytes) old) at (omega (arith, length-take at old))) in
    ap (take (length bytes)) rest ∙ take_at bytes (drop (at + length bytes) old) (length bytes) refl

staged-holds : (last : ℕ) (payload bytes old new : List ℕ) → 512 * last + 512 ≤ length old → length bytes ≡ 512 * sectors payload + 512
    → IsRecord payload (take (512 * sectors payload) bytes) → slice_index bytes (512 * sectors payload) ≡ 0
    → Holds old (512 * (last + 1)) bytes new → Staged last payload old new
staged-holds last payload bytes old new room size body gate holds =
    let m = 512 * sectors payload in
    let torn = torn_holds (512 * (last + 1)) bytes old new (omega (arith, room)) holds in
    let whole = part-holds (512 * (last + 1)) bytes old new (omega (arith, room)) holds in
    let lengths : length new ≡ max (length old) (512 * (last + 1) + length bytes) = length-holds (512 * (last + 1)) bytes old new (omega (arith, room)) holds in
    let P : ℕ → Type 0 = λ at. take at new ≡ take at old in
    let Q : ℕ → Type 0 = λ at. part at m new ≡ take m bytes in
    let body_there = subst Q (next_gate last) (sym (take-take m (length bytes) (drop (512 * (last + 1)) new) (omega (arith, size))) ∙ ap (take m) whole) in
    let place : 512 * (last + 1) + m ≡ 512 * (last + 1 + sectors payload) = omega arith in
    let R : ℕ → Type 0 = λ at. slice_index new at ≡ 0 in
    let zero_there : slice_index new (512 * (last + 1 + sectors payload)) ≡ 0 = subst R place
    (sym (get-part (512 * (last + 1)) (length bytes) m new (omega (arith, size))) ∙ ap (λ (x : List ℕ). slice_index x m) whole ∙ gate) in
    record {
      front = subst P (next_gate last) torn.before;
      staged = record {
        body = subst (IsRecord payload) (sym body_there) body;
        gate = (omega (arith, lengths, size), λ opened. absurd (omega (arith, zero_there, opened)));
      };
    }

opening-torn : (last : ℕ) (payload old a b : List ℕ) → Staged last payload old a → Torn (512 * last) 512 a b → Opening last payload old b
opening-torn last payload old a b staged torn =
    let m = 512 * sectors payload in
    let back : length b - (512 * last + 512) ≡ length a - (512 * last + 512) = sym (length-drop (512 * last + 512) b) ∙ ap length torn.after ∙ length-drop (512 * last + 512) a in
    let next = last + 1 + sectors payload in
    let same : slice_index b (512 * next) ≡ slice_index a (512 * next) = torn-bytes (512 * last) 512 a b torn (512 * next) (inr (omega arith)) in
    record {
      front = torn.before ∙ take_less (512 * last) (512 * last + 512) a old (omega arith) staged.front;
      staged = record {
        body = subst (IsRecord payload) (sym (ap (take m) torn.after)) staged.staged.body;
        gate = (omega (arith, back, staged.staged.gate.0), λ opened. staged.staged.gate.1 (sym same ∙ opened));
      };
    }

at_start : (at : ℕ) (c : List ℕ) → slice_index c (at + 0) ≡ 165 → slice_index c at ≡ 165
at_start at c first = let e : at + 0 ≡ at = omega arith in let P : ℕ → Type 0 = λ k. slice_index c k ≡ 165 in subst P e first

opened-holds : (last : ℕ) (payload old a b : List ℕ) → Staged last payload old a → Holds a (512 * last) (165 ∷ replicate 511 0) b → Opened last payload old b
opened-holds last payload old a b staged holds =
    let within : 512 * last ≤ length a = omega (arith, staged.staged.gate.0) in
    let gate : List ℕ = 165 ∷ replicate 511 0 in
    let some : 0 < length gate = omega arith in
    let opening = opening-torn last payload old a b staged (torn_holds (512 * last) gate a b within holds) in
    record {
      front = opening.front;
      staged = opening.staged;
      opened = at_start (512 * last) b (sym (get-part (512 * last) (length gate) 0 b some) ∙ ap (λ (x : List ℕ). slice_index x 0) (part-holds (512 * last) gate a b within holds));
    }

-- a gate of zeros is closed
pub starts_closed : (at : ℕ) (old new : List ℕ) → 512 * at ≤ length old → Holds old (512 * at) (replicate 512 0) new → IsClosed at new
starts_closed at old new within holds =
    let zeros : List ℕ = replicate 512 0 in
    let some : 0 < length zeros = omega arith in
    let first : slice_index new (512 * at + 0) ≡ 0 =
    sym (get-part (512 * at) (length zeros) 0 new some) ∙ ap (λ (x : List ℕ). slice_index x 0) (part-holds (512 * at) zeros old new within holds) in
    let here : 512 * at + 0 ≡ 512 * at = omega arith in
    let IsZero : ℕ → Type 0 = λ k. slice_index new k ≡ 0 in
    let is_zero = subst IsZero here first in
    (omega (arith, length-holds (512 * at) zeros old new within holds), λ opened. absurd (omega (arith, is_zero, opened)))

-- each of them is before or after
before-either : (start last : ℕ) (payloads : List (List ℕ)) (payload old c : List ℕ) → HoldsLog start payloads last old → Before last old c
    → IsBeforeOrAfter start payloads last payload old c
before-either start last payloads payload old c log before =
    let within = inside payloads start last old log in
    record {
      front = take_less (512 * start) (512 * last + 512) c old (omega (arith, within.0)) before;
      log = inl (HoldsLog-stays payloads start last old c log (λ k low high. agree-take (512 * last + 512) old c before k (omega arith) high)
          (reaches-take (512 * last + 512) old c before within.1));
    }

opening-either : (start last : ℕ) (payloads : List (List ℕ)) (payload old c : List ℕ) → HoldsLog start payloads last old → Opening last payload old c
    → IsBeforeOrAfter start payloads last payload old c
opening-either start last payloads payload old c log opening =
    let within = inside payloads start last old log in
    let agree : Agree (512 * start) (512 * last) old c = λ k low high. agree-take (512 * last) old c opening.front k (omega arith) high in
    record {
      front = take_less (512 * start) (512 * last) c old (omega (arith, within.0)) opening.front;
      log = ⊎_elim
          (λ opened. inr (HoldsLog-longer payloads start last payload old c log agree opened opening.staged))
          (λ closed. inl (HoldsLog-agree payloads start last old c log agree (omega (arith, opening.staged.gate.0), closed)))
          (cases_eq (slice_index c (512 * last)) 165);
    }

module _ {D : Type 0} (disk : Disk D) (old : D) (start last : ℕ) (payloads : List (List ℕ)) (payload : List ℕ) where
  -- what holds at every moment
  abbrev pub Either : List ℕ → Type 0
  Either = IsBeforeOrAfter start payloads last payload (disk.content old)

  -- what a crash leaves agrees up to the end of the closed gate
  abbrev pub IsDurable : Type 0
  IsDurable = (c : List ℕ) → disk.left old c → take (512 * last + 512) c ≡ take (512 * last + 512) (disk.content old)

  pub first_failed : (new : D) (n : ℕ) → disk.keeps old → ((c : List ℕ) → disk.since old (disk.moment old) c → disk.left old c)
      → HoldsLog start payloads last (disk.content old) → IsDurable → Ran disk old new (Torn (512 * (last + 1)) n) → Stands disk old new Either (Before last (disk.content old))
  first_failed new n keeps only_now holds durable run =
      let either = λ (c : List ℕ) (before : Before last (disk.content old) c). before-either start last payloads payload (disk.content old) c holds before in
      stands_then disk old old new Either (Before last (disk.content old)) (Before last (disk.content old)) (Torn (512 * (last + 1)) n)
      (stands_now disk old Either (Before last (disk.content old)) keeps only_now refl durable either)
      run (λ a b before torn. before-torn last n (disk.content old) a b before torn) either

  -- the write of the record failed
  pub first_failed_either : (new : D) (n : ℕ) → disk.keeps old → ((c : List ℕ) → disk.since old (disk.moment old) c → disk.left old c)
      → HoldsLog start payloads last (disk.content old) → IsDurable → Ran disk old new (Torn (512 * (last + 1)) n) → Stands disk old new Either Either
  first_failed_either new n keeps only_now holds durable run =
      stands_weaker disk old new Either (Before last (disk.content old)) Either (first_failed new n keeps only_now holds durable run)
      (λ c before. before-either start last payloads payload (disk.content old) c holds before)

  -- the record is on the disk
  pub first_done : (new : D) (bytes : List ℕ) → disk.keeps old → ((c : List ℕ) → disk.since old (disk.moment old) c → disk.left old c)
      → HoldsLog start payloads last (disk.content old) → IsDurable
      → Ran disk old new (Torn (512 * (last + 1)) (length bytes)) → Only (disk.content new) (disk.left new)
      → length bytes ≡ 512 * sectors payload + 512 → IsRecord payload (take (512 * sectors payload) bytes) → slice_index bytes (512 * sectors payload) ≡ 0
      → Holds (disk.content old) (512 * (last + 1)) bytes (disk.content new) → Stands disk old new Either (Staged last payload (disk.content old))
  first_done new bytes keeps only_now holds durable run synced size body gate written =
      let within = inside payloads start last (disk.content old) holds in
      stands_synced disk old new Either (Before last (disk.content old)) (Staged last payload (disk.content old))
      (first_failed new (length bytes) keeps only_now holds durable run) synced
      (staged-holds last payload bytes (disk.content old) (disk.content new) within.1 size body gate written)

  second_failed : (mid new : D) → HoldsLog start payloads last (disk.content old) → Stands disk old mid Either (Staged last payload (disk.content old))
      → Ran disk mid new (Torn (512 * last) 512) → Stands disk old new Either (Opening last payload (disk.content old))
  second_failed mid new holds so_far run =
      stands_then disk old mid new Either (Staged last payload (disk.content old)) (Opening last payload (disk.content old)) (Torn (512 * last) 512)
      so_far run (λ a b staged torn. opening-torn last payload (disk.content old) a b staged torn)
      (λ c opening. opening-either start last payloads payload (disk.content old) c holds opening)

  -- the gate was written or torn
  pub second_either : (mid new : D) → HoldsLog start payloads last (disk.content old) → Stands disk old mid Either (Staged last payload (disk.content old))
      → Ran disk mid new (Torn (512 * last) 512) → Stands disk old new Either Either
  second_either mid new holds so_far run =
      stands_weaker disk old new Either (Opening last payload (disk.content old)) Either (second_failed mid new holds so_far run)
      (λ c opening. opening-either start last payloads payload (disk.content old) c holds opening)

  -- the gate is open
  pub second_done : (mid new : D) → HoldsLog start payloads last (disk.content old) → Stands disk old mid Either (Staged last payload (disk.content old))
      → Holds (disk.content mid) (512 * last) (165 ∷ replicate 511 0) (disk.content new) → HoldsLog start (payloads ++ payload ∷ []) (last + 1 + sectors payload) (disk.content new)
  second_done mid new holds so_far written =
      let opened = opened-holds last payload (disk.content old) (disk.content mid) (disk.content new) so_far.seen written in
      let within = inside payloads start last (disk.content old) holds in
      HoldsLog-longer payloads start last payload (disk.content old) (disk.content new) holds
      (λ k low high. agree-take (512 * last) (disk.content old) (disk.content new) opened.front k (omega arith) high) opened.opened opened.staged
