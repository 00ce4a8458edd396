-- Bytes put after those that a sheet holds.
use Rattle.std.proofs.Common.{arith, ◌≡◌, ◌<◌, ◌+◌, ◌∙◌, sym, add-one, ap, refl, subst, ℕ, zero, suc, List, [], ◌∷◌, ◌++◌, length, take, drop, get_or, Option, Some, None, unwrap_or, Result, Ok, Err, OnOk, IfSome}
use Rattle.std.specs.Prelude.{option_map}
use Rattle.std.specs.Borrow.{Bor}
use Rattle.std.specs.List.{AllByRecursion}
use Rattle.std.specs.Slice.{IsItemAt}
use Rattle.std.proofs.lemmas.List.{append-nil, append_assoc, drop_all}
use Rattle.http.specs.StatusCode.{IsStatusCode}
use Rattle.names.specs.declared.format.Format.{Format}
use Rattle.requests.specs.declared.refusal.Refusal.TheVariants.{OutOfMemory}
use Rattle.requests.specs.Reply.{Reply, status}
use Rattle.routes.specs.Allow.{allow_of}
use Rattle.httpmsg.specs.Flow.{TookSome, Writes}
use Rattle.httpmsg.specs.Stream.{Message}
use Rattle.httpmsg.proofs.Flows.{HasTaken, some_then, some_front, writes_then}
use Rattle.routes.specs.ReplyBytes.{reply_bytes}
use Rattle.routes.specs.AnswerBytes.{answers_bytes, CanAnswer, CanAnswerAll, PutsAfter}

-- what holds, holds on success
on_ok : {T E : Type 0} (r : Result T E) (P : Type 0) → P → OnOk r P
on_ok (Ok x) P holds = holds
on_ok (Err e) P holds = tt

module _ {S : Type 0} (took : S → S → List ℕ → Type 0)
    (took_none : (s : S) → took s s [])
    (took_then : (old mid new : S) (front back : List ℕ) → took old mid front → took mid new back → took old new (front ++ back)) where
  -- all of it is held
  pub puts_held : {T E : Type 0} (s : S) (held kept bytes : List ℕ) (r : Result T E) → kept ≡ held ++ bytes → PutsAfter took s s held kept bytes r
  puts_held s held kept bytes r is = record {
    some = record { front = []; rest = held ++ bytes; split = refl; taken = took_none s };
    kept_is = on_ok r (held ++ bytes ≡ kept) (sym is);
  }

  -- what was held is written, and then the bytes, and nothing is held
  pub puts_written : {T E : Type 0} (old mid new : S) (held kept bytes : List ℕ) (r : Result T E) → took old mid held → Writes took mid new bytes r
      → kept ≡ [] → PutsAfter took old new held kept bytes r
  puts_written old mid new held kept bytes (Ok x) first second none = record {
    some = record { front = held ++ bytes; rest = []; split = sym (append-nil (held ++ bytes)); taken = took_then old mid new held bytes first second };
    kept_is = sym none;
  }
  puts_written old mid new held kept bytes (Err e) first second none = record {
    some = some_then took took_none took_then old mid new held bytes [] (held ++ bytes) first second (ap (λ b. held ++ b) (sym (append-nil bytes)));
    kept_is = tt;
  }

  -- a beginning of what was held is written
  pub puts_some : {T E : Type 0} (old new : S) (held kept bytes : List ℕ) (e : E) → TookSome took old new held → PutsAfter {T = T} {E = E} took old new held kept bytes (Err e)
  puts_some old new held kept bytes e some = record {
    some = some_front took took_none took_then old new held bytes (held ++ bytes) some refl;
    kept_is = tt;
  }

  -- some bytes, and then more
  pub held_more : {T E : Type 0} (old mid new : S) (bytes held kept more : List ℕ) (x : T) → HasTaken took old mid bytes held
      → PutsAfter {T = T} {E = E} took mid new held kept more (Ok x) → HasTaken took old new (bytes ++ more) kept
  held_more old mid new bytes held kept more x has puts = record {
    front = has.front ++ puts.some.front;
    split = ap (λ b. b ++ more) has.split ∙ append_assoc has.front held more ∙ ap (λ w. has.front ++ w) puts.some.split
        ∙ ap (λ w. has.front ++ (puts.some.front ++ w)) puts.kept_is ∙ sym (append_assoc has.front puts.some.front kept);
    taken = took_then old mid new has.front puts.some.front has.taken puts.some.taken;
  }

  -- or a beginning of them
  pub held_some : {T E : Type 0} (old mid new : S) (bytes held kept more rest whole : List ℕ) (e : E) → HasTaken took old mid bytes held
      → PutsAfter {T = T} {E = E} took mid new held kept more (Err e) → whole ≡ (bytes ++ more) ++ rest → TookSome took old new whole
  held_some old mid new bytes held kept more rest whole e has puts is =
      some_then took took_none took_then old mid new has.front (held ++ more) rest whole has.taken puts.some
      (is ∙ ap (λ b. (b ++ more) ++ rest) has.split ∙ ap (λ w. w ++ rest) (append_assoc has.front held more) ∙ append_assoc has.front (held ++ more) rest)

  -- what is held is written too
  pub held_written : {T E : Type 0} (old mid new : S) (bytes held : List ℕ) (r : Result T E) → HasTaken took old mid bytes held → Writes took mid new held r
      → Writes took old new bytes r
  held_written old mid new bytes held r has writes =
      let Written : List ℕ → Type 0 = λ w. Writes took old new w r in
      subst Written (sym has.split) (writes_then took took_none took_then old mid new has.front held r has.taken writes)

-- ---- the bytes of answers

-- the answers to the first messages and to the others
pub answers_bytes-split : (format : Format) (ms : List Message) (rs : List Reply) (n : ℕ)
    → answers_bytes format ms rs ≡ answers_bytes format (take n ms) rs ++ answers_bytes format (drop n ms) (drop n rs)
answers_bytes-split format ms rs zero = refl
answers_bytes-split format [] rs (suc n) = refl
answers_bytes-split format (m ∷ ms) [] (suc n) =
    ap (λ w. reply_bytes format m (status OutOfMemory) ++ w) (answers_bytes-split format ms [] n)
    ∙ ap (λ rs. reply_bytes format m (status OutOfMemory) ++ (answers_bytes format (take n ms) [] ++ answers_bytes format (drop n ms) rs)) (drop_all n [] (omega arith))
    ∙ sym (append_assoc (reply_bytes format m (status OutOfMemory)) (answers_bytes format (take n ms) []) (answers_bytes format (drop n ms) []))
answers_bytes-split format (m ∷ ms) (r ∷ rs) (suc n) =
    ap (λ w. reply_bytes format m r ++ w) (answers_bytes-split format ms rs n)
    ∙ sym (append_assoc (reply_bytes format m r) (answers_bytes format (take n ms) rs) (answers_bytes format (drop n ms) (drop n rs)))

-- the answer to one message more
pub answers_bytes-more : (format : Format) (ms : List Message) (rs : List Reply) (i : ℕ) (d : Message) → i < length ms
    → answers_bytes format (take (suc i) ms) rs ≡ answers_bytes format (take i ms) rs ++ reply_bytes format (get_or ms i d) (get_or rs i (status OutOfMemory))
answers_bytes-more format [] rs i d below = absurd (omega arith)
answers_bytes-more format (m ∷ ms) [] zero d below = append-nil (reply_bytes format m (status OutOfMemory))
answers_bytes-more format (m ∷ ms) (r ∷ rs) zero d below = append-nil (reply_bytes format m r)
answers_bytes-more format (m ∷ ms) [] (suc i) d below =
    ap (λ w. reply_bytes format m (status OutOfMemory) ++ w) (answers_bytes-more format ms [] i d (omega (arith, below)))
    ∙ sym (append_assoc (reply_bytes format m (status OutOfMemory)) (answers_bytes format (take i ms) []) (reply_bytes format (get_or ms i d) (status OutOfMemory)))
answers_bytes-more format (m ∷ ms) (r ∷ rs) (suc i) d below =
    ap (λ w. reply_bytes format m r ++ w) (answers_bytes-more format ms rs i d (omega (arith, below)))
    ∙ sym (append_assoc (reply_bytes format m r) (answers_bytes format (take i ms) rs) (reply_bytes format (get_or ms i d) (get_or rs i (status OutOfMemory))))

-- ---- the reply to a message

all_at : {A : Type 0} (P : A → Type 0) (xs : List A) (i : ℕ) (d : A) → AllByRecursion P xs → i < length xs → P (get_or xs i d)
all_at P [] i d all below = absurd (omega arith)
all_at P (x ∷ xs) zero d all below = all.0
all_at P (x ∷ xs) (suc i) d all below = all_at P xs i d all.1 (omega (arith, below))

module _ (format : Format) (ms : List Message) (rs : List Reply) (i : ℕ) (m : Message) (below : i < length ms) (is : m ≡ get_or ms i m) (found : Option (Bor Reply))
    (item : IsItemAt rs i found) where
  -- the bytes of what is found for it
  abbrev pub bytes_at : List ℕ
  bytes_at = reply_bytes format m (unwrap_or (option_map (λ r. r.now) found) (status OutOfMemory))

  bytes_are : reply_bytes format (get_or ms i m) (get_or rs i (status OutOfMemory)) ≡ bytes_at
  bytes_are = ap (λ x. reply_bytes format x (get_or rs i (status OutOfMemory))) (sym is) ∙ ap (reply_bytes format m) (sym (item.4 (omega arith) (status OutOfMemory)))

  pub next_bytes : answers_bytes format (take (i + 1) ms) rs ≡ answers_bytes format (take i ms) rs ++ bytes_at
  next_bytes =
      ap (λ n. answers_bytes format (take n ms) rs) (add-one i) ∙ answers_bytes-more format ms rs i m below ∙ ap (λ b. answers_bytes format (take i ms) rs ++ b) bytes_are

  pub all_bytes_by : answers_bytes format ms rs ≡ (answers_bytes format (take i ms) rs ++ bytes_at) ++ answers_bytes format (drop (suc i) ms) (drop (suc i) rs)
  all_bytes_by =
      answers_bytes-split format ms rs (suc i)
      ∙ ap (λ b. b ++ answers_bytes format (drop (suc i) ms) (drop (suc i) rs))
      (answers_bytes-more format ms rs i m below ∙ ap (λ b. answers_bytes format (take i ms) rs ++ b) bytes_are)

-- what is found for a message can answer it
pub can_answer_at : (format : Format) (ms : List Message) (rs : List Reply) (allows : List (Option (Bor (List ℕ)))) → CanAnswerAll format ms rs allows → (i : ℕ) (m : Message) → i < length ms
    → m ≡ get_or ms i m → (found : Option (Bor Reply)) → IsItemAt rs i found → (allow : Option (Bor (List ℕ))) → allow ≡ get_or allows i None
    → IfSome found (λ r. CanAnswer format m r.now allow)
can_answer_at format ms rs allows can i m below is None item allow allow_is = tt
can_answer_at format ms rs allows can i m below is (Some r) item allow allow_is =
    let some : i < length rs = item.3.0 in
    let Code : Reply → Type 0 = λ x. IsStatusCode x.code in (
      subst Code (sym item.1) (all_at Code rs i r.now can.codes some),
      ap (option_map (λ (methods : Bor (List ℕ)). methods.now)) allow_is ∙ can.allowed i m below some ∙ ap (allow_of format) (sym is),
    )
