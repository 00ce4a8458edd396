-- What the calls of a device in memory do to what a crash may leave.
use Rattle.std.proofs.Common.{arith, refl, nat_lt, nat_le, ◌&&◌, if◌then◌else◌, ◌≡◌, ◌∙◌, sym, ap, subst, ◌<◌, ◌≤◌, ◌+◌, ◌*◌, ◌/◌, ◌%◌, ◌-◌, ◌⊎◌, inl, inr, ⊎_elim, ℕ, List, Bool, true, false, length, take, replicate, min, max, map, slice_index, slice_index_or}
use Rattle.std.specs.List.{range_with_len}
use Rattle.std.proofs.lemmas.List.FromFn.{length-map-range_with_len, get_or-map-range_with_len}
use Rattle.std.proofs.lemmas.List.{places, ext_get_or, length-take, get_or-take, get_or-replicate, get_or_past, length-replicate}
use Rattle.std.proofs.lemmas.Bool.{cases_lt}
use Rattle.std.proofs.lemmas.Bool.Decides.{nat_tests}
use Rattle.device.specs.declared.memory.MemDevice.{MemDevice}
use Rattle.device.specs.Run.{Ran}
use Rattle.device.specs.Step.{Holds, Same, Torn, Cut, Follows, After}
use Rattle.device.specs.Picks.{MayBeLeft}
use Rattle.device.specs.Memory.{Memory, memory, memory_disk, memory_content, memory_left, put, fits, reached, one_write}
use Rattle.device.proofs.Steps.{torn_from_bytes, cut_from_bytes, torn_holds, torn_idle, take-holds}
use Rattle.device.proofs.Runs.{ran_wider}

-- all its moments are one
pub memory_ran : (old new : MemDevice) (step : List ℕ → List ℕ → Type 0) → old.script.failures ≤ new.script.failures
    → step (memory_content old) (memory_content new) → Follows step (memory_left old) (memory_left new) → Ran memory_disk old new step
memory_ran old new step count seen crash = record {
  kept = λ k. k;
  had_kept = λ k. k;
  count = count;
  seen = λ k. seen;
  crash = λ k. crash;
  any_moment = λ k. record { later = omega arith; each = crash; before = λ t c le left. inr (crash c left) };
}

-- These bytes in a range, and those outside of it.
record IsMix (at n size : ℕ) (inner outer mixed : List ℕ) : Type 0 where
  sizes : length mixed ≡ size
  inside : (k : ℕ) → k < size → at ≤ k → k < at + n → slice_index mixed k ≡ slice_index inner k
  outside : (k : ℕ) → k < size → (k < at) ⊎ (at + n ≤ k) → slice_index mixed k ≡ slice_index outer k

is_inside : ℕ → ℕ → ℕ → Bool
is_inside at n k = nat_le at k && nat_lt k (at + n)

is_inside-yes : (at n k : ℕ) → at ≤ k → k < at + n → is_inside at n k ≡ true
unfolding is_inside
is_inside-yes at n k low high = grind (arith, nat_tests)

is_inside-no : (at n k : ℕ) → (k < at) ⊎ (at + n ≤ k) → is_inside at n k ≡ false
unfolding is_inside
is_inside-no at n k off = ⊎_elim (λ low. grind (arith, nat_tests)) (λ high. grind (arith, nat_tests)) off

mix : (at n size : ℕ) (inner outer : List ℕ) → (mixed : List ℕ) × IsMix at n size inner outer mixed
mix at n size inner outer =
    let byte : ℕ → ℕ = λ k. if is_inside at n k then slice_index inner k else slice_index outer k in
    let mixed = map byte (range_with_len 0 size) in (
      mixed,
      record {
        sizes = length-map-range_with_len byte 0 size;
        inside = λ k lt low high. get_or-map-range_with_len byte 0 size k k 0 lt (omega arith) ∙ rw (is_inside-yes at n k low high) refl;
        outside = λ k lt off. get_or-map-range_with_len byte 0 size k k 0 lt (omega arith) ∙ rw (is_inside-no at n k off) refl;
      },
    )

-- marks outside of a range that is marked
marks-outside : (at n j : ℕ) (marks : List Bool) (with : Bool) → at + n ≤ length marks → (j < at) ⊎ (at + n ≤ j)
    → slice_index_or (put at (replicate n with) marks) j false ≡ slice_index_or marks j false
marks-outside at n j marks with room off = ⊎_elim (λ low. grind (arith, places)) (λ high. grind (arith, places)) off

in_or_out : (at n k : ℕ) → ((at ≤ k) × (k < at + n)) ⊎ ((k < at) ⊎ (at + n ≤ k))
in_or_out at n k = ⊎_elim (λ low. inr (inl low)) (λ high. ⊎_elim (λ below. inl (high, below)) (λ above. inr (inr above)) (cases_lt k (at + n))) (cases_lt k at)

-- nothing that a crash looks at changes
pub ran_same : (old new : MemDevice) → old.script.failures ≤ new.script.failures → new.current.items ≡ old.current.items
    → new.unsynced.items ≡ old.unsynced.items → new.len ≡ old.len → new.least ≡ old.least → new.greatest ≡ old.greatest → Ran memory_disk old new Same
ran_same old new count current unsynced len least greatest = memory_ran old new Same count
    (rw (current, len) refl)
    (λ c left. (c, rw (← current, ← unsynced, ← least, ← greatest) left, refl))

-- what a write that is done or torn leaves is what it may leave of one of the contents before it
left-torn : (cur cur' : List ℕ) (marks : List Bool) (least greatest at n : ℕ) (c : List ℕ)
    → ((k : ℕ) → (k < 512 * at) ⊎ (512 * at + 512 * n ≤ k) → slice_index cur' k ≡ slice_index cur k)
    → at ≤ greatest → at + n ≤ length marks → least ≤ greatest
    → MayBeLeft cur' (put at (replicate n true) marks) least (max greatest (at + n)) c → After (Torn (512 * at) (512 * n)) (MayBeLeft cur marks least greatest) c
left-torn cur cur' marks least greatest at n c outside inside room order left =
    let size : ℕ = min (length c) (512 * greatest) in
    let found = mix (512 * at) (512 * n) size cur c in
    let d = found.0 in
    let is_mix : IsMix (512 * at) (512 * n) size cur c d = found.1 in
    let sizes : length d ≡ min (length c) (512 * greatest) = is_mix.sizes in (
      d,
      record {
        whole = omega (arith, left.whole);
        no_shorter = omega (arith, left.no_shorter);
        no_longer = omega arith;
        same = λ k lt unmarked.
            let here : k < size = omega (arith, left.no_shorter) in
            ⊎_elim
            (λ (range : (512 * at ≤ k) × (k < 512 * at + 512 * n)). is_mix.inside k here range.0 range.1)
            (λ off.
            let sector_off : (k / 512 < at) ⊎ (at + n ≤ k / 512) = ⊎_elim (λ low. inl (omega arith)) (λ high. inr (omega arith)) off in
            is_mix.outside k here off ∙ left.same k lt (marks-outside at n (k / 512) marks true room sector_off ∙ unmarked) ∙ outside k off)
            (in_or_out (512 * at) (512 * n) k);
      },
      torn_from_bytes (512 * at) (512 * n) d c
          (omega arith) (omega (arith, left.no_longer)) (omega (arith, left.no_longer))
          (λ k off lt. sym (is_mix.outside k (⊎_elim (λ low. omega (arith, left.no_longer)) (λ high. omega (arith, left.no_longer)) off) off)),
    )

-- what a cut that is done or cut short leaves is what it may leave of one of the contents before it
left-cut : (cur : List ℕ) (marks : List Bool) (least greatest len n : ℕ) (c : List ℕ) → n ≤ len → len ≤ length marks → least ≤ greatest
    → MayBeLeft cur (put n (replicate (len - n) true) marks) (min least n) greatest c → After (Cut (512 * n)) (MayBeLeft cur marks least greatest) c
left-cut cur marks least greatest len n c inside room order left =
    let size : ℕ = max (length c) (512 * least) in
    let found = mix (512 * n) size size cur c in
    let d = found.0 in
    let is_mix : IsMix (512 * n) size size cur c d = found.1 in
    let sizes : length d ≡ max (length c) (512 * least) = is_mix.sizes in (
      d,
      record {
        whole = omega (arith, left.whole);
        no_shorter = omega arith;
        no_longer = omega (arith, left.no_longer);
        same = λ k lt unmarked.
            let here : k < size = omega arith in
            ⊎_elim
            (λ low.
            let sector_off : (k / 512 < n) ⊎ (n + (len - n) ≤ k / 512) = inl (omega arith) in
            is_mix.outside k here (inl low) ∙ left.same k (omega arith) (marks-outside n (len - n) (k / 512) marks true (omega arith) sector_off ∙ unmarked))
            (λ high. is_mix.inside k here high (omega arith))
            (cases_lt k (512 * n));
      },
      cut_from_bytes (512 * n) d c (omega (arith, left.no_shorter)) (omega arith)
          (λ k low lt. sym (is_mix.outside k (omega arith) (inl low))),
    )

none_marked : (room j : ℕ) → slice_index_or (replicate room false) j false ≡ false
none_marked room j = ⊎_elim (λ lt. get_or-replicate room j false false lt) (λ past. get_or_past (replicate room false) j false (omega (arith, length-replicate room false))) (cases_lt j room)

-- after a sync a crash leaves what reads give
pub left-settled : (cur : List ℕ) (room len : ℕ) (c : List ℕ) → 512 * len ≤ length cur → MayBeLeft cur (replicate room false) len len c → c ≡ take (512 * len) cur
left-settled cur room len c inside left = ext_get_or 0 c (take (512 * len) cur)
    (omega (arith, left.no_shorter, left.no_longer, length-take (512 * len) cur))
    (λ k lt. left.same k (omega (arith, left.no_longer)) (none_marked room (k / 512)) ∙ sym (get_or-take (512 * len) cur k 0 (omega (arith, left.no_longer))))

fits-room : (at : ℕ) (bytes : List ℕ) (m : Memory) → fits at bytes m ≡ true → at + length bytes / 512 ≤ length m.unsynced
fits-room at bytes m fitting = grind (arith, nat_tests)

put-outside : (at : ℕ) (bytes cur : List ℕ) (k : ℕ) → at + length bytes ≤ length cur → (k < at) ⊎ (at + length bytes ≤ k)
    → slice_index (put at bytes cur) k ≡ slice_index cur k
put-outside at bytes cur k room off = ⊎_elim (λ low. grind (arith, places)) (λ high. grind (arith, places)) off

-- a write that is done or torn
ran_torn : (old new : MemDevice) (at : ℕ) (bytes : List ℕ) → old.script.failures ≤ new.script.failures → length bytes % 512 ≡ 0
    → at ≤ old.len → at + length bytes / 512 ≤ length old.unsynced.items
    → Torn (512 * at) (length bytes) (memory_content old) (memory_content new)
    → ((k : ℕ) → (k < 512 * at) ⊎ (512 * at + length bytes ≤ k) → slice_index new.current.items k ≡ slice_index old.current.items k)
    → new.unsynced.items ≡ put at (replicate (length bytes / 512) true) old.unsynced.items → new.least ≡ old.least
    → new.greatest ≡ max old.greatest (at + length bytes / 512) → Ran memory_disk old new (Torn (512 * at) (length bytes))
ran_torn old new at bytes count whole inside room seen outside unsynced least greatest =
    let size : 512 * (length bytes / 512) ≡ length bytes = omega (arith, whole) in
    memory_ran old new (Torn (512 * at) (length bytes)) count seen
    (λ c left.
    let moved : MayBeLeft new.current.items (put at (replicate (length bytes / 512) true) old.unsynced.items) old.least (max old.greatest (at + length bytes / 512)) c
    = rw (← unsynced, ← least, ← greatest) left in
    let after = left-torn old.current.items new.current.items old.unsynced.items old.least old.greatest at (length bytes / 512) c
    (λ k off. outside k (⊎_elim (λ low. inl low) (λ high. inr (omega (arith, size, high))) off))
    (omega (arith, old.len_greatest)) room (omega (arith, old.least_len, old.len_greatest)) moved in
    let PT : ℕ → Type 0 = λ n. Torn (512 * at) n after.0 c in
    (after.0, after.1, subst PT size after.2))

-- a write that failed
pub ran_reached : (old mid new : MemDevice) (at : ℕ) (bytes : List ℕ) → old.script.failures ≤ new.script.failures → length bytes % 512 ≡ 0 → at ≤ old.len
    → memory mid ≡ reached at bytes (one_write (memory old)) → new.current.items ≡ mid.current.items → new.unsynced.items ≡ mid.unsynced.items
    → new.len ≡ mid.len → new.least ≡ mid.least → new.greatest ≡ mid.greatest → Ran memory_disk old new (Torn (512 * at) (length bytes))
ran_reached old mid new at bytes count whole inside reach current unsynced len least greatest = go (fits at bytes (memory old)) refl
  where
    step : List ℕ → List ℕ → Type 0
    step = Torn (512 * at) (length bytes)

    go : (b : Bool) → fits at bytes (memory old) ≡ b → Ran memory_disk old new (Torn (512 * at) (length bytes))
    go true fitting =
        let e = rw fitting at reach in
        let same_current : new.current.items ≡ old.current.items = current ∙ ap (λ (x : Memory). x.current) e in
        let same_len : new.len ≡ old.len = len ∙ ap (λ (x : Memory). x.len) e in
        let PC : List ℕ → Type 0 = λ c. Torn (512 * at) (length bytes) (memory_content old) c in
        let same_content : memory_content new ≡ memory_content old = rw (same_current, same_len) refl in
        ran_torn old new at bytes count whole inside (fits-room at bytes (memory old) fitting)
        (subst PC (sym same_content) (torn_idle (512 * at) (length bytes) (memory_content old)))
        (λ k off. ap (λ (x : List ℕ). slice_index x k) same_current)
        (unsynced ∙ ap (λ (x : Memory). x.unsynced) e)
        (least ∙ ap (λ (x : Memory). x.least) e)
        (greatest ∙ ap (λ (x : Memory). x.greatest) e)
    go false full =
        let e = rw full at reach in
        ran_wider memory_disk old new Same (Torn (512 * at) (length bytes))
        (ran_same old new count (current ∙ ap (λ (x : Memory). x.current) e) (unsynced ∙ ap (λ (x : Memory). x.unsynced) e) (len ∙ ap (λ (x : Memory). x.len) e)
        (least ∙ ap (λ (x : Memory). x.least) e) (greatest ∙ ap (λ (x : Memory). x.greatest) e))
        (λ a b same. let PC : List ℕ → Type 0 = λ c. Torn (512 * at) (length bytes) a c in subst PC (sym same) (torn_idle (512 * at) (length bytes) a))

-- what reads give after a write that is done
pub content-written : (old mid : MemDevice) (current : List ℕ) (len at : ℕ) (bytes : List ℕ) → length bytes % 512 ≡ 0 → at ≤ old.len → fits at bytes (memory old) ≡ true
    → memory mid ≡ reached at bytes (one_write (memory old)) → current ≡ put (512 * at) bytes mid.current.items
    → len ≡ max mid.len (at + length bytes / 512) → Holds (memory_content old) (512 * at) bytes (take (512 * len) current)
content-written old mid current len at bytes whole inside fitting reach is_current is_len =
    let e = rw fitting at reach in
    let room : at + length bytes / 512 ≤ length old.unsynced.items = fits-room at bytes (memory old) fitting in
    let new_current : current ≡ put (512 * at) bytes old.current.items = is_current ∙ ap (λ (x : Memory). put (512 * at) bytes x.current) e in
    let old_len : mid.len ≡ old.len = ap (λ (x : Memory). x.len) e in
    let end : 512 * len ≡ max (512 * old.len) (512 * at + length bytes) = omega (arith, is_len, old_len, whole) in
    rw (new_current, end) (take-holds old.current.items bytes (512 * at) (512 * old.len) (omega arith) (omega (arith, old.current_size, old.len_greatest, old.greatest_room)))

-- a write that is done
pub ran_written : (old mid new : MemDevice) (at : ℕ) (bytes : List ℕ) → old.script.failures ≤ new.script.failures → length bytes % 512 ≡ 0 → at ≤ old.len
    → fits at bytes (memory old) ≡ true → memory mid ≡ reached at bytes (one_write (memory old)) → new.current.items ≡ put (512 * at) bytes mid.current.items
    → new.unsynced.items ≡ mid.unsynced.items → new.len ≡ max mid.len (at + length bytes / 512) → new.least ≡ mid.least → new.greatest ≡ mid.greatest
    → Ran memory_disk old new (Torn (512 * at) (length bytes))
ran_written old mid new at bytes count whole inside fitting reach current unsynced len least greatest =
    let e = rw fitting at reach in
    let room : at + length bytes / 512 ≤ length old.unsynced.items = fits-room at bytes (memory old) fitting in
    let new_current : new.current.items ≡ put (512 * at) bytes old.current.items = current ∙ ap (λ (x : Memory). put (512 * at) bytes x.current) e in
    ran_torn old new at bytes count whole inside room
    (torn_holds (512 * at) bytes (memory_content old) (memory_content new)
    (omega (arith, length-take (512 * old.len) old.current.items, old.current_size, old.len_greatest, old.greatest_room))
    (content-written old mid new.current.items new.len at bytes whole inside fitting reach current len))
    (λ k off. ap (λ (x : List ℕ). slice_index x k) new_current ∙ put-outside (512 * at) bytes old.current.items k (omega (arith, old.current_size, whole, room)) off)
    (unsynced ∙ ap (λ (x : Memory). x.unsynced) e)
    (least ∙ ap (λ (x : Memory). x.least) e)
    (greatest ∙ ap (λ (x : Memory). x.greatest) e)

-- a cut that is done or failed
pub ran_cut : (old new : MemDevice) (n : ℕ) → old.script.failures ≤ new.script.failures → n ≤ old.len
    → Cut (512 * n) (memory_content old) (memory_content new) → new.current.items ≡ old.current.items
    → new.unsynced.items ≡ put n (replicate (old.len - n) true) old.unsynced.items → new.least ≡ min old.least n → new.greatest ≡ old.greatest
    → Ran memory_disk old new (Cut (512 * n))
ran_cut old new n count inside seen current unsynced least greatest = memory_ran old new (Cut (512 * n)) count seen
    (λ c left. left-cut old.current.items old.unsynced.items old.least old.greatest old.len n c inside
    (omega (arith, old.len_greatest, old.greatest_room)) (omega (arith, old.least_len, old.len_greatest))
    (rw (← current, ← unsynced, ← least, ← greatest) left))
