-- How the picks of a crash go over the sectors.
use Rattle.std.proofs.Common.{◌≡◌, ◌<◌, ◌≤◌, ◌+◌, ◌/◌, ℕ, List, Bool, true, false, refl, sym, ◌∙◌, ap, subst, ⊎_elim, slice_get, slice_index, add-one, arith}
use Rattle.std.proofs.lemmas.Bool.{cases_lt}
use Rattle.std.specs.Prelude.{Option}
use Rattle.device.specs.declared.memory.Pick.{Pick}
use Rattle.device.specs.Picks.{may_change, changing_below, picked}
use Rattle.device.specs.Memory.{Memory, crash_byte_in, crash_byte}

-- one sector more that may change
changing_below-more : (unsynced : List Bool) (least sector used : ℕ) → used ≡ changing_below unsynced least sector
    → may_change unsynced least sector ≡ true → used + 1 ≡ changing_below unsynced least (sector + 1)
changing_below-more unsynced least sector used counted changes = rw (add-one sector, changes) (omega arith)

-- one sector more that stays
changing_below-same : (unsynced : List Bool) (least sector used : ℕ) → used ≡ changing_below unsynced least sector
    → may_change unsynced least sector ≡ false → used ≡ changing_below unsynced least (sector + 1)
changing_below-same unsynced least sector used counted stays = rw (add-one sector, stays) (omega arith)

-- what holds of the sectors below, and of this one, holds of those below the next
below_next : (m : Memory) (picks : List Pick) (sector : ℕ) (current : List ℕ)
    → ((k : ℕ) → k / 512 < sector → slice_index current k ≡ crash_byte m picks k)
    → ((k : ℕ) → k / 512 ≡ sector → slice_index current k ≡ crash_byte_in sector m picks k)
    → (k : ℕ) → k / 512 < sector + 1 → slice_index current k ≡ crash_byte m picks k
below_next m picks sector current below here k lt = ⊎_elim
    (λ less. below k less)
    (λ more. let same : k / 512 ≡ sector = omega arith in
    let P : ℕ → Type 0 = λ s. slice_index current k ≡ crash_byte_in s m picks k in subst P (sym same) (here k same))
    (cases_lt (k / 512) sector)

-- The crash so far: m is the device at the start, now the device with some sectors' picks taken.
pub record IsPicked (m now : Memory) (picks : List Pick) (used sector : ℕ) : Type 0 where
  pub counted : used ≡ changing_below m.unsynced m.least sector
  pub few : used ≤ sector
  pub bytes : (k : ℕ) → k / 512 < sector → slice_index now.current k ≡ crash_byte m picks k
  pub rest : (k : ℕ) → sector ≤ k / 512 → slice_index now.current k ≡ slice_index m.current k
  pub others : now ≡ record m { current = now.current }

-- a sector that may change has its pick
pub IsPicked-changed : (m now next : Memory) (picks : List Pick) (used sector : ℕ) (pick : Option Pick) → IsPicked m now picks used sector
    → may_change now.unsynced now.least sector ≡ true → pick ≡ slice_get picks used
    → ((k : ℕ) → k / 512 ≡ sector → slice_index next.current k ≡ picked pick (slice_index now.synced k) (slice_index now.latest k))
    → ((k : ℕ) → (k / 512 ≡ sector → ⊥) → slice_index next.current k ≡ slice_index now.current k)
    → next ≡ record now { current = next.current } → IsPicked m next picks (used + 1) (sector + 1)
IsPicked-changed m now next picks used sector pick so_far changes given inside outside others =
    let same_marks : now.unsynced ≡ m.unsynced = ap (λ (x : Memory). x.unsynced) so_far.others in
    let same_least : now.least ≡ m.least = ap (λ (x : Memory). x.least) so_far.others in
    let same_synced : now.synced ≡ m.synced = ap (λ (x : Memory). x.synced) so_far.others in
    let same_latest : now.latest ≡ m.latest = ap (λ (x : Memory). x.latest) so_far.others in
    let changed : may_change m.unsynced m.least sector ≡ true = rw (← same_marks, ← same_least) changes in
    record {
      counted = changing_below-more m.unsynced m.least sector used so_far.counted changed;
      few = omega (arith, so_far.few);
      bytes = below_next m picks sector next.current
          (λ k lt. outside k (omega arith) ∙ so_far.bytes k lt)
          (λ k at. rw changed (inside k at ∙ rw (given, so_far.counted, same_synced, same_latest) refl));
      rest = λ k le. outside k (omega arith) ∙ so_far.rest k (omega arith);
      others = others ∙ ap (λ (x : Memory). record x { current = next.current }) so_far.others;
    }

-- a sector that may not change stays
pub IsPicked-stays : (m now : Memory) (picks : List Pick) (used sector : ℕ) → IsPicked m now picks used sector
    → may_change now.unsynced now.least sector ≡ false → IsPicked m now picks used (sector + 1)
IsPicked-stays m now picks used sector so_far stays =
    let same_marks : now.unsynced ≡ m.unsynced = ap (λ (x : Memory). x.unsynced) so_far.others in
    let same_least : now.least ≡ m.least = ap (λ (x : Memory). x.least) so_far.others in
    let stayed : may_change m.unsynced m.least sector ≡ false = rw (← same_marks, ← same_least) stays in
    record {
      counted = changing_below-same m.unsynced m.least sector used so_far.counted stayed;
      few = omega (arith, so_far.few);
      bytes = below_next m picks sector now.current so_far.bytes (λ k at. rw stayed (so_far.rest k (omega arith)));
      rest = λ k le. so_far.rest k (omega arith);
      others = so_far.others;
    }
