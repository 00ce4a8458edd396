-- A device in memory.
use Rattle.std.specs.Prelude.{◌+◌, ◌-◌, ◌*◌, ◌/◌, ◌++◌, ℕ, List, Bool, true, false, length, take, drop, replicate, min, max, slice_get, slice_index, nat_le, if◌then◌else◌}
use Rattle.device.specs.declared.memory.MemDevice.{MemDevice}
use Rattle.device.specs.declared.memory.Pick.{Pick}
use Rattle.device.specs.declared.script.Script.{Script}
use Rattle.device.specs.declared.script.Counts.{Counts}
use Rattle.device.specs.Disk.{Disk}
use Rattle.device.specs.Script.{is_to_fail, one_more, after_call}
use Rattle.device.specs.Picks.{may_change, changing_below, picked, MayBeLeft}

-- What a device in memory holds. Each of its three rows of bytes, and the row of marks, has its whole room; lengths are in sectors.
pub record Memory : Type 0 where
  -- what reads give, up to the length
  pub current : List ℕ
  -- what the last sync left, and zeros behind it
  pub synced : List ℕ
  -- the bytes that a write gave each sector last, also a write that failed
  pub latest : List ℕ
  -- the sectors that were written or cut away since the last sync
  pub unsynced : List Bool
  pub len : ℕ
  -- the least length since the last sync
  pub least : ℕ
  -- the greatest length since the last sync, and the greatest that a write reached for
  pub greatest : ℕ
  pub script : Script
  pub counts : Counts

abbrev pub memory : MemDevice → Memory
memory d = record {
  current = d.current.items;
  synced = d.synced.items;
  latest = d.latest.items;
  unsynced = d.unsynced.items;
  len = d.len;
  least = d.least;
  greatest = d.greatest;
  script = d.script;
  counts = d.counts;
}

-- What reads give.
abbrev pub memory_content : MemDevice → List ℕ
memory_content d = take (512 * d.len) d.current.items

-- What a crash may leave.
abbrev pub memory_left : MemDevice → List ℕ → Type 0
memory_left d = MayBeLeft d.current.items d.unsynced.items d.least d.greatest

-- The disk that a device in memory is. All its moments are one: what a crash may leave after a call bounds what it might have left within it.
abbrev pub memory_disk : Disk MemDevice
memory_disk = record {
  content = memory_content;
  left = memory_left;
  moment = λ d. 0;
  since = λ d t c. memory_left d c;
  failures = λ d. d.script.failures;
  keeps = λ d. Unit {0};
}

-- These elements at a place, over those that are there.
abbrev pub put : {A : Type 0} → ℕ → List A → List A → List A
put at with old = take at old ++ with ++ drop (at + length with) old

-- There is room for these bytes at this sector.
abbrev pub fits : ℕ → List ℕ → Memory → Bool
fits at bytes m = nat_le (at + length bytes / 512) (length m.unsynced)

-- A write as far as a crash sees it: its bytes are the latest of their sectors. One that does not fit does nothing.
abbrev pub reached : ℕ → List ℕ → Memory → Memory
reached at bytes m = if fits at bytes m
    then record m {
      latest = put (512 * at) bytes m.latest;
      unsynced = put at (replicate (length bytes / 512) true) m.unsynced;
      greatest = max m.greatest (at + length bytes / 512);
    }
    else m

-- A write, to what reads give.
abbrev pub written : ℕ → List ℕ → Memory → Memory
written at bytes m = record m { current = put (512 * at) bytes m.current; len = max m.len (at + length bytes / 512) }

-- A cut as far as a crash sees it: it counts as a write to what it removes.
abbrev pub shortened : ℕ → Memory → Memory
shortened sectors m = record m {
  unsynced = put sectors (replicate (m.len - sectors) true) m.unsynced;
  least = min m.least sectors;
}

-- A sync: what reads give is what a crash leaves.
abbrev pub settled : Memory → Memory
settled m = record m {
  synced = take (512 * m.len) m.current ++ replicate (512 * (length m.unsynced - m.len)) 0;
  unsynced = replicate (length m.unsynced) false;
  least = m.len;
  greatest = m.len;
}

-- A new device with this room: it is empty, all is zeros, and no call is to fail.
abbrev pub fresh : ℕ → Memory
fresh room = record {
  current = replicate (512 * room) 0;
  synced = replicate (512 * room) 0;
  latest = replicate (512 * room) 0;
  unsynced = replicate room false;
  len = 0;
  least = 0;
  greatest = 0;
  script = record { fail_in = 0; stop_in = 0; failures = 0 };
  counts = record { reads = 0; writes = 0; cuts = 0; syncs = 0 };
}

-- After a crash that left this row and length: they are on the disk, and no call is to fail.
abbrev pub found : Memory → List ℕ → ℕ → Memory
found m current len = record (settled (record m { current = current; len = len })) { script = record m.script { fail_in = 0; stop_in = 0 } }

-- The next call was asked to fail.
abbrev pub fails_next : Memory → Bool
fails_next m = is_to_fail m.script

-- One call more, which failed or not.
abbrev pub called : Bool → Memory → Memory
called failed m = record m { script = after_call failed m.script }

-- One read, write, cut or sync more.
abbrev pub one_read : Memory → Memory
one_read m = record m { counts = record m.counts { reads = one_more m.counts.reads } }

abbrev pub one_write : Memory → Memory
one_write m = record m { counts = record m.counts { writes = one_more m.counts.writes } }

abbrev pub one_cut : Memory → Memory
one_cut m = record m { counts = record m.counts { cuts = one_more m.counts.cuts } }

abbrev pub one_sync : Memory → Memory
one_sync m = record m { counts = record m.counts { syncs = one_more m.counts.syncs } }

-- The byte at a place in this sector after a crash: the k-th sector that may change, ascending, becomes the k-th pick.
abbrev pub crash_byte_in : ℕ → Memory → List Pick → ℕ → ℕ
crash_byte_in sector m picks at =
    if may_change m.unsynced m.least sector
    then picked (slice_get picks (changing_below m.unsynced m.least sector)) (slice_index m.synced at) (slice_index m.latest at)
    else slice_index m.current at

-- The byte at a place after a crash.
abbrev pub crash_byte : Memory → List Pick → ℕ → ℕ
crash_byte m picks at = crash_byte_in (at / 512) m picks at
