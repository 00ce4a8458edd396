-- When a store is compacted while it serves, and what is told of it.
use Rattle.std.specs.Prelude.{◌-◌, ◌*◌, ℕ, Bool, List, ◌++◌, Option, Some, None, false, ◌&&◌, max, nat_le, codes, decimal}
use Rattle.device.specs.declared.device.Device.{Ghosts}
use Rattle.durable.specs.declared.compacted.Compacted.{Compacted}
use Rattle.durable.specs.declared.store.Store.{Store}
use Rattle.durable.specs.Settled.{log_of}

-- how many sectors the records of a store's log have
abbrev pub log_sectors : {D : Type 0} {g : Ghosts D} → Store D g → ℕ
log_sectors store = (log_of store).last_gate_sector - (log_of store).first_gate_sector

-- the length from which on a log is compacted, behind this number of pages of 64 sectors: some number of times as long as they, and 8 MiB at least
abbrev pub due_sectors : (times pages : ℕ) → ℕ
due_sectors times pages = max 16384 (64 * pages * times)

-- Whether a store is to be compacted: never, or where its log is as long as that, and as long as it was put off to.
abbrev pub is_due : Option ℕ → (put_off_sectors log_sectors pages : ℕ) → Bool
is_due None put_off_sectors log_sectors pages = false
is_due (Some times) put_off_sectors log_sectors pages = nat_le put_off_sectors log_sectors && nat_le (due_sectors times pages) log_sectors

-- the line that is told of a compaction
abbrev pub compacted_line : Compacted → List ℕ
compacted_line c =
    codes "gated: compacted: generation " ++ (decimal c.generation ++ (codes ", " ++ (decimal c.pages ++ (codes " pages at sector " ++ (decimal c.first_sector ++ codes "\n")))))
