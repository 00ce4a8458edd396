-- What was synced stays so while nothing is written.
use Rattle.std.proofs.Common.{◌≡◌, ◌∙◌, sym, Result, Ok, Err}
use Rattle.std.specs.Prelude.{OnOk}
use Rattle.device.specs.Disk.{Disk, Only}
use Rattle.device.specs.Run.{Ran}
use Rattle.device.specs.Step.{Same}

pub only_after : {D : Type 0} (disk : Disk D) (old new : D) → Ran disk old new Same → disk.keeps old → Only (disk.content old) (disk.left old)
    → Only (disk.content new) (disk.left new)
only_after disk old new run keeps only c left =
    let before = run.crash keeps c left in before.2 ∙ only before.0 before.1 ∙ sym (run.seen keeps)

pub on_ok : {T E : Type 0} (P : Type 0) (r : Result T E) → P → OnOk r P
on_ok P (Ok x) holds = holds
on_ok P (Err e) holds = tt
