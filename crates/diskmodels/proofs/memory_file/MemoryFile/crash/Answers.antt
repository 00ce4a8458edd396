use Rattle.std.proofs.Common.{◌≡◌, inr, rules}
use Rattle.std.proofs.lemmas.Grind.{common_steps}
use Rattle.diskmodels.proofs.Changing.{left-none}
use Rattle.diskmodels.proofs.memory_file.MemoryFile.crash.Goals as goal

pub returns-clause-left : goal.returns-clause-left
returns-clause-left c =
    let same : c.in_ok-from_slice.field-0.items ≡ c.args.self.synced.items = search (rules, common_steps) in
    inr (left-none (λ s. s ≡ c.args.self.synced.items) c.args.self.unsynced.items c.in_ok-from_slice.field-0.items same)
