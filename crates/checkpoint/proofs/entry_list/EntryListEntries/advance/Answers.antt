use Rattle.std.proofs.Common.{arith, ◌≡◌, ◌∙◌, ap, refl, ◌+◌, ◌-◌, ◌≤◌, ℕ, List, [], length, get_or}
use Rattle.pages.specs.Page.{Entry}
use Rattle.checkpoint.specs.EntryList.{listed}
use Rattle.checkpoint.proofs.Passing.{comes_to, comes_to_end, listed_length}
use Rattle.checkpoint.proofs.entry_list.EntryListEntries.advance.Goals as goal

pub returns-clause-some : goal.returns-clause-some
returns-clause-some g c keeps entry entries ahead =
    let all : List Entry = listed c.args.self.now.entries.items in
    let n : ℕ = c.args.self.now.passed in
    let comes = comes_to all n entry entries ahead in
    let place : n + 1 - 1 ≡ n = omega arith in
    let d : Entry = ([], []) in
    (refl, ap (λ k. get_or all k d) place ∙ comes.is, comes.others)

pub returns-clause-none : goal.returns-clause-none
returns-clause-none g c keeps ahead more =
    let all : List Entry = listed c.args.self.now.entries.items in
    let past : length all ≤ c.args.self.now.passed = comes_to_end all c.args.self.now.passed ahead in
    let size : length all ≡ length c.args.self.now.entries.items = listed_length c.args.self.now.entries.items in
    absurd (omega arith)
