use Rattle.std.proofs.Common.{◌∙◌, sym, ap, subst, IsTrue, List, length}
use Rattle.std.specs.FinMap.{is_sorted}
use Rattle.pages.specs.Page.{Entry, bytes_cmp}
use Rattle.pages.proofs.Entries.{length-entries_in}
use Rattle.pages.proofs.Order.{sorted_from_order}
use Rattle.pages.proofs.page.Page.len.Goals as goal

pub returns-clause-len : goal.returns-clause-len
returns-clause-len c = c.read_count.ensures.number ∙ sym (length-entries_in c.self.inside.bytes.now) ∙ ap length c.self.view_is

pub returns-clause-ascending : goal.returns-clause-ascending
returns-clause-ascending c =
    subst (λ (entries : List Entry). IsTrue (is_sorted bytes_cmp entries)) c.self.view_is
    (sorted_from_order c.self.inside.bytes.now c.self.invariant.order)
