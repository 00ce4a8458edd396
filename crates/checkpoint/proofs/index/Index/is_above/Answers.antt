use Rattle.std.proofs.Common.{arith, ◌≡◌, ◌∙◌, sym, ap, ◌≤◌, ℕ, List, [], length}
use Rattle.std.proofs.lemmas.Bool.Decides.{nat_tests}
use Rattle.pages.specs.Page.{Entry, bytes_cmp}
use Rattle.checkpoint.specs.Pages.{first_key}
use Rattle.checkpoint.proofs.Joining.{above_others}
use Rattle.checkpoint.proofs.Order.{first_key-at}
use Rattle.checkpoint.proofs.index.Index.is_above.Goals as goal

pub returns : goal.returns
returns c pages indexed =
    let index = c.args.self.now in
    let page = c.args.page.now in
    let d : Entry = ([], []) in
    let others : 1 ≤ length index.first_keys.items = grind (arith, nat_tests) in
    let met = above_others index pages page indexed others c.requires.some c.requires.ascending in
    let same : bytes_cmp c.deref.result.now c.key.result.now ≡ bytes_cmp index.last_key.items (first_key page) =
    ap (λ (key : List ℕ). bytes_cmp key c.key.result.now) c.deref.ensures.value
    ∙ ap (λ (key : List ℕ). bytes_cmp index.last_key.items key) (c.key.ensures d ∙ first_key-at page d c.requires.some)
    in
    (λ below. met.0 (sym same ∙ c.is_below.ensures.0 below), λ sorted. c.is_below.ensures.1 (same ∙ met.1 sorted))
