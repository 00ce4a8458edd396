use Rattle.std.proofs.Common.{arith, rules, ◌≡◌, ◌∙◌, ap, ◌+◌, ◌-◌, ◌++◌, ◌∷◌, ℕ, List, [], length}
use Rattle.std.proofs.lemmas.List.{map_push}
use Rattle.std.specs.declared.alloc.Global.{Global}
use Rattle.std.specs.declared.vec.Vec.{Vec}
use Rattle.pages.specs.Page.{Entry}
use Rattle.checkpoint.specs.Index.{keys_of, last_key}
use Rattle.checkpoint.specs.Pages.{first_key}
use Rattle.checkpoint.proofs.Order.{first_key-at, last_key-at}
use Rattle.checkpoint.proofs.index.Index.push.Goals as goal

pub returns-clause-first : goal.returns-clause-first
returns-clause-first c =
    let d : Entry = ([], []) in
    let Key : Vec ℕ Global → List ℕ = λ key. key.items in
    let page = c.args.page.now in
    let same : Key c.in_ok-to_vec.field-0 ≡ c.key.result.now = search rules in
    let copied : Key c.in_ok-to_vec.field-0 ≡ first_key page = same ∙ c.key.ensures d ∙ first_key-at page d c.requires in
    ap keys_of c.in_ok-push.ensures.items ∙ map_push Key c.args.self.now.first_keys.items c.in_ok-to_vec.field-0
    ∙ ap (λ (key : List ℕ). keys_of c.args.self.now.first_keys.items ++ key ∷ []) copied

pub returns-clause-last : goal.returns-clause-last
returns-clause-last c =
    let d : Entry = ([], []) in
    let place : c.len.result - 1 + 1 ≡ length c.args.page.now = omega arith in
    let key : c.key-2.result.now ≡ last_key c.args.page.now = c.key-2.ensures d ∙ last_key-at c.args.page.now (c.len.result - 1) d place in
    c.in_ok-extend_from_slice.ensures.items ∙ ap (λ (front : List ℕ). front ++ c.key-2.result.now) c.clear.ensures.items ∙ key
