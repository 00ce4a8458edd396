use Rattle.std.proofs.Common.{arith, ◌≡◌, ◌∙◌, refl, sym, ap, subst, ◌-◌, ℕ, List, Bool, true, false, take}
use Rattle.std.specs.FinMap.{is_sorted}
use Rattle.std.proofs.lemmas.List.{take_all}
use Rattle.pages.specs.Page.{Entry, bytes_cmp}
use Rattle.checkpoint.specs.EntryList.{entries_of}
use Rattle.checkpoint.proofs.Ascending.{ascend_one, ascend_more, ascend_all}
use Rattle.checkpoint.proofs.Passing.{listed_length}
use Rattle.checkpoint.proofs.entry_list.EntryList.ascends.Goals as goal

pub loop-at-init : goal.loop-at-init
loop-at-init c = (omega arith, ascend_one (entries_of c.args.self.now))

pub returns-then-not-is_below : goal.returns-then-not-is_below
returns-then-not-is_below c =
    let x = c.index.result.now in
    let y = c.index-in-loop-at.result.now in
    let less : bytes_cmp c.deref.result.now c.deref-in-loop-at.result.now ≡ bytes_cmp x.0.items y.0.items =
    ap (λ (key : List ℕ). bytes_cmp key c.deref-in-loop-at.result.now) c.deref.ensures.value ∙ ap (λ (key : List ℕ). bytes_cmp x.0.items key) c.deref-in-loop-at.ensures.value
    in (
      (λ no. let never : ◌≡◌ {A = Bool} false true = no in cc),
      λ all. sym c.if-not-is_below.true ∙ c.is_below.ensures.1 (less ∙ ascend_all c.args.self.now.entries.items (c.loop-at.at - 1) c.loop-at.at x y
          (omega (arith, c.loop-at.invariant.0)) (omega (arith, c.loop-at-test.true, c.len-at-end.ensures)) c.index.ensures c.index-in-loop-at.ensures c.loop-at.invariant.1 all),
    )

pub loop-at-preserved : goal.loop-at-preserved
loop-at-preserved c =
    let x = c.index.result.now in
    let y = c.index-in-loop-at.result.now in
    let less : bytes_cmp c.deref.result.now c.deref-in-loop-at.result.now ≡ bytes_cmp x.0.items y.0.items =
    ap (λ (key : List ℕ). bytes_cmp key c.deref-in-loop-at.result.now) c.deref.ensures.value ∙ ap (λ (key : List ℕ). bytes_cmp x.0.items key) c.deref-in-loop-at.ensures.value
    in (
      omega arith,
      ascend_more c.args.self.now.entries.items (c.loop-at.at - 1) c.loop-at.at x y (omega (arith, c.loop-at.invariant.0)) (omega (arith, c.loop-at-test.true, c.len-at-end.ensures)) c.index.ensures
          c.index-in-loop-at.ensures c.loop-at.invariant.1 (sym less ∙ c.is_below.ensures.0 c.if-not-is_below.false),
    )

pub returns : goal.returns
returns c =
    let list = c.args.self.now in
    let Sorted : List Entry → Type 0 = λ es. is_sorted bytes_cmp es ≡ true in
    let all : take c.loop-at.at (entries_of list) ≡ entries_of list = take_all c.loop-at.at (entries_of list) (omega (arith, c.loop-at-test.false, c.len-at-end.ensures, listed_length list.entries.items, c.loop-at.invariant.0)) in
    (λ _. subst Sorted all c.loop-at.invariant.1, λ _. refl)
