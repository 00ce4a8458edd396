-- A store that serves what was found on a device.
use Rattle.std.proofs.Common.{◌≡◌, ◌∙◌, sym, ap, subst, ◌≤◌, ℕ, List, true}
use Rattle.device.specs.declared.device.Device.{Ghosts}
use Rattle.device.specs.Disk.{LeavesOnly}
use Rattle.device.specs.Run.{Ran}
use Rattle.device.specs.Step.{Same, After}
use Rattle.device.proofs.Moments.{weaker}
use Rattle.names.specs.declared.format.Rules.{Rules}
use Rattle.histories.specs.View as seen
use Rattle.histories.specs.View.{view}
use Rattle.decoded.specs.Decoded.{Decoded}
use Rattle.decoded.specs.Standing.{History}
use Rattle.paged.specs.Paged as paged
use Rattle.paged.specs.declared.state.Paged.{Paged}
use Rattle.durable.specs.declared.store.Store.{Store}
use Rattle.durable.specs.Ready.{HoldsHistory}
use Rattle.durable.specs.Settled.{device_of, paged_of, root_of, serves, kept_rules, Holds, IsSettledAt}
use Rattle.durable.proofs.Answering.{settled_from}
use Rattle.durable.specs.Opened.{IsRedone}
use Rattle.durable.specs.ReadWhole.{IsReadWhole}

module _ {D : Type 0} {g : Ghosts D} (store : Store D g) (device : D) (objects : Paged) (on : device_of store ≡ device) (has : paged_of store ≡ objects) where
  -- it is settled at the history that was found
  pub settled_with : (rules : Rules) (h : History) → serves store ≡ true → objects.core.rules ≡ rules → paged.IsShown g.disk device objects (view rules h)
      → HoldsHistory rules g.disk device h → IsSettledAt rules store h
  settled_with rules h working numbers shows holds =
      let With : Paged → Type 0 = λ p. (p.core.rules ≡ rules) × paged.IsShown g.disk device p (view rules h) in
      let there = subst With (sym has) (numbers, shows) in
      let Shown : D → Type 0 = λ d. paged.IsShown g.disk d (paged_of store) (view rules h) in
      let Held : D → Type 0 = λ d. HoldsHistory rules g.disk d h in
      settled_from rules store h working there.0 (subst Shown (sym on) there.1) (subst Held (sym on) holds)

  -- it holds what was read, where its root has no pages
  pub redone_with : ((paged.root_of objects).pages ≡ 0 → (held : seen.View Decoded) × paged.Holds g.disk device objects held × IsRedone objects.core.rules held)
      → (root_of store).pages ≡ 0 → (held : seen.View Decoded) × Holds store held × IsRedone (kept_rules store) held
  redone_with found none =
      let With : Paged → Type 0 =
      λ p. (paged.root_of p).pages ≡ 0 → (held : seen.View Decoded) × paged.Holds g.disk device p held × IsRedone p.core.rules held
      in
      let there = subst With (sym has) found none in
      let On : D → Type 0 = λ d. paged.Holds g.disk d (paged_of store) there.0 in
      (there.0, subst On (sym on) there.1, there.2)

  -- what was read of whole pages lies in its own
  pub whole_with : (content : List ℕ) → IsReadWhole content g.disk device objects → IsReadWhole content g.disk (device_of store) (paged_of store)
  whole_with content whole =
      let With : Paged → Type 0 = λ p. IsReadWhole content g.disk device p in
      let On : D → Type 0 = λ d. IsReadWhole content g.disk d (paged_of store) in
      subst On (sym on) (subst With (sym has) whole)

  module _ (old : D) (run : Ran g.disk old device Same) where
    -- at every moment a crash leaves what it might have left before
    pub moments_with : g.disk.keeps old → LeavesOnly g.disk old (device_of store) (g.disk.left old)
    moments_with keeps =
        let Left : List ℕ → Type 0 = λ c. g.disk.left old c in
        let On : D → Type 0 = λ d. LeavesOnly g.disk old d Left in
        subst On (sym on) (weaker g.disk old device (After Same Left) Left (run.any_moment keeps) (λ c after. subst Left (sym after.2) after.1))

    pub content_with : g.disk.keeps old → g.disk.content (device_of store) ≡ g.disk.content old
    content_with keeps = ap g.disk.content on ∙ run.seen keeps

    pub count_with : g.disk.failures old ≤ g.disk.failures (device_of store)
    count_with = let On : D → Type 0 = λ d. g.disk.failures old ≤ g.disk.failures d in subst On (sym on) run.count
