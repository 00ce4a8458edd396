-- The numbers of a format, and what a history of one shows.
use Rattle.std.proofs.Common.{arith, ◌≡◌, ◌≤◌, ◌<◌, ◌^◌, ◌∙◌, ◌⊎◌, inl, inr, ⊎_elim, ap, sym, subst, ℕ, true, false, true≢false}
use Rattle.names.specs.declared.format.Format.{Format}
use Rattle.names.specs.declared.format.Format.TheVariants.{First, Second, Third}
use Rattle.names.specs.declared.format.Rules.{Rules}
use Rattle.names.specs.Format.{has_chunks, rules_of}
use Rattle.names.proofs.Formats.{numbers_small}
use Rattle.device.specs.declared.device.Device.{Ghosts}
use Rattle.roots.specs.declared.root.Label.{Label}
use Rattle.roots.specs.declared.root.Root.{Root}
use Rattle.roots.specs.Root.{MayHaveFloor}
use Rattle.histories.specs.View.{view}
use Rattle.decoded.specs.Standing.{History, IsHistory}
use Rattle.decoded.specs.Upgraded.{is_newest}
use Rattle.snapshots.specs.Keeping.{IsKeepable}
use Rattle.snapshots.proofs.Histories.{histories_are_kept}
use Rattle.durable.specs.Rules.{rules_by}
use Rattle.durable.specs.Settled as settled
use Rattle.durable.specs.Settled.{root_of, kept_rules}
use Rattle.durable.specs.declared.store.Store.{Store}

pub small_of : (label : Label) → (rules_by label).text_limit_bytes ≤ 2 ^ 24
small_of label = omega (arith, (numbers_small label.format label.floor).texts)

last_below : (label : Label) → (rules_by label).greatest_revision < 2 ^ 64
last_below label = omega (arith, (numbers_small label.format label.floor).revisions)

pub by_label : (rules : Rules) (label : Label) → rules ≡ rules_by label → (P : Rules → Type 0) → P (rules_by label) → P rules
by_label rules label numbers P holds = subst P (sym numbers) holds

pub format_by : (label : Label) → (rules_by label).format ≡ label.format
format_by label = (numbers_small label.format label.floor).of_format

pub floor_by : (label : Label) → (rules_by label).floor ≡ label.floor
floor_by label = (numbers_small label.format label.floor).of_floor

pub format_of : (rules : Rules) (label : Label) → rules ≡ rules_by label → rules.format ≡ label.format
format_of rules label numbers = ap (λ (r : Rules). r.format) numbers ∙ format_by label

pub floor_of : (rules : Rules) (label : Label) → rules ≡ rules_by label → rules.floor ≡ label.floor
floor_of rules label numbers = ap (λ (r : Rules). r.floor) numbers ∙ floor_by label

-- texts are short, or the format has them in chunks
pub short_of : (rules : Rules) (label : Label) → rules ≡ rules_by label → (rules.text_limit_bytes ≤ 16384) ⊎ (has_chunks rules.format ≡ true)
short_of rules label numbers =
    let Short : Rules → Type 0 = λ r. (r.text_limit_bytes ≤ 16384) ⊎ (has_chunks r.format ≡ true) in
    by_label rules label numbers Short
    (⊎_elim (λ few. inl (omega (arith, few))) (λ chunks. inr (ap has_chunks (format_by label) ∙ chunks)) (numbers_small label.format label.floor).short)

-- a store keeps to the rules of its file's format
pub kept_format : {D : Type 0} {g : Ghosts D} (store : Store D g) → (kept_rules store).format ≡ settled.format_of store
kept_format store = format_of (kept_rules store) (root_of store).label store.numbers

-- the rules of a format are those of the format and of the floor that they name
pub by_own_format : (rules : Rules) (label : Label) → rules ≡ rules_by label → rules ≡ rules_of rules.format rules.floor
by_own_format rules label numbers =
    let format = format_of rules label numbers in
    let floor = floor_of rules label numbers in
    numbers ∙ sym (λ i. rules_of (format i) (floor i))

-- ---- floors

-- rules have the floor that the label of a root may have
pub may_of : (rules : Rules) (label : Label) → rules ≡ rules_by label → MayHaveFloor label.format label.floor → MayHaveFloor rules.format rules.floor
may_of rules label numbers may =
    subst (λ (f : Format). MayHaveFloor f rules.floor) (sym (format_of rules label numbers))
    (subst (λ (n : ℕ). MayHaveFloor label.format n) (sym (floor_of rules label numbers)) may)

-- the floor of a root stays with it
pub may_still : (was now : Root) → now ≡ was → MayHaveFloor was.label.format was.label.floor → MayHaveFloor now.label.format now.label.floor
may_still was now same may = subst (λ (r : Root). MayHaveFloor r.label.format r.label.floor) (sym same) may

-- a format before the newest has none
pub no_floor : (f : Format) (floor : ℕ) → is_newest f ≡ false → MayHaveFloor f floor → floor ≡ 0
no_floor First floor old may = may
no_floor Second floor old may = may
no_floor Third floor old may = absurd (true≢false old)

-- so a store of such a format keeps to rules without a floor
pub own_of : {D : Type 0} {g : Ghosts D} (store : Store D g) → is_newest (settled.format_of store) ≡ false → kept_rules store ≡ rules_of (kept_rules store).format 0
own_of store old =
    let rules : Rules = kept_rules store in
    let label : Label = (root_of store).label in
    let none : rules.floor ≡ 0 = no_floor rules.format rules.floor (ap is_newest (kept_format store) ∙ old) (may_of rules label store.numbers store.floor) in
    by_own_format rules label store.numbers ∙ ap (rules_of rules.format) none

-- ---- histories

-- what a history of a format shows can be kept
pub history_kept : (rules : Rules) (label : Label) (h : History) → rules ≡ rules_by label → IsHistory rules h → IsKeepable rules (view rules h)
history_kept rules label h numbers history =
    let Small : Rules → Type 0 = λ r. r.text_limit_bytes ≤ 2 ^ 24 in
    let Last : Rules → Type 0 = λ r. r.greatest_revision < 2 ^ 64 in
    histories_are_kept rules h (by_label rules label numbers Small (small_of label)) (by_label rules label numbers Last (last_below label)) history
