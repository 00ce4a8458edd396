-- What is told of the next generation of a view that is upgraded.
use Rattle.std.specs.Prelude.{◌≡◌, ◌<◌, ◌≤◌, length, Result, IfOk, IsErrOf}
use Rattle.names.specs.declared.format.Rules.{Rules}
use Rattle.objects.specs.declared.fault.Part.{Part}
use Rattle.objects.specs.declared.fault.LookupFault.TheVariants as lookup
use Rattle.checkpoint.specs.EntryList.{entries_of as in_list}
use Rattle.chunks.specs.Chunks.{cut}
use Rattle.histories.specs.View as seen
use Rattle.holdings.specs.Holdings.{Shows}
use Rattle.decoded.specs.Decoded.{Decoded}
use Rattle.decoded.specs.Upgraded.{newest, upgraded_rules, new_names, upgraded_view, upgraded_count, upgraded_revision, HaveForm, HasRoomForUpgrade, IsOfOlderFormat}
use Rattle.snapshots.specs.Keeping.{IsHeld, held_entries}
use Rattle.paged.specs.Lying.{base_of}
use Rattle.paged.specs.declared.compacting.NextUpgraded.{NextUpgraded}
use Rattle.paged.specs.declared.fault.NextFault.{NextFault}
use Rattle.paged.specs.declared.fault.NextFault.TheVariants as fault

-- It is the next generation of the view of a store that keeps to the old rules, as an upgrade leaves it.
pub record IsNextUpgraded (old : Rules) (v : seen.View Decoded) (n : NextUpgraded) : Type 0 where
  pub entries : IsOfOlderFormat old v → in_list n.next.entries ≡ cut newest (held_entries (upgraded_view old v))
  pub rules : n.next.core.rules ≡ upgraded_rules old v.revision
  pub revision : n.revision ≡ upgraded_revision old v
  pub namespaces : n.namespaces ≡ length (new_names old v)
  pub held : IsOfOlderFormat old v → IsHeld (upgraded_rules old v.revision) (upgraded_view old v)
      → Shows n.next.core (base_of (upgraded_view old v)) (upgraded_view old v)
  pub form : HaveForm (new_names old v)
  pub room : HasRoomForUpgrade old v

-- That is the answer, or a fault that refuses the view.
pub record IsUpgradeOf (old : Rules) (v : seen.View Decoded) (r : Result NextUpgraded NextFault) : Type 0 where
  pub next : IfOk r (IsNextUpgraded old v)
  pub too_many : IsErrOf r fault.TooManyObjects → (upgraded_rules old v.revision).object_limit < upgraded_count old v
  pub exhausted : IsErrOf r fault.RevisionExhausted
      → (upgraded_count old v ≤ (upgraded_rules old v.revision).object_limit) × ((upgraded_rules old v.revision).greatest_revision < upgraded_revision old v)
  pub damaged : (part : Part) → IsErrOf r (fault.Lookup (lookup.Damaged part)) → IsOfOlderFormat old v
      → (HaveForm (new_names old v) → HasRoomForUpgrade old v → IsHeld (upgraded_rules old v.revision) (upgraded_view old v)) → ⊥
