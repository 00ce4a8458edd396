-- What is done through a device whose progress is shown is done to the device inside.
use Rattle.std.proofs.Common.{◌≡◌, sym, subst, inr, ℕ, List}
use Rattle.device.specs.Disk.{Disk}
use Rattle.names.specs.declared.format.Rules.{Rules}
use Rattle.decoded.specs.Standing.{History}
use Rattle.durable.specs.declared.compacted.Compacted.{Compacted}
use Rattle.durable.specs.declared.fault.Damage.{Damage}
use Rattle.durable.specs.declared.fault.Fault.{Fault}
use Rattle.durable.specs.declared.fault.Fault.TheVariants as fault
use Rattle.durable.specs.declared.upgraded.Upgraded.{Upgraded}
use Rattle.durable.specs.Ready.{HoldsHistory}
use Rattle.store.specs.Upkeep.{KeepsHistory, IsWrittenAnew, IsUpgraded, IsEither, IsToldUpgraded}
use Rattle.gated.specs.declared.problem.Problem.TheVariants as problem
use Rattle.gated.specs.declared.progress.Watched.{Watched}
use Rattle.gated.specs.Doing.{UpgradedStore, WroteAnew}
use Rattle.gated.specs.Left.{HasLeft}
use Rattle.gated.specs.Problem.{of_store}
use Rattle.gated.specs.Progress.{watched_disk}

module _ {D P : Type 0} (disk : Disk D) where
  abbrev holds_watched : (rules : Rules) (w : Watched D P) (h : History) → HoldsHistory rules disk w.device h → HoldsHistory rules (watched_disk disk) w h
  holds_watched rules w h holds = record { keeps = holds.keeps; read = holds.read; left = holds.left }

  keeps_inside : (rules : Rules) (old new : Watched D P) (h : History) → KeepsHistory rules (watched_disk disk) old new h → KeepsHistory rules disk old.device new.device h
  keeps_inside rules old new h kept = record {
    holds = record { keeps = kept.holds.keeps; read = kept.holds.read; left = kept.holds.left };
    any_moment = record { later = kept.any_moment.later; each = kept.any_moment.each; before = kept.any_moment.before };
  }

  pub wrote_watched : {S : Type 0} (made opened closed : S → List ℕ → D → Type 0) (storage : S) (name : List ℕ) (found given : D) (old new : Watched D P) (c : Compacted) → old.device ≡ found
      → given ≡ new.device → opened storage name found → closed storage name given
      → ((rules : Rules) (h : History) → HoldsHistory rules (watched_disk disk) old h → KeepsHistory rules (watched_disk disk) old new h)
      → ((rules : Rules) (h : History) (holds : HoldsHistory rules (watched_disk disk) old h) → IsWrittenAnew (disk.content new.device) holds.read.root c)
      → WroteAnew disk made opened closed storage name c
  wrote_watched made opened closed storage name found given old new c is same was_opened was_closed keeps written = record {
    found = old.device;
    left = new.device;
    was_opened = subst (opened storage name) (sym is) was_opened;
    was_closed = subst (closed storage name) same was_closed;
    keeps = λ rules h holds. keeps_inside rules old new h (keeps rules h (holds_watched rules old h holds));
    written = λ rules h holds. written rules h (holds_watched rules old h holds);
  }

  either_inside : (rules : Rules) (old new : Watched D P) (h : History) → IsEither rules (watched_disk disk) old new h → IsEither rules disk old.device new.device h
  either_inside rules old new h is = record {
    keeps = is.keeps;
    read = is.read;
    left = is.left;
    any_moment = record { later = is.any_moment.later; each = is.any_moment.each; before = is.any_moment.before };
  }

  upgraded_inside : (rules : Rules) (old new : Watched D P) (h : History) → IsUpgraded rules (watched_disk disk) old new h → IsUpgraded rules disk old.device new.device h
  upgraded_inside rules old new h is = record {
    holds = record { keeps = is.holds.keeps; read = is.holds.read; left = is.holds.left };
    any_moment = record { later = is.any_moment.later; each = is.any_moment.each; before = is.any_moment.before };
  }

  pub upgraded_watched : {S : Type 0} (made opened closed : S → List ℕ → D → Type 0) (storage : S) (name : List ℕ) (found given : D) (old new : Watched D P) (u : Upgraded) → old.device ≡ found
      → given ≡ new.device → opened storage name found → closed storage name given
      → ((rules : Rules) (h : History) → HoldsHistory rules (watched_disk disk) old h → IsUpgraded rules (watched_disk disk) old new h)
      → ((rules : Rules) (h : History) (holds : HoldsHistory rules (watched_disk disk) old h) → IsToldUpgraded rules h (disk.content new.device) holds.read.root u)
      → UpgradedStore disk made opened closed storage name u
  upgraded_watched made opened closed storage name found given old new u is same was_opened was_closed upgraded told = record {
    found = old.device;
    left = new.device;
    was_opened = subst (opened storage name) (sym is) was_opened;
    was_closed = subst (closed storage name) same was_closed;
    upgraded = λ rules h holds. upgraded_inside rules old new h (upgraded rules h (holds_watched rules old h holds));
    told = λ rules h holds. told rules h (holds_watched rules old h holds);
  }

  module _ {S : Type 0} (missed : S → List ℕ → Type 0) (opened closed : S → List ℕ → D → Type 0) (storage : S) (name : List ℕ) (found given : D) (old new : Watched D P)
      (is : old.device ≡ found) (same : given ≡ new.device) (was_opened : opened storage name found) (was_closed : closed storage name given) where
    pub kept_watched : ((rules : Rules) (h : History) → HoldsHistory rules (watched_disk disk) old h → KeepsHistory rules (watched_disk disk) old new h)
        → HasLeft disk missed opened closed storage name (λ rules before after h. KeepsHistory rules disk before after h)
    kept_watched keeps = inr (record {
      found = old.device;
      left = new.device;
      was_opened = subst (opened storage name) (sym is) was_opened;
      was_closed = subst (closed storage name) same was_closed;
      is_so = λ rules h holds. keeps_inside rules old new h (keeps rules h (holds_watched rules old h holds));
    })

    pub either_watched : ((rules : Rules) (h : History) → HoldsHistory rules (watched_disk disk) old h → IsEither rules (watched_disk disk) old new h)
        → HasLeft disk missed opened closed storage name (λ rules before after h. IsEither rules disk before after h)
    either_watched either = inr (record {
      found = old.device;
      left = new.device;
      was_opened = subst (opened storage name) (sym is) was_opened;
      was_closed = subst (closed storage name) same was_closed;
      is_so = λ rules h holds. either_inside rules old new h (either rules h (holds_watched rules old h holds));
    })

-- ---- damage

pub damaged_store : (f : Fault) (damage : Damage) → of_store f ≡ problem.Damaged damage → f ≡ fault.Damaged damage
damaged_store fault.Device damage is = cc
damaged_store fault.Memory damage is = cc
damaged_store (fault.Damaged other) damage is = cc
damaged_store fault.Failed damage is = cc
damaged_store fault.Exhausted damage is = cc
