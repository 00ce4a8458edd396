-- What readers were told: one that keeps nothing, and one that keeps all.
use Rattle.std.specs.Prelude.{◌≡◌, List, [], ◌++◌}
use Rattle.std.proofs.Common.{sym, ap, ◌∙◌, append_assoc}
use Rattle.std.proofs.lemmas.List.{append-nil}
use Rattle.pages.specs.Page.{Entry}
use Rattle.damage.specs.declared.gathering.Idle.{Idle}
use Rattle.damage.specs.declared.gathering.Gathering.{Gathering}

-- whatever it was told
abbrev pub Idles : Idle → Idle → List Entry → Type 0
Idles old new entries = Unit {0}

pub idle_none : (idle : Idle) → Idles idle idle []
idle_none idle = tt

pub idle_then : (old mid new : Idle) (front back : List Entry) → Idles old mid front → Idles mid new back → Idles old new (front ++ back)
idle_then old mid new front back first second = tt

-- Between these two states it was told these entries: it has them behind those that it had.
abbrev pub Gathers : Gathering → Gathering → List Entry → Type 0
Gathers old new entries = new.entries.items ≡ old.entries.items ++ entries

pub gathers_none : (gathering : Gathering) → Gathers gathering gathering []
gathers_none gathering = sym (append-nil gathering.entries.items)

pub gathers_then : (old mid new : Gathering) (front back : List Entry) → Gathers old mid front → Gathers mid new back → Gathers old new (front ++ back)
gathers_then old mid new front back first second =
    second ∙ ap (λ (entries : List Entry). entries ++ back) first ∙ append_assoc old.entries.items front back
