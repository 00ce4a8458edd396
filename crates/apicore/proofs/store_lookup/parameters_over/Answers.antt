use Rattle.std.proofs.Common.{◌≡◌, ◌∙◌, ap, subst, map, List, IfOk}
use Rattle.names.specs.Key.{Key}
use Rattle.policy.specs.Spec.{wanted_seen}
use Rattle.verdict.specs.Objects.{Held}
use Rattle.verdict.specs.Listed.{wanted_of}
use Rattle.verdict.specs.LookupSeen.{shown_held}
use Rattle.apicore.specs.StoreLookups.{entry_held}
use Rattle.apicore.proofs.store_lookup.parameters_over.Goals as goal

pub returns : goal.returns
returns c = λ base held shows same.
    let listed = c.in_ok-objects.ensures base held shows same in
    let lent = rw c.deref.ensures.value at c.in_ok-listed.ensures in
    let seen = rw c.deref-2.ensures.value at c.wanted_among.ensures in
    let Wanted : List (Key × Held) → Type 0 = λ hs. IfOk c.wanted_among.result (λ v. v.items ≡ wanted_of (wanted_seen c.args.wanted.now) (map shown_held hs)) in
    subst Wanted (lent ∙ ap (λ os. map entry_held os) listed) seen
