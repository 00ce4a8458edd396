-- What conditions say after earlier ones.
use Rattle.std.proofs.Common.{◌≡◌, refl}
use Rattle.policy.specs.Forms.{Text}
use Rattle.verdict.specs.Denials.{Conditions, met, unmet, neither, or_neither}

-- what earlier conditions say, none of which is false, and then these
abbrev pub after : (kept : Conditions) → Conditions → Conditions
after met later = later
after unmet later = unmet
after (neither name) later = or_neither name later

pub after-neither : (first name : Text) (later : Conditions) → or_neither first (or_neither name later) ≡ or_neither first later
after-neither first name met = refl
after-neither first name unmet = refl
after-neither first name (neither other) = refl

pub after-unmet : (kept : Conditions) → after kept unmet ≡ unmet
after-unmet met = refl
after-unmet unmet = refl
after-unmet (neither name) = refl
