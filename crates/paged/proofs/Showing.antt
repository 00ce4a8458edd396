-- What a core shows over what lies in pages.
use Rattle.std.proofs.Common.{◌≡◌, sym, subst, List}
use Rattle.names.specs.Key.{Key}
use Rattle.histories.specs.declared.stored.Stored.{Stored}
use Rattle.histories.specs.View as seen
use Rattle.holdings.specs.Holdings.{State, Shows}
use Rattle.decoded.specs.Decoded.{Decoded}

-- What a core shows over what lies below, an equal one shows over the same.
pub shows_still : (old new : State Decoded) (base below : List (Key × Stored Decoded)) (held : seen.View Decoded) → new ≡ old → below ≡ base → Shows old base held → Shows new below held
shows_still old new base below held same lies shows =
    let Over : List (Key × Stored Decoded) → Type 0 = λ b. Shows old b held in
    let By : State Decoded → Type 0 = λ core. Shows core below held in
    subst By (sym same) (subst Over (sym lies) shows)
