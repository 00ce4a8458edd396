use Rattle.std.proofs.Common.{rules, refl}
use Rattle.std.specs.Prelude.{IsErrOf}
use Rattle.holdings.specs.declared.redo.RedoFault.TheVariants as RedoFault
use Rattle.histories.specs.History.{delete}
use Rattle.histories.specs.View.{after}
use Rattle.histories.proofs.Mapping.{follows_mapped, follows_back, after_mapped}
use Rattle.decoded.specs.Shown.{plans_held}
use Rattle.recovery.proofs.redo.redo_delete.Goals as goal

pub returns-in_err-redo_delete-clause-damaged : goal.returns-in_err-redo_delete-clause-damaged
returns-in_err-redo_delete-clause-damaged c = λ base held shows known is_damaged may.
    let told : IsErrOf c.redo_delete.result RedoFault.NotAllowed = search rules in
    c.redo_delete.ensures.not_allowed base held shows known told (follows_back plans_held c.args.core.now.rules held (delete c.args.key.now) may)

pub returns-clause-taken : goal.returns-clause-taken
returns-clause-taken c = λ base held shows known.
    let rules = c.args.core.now.rules in
    let w = delete c.args.key.now in
    let taken = c.in_ok-redo_delete.ensures.taken base held shows known in (
      after rules held w,
      taken.1,
      record { write = w; plans = tt; same = refl; follows = follows_mapped plans_held rules held w taken.0; shows = after_mapped plans_held rules held w },
    )
