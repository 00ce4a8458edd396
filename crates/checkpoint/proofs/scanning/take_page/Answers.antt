use Rattle.std.proofs.Common.{refl}
use Rattle.checkpoint.proofs.Taking.{some_there, unsound}
use Rattle.checkpoint.proofs.scanning.take_page.Goals as goal

pub returns-in_err-page-clause-page : goal.returns-in_err-page-clause-page
returns-in_err-page-clause-page g c pages indexed is sound sorted =
    unsound c.args.bytes.now c.in_err-page.field-0.0 ((c.in_err-page.ensures.damage c.in_err-page.field-0.0).0 refl) sound

pub add-requires-clause-some : goal.add-requires-clause-some
add-requires-clause-some g c = some_there c.args.bytes.now c.in_ok-page.page c.in_ok-page.ensures.found
