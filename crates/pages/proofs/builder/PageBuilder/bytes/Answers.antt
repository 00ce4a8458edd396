use Rattle.std.proofs.Common.{sym, subst, List, ℕ}
use Rattle.pages.specs.Page.{SoundPage}
use Rattle.pages.proofs.Order.{sound_built, sound_some, sound_ascends}
use Rattle.pages.proofs.builder.PageBuilder.bytes.Goals as goal

pub returns-clause-page : goal.returns-clause-page
returns-clause-page c = (
  λ page. (sound_some c.deref.result.now c.args.self.now page, sound_ascends c.deref.result.now c.args.self.now page),
  λ is. subst (λ (bytes : List ℕ). SoundPage bytes c.args.self.now) (sym c.deref.ensures.value)
      (sound_built c.self.inside.bytes.items c.args.self.now c.self.invariant c.self.view_is is.0 is.1),
)
