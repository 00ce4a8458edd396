use Rattle.std.proofs.Common.{◌*◌, ℕ, List, ap, sym, ◌∙◌, subst}
use Rattle.std.specs.Prelude.{slice_index}
use Rattle.gatelog.specs.Record.{part}
use Rattle.roots.specs.Root.{IsRoot}
use Rattle.roots.proofs.slots.what_stands.Goals as goal

pub returns-in-None : goal.returns-in-None
returns-in-None c = (
  ap (λ g. slice_index c.args.front.now (512 * g)) (sym c.gate_sector.ensures) ∙ c.if-front-gate_sector.false,
  λ root is.
      let Spells : List ℕ → Type 0 = λ x. IsRoot root x in
      c.in-None.ensures.none root
      (subst Spells (ap (λ s. part (512 * s) 512 c.args.front.now) (sym c.root_sector-at.ensures) ∙ sym c.sector_at.ensures.bytes) is),
)
