use Rattle.std.proofs.Common.{arith, ◌≡◌, ◌*◌, ℕ, subst}
use Rattle.device.specs.Step.{Cut}
use Rattle.device.proofs.SectorSteps.{ran_whole, cut-whole, length-whole}
use Rattle.device.proofs.sector_file.SectorFileDevice.cut.Goals as goal

pub returns-clause-ran : goal.returns-clause-ran
returns-clause-ran g c =
    let file = c.args.self.now.file in
    let n = c.args.sectors in
    ran_whole g.F.RawFile.disk c.args.self.now _ (Cut c.offset_of.result) (Cut (512 * n)) c.cut_to.ensures.ran
    (λ k a b cut.
    let offset : c.offset_of.result ≡ 512 * n = omega (arith, c.offset_of.ensures, c.requires.inside k, length-whole (g.F.RawFile.disk.content file), g.met.F.RawFile.at_most file k) in
    let P : ℕ → Type 0 = λ at. Cut at a b in
    cut-whole n a b (subst P offset cut))
