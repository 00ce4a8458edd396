use Rattle.std.proofs.Common.{arith, ◌≡◌, ◌*◌, ℕ, length, subst, OnOk}
use Rattle.std.proofs.lemmas.Result.{on_ok_weaker}
use Rattle.device.specs.Step.{Torn, Holds}
use Rattle.device.proofs.SectorSteps.{ran_whole, torn-whole, holds-whole, length-whole}
use Rattle.device.proofs.sector_file.SectorFileDevice.write.Goals as goal

pub returns-clause-written : goal.returns-clause-written
returns-clause-written g c k =
    let file = c.args.self.now.file in
    let at = c.args.at in
    let before = g.F.RawFile.disk.content file in
    let after = g.F.RawFile.disk.content c.write_at.new.self in
    let offset : c.offset_of.result ≡ 512 * at = omega (arith, c.offset_of.ensures, c.requires.inside k, length-whole before, g.met.F.RawFile.at_most file k) in
    let P : ℕ → Type 0 = λ from. OnOk c.write_at.result (Holds before from c.args.bytes.now after) in
    on_ok_weaker c.write_at.result (holds-whole at c.args.bytes.now before after c.requires.whole (c.requires.inside k)) (subst P offset (c.write_at.ensures.written k))

pub returns-clause-ran : goal.returns-clause-ran
returns-clause-ran g c =
    let file = c.args.self.now.file in
    let at = c.args.at in
    let n = length c.args.bytes.now in
    ran_whole g.F.RawFile.disk c.args.self.now _ (Torn c.offset_of.result n) (Torn (512 * at) n) c.write_at.ensures.ran
    (λ k a b torn.
    let offset : c.offset_of.result ≡ 512 * at = omega (arith, c.offset_of.ensures, c.requires.inside k, length-whole (g.F.RawFile.disk.content file), g.met.F.RawFile.at_most file k) in
    let P : ℕ → Type 0 = λ from. Torn from n a b in
    torn-whole at n a b c.requires.whole (subst P offset torn))
