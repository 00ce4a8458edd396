use Rattle.std.proofs.Common.{arith, ◌≡◌, ◌*◌, ◌∙◌, ℕ, List, take, drop, length, subst, ap, OnOk}
use Rattle.device.proofs.SectorSteps.{read-whole, length-whole}
use Rattle.device.proofs.sector_file.SectorFileDevice.read.Goals as goal

pub returns-clause-bytes : goal.returns-clause-bytes
returns-clause-bytes g c k =
    let file = c.args.self.now.file in
    let content = g.F.RawFile.disk.content file in
    let n = length c.args.buffer.now in
    let offset : c.offset_of.result ≡ 512 * c.args.at = omega (arith, c.offset_of.ensures, c.requires.inside k, length-whole content, g.met.F.RawFile.at_most file k) in
    let P : List ℕ → Type 0 = λ bytes. OnOk c.read_at.result (c.read_at.new.buffer ≡ bytes) in
    subst P (ap (λ (at : ℕ). take n (drop at content)) offset ∙ read-whole c.args.at n content (c.requires.inside k)) (c.read_at.ensures.bytes k)
