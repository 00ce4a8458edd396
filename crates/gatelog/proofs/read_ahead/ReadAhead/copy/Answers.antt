use Rattle.std.proofs.Common.{arith, ◌≡◌, ◌∙◌, ap, ◌≤◌, ◌+◌, ◌*◌, ◌-◌, ℕ, List, length, take, drop}
use Rattle.gatelog.proofs.Pieces.{from-piece}
use Rattle.gatelog.proofs.read_ahead.ReadAhead.copy.Goals as goal

pub returns : goal.returns
returns g c = λ keeps.
    let ahead = c.args.self.now in
    let n = length c.args.buffer.now in
    let from = (c.args.at - ahead.first_sector) * 512 in
    let same : from + n - from ≡ n = omega arith in
    let inside : from + n ≤ 512 * ahead.held_sectors = omega arith in
    let place : 512 * ahead.first_sector + from ≡ 512 * c.args.at = omega arith in
    c.copy_from_slice.ensures.after ∙ ap (λ (m : ℕ). take m (drop from c.deref.result.now)) same ∙ ap (λ (x : List ℕ). take n (drop from x)) c.deref.ensures.value
    ∙ from-piece from n (512 * ahead.held_sectors) (512 * ahead.first_sector) (512 * c.args.at) ahead.piece.items (g.D.Device.disk.content ahead.device) inside place
    (ahead.piece_read keeps)
