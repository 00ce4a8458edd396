use Rattle.std.proofs.Common.{◌≡◌, ◌∙◌, length, take, arith, min, ap}
use Rattle.std.proofs.lemmas.List.{take_min}
use Rattle.httpmsg.proofs.front.first_bytes.Goals as goal

pub returns : goal.returns
returns c =
    let least : c.min.result ≡ min 8192 (length c.args.bytes.now) = omega arith in
    ap (λ k. take k c.args.bytes.now) least ∙ take_min 8192 c.args.bytes.now
