use Rattle.std.proofs.Common.{◌∙◌, sym}
use Rattle.celmean.proofs.Inside.{contains-front}
use Rattle.celmean.proofs.texts.contains.Goals as goal

pub returns-then-starts_with : goal.returns-then-starts_with
returns-then-starts_with c = let front = contains-front c.places.rest.now c.as_bytes-part.result.now (sym c.starts_with.ensures.value ∙ c.if-starts_with.true) in cc
