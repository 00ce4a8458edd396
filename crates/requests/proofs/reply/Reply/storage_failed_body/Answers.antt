use Rattle.std.proofs.Common.{refl}
use Rattle.std.specs.Fmt.{digits}
use Rattle.json.specs.Print.{escape_byte}
use Rattle.requests.proofs.reply.Reply.storage_failed_body.Goals as goal

pub returns : goal.returns
unfolding digits escape_byte
returns c = refl
