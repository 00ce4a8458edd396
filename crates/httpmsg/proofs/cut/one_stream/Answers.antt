use Rattle.httpmsg.proofs.Unique.{stream_unique}
use Rattle.httpmsg.proofs.cut.one_stream.Goals as goal

pub returns : goal.returns
returns c = stream_unique
