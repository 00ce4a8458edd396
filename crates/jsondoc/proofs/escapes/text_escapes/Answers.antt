use Rattle.jsondoc.proofs.EscapeTable.{escape_byte-escape_of}
use Rattle.jsondoc.proofs.escapes.text_escapes.Goals as goal

pub returns : goal.returns
returns c = escape_byte-escape_of
