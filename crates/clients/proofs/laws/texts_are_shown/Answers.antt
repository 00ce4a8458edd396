use Rattle.clients.proofs.Showing.{shown_is_visible}
use Rattle.clients.proofs.laws.texts_are_shown.Goals as goal

pub returns : goal.returns
returns c = shown_is_visible
