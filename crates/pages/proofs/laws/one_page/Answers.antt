use Rattle.pages.proofs.OnePage.{one_page}
use Rattle.pages.proofs.laws.one_page.Goals as goal

pub returns : goal.returns
returns c = λ entries first second small_first small_second page_first page_second. one_page small_first small_second page_first page_second
