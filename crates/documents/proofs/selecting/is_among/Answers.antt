use Rattle.std.proofs.Common.{rules, tests, sym, ◌∙◌, string_bytes}
use Rattle.std.proofs.lemmas.Iterator.{YieldsList-from_slice}
use Rattle.std.proofs.lemmas.Iterator.Search.{any_from_yields_List}
use Rattle.std.specs.Str.{bytes_eq}
use Rattle.documents.proofs.Lists.{list_any-map}
use Rattle.documents.proofs.selecting.is_among.Goals as goal

pub returns : goal.returns
returns c =
    any_from_yields_List (λ x. bytes_eq c.args.text.now (string_bytes x)) _ _ _ c.any.ensures.ran (YieldsList-from_slice c.args.texts.now (cc)) (λ x b q k. search (rules, tests))
    ∙ sym (list_any-map (bytes_eq c.args.text.now) string_bytes c.args.texts.now)
