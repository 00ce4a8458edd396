use Rattle.std.proofs.Common.{ℕ, List, Option, Some, None, Vec, Global, Bor, MatchOption, true}
use Rattle.std.proofs.lemmas.Result.{IfOk-weaker}
use Rattle.celtokens.specs.Numeral.{FirstIs}
use Rattle.celtokens.specs.Text.{is_r, HasNoText, BestText, IsRawText, HasNoRawText}
use Rattle.celtokens.proofs.Words.{raw_from_mark, no_raw_from_mark}
use Rattle.celtokens.proofs.lexeme.raw_text.Goals as goal

-- after the mark: the string is raw
beyond_mark : (l m : List ℕ) → FirstIs is_r l m → (o : Option (Vec ℕ Global × Bor (List ℕ)))
    → MatchOption o (HasNoText true m) (λ x. BestText true m x.0.items x.1.now) → MatchOption o (HasNoRawText l) (λ x. IsRawText l x.0.items x.1.now)
beyond_mark l m mark None none = no_raw_from_mark l m mark none
beyond_mark l m mark (Some x) best = raw_from_mark l m x.0.items x.1.now mark best

pub returns-in-Some : goal.returns-in-Some
returns-in-Some c =
    IfOk-weaker c.text.result (λ o. MatchOption o (HasNoText true c.in-Some.rest.now) (λ x. BestText true c.in-Some.rest.now x.0.items x.1.now)) _
    (beyond_mark c.args.chars.now c.in-Some.rest.now c.in-Some.ensures) c.text.ensures
