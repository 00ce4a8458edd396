use Rattle.std.proofs.Common.{◌≡◌, ℕ, Bool, List, Option, Some, None, Vec, Global, Bor, sym, MatchOption, true, false}
use Rattle.std.proofs.lemmas.Option.{MatchOption-at_some, MatchOption-at_none}
use Rattle.std.proofs.lemmas.Result.{IfOk-weaker}
use Rattle.celtokens.specs.Class.{first_quote}
use Rattle.celtokens.specs.Text.{IsTextOf, style_of, HasNoTextOf, HasNoText, BestText}
use Rattle.celtokens.proofs.Texts.{tripled_best, single_best, no_text}
use Rattle.celtokens.proofs.text.text.Goals as goal

pub returns-in-Some-tripled : goal.returns-in-Some-tripled
returns-in-Some-tripled c =
    let style = style_of c.args.raw true c.in-Some.quote in
    tripled_best c.args.raw c.args.chars.now c.in-Some.quote (sym c.in-Some.ensures) c.in-Some-tripled.found.0.items c.in-Some-tripled.found.1.now
    (MatchOption-at_some (HasNoTextOf style c.args.chars.now) (λ x. IsTextOf style c.args.chars.now x.0.items x.1.now) c.in-Some-tripled.found c.in-Some-tripled.is c.in_ok-tripled.ensures)

-- without a tripled string the one of one quote is the longest, if there is one
single_answer : (raw : Bool) (l : List ℕ) (q : ℕ) → first_quote l ≡ Some q → HasNoTextOf (style_of raw true q) l → (o : Option (Vec ℕ Global × Bor (List ℕ)))
    → MatchOption o (HasNoTextOf (style_of raw false q) l) (λ x. IsTextOf (style_of raw false q) l x.0.items x.1.now)
    → MatchOption o (HasNoText raw l) (λ x. BestText raw l x.0.items x.1.now)
single_answer raw l q first none None single = no_text raw l q first none single
single_answer raw l q first none (Some x) found = single_best raw l q first x.0.items x.1.now none found

pub returns-in-None : goal.returns-in-None
returns-in-None c =
    let style = style_of c.args.raw true c.in-Some.quote in
    let none = MatchOption-at_none (HasNoTextOf style c.args.chars.now) (λ x. IsTextOf style c.args.chars.now x.0.items x.1.now) c.in-None.is c.in_ok-tripled.ensures in
    IfOk-weaker c.styled-in-None.result
    (λ o. MatchOption o (HasNoTextOf (style_of c.args.raw false c.in-Some.quote) c.args.chars.now) (λ x. IsTextOf (style_of c.args.raw false c.in-Some.quote) c.args.chars.now x.0.items x.1.now)) _
    (single_answer c.args.raw c.args.chars.now c.in-Some.quote (sym c.in-Some.ensures) none) c.styled-in-None.ensures
