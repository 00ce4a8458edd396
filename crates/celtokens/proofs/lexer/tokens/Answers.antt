use Rattle.std.proofs.Common.{◌≡◌, ◌<◌, ◌==◌, ◌++◌, ◌∷◌, [], List, ℕ, true, false, Option, Some, None, sym, length, arith, eqb-true}
use Rattle.std.proofs.lemmas.Option.{MatchOption-at_some, MatchOption-at_none}
use Rattle.std.proofs.lemmas.List.{map-append}
use Rattle.celtokens.specs.declared.token.Token.{Token}
use Rattle.celtokens.specs.Terminal.{Terminal}
use Rattle.celtokens.specs.Lexeme.{HasNoLexeme, Longest}
use Rattle.celtokens.specs.Lexes.{Lexes}
use Rattle.celtokens.specs.Seen.{terminal, terminals, part}
use Rattle.celtokens.proofs.Lexed.{Lexed, longest_shorter, lexed_gap, lexed_token, lexed_end, no_sequence}
use Rattle.celtokens.proofs.lexer.tokens.Goals as goal
use Rattle.celtokens.proofs.lexer.tokens.Goals.{In-Some}

-- what the call gave at the rest
longest_here : (c : In-Some) → Longest c.lexemes.rest.now (part c.in-Some.part) c.in-Some.beyond.now
longest_here c = MatchOption-at_some (HasNoLexeme c.lexemes.rest.now) (λ x. Longest c.lexemes.rest.now (part x.0) x.1.now) (c.in-Some.part, c.in-Some.beyond) c.in-Some.is c.in_ok-part.ensures

shorter_here : (c : In-Some) → length c.in-Some.beyond.now < length c.lexemes.rest.now
shorter_here c = longest_shorter c.lexemes.rest.now (part c.in-Some.part) c.in-Some.beyond.now (longest_here c)

pub lexemes-smaller-in_ok-push-in-Some : goal.lexemes-smaller-in_ok-push-in-Some
lexemes-smaller-in_ok-push-in-Some c = shorter_here (goal.at.lexemes-smaller-in_ok-push-in-Some c).In-Some

-- a token is pushed
pushed : (i : List ℕ) (ts new : List Token) (m r : List ℕ) (p : Option Token) (t : Token) → Lexed i (terminals ts) m → p ≡ Some t → Longest m (part p) r → new ≡ ts ++ t ∷ [] → Lexed i (terminals new) r
pushed i ts new m r p t lexed is h e =
    rw (e, map-append terminal ts (t ∷ [])) (lexed_token i (terminals ts) m r (terminal t) lexed (rw is at h))

pub lexemes-preserved-in_ok-push-in-Some : goal.lexemes-preserved-in_ok-push-in-Some
lexemes-preserved-in_ok-push-in-Some c =
    pushed c.args.chars.now c.lexemes.tokens.items c.push.new.self.items c.lexemes.rest.now c.in-Some.beyond.now c.in-Some.part c.in-Some-part.token c.lexemes.invariant c.in-Some-part.is
    (longest_here (goal.at.lexemes-preserved-in_ok-push-in-Some c).In-Some) c.in_ok-push-in-Some.ensures.items

pub lexemes-smaller : goal.lexemes-smaller
lexemes-smaller c = shorter_here (goal.at.lexemes-smaller c).In-Some

dropped : (i : List ℕ) (ts : List Token) (m r : List ℕ) (p : Option Token) → Lexed i (terminals ts) m → p ≡ None → Longest m (part p) r → Lexed i (terminals ts) r
dropped i ts m r p lexed is h = lexed_gap i (terminals ts) m r lexed (rw is at h)

pub lexemes-preserved : goal.lexemes-preserved
lexemes-preserved c =
    dropped c.args.chars.now c.lexemes.tokens.items c.lexemes.rest.now c.in-Some.beyond.now c.in-Some.part c.lexemes.invariant c.in_default.is (longest_here (goal.at.lexemes-preserved c).In-Some)

at_end : (i m : List ℕ) (ts : List Terminal) → Lexed i ts m → true ≡ (length m == 0) → Lexes i ts
at_end i [] ts lexed e = lexed_end i ts lexed
at_end i (c ∷ m) ts lexed e = absurd (let n = eqb-true _ 0 (sym e) in omega arith)

pub returns : goal.returns
returns c = at_end c.args.chars.now c.lexemes.rest.now (terminals c.lexemes.tokens.items) c.lexemes.invariant c.lexemes-test.ensures

some_left : (m : List ℕ) → false ≡ (length m == 0) → 0 < length m
some_left [] e = absurd (cc)
some_left (c ∷ m) e = omega arith

pub returns-in-None : goal.returns-in-None
returns-in-None c =
    no_sequence c.args.chars.now (terminals c.lexemes.tokens.items) c.lexemes.rest.now c.lexemes.invariant (some_left c.lexemes.rest.now c.lexemes-test.ensures)
    (MatchOption-at_none (HasNoLexeme c.lexemes.rest.now) (λ x. Longest c.lexemes.rest.now (part x.0) x.1.now) c.in-None.is c.in_ok-part.ensures)
