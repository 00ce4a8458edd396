use Rattle.std.proofs.Common.{◌≡◌, sym, subst, ◌∙◌, lit<}
use Rattle.std.proofs.lemmas.Str.Pattern.{split_after}
use Rattle.std.specs.Str.{IsUtf8, IsValidUpTo, valid_up_to}
use Rattle.names.proofs.KeyBytes.{IsPlain-no_zero, IsUtf8-zero_parted, IsSomeAnd-from_match, taken_from_ok, refused_from_ok}
use Rattle.names.proofs.key.split_at_zero.Goals as goal

pub returns-in_err-text-clause-plain : goal.returns-in_err-text-clause-plain
returns-in_err-text-clause-plain c = λ front back p q e.
    let bytes = c.args.bytes.now in
    let no_text : ¬ (IsUtf8 bytes) =
    refused_from_ok c.from_utf8.result (λ s. (s.now ≡ bytes) × IsUtf8 bytes) (¬ (IsUtf8 bytes)) (λ u. IsValidUpTo bytes (valid_up_to u))
    (sym c.ok.ensures.value ∙ c.in_err-text.was) c.from_utf8.ensures.cases
    in
    absurd (no_text (subst IsUtf8 e (IsUtf8-zero_parted front back p q)))

pub returns-clause-plain : goal.returns-clause-plain
returns-clause-plain c = λ front back p q e.
    let bytes = c.args.bytes.now in
    let text : (c.in_ok-text.text.now ≡ bytes) × IsUtf8 bytes =
    taken_from_ok c.from_utf8.result c.in_ok-text.text (λ s. (s.now ≡ bytes) × IsUtf8 bytes) (λ u. ¬ (IsUtf8 bytes) × IsValidUpTo bytes (valid_up_to u))
    (sym c.ok.ensures.value ∙ c.in_ok-text.was) c.from_utf8.ensures.cases
    in
    IsSomeAnd-from_match c.split_once.result (λ parts. (parts.0.now ≡ front) × (parts.1.now ≡ back))
    (split_after 0 c.in_ok-text.text.now front back c.split_once.result c.split_once.ensures.cases (lit< tt) (text.0 ∙ sym e) (IsPlain-no_zero front p))
