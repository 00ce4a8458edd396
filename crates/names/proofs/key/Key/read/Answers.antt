use Rattle.std.proofs.Common.{◌≡◌, ◌∷◌, ◌++◌, length, ap, sym, ◌∙◌, arith}
use Rattle.std.specs.Prelude.{Some, None}
use Rattle.names.specs.Resource.{row, numbered}
use Rattle.names.proofs.KeyBytes.{first_and_rest, none_first, IsSomeAnd-not_none, IsSomeAnd-at_some, no_key_of_parts}
use Rattle.names.proofs.KeyOrder.{IsPlain-namespace, IsPlain-name, numbered-number}
use Rattle.names.proofs.key.Key.read.Goals as goal

pub returns-in_default-clause-no_key : goal.returns-in_default-clause-no_key
returns-in_default-clause-no_key c = λ _ k h e.
    let none : length c.args.bytes.now ≡ 0 = none_first c.args.bytes.now c.split_first.result c.in_default.is c.split_first.ensures.cases in
    absurd (omega (arith, none, ap length e))

pub returns-in_default-numbered-clause-no_key : goal.returns-in_default-numbered-clause-no_key
returns-in_default-numbered-clause-no_key c = λ _ k h e.
    let bytes : c.args.bytes.now ≡ c.in-Some.number.now ∷ c.in-Some.parts.now =
    first_and_rest c.args.bytes.now c.split_first.result c.in-Some.number c.in-Some.parts c.in-Some.is c.split_first.ensures.cases
    in
    let number : (row k.resource).number ≡ c.in-Some.number.now = cc (e, bytes) in
    let found : Some k.resource ≡ c.numbered.result = sym (numbered-number k.resource) ∙ ap numbered number ∙ sym c.numbered.ensures.value in
    let none : c.numbered.result ≡ None = c.in_default-numbered.is in
    cc (found, none)

pub returns-in_default-split_at_zero-clause-no_key : goal.returns-in_default-split_at_zero-clause-no_key
returns-in_default-split_at_zero-clause-no_key c = λ _ k h e.
    let bytes : c.args.bytes.now ≡ c.in-Some.number.now ∷ c.in-Some.parts.now =
    first_and_rest c.args.bytes.now c.split_first.result c.in-Some.number c.in-Some.parts c.in-Some.is c.split_first.ensures.cases
    in
    let parts : k.namespace ++ 0 ∷ k.name ≡ c.in-Some.parts.now = cc (e, bytes) in
    IsSomeAnd-not_none c.split_at_zero.result (λ p. (p.0.now ≡ k.namespace) × (p.1.now ≡ k.name))
    c.in_default-split_at_zero.is
    (c.split_at_zero.ensures.plain k.namespace k.name (IsPlain-namespace k h) (IsPlain-name k h) parts)

pub returns-clause-no_key : goal.returns-clause-no_key
returns-clause-no_key c = λ refused k h e.
    let bytes : c.args.bytes.now ≡ c.in-Some.number.now ∷ c.in-Some.parts.now =
    first_and_rest c.args.bytes.now c.split_first.result c.in-Some.number c.in-Some.parts c.in-Some.is c.split_first.ensures.cases
    in
    let parts : k.namespace ++ 0 ∷ k.name ≡ c.in-Some.parts.now = cc (e, bytes) in
    let number : (row k.resource).number ≡ c.in-Some.number.now = cc (e, bytes) in
    let texts : (c.in-Some-split_at_zero.namespace.now ≡ k.namespace) × (c.in-Some-split_at_zero.name.now ≡ k.name) =
    IsSomeAnd-at_some c.split_at_zero.result (c.in-Some-split_at_zero.namespace, c.in-Some-split_at_zero.name) (λ p. (p.0.now ≡ k.namespace) × (p.1.now ≡ k.name))
    c.in-Some-split_at_zero.is
    (c.split_at_zero.ensures.plain k.namespace k.name (IsPlain-namespace k h) (IsPlain-name k h) parts)
    in
    let found : c.numbered.result ≡ numbered c.in-Some.number.now = c.numbered.ensures.value in
    let some : Some k.resource ≡ Some c.in-Some-numbered.resource =
    sym (numbered-number k.resource) ∙ ap numbered number ∙ sym found ∙ c.in-Some-numbered.is
    in
    let resources : k.resource ≡ c.in-Some-numbered.resource = cc in
    no_key_of_parts k c.in-Some-numbered.resource c.in-Some-split_at_zero.namespace.now c.in-Some-split_at_zero.name.now resources texts.0 texts.1 (c.new.ensures.no_key.0 refused) h
