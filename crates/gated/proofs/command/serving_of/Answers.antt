use Rattle.std.proofs.Common.{rules, codes, None, Some, ◌≡◌, inl, inr, refl}
use Rattle.std.specs.Str.Parse.{ParsesUnsigned, ExplainsUnsignedError, HasUnsignedDigitsIfOk}
use Rattle.clap.specs.Words.{found_of}
use Rattle.gated.proofs.Verbs.{no_number_read, number_may_be_read, number_read}
use Rattle.gated.proofs.command.serving_of.Goals as goal

pub returns-in-Some : goal.returns-in-Some
returns-in-Some c =
    let found = found_of c.args.matches.now in
    let at_once : c.get_one.result ≡ Some c.in-Some.at_once = search rules in inl (
      number_read _ (λ bs r. ParsesUnsigned 16 10 bs r × ExplainsUnsignedError 10 bs r × HasUnsignedDigitsIfOk bs r) 16 found (codes "at-once") c.get_one.result
          c.in-Some.at_once c.get_one.ensures.none c.get_one.ensures.value (λ u x g. g.0) at_once,
      number_may_be_read _ (λ bs r. ParsesUnsigned 16 10 bs r × ExplainsUnsignedError 10 bs r × HasUnsignedDigitsIfOk bs r) found (codes "conns") c.get_one-in-Some.result
          c.get_one-in-Some.ensures.none c.get_one-in-Some.ensures.value (λ u x g. g.0),
    )

pub returns-in-Some-get_one : goal.returns-in-Some-get_one
returns-in-Some-get_one c =
    let found = found_of c.args.matches.now in
    let none : c.get_one.result ≡ None = search rules in
    let connections : c.get_one-in-None.result ≡ Some c.in-Some-get_one.connections = search rules in (
      no_number_read _ (λ bs r. ParsesUnsigned 16 10 bs r × ExplainsUnsignedError 10 bs r × HasUnsignedDigitsIfOk bs r) found (codes "at-once") c.get_one.result
          c.get_one.ensures.value (λ u x g. g.0) none,
      number_read _ (λ bs r. ParsesUnsigned 16 10 bs r × ExplainsUnsignedError 10 bs r × HasUnsignedDigitsIfOk bs r) 16 found (codes "conns") c.get_one-in-None.result
          c.in-Some-get_one.connections c.get_one-in-None.ensures.none c.get_one-in-None.ensures.value (λ u x g. g.0) connections,
    )

pub returns-in-None-get_one : goal.returns-in-None-get_one
returns-in-None-get_one c =
    let found = found_of c.args.matches.now in
    let no_at_once : c.get_one.result ≡ None = search rules in
    let no_connections : c.get_one-in-None.result ≡ None = search rules in inr (
      no_number_read _ (λ bs r. ParsesUnsigned 16 10 bs r × ExplainsUnsignedError 10 bs r × HasUnsignedDigitsIfOk bs r) found (codes "at-once") c.get_one.result
          c.get_one.ensures.value (λ u x g. g.0) no_at_once,
      no_number_read _ (λ bs r. ParsesUnsigned 16 10 bs r × ExplainsUnsignedError 10 bs r × HasUnsignedDigitsIfOk bs r) found (codes "conns") c.get_one-in-None.result
          c.get_one-in-None.ensures.value (λ u x g. g.0) no_connections,
      refl,
      refl,
    )
