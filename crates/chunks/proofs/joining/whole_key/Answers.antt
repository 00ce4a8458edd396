use Rattle.std.proofs.Common.{rules, ◌≡◌, ◌≢◌, ◌∙◌, sym, true, ℕ, List, ◌++◌, is_some}
use Rattle.byteorder.specs.Endian.{big_bytes}
use Rattle.names.specs.Format.{has_chunks}
use Rattle.chunks.specs.Chunks.{stem_of}
use Rattle.chunks.proofs.KeyParts.{told_under, never_under}
use Rattle.chunks.proofs.joining.whole_key.Goals as goal

pub returns-in-Some-clause-of : goal.returns-in-Some-clause-of
returns-in-Some-clause-of c whole chunk same =
    let cuts : has_chunks c.args.format ≡ true = sym c.has_chunks.ensures ∙ c.if-not-has_chunks.false in
    let some : is_some (stem_of c.args.key.now) ≡ true = sym c.is_cut.ensures ∙ c.if-not-is_cut.false in
    told_under (has_chunks c.args.format) cuts c.args.key.now whole chunk some same c.in-Some.stem.now c.in-Some._number c.in-Some.ensures.parts
    c.whole_of.result c.whole_of.ensures.some c.whole_of.ensures.none

pub returns-in-None-clause-of : goal.returns-in-None-clause-of
returns-in-None-clause-of c whole chunk same =
    let cuts : has_chunks c.args.format ≡ true = sym c.has_chunks.ensures ∙ c.if-not-has_chunks.false in
    let some : is_some (stem_of c.args.key.now) ≡ true = sym c.is_cut.ensures ∙ c.if-not-is_cut.false in
    let none : (stem : List ℕ) (n : ℕ) → c.args.key.now ≢ stem ++ big_bytes 2 n = search rules in
    absurd (never_under (has_chunks c.args.format) cuts c.args.key.now whole chunk some same none)
