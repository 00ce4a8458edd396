use Rattle.std.proofs.Common.{◌≡◌, ◌↔◌, IsTrue, drop, sym, ◌∙◌}
use Rattle.std.specs.Prelude.{EachIndex, slice_index}
use Rattle.std.proofs.lemmas.Bool.{false≢true}
use Rattle.std.proofs.lemmas.List.{take_rest}
use Rattle.byteorder.specs.Endian.{big_number}
use Rattle.roots.proofs.Zeros.{zeros_from, each_zero}
use Rattle.roots.proofs.root.is_header.Goals as goal

pub returns : goal.returns
returns c =
    let answer : IsTrue c.is_zero.result ↔ EachIndex (drop 16 c.args.sector.now) (λ k. slice_index (drop 16 c.args.sector.now) k ≡ 0) =
    simp take_rest at c.is_zero.ensures
    in
    let format : c.read_u32.result ≡ big_number 4 (drop 8 c.args.sector.now) = simp take_rest at c.read_u32.ensures in
    let size : c.read_u32-2.result ≡ big_number 4 (drop 12 c.args.sector.now) = simp take_rest at c.read_u32-2.ensures in (
      λ zero. record {
        whole = c.requires;
        mark = c.has_header_mark.ensures.0 c.if-not-has_header_mark.false;
        format = sym format ∙ c.if-read_u32-ne1.false;
        sector_size = sym size ∙ c.if-read_u32-ne512.false;
        zeros = zeros_from 16 c.args.sector.now (answer.0 zero);
      },
      λ is. answer.1 (each_zero 16 c.args.sector.now is.zeros),
    )

pub returns-then-read_u32-ne512 : goal.returns-then-read_u32-ne512
returns-then-read_u32-ne512 c =
    let size : c.read_u32-2.result ≡ big_number 4 (drop 12 c.args.sector.now) = simp take_rest at c.read_u32-2.ensures in
    (λ told. absurd (false≢true told), λ is. absurd (c.if-read_u32-ne512.true (size ∙ is.sector_size)))
