use Rattle.std.proofs.Common.{rules, arith, refl, ◌≡◌, ◌∙◌, ap, sym, ◌≤◌, ◌+◌, ◌*◌, ◌-◌, ◌^◌, ℕ, List, length, take, drop, Some}
use Rattle.std.proofs.lemmas.List.{take_at}
use Rattle.gatelog.proofs.read_ahead.ReadAhead.bring.Goals as goal

pub invariant_of-self : goal.invariant_of-self
invariant_of-self g c = record {
  room = omega arith;
  fits = omega arith;
  piece_read = λ keeps. refl;
  at_most = c.len.new.self.at_most;
  told = λ keeps n is. let kept = c.fill.ensures.ran.had_kept keeps in ap length (c.fill.ensures.ran.seen kept) ∙ c.len.new.self.told kept n is;
}

pub invariant_of-self-2 : goal.invariant_of-self-2
invariant_of-self-2 g c = record {
  room = omega arith;
  fits = omega arith;
  piece_read = λ keeps.
      let kept = c.fill.ensures.ran.had_kept keeps in
      let piece = c.len.new.self.piece in
      let whole = take_at c.fill.new.piece (drop (length c.fill.new.piece) piece.items) piece.len (c.fill.ensures.len ∙ c.deref_mut.ensures.len) in
      ap (take (512 * c.min-count.result)) whole ∙ c.in_ok-fill.ensures.front kept ∙ ap (λ (x : List ℕ). take (512 * c.min-count.result) (drop (512 * c.args.at) x)) (sym (c.fill.ensures.ran.seen kept));
  at_most = c.len.new.self.at_most;
  told = λ keeps n is. let kept = c.fill.ensures.ran.had_kept keeps in ap length (c.fill.ensures.ran.seen kept) ∙ c.len.new.self.told kept n is;
}
