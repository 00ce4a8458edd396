use Rattle.std.proofs.Common.{◌≡◌, ℕ, ◌+◌, ◌≤◌, ◌++◌, cond, [], ◌∷◌, length, take, get_or, length-append, sym, subst, ap, ◌∙◌, le_refl, List, arith}
use Rattle.instructions.specs.Seen.{op_of, ops_of}
use Rattle.instructions.specs.Judging.{goes_past}
use Rattle.instructions.specs.Macros.{last_start, last_of}
use Rattle.instructions.proofs.Between.{one_more_of, one_told}
use Rattle.instructions.proofs.macros.last_starts.Goals as goal

pub loop-at-preserved : goal.loop-at-preserved
loop-at-preserved c =
    let at = c.loop-at.at in
    let ops = ops_of c.args.code.now in
    let i = c.index-code-at.result in
    let pushed : c.push-in-loop-at.new.self.items ≡ c.loop-at.starts.items ++ c.last_past-start.result ∷ [] = c.in_ok-push-2.ensures.items in
    let noted : (place : ℕ) → at + 1 ≤ place → last_of place 0 c.note.new.spans.items ≡ last_start place 0 0 (take (at + 1) ops) = λ place le.
    c.in_ok-note.ensures place ∙ ap (λ (n : ℕ). cond (goes_past place (op_of i)) (at + 1) n) (c.loop-at.invariant.last place (omega arith)) ∙ sym (one_more_of place at c.args.code.now i c.loop-at-test.true c.index-code-at.is) in
    record {
      room = ap (λ (xs : List ℕ). length xs) pushed ∙ length-append c.loop-at.starts.items (c.last_past-start.result ∷ []) ∙ ap (λ (n : ℕ). n + 1) c.loop-at.invariant.room;
      tells = subst (λ (xs : List ℕ). (place : ℕ) → place ≤ at + 1 → get_or xs place 0 ≡ last_start place 0 0 (take place ops)) (sym pushed)
          (one_told at c.last_past-start.result ops c.loop-at.starts.items c.loop-at.invariant.room c.loop-at.invariant.tells (c.last_past-start.ensures.value ∙ noted (at + 1) (le_refl (at + 1))));
      last = λ place le. c.last_past-start.ensures.kept place le ∙ noted place le;
    }
