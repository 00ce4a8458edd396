-- What is shown of a progress.
use Rattle.std.proofs.Common.{◌≡◌, ◌∙◌, ℕ, List, [], ◌++◌, append_assoc, refl, sym, subst, Option, None, Some}
use Rattle.std.specs.Prelude.{Result}
use Rattle.httpmsg.specs.Flow.{TookSome, Writes}
use Rattle.api.proofs.Folds.{took_some_of}
use Rattle.gated.specs.Progress.{Shows}

module _ {P : Type 0} (took : P → P → List ℕ → Type 0) where
  -- where nothing is written
  pub shows_nothing : ((p : P) → took p p []) → (o : Option P) (text : List ℕ) → Shows took o o text
  shows_nothing none None text = refl
  shows_nothing none (Some p) text = (p, refl, record { front = []; rest = text; split = refl; taken = none p })

  -- a text that was written as far as it could be
  pub shows_written : {T E : Type 0} (o : Option P) (old new : P) (text written : List ℕ) (result : Result T E) → o ≡ Some old → written ≡ text
      → Writes took old new written result → Shows took o (Some new) text
  shows_written o old new text written result is same writes =
      let some : TookSome took old new text = subst (λ (t : List ℕ). TookSome took old new t) same (took_some_of took old new written result writes) in
      subst (λ (x : Option P). Shows took x (Some new) text) (sym is) (new, refl, some)

-- five texts, one after the other
pub five_joined : (a b c d e : List ℕ) → a ++ (b ++ (c ++ (d ++ e))) ≡ a ++ b ++ c ++ d ++ e
five_joined a b c d e = sym (append_assoc a b (c ++ (d ++ e))) ∙ sym (append_assoc (a ++ b) c (d ++ e)) ∙ sym (append_assoc (a ++ b ++ c) d e)
