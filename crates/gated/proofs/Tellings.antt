-- What is told where the program ends with a problem.
use Rattle.std.proofs.Common.{◌≡◌, ◌≢◌, ◌∙◌, ℕ, List, [], ◌++◌, append_assoc, codes, refl, sym, subst}
use Rattle.std.proofs.lemmas.List.{append-nil}
use Rattle.gated.specs.Problem.{Tells, TellsAll, line_of, status_of}
use Rattle.gated.specs.declared.problem.Problem.{Problem}
use Rattle.gated.specs.declared.problem.Problem.TheVariants.{FileExists, NoStore, Damaged, Exhausted, TooManyObjects, RevisionExhausted, AlreadyUpgraded, DeviceFailed, StreamFailed, ListenFailed, OutOfMemory}
use Rattle.gated.specs.declared.status.Status.{Status}
use Rattle.gated.specs.declared.status.Status.TheVariants.{Success}

module _ {E : Type 0} (IsMore : Problem → List ℕ → Type 0) (took : E → E → List ℕ → Type 0) (failures : E → ℕ) (old new : E) where
  -- a problem's line, and what stands behind it
  pub problem_told : (p : Problem) (s : Status) (more : List ℕ) → s ≡ status_of p → IsMore p more → TellsAll took failures old new (line_of p ++ more)
      → Tells IsMore took failures old new s
  problem_told p s more is may told = subst (Tells IsMore took failures old new) (sym is) (go p may told)
    where
      go : (q : Problem) → IsMore q more → TellsAll took failures old new (line_of q ++ more) → Tells IsMore took failures old new (status_of q)
      go FileExists m t = (FileExists, more, refl, m, t)
      go NoStore m t = (NoStore, more, refl, m, t)
      go (Damaged d) m t = (Damaged d, more, refl, m, t)
      go Exhausted m t = (Exhausted, more, refl, m, t)
      go TooManyObjects m t = (TooManyObjects, more, refl, m, t)
      go RevisionExhausted m t = (RevisionExhausted, more, refl, m, t)
      go AlreadyUpgraded m t = (AlreadyUpgraded, more, refl, m, t)
      go DeviceFailed m t = (DeviceFailed, more, refl, m, t)
      go StreamFailed m t = (StreamFailed, more, refl, m, t)
      go (ListenFailed cause) m t = (ListenFailed cause, more, refl, m, t)
      go OutOfMemory m t = (OutOfMemory, more, refl, m, t)

-- six texts, one after the other
pub six_joined : (a b c d e f : List ℕ) → a ++ (b ++ (c ++ (d ++ (e ++ f)))) ≡ a ++ b ++ c ++ d ++ e ++ f
six_joined a b c d e f =
    sym (append_assoc a b (c ++ (d ++ (e ++ f)))) ∙ sym (append_assoc (a ++ b) c (d ++ (e ++ f))) ∙ sym (append_assoc (a ++ b ++ c) d (e ++ f))
    ∙ sym (append_assoc (a ++ b ++ c ++ d) e f)

-- eight texts, one after the other
pub eight_joined : (a b c d e f g h : List ℕ) → a ++ (b ++ (c ++ (d ++ (e ++ (f ++ (g ++ h)))))) ≡ a ++ b ++ c ++ d ++ e ++ f ++ g ++ h
eight_joined a b c d e f g h =
    sym (append_assoc a b (c ++ (d ++ (e ++ (f ++ (g ++ h)))))) ∙ sym (append_assoc (a ++ b) c (d ++ (e ++ (f ++ (g ++ h)))))
    ∙ sym (append_assoc (a ++ b ++ c) d (e ++ (f ++ (g ++ h)))) ∙ sym (append_assoc (a ++ b ++ c ++ d) e (f ++ (g ++ h)))
    ∙ sym (append_assoc (a ++ b ++ c ++ d ++ e) f (g ++ h)) ∙ sym (append_assoc (a ++ b ++ c ++ d ++ e ++ f) g h)

-- nine texts, one after the other
pub nine_joined : (a b c d e f g h i : List ℕ) → a ++ (b ++ (c ++ (d ++ (e ++ (f ++ (g ++ (h ++ i))))))) ≡ a ++ b ++ c ++ d ++ e ++ f ++ g ++ h ++ i
nine_joined a b c d e f g h i = eight_joined a b c d e f g (h ++ i) ∙ sym (append_assoc (a ++ b ++ c ++ d ++ e ++ f ++ g) h i)

-- the pieces of the line of a cause
pub cause_pieces : (a b c d e name text : List ℕ) → a ≡ codes "gated: " → b ≡ name → c ≡ codes ": " → d ≡ text → e ≡ codes "\n"
    → a ++ (b ++ (c ++ (d ++ (e ++ [])))) ≡ codes "gated: " ++ (name ++ (codes ": " ++ (text ++ codes "\n")))
cause_pieces a b c d e name text ea eb ec ed ee = rw (ea, eb, ec, ed, ee, append-nil) refl

-- a program with a problem does not end well
pub no_problem_is_success : (p : Problem) → status_of p ≢ Success
no_problem_is_success FileExists = λ is. cc
no_problem_is_success NoStore = λ is. cc
no_problem_is_success (Damaged d) = λ is. cc
no_problem_is_success Exhausted = λ is. cc
no_problem_is_success TooManyObjects = λ is. cc
no_problem_is_success RevisionExhausted = λ is. cc
no_problem_is_success AlreadyUpgraded = λ is. cc
no_problem_is_success DeviceFailed = λ is. cc
no_problem_is_success StreamFailed = λ is. cc
no_problem_is_success (ListenFailed cause) = λ is. cc
no_problem_is_success OutOfMemory = λ is. cc
