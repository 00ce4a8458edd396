-- A refusal that goes on to the caller, and the views of the trees that are pushed.
use Rattle.std.proofs.Common.{◌≡◌, ℕ, suc, refl, ap, map, ◌++◌, [], ◌∷◌, Result, Ok, Err, IfOk, IfErr, MatchResult, IsErrAnd, List}
use Rattle.std.proofs.lemmas.Result.{err_from_is_err_and}
use Rattle.celread.specs.declared.parse_fault.ParseFault.{ParseFault}
use Rattle.celread.specs.declared.parse_fault.ParseFault.TheVariants as fault
use Rattle.celtree.specs.declared.tree.Tree.{Tree}
use Rattle.celtokens.specs.Terminal.{Terminal}
use Rattle.celtree.specs.Tree.{Expr}
use Rattle.celread.specs.Grammar.{Height}
use Rattle.celread.specs.Ends.{Refuses, Read, HasNoTree}
use Rattle.celtree.specs.View.{view}
use Rattle.celtree.proofs.Views.{pair_view}

pub refuses : (e : ParseFault) {P Q : Type 0} → (P → Q) → Refuses e P → Refuses e Q
refuses fault.NotInGrammar f h = f h
refuses fault.Memory f h = tt

-- at the exit of a `?`
pub handed_on : {T : Type 0} {P Q : Type 0} (r : Result T ParseFault) (e : ParseFault) → IsErrAnd r (λ y. y ≡ e) → (P → Q) → Refuses e P → IfErr r (λ y. Refuses y Q)
handed_on r e is f h = let p = err_from_is_err_and r is in rw (p.1, p.2) (refuses e f h)

-- where a last call tells both of its outcomes
pub of_ok : {X : Type 0} {P Q : X → Type 0} (R : ParseFault → Type 0) (r : Result X ParseFault) → MatchResult r P R → ((x : X) → P x → Q x) → IfOk r Q
of_ok R (Ok x) h f = f x h
of_ok R (Err e) h f = tt

pub of_err : {X : Type 0} {R Q : ParseFault → Type 0} (P : X → Type 0) (r : Result X ParseFault) → MatchResult r P R → ((e : ParseFault) → R e → Q e) → IfErr r Q
of_err P (Ok x) h f = tt
of_err P (Err e) h f = f e h

-- out of memory says nothing of the tokens
pub of_memory : {X : Type 0} (P : X → Type 0) (Q : Type 0) (r : Result X ParseFault) → MatchResult r P (λ e. e ≡ fault.Memory) → IfErr r (λ e. Refuses e Q)
of_memory P Q (Ok x) h = tt
of_memory P Q (Err e) h = rw h tt

pub map-pair_view : (es : List (Tree × Tree)) (e : Tree × Tree) → map pair_view (es ++ e ∷ []) ≡ map pair_view es ++ (view e.0, view e.1) ∷ []
map-pair_view [] e = refl
map-pair_view (x ∷ es) e = ap (λ l. (view x.0, view x.1) ∷ l) (map-pair_view es e)

pub view-push : (es : List Tree) (e : Tree) → map view (es ++ e ∷ []) ≡ map view es ++ view e ∷ []
view-push [] e = refl
view-push (x ∷ es) e = ap (λ l. view x ∷ l) (view-push es e)

-- a level under another name for its height
pub no_tree_at : (k h : ℕ) (i : List Terminal) → k ≡ suc h → HasNoTree (Height (suc h)) i → HasNoTree (Height k) i
no_tree_at k h i e none = rw e none

pub read_at : (k h : ℕ) (i : List Terminal) (t : Expr) (r : List Terminal) → k ≡ suc h → Read (Height (suc h)) i t r → Read (Height k) i t r
read_at k h i t r e read = rw e read
