-- A stream fed in pieces: what is awaited, what a further piece gives, and what is left at the end.
use Rattle.std.proofs.Common.{◌≡◌, ◌≢◌, ℕ, ◌+◌, inl, inr, List, [], ◌∷◌, ◌++◌, length, refl, ap, sym, ◌∙◌, arith, subst, Option, Some, None, true, false, MatchOption, unwrap_or, Result, Ok, Err, IfOk}
use Rattle.std.specs.Bool.{◌==◌}
use Rattle.std.proofs.lemmas.Bool.Decides.{nat_tests}
use Rattle.std.proofs.lemmas.List.{append-nil}
use Rattle.httpmsg.specs.declared.head.MessageFault.TheVariants as Fault
use Rattle.httpmsg.specs.declared.head.BrokenMessage.{BrokenMessage}
use Rattle.httpmsg.specs.declared.head.End.{End}
use Rattle.httpmsg.specs.declared.head.End.TheVariants.{Clean, Broken}
use Rattle.httpmsg.specs.Stream.{Message, IsUnfinished, EndsAtOnce, Progress, IsCut}
use Rattle.httpmsg.specs.Cut.{Awaits, end_at, end_of}
use Rattle.httpmsg.proofs.Cuts.{awaits_head}
use Rattle.httpmsg.proofs.Leads.{cut_on, cut_ended}
use Rattle.httpmsg.proofs.Places.{at_waits}
use Rattle.httpmsg.specs.declared.cutter.Awaited.{Awaited}
use Rattle.httpmsg.specs.declared.cutter.Awaited.TheVariants.{Bytes, Head}
use Rattle.httpmsg.specs.Awaited.{IsAwaited}

-- whatever is awaited is this many bytes
pub awaited_bytes : (bytes : List ℕ) (a : Awaited) → IsAwaited bytes a → (need : ℕ) × Awaits bytes need
awaited_bytes bytes (Bytes need) awaits = (need, awaits)
awaited_bytes bytes (Head place) (few, at) =
    let waits = at_waits place bytes at in (length bytes + 1, awaits_head bytes few (inr (inl (few, waits.0))) waits.1)

-- no bytes are left
pub nothing_left : (p : Progress) → p.end ≡ None → (length p.pending == 0) ≡ true → end_of p ≡ Clean
nothing_left p is none = ap (λ o. unwrap_or o (end_at p.pending)) is ∙ empty p.pending none
  where
    empty : (bytes : List ℕ) → (length bytes == 0) ≡ true → end_at bytes ≡ Clean
    empty [] e = refl
    empty (b ∷ bytes) e = grind (arith, nat_tests)

-- some bytes are left
pub something_left : (p : Progress) → p.end ≡ None → (length p.pending == 0) ≡ false
    → end_of p ≡ Broken (record { fault = Fault.Malformed; is_head = false })
something_left p is some = ap (λ o. unwrap_or o (end_at p.pending)) is ∙ left p.pending some
  where
    left : (bytes : List ℕ) → (length bytes == 0) ≡ false → end_at bytes ≡ Broken (record { fault = Fault.Malformed; is_head = false })
    left [] e = cc
    left (b ∷ bytes) e = refl

-- after the end: what is cut stays, and nothing more comes
pub fed_ended : {R E : Type 0} (items : R → List Message) (r : Result R E) (all : List ℕ) (ms : List Message) (p : Progress) (more : List ℕ) (end : End)
    → p.end ≡ Some end → IfOk r (λ x. (items x ≡ []) × ((b : BrokenMessage) → end ≢ Broken b)) → IsCut all ms p
    → IfOk r (λ x. IsCut (all ++ more) (ms ++ items x) p)
fed_ended items (Ok x) all ms p more end ended none cut =
    let Cut : List Message → Type 0 = λ xs. IsCut (all ++ more) xs p in
    subst Cut (sym (ap (λ xs. ms ++ xs) none.0 ∙ append-nil ms)) (cut_ended all ms p more end ended cut)
fed_ended items (Err e) all ms p more end ended none cut = tt

-- before the end: what a piece gives follows what was cut
pub fed_on : {R E : Type 0} (items : R → List Message) (r : Result R E) (all : List ℕ) (ms : List Message) (old : Progress) (more : List ℕ)
    (ns : List Message) (new : Progress) → old.end ≡ None → IfOk r (λ x. items x ≡ ns) → IsCut all ms old → IsCut (old.pending ++ more) ns new
    → IfOk r (λ x. IsCut (all ++ more) (ms ++ items x) new)
fed_on items (Ok x) all ms old more ns new is_open same cut next =
    let Cut : List Message → Type 0 = λ xs. IsCut (all ++ more) xs new in
    subst Cut (ap (λ xs. ms ++ xs) (sym same)) (cut_on all ms old more ns new is_open cut next)
fed_on items (Err e) all ms old more ns new is_open same cut next = tt

-- a piece that gives nothing leaves what was cut
pub fed_nothing : (all : List ℕ) (ms : List Message) (old : Progress) (more : List ℕ) (ns : List Message) (new : Progress)
    → old.end ≡ None → ns ≡ [] → IsCut all ms old → IsCut (old.pending ++ more) ns new → IsCut (all ++ more) ms new
fed_nothing all ms old more ns new is_open none cut next =
    let Cut : List Message → Type 0 = λ xs. IsCut (all ++ more) xs new in
    subst Cut (ap (λ xs. ms ++ xs) none ∙ append-nil ms) (cut_on all ms old more ns new is_open cut next)

-- a piece that leaves fewer bytes than are awaited
pub fed_idle : (all : List ℕ) (ms : List Message) (old : Progress) (more : List ℕ) (ns : List Message) (new : Progress)
    → old.end ≡ None → new.end ≡ None → new.pending ≡ old.pending ++ more → IsUnfinished new.pending → ns ≡ [] → IsCut all ms old
    → IsCut (all ++ more) (ms ++ ns) new
fed_idle all ms old more ns new was_open is_open joined unfinished none cut =
    let Unfinished : List ℕ → Type 0 = λ x. IsUnfinished x in
    let Stop : Option End → Type 0 = λ e. MatchOption e ((new.pending ≡ old.pending ++ more) × IsUnfinished (old.pending ++ more)) (EndsAtOnce (old.pending ++ more)) in
    let Cut : List Message → Type 0 = λ xs. IsCut (old.pending ++ more) xs new in
    cut_on all ms old more ns new was_open cut (subst Cut (sym none) (subst Stop (sym is_open) (joined, subst Unfinished joined unfinished)))
