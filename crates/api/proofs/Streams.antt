-- How a stream that was cut ends.
use Rattle.std.proofs.Common.{◌≡◌, ◌≢◌, ℕ, List, [], ◌∷◌, ◌++◌, length, ap, sym, ◌∙◌, subst, refl, arith, length-append, Option, Some, None, Bool, true, false, MatchOption, inl, inr, ◌⊎◌, unwrap_or}
use Rattle.std.specs.Bool.{MatchBool}
use Rattle.httpmsg.specs.declared.head.BrokenMessage.{BrokenMessage}
use Rattle.httpmsg.specs.declared.head.End.{End}
use Rattle.httpmsg.specs.declared.head.End.TheVariants.{Clean, Closed, Broken}
use Rattle.httpmsg.specs.Cut.{end_at, end_of}
use Rattle.httpmsg.specs.Stream.{Message, IsUnfinished, EndsAtOnce, IsStream, Progress, IsCut}
use Rattle.httpmsg.proofs.Leads.{cut_ended, cut_stream}

-- bytes that may go on never end a stream between two messages
never_clean : (bytes : List ℕ) (ms : List Message) (p : Progress) → IsCut bytes ms p → p.end ≡ Some Clean → ⊥
never_clean bytes [] p stops is =
    let Stop : Option End → Type 0 = λ e. MatchOption e ((p.pending ≡ bytes) × IsUnfinished bytes) (EndsAtOnce bytes) in
    let empty : bytes ++ 0 ∷ [] ≡ [] = subst Stop is stops (0 ∷ []) in
    omega (arith, ap length empty, length-append bytes (0 ∷ []))
never_clean bytes (m ∷ ms) p (rest, takes, closing) is = on m.closes closing (λ cut. never_clean rest ms p cut is)
  where
    on : (b : Bool) → MatchBool b ((ms ≡ []) × (p.end ≡ Some Closed)) (IsCut rest ms p) → (IsCut rest ms p → ⊥) → ⊥
    on true closed go = let clash : Some Clean ≡ Some Closed = sym is ∙ closed.1 in cc
    on false cut go = go cut

-- no end is known
pub open_end : (bytes : List ℕ) (ms : List Message) (p : Progress) → IsCut bytes ms p → p.end ≢ Some Closed
    → ((b : BrokenMessage) → p.end ≡ Some (Broken b) → ⊥) → p.end ≡ None
open_end bytes ms p cut not_closed not_broken = on p.end refl
  where
    on : (e : Option End) → p.end ≡ e → p.end ≡ None
    on None is = is
    on (Some Clean) is = absurd (never_clean bytes ms p cut is)
    on (Some Closed) is = absurd (not_closed is)
    on (Some (Broken b)) is = absurd (not_broken b is)

end_known : (p : Progress) (end : End) → p.end ≡ Some end → end_of p ≡ end
end_known p end e = ap (λ o. unwrap_or o (end_at p.pending)) e

-- once the end is known, whatever follows, the stream is this
pub at_once : (bytes : List ℕ) (ms : List Message) (p : Progress) (end : End) → IsCut bytes ms p → p.end ≡ Some end
    → (more : List ℕ) → IsStream (bytes ++ more) ms end
at_once bytes ms p end cut is more =
    subst (λ e. IsStream (bytes ++ more) ms e) (end_known p end is) (cut_stream (bytes ++ more) ms p (cut_ended bytes ms p more end is cut))

pub ended_stream : (bytes : List ℕ) (ms : List Message) (p : Progress) (end : End) → IsCut bytes ms p → p.end ≡ Some end → IsStream bytes ms end
ended_stream bytes ms p end cut is = subst (λ e. IsStream bytes ms e) (end_known p end is) (cut_stream bytes ms p cut)

not_closed : (bytes : List ℕ) → end_at bytes ≢ Closed
not_closed [] e = cc
not_closed (b ∷ bytes) e = cc

-- the end of a stream that may go on is clean where it is no fault
pub end_clean : (p : Progress) → p.end ≡ None → (end_of p ≡ Clean) ⊎ (end_of p ≡ Closed) → end_of p ≡ Clean
end_clean p is (inl clean) = clean
end_clean p is (inr closed) =
    let open_ : end_of p ≡ end_at p.pending = ap (λ o. unwrap_or o (end_at p.pending)) is in
    absurd (not_closed p.pending (sym open_ ∙ closed))
