-- Messages cut one after another, and what further bytes give.
use Rattle.std.proofs.Common.{◌≡◌, ℕ, inl, List, [], ◌∷◌, ◌++◌, refl, ap, sym, ◌∙◌, append_assoc, subst, Option, Some, None, Bool, true, false, MatchOption, unwrap_or}
use Rattle.std.specs.Bool.{MatchBool}
use Rattle.std.proofs.lemmas.List.{append-nil}
use Rattle.httparse.proofs.GrammarLemmas.{ReadsRequest-append}
use Rattle.httpmsg.specs.declared.head.End.{End}
use Rattle.httpmsg.specs.declared.head.End.TheVariants.{Closed}
use Rattle.httpmsg.specs.Stream.{Message, BeginsWith, Takes, IsUnfinished, EndsAt, EndsAtOnce, IsStream, Progress, Stops, IsCut}
use Rattle.httpmsg.specs.Cut.{Leads, end_at, end_of}

-- before the first message
pub leads_nothing : (bytes : List ℕ) → Leads bytes [] bytes
leads_nothing bytes = λ ns p cut. cut

-- one more message, which does not close
pub leads_on : (bytes : List ℕ) (ms : List Message) (rest : List ℕ) (m : Message) (next : List ℕ) → Leads bytes ms rest → Takes rest m next
    → m.closes ≡ false → Leads bytes (ms ++ m ∷ []) next
leads_on bytes ms rest m next leads takes stays = λ ns p cut.
    let Closing : Bool → Type 0 = λ b. MatchBool b ((ns ≡ []) × (p.end ≡ Some Closed)) (IsCut next ns p) in
    let Cut : List Message → Type 0 = λ xs. IsCut bytes xs p in
    subst Cut (sym (append_assoc ms (m ∷ []) ns)) (leads (m ∷ ns) p (next, takes, subst Closing (sym stays) cut))

-- nothing more
pub leads_stop : (bytes : List ℕ) (ms : List Message) (rest : List ℕ) (p : Progress) → Leads bytes ms rest → Stops rest p → IsCut bytes ms p
leads_stop bytes ms rest p leads stops =
    let Cut : List Message → Type 0 = λ xs. IsCut bytes xs p in
    subst Cut (append-nil ms) (leads [] p stops)

-- one more message, which closes
pub leads_close : (bytes : List ℕ) (ms : List Message) (rest : List ℕ) (m : Message) (next : List ℕ) (p : Progress) → Leads bytes ms rest
    → Takes rest m next → m.closes ≡ true → p.end ≡ Some Closed → IsCut bytes (ms ++ m ∷ []) p
leads_close bytes ms rest m next p leads takes closes ended =
    let none : List Message = [] in
    let Closing : Bool → Type 0 = λ b. MatchBool b ((none ≡ []) × (p.end ≡ Some Closed)) (IsCut next none p) in
    leads (m ∷ []) p (next, takes, subst Closing (sym closes) (refl, ended))

takes_more : (bytes : List ℕ) (m : Message) (rest more : List ℕ) → Takes bytes m rest → Takes (bytes ++ more) m (rest ++ more)
takes_more bytes m rest more t =
    let Begins : List ℕ → Type 0 = λ x. BeginsWith (bytes ++ more) t.head x in
    let begins : BeginsWith (bytes ++ more) t.head ((m.body ++ rest) ++ more) =
    record { reads = ReadsRequest-append bytes t.head (m.body ++ rest) more t.begins.reads; fits = t.begins.fits }
    in
    record { head = t.head; begins = subst Begins (append_assoc m.body rest more) begins; sound = t.sound; body = t.body; is = t.is }

ends_more : (bytes more : List ℕ) (end : End) → EndsAtOnce bytes end → EndsAtOnce (bytes ++ more) end
ends_more bytes more end at = λ others.
    let Ends : List ℕ → Type 0 = λ x. EndsAt x end in subst Ends (sym (append_assoc bytes more others)) (at (more ++ others))

-- the messages of a further piece follow those so far
pub cut_on : (all : List ℕ) (ms : List Message) (old : Progress) (more : List ℕ) (ns : List Message) (new : Progress)
    → old.end ≡ None → IsCut all ms old → IsCut (old.pending ++ more) ns new → IsCut (all ++ more) (ms ++ ns) new
cut_on all [] old more ns new is_open stops next =
    let Stop : Option End → Type 0 = λ e. MatchOption e ((old.pending ≡ all) × IsUnfinished all) (EndsAtOnce all) in
    let here : (old.pending ≡ all) × IsUnfinished all = subst Stop is_open stops in
    let Cut : List ℕ → Type 0 = λ x. IsCut (x ++ more) ns new in
    subst Cut here.0 next
cut_on all (m ∷ ms) old more ns new is_open (rest, takes, closing) next =
    (rest ++ more, takes_more all m rest more takes, on m.closes closing (λ cut. cut_on rest ms old more ns new is_open cut next))
  where
    on : (b : Bool) → MatchBool b ((ms ≡ []) × (old.end ≡ Some Closed)) (IsCut rest ms old)
        → (IsCut rest ms old → IsCut (rest ++ more) (ms ++ ns) new)
        → MatchBool b ((ms ++ ns ≡ []) × (new.end ≡ Some Closed)) (IsCut (rest ++ more) (ms ++ ns) new)
    on true closed go = let clash : None ≡ Some Closed = sym is_open ∙ closed.1 in cc
    on false cut go = go cut

-- once the end is known nothing that follows is cut
pub cut_ended : (all : List ℕ) (ms : List Message) (p : Progress) (more : List ℕ) (end : End)
    → p.end ≡ Some end → IsCut all ms p → IsCut (all ++ more) ms p
cut_ended all [] p more end ended stops =
    let Stop : Option End → Type 0 = λ e. MatchOption e ((p.pending ≡ all) × IsUnfinished all) (EndsAtOnce all) in
    let StopMore : Option End → Type 0 = λ e. MatchOption e ((p.pending ≡ all ++ more) × IsUnfinished (all ++ more)) (EndsAtOnce (all ++ more)) in
    subst StopMore (sym ended) (ends_more all more end (subst Stop ended stops))
cut_ended all (m ∷ ms) p more end ended (rest, takes, closing) =
    (rest ++ more, takes_more all m rest more takes, on m.closes closing (λ cut. cut_ended rest ms p more end ended cut))
  where
    on : (b : Bool) → MatchBool b ((ms ≡ []) × (p.end ≡ Some Closed)) (IsCut rest ms p)
        → (IsCut rest ms p → IsCut (rest ++ more) ms p)
        → MatchBool b ((ms ≡ []) × (p.end ≡ Some Closed)) (IsCut (rest ++ more) ms p)
    on true closed go = closed
    on false cut go = go cut

unfinished_end : (bytes : List ℕ) → IsUnfinished bytes → EndsAt bytes (end_at bytes)
unfinished_end [] unfinished = refl
unfinished_end (b ∷ bytes) unfinished = inl (record { some = λ e. cc; unfinished = unfinished; is = refl })

end_known : (p : Progress) (end : End) → p.end ≡ Some end → end_of p ≡ end
end_known p end e = ap (λ o. unwrap_or o (end_at p.pending)) e

stops_end : (all : List ℕ) (p : Progress) (e : Option End) → p.end ≡ e → MatchOption e ((p.pending ≡ all) × IsUnfinished all) (EndsAtOnce all)
    → EndsAt all (end_of p)
stops_end all p None is (pending, unfinished) =
    let Ends : End → Type 0 = λ end. EndsAt all end in
    let ends : end_of p ≡ end_at all = ap (λ o. unwrap_or o (end_at p.pending)) is ∙ ap end_at pending in
    subst Ends (sym ends) (unfinished_end all unfinished)
stops_end all p (Some end) is at =
    let Ends : End → Type 0 = λ end. EndsAt all end in
    let Here : List ℕ → Type 0 = λ x. EndsAt x end in
    subst Ends (sym (end_known p end is)) (subst Here (append-nil all) (at []))

-- what is cut, and the end if no more bytes come, are the stream
pub cut_stream : (all : List ℕ) (ms : List Message) (p : Progress) → IsCut all ms p → IsStream all ms (end_of p)
cut_stream all [] p stops = stops_end all p p.end refl stops
cut_stream all (m ∷ ms) p (rest, takes, closing) = (rest, takes, on m.closes closing (λ cut. cut_stream rest ms p cut))
  where
    on : (b : Bool) → MatchBool b ((ms ≡ []) × (p.end ≡ Some Closed)) (IsCut rest ms p)
        → (IsCut rest ms p → IsStream rest ms (end_of p))
        → MatchBool b ((ms ≡ []) × (end_of p ≡ Closed)) (IsStream rest ms (end_of p))
    on true closed go = (closed.0, end_known p Closed closed.1)
    on false cut go = go cut
