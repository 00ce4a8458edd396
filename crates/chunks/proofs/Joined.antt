-- What was told as a format has it, and told on.
use Rattle.std.proofs.Common.{◌≡◌, ◌∙◌, sym, ap, subst, refl, ⊎_elim, Bool, true, false, List, [], ◌∷◌, ◌++◌, append_assoc, Option, Some, None}
use Rattle.std.proofs.lemmas.List.{append-nil}
use Rattle.pages.specs.Page.{Entry}
use Rattle.checkpoint.specs.Reader.{IsRefused}
use Rattle.checkpoint.proofs.Hearing.{refused_then}
use Rattle.chunks.specs.declared.joining.Joining.{Joining}
use Rattle.chunks.specs.declared.joining.Waiting.{Waiting}
use Rattle.chunks.specs.Chunks.{cuts, cut_if, cut_entry, AreCuttable, BeginsWhole, IsLater}
use Rattle.chunks.specs.Joining.{held, waiting, HasHeard, IsNoneTaken, IsJoined, ToldIn, Told, RefusesChunk, RefusesIn, Refuses}
use Rattle.chunks.proofs.Cuts.{cuts-append, one_list, one_if, split_cut, can_append, can_after, cut_begins}

module _ {R : Type 0} (told : R → R → List Entry → Type 0)
    (then : (old mid new : R) (front back : List Entry) → told old mid front → told mid new back → told old new (front ++ back)) where
  -- A reader that heard what whole entries are cut to was told these.
  pub heard_whole : (c : Bool) (old new : R) (entries whole : List Entry) → AreCuttable whole → cut_if c whole ≡ entries → HasHeard told c old new entries → told old new whole
  heard_whole c old new entries whole can are heard =
      let To : List Entry → Type 0 = λ es. told old new es in
      subst To (one_if c heard.whole whole heard.can (λ is. can) (heard.are ∙ sym are)) heard.told_on

  -- ---- from a start where none waits

  module _ (start : Joining R) (none : waiting start ≡ []) where
    can_start : AreCuttable (waiting start)
    can_start = let Can : List Entry → Type 0 = λ es. AreCuttable es in subst Can (sym none) tt

    from_start : (now : Joining R) (entries : List Entry) (is : IsJoined told start now entries) → entries ≡ cuts is.whole ++ cuts (waiting now)
    from_start now entries is = ap (λ (es : List Entry). cuts es ++ entries) (sym none) ∙ is.parts

    whole_in : (now : Joining R) (entries : List Entry) (is : IsJoined told start now entries) → cuts (is.whole ++ waiting now) ≡ entries
    whole_in now entries is = cuts-append is.whole (waiting now) ∙ sym (from_start now entries is)

    -- The reader has heard them all, once it was told the entry that waits.
    heard_in : (c : Bool) (now : Joining R) (reader : R) (entries : List Entry) → ToldIn c told start now entries → told now.reader reader (waiting now)
        → HasHeard told c start.reader reader entries
    heard_in false now reader entries is last = record {
      whole = entries ++ waiting now;
      can = λ never. cc;
      are = ap (λ (es : List Entry). entries ++ es) (is.idle ∙ none) ∙ append-nil entries;
      told_on = then start.reader now.reader reader entries (waiting now) is.told_on last;
    }
    heard_in true now reader entries is last =
        let each = is.can can_start in
        record {
          whole = is.whole ++ waiting now;
          can = λ cutting. can_append is.whole (waiting now) each.0 each.1;
          are = whole_in now entries is;
          told_on = then start.reader now.reader reader is.whole (waiting now) is.told_on last;
        }

    pub heard : (now : Joining R) (reader : R) (entries : List Entry) → Told told start now entries → told now.reader reader (waiting now)
        → HasHeard told start.cutting start.reader reader entries
    heard now reader entries is last = heard_in start.cutting now reader entries is last

    pub heard_by : (c : Bool) (r : R) → start.cutting ≡ c → start.reader ≡ r → (now : Joining R) (reader : R) (entries : List Entry) → Told told start now entries
        → told now.reader reader (waiting now) → HasHeard told c r reader entries
    heard_by c r cutting first now reader entries is last =
        let By : Bool × R → Type 0 = λ x. HasHeard told x.0 x.1 reader entries in
        subst By {x = (start.cutting, start.reader)} {y = (c, r)} (λ i. (cutting i, first i)) (heard now reader entries is last)

    module _ (refuses : R → Entry → Type 0) where
      -- Where the entry that waits is refused at the end, the whole entries are not taken.
      last_in : (c : Bool) (now : Joining R) (entries : List Entry) → ToldIn c told start now entries → IsRefused told refuses now.reader (waiting now)
          → (whole : List Entry) → AreCuttable whole → cut_if c whole ≡ entries → IsRefused told refuses start.reader whole
      last_in false now entries is refused whole can are =
          let Refused : List Entry → Type 0 = λ es. IsRefused told refuses start.reader es in
          subst Refused (ap (λ (es : List Entry). entries ++ es) (is.idle ∙ none) ∙ append-nil entries ∙ sym are)
          (refused_then told refuses then start.reader now.reader entries (waiting now) is.told_on refused)
      last_in true now entries is refused whole can are =
          let Refused : List Entry → Type 0 = λ es. IsRefused told refuses start.reader es in
          let each = is.can can_start in
          subst Refused (one_list (is.whole ++ waiting now) whole (can_append is.whole (waiting now) each.0 each.1) can (whole_in now entries is ∙ sym are))
          (refused_then told refuses then start.reader now.reader is.whole (waiting now) is.told_on refused)

      pub last_refused : (now : Joining R) (entries : List Entry) → Told told start now entries → IsRefused told refuses now.reader (waiting now)
          → IsNoneTaken told refuses start.cutting start.reader entries
      last_refused now entries is refused whole can are taken = taken (last_in start.cutting now entries is refused whole can are)

      module _ (whole : List Entry) (taken : IsRefused told refuses start.reader whole → ⊥) where
        never : (front back : List Entry) (w : Entry) (r : R) → whole ≡ front ++ w ∷ back → told start.reader r front → refuses r w → ⊥
        never front back w r are was refused = taken (record { before = front; entry = w; after = back; are = are; reader = r; was_told = was; refused = refused })

        -- no chunk is refused
        module _ (can : AreCuttable whole) (j : Joining R) (before after : List Entry) (e : Entry) (is : IsJoined told start j before)
            (are : cuts whole ≡ before ++ e ∷ after) where
          each : AreCuttable is.whole × AreCuttable (waiting j)
          each = is.can can_start

          parts : cuts whole ≡ (cuts is.whole ++ cuts (waiting j)) ++ e ∷ after
          parts = are ∙ ap (λ (es : List Entry). es ++ e ∷ after) (from_start j before is)

          ended : (w : Entry) → waiting j ≡ w ∷ [] → (IsLater e.0 → ⊥) → refuses j.reader w → ⊥
          ended w one not refused =
              let Can : List Entry → Type 0 = λ es. AreCuttable es in
              let rest = split_cut whole (is.whole ++ w ∷ []) (e ∷ after) can (can_append is.whole (w ∷ []) each.0 (subst Can one each.1)) not
              (parts ∙ ap (λ (es : List Entry). (cuts is.whole ++ cuts es) ++ e ∷ after) one ∙ ap (λ (es : List Entry). es ++ e ∷ after) (sym (cuts-append is.whole (w ∷ [])))) in
              never is.whole rest.0 w j.reader (rest.1 ∙ append_assoc is.whole (w ∷ []) rest.0) is.told_on refused

          no_such : (o : Option Waiting) → j.waiting ≡ o → ((es more : List Entry) → AreCuttable es → AreCuttable (waiting j) → cuts es ≡ cuts (waiting j) ++ e ∷ more → ⊥) → ⊥
          no_such None at none =
              let empty : waiting j ≡ [] = ap held at in
              let fresh = is.fresh empty in
              none whole after can each.1
              (parts ∙ ap (λ (es : List Entry). (cuts es ++ cuts (waiting j)) ++ e ∷ after) fresh.0)
          no_such (Some w) at none =
              let entry : Entry = (w.key.items, w.value.items) in
              let one : waiting j ≡ entry ∷ [] = ap held at in
              let Can : List Entry → Type 0 = λ es. AreCuttable es in
              let Begin : List Entry → Type 0 = λ es. BeginsWhole es in
              let here : cuts (waiting j) ≡ cut_entry entry = ap cuts one ∙ append-nil (cut_entry entry) in
              let begins : BeginsWhole (cuts (waiting j) ++ e ∷ after) =
              subst Begin (ap (λ (es : List Entry). es ++ e ∷ after) (sym here)) (cut_begins entry (e ∷ after) (subst Can one each.1).0) in
              let rest = split_cut whole is.whole (cuts (waiting j) ++ e ∷ after) can each.0 begins
              (parts ∙ append_assoc (cuts is.whole) (cuts (waiting j)) (e ∷ after)) in
              none rest.0 after (can_after is.whole rest.0 (subst Can rest.1 can)) each.1 rest.2

          chunk_refused : RefusesChunk refuses j e → ⊥
          chunk_refused says = ⊎_elim (λ w. ended w.0 w.1 w.2 w.3) (no_such j.waiting refl) says

        refused_in : (c : Bool) → AreCuttable whole → (j : Joining R) (before after : List Entry) (e : Entry) → cut_if c whole ≡ before ++ e ∷ after → ToldIn c told start j before
            → (j.cutting ≡ c → RefusesIn c refuses j e) → ⊥
        refused_in false can j before after e are is says = never before after e j.reader are is.told_on (says is.same)
        refused_in true can j before after e are is says = chunk_refused can j before after e is are (says is.same)

      -- Where a chunk is refused, the whole entries are not taken.
      pub none_taken : (entries : List Entry) → IsRefused (Told told) (Refuses refuses) start entries → IsNoneTaken told refuses start.cutting start.reader entries
      none_taken entries refused whole can are taken =
          refused_in whole taken start.cutting can refused.reader refused.before refused.after refused.entry (are ∙ refused.are) refused.was_told
          (λ same. let In : Bool → Type 0 = λ x. RefusesIn x refuses refused.reader refused.entry in subst In same refused.refused)

      -- The same, by what the format and the first reader are.
      module _ (c : Bool) (r : R) (cutting : start.cutting ≡ c) (first : start.reader ≡ r) (entries : List Entry) where
        by_parts : IsNoneTaken told refuses start.cutting start.reader entries → IsNoneTaken told refuses c r entries
        by_parts says =
            let By : Bool × R → Type 0 = λ x. IsNoneTaken told refuses x.0 x.1 entries in
            subst By {x = (start.cutting, start.reader)} {y = (c, r)} (λ i. (cutting i, first i)) says

        pub last_refused_by : (now : Joining R) → Told told start now entries → IsRefused told refuses now.reader (waiting now) → IsNoneTaken told refuses c r entries
        last_refused_by now is refused = by_parts (last_refused now entries is refused)

        pub none_taken_by : IsRefused (Told told) (Refuses refuses) start entries → IsNoneTaken told refuses c r entries
        none_taken_by refused = by_parts (none_taken entries refused)
