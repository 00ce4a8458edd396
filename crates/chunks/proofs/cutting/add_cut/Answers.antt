use Rattle.std.proofs.Common.{arith, ◌≡◌, ◌∙◌, sym, ap, ◌++◌, ◌*◌, ℕ, List, [], ◌∷◌, map, append_assoc, take, drop, Vec, Global, Option}
use Rattle.std.proofs.lemmas.List.FromFn.{map-range_with_len_more}
use Rattle.std.proofs.lemmas.List.{map-append}
use Rattle.std.specs.List.{range_with_len}
use Rattle.pages.specs.Page.{Entry}
use Rattle.checkpoint.specs.EntryList.{listed}
use Rattle.chunks.specs.Chunks.{chunk_entry, stem_of}
use Rattle.chunks.specs.Whole.{key_by}
use Rattle.chunks.proofs.cutting.add_cut.Goals as goal

pub loop-number-preserved : goal.loop-number-preserved
loop-number-preserved c stem is =
    let n : ℕ = c.loop-number.number in
    let value : List ℕ = c.args.value.items in
    let of : Vec ℕ Global × Vec ℕ Global → Entry = λ pair. (pair.0.items, pair.1.items) in
    let next = c.in_ok-numbered.field-0 in
    let first : List Entry = listed c.args.entries.now.items in
    let before : List Entry = map (chunk_entry stem value) (range_with_len 0 n) in
    let is_next : of next ≡ chunk_entry stem value n =
    (λ i. (c.in_ok-numbered.ensures.name i, c.in_ok-numbered.ensures.part i))
    ∙ (λ i. (key_by (stem_of (c.deref-in-loop-number.ensures.value i)) (c.deref-in-loop-number.ensures.value i) n, take 8000 (drop (8000 * n) (c.deref-in-loop-number-2.ensures.value i))))
    ∙ ap (λ (s : Option (List ℕ)). (key_by s c.args.key.items n, take 8000 (drop (8000 * n) value))) is in
    ap listed c.in_ok-push-2.ensures.items
    ∙ map-append of c.loop-number.entries.items (next ∷ [])
    ∙ ap (λ (es : List Entry). es ++ of next ∷ []) (c.loop-number.invariant stem is)
    ∙ append_assoc first before (of next ∷ [])
    ∙ ap (λ (e : Entry). first ++ (before ++ e ∷ [])) is_next
    ∙ ap (λ (es : List Entry). first ++ es) (sym (map-range_with_len_more (chunk_entry stem value) 0 n n (omega arith)))
