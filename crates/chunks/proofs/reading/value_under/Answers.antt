use Rattle.std.proofs.Common.{rules, arith, ◌≡◌, ◌∙◌, sym, ap, subst, ◌≤◌, ◌*◌, ℕ, List, true, false, length, is_some, Some}
use Rattle.shelf.specs.Shelf.{root_of}
use Rattle.names.specs.Format.{has_chunks}
use Rattle.chunks.specs.Chunks.{stem_of, cut}
use Rattle.chunks.specs.Whole.{cuts_of}
use Rattle.chunks.proofs.Wholes.{IsFront, whole_there, none_whole, first_front, all_found, last_found, next_front, pages_ascend}
use Rattle.chunks.proofs.reading.value_under.Goals as goal
use Rattle.chunks.proofs.reading.value_under.Goals.{then-not-has_chunks-via-then-not-has_chunks, then-not-has_chunks-via-else-not-has_chunks+then-not-is_cut}

pub returns-in-None-clause-found : goal.returns-in-None-clause-found
returns-in-None-clause-found g c entries w =
    let shelf = c.args.shelf.now in
    none_whole entries c.args.key.now c.args.first.now w.can (cuts_of shelf) (pages_ascend g.D.Device.disk c.args.device.now shelf (cut (root_of shelf).label.format entries) w.shelves)
    c.requires.first (c.in-None.ensures (cut (root_of shelf).label.format entries) w.shelves)

pub returns-then-not-has_chunks-clause-found : goal.returns-then-not-has_chunks-clause-found
returns-then-not-has_chunks-clause-found g c entries w =
    let shelf = c.args.shelf.now in
    let cuts : c.has_chunks.result ≡ cuts_of shelf = c.has_chunks.ensures ∙ ap (λ root. has_chunks root.label.format) c.root.ensures in
    let same : c.in_ok-value-in-Some.value.items ≡ c.in-Some.cell.now = search rules in
    let uncut : cuts_of shelf ≡ true → is_some (stem_of c.args.key.now) ≡ false =
    λ yes. elim c.then-not-has_chunks.branch [
      | then-not-has_chunks-via-then-not-has_chunks b ↦ let no : c.has_chunks.result ≡ false = search rules in let never : false ≡ true = sym no ∙ cuts ∙ yes in cc
      | then-not-has_chunks-via-else-not-has_chunks+then-not-is_cut b ↦ let no : b.is_cut.result ≡ false = search rules in sym b.is_cut.ensures ∙ no
    ] in
    ap (λ (v : List ℕ). Some v) same
    ∙ whole_there entries c.args.key.now c.args.first.now (cuts_of shelf) c.requires.first uncut c.in-Some.cell.now
    (c.in-Some.ensures (cut (root_of shelf).label.format entries) w.shelves)

pub loop-chunk-init : goal.loop-chunk-init
loop-chunk-init g c =
    let shelf = c.args.shelf.now in
    let yes : c.has_chunks.result ≡ true = search rules in
    let is_cut : c.is_cut.result ≡ true = search rules in
    let cuts : cuts_of shelf ≡ true = sym (c.has_chunks.ensures ∙ ap (λ root. has_chunks root.label.format) c.root.ensures) ∙ yes in
    let same : c.in_ok-value-in-Some.value.items ≡ c.in-Some.cell.now = search rules in
    record {
      ran = search rules;
      steady = search rules;
      root = search rules;
      kept = λ entries shelves. shelves;
      front = λ entries w.
          let Front : List ℕ → Type 0 = λ v. IsFront entries c.args.key.now 1 v in
          subst Front (sym same)
          (first_front (cuts_of shelf) entries w.can (pages_ascend g.D.Device.disk c.args.device.now shelf (cut (root_of shelf).label.format entries) w.shelves) c.args.key.now cuts
          (sym c.is_cut.ensures ∙ is_cut) c.args.first.now c.in-Some.cell.now c.requires.first (c.in-Some.ensures (cut (root_of shelf).label.format entries) w.shelves));
    }

pub returns-in_err-add_chunk-clause-kept : goal.returns-in_err-add_chunk-clause-kept
returns-in_err-add_chunk-clause-kept g c entries shelves = c.add_chunk.ensures.kept entries (c.loop-chunk.invariant.kept entries shelves)

pub returns-then-not-branch-clause-kept : goal.returns-then-not-branch-clause-kept
returns-then-not-branch-clause-kept g c entries shelves = c.add_chunk.ensures.kept entries (c.loop-chunk.invariant.kept entries shelves)

pub returns-then-not-branch-clause-found : goal.returns-then-not-branch-clause-found
returns-then-not-branch-clause-found g c entries w =
    let shelf = c.args.shelf.now in
    let all = cut (root_of shelf).label.format entries in
    let yes : c.has_chunks.result ≡ true = search rules in
    let is_cut : c.is_cut.result ≡ true = search rules in
    let cuts : cuts_of shelf ≡ true = sym (c.has_chunks.ensures ∙ ap (λ root. has_chunks root.label.format) c.root.ensures) ∙ yes in
    let full : 8000 * c.loop-chunk.chunk ≤ length c.loop-chunk.value.items = omega (arith, c.if-len-chunk.false, c.len.ensures) in
    let no : c.in_ok-add_chunk.field-0 ≡ false = search rules in
    last_found (cuts_of shelf) entries w.can (pages_ascend g.D.Device.disk c.args.device.now shelf all w.shelves) c.args.key.now cuts (sym c.is_cut.ensures ∙ is_cut)
    c.loop-chunk.chunk c.loop-chunk.value.items (c.loop-chunk.invariant.front entries w) full (omega (arith, c.loop-chunk-test.true)) c.add_chunk.new.value.items
    c.in_ok-add_chunk.field-0 no (c.in_ok-add_chunk.ensures.added all (c.loop-chunk.invariant.kept all w.shelves))

pub loop-chunk-preserved : goal.loop-chunk-preserved
loop-chunk-preserved g c =
    let shelf = c.args.shelf.now in
    let yes : c.has_chunks.result ≡ true = search rules in
    let is_cut : c.is_cut.result ≡ true = search rules in
    let cuts : cuts_of shelf ≡ true = sym (c.has_chunks.ensures ∙ ap (λ root. has_chunks root.label.format) c.root.ensures) ∙ yes in
    let full : 8000 * c.loop-chunk.chunk ≤ length c.loop-chunk.value.items = omega (arith, c.if-len-chunk.false, c.len.ensures) in
    let one : c.in_ok-add_chunk.field-0 ≡ true = search rules in
    record {
      ran = search rules;
      steady = c.in_ok-add_chunk.ensures.steady ∙ c.loop-chunk.invariant.steady;
      root = c.add_chunk.ensures.root ∙ c.loop-chunk.invariant.root;
      kept = λ entries shelves. c.add_chunk.ensures.kept entries (c.loop-chunk.invariant.kept entries shelves);
      front = λ entries w.
          let all = cut (root_of shelf).label.format entries in
          next_front (cuts_of shelf) entries w.can (pages_ascend g.D.Device.disk c.args.device.now shelf all w.shelves) c.args.key.now cuts (sym c.is_cut.ensures ∙ is_cut)
          c.loop-chunk.chunk c.loop-chunk.value.items (c.loop-chunk.invariant.front entries w) full (omega (arith, c.loop-chunk-test.true)) c.add_chunk.new.value.items
          c.in_ok-add_chunk.field-0 one (c.in_ok-add_chunk.ensures.added all (c.loop-chunk.invariant.kept all w.shelves));
    }

pub returns-clause-found : goal.returns-clause-found
returns-clause-found g c entries w =
    let shelf = c.args.shelf.now in
    let yes : c.has_chunks.result ≡ true = search rules in
    let is_cut : c.is_cut.result ≡ true = search rules in
    let cuts : cuts_of shelf ≡ true = sym (c.has_chunks.ensures ∙ ap (λ root. has_chunks root.label.format) c.root.ensures) ∙ yes in
    all_found (cuts_of shelf) entries w.can (pages_ascend g.D.Device.disk c.args.device.now shelf (cut (root_of shelf).label.format entries) w.shelves) c.args.key.now cuts
    (sym c.is_cut.ensures ∙ is_cut) c.loop-chunk.chunk c.loop-chunk.value.items (c.loop-chunk.invariant.front entries w) (omega (arith, c.loop-chunk-test.false))
