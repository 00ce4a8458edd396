-- Items and entries, from the left.
use Rattle.std.proofs.Common.{◌≡◌, ◌∙◌, ℕ, Bool, true, false, Some, List, [], ◌∷◌, ◌++◌, sym, refl, ap}
use Rattle.celtokens.specs.declared.sign.Sign.TheVariants as sign
use Rattle.celtokens.specs.Terminal.{Terminal}
use Rattle.celtokens.specs.Terminal as token
use Rattle.celtokens.specs.declared.closing.Closing.{Closing}
use Rattle.celtokens.specs.declared.closing.Closing.TheVariants as closing
use Rattle.celtree.specs.declared.tree.Prefix.{Prefix}
use Rattle.celtree.specs.declared.tree.Prefix.TheVariants as prefix_of
use Rattle.celtree.specs.Tree.{Expr, Exprs, no_items, item, Pairs, no_pairs, pair}
use Rattle.celtokens.specs.Operators.{after_prefix}
use Rattle.celtokens.specs.Literal.{literal_of, one_token, negative_int}
use Rattle.celtokens.specs.Closing.{close_sign, trails, Ending, close, trailing}
use Rattle.celread.specs.Grammar.{Primary, Whole, Height, Spells, literal, name, call, brackets, list, map, member, plain, prefixed, operand, simple, conditional, Items, empty, some, MoreItems, end, comma, Entries, no_entry, entries, MoreEntries, end_entries, comma_entry}
use Rattle.celread.specs.Ends.{Ends, Read, HasNoTree, HasNoTreeBefore, ReadItems, HasNoItems, ReadEntry, HasNoEntry, ReadEntries, HasNoEntries}
use Rattle.celtokens.specs.Ahead.{IsNotNext}
use Rattle.celtree.specs.View.{items_of, pairs_of}

-- no tree begins with a closing sign
abbrev pub starts_close : List Terminal → Bool
starts_close (token.Mark sign.CloseParenthesis ∷ i) = true
starts_close (token.Mark sign.CloseBracket ∷ i) = true
starts_close (token.Mark sign.CloseBrace ∷ i) = true
starts_close _ = false

literal_close : (w : Terminal) (r : List Terminal) (t : Expr) → literal_of w ≡ Some t → starts_close (w ∷ r) ≡ true → ⊥
literal_close (token.Mark s) r t e h = cc
literal_close w r t e h = cc

primary_close : {i r : List Terminal} {t : Expr} → Spells Primary i t r → starts_close i ≡ true → ⊥
primary_close {t = t} (literal (one_token {w = w} {r = r} e)) h = literal_close w r t e h
primary_close (literal (negative_int le)) h = cc
primary_close name h = cc
primary_close (call arguments is) h = cc
primary_close (brackets d) h = cc
primary_close (list items) h = cc
primary_close (map es) h = cc

prefix_close : (p : Prefix) (i m : List Terminal) → after_prefix p i ≡ Some m → starts_close i ≡ true → ⊥
prefix_close prefix_of.Not (token.Mark sign.Bang ∷ i) m e h = cc
prefix_close prefix_of.Not i m e h = cc
prefix_close prefix_of.Negate (token.Mark sign.Minus ∷ i) m e h = cc
prefix_close prefix_of.Negate i m e h = cc

height_close : {h : ℕ} {i r : List Terminal} {t : Expr} → Spells (Height h) i t r → starts_close i ≡ true → ⊥
height_close (plain (member first suffixes)) c = primary_close first c
height_close {i = i} (prefixed {p = p} {m = m} e d) c = prefix_close p i m e c
height_close (operand first chain) c = height_close first c

whole_close : {i r : List Terminal} {t : Expr} → Spells Whole i t r → starts_close i ≡ true → ⊥
whole_close (simple d) c = height_close d c
whole_close (conditional d a b) c = height_close d c

-- the items so far before the others
abbrev pub front_items : List Expr → Exprs → Exprs
front_items [] us = us
front_items (t ∷ ts) us = item t (front_items ts us)

front_items-push : (ts : List Expr) (t : Expr) (us : Exprs) → front_items (ts ++ t ∷ []) us ≡ front_items ts (item t us)
front_items-push [] t us = refl
front_items-push (x ∷ ts) t us = ap (item x) (front_items-push ts t us)

items_of-front : (ts : List Expr) → items_of ts ≡ front_items ts no_items
items_of-front [] = refl
items_of-front (x ∷ ts) = ap (item x) (items_of-front ts)

more_ends : (c : Closing) {m r : List Terminal} {us : Exprs} → MoreItems c m us r → Ends Whole m
more_ends closing.Parenthesis (end close) = refl
more_ends closing.Parenthesis (end (trailing e)) = refl
more_ends closing.Parenthesis (comma d more) = refl
more_ends closing.Bracket (end close) = refl
more_ends closing.Bracket (end (trailing e)) = refl
more_ends closing.Bracket (comma d more) = refl
more_ends closing.Brace (end close) = refl
more_ends closing.Brace (end (trailing e)) = refl
more_ends closing.Brace (comma d more) = refl

ending_only : (c : Closing) {m r s : List Terminal} {us : Exprs} → Ending c m r → MoreItems c m us s → (us ≡ no_items) × (s ≡ r)
ending_only closing.Parenthesis close (end close) = (refl, refl)
ending_only closing.Parenthesis (trailing e) more = absurd (cc)
ending_only closing.Bracket close (end close) = (refl, refl)
ending_only closing.Bracket (trailing e) (end (trailing f)) = (refl, refl)
ending_only closing.Bracket (trailing e) (comma d more) = absurd (whole_close d refl)
ending_only closing.Brace close (end close) = (refl, refl)
ending_only closing.Brace (trailing e) (end (trailing f)) = (refl, refl)
ending_only closing.Brace (trailing e) (comma d more) = absurd (whole_close d refl)

empty_only : (c : Closing) {r s : List Terminal} {us : Exprs} → Items c (token.Mark (close_sign c) ∷ r) us s → (us ≡ no_items) × (s ≡ r)
empty_only closing.Parenthesis empty = (refl, refl)
empty_only closing.Parenthesis (some d more) = absurd (whole_close d refl)
empty_only closing.Bracket empty = (refl, refl)
empty_only closing.Bracket (some d more) = absurd (whole_close d refl)
empty_only closing.Brace empty = (refl, refl)
empty_only closing.Brace (some d more) = absurd (whole_close d refl)

pub items_empty : (c : Closing) (i r : List Terminal) → i ≡ token.Mark (close_sign c) ∷ r → ReadItems c i no_items r
items_empty c i r place = rw place (record { spelled = empty; only = λ us s h. empty_only c h })

-- the items ts are the front of the list at i, and m is what is left of it
pub record GoingItems (c : Closing) (i : List Terminal) (ts : List Expr) (m : List Terminal) : Type 0 where
  pub forth : (us : Exprs) (r : List Terminal) → MoreItems c m us r → Items c i (front_items ts us) r
  pub back : (vs : Exprs) (r : List Terminal) → Items c i vs r → (us : Exprs) × (vs ≡ front_items ts us) × MoreItems c m us r

-- the items ts are the front of the list at i, and another item stands at m
pub record AtItem (c : Closing) (i : List Terminal) (ts : List Expr) (m : List Terminal) : Type 0 where
  pub forth : (t : Expr) (n : List Terminal) (us : Exprs) (r : List Terminal) → Spells Whole m t n → MoreItems c n us r → Items c i (front_items ts (item t us)) r
  pub back : (vs : Exprs) (r : List Terminal) → Items c i vs r → (t : Expr) × (n : List Terminal) × (us : Exprs) × (vs ≡ front_items ts (item t us)) × Spells Whole m t n × MoreItems c n us r

first_back : (c : Closing) (i : List Terminal) → IsNotNext (close_sign c) i → (vs : Exprs) (r : List Terminal) → Items c i vs r → (t : Expr) × (n : List Terminal) × (us : Exprs) × (vs ≡ item t us) × Spells Whole i t n × MoreItems c n us r
first_back c i none vs r empty = absurd (none r refl)
first_back c i none vs r (some {m = n} {t = t} {ts = us} d more) = (t, n, us, refl, d, more)

pub items_first : (c : Closing) (i : List Terminal) → IsNotNext (close_sign c) i → AtItem c i [] i
items_first c i none = record { forth = λ t n us r d more. some d more; back = first_back c i none }

comma_back : (c : Closing) (m : List Terminal) → (trails c ≡ true → IsNotNext (close_sign c) m) → (us : Exprs) (r : List Terminal) → MoreItems c (token.Mark sign.Comma ∷ m) us r
    → (t : Expr) × (n : List Terminal) × (vs : Exprs) × (us ≡ item t vs) × Spells Whole m t n × MoreItems c n vs r
comma_back closing.Parenthesis m another us r (end (trailing e)) = absurd (cc)
comma_back closing.Parenthesis m another us r (comma {m = n} {t = t} {ts = vs} d more) = (t, n, vs, refl, d, more)
comma_back closing.Bracket m another us r (end (trailing e)) = absurd (another refl r refl)
comma_back closing.Bracket m another us r (comma {m = n} {t = t} {ts = vs} d more) = (t, n, vs, refl, d, more)
comma_back closing.Brace m another us r (end (trailing e)) = absurd (another refl r refl)
comma_back closing.Brace m another us r (comma {m = n} {t = t} {ts = vs} d more) = (t, n, vs, refl, d, more)

wrong_more : (c : Closing) (m : List Terminal) → IsNotNext (close_sign c) m → IsNotNext sign.Comma m → (us : Exprs) (r : List Terminal) → MoreItems c m us r → ⊥
wrong_more c m no_close no_comma us r (end close) = no_close r refl
wrong_more c m no_close no_comma us r (end (trailing e)) = no_comma (token.Mark (close_sign c) ∷ r) refl
wrong_more c m no_close no_comma us r (comma {i = n} d more) = no_comma n refl

module _ (c : Closing) (i : List Terminal) (ts : List Expr) (m : List Terminal) (here : AtItem c i ts m) where
  pub items_read : (t : Expr) (n : List Terminal) → Read Whole m t n → GoingItems c i (ts ++ t ∷ []) n
  items_read t n read = record {
    forth = λ us r more. rw (front_items-push ts t us) (here.forth t n us r read.spelled more);
    back = λ vs r h.
        let old = here.back vs r h in
        let same = read.only old.0 old.1 old.4 (more_ends c old.5) in
        (old.2, old.3 ∙ (ap (λ x. front_items ts (item x old.2)) same.0 ∙ sym (front_items-push ts t old.2)), rw same.1 at old.5);
  }

  pub items_none : HasNoTree Whole m → HasNoItems c i
  items_none none us s h = let old = here.back us s h in none old.0 old.1 old.4 (more_ends c old.5)

module _ (c : Closing) (i : List Terminal) (ts : List Expr) (m : List Terminal) (going : GoingItems c i ts m) where
  pub items_comma : (n : List Terminal) → m ≡ token.Mark sign.Comma ∷ n → (trails c ≡ true → IsNotNext (close_sign c) n) → AtItem c i ts n
  items_comma n place another = record {
    forth = λ t k us r d more. going.forth (item t us) r (rw place (comma d more));
    back = λ vs r h.
        let old = going.back vs r h in
        let step = comma_back c n another old.0 r (rw place at old.2) in
        (step.0, step.1, step.2, old.1 ∙ ap (front_items ts) step.3, step.4, step.5);
  }

  pub items_end : (r : List Terminal) → Ending c m r → ReadItems c i (items_of ts) r
  items_end r ending = record {
    spelled = rw (items_of-front ts) (going.forth no_items r (end ending));
    only = λ us s h.
        let old = going.back us s h in
        let e = ending_only c ending old.2 in
        (old.1 ∙ (ap (front_items ts) e.0 ∙ sym (items_of-front ts)), e.1);
  }

  pub items_wrong : IsNotNext (close_sign c) m → IsNotNext sign.Comma m → HasNoItems c i
  items_wrong no_close no_comma us s h = let old = going.back us s h in wrong_more c m no_close no_comma old.0 s old.2

-- entries

pub entry_read : (i : List Terminal) (k : Expr) (m : List Terminal) (v : Expr) (r : List Terminal) → Read Whole i k (token.Mark sign.Colon ∷ m) → Read Whole m v r → ReadEntry i k v r
entry_read i k m v r key value = record { colon = m; key = key; value = value }

pub entry_no_key : (i : List Terminal) → HasNoTreeBefore sign.Colon i → HasNoEntry i
entry_no_key i none k v m s key value ends = none k m key refl

pub entry_no_value : (i : List Terminal) (k : Expr) (m : List Terminal) → Read Whole i k (token.Mark sign.Colon ∷ m) → HasNoTree Whole m → HasNoEntry i
entry_no_value i k m read none j v n s key value ends =
    let same = read.only j (token.Mark sign.Colon ∷ n) key refl in
    let rest : n ≡ m = (let p = same.1 in cc) in
    none v s (rw rest at value) ends

entry_only : {i r : List Terminal} {k v : Expr} → ReadEntry i k v r → (j u : Expr) (m n : List Terminal) → Spells Whole i j (token.Mark sign.Colon ∷ m) → Spells Whole m u n → Ends Whole n → (j ≡ k) × (u ≡ v) × (n ≡ r)
entry_only read j u m n key value ends =
    let first = read.key.only j (token.Mark sign.Colon ∷ m) key refl in
    let rest : m ≡ read.colon = (let p = first.1 in cc) in
    let second = read.value.only u n (rw rest at value) ends in
    (first.0, second.0, second.1)

abbrev pub front_pairs : List (Expr × Expr) → Pairs → Pairs
front_pairs [] us = us
front_pairs (p ∷ ps) us = pair p.0 p.1 (front_pairs ps us)

front_pairs-push : (ps : List (Expr × Expr)) (p : Expr × Expr) (us : Pairs) → front_pairs (ps ++ p ∷ []) us ≡ front_pairs ps (pair p.0 p.1 us)
front_pairs-push [] p us = refl
front_pairs-push (x ∷ ps) p us = ap (pair x.0 x.1) (front_pairs-push ps p us)

pairs_of-front : (ps : List (Expr × Expr)) → pairs_of ps ≡ front_pairs ps no_pairs
pairs_of-front [] = refl
pairs_of-front (x ∷ ps) = ap (pair x.0 x.1) (pairs_of-front ps)

more_entries_ends : {m r : List Terminal} {us : Pairs} → MoreEntries m us r → Ends Whole m
more_entries_ends (end_entries close) = refl
more_entries_ends (end_entries (trailing e)) = refl
more_entries_ends (comma_entry k v more) = refl

entries_ending_only : {m r s : List Terminal} {us : Pairs} → Ending closing.Brace m r → MoreEntries m us s → (us ≡ no_pairs) × (s ≡ r)
entries_ending_only close (end_entries close) = (refl, refl)
entries_ending_only (trailing e) (end_entries (trailing f)) = (refl, refl)
entries_ending_only (trailing e) (comma_entry k v more) = absurd (whole_close k refl)

no_entry_only : {r s : List Terminal} {us : Pairs} → Entries (token.Mark sign.CloseBrace ∷ r) us s → (us ≡ no_pairs) × (s ≡ r)
no_entry_only no_entry = (refl, refl)
no_entry_only (entries k v more) = absurd (whole_close k refl)

pub entries_empty : (i r : List Terminal) → i ≡ token.Mark sign.CloseBrace ∷ r → ReadEntries i no_pairs r
entries_empty i r place = rw place (record { spelled = no_entry; only = λ us s h. no_entry_only h })

pub record GoingEntries (i : List Terminal) (ps : List (Expr × Expr)) (m : List Terminal) : Type 0 where
  pub forth : (us : Pairs) (r : List Terminal) → MoreEntries m us r → Entries i (front_pairs ps us) r
  pub back : (vs : Pairs) (r : List Terminal) → Entries i vs r → (us : Pairs) × (vs ≡ front_pairs ps us) × MoreEntries m us r

-- what stands where another entry is to be read
abbrev EntryAt : List Terminal → Expr → Expr → List Terminal → Type 0
EntryAt i k v n = (m : List Terminal) × Spells Whole i k (token.Mark sign.Colon ∷ m) × Spells Whole m v n

-- the entries ps are the front of the map at i, and another entry stands at m
pub record AtEntry (i : List Terminal) (ps : List (Expr × Expr)) (m : List Terminal) : Type 0 where
  pub forth : (k v : Expr) (n : List Terminal) (us : Pairs) (r : List Terminal) → EntryAt m k v n → MoreEntries n us r → Entries i (front_pairs ps (pair k v us)) r
  pub back : (vs : Pairs) (r : List Terminal) → Entries i vs r
      → (k : Expr) × (v : Expr) × (n : List Terminal) × (us : Pairs) × (vs ≡ front_pairs ps (pair k v us)) × EntryAt m k v n × MoreEntries n us r

first_entry_back : (i : List Terminal) → IsNotNext sign.CloseBrace i → (vs : Pairs) (r : List Terminal) → Entries i vs r
    → (k : Expr) × (v : Expr) × (n : List Terminal) × (us : Pairs) × (vs ≡ pair k v us) × EntryAt i k v n × MoreEntries n us r
first_entry_back i none vs r no_entry = absurd (none r refl)
first_entry_back i none vs r (entries {m = m} {n = n} {k = k} {v = v} {ps = us} key value more) = (k, v, n, us, refl, (m, key, value), more)

pub entries_first : (i : List Terminal) → IsNotNext sign.CloseBrace i → AtEntry i [] i
entries_first i none = record { forth = λ k v n us r d more. entries d.1 d.2 more; back = first_entry_back i none }

comma_entry_back : (i : List Terminal) → IsNotNext sign.CloseBrace i → (vs : Pairs) (r : List Terminal) → MoreEntries (token.Mark sign.Comma ∷ i) vs r
    → (k : Expr) × (v : Expr) × (n : List Terminal) × (us : Pairs) × (vs ≡ pair k v us) × EntryAt i k v n × MoreEntries n us r
comma_entry_back i another vs r (end_entries (trailing e)) = absurd (another r refl)
comma_entry_back i another vs r (comma_entry {m = m} {n = n} {k = k} {v = v} {ps = us} key value more) = (k, v, n, us, refl, (m, key, value), more)

wrong_more_entries : (m : List Terminal) → IsNotNext sign.CloseBrace m → IsNotNext sign.Comma m → (us : Pairs) (r : List Terminal) → MoreEntries m us r → ⊥
wrong_more_entries m no_close no_comma us r (end_entries close) = no_close r refl
wrong_more_entries m no_close no_comma us r (end_entries (trailing e)) = no_comma (token.Mark sign.CloseBrace ∷ r) refl
wrong_more_entries m no_close no_comma us r (comma_entry {i = n} key value more) = no_comma n refl

module _ (i : List Terminal) (ps : List (Expr × Expr)) (m : List Terminal) (here : AtEntry i ps m) where
  pub entries_read : (k v : Expr) (n : List Terminal) → ReadEntry m k v n → GoingEntries i (ps ++ (k, v) ∷ []) n
  entries_read k v n read = record {
    forth = λ us r more. rw (front_pairs-push ps (k, v) us) (here.forth k v n us r (read.colon, read.key.spelled, read.value.spelled) more);
    back = λ vs r h.
        let old = here.back vs r h in
        let same = entry_only read old.0 old.1 old.5.0 old.2 old.5.1 old.5.2 (more_entries_ends old.6) in
        let first = ap (λ x. front_pairs ps (pair x old.1 old.3)) same.0 in
        let second = ap (λ x. front_pairs ps (pair k x old.3)) same.1 in
        (old.3, old.4 ∙ (first ∙ (second ∙ sym (front_pairs-push ps (k, v) old.3))), rw same.2 at old.6);
  }

  pub entries_none : HasNoEntry m → HasNoEntries i
  entries_none none us s h = let old = here.back us s h in none old.0 old.1 old.5.0 old.2 old.5.1 old.5.2 (more_entries_ends old.6)

module _ (i : List Terminal) (ps : List (Expr × Expr)) (m : List Terminal) (going : GoingEntries i ps m) where
  pub entries_comma : (n : List Terminal) → m ≡ token.Mark sign.Comma ∷ n → (trails closing.Brace ≡ true → IsNotNext sign.CloseBrace n) → AtEntry i ps n
  entries_comma n place another = record {
    forth = λ k v l us r d more. going.forth (pair k v us) r (rw place (comma_entry d.1 d.2 more));
    back = λ vs r h.
        let old = going.back vs r h in
        let step = comma_entry_back n (another refl) old.0 r (rw place at old.2) in
        (step.0, step.1, step.2, step.3, old.1 ∙ ap (front_pairs ps) step.4, step.5, step.6);
  }

  pub entries_end : (r : List Terminal) → Ending closing.Brace m r → ReadEntries i (pairs_of ps) r
  entries_end r ending = record {
    spelled = rw (pairs_of-front ps) (going.forth no_pairs r (end_entries ending));
    only = λ us s h.
        let old = going.back us s h in
        let e = entries_ending_only ending old.2 in
        (old.1 ∙ (ap (front_pairs ps) e.0 ∙ sym (pairs_of-front ps)), e.1);
  }

  pub entries_wrong : IsNotNext sign.CloseBrace m → IsNotNext sign.Comma m → HasNoEntries i
  entries_wrong no_close no_comma us s h = let old = going.back us s h in wrong_more_entries m no_close no_comma old.0 s old.2
