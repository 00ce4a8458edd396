-- Runs of writes.
use Rattle.std.proofs.Common.{◌≡◌, ℕ, ◌+◌, ◌<◌, List, [], ◌∷◌, ◌++◌, length, take, drop, refl, sym, ap, ◌∙◌, append_assoc, subst, suc, get_or, Result, Ok, Err}
use Rattle.std.specs.List.{flat_map}
use Rattle.std.proofs.Math.Seq.{drop-cons}
use Rattle.std.proofs.lemmas.Grind.{flat_map-append}
use Rattle.std.proofs.lemmas.List.Concat.{flat_map-cons}
use Rattle.std.proofs.lemmas.List.{take-append-drop, append-nil, take_more}
use Rattle.httpmsg.specs.Flow.{TookSome, Writes}

-- the front of the bytes is written, and the rest is not
pub record HasTaken {S : Type 0} (took : S → S → List ℕ → Type 0) (old now : S) (bytes rest : List ℕ) : Type 0 where
  pub front : List ℕ
  pub split : bytes ≡ front ++ rest
  pub taken : took old now front

module _ {S : Type 0} (took : S → S → List ℕ → Type 0)
    (took_none : (s : S) → took s s [])
    (took_then : (old mid new : S) (front back : List ℕ) → took old mid front → took mid new back → took old new (front ++ back)) where
  -- nothing yet
  pub taken_none : (s : S) (bytes : List ℕ) → HasTaken took s s bytes bytes
  taken_none s bytes = record { front = []; split = refl; taken = took_none s }

  -- a front of the rest
  pub taken_more : (old mid new : S) (bytes rest : List ℕ) (n : ℕ) → HasTaken took old mid bytes rest → took mid new (take n rest)
      → HasTaken took old new bytes (drop n rest)
  taken_more old mid new bytes rest n has more = record {
    front = has.front ++ take n rest;
    split = has.split ∙ ap (λ x. has.front ++ x) (sym (take-append-drop n rest)) ∙ sym (append_assoc has.front (take n rest) (drop n rest));
    taken = took_then old mid new has.front (take n rest) has.taken more;
  }

  -- no rest
  pub taken_all : (old new : S) (bytes rest : List ℕ) → HasTaken took old new bytes rest → rest ≡ [] → took old new bytes
  taken_all old new bytes rest has none =
      let Took : List ℕ → Type 0 = λ x. took old new x in
      subst Took (sym (has.split ∙ ap (λ x. has.front ++ x) none ∙ append-nil has.front)) has.taken

  -- a call that took nothing more
  pub taken_some : (old mid new : S) (bytes rest : List ℕ) → HasTaken took old mid bytes rest → took mid new [] → TookSome took old new bytes
  taken_some old mid new bytes rest has nothing =
      let Took : List ℕ → Type 0 = λ x. took old new x in
      record {
        front = has.front;
        rest = rest;
        split = has.split;
        taken = subst Took (append-nil has.front) (took_then old mid new has.front [] has.taken nothing);
      }

  -- some bytes, and then a beginning of others
  pub some_then : (old mid new : S) (xs ys zs whole : List ℕ) → took old mid xs → TookSome took mid new ys → whole ≡ xs ++ (ys ++ zs)
      → TookSome took old new whole
  some_then old mid new xs ys zs whole first some is = record {
    front = xs ++ some.front;
    rest = some.rest ++ zs;
    split = is ∙ ap (λ w. xs ++ (w ++ zs)) some.split ∙ ap (λ w. xs ++ w) (append_assoc some.front some.rest zs)
        ∙ sym (append_assoc xs some.front (some.rest ++ zs));
    taken = took_then old mid new xs some.front first some.taken;
  }

  -- some bytes, and then what a call wrote
  pub writes_then : {T E : Type 0} (old mid new : S) (xs ys : List ℕ) (r : Result T E) → took old mid xs → Writes took mid new ys r
      → Writes took old new (xs ++ ys) r
  writes_then old mid new xs ys (Ok x) first second = took_then old mid new xs ys first second
  writes_then old mid new xs ys (Err e) first second =
      some_then old mid new xs ys [] (xs ++ ys) first second (ap (λ w. xs ++ w) (sym (append-nil ys)))

  pieces_at : {A : Type 0} (f : A → List ℕ) (ps : List A) (i : ℕ) (d : A) → i < length ps
      → flat_map f ps ≡ flat_map f (take i ps) ++ (f (get_or ps i d) ++ flat_map f (drop (suc i) ps))
  pieces_at f ps i d below =
      ap (flat_map f) (sym (take-append-drop i ps)) ∙ flat_map-append f (take i ps) (drop i ps)
      ∙ ap (λ w. flat_map f (take i ps) ++ flat_map f w) (drop-cons ps i d below)
      ∙ ap (λ w. flat_map f (take i ps) ++ w) (flat_map-cons f (get_or ps i d) (drop (suc i) ps))

  -- some pieces, and then a beginning of the next
  pub piece_some : {A : Type 0} (f : A → List ℕ) (ps : List A) (i : ℕ) (d : A) (old mid new : S) → i < length ps
      → took old mid (flat_map f (take i ps)) → TookSome took mid new (f (get_or ps i d)) → TookSome took old new (flat_map f ps)
  piece_some f ps i d old mid new below first some =
      some_then old mid new (flat_map f (take i ps)) (f (get_or ps i d)) (flat_map f (drop (suc i) ps)) (flat_map f ps) first some (pieces_at f ps i d below)

  -- some pieces, and then the next
  pub piece_more : {A : Type 0} (f : A → List ℕ) (ps : List A) (i : ℕ) (d : A) (old mid new : S) → i < length ps
      → took old mid (flat_map f (take i ps)) → took mid new (f (get_or ps i d)) → took old new (flat_map f (take (i + 1) ps))
  piece_more f ps i d old mid new below first next =
      let Took : List ℕ → Type 0 = λ w. took old new w in
      let more : flat_map f (take (i + 1) ps) ≡ flat_map f (take i ps) ++ f (get_or ps i d) =
      ap (flat_map f) (take_more ps i d below) ∙ flat_map-append f (take i ps) (get_or ps i d ∷ [])
      ∙ ap (λ w. flat_map f (take i ps) ++ w) (flat_map-cons f (get_or ps i d) [] ∙ append-nil (f (get_or ps i d)))
      in
      subst Took (sym more) (took_then old mid new (flat_map f (take i ps)) (f (get_or ps i d)) first next)

  -- the same bytes, written another way
  pub writes_as : {T E : Type 0} (old new : S) (xs ys : List ℕ) (r : Result T E) → xs ≡ ys → Writes took old new xs r → Writes took old new ys r
  writes_as old new xs ys r same writes =
      let Written : List ℕ → Type 0 = λ w. Writes took old new w r in subst Written same writes

  -- a beginning of the first bytes
  pub some_front : (old new : S) (xs zs whole : List ℕ) → TookSome took old new xs → whole ≡ xs ++ zs → TookSome took old new whole
  some_front old new xs zs whole some is = some_then old old new [] xs zs whole (took_none old) some is
