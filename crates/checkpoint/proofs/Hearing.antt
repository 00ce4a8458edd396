-- What becomes of a reader, step by step.
use Rattle.std.proofs.Common.{◌≡◌, refl, sym, ap, subst, ◌∙◌, ◌+◌, ◌<◌, ◌≤◌, ℕ, Bool, true, false, List, [], ◌∷◌, ◌++◌, length, get_or, take, drop, append_assoc}
use Rattle.std.proofs.lemmas.List.{take_more, take_all, drop_more, take-append-drop}
use Rattle.pages.specs.Page.{Entry}
use Rattle.checkpoint.specs.Reader.{IsRefused, Heard}

pub refused_more : {R : Type 0} (told : R → R → List Entry → Type 0) (refuses : R → Entry → Type 0) (start : R) (entries more : List Entry)
    → IsRefused told refuses start entries → IsRefused told refuses start (entries ++ more)
refused_more told refuses start entries more refused = record {
  before = refused.before;
  entry = refused.entry;
  after = refused.after ++ more;
  are = ap (λ (es : List Entry). es ++ more) refused.are ∙ append_assoc refused.before (refused.entry ∷ refused.after) more;
  reader = refused.reader;
  was_told = refused.was_told;
  refused = refused.refused;
}

pub refused_then : {R : Type 0} (told : R → R → List Entry → Type 0) (refuses : R → Entry → Type 0)
    → ((old mid new : R) (front back : List Entry) → told old mid front → told mid new back → told old new (front ++ back))
    → (start mid : R) (front back : List Entry) → told start mid front → IsRefused told refuses mid back → IsRefused told refuses start (front ++ back)
refused_then told refuses told_then start mid front back first refused = record {
  before = front ++ refused.before;
  entry = refused.entry;
  after = refused.after;
  are = ap (λ (es : List Entry). front ++ es) refused.are ∙ sym (append_assoc front refused.before (refused.entry ∷ refused.after));
  reader = refused.reader;
  was_told = told_then start mid refused.reader front refused.before first refused.was_told;
  refused = refused.refused;
}

-- what was heard, and then more, or nothing after a refusal
pub heard_then : {R : Type 0} (told : R → R → List Entry → Type 0) (refuses : R → Entry → Type 0)
    → ((old mid new : R) (front back : List Entry) → told old mid front → told mid new back → told old new (front ++ back))
    → (start mid new : R) (was now : Bool) (front back : List Entry) → Heard told refuses start mid front was
    → (was ≡ false → Heard told refuses mid new back now) → (was ≡ true → now ≡ true) → Heard told refuses start new (front ++ back) now
heard_then told refuses told_then start mid new true now front back heard more still =
    let Hears : Bool → Type 0 = λ b. Heard told refuses start new (front ++ back) b in
    subst Hears (sym (still refl)) (refused_more told refuses start front back heard)
heard_then told refuses told_then start mid new false true front back heard more still =
    refused_then told refuses told_then start mid front back heard (more refl)
heard_then told refuses told_then start mid new false false front back heard more still =
    told_then start mid new front back heard (more refl)

-- ---- along a page

module _ {R : Type 0} (told : R → R → List Entry → Type 0)
    (told_then : (old mid new : R) (front back : List Entry) → told old mid front → told mid new back → told old new (front ++ back)) where
  pub told_more : (start mid new : R) (page : List Entry) (i : ℕ) (key cell : List ℕ) → i < length page
      → ((d : Entry) → key ≡ (get_or page i d).0) → ((d : Entry) → cell ≡ (get_or page i d).1)
      → told start mid (take i page) → told mid new ((key, cell) ∷ []) → told start new (take (i + 1) page)
  told_more start mid new page i key cell inside key_is cell_is before here =
      let d : Entry = (key, cell) in
      let same : ◌≡◌ {A = Entry} (key, cell) (get_or page i d) = λ j. (key_is d j, cell_is d j) in
      let Told : List Entry → Type 0 = λ es. told start new es in
      subst Told (ap (λ (e : Entry). take i page ++ e ∷ []) same ∙ sym (take_more page i d inside))
      (told_then start mid new (take i page) ((key, cell) ∷ []) before here)

pub told_all : {R : Type 0} (told : R → R → List Entry → Type 0) (start now : R) (page : List Entry) (n : ℕ) → length page ≤ n
    → told start now (take n page) → told start now page
told_all told start now page n all before = let Told : List Entry → Type 0 = λ es. told start now es in subst Told (take_all n page all) before

pub refused_at : {R : Type 0} (told : R → R → List Entry → Type 0) (refuses : R → Entry → Type 0) (start mid : R) (page : List Entry) (i : ℕ)
    (key cell : List ℕ) → i < length page → ((d : Entry) → key ≡ (get_or page i d).0) → ((d : Entry) → cell ≡ (get_or page i d).1)
    → told start mid (take i page) → refuses mid (key, cell) → IsRefused told refuses start page
refused_at told refuses start mid page i key cell inside key_is cell_is before refused =
    let d : Entry = (key, cell) in
    let same : ◌≡◌ {A = Entry} (get_or page i d) (key, cell) = λ j. (sym (key_is d) j, sym (cell_is d) j) in
    record {
      before = take i page;
      entry = (key, cell);
      after = drop (i + 1) page;
      are = sym (take-append-drop i page) ∙ ap (λ (es : List Entry). take i page ++ es) (drop_more page i d inside)
          ∙ ap (λ (e : Entry). take i page ++ e ∷ drop (i + 1) page) same;
      reader = mid;
      was_told = before;
      refused = refused;
    }
