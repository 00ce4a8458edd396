-- A primary expression and its suffixes, from the left.
use Rattle.std.proofs.Common.{◌≡◌, ◌∙◌, ℕ, ◌⊎◌, inl, inr, Some, None, List, ◌∷◌, sym, refl}
use Rattle.std.proofs.lemmas.Option.{same_Some}
use Rattle.celtokens.specs.declared.sign.Sign.TheVariants as sign
use Rattle.celtokens.specs.Terminal.{Terminal}
use Rattle.celtokens.specs.Terminal as token
use Rattle.celtokens.specs.declared.closing.Closing.TheVariants as closing
use Rattle.celtree.specs.Tree.{Expr, Exprs, Field, Index}
use Rattle.celtree.specs.Calls.{method_of}
use Rattle.celtokens.specs.Operators.{selector}
use Rattle.celread.specs.Grammar.{Primary, Member, Whole, Suffixes, Spells, member, no_suffix, field, method, index, Items}
use Rattle.celread.specs.Ends.{Ends, Read, HasNoTree, HasNoTreeBefore, ReadPrimary, HasNoPrimary, ReadItems, HasNoItems}
use Rattle.celtokens.specs.Ahead.{IsNotNext, HasNoSelector}
use Rattle.celread.proofs.Ending.{ends_primary, no_suffix_next}

suffixes_ends : {e t : Expr} {m r : List Terminal} → Spells (Suffixes e) m t r → Ends Member r → Ends Primary m
suffixes_ends {r = r} no_suffix ends = ends_primary r ends
suffixes_ends (field is d) ends = refl
suffixes_ends (method is arguments tree d) ends = refl
suffixes_ends (index x d) ends = refl

-- the tokens i begin with a member whose left part is e, and m is left
pub record GoingMember (i : List Terminal) (e : Expr) (m : List Terminal) : Type 0 where
  pub forth : (t : Expr) (r : List Terminal) → Spells (Suffixes e) m t r → Spells Member i t r
  pub back : (t : Expr) (r : List Terminal) → Spells Member i t r → Ends Member r → Spells (Suffixes e) m t r

start_back : (i : List Terminal) (e : Expr) (m : List Terminal) → ReadPrimary i e m → (t : Expr) (r : List Terminal) → Spells Member i t r → Ends Member r → Spells (Suffixes e) m t r
start_back i e m read t r (member {m = n} {e = f} first d) ends =
    let same = read.only f n first (suffixes_ends d ends) in
    rw (same.0, same.1) at d

pub member_start : (i : List Terminal) (e : Expr) (m : List Terminal) → ReadPrimary i e m → GoingMember i e m
member_start i e m read = record { forth = λ t r d. member read.spelled d; back = start_back i e m read }

pub member_none : (i : List Terminal) → HasNoPrimary i → HasNoTree Member i
member_none i none u s (member {m = n} {e = f} first d) ends = none f n first (suffixes_ends d ends)

-- no tree goes on with an opening parenthesis
open_end : {e t : Expr} {n r : List Terminal} → Spells (Suffixes e) (token.Mark sign.OpenParenthesis ∷ n) t r → Ends Member r → ⊥
open_end no_suffix ends = cc

end_only : (e : Expr) (m : List Terminal) → IsNotNext sign.Dot m → IsNotNext sign.OpenBracket m → (u : Expr) (s : List Terminal) → Spells (Suffixes e) m u s → (u ≡ e) × (s ≡ m)
end_only e m dot bracket u s no_suffix = (refl, refl)
end_only e m dot bracket u s (field {w = w} {m = n} is d) = absurd (dot (w ∷ n) refl)
end_only e m dot bracket u s (method {w = w} {i = n} is arguments tree d) = absurd (dot (w ∷ token.Mark sign.OpenParenthesis ∷ n) refl)
end_only e m dot bracket u s (index {i = n} x d) = absurd (bracket n refl)

module _ (i : List Terminal) (e : Expr) (m : List Terminal) (going : GoingMember i e m) where
  module _ (w : Terminal) (f : List ℕ) (is : selector w ≡ Some f) where
    field_back : (n : List Terminal) → IsNotNext sign.OpenParenthesis n → (t : Expr) (r : List Terminal) → Spells (Suffixes e) (token.Mark sign.Dot ∷ w ∷ n) t r → Ends Member r → Spells (Suffixes (Field e f)) n t r
    field_back n none t r no_suffix ends = absurd (cc)
    field_back n none t r (field {f = g} other d) ends = let same : g ≡ f = same_Some g f (sym other ∙ is) in rw same at d
    field_back n none t r (method {i = k} other arguments tree d) ends = absurd (none k refl)

    pub member_field : (n : List Terminal) → m ≡ token.Mark sign.Dot ∷ w ∷ n → IsNotNext sign.OpenParenthesis n → GoingMember i (Field e f) n
    member_field n place none = record {
      forth = λ t r d. going.forth t r (rw place (field is d));
      back = λ t r d ends. field_back n none t r (rw place at (going.back t r d ends)) ends;
    }

    method_back : (n : List Terminal) (ts : Exprs) (u : Expr) (k : List Terminal) → ReadItems closing.Parenthesis n ts k → method_of e f ts ≡ Some u
        → (t : Expr) (r : List Terminal) → Spells (Suffixes e) (token.Mark sign.Dot ∷ w ∷ token.Mark sign.OpenParenthesis ∷ n) t r → Ends Member r → Spells (Suffixes u) k t r
    method_back n ts u k read tree t r no_suffix ends = absurd (cc)
    method_back n ts u k read tree t r (field other d) ends = absurd (open_end d ends)
    method_back n ts u k read tree t r (method {m = l} {u = v} {f = g} {ts = us} other arguments one d) ends =
        let name : g ≡ f = same_Some g f (sym other ∙ is) in
        let same = read.only us l arguments in
        let v_is : method_of e f ts ≡ Some v = rw (name, same.0) at one in
        let trees : v ≡ u = same_Some v u (sym v_is ∙ tree) in
        rw (trees, same.1) at d

    pub member_method : (n : List Terminal) (ts : Exprs) (u : Expr) (k : List Terminal) → m ≡ token.Mark sign.Dot ∷ w ∷ token.Mark sign.OpenParenthesis ∷ n
        → ReadItems closing.Parenthesis n ts k → method_of e f ts ≡ Some u → GoingMember i u k
    member_method n ts u k place read tree = record {
      forth = λ t r d. going.forth t r (rw place (method is read.spelled tree d));
      back = λ t r d ends. method_back n ts u k read tree t r (rw place at (going.back t r d ends)) ends;
    }

    no_method : (n : List Terminal) → ((ts : Exprs) (k : List Terminal) (u : Expr) → Items closing.Parenthesis n ts k → method_of e f ts ≡ Some u → ⊥)
        → (t : Expr) (r : List Terminal) → Spells (Suffixes e) (token.Mark sign.Dot ∷ w ∷ token.Mark sign.OpenParenthesis ∷ n) t r → Ends Member r → ⊥
    no_method n none t r no_suffix ends = cc
    no_method n none t r (field other d) ends = open_end d ends
    no_method n none t r (method {m = l} {u = v} {f = g} {ts = us} other arguments one d) ends =
        let name : g ≡ f = same_Some g f (sym other ∙ is) in
        none us l v arguments (rw name at one)

    pub member_no_arguments : (n : List Terminal) → m ≡ token.Mark sign.Dot ∷ w ∷ token.Mark sign.OpenParenthesis ∷ n → HasNoItems closing.Parenthesis n → HasNoTree Member i
    member_no_arguments n place none u s d ends = no_method n (λ ts k v arguments one. none ts k arguments) u s (rw place at (going.back u s d ends)) ends

    pub member_no_call : (n : List Terminal) (ts : Exprs) (k : List Terminal) → m ≡ token.Mark sign.Dot ∷ w ∷ token.Mark sign.OpenParenthesis ∷ n → ReadItems closing.Parenthesis n ts k
        → method_of e f ts ≡ None → HasNoTree Member i
    member_no_call n ts k place read none u s d ends =
        no_method n (λ us l v arguments one. let same = read.only us l arguments in let p = sym none ∙ (rw same.0 at one) in cc) u s (rw place at (going.back u s d ends)) ends

  index_back : (n : List Terminal) (x : Expr) (k : List Terminal) → Read Whole n x (token.Mark sign.CloseBracket ∷ k) → (t : Expr) (r : List Terminal) → Spells (Suffixes e) (token.Mark sign.OpenBracket ∷ n) t r → Ends Member r
      → Spells (Suffixes (Index e x)) k t r
  index_back n x k read t r no_suffix ends = absurd (cc)
  index_back n x k read t r (index {m = l} {x = y} inner d) ends =
      let same = read.only y (token.Mark sign.CloseBracket ∷ l) inner refl in
      let rest : l ≡ k = (let p = same.1 in cc) in
      rw (same.0, rest) at d

  pub member_index : (n : List Terminal) (x : Expr) (k : List Terminal) → m ≡ token.Mark sign.OpenBracket ∷ n → Read Whole n x (token.Mark sign.CloseBracket ∷ k) → GoingMember i (Index e x) k
  member_index n x k place read = record {
    forth = λ t r d. going.forth t r (rw place (index read.spelled d));
    back = λ t r d ends. index_back n x k read t r (rw place at (going.back t r d ends)) ends;
  }

  no_index : (n : List Terminal) → ((x : Expr) (l : List Terminal) → Spells Whole n x (token.Mark sign.CloseBracket ∷ l) → ⊥) → (t : Expr) (r : List Terminal) → Spells (Suffixes e) (token.Mark sign.OpenBracket ∷ n) t r → Ends Member r → ⊥
  no_index n none t r no_suffix ends = cc
  no_index n none t r (index {m = l} {x = y} inner d) ends = none y l inner

  pub member_no_index : (n : List Terminal) → m ≡ token.Mark sign.OpenBracket ∷ n → HasNoTreeBefore sign.CloseBracket n → HasNoTree Member i
  member_no_index n place none u s d ends = no_index n (λ x l inner. none x l inner refl) u s (rw place at (going.back u s d ends)) ends

  pub member_end : IsNotNext sign.Dot m → IsNotNext sign.OpenBracket m → IsNotNext sign.OpenParenthesis m → Read Member i e m
  member_end dot bracket open_one = record {
    spelled = going.forth e m no_suffix;
    ends = no_suffix_next m dot bracket open_one;
    only = λ u s d ends. end_only e m dot bracket u s (going.back u s d ends);
  }

  no_field : (n : List Terminal) → HasNoSelector n → (t : Expr) (r : List Terminal) → Spells (Suffixes e) (token.Mark sign.Dot ∷ n) t r → Ends Member r → ⊥
  no_field n none t r no_suffix ends = cc
  no_field n none t r (field {w = w} {m = k} is d) ends = let p = sym (none w k refl) ∙ is in cc
  no_field n none t r (method {w = w} {i = k} is arguments tree d) ends = let p = sym (none w (token.Mark sign.OpenParenthesis ∷ k) refl) ∙ is in cc

  pub member_wrong : (n : List Terminal) → (m ≡ token.Mark sign.OpenParenthesis ∷ n) ⊎ ((m ≡ token.Mark sign.Dot ∷ n) × HasNoSelector n) → HasNoTree Member i
  member_wrong n (inl place) u s d ends = open_end (rw place at (going.back u s d ends)) ends
  member_wrong n (inr place) u s d ends = no_field n place.1 u s (rw place.0 at (going.back u s d ends)) ends
