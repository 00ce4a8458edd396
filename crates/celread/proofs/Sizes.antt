-- A tree is no larger than the tokens that spell it weigh, and so no larger than its text.
use Rattle.std.proofs.Common.{◌≡◌, ℕ, ◌+◌, ◌≤◌, ◌^◌, Bool, true, false, List, ◌∷◌, length, Option, Some, None, option_map, ap, arith, codes, bytes_eq, chars, IsUtf8, encode_utf8_all, if◌then◌else◌}
use Rattle.std.specs.Prelude.{nat_lt, pos}
use Rattle.std.proofs.lemmas.Option.{same_Some, cond_some}
use Rattle.std.proofs.lemmas.Str.{encodes-chars}
use Rattle.celtokens.specs.declared.sign.Sign.TheVariants as sign
use Rattle.celtokens.specs.declared.closing.Closing.{Closing}
use Rattle.celtokens.specs.Terminal.{Terminal}
use Rattle.celtokens.specs.Terminal as token
use Rattle.celtree.specs.declared.tree.Macro.{Macro}
use Rattle.celtree.specs.declared.tree.Macro.TheVariants as macro_of
use Rattle.celtree.specs.declared.tree.Prefix.{Prefix}
use Rattle.celtree.specs.declared.tree.Prefix.TheVariants as prefix_of
use Rattle.celtree.specs.Tree.{Expr, Null, Truth, Int, Uint, Text, Field, Has, Call, Method, Over, Exprs, no_items, item, Pairs}
use Rattle.celtree.specs.Calls.{macro_named, selection, variable, has_of, macro_of_three, macro_over, unless_macro, method_or_macro, call_of, method_of}
use Rattle.celtokens.specs.Operators.{begins_with_int, after_prefix, selector}
use Rattle.celtokens.specs.Literal.{literal_of, Literal, one_token, negative_int}
use Rattle.celtokens.specs.Closing.{Ending, close, trailing}
use Rattle.celread.specs.Grammar as grammar
use Rattle.celread.specs.Grammar.{Level, Suffixes, Chain, Spells, Items, MoreItems, Entries, MoreEntries}
use Rattle.celread.specs.Reading.{IsReadAs}
use Rattle.celtree.specs.Size.{nodes, nodes_of_items, nodes_of_pairs, text_bytes, text_bytes_of_items, text_bytes_of_pairs}
use Rattle.celread.proofs.Weights.{bytes_are, weight, weights, lexed_weights}

-- the nodes of a tree, and the bytes of its string literals and field names
abbrev size : Expr → ℕ
size t = nodes t + text_bytes t

abbrev items_size : Exprs → ℕ
items_size ts = nodes_of_items ts + text_bytes_of_items ts

abbrev pairs_size : Pairs → ℕ
pairs_size ps = nodes_of_pairs ps + text_bytes_of_pairs ps

-- `has(e.f)` is as large as `e.f`
selection_size : (e t : Expr) → selection e ≡ Some t → size t ≤ size e
selection_size (Field e f) t h = let same = same_Some (Has e f) t h in omega (arith, ap nodes same, ap text_bytes same)
selection_size _ t h = absurd (cc)

has_size : (ts : Exprs) (t : Expr) → has_of ts ≡ Some t → size t ≤ items_size ts
has_size no_items t h = absurd (cc)
has_size (item e no_items) t h = let le = selection_size e t h in omega arith
has_size (item e (item u ts)) t h = absurd (cc)

-- the name of a macro's variable counts for nothing
with_variable_size : (o : Option (List ℕ)) (make : List ℕ → Expr) (n : ℕ) (t : Expr) → ((x : List ℕ) → size (make x) ≤ n) → option_map make o ≡ Some t → size t ≤ n
with_variable_size None make n t small h = absurd (cc)
with_variable_size (Some x) make n t small h =
    let same = same_Some (make x) t h in
    let le = small x in
    omega (arith, ap nodes same, ap text_bytes same)

-- a macro with three arguments has two nodes, and the dot and the bracket before the arguments pay for both
three_size : (m : Macro) (e v p t u : Expr) → macro_of_three m e v p t ≡ Some u → size u ≤ 2 + size e + size p + size t
three_size macro_of.Map e v p t u h = with_variable_size (variable v) (λ x. Over macro_of.Map (Over macro_of.Filter e x p) x t) (2 + size e + size p + size t) u (λ x. omega arith) h
three_size _ e v p t u h = absurd (cc)

macro_size : (m : Macro) (e : Expr) (ts : Exprs) (u : Expr) → macro_over m e ts ≡ Some u → size u ≤ 2 + size e + items_size ts
macro_size m e no_items u h = absurd (cc)
macro_size m e (item v no_items) u h = absurd (cc)
macro_size m e (item v (item p no_items)) u h = with_variable_size (variable v) (λ x. Over m e x p) (2 + size e + items_size (item v (item p no_items))) u (λ x. omega arith) h
macro_size m e (item v (item p (item t no_items))) u h = let le = three_size m e v p t u h in omega arith
macro_size m e (item v (item p (item t (item s ts)))) u h = absurd (cc)

unless_macro_size : (m : Option Macro) (f : List ℕ) (ts : Exprs) (t : Expr) → unless_macro m (Some (Call f ts)) ≡ Some t → size t ≤ 1 + items_size ts
unless_macro_size None f ts t h = let same = same_Some (Call f ts) t h in omega (arith, ap nodes same, ap text_bytes same)
unless_macro_size (Some m) f ts t h = absurd (cc)

call_size_at : (b : Bool) (f : List ℕ) (ts : Exprs) (t : Expr) → (if b then has_of ts else unless_macro (macro_named f) (Some (Call f ts))) ≡ Some t → size t ≤ 1 + items_size ts
call_size_at true f ts t h = let le = has_size ts t h in omega arith
call_size_at false f ts t h = unless_macro_size (macro_named f) f ts t h

call_size : (f : List ℕ) (ts : Exprs) (t : Expr) → call_of f ts ≡ Some t → size t ≤ 1 + items_size ts
call_size f ts t h = call_size_at (bytes_eq f (codes "has")) f ts t h

plain_method_size : (b : Bool) (e : Expr) (f : List ℕ) (ts : Exprs) (u : Expr) → (if b then None else Some (Method e f ts)) ≡ Some u → size u ≤ 2 + size e + items_size ts
plain_method_size true e f ts u h = absurd (cc)
plain_method_size false e f ts u h = let same = same_Some (Method e f ts) u h in omega (arith, ap nodes same, ap text_bytes same)

method_or_macro_size : (m : Option Macro) (e : Expr) (f : List ℕ) (ts : Exprs) (u : Expr) → method_or_macro m e f ts ≡ Some u → size u ≤ 2 + size e + items_size ts
method_or_macro_size None e f ts u h = plain_method_size (bytes_eq f (codes "has")) e f ts u h
method_or_macro_size (Some m) e f ts u h = macro_size m e ts u h

method_size : (e : Expr) (f : List ℕ) (ts : Exprs) (u : Expr) → method_of e f ts ≡ Some u → size u ≤ 2 + size e + items_size ts
method_size e f ts u h = method_or_macro_size (macro_named f) e f ts u h

-- each token pays for a node
weight_least : (w : Terminal) → 1 ≤ weight w
weight_least (token.Ident x) = omega arith
weight_least (token.Reserved x) = omega arith
weight_least (token.Quoted t) = omega arith
weight_least _ = omega arith

int_size : (b : Bool) (n : ℕ) (t : Expr) → (if b then Some (Int (pos n)) else None) ≡ Some t → size t ≤ 1
int_size b n t h = let same = (cond_some b (Int (pos n)) t h).1 in omega (arith, ap nodes same, ap text_bytes same)

uint_size : (b : Bool) (n : ℕ) (t : Expr) → (if b then Some (Uint n) else None) ≡ Some t → size t ≤ 1
uint_size b n t h = let same = (cond_some b (Uint n) t h).1 in omega (arith, ap nodes same, ap text_bytes same)

one_token_size : (w : Terminal) (t : Expr) → literal_of w ≡ Some t → size t ≤ weight w
one_token_size (token.Int n) t h = int_size (nat_lt n (2 ^ 63)) n t h
one_token_size (token.Uint n) t h = uint_size (nat_lt n (2 ^ 64)) n t h
one_token_size (token.Quoted s) t h = let same = same_Some (Text (encode_utf8_all s)) t h in omega (arith, ap nodes same, ap text_bytes same, bytes_are s)
one_token_size token.True t h = let same = same_Some (Truth true) t h in omega (arith, ap nodes same, ap text_bytes same)
one_token_size token.False t h = let same = same_Some (Truth false) t h in omega (arith, ap nodes same, ap text_bytes same)
one_token_size token.Null t h = let same = same_Some Null t h in omega (arith, ap nodes same, ap text_bytes same)
one_token_size _ t h = absurd (cc)

literal_size : {i r : List Terminal} {t : Expr} → Literal i t r → size t + weights r ≤ weights i
literal_size (one_token {w = w} {r = r} {t = t} e) = let le = one_token_size w t e in omega arith
literal_size (negative_int le) = omega arith

-- a field's name and the dot before it weigh as much as the field's node and its name's bytes
selector_weight : (w : Terminal) (f : List ℕ) → selector w ≡ Some f → (length f ≤ weight w) × (1 ≤ weight w)
selector_weight (token.Ident x) f h = let same = same_Some (encode_utf8_all x) f h in (omega (arith, ap length same, bytes_are x), omega arith)
selector_weight (token.Reserved x) f h = let same = same_Some (encode_utf8_all x) f h in (omega (arith, ap length same, bytes_are x), omega arith)
selector_weight _ f h = absurd (cc)

prefix_weight_at : (b : Bool) (i m : List Terminal) → (if b then None else Some i) ≡ Some m → weights m ≤ weights i
prefix_weight_at true i m h = absurd (cc)
prefix_weight_at false i m h = let same = same_Some i m h in omega (arith, ap weights same)

prefix_weight : (p : Prefix) (i m : List Terminal) → after_prefix p i ≡ Some m → 1 + weights m ≤ weights i
prefix_weight prefix_of.Not (token.Mark sign.Bang ∷ i) m h = let same = same_Some i m h in omega (arith, ap weights same)
prefix_weight prefix_of.Negate (token.Mark sign.Minus ∷ i) m h = let le = prefix_weight_at (begins_with_int i) i m h in omega arith
prefix_weight _ _ m h = absurd (cc)

ending_weight : {c : Closing} {i r : List Terminal} → Ending c i r → weights r ≤ weights i
ending_weight close = omega arith
ending_weight (trailing e) = omega arith

-- the tree on the left of what a level spells
abbrev left_size : Level → ℕ
left_size (Suffixes e) = size e
left_size (Chain h a) = size a
left_size _ = 0

-- what is spelled is no larger than the tokens weigh that spell it
mutual
  spelled_size : {l : Level} {i : List Terminal} {t : Expr} {r : List Terminal} → Spells l i t r → size t + weights r ≤ left_size l + weights i
  spelled_size (grammar.literal d) = let le = literal_size d in omega arith
  spelled_size grammar.name = omega arith
  spelled_size (grammar.call {x = x} {ts = ts} {t = t} items is) =
      let le = items_spelled_size items in
      let of = call_size (encode_utf8_all x) ts t is in
      omega arith
  spelled_size (grammar.brackets d) = let le = spelled_size d in omega arith
  spelled_size (grammar.list d) = let le = items_spelled_size d in omega arith
  spelled_size (grammar.map d) = let le = entries_spelled_size d in omega arith
  spelled_size (grammar.member d suffixes) = let le = spelled_size d in let more = spelled_size suffixes in omega arith
  spelled_size grammar.no_suffix = omega arith
  spelled_size (grammar.field {w = w} {f = f} is suffixes) = let le = selector_weight w f is in let more = spelled_size suffixes in omega arith
  spelled_size (grammar.method {w = w} {e = e} {u = u} {f = f} {ts = ts} is items made suffixes) =
      let one = (selector_weight w f is).1 in
      let le = items_spelled_size items in
      let of = method_size e f ts u made in
      let more = spelled_size suffixes in
      omega arith
  spelled_size (grammar.index d suffixes) = let le = spelled_size d in let more = spelled_size suffixes in omega arith
  spelled_size (grammar.plain d) = let le = spelled_size d in omega arith
  spelled_size (grammar.prefixed {p = p} {i = i} {m = m} is d) = let one = prefix_weight p i m is in let le = spelled_size d in omega arith
  spelled_size (grammar.bare d) = let le = spelled_size d in omega arith
  spelled_size (grammar.again {p = p} {i = i} {m = m} is d) = let one = prefix_weight p i m is in let le = spelled_size d in omega arith
  spelled_size (grammar.operand d chain) = let le = spelled_size d in let more = spelled_size chain in omega arith
  spelled_size grammar.last = omega arith
  spelled_size (grammar.infixed {w = w} is d chain) =
      let one = weight_least w in
      let le = spelled_size d in
      let more = spelled_size chain in
      omega arith
  spelled_size (grammar.simple d) = let le = spelled_size d in omega arith
  spelled_size (grammar.conditional c a b) =
      let test = spelled_size c in
      let first = spelled_size a in
      let second = spelled_size b in
      omega arith

  items_spelled_size : {c : _} {i : List Terminal} {ts : Exprs} {r : List Terminal} → Items c i ts r → items_size ts + weights r ≤ weights i
  items_spelled_size grammar.empty = omega arith
  items_spelled_size (grammar.some d rest) = let le = spelled_size d in let more = more_items_size rest in omega arith

  more_items_size : {c : _} {i : List Terminal} {ts : Exprs} {r : List Terminal} → MoreItems c i ts r → items_size ts + weights r ≤ weights i
  more_items_size (grammar.end ending) = let le = ending_weight ending in omega arith
  more_items_size (grammar.comma d rest) = let le = spelled_size d in let more = more_items_size rest in omega arith

  entries_spelled_size : {i : List Terminal} {ps : Pairs} {r : List Terminal} → Entries i ps r → pairs_size ps + weights r ≤ weights i
  entries_spelled_size grammar.no_entry = omega arith
  entries_spelled_size (grammar.entries k v rest) =
      let key = spelled_size k in
      let value = spelled_size v in
      let more = more_entries_size rest in
      omega arith

  more_entries_size : {i : List Terminal} {ps : Pairs} {r : List Terminal} → MoreEntries i ps r → pairs_size ps + weights r ≤ weights i
  more_entries_size (grammar.end_entries ending) = let le = ending_weight ending in omega arith
  more_entries_size (grammar.comma_entry k v rest) =
      let key = spelled_size k in
      let value = spelled_size v in
      let more = more_entries_size rest in
      omega arith

-- a tree has no more nodes and bytes of strings and field names than its text has bytes
pub read_size : (s : List ℕ) (t : Expr) → IsUtf8 s → IsReadAs s t → nodes t + text_bytes t ≤ length s
read_size s t utf8 h =
    let spelled = spelled_size h.parsed.spelled in
    let lexed = lexed_weights h.lexed in
    omega (arith, bytes_are (chars s), ap length (encodes-chars s utf8))
