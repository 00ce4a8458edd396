-- What is kept of FILE are whole words, whatever else the words are.
use Rattle.std.proofs.Common.{◌≡◌, ◌∙◌, ◌++◌, ◌&&◌, sym, refl, subst, ap, cond, not, fold, find, ℕ, zero, suc, Bool, true, false, List, [], ◌∷◌, drop, length, Option, Some, None, is_some, codes, Contains}
use Rattle.std.specs.Prelude.{⊤, ◌+◌, min, option_and_then, option_map, encode_utf8, slice_get}
use Rattle.std.specs.Option.{option_map_or}
use Rattle.std.specs.Str.{bytes_eq, chars}
use Rattle.std.proofs.lemmas.Slice.Eq.{bytes_eq-Decides}
use Rattle.std.proofs.lemmas.List.Elements.{Contains-append_left, Contains-append_right, Contains-push}
use Rattle.clap.specs.Lexer.{long_of, short_of}
use Rattle.clap.specs.Walk.{Text, Rule, Row, Held, Names, Outcome, done, waits, plain, refused, Waiting, idle, option, positional, Step, next, trailing, subcommand, value, Walk}
use Rattle.clap.specs.Walk.{action_of, reading_by, has_long, has_short, takes_values, takes_several, at_row, without, more_values, with_values, new_count, with_count, used_as, used, used_by_id, values_or_missing, count_of}
use Rattle.clap.specs.Walk.{settled_rows, settled, reacted, started, pushed, option_met, flag_met, long_met, short_met, attached_value, bundle_step, bundle_met, bundle}
use Rattle.clap.specs.Walk.{arg_by_id, arg_by_long, arg_by_short, arg_by_index, option_word, plain_word, after_flag, short_or_plain, long_or_other, subcommand_or_other, subcommand_met, word_met}
use Rattle.clap.specs.Walk.{is_pending, positional_held, to_positional, after_step, walked_from, walked, walk_from, walk, has_row, default_rows, with_default, nothing_held, rows_after, first_of, answers_to}
use Rattle.clap.specs.Simple.{App, Shape, built, entered, label_of, names_of, rows_at, subcommand_of}
use Rattle.clap.specs.declared.builder.action.ArgAction.{ArgAction}
use Rattle.clap.specs.declared.builder.action.ArgAction.TheVariants.{Set, Append, SetTrue, SetFalse, Count, Help, HelpShort, HelpLong, Version}
use Rattle.clap.specs.declared.builder.value_parser.Reading.{Reading}
use Rattle.clap.specs.declared.parser.matches.ValueSource.{ValueSource}
use Rattle.clap.specs.declared.parser.matches.ValueSource.TheVariants.{DefaultValue, CommandLine}
use Rattle.clap.proofs.WalkLemmas.{both}
use Rattle.gated.specs.CommandLine.{AskFor, file_of, gated_line}
use Rattle.gated.specs.declared.command.Verb.{Verb}
use Rattle.gated.specs.declared.command.Verb.TheVariants.{Create, Replay, Serve, Compact, Upgrade, Check}

-- W are the words, and f is the id of an argument that takes whole words alone
module _ (W : List Text) (f : Text) where
  abbrev AllIn : List Text → Type 0
  AllIn [] = ⊤
  AllIn (t ∷ ts) = Contains W t × AllIn ts

  abbrev FineRow : Row → Type 0
  FineRow r = bytes_eq r.id f ≡ true → AllIn r.values

  abbrev Fine : List Row → Type 0
  Fine [] = ⊤
  Fine (r ∷ rs) = FineRow r × Fine rs

  abbrev FinePending : Option (Text × List Text) → Type 0
  FinePending None = ⊤
  FinePending (Some p) = bytes_eq p.0 f ≡ true → AllIn p.1

  abbrev FineHeld : Held → Type 0
  FineHeld h = Fine h.rows × FinePending h.pending

  abbrev FineStop : Option (Text × List Text) → Type 0
  FineStop None = ⊤
  FineStop (Some p) = AllIn p.1

  abbrev FineWalk : Walk → Type 0
  FineWalk w = FineHeld w.held × FineStop w.stopped

  -- an argument with that id has no flag, and no values but those of the words
  abbrev IsBare : Rule → Type 0
  IsBare a = bytes_eq a.id f ≡ true
      → (action_of a ≡ Set) × (a.missing ≡ []) × (a.defaults ≡ []) × ((name : Text) → has_long a name ≡ false) × ((c : ℕ) → has_short a c ≡ false)

  abbrev AreBare : List Rule → Type 0
  AreBare [] = ⊤
  AreBare (a ∷ rest) = IsBare a × AreBare rest

  abbrev IsOther : Rule → Type 0
  IsOther a = bytes_eq a.id f ≡ true → ⊥

  all_in-append : (xs ys : List Text) → AllIn xs → AllIn ys → AllIn (xs ++ ys)
  all_in-append [] ys h k = k
  all_in-append (x ∷ xs) ys h k = (h.0, all_in-append xs ys h.1 k)

  fine-append : (rs ss : List Row) → Fine rs → Fine ss → Fine (rs ++ ss)
  fine-append [] ss h k = k
  fine-append (r ∷ rs) ss h k = (h.0, fine-append rs ss h.1 k)

  same_id : (a b : Text) → bytes_eq a b ≡ true → bytes_eq a f ≡ true → bytes_eq b f ≡ true
  same_id a b same is = subst (λ (t : Text). bytes_eq t f ≡ true) ((bytes_eq-Decides a b).0 same) is

  -- ---- rows

  fine-at_row : (id : Text) (change : Row → List Row) (missing rows : List Row) → ((r : Row) → bytes_eq r.id id ≡ true → FineRow r → Fine (change r))
      → Fine missing → Fine rows → Fine (at_row id change missing rows)
  fine-at_row id change missing [] changed m h = m
  fine-at_row id change missing (r ∷ rs) changed m h = go (bytes_eq r.id id) refl (fine-at_row id change missing rs changed m h.1)
    where
      go : (b : Bool) → bytes_eq r.id id ≡ b → Fine (at_row id change missing rs) → Fine (cond b (change r ++ rs) (r ∷ at_row id change missing rs))
      go true e after = fine-append (change r) rs (changed r e h.0) h.1
      go false e after = (h.0, after)

  fine-without : (id : Text) (rows : List Row) → Fine rows → Fine (without id rows)
  fine-without id rows h = fine-at_row id (λ _. []) [] rows (λ r e k. tt) tt h

  fine-with_values : (id : Text) (how : Reading) (s : ValueSource) (values : List Text) (rows : List Row) → (bytes_eq id f ≡ true → AllIn values)
      → Fine rows → Fine (with_values id how s values rows)
  fine-with_values id how s values rows given h =
      fine-at_row id (more_values s values) _ rows
      (λ r e k. ((λ is. all_in-append r.values values (k is) (given (same_id r.id id e is))), tt)) (given, tt) h

  fine-with_count : (id : Text) (how : Reading) (s : ValueSource) (n : ℕ) (rows : List Row) → (bytes_eq id f ≡ true → ⊥) → Fine rows
      → Fine (with_count id how s n rows)
  fine-with_count id how s n rows other h =
      fine-at_row id (new_count s n) _ rows (λ r e k. ((λ is. absurd (other (same_id r.id id e is))), tt)) ((λ is. absurd (other is)), tt) h

  -- ---- one use

  count_is_other : Count ≡ Set → ⊥
  count_is_other e = cc

  fine-used_as : (x : ArgAction) (id : Text) (how : Reading) (values : List Text) (rows : List Row)
      → (bytes_eq id f ≡ true → (x ≡ Set) × AllIn values) → Fine rows → Fine (used_as x id how values rows)
  fine-used_as Set id how values rows given h = fine-with_values id how CommandLine values (without id rows) (λ is. (given is).1) (fine-without id rows h)
  fine-used_as SetTrue id how values rows given h = fine-with_values id how CommandLine values (without id rows) (λ is. (given is).1) (fine-without id rows h)
  fine-used_as SetFalse id how values rows given h = fine-with_values id how CommandLine values (without id rows) (λ is. (given is).1) (fine-without id rows h)
  fine-used_as Append id how values rows given h = fine-with_values id how CommandLine values rows (λ is. (given is).1) h
  fine-used_as Count id how [] rows given h = fine-with_count id how CommandLine (min (count_of id rows + 1) 255) (without id rows) (λ is. count_is_other (given is).0) (fine-without id rows h)
  fine-used_as Count id how (v ∷ vs) rows given h =
      fine-with_values id how CommandLine (v ∷ vs) (without id rows) (λ is. (given is).1) (fine-without id rows h)
  fine-used_as Help id how values rows given h = h
  fine-used_as HelpShort id how values rows given h = h
  fine-used_as HelpLong id how values rows given h = h
  fine-used_as Version id how values rows given h = h

  fine-used : (a : Rule) (values : List Text) (rows : List Row) → IsBare a → (bytes_eq a.id f ≡ true → AllIn values) → Fine rows → Fine (used a values rows)
  fine-used a values rows bare given h =
      fine-used_as (action_of a) a.id (reading_by a) (values_or_missing a values) rows (λ is. ((bare is).0, missing values (given is) (bare is).1)) h
    where
      missing : (vs : List Text) → AllIn vs → a.missing ≡ [] → AllIn (values_or_missing a vs)
      missing [] all none = rw none tt
      missing (v ∷ vs) all none = all

  -- ---- arguments that are found

  abbrev FineFound : (Rule → Bool) → Option Rule → Type 0
  FineFound p None = ⊤
  FineFound p (Some a) = IsBare a × (p a ≡ true)

  fine-find : (p : Rule → Bool) (c : List Rule) → AreBare c → FineFound p (find p c)
  fine-find p [] h = tt
  fine-find p (a ∷ rest) h = go (p a) refl (fine-find p rest h.1)
    where
      go : (b : Bool) → p a ≡ b → FineFound p (find p rest) → FineFound p (cond b (Some a) (find p rest))
      go true e after = (h.0, e)
      go false e after = after

  long_is_other : (a : Rule) (name : Text) → IsBare a → (not (is_some a.index) && has_long a name) ≡ true → IsOther a
  long_is_other a name bare found is =
      let bad : false ≡ true = sym ((bare is).3 name) ∙ (both (not (is_some a.index)) (has_long a name) found).1 in
      cc

  short_is_other : (a : Rule) (x : ℕ) → IsBare a → (not (is_some a.index) && has_short a x) ≡ true → IsOther a
  short_is_other a x bare found is =
      let bad : false ≡ true = sym ((bare is).4 x) ∙ (both (not (is_some a.index)) (has_short a x) found).1 in
      cc

  fine-used_by_id : (o : Option Rule) (id : Text) (values : List Text) (rows : List Row) → FineFound (λ a. bytes_eq a.id id) o
      → (bytes_eq id f ≡ true → AllIn values) → Fine rows → Fine (used_by_id o values rows)
  fine-used_by_id None id values rows found given h = h
  fine-used_by_id (Some a) id values rows found given h = fine-used a values rows found.0 (λ is. given (same_id a.id id found.1 is)) h

  -- ---- the words, for a command's arguments

  module _ (c : List Rule) (bare : AreBare c) where
    fine-settled_rows : (p : Option (Text × List Text)) (rows : List Row) → FinePending p → Fine rows → Fine (settled_rows c p rows)
    fine-settled_rows None rows pends h = h
    fine-settled_rows (Some p) rows pends h = fine-used_by_id (arg_by_id c p.0) p.0 p.1 rows (fine-find (λ a. bytes_eq a.id p.0) c bare) pends h

    fine-settled : (h : Held) → FineHeld h → FineHeld (settled c h)
    fine-settled h fine = (fine-settled_rows h.pending h.rows fine.1 fine.0, tt)

    fine-reacted : (a : Rule) (values : List Text) (h : Held) → IsBare a → (bytes_eq a.id f ≡ true → AllIn values) → FineHeld h → FineHeld (reacted c a values h)
    fine-reacted a values h is_bare given fine = (fine-used a values (settled c h).rows is_bare given (fine-settled h fine).0, tt)

    fine-pushed : (id word : Text) (h : Held) → Contains W word → FineHeld h → FineHeld (pushed id word h)
    fine-pushed id word h one fine = (fine.0, more h.pending fine.1)
      where
        more : (p : Option (Text × List Text)) → FinePending p → FinePending (Some ((started id p).0, (started id p).1 ++ word ∷ []))
        more None pends = λ _. (one, tt)
        more (Some p) pends = λ is. all_in-append p.1 (word ∷ []) (pends is) (one, tt)

    fine-option_met : (a : Rule) (v : Option Text) (h : Held) → IsBare a → IsOther a → FineHeld h → FineHeld (option_met c a v h).0
    fine-option_met a (Some v) h is_bare other fine = fine-reacted a (v ∷ []) h is_bare (λ is. absurd (other is)) fine
    fine-option_met a None h is_bare other fine = ((fine-settled h fine).0, λ is. tt)

    fine-flag_met : (a : Rule) (v : Option Text) (h : Held) → IsBare a → FineHeld h → FineHeld (flag_met c a v h).0
    fine-flag_met a (Some v) h is_bare fine = fine
    fine-flag_met a None h is_bare fine = fine-reacted a [] h is_bare (λ is. tt) fine

    fine-long_met : (name : Text) (o : Option Rule) (v : Option Text) (h : Held) → FineFound (λ a. not (is_some a.index) && has_long a name) o → FineHeld h
        → FineHeld (long_met c o v h).0
    fine-long_met name None v h found fine = fine
    fine-long_met name (Some a) v h found fine = go (takes_values a)
      where
        go : (b : Bool) → FineHeld (cond b (option_met c a v h) (flag_met c a v h)).0
        go true = fine-option_met a v h found.0 (long_is_other a name found.0 found.1) fine
        go false = fine-flag_met a v h found.0 fine

    fine-short_met : (x : ℕ) (o : Option Rule) (rest : Text) (h : Held) (onward : Held → Held × Outcome)
        → FineFound (λ a. not (is_some a.index) && has_short a x) o → ((k : Held) → FineHeld k → FineHeld (onward k).0) → FineHeld h
        → FineHeld (short_met c o rest h onward).0
    fine-short_met x None rest h onward found later fine = fine
    fine-short_met x (Some a) rest h onward found later fine = go (takes_values a)
      where
        go : (b : Bool) → FineHeld (cond b (option_met c a (attached_value rest) h) (onward (reacted c a [] h))).0
        go true = fine-option_met a (attached_value rest) h found.0 (short_is_other a x found.0 found.1) fine
        go false = later (reacted c a [] h) (fine-reacted a [] h found.0 (λ is. tt) fine)

    fine-bundle_step : (o : Option ℕ) (flags : Text) (skip : ℕ) (so_far : Outcome) (h : Held) (onward : Text → ℕ → Outcome → Held → Held × Outcome)
        → ((rest : Text) (n : ℕ) (out : Outcome) (k : Held) → FineHeld k → FineHeld (onward rest n out k).0) → FineHeld h
        → FineHeld (bundle_step c o flags skip so_far h onward).0
    fine-bundle_step None flags skip so_far h onward later fine = fine
    fine-bundle_step (Some x) flags zero so_far h onward later fine =
        let rest : Text = drop (length (encode_utf8 x)) flags in
        fine-short_met x (arg_by_short c x) rest h (onward rest 0 done) (fine-find (λ a. not (is_some a.index) && has_short a x) c bare) (λ k. later rest 0 done k) fine
    fine-bundle_step (Some x) flags (suc skip) so_far h onward later fine = later (drop (length (encode_utf8 x)) flags) skip so_far h fine

    fine-bundle_met : (k : ℕ) (flags : Text) (skip : ℕ) (so_far : Outcome) (h : Held) → FineHeld h → FineHeld (bundle_met c k flags skip so_far h).0
    unfolding bundle_met
    fine-bundle_met zero flags skip so_far h fine = fine
    fine-bundle_met (suc k) flags skip so_far h fine =
        fine-bundle_step (slice_get (chars flags) 0) flags skip so_far h (bundle_met c k) (λ rest n out held is. fine-bundle_met k rest n out held is) fine

    fine-option_word : (o : Option Rule) (id word : Text) (h : Held) → Contains W word → FineHeld h → FineHeld (option_word o id word h).0
    fine-option_word None id word h one fine = fine
    fine-option_word (Some a) id word h one fine = fine-pushed id word h one fine

    fine-plain_word : (waiting : Waiting) (word : Text) (h : Held) → Contains W word → FineHeld h → FineHeld (plain_word c waiting word h).0
    fine-plain_word idle word h one fine = fine
    fine-plain_word (option id) word h one fine = fine-option_word (arg_by_id c id) id word h one fine
    fine-plain_word positional word h one fine = fine

    fine-after_flag : (waiting : Waiting) (word : Text) (h : Held) (o : Outcome) → Contains W word → FineHeld h → FineHeld (after_flag c waiting word h o).0
    fine-after_flag waiting word h done one fine = fine
    fine-after_flag waiting word h (waits id) one fine = fine
    fine-after_flag waiting word h plain one fine = fine-plain_word waiting word h one fine
    fine-after_flag waiting word h refused one fine = fine-plain_word waiting word h one fine

    fine-short_or_plain : (waiting : Waiting) (word : Text) (o : Option Text) (h : Held) → Contains W word → FineHeld h
        → FineHeld (short_or_plain c waiting word o h).0
    fine-short_or_plain waiting word (Some flags) h one fine =
        fine-after_flag waiting word (bundle c flags h).0 (bundle c flags h).1 one (fine-bundle_met (length flags) flags h.skip plain (record h { skip = 0 }) fine)
    fine-short_or_plain waiting word None h one fine = fine-plain_word waiting word h one fine

    fine-long_or_other : (waiting : Waiting) (word : Text) (o : Option (Text × Option Text)) (h : Held) → Contains W word → FineHeld h
        → FineHeld (long_or_other c waiting word o h).0
    fine-long_or_other waiting word (Some p) h one fine =
        fine-after_flag waiting word (long_met c (arg_by_long c p.0) p.1 h).0 (long_met c (arg_by_long c p.0) p.1 h).1 one
        (fine-long_met p.0 (arg_by_long c p.0) p.1 h (fine-find (λ a. not (is_some a.index) && has_long a p.0) c bare) fine)
    fine-long_or_other waiting word None h one fine = fine-short_or_plain waiting word (short_of word) h one fine

    fine-subcommand_or_other : (o : Option Text) (waiting : Waiting) (position : ℕ) (word : Text) (h : Held) → Contains W word → FineHeld h
        → FineHeld (subcommand_or_other c o waiting position word h).0
    fine-subcommand_or_other (Some name) waiting position word h one fine = fine
    fine-subcommand_or_other None waiting position word h one fine = go (bytes_eq word (45 ∷ 45 ∷ []))
      where
        go : (b : Bool) → FineHeld (cond b (h, trailing position) (long_or_other c waiting word (long_of word) h)).0
        go true = fine
        go false = fine-long_or_other waiting word (long_of word) h one fine

    fine-word_met : (names : Names) (is_trailing : Bool) (waiting : Waiting) (position : ℕ) (word : Text) (h : Held) → Contains W word → FineHeld h
        → FineHeld (word_met c names is_trailing waiting position word h).0
    fine-word_met names true waiting position word h one fine = fine
    fine-word_met names false waiting position word h one fine =
        fine-subcommand_or_other (subcommand_met names waiting word) waiting position word h one fine

    fine-positional_held : (a : Rule) (word : Text) (h : Held) → Contains W word → FineHeld h → FineHeld (positional_held c a word h)
    fine-positional_held a word h one fine = fine-pushed a.id word (cond (is_pending a h.pending && takes_several a) h (settled c h)) one (go (is_pending a h.pending && takes_several a))
      where
        go : (b : Bool) → FineHeld (cond b h (settled c h))
        go true = fine
        go false = fine-settled h fine

    fine-to_positional : (o : Option Rule) (word : Text) (w : Walk) (h : Held) → Contains W word → FineHeld h → FineStop w.stopped
        → FineWalk (to_positional c o word w h)
    fine-to_positional None word w h one fine stop = (fine, stop)
    fine-to_positional (Some a) word w h one fine stop = (fine-positional_held a word h one fine, tt)

    fine-after_step : (word : Text) (w : Walk) (h : Held) (step : Step) → Contains W word → FineHeld h → FineStop w.stopped → FineWalk (after_step c word w h step)
    fine-after_step word w h (next waiting) one fine stop = (fine, stop)
    fine-after_step word w h (trailing position) one fine stop = (fine, stop)
    fine-after_step word w h (subcommand name) one fine stop = (fine, tt)
    fine-after_step word w h value one fine stop = fine-to_positional (arg_by_index c w.position) word w h one fine stop

    fine-walked_from : (names : Names) (o : Option (Text × List Text)) (w : Walk) (word : Text) → Contains W word → FineStop o → FineWalk w
        → FineWalk (walked_from c names o w word)
    fine-walked_from names (Some p) w word one stop fine = (fine.0, all_in-append p.1 (word ∷ []) stop (one, tt))
    fine-walked_from names None w word one stop fine =
        let met : Held × Step = word_met c names w.is_trailing w.waiting w.position word w.held in
        fine-after_step word w met.0 met.1 one (fine-word_met names w.is_trailing w.waiting w.position word w.held one fine.0) fine.1

    fine-walked : (names : Names) (w : Walk) (word : Text) → Contains W word → FineWalk w → FineWalk (walked c names w word)
    unfolding walked
    fine-walked names w word one fine = fine-walked_from names w.stopped w word one fine.1 fine

    fine-words : (names : Names) (words : List Text) (w : Walk) → AllIn words → FineWalk w → FineWalk (fold (walked c names) w words)
    fine-words names [] w all fine = fine
    fine-words names (word ∷ words) w all fine = fine-words names words (walked c names w word) all.1 (fine-walked names w word all.0 fine)

    fine-walk : (names : Names) (words : List Text) → AllIn words → FineWalk (walk c names nothing_held words)
    fine-walk names words all = fine-words names words (walk_from nothing_held) all ((tt, tt), tt)

  -- ---- defaults, and what is read

  fine-with_default : (rows : List Row) (a : Rule) → IsBare a → Fine rows → Fine (with_default rows a)
  fine-with_default rows a bare h = go (has_row a.id rows)
    where
      defaults : (ds : List Text) → (bytes_eq a.id f ≡ true → AllIn ds) → Fine (default_rows a.id (reading_by a) ds rows)
      defaults [] given = h
      defaults (v ∷ vs) given = fine-with_values a.id (reading_by a) DefaultValue (v ∷ vs) rows given h

      go : (b : Bool) → Fine (cond b rows (default_rows a.id (reading_by a) a.defaults rows))
      go true = h
      go false = defaults a.defaults (λ is. rw ((bare is).2) tt)

  fine-defaults : (c : List Rule) (rows : List Row) → AreBare c → Fine rows → Fine (fold with_default rows c)
  fine-defaults [] rows bare h = h
  fine-defaults (a ∷ rest) rows bare h = fine-defaults rest (with_default rows a) bare.1 (fine-with_default rows a bare.0 h)

  fine-rows_after : (c : List Rule) (names : Names) (words : List Text) → AreBare c → AllIn words → Fine (rows_after c names words)
  fine-rows_after c names words bare all =
      let end : Held = (walk c names nothing_held words).held in
      fine-defaults c (settled c end).rows bare (fine-settled c bare end (fine-walk c bare names words all).0).0

  fine-first_of : (rows : List Row) (t : Text) → Fine rows → first_of f rows ≡ Some t → Contains W t
  fine-first_of [] t h is = cc
  fine-first_of (r ∷ rs) t h is = go (bytes_eq r.id f) refl (λ e. fine-first_of rs t h.1 e) is
    where
      head : (vs : List Text) → AllIn vs → slice_get vs 0 ≡ Some t → Contains W t
      head [] all e = cc
      head (v ∷ vs) all e =
          let same : v ≡ t = cc in
          subst (λ (x : Text). Contains W x) same all.0

      go : (b : Bool) → bytes_eq r.id f ≡ b → (first_of f rs ≡ Some t → Contains W t) → option_and_then (λ (x : Row). slice_get x.values 0) (cond b (Some r) (find (λ (x : Row). bytes_eq x.id f) rs)) ≡ Some t
          → Contains W t
      go true e after e2 = head r.values (h.0 e) e2
      go false e after e2 = after e2

  -- ---- subcommands

  abbrev HaveBare : List Shape → Type 0
  HaveBare [] = ⊤
  HaveBare (s ∷ rest) = AreBare s.rules × HaveBare rest

  fine-entered_at : (name : Text) (words : List Text) (subs : List Shape) → HaveBare subs → AllIn words → (shown : Text) (rows : List Row)
      → option_map (λ s. rows_at s words) (find (λ s. answers_to name (label_of s)) subs) ≡ Some (shown, rows) → Fine rows
  fine-entered_at name words [] bare all shown rows is = cc
  fine-entered_at name words (s ∷ rest) bare all shown rows is = go (answers_to name (label_of s)) (λ e. fine-entered_at name words rest bare.1 all shown rows e) is
    where
      go : (b : Bool) → (option_map (λ s. rows_at s words) (find (λ s. answers_to name (label_of s)) rest) ≡ Some (shown, rows) → Fine rows)
          → option_map (λ s. rows_at s words) (cond b (Some s) (find (λ s. answers_to name (label_of s)) rest)) ≡ Some (shown, rows) → Fine rows
      go true after e =
          let same : rows_after s.rules [] words ≡ rows = ap (λ (o : Option (Text × List Row)). option_map_or (λ p. p.1) o []) e in
          subst (λ (x : List Row). Fine x) same (fine-rows_after s.rules [] words bare.0 all)
      go false after e = after e

  fine-entered : (a : App) (stop : Option (Text × List Text)) → HaveBare a.subs → FineStop stop → (shown : Text) (rows : List Row)
      → entered a stop ≡ Some (shown, rows) → Fine rows
  fine-entered a None bare fine shown rows is = cc
  fine-entered a (Some p) bare fine shown rows is = fine-entered_at p.0 p.1 a.subs bare fine shown rows is

-- ---- the line of the program

all_in-more : (w : Text) (W ts : List Text) (f : Text) → AllIn W f ts → AllIn (w ∷ W) f ts
all_in-more w W [] f all = tt
all_in-more w W (t ∷ ts) f all = (Contains-append_right (w ∷ []) W t all.0, all_in-more w W ts f all.1)

all_in-self : (W : List Text) (f : Text) → AllIn W f W
all_in-self [] f = tt
all_in-self (w ∷ W) f = (Contains-append_left (w ∷ []) W w (Contains-push [] w), all_in-more w W W f (all_in-self W f))

arguments_in : (W : List Text) (f : Text) → AllIn W f (drop 1 W)
arguments_in [] f = tt
arguments_in (w ∷ W) f = all_in-more w W W f (all_in-self W f)

top_is_bare : (W : List Text) → AreBare W (codes "file") (built gated_line).top.rules
unfolding gated_line
top_is_bare W = ((λ is. cc), ((λ is. cc), tt))

subs_are_bare : (W : List Text) → HaveBare W (codes "file") (built gated_line).subs
unfolding gated_line
subs_are_bare W = (
  ((λ is. (refl, refl, refl, (λ name. refl), (λ x. refl))), ((λ is. cc), ((λ is. cc), tt))),
  (
    ((λ is. (refl, refl, refl, (λ name. refl), (λ x. refl))), ((λ is. cc), tt)),
    (
      ((λ is. (refl, refl, refl, (λ name. refl), (λ x. refl))), ((λ is. cc), ((λ is. cc), ((λ is. cc), ((λ is. cc), ((λ is. cc), ((λ is. cc), ((λ is. cc), ((λ is. cc), tt))))))))),
      (
        ((λ is. (refl, refl, refl, (λ name. refl), (λ x. refl))), ((λ is. cc), tt)),
        (
          ((λ is. (refl, refl, refl, (λ name. refl), (λ x. refl))), ((λ is. cc), tt)),
          (((λ is. (refl, refl, refl, (λ name. refl), (λ x. refl))), ((λ is. cc), tt)), (((λ is. cc), tt), tt)),
        ),
      ),
    ),
  ),
)

rows_are_fine : (words : List Text) (name : Text) (rows : List Row) → subcommand_of gated_line words ≡ Some (name, rows) → Fine words (codes "file") rows
unfolding gated_line
rows_are_fine words name rows is =
    fine-entered words (codes "file") (built gated_line) _ (subs_are_bare words)
    (fine-walk words (codes "file") (built gated_line).top.rules (top_is_bare words) (names_of (built gated_line)) (drop 1 words) (arguments_in words (codes "file"))).1
    name rows is

pub file_in_words : (words : List Text) (verb : Verb) → AskFor words verb → Contains words (file_of verb)
file_in_words words verb asked = go verb asked
  where
    fine : (name : Text) (rows : List Row) (t : Text) → subcommand_of gated_line words ≡ Some (name, rows) → first_of (codes "file") rows ≡ Some t → Contains words t
    fine name rows t is first = fine-first_of words (codes "file") rows t (rows_are_fine words name rows is) first

    go : (v : Verb) → AskFor words v → Contains words (file_of v)
    go (Create file format) a = fine a.0 a.1 file.now a.2 a.3.1
    go (Replay file) a = fine a.0 a.1 file.now a.2 a.3.1
    go (Serve file address serving idle_seconds is_logged) a = fine a.0 a.1 file.now a.2 a.3.1
    go (Compact file) a = fine a.0 a.1 file.now a.2 a.3.1
    go (Upgrade file) a = fine a.0 a.1 file.now a.2 a.3.1
    go (Check file) a = fine a.0 a.1 file.now a.2 a.3.1
