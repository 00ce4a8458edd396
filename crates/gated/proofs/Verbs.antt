-- What is read of a command's arguments.
use Rattle.std.proofs.Common.{◌≡◌, ◌∙◌, sym, refl, ℕ, Bool, true, false, List, Option, Some, None, codes}
use Rattle.std.specs.Prelude.{option_map, Err, Ok, Result, Box}
use Rattle.std.specs.Box.{box_value}
use Rattle.std.specs.Str.Parse.{ParsesUnsigned}
use Rattle.clap.specs.Words.{Row, Text, ReadsOne, one_text, rows_of, subcommand_name_of, subcommand_rows, subcommand_rows_of}
use Rattle.clap.specs.declared.parser.matches.ArgMatches.{ArgMatches}
use Rattle.clap.specs.declared.parser.matches.ArgMatches.TheViews.{out-ArgMatches, out-SubCommand}
use Rattle.clap.specs.declared.parser.matches.Found.{Found}
use Rattle.clap.specs.declared.parser.matches.SubCommand.{SubCommand}
use Rattle.clap.proofs.WalkLemmas.{one_text-rows}
use Rattle.gated.specs.CommandLine.{HasNoNumber, HasNumber, IsFlag, MayHaveNumber}

-- a number that was read
pub number_read : (E : Type 0) (G : Text → Result ℕ E → Type 0) (k : ℕ) (f : Found) (name : Text) (r : Option ℕ) (n : ℕ)
    → (one_text f name ≡ None → r ≡ None) → ((t : Text) → one_text f name ≡ Some t → ReadsOne G t r)
    → ((u : Text) (x : Result ℕ E) → G u x → ParsesUnsigned k 10 u x) → r ≡ Some n → HasNumber name (rows_of f) n
number_read E G k f name r n none value only is = go (one_text f name) refl
  where
    go : (o : Option Text) → one_text f name ≡ o → HasNumber name (rows_of f) n
    go None e =
        let bad : Some n ≡ None = sym is ∙ none e in
        cc
    go (Some t) e =
        let read : ReadsOne G t (Some n) = rw is at value t e in
        (t, sym (one_text-rows f name) ∙ e, (only t (Ok n) read).1)

-- or none
pub no_number_read : (E : Type 0) (G : Text → Result ℕ E → Type 0) (f : Found) (name : Text) (r : Option ℕ) → ((t : Text) → one_text f name ≡ Some t → ReadsOne G t r)
    → ((u : Text) (x : Result ℕ E) → G u x → ParsesUnsigned 16 10 u x) → r ≡ None → HasNoNumber name (rows_of f)
no_number_read E G f name r value only is text stands =
    let read : ReadsOne G text None = rw is at value text (one_text-rows f name ∙ stands) in
    only text (Err read.0) read.1

-- one that may stand there
pub number_may_be_read : (E : Type 0) (G : Text → Result ℕ E → Type 0) (f : Found) (name : Text) (r : Option ℕ) → (one_text f name ≡ None → r ≡ None)
    → ((t : Text) → one_text f name ≡ Some t → ReadsOne G t r) → ((u : Text) (x : Result ℕ E) → G u x → ParsesUnsigned 16 10 u x) → MayHaveNumber name (rows_of f) r
number_may_be_read E G f name None none value only = no_number_read E G f name None value only refl
number_may_be_read E G f name (Some n) none value only = number_read E G 16 f name (Some n) n none value only refl

-- a flag that was read
pub flag_read : (f : Found) (name : Text) (r : Bool) → (one_text f name ≡ None → r ≡ false) → (one_text f name ≡ Some (codes "true") → r ≡ true)
    → (one_text f name ≡ Some (codes "false") → r ≡ false) → IsFlag name (rows_of f) r
flag_read f name r none given left_out = record {
  none = λ is. none (one_text-rows f name ∙ is);
  given = λ is. given (one_text-rows f name ∙ is);
  left_out = λ is. left_out (one_text-rows f name ∙ is);
}

-- the command that was entered, and its rows
entered : {Z : Type 0} (o : Option (Box SubCommand Z)) (name : Text) (rows : List Row)
    → Some name ≡ option_map (λ b. (out-SubCommand (box_value b)).name.now) o → Some rows ≡ option_map (λ p. p.1) (subcommand_rows o)
    → subcommand_rows o ≡ Some (name, rows)
entered None name rows is_name is_rows = cc
entered (Some b) name rows is_name is_rows = cc

pub entered_rows : (m : ArgMatches) (name : Text) (rows : List Row) → Some name ≡ subcommand_name_of m
    → Some rows ≡ option_map (λ p. p.1) (subcommand_rows (out-ArgMatches m).subcommand) → subcommand_rows_of m ≡ Some (name, rows)
entered_rows m name rows is_name is_rows = entered (out-ArgMatches m).subcommand name rows is_name is_rows
