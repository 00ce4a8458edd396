-- The tree that is read is no larger than its text, and the text is read as no other; a text that is refused is read as none.
use Rattle.std.proofs.Common.{rules, ◌+◌, ◌≤◌, length, IfOk, IfErr, chars}
use Rattle.std.proofs.lemmas.Result.{IfOk-weaker, IfErr-weaker}
use Rattle.celtokens.specs.Lexes.{Lexes, OneReading}
use Rattle.celtokens.specs.Seen.{terminals}
use Rattle.celread.specs.Reading.{IsReadAs, IsNotRead, IsReadAlone, IsNoParse, IsParseAlone, UnlessMemory}
use Rattle.celread.proofs.Alone.{read_alone, not_read}
use Rattle.celtree.specs.Size.{nodes, text_bytes}
use Rattle.celtree.specs.View.{view}
use Rattle.celread.proofs.Sizes.{read_size}
use Rattle.celread.proofs.reading.read.Goals as goal

pub returns-in-Some-clause-small : goal.returns-in-Some-clause-small
returns-in-Some-clause-small c =
    let s = c.args.text.now in
    let tree : IfOk c.parse.result (λ t. IsReadAs s (view t.value)) = search rules in
    IfOk-weaker c.parse.result (λ t. IsReadAs s (view t.value)) (λ t. nodes (view t.value) + text_bytes (view t.value) ≤ length s) (λ t h. read_size s (view t.value) c.utf8.text h) tree

pub returns-in-Some-clause-alone : goal.returns-in-Some-clause-alone
returns-in-Some-clause-alone c =
    let s = c.args.text.now in
    let ws = terminals c.in-Some.tokens.items in
    let one : OneReading = search rules in
    let lexed : Lexes (chars s) ws = search rules in
    let alone : IfOk c.parse.result (λ t. IsParseAlone ws (view t.value)) = search rules in
    IfOk-weaker c.parse.result (λ t. IsParseAlone ws (view t.value)) (λ t. IsReadAlone s (view t.value)) (λ t h. read_alone one s ws lexed (view t.value) h) alone

pub returns-in-Some-clause-none : goal.returns-in-Some-clause-none
returns-in-Some-clause-none c =
    let s = c.args.text.now in
    let ws = terminals c.in-Some.tokens.items in
    let one : OneReading = search rules in
    let lexed : Lexes (chars s) ws = search rules in
    let none : IfErr c.parse.result (λ e. UnlessMemory e (IsNoParse ws)) = search rules in
    IfErr-weaker c.parse.result (λ e. UnlessMemory e (IsNoParse ws)) (λ e. UnlessMemory e (IsNotRead s)) (λ e h. not_read one s ws lexed e h) none
