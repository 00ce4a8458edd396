use Rattle.celtokens.proofs.Lexemes.{comment_longest, two_longest, one_longest, no_sign_lexeme}
use Rattle.celtokens.proofs.lexeme.comment_or_sign.Goals as goal

pub returns-in-Some : goal.returns-in-Some
returns-in-Some c = rw c.split_run.ensures.rest (comment_longest c.args.chars.now c.in-Some.comment.now c.requires c.in-Some.ensures)

pub returns-in-Some-sign_of_two : goal.returns-in-Some-sign_of_two
returns-in-Some-sign_of_two c = two_longest c.args.chars.now c.in-Some-sign_of_two.rest.now c.in-Some-sign_of_two.sign c.requires c.in-Some-sign_of_two.ensures

pub returns-in-Some-sign_of_one : goal.returns-in-Some-sign_of_one
returns-in-Some-sign_of_one c =
    one_longest c.args.chars.now c.in-Some-sign_of_one.rest.now c.in-Some-sign_of_one.sign c.requires c.in-None.ensures c.in-None-sign_of_two.ensures c.in-Some-sign_of_one.ensures

pub returns-in-None-sign_of_one : goal.returns-in-None-sign_of_one
returns-in-None-sign_of_one c = no_sign_lexeme c.args.chars.now c.requires c.in-None.ensures c.in-None-sign_of_two.ensures c.in-None-sign_of_one.ensures
