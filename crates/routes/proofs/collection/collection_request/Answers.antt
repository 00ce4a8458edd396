use Rattle.std.proofs.Common.{◌≡◌, ap, sym, ◌∙◌, Some, option_map}
use Rattle.routes.specs.Path.{query_of}
use Rattle.routes.specs.Query.{pairs_of, question_of}
use Rattle.routes.specs.QuestionOf.{question_seen}
use Rattle.routes.proofs.collection.collection_request.Goals as goal

pub returns-in-Some : goal.returns-in-Some
returns-in-Some c =
    let spelled : question_of (pairs_of (query_of c.args.message.now.target)) ≡ Some (question_seen c.in-Some.question) =
    ap (λ query. question_of (pairs_of query)) (sym c.requires) ∙ sym c.in_ok-question.ensures ∙ ap (option_map question_seen) c.in-Some.is
    in rw spelled c.asked_by.ensures
