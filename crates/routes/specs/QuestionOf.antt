-- The question that the code's enum stands for.
use Rattle.requests.specs.Selector.{selector_seen}
use Rattle.routes.specs.declared.query.Question as code
use Rattle.routes.specs.declared.query.Question.TheVariants.{Objects, Events}
use Rattle.routes.specs.Query.{Question, objects, events}

abbrev pub question_seen : code.Question → Question
question_seen (Objects selector) = objects (selector_seen selector)
question_seen (Events revision) = events revision
