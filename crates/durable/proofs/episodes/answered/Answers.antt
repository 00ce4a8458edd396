use Rattle.std.proofs.Common.{◌∙◌, sym, ap, subst, map, List, true≢false}
use Rattle.requests.specs.Request.{Request}
use Rattle.requests.specs.RequestOf.{request_of}
use Rattle.histories.specs.View.{view}
use Rattle.durable.specs.Settled.{added, HasServed, HasStopped}
use Rattle.durable.proofs.Answering.{on_err, settled_serves}
use Rattle.durable.proofs.Driving.{episode_leaves, episode_stands}
use Rattle.durable.proofs.episodes.answered.Goals as goal

pub returns-then-is_memory-clause-memory : goal.returns-then-is_memory-clause-memory
returns-then-is_memory-clause-memory c rules h settled =
    let served = c.run-replies.ensures.memory (c.is_memory.ensures.0 c.if-is_memory.true) in
    (added rules h served.asked, (served.settled rules h (c.stop_on.ensures.settled rules h settled)).settled.read)

pub returns-in_err-compact_where-clause-memory : goal.returns-in_err-compact_where-clause-memory
returns-in_err-compact_where-clause-memory c rules h settled =
    let opened = c.stop_on.ensures.settled rules h settled in
    let given = c.run-replies.result.0.items in
    let Served : List Request → Type 0 = λ rs. HasServed c.stop_on.new.self c.run-replies.new.self rs given in
    let Stopped : List Request → Type 0 = λ rs. HasStopped c.stop_on.new.self c.run-replies.new.self rs given in
    on_err c.from_residual.result
    (episode_stands rules c.stop_on.new.self c.run-replies.new.self c.compact_where.new.store h c.args.episode.now
    (record { revision = c.revision-revision.result; replies = c.run-replies.result.0 }) opened (λ x. c.compact_where.ensures.held rules x) c.compact_where.ensures.stopped
    c.run-replies.result.1 (λ is. true≢false (sym (c.is_memory.ensures.1 is) ∙ c.if-is_memory.false))
    (λ damage is. c.run-replies.ensures.damaged damage is rules (view rules h) (settled_serves rules c.stop_on.new.self h opened)) (c.run-replies.ensures.refusal opened.working)
    (λ none. subst Served (ap (map request_of) c.deref.ensures.value) (c.run-replies.ensures.all none))
    (λ device. subst Stopped (ap (map request_of) c.deref.ensures.value) (c.run-replies.ensures.device device)))

pub returns-clause-lived : goal.returns-clause-lived
returns-clause-lived c rules h settled content left =
    let opened = c.stop_on.ensures.settled rules h settled in
    let given = c.run-replies.result.0.items in
    let Served : List Request → Type 0 = λ rs. HasServed c.stop_on.new.self c.run-replies.new.self rs given in
    let Stopped : List Request → Type 0 = λ rs. HasStopped c.stop_on.new.self c.run-replies.new.self rs given in
    episode_leaves rules c.stop_on.new.self c.run-replies.new.self c.compact_where.new.store h c.args.episode.now
    (record { revision = c.revision-revision.result; replies = c.run-replies.result.0 }) opened (λ x. c.compact_where.ensures.held rules x) c.compact_where.ensures.stopped
    (c.revision-revision.ensures.shown rules (view rules h) (settled_serves rules c.stop_on.new.self h opened)) content left
    c.run-replies.result.1 (λ is. true≢false (sym (c.is_memory.ensures.1 is) ∙ c.if-is_memory.false))
    (λ damage is. c.run-replies.ensures.damaged damage is rules (view rules h) (settled_serves rules c.stop_on.new.self h opened)) (c.run-replies.ensures.refusal opened.working)
    (λ none. subst Served (ap (map request_of) c.deref.ensures.value) (c.run-replies.ensures.all none))
    (λ device. subst Stopped (ap (map request_of) c.deref.ensures.value) (c.run-replies.ensures.device device))
