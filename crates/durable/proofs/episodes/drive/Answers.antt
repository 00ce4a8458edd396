use Rattle.std.proofs.Common.{arith, ◌∙◌, sym, ap, subst, ◌+◌, ◌++◌, ◌∷◌, [], List, length, take}
use Rattle.std.proofs.lemmas.List.{append-nil, append_assoc, length-append, take_all}
use Rattle.std.proofs.lemmas.Grind.{take_at_read}
use Rattle.device.specs.Memory.{memory_content}
use Rattle.decoded.specs.Standing.{History}
use Rattle.durable.specs.declared.episodes.Episode.{Episode}
use Rattle.durable.specs.declared.episodes.Found.{Found}
use Rattle.durable.specs.Stands.{StandsFor}
use Rattle.durable.proofs.Driving.{LivesTo, one_more, whole_life, lives_further}
use Rattle.durable.proofs.episodes.drive.Goals as goal

pub returns-in-Err-clause-left_err : goal.returns-in-Err-clause-left_err
returns-in-Err-clause-left_err c rules h stands =
    let At : History → Type 0 = λ x. StandsFor rules (memory_content c.args.device) x in
    ([], subst At (sym (append-nil h)) stands)

pub returns-in-Err-live-clause-refusal : goal.returns-in-Err-live-clause-refusal
returns-in-Err-live-clause-refusal c rules h stands =
    let before = c.loop-episode.invariant.3 rules h stands in
    c.in-Err-live.ensures.refusal rules before.0 before.2

pub returns-in-Err-live-clause-left_err : goal.returns-in-Err-live-clause-left_err
returns-in-Err-live-clause-left_err c rules h stands =
    let before = c.loop-episode.invariant.3 rules h stands in
    let left = c.in-Err-live.ensures.left_err rules before.0 before.2 in
    let further = lives_further rules h before.0 (take c.loop-episode.episode-index c.args.episodes.now) c.loop-episode.found.items before.1 in
    let At : History → Type 0 = λ x. StandsFor rules (memory_content c.in-Err-live.failed.1) x in
    (further.0 ++ left.0, subst At (ap (λ (x : History). x ++ left.0) further.1 ∙ append_assoc h further.0 left.0) left.1)

pub loop-episode-preserved : goal.loop-episode-preserved
loop-episode-preserved c =
    let i = c.loop-episode.episode-index in
    let es = c.args.episodes.now in
    let e = c.episode-item.result in
    let found = c.loop-episode.found.items in (
      omega (arith, c.loop-episode.invariant.0, ap length c.push_reserved.ensures.items, length-append found (c.in-Ok-live.one ∷ [])),
      omega (arith, c.loop-episode.invariant.1, c.push_reserved.ensures.capacity),
      omega (arith, c.loop-episode.invariant.2, c.in-Ok-live.ensures.count),
      (λ rules h stands.
          let before = c.loop-episode.invariant.3 rules h stands in
          let lived = c.in-Ok-live.ensures.lived rules before.0 before.2 in
          let Found' : List Found → Type 0 = λ fs. LivesTo rules h (take (i + 1) es) fs (before.0 ++ lived.lasting) in
          let Done : List Episode → Type 0 = λ xs. LivesTo rules h xs (found ++ c.in-Ok-live.one ∷ []) (before.0 ++ lived.lasting) in
          let next = (take_at_read es i e c.loop-episode-test.true).1 ∙ ap (λ (x : Episode). take i es ++ x ∷ []) (sym c.episode-item.is) in (
            before.0 ++ lived.lasting,
            subst Found' (sym c.push_reserved.ensures.items)
                (subst Done (sym next) (one_more rules h before.0 (take i es) found e c.in-Ok-live.one lived.lasting before.1 lived.is)),
            lived.stands,
          )),
    )

pub returns-clause-lived : goal.returns-clause-lived
returns-clause-lived c rules h stands =
    let i = c.loop-episode.episode-index in
    let es = c.args.episodes.now in
    let before = c.loop-episode.invariant.3 rules h stands in
    let To : List Episode → Type 0 = λ xs. LivesTo rules h xs c.loop-episode.found.items before.0 in
    whole_life rules h before.0 es c.loop-episode.found.items (subst To (take_all i es c.loop-episode-test.false) before.1)
