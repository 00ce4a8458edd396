use Rattle.std.proofs.Common.{sym, subst, ◌++◌, [], ℕ, List}
use Rattle.std.proofs.lemmas.List.{append-nil}
use Rattle.device.specs.declared.memory.MemDevice.{MemDevice}
use Rattle.device.specs.Memory.{memory_content, memory_left}
use Rattle.decoded.specs.Standing.{History}
use Rattle.durable.specs.Stands.{StandsFor}
use Rattle.durable.proofs.episodes.live.Goals as goal

pub returns-in-Err-clause-refusal : goal.returns-in-Err-clause-refusal
returns-in-Err-clause-refusal c rules h stands = c.in-Err.ensures.refusal rules h tt stands

pub returns-in-Err-clause-left_err : goal.returns-in-Err-clause-left_err
returns-in-Err-clause-left_err c rules h stands =
    let For : List ℕ → Type 0 = λ x. StandsFor rules x (h ++ []) in
    let At : History → Type 0 = λ x. StandsFor rules (memory_content c.args.device) x in
    ([], subst For (sym (c.in-Err.ensures.content_err tt).1) (subst At (sym (append-nil h)) stands))

pub returns-in-Ok-answered-clause-lived : goal.returns-in-Ok-answered-clause-lived
returns-in-Ok-answered-clause-lived c rules h stands =
    let Left : MemDevice → Type 0 = λ device. memory_left device (memory_content c.crash.result) in
    c.in-Ok-answered.ensures.lived rules h (c.in-Ok.ensures.settled rules h tt stands) (memory_content c.crash.result)
    (subst Left c.into_device-device.ensures c.crash.ensures.left)

pub returns-in-Err-answered-clause-left_err : goal.returns-in-Err-answered-clause-left_err
returns-in-Err-answered-clause-left_err c rules h stands =
    let left = c.in-Err-answered.ensures.memory rules h (c.in-Ok.ensures.settled rules h tt stands) in
    let On : MemDevice → Type 0 = λ device. StandsFor rules (memory_content device) (h ++ left.0) in
    (left.0, subst On (sym c.into_device.ensures) left.1)
