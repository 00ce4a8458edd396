use Rattle.std.proofs.Common.{◌≡◌, ◌∙◌, ap, ap₂, ◌-◌, ◌^◌, ℕ, List, length, false}
use Rattle.std.specs.Prelude.{min}
use Rattle.requests.specs.declared.refusal.Refusal.TheVariants.{StorageFailed}
use Rattle.routes.specs.ReplyBytes.{closing_bytes}
use Rattle.sessions.specs.declared.tally.Tally.{Tally}
use Rattle.sessions.specs.Tally.{counted}
use Rattle.sessions.proofs.Counting.{counted_all}
use Rattle.sessions.proofs.Noting.{taken_whole}
use Rattle.sessions.proofs.note.note_of_failure.Goals as goal

pub returns : goal.returns
returns c =
    let bytes : List ℕ = closing_bytes false StorageFailed in
    let took = taken_whole (λ (old new : Tally) (all : List ℕ). new.bytes ≡ counted old.bytes all) c.new-tally.result c.write_storage_failed.new.output bytes c.write_storage_failed.result
    c.write_storage_failed.ensures.cause c.write_storage_failed.ensures.writes
    in
    let count : c.bytes.result ≡ min (length bytes) (2 ^ 64 - 1) =
    c.bytes.ensures ∙ took ∙ ap (λ (t : Tally). counted t.bytes bytes) c.new-tally.ensures ∙ counted_all bytes
    in
    ap₂ (λ s b. record { status = s; bytes = b }) c.code.ensures count
