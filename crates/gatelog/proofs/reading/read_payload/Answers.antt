use Rattle.std.proofs.Common.{arith, ◌≡◌, ◌∙◌, ap, sym, subst, ◌+◌, ◌*◌, ◌<◌, ◌≤◌, ℕ, List, ◌++◌, length, take, drop}
use Rattle.std.proofs.lemmas.Result.{IfOk-from_err}
use Rattle.std.proofs.lemmas.List.{take_at, length-take}
use Rattle.byteorder.specs.Endian.{big_number}
use Rattle.gatelog.specs.Record.{part, sectors, body_sectors}
use Rattle.gatelog.proofs.Exits.{same_fault, memory_alone, device_alone, damaged_alone, no_fault, never_too_long, has_failed, failed_after}
use Rattle.gatelog.proofs.Walking.{same_then, one_record, payload-read, length-read}
use Rattle.gatelog.proofs.reading.read_payload.Given.{Over}
use Rattle.gatelog.proofs.reading.read_payload.Goals.{After-read_u32-payload_length, then-payload_length-gt-MOST_PAYLOAD_BYTES-via-then-payload_length-gt-MOST_PAYLOAD_BYTES, then-payload_length-gt-MOST_PAYLOAD_BYTES-via-else-payload_length-gt-MOST_PAYLOAD_BYTES+then-sectors_of-count}
use Rattle.gatelog.proofs.reading.read_payload.Goals as goal

-- what was read is the body, and in front of it stands the length that was told
was_read : (g : Over) (c : After-read_u32-payload_length g) → g.D.Device.disk.keeps c.args.device.now
    → (c.read.new.buffer ≡ part (512 * c.args.at) (512 * c.in_ok-count.count) (g.D.Device.disk.content c.check_body.new.device))
    × (c.read_u32-payload_length.result ≡ big_number 4 c.read.new.buffer)
    × (take c.in_ok-body.body.len (c.read.new.buffer ++ drop (length c.read.new.buffer) c.in_ok-body.body.items) ≡ c.read.new.buffer)
was_read g c keeps =
    let Read : ℕ → Type 0 = λ n. c.read.new.buffer ≡ part (512 * c.args.at) n (g.D.Device.disk.content c.check_body.new.device) in
    let size : length c.deref_mut.result.now ≡ 512 * c.in_ok-count.count = as_read _ _ _ c.deref_mut.ensures.len c.in_ok-body.ensures.len in
    let bytes = subst Read size (c.in_ok-read.ensures.bytes (c.check_body.ensures.ran.kept keeps)) in
    let same_size : length c.read.new.buffer ≡ c.in_ok-body.body.len = c.read.auto.buffer ∙ c.deref_mut.ensures.len in
    let whole = take_at c.read.new.buffer (drop (length c.read.new.buffer) c.in_ok-body.body.items) c.in_ok-body.body.len same_size in
    (bytes, c.read_u32-payload_length.ensures ∙ ap (big_number 4) (c.deref.ensures.value ∙ whole), whole)
  where
    as_read : (n len count : ℕ) → n ≡ len → len ≡ count * 512 → n ≡ 512 * count
    as_read n len count is_len is_count = omega arith

pub returns-then-payload_length-gt-MOST_PAYLOAD_BYTES-clause-ran : goal.returns-then-payload_length-gt-MOST_PAYLOAD_BYTES-clause-ran
returns-then-payload_length-gt-MOST_PAYLOAD_BYTES-clause-ran g c =
    same_then g.D.Device.disk c.args.device.now c.check_body.new.device c.read.new.self c.check_body.ensures.ran c.read.ensures.ran

pub returns-in_err-read-clause-ran : goal.returns-in_err-read-clause-ran
returns-in_err-read-clause-ran g c =
    same_then g.D.Device.disk c.args.device.now c.check_body.new.device c.read.new.self c.check_body.ensures.ran c.read.ensures.ran

pub returns-in_err-copy_of-clause-ran : goal.returns-in_err-copy_of-clause-ran
returns-in_err-copy_of-clause-ran g c =
    same_then g.D.Device.disk c.args.device.now c.check_body.new.device c.read.new.self c.check_body.ensures.ran c.read.ensures.ran

pub returns-clause-found : goal.returns-clause-found
returns-clause-found g c keeps payload holds =
    let disk = g.D.Device.disk in
    let content = disk.content c.args.device.now in
    let checked = c.in_ok-count.ensures.found keeps in
    let is_payload = one_record c.args.at checked.0 payload content checked.2 holds in
    let count = c.in_ok-count.count in
    let is_count : count ≡ sectors payload = checked.1 ∙ ap sectors is_payload in
    let read = was_read g (goal.at.returns-clause-found g c).After-read_u32-payload_length keeps in
    c.in_ok-copy_of.ensures ∙ ap (part 4 c.read_u32-payload_length.result) (c.deref-2.ensures.value ∙ read.2)
    ∙ payload-read c.args.at count c.read_u32-payload_length.result payload c.read.new.buffer (disk.content c.check_body.new.device) content holds is_count read.0
    (c.check_body.ensures.ran.seen keeps) read.1

pub returns-clause-ran : goal.returns-clause-ran
returns-clause-ran g c =
    same_then g.D.Device.disk c.args.device.now c.check_body.new.device c.read.new.self c.check_body.ensures.ran c.read.ensures.ran

too_long : (size n : ℕ) → size ≡ n → n ≤ 67108864 → 67108864 < size → ⊥
too_long size n is_size limit long = omega arith

pub returns-then-payload_length-gt-MOST_PAYLOAD_BYTES-clause-damaged : goal.returns-then-payload_length-gt-MOST_PAYLOAD_BYTES-clause-damaged
returns-then-payload_length-gt-MOST_PAYLOAD_BYTES-clause-damaged g c keeps is_damaged payload holds =
    let disk = g.D.Device.disk in
    let checked = c.in_ok-count.ensures.found keeps in
    let count = c.in_ok-count.count in
    let read = was_read g (goal.at.returns-then-payload_length-gt-MOST_PAYLOAD_BYTES-clause-damaged g c).After-read_u32-payload_length keeps in
    let is_size : c.read_u32-payload_length.result ≡ length checked.0 =
    length-read c.args.at count c.read_u32-payload_length.result checked.0 c.read.new.buffer (disk.content c.check_body.new.device) (disk.content c.args.device.now) checked.2 checked.1 read.0
    (c.check_body.ensures.ran.seen keeps) read.1 in
    elim c.then-payload_length-gt-MOST_PAYLOAD_BYTES.branch [
      | then-payload_length-gt-MOST_PAYLOAD_BYTES-via-then-payload_length-gt-MOST_PAYLOAD_BYTES w ↦
          too_long c.read_u32-payload_length.result (length checked.0) is_size checked.2.limit w.if-payload_length-gt-MOST_PAYLOAD_BYTES.true
      | then-payload_length-gt-MOST_PAYLOAD_BYTES-via-else-payload_length-gt-MOST_PAYLOAD_BYTES+then-sectors_of-count w ↦
          w.if-sectors_of-count.true (w.sectors_of.ensures ∙ ap body_sectors is_size ∙ sym checked.1)
    ]

-- no more is copied than was told
copy_inside : (at end count size len : ℕ) (copy bytes : List ℕ) → len ≡ length copy → copy ≡ part 4 size bytes → size ≤ 67108864 → body_sectors size ≡ count → at + count ≤ end
    → (len ≤ 67108864) × (at + body_sectors len ≤ end)
copy_inside at end count size len copy bytes is_len is_copy limit is_count inside =
    let short : len ≤ size = omega (arith, ap length is_copy, length-take size (drop 4 bytes)) in
    (omega arith, omega arith)

pub returns-clause-inside : goal.returns-clause-inside
returns-clause-inside g c =
    let copy = c.in_ok-copy_of.field-0 in
    copy_inside c.args.at c.args.end c.in_ok-count.count c.read_u32-payload_length.result copy.len copy.items c.deref-2.result.now copy.ok.0 c.in_ok-copy_of.ensures
    c.if-payload_length-gt-MOST_PAYLOAD_BYTES.false (sym c.sectors_of.ensures ∙ c.if-sectors_of-count.false) c.in_ok-count.ensures.inside.1

pub check_body-requires-clause-end : goal.check_body-requires-clause-end
check_body-requires-clause-end g c = c.requires.end

pub check_body-requires-clause-at_most : goal.check_body-requires-clause-at_most
check_body-requires-clause-at_most g c = c.requires.at_most

pub returns-in_err-count-clause-found : goal.returns-in_err-count-clause-found
returns-in_err-count-clause-found g c = λ keeps payload holds. IfOk-from_err c.from_residual.result _ c.from_residual.ensures.0

pub returns-in_err-count-clause-damaged : goal.returns-in_err-count-clause-damaged
returns-in_err-count-clause-damaged g c = λ keeps told. c.check_body.ensures.damaged keeps (same_fault c.from_residual.ensures.1 c.in_err-count.was told)

pub returns-in_err-count-clause-inside : goal.returns-in_err-count-clause-inside
returns-in_err-count-clause-inside g c = IfOk-from_err c.from_residual.result _ c.from_residual.ensures.0

pub returns-in_err-count-clause-refusal : goal.returns-in_err-count-clause-refusal
returns-in_err-count-clause-refusal g c = λ told. never_too_long c.check_body.ensures.refusal (same_fault c.from_residual.ensures.1 c.in_err-count.was told)

pub returns-in_err-count-clause-ran : goal.returns-in_err-count-clause-ran
returns-in_err-count-clause-ran g c = c.check_body.ensures.ran

pub returns-in_err-count-clause-cause : goal.returns-in_err-count-clause-cause
returns-in_err-count-clause-cause g c = λ told. c.check_body.ensures.cause (same_fault c.from_residual.ensures.1 c.in_err-count.was told)

pub returns-in_err-body-clause-found : goal.returns-in_err-body-clause-found
returns-in_err-body-clause-found g c = λ keeps payload holds. IfOk-from_err c.from_residual-in_err-body.result _ c.from_residual-in_err-body.ensures.0

pub returns-in_err-body-clause-damaged : goal.returns-in_err-body-clause-damaged
returns-in_err-body-clause-damaged g c = λ keeps told payload holds. memory_alone c.from_residual-in_err-body.ensures.1 told

pub returns-in_err-body-clause-inside : goal.returns-in_err-body-clause-inside
returns-in_err-body-clause-inside g c = IfOk-from_err c.from_residual-in_err-body.result _ c.from_residual-in_err-body.ensures.0

pub returns-in_err-body-clause-refusal : goal.returns-in_err-body-clause-refusal
returns-in_err-body-clause-refusal g c = λ told. memory_alone c.from_residual-in_err-body.ensures.1 told

pub returns-in_err-body-clause-ran : goal.returns-in_err-body-clause-ran
returns-in_err-body-clause-ran g c = c.check_body.ensures.ran

pub returns-in_err-body-clause-cause : goal.returns-in_err-body-clause-cause
returns-in_err-body-clause-cause g c = λ told. absurd (memory_alone c.from_residual-in_err-body.ensures.1 told)

pub returns-in_err-read-clause-found : goal.returns-in_err-read-clause-found
returns-in_err-read-clause-found g c = λ keeps payload holds. IfOk-from_err c.from_residual-in_err-read.result _ c.from_residual-in_err-read.ensures.0

pub returns-in_err-read-clause-damaged : goal.returns-in_err-read-clause-damaged
returns-in_err-read-clause-damaged g c = λ keeps told payload holds. device_alone c.from_residual-in_err-read.ensures.1 told

pub returns-in_err-read-clause-inside : goal.returns-in_err-read-clause-inside
returns-in_err-read-clause-inside g c = IfOk-from_err c.from_residual-in_err-read.result _ c.from_residual-in_err-read.ensures.0

pub returns-in_err-read-clause-refusal : goal.returns-in_err-read-clause-refusal
returns-in_err-read-clause-refusal g c = λ told. device_alone c.from_residual-in_err-read.ensures.1 told

pub returns-in_err-read-clause-cause : goal.returns-in_err-read-clause-cause
returns-in_err-read-clause-cause g c = λ told.
    failed_after g.D.Device.disk c.args.device.now c.check_body.new.device c.read.new.self c.check_body.ensures.ran.count (has_failed c.read.ensures.cause c.in_err-read.was)

pub returns-then-payload_length-gt-MOST_PAYLOAD_BYTES-clause-found : goal.returns-then-payload_length-gt-MOST_PAYLOAD_BYTES-clause-found
returns-then-payload_length-gt-MOST_PAYLOAD_BYTES-clause-found g c = λ keeps payload holds. tt

pub returns-then-payload_length-gt-MOST_PAYLOAD_BYTES-clause-inside : goal.returns-then-payload_length-gt-MOST_PAYLOAD_BYTES-clause-inside
returns-then-payload_length-gt-MOST_PAYLOAD_BYTES-clause-inside g c = tt

pub returns-in_err-copy_of-clause-found : goal.returns-in_err-copy_of-clause-found
returns-in_err-copy_of-clause-found g c = λ keeps payload holds. IfOk-from_err c.from_residual-in_err-copy_of.result _ c.from_residual-in_err-copy_of.ensures.0

pub returns-in_err-copy_of-clause-damaged : goal.returns-in_err-copy_of-clause-damaged
returns-in_err-copy_of-clause-damaged g c = λ keeps told payload holds. memory_alone c.from_residual-in_err-copy_of.ensures.1 told

pub returns-in_err-copy_of-clause-inside : goal.returns-in_err-copy_of-clause-inside
returns-in_err-copy_of-clause-inside g c = IfOk-from_err c.from_residual-in_err-copy_of.result _ c.from_residual-in_err-copy_of.ensures.0

pub returns-in_err-copy_of-clause-refusal : goal.returns-in_err-copy_of-clause-refusal
returns-in_err-copy_of-clause-refusal g c = λ told. memory_alone c.from_residual-in_err-copy_of.ensures.1 told

pub returns-in_err-copy_of-clause-cause : goal.returns-in_err-copy_of-clause-cause
returns-in_err-copy_of-clause-cause g c = λ told. absurd (memory_alone c.from_residual-in_err-copy_of.ensures.1 told)

pub returns-then-payload_length-gt-MOST_PAYLOAD_BYTES-clause-refusal : goal.returns-then-payload_length-gt-MOST_PAYLOAD_BYTES-clause-refusal
returns-then-payload_length-gt-MOST_PAYLOAD_BYTES-clause-refusal g c = λ told. damaged_alone told

pub returns-then-payload_length-gt-MOST_PAYLOAD_BYTES-clause-cause : goal.returns-then-payload_length-gt-MOST_PAYLOAD_BYTES-clause-cause
returns-then-payload_length-gt-MOST_PAYLOAD_BYTES-clause-cause g c = λ told. absurd (damaged_alone told)

pub returns-clause-damaged : goal.returns-clause-damaged
returns-clause-damaged g c = λ keeps told payload holds. no_fault told

pub returns-clause-refusal : goal.returns-clause-refusal
returns-clause-refusal g c = λ told. no_fault told

pub returns-clause-cause : goal.returns-clause-cause
returns-clause-cause g c = λ told. absurd (no_fault told)
