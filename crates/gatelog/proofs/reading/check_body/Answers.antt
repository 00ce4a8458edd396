use Rattle.std.proofs.Common.{arith, ap, ◌≡◌, ◌∙◌, subst, ◌+◌, ◌-◌, ◌*◌, ◌<◌, ◌≤◌, ℕ, List, length, drop, slice_index}
use Rattle.std.proofs.lemmas.Result.{IfOk-from_err}
use Rattle.std.specs.Prelude.{IsTrue, EachIndex, ◌↔◌}
use Rattle.gatelog.specs.Record.{part, body_sectors}
use Rattle.gatelog.specs.Walk.{HoldsRecord}
use Rattle.gatelog.proofs.Parts.{length-part}
use Rattle.gatelog.proofs.Exits.{device_alone, damaged_alone, has_failed, failed_after, ran_nothing}
use Rattle.gatelog.proofs.Walking.{same_then}
use Rattle.gatelog.proofs.Checking.{none_behind, body-found, body-inside, body-size, body-zeros, all-zeros, slice-tail}
use Rattle.gatelog.proofs.reading.check_body.Given.{Over}
use Rattle.gatelog.proofs.reading.check_body.Goals.{After-is_zero}
use Rattle.gatelog.proofs.reading.check_body.Goals as goal

AllZeros : List ℕ → Type 0
AllZeros bytes = EachIndex bytes (λ k. slice_index bytes k ≡ 0)

-- the sector that was read last is the body's last
is_last : (g : Over) (c : After-is_zero g) → g.D.Device.disk.keeps c.args.device.now
    → c.in_ok-last.last ≡ part (512 * (c.args.at + body_sectors c.read_u32-payload_length.result - 1)) 512 (g.D.Device.disk.content c.args.device.now)
is_last g c keeps =
    let place : ℕ → List ℕ → Type 0 = λ n from. c.in_ok-last.last ≡ part (512 * (c.args.at + n - 1)) 512 from in
    subst (λ (n : ℕ). place n (g.D.Device.disk.content c.args.device.now)) c.sectors_of-count.ensures
    (subst (place c.sectors_of-count.result) (c.read_sector.ensures.ran.seen keeps) (c.in_ok-last.ensures.bytes (c.read_sector.ensures.ran.kept keeps)))

-- the bytes that were tested are those behind the payload
tested : (g : Over) (c : After-is_zero g) → g.D.Device.disk.keeps c.args.device.now
    → IsTrue c.is_zero.result
    ↔ AllZeros (drop (4 + c.read_u32-payload_length.result - 512 * (body_sectors c.read_u32-payload_length.result - 1)) c.in_ok-last.last)
unfolding AllZeros
tested g c keeps =
    let size = c.read_u32-payload_length.result in
    let last = c.in_ok-last.last in
    let count = c.sectors_of-count.result in
    let same_count : count ≡ body_sectors size = c.sectors_of-count.ensures in
    let whole : length last ≡ 512 =
    ap length (is_last g c keeps) ∙ length-part (512 * (c.args.at + body_sectors size - 1)) 512 (g.D.Device.disk.content c.args.device.now)
    (omega (arith, c.requires.end keeps, c.if-count-end.false, c.if-at-end.false, same_count))
    in
    let Tested : List ℕ → Type 0 = λ bytes. IsTrue c.is_zero.result ↔ AllZeros bytes in
    let Behind : ℕ → Type 0 = λ n. Tested (drop (4 + size - 512 * (n - 1)) last) in
    subst Behind same_count (subst Tested (slice-tail 512 (4 + size - 512 * (count - 1)) last whole) c.is_zero.ensures)

pub returns-then-not-is_zero-clause-damaged : goal.returns-then-not-is_zero-clause-damaged
unfolding AllZeros
returns-then-not-is_zero-clause-damaged g c keeps is_damaged payload holds =
    let here = (goal.at.returns-then-not-is_zero-clause-damaged g c).After-is_zero in
    let size = c.read_u32-payload_length.result in
    let is_size = body-size c.args.at size c.in_ok-first.first payload (g.D.Device.disk.content c.args.device.now) (c.in_ok-first.ensures.bytes keeps)
    c.read_u32-payload_length.ensures holds
    in
    let zeros = body-zeros c.args.at size c.in_ok-last.last payload (g.D.Device.disk.content c.args.device.now) is_size (is_last g here keeps) holds in
    let is_true : IsTrue c.is_zero.result = (tested g here keeps).1 (λ k lt. zeros k) in
    let is_false = c.if-not-is_zero.true in
    cc

pub returns-clause-found : goal.returns-clause-found
unfolding AllZeros
returns-clause-found g c keeps =
    let here = (goal.at.returns-clause-found g c).After-is_zero in
    let size = c.read_u32-payload_length.result in
    let last = c.in_ok-last.last in
    let same_count : c.sectors_of-count.result ≡ body_sectors size = c.sectors_of-count.ensures in
    let zeros = all-zeros (drop (4 + size - 512 * (body_sectors size - 1)) last) ((tested g here keeps).0 c.if-not-is_zero.false) in
    let found = body-found c.args.at size c.args.end c.in_ok-first.first last (g.D.Device.disk.content c.args.device.now) (c.requires.end keeps)
    c.if-payload_length-gt-MOST_PAYLOAD_BYTES.false (omega (arith, c.if-count-end.false, c.if-at-end.false, same_count))
    (c.in_ok-first.ensures.bytes keeps) c.read_u32-payload_length.ensures (is_last g here keeps) zeros
    in
    (found.0, same_count ∙ found.1, found.2)

pub returns-in_err-last-clause-ran : goal.returns-in_err-last-clause-ran
returns-in_err-last-clause-ran g c =
    same_then g.D.Device.disk c.args.device.now c.read_sector.new.device c.read_sector-2.new.device c.read_sector.ensures.ran c.read_sector-2.ensures.ran

pub returns-then-not-is_zero-clause-ran : goal.returns-then-not-is_zero-clause-ran
returns-then-not-is_zero-clause-ran g c =
    same_then g.D.Device.disk c.args.device.now c.read_sector.new.device c.read_sector-2.new.device c.read_sector.ensures.ran c.read_sector-2.ensures.ran

pub returns-clause-ran : goal.returns-clause-ran
returns-clause-ran g c =
    same_then g.D.Device.disk c.args.device.now c.read_sector.new.device c.read_sector-2.new.device c.read_sector.ensures.ran c.read_sector-2.ensures.ran

-- no record is so long
too_long : (size n : ℕ) → size ≡ n → n ≤ 67108864 → 67108864 < size → ⊥
too_long size n is_size limit long = omega arith

-- and none has more sectors than there are
too_many : (at end size count : ℕ) (payload c : List ℕ) → length c ≡ 512 * end → size ≡ length payload → count ≡ body_sectors size → HoldsRecord at payload c
    → end - at < count → ⊥
too_many at end size count payload c whole is_size is_count holds many = omega (arith, body-inside at end payload c whole holds)

pub returns-then-payload_length-gt-MOST_PAYLOAD_BYTES-clause-damaged : goal.returns-then-payload_length-gt-MOST_PAYLOAD_BYTES-clause-damaged
returns-then-payload_length-gt-MOST_PAYLOAD_BYTES-clause-damaged g c keeps is_damaged payload holds =
    let is_size = body-size c.args.at c.read_u32-payload_length.result c.in_ok-first.first payload (g.D.Device.disk.content c.args.device.now)
    (c.in_ok-first.ensures.bytes keeps) c.read_u32-payload_length.ensures holds
    in
    too_long c.read_u32-payload_length.result (length payload) is_size holds.limit c.if-payload_length-gt-MOST_PAYLOAD_BYTES.true

pub returns-then-count-end-clause-damaged : goal.returns-then-count-end-clause-damaged
returns-then-count-end-clause-damaged g c keeps is_damaged payload holds =
    let content = g.D.Device.disk.content c.args.device.now in
    let is_size = body-size c.args.at c.read_u32-payload_length.result c.in_ok-first.first payload content (c.in_ok-first.ensures.bytes keeps) c.read_u32-payload_length.ensures holds in
    too_many c.args.at c.args.end c.read_u32-payload_length.result c.sectors_of-count.result payload content (c.requires.end keeps) is_size c.sectors_of-count.ensures holds c.if-count-end.true

pub returns-then-at-end-clause-damaged : goal.returns-then-at-end-clause-damaged
returns-then-at-end-clause-damaged g c =
    λ keeps told payload holds.
    none_behind c.args.at c.args.end payload (g.D.Device.disk.content c.args.device.now) (c.requires.end keeps) holds c.if-at-end.true

pub returns-then-at-end-clause-ran : goal.returns-then-at-end-clause-ran
returns-then-at-end-clause-ran g c = ran_nothing g.D.Device.disk c.args.device.now (λ keeps content since. g.met.D.Device.only_now c.args.device.now content keeps since)

pub returns-then-at-end-clause-cause : goal.returns-then-at-end-clause-cause
returns-then-at-end-clause-cause g c = λ told. absurd (damaged_alone told)

pub returns-in_err-first-clause-found : goal.returns-in_err-first-clause-found
returns-in_err-first-clause-found g c = λ keeps. IfOk-from_err c.from_residual.result _ c.from_residual.ensures.0

pub returns-in_err-first-clause-damaged : goal.returns-in_err-first-clause-damaged
returns-in_err-first-clause-damaged g c = λ keeps told payload holds. device_alone c.from_residual.ensures.1 told

pub returns-in_err-first-clause-inside : goal.returns-in_err-first-clause-inside
returns-in_err-first-clause-inside g c = IfOk-from_err c.from_residual.result _ c.from_residual.ensures.0

pub returns-in_err-first-clause-ran : goal.returns-in_err-first-clause-ran
returns-in_err-first-clause-ran g c = c.read_sector.ensures.ran

pub returns-in_err-first-clause-cause : goal.returns-in_err-first-clause-cause
returns-in_err-first-clause-cause g c = λ told. has_failed c.read_sector.ensures.cause c.in_err-first.was

pub returns-then-payload_length-gt-MOST_PAYLOAD_BYTES-clause-ran : goal.returns-then-payload_length-gt-MOST_PAYLOAD_BYTES-clause-ran
returns-then-payload_length-gt-MOST_PAYLOAD_BYTES-clause-ran g c = c.read_sector.ensures.ran

pub returns-then-payload_length-gt-MOST_PAYLOAD_BYTES-clause-cause : goal.returns-then-payload_length-gt-MOST_PAYLOAD_BYTES-clause-cause
returns-then-payload_length-gt-MOST_PAYLOAD_BYTES-clause-cause g c = λ told. absurd (damaged_alone told)

pub returns-then-count-end-clause-ran : goal.returns-then-count-end-clause-ran
returns-then-count-end-clause-ran g c = c.read_sector.ensures.ran

pub returns-then-count-end-clause-cause : goal.returns-then-count-end-clause-cause
returns-then-count-end-clause-cause g c = λ told. absurd (damaged_alone told)

pub returns-in_err-last-clause-found : goal.returns-in_err-last-clause-found
returns-in_err-last-clause-found g c = λ keeps. IfOk-from_err c.from_residual-in_err-last.result _ c.from_residual-in_err-last.ensures.0

pub returns-in_err-last-clause-damaged : goal.returns-in_err-last-clause-damaged
returns-in_err-last-clause-damaged g c = λ keeps told payload holds. device_alone c.from_residual-in_err-last.ensures.1 told

pub returns-in_err-last-clause-inside : goal.returns-in_err-last-clause-inside
returns-in_err-last-clause-inside g c = IfOk-from_err c.from_residual-in_err-last.result _ c.from_residual-in_err-last.ensures.0

pub returns-in_err-last-clause-cause : goal.returns-in_err-last-clause-cause
returns-in_err-last-clause-cause g c =
    λ told.
    failed_after g.D.Device.disk c.args.device.now c.read_sector.new.device c.read_sector-2.new.device c.read_sector.ensures.ran.count
    (has_failed c.read_sector-2.ensures.cause c.in_err-last.was)

pub returns-then-not-is_zero-clause-cause : goal.returns-then-not-is_zero-clause-cause
returns-then-not-is_zero-clause-cause g c = λ told. absurd (damaged_alone told)
