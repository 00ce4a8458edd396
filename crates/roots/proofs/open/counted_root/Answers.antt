use Rattle.std.proofs.Common.{◌≡◌, ℕ, List, Bool, IsTrue, arith, false, true≢false, ◌∙◌, sym, subst, ⊎_elim, Ok, IsErrOf}
use Rattle.std.specs.Option.{IfNone}
use Rattle.gatelog.specs.Record.{part}
use Rattle.gatelog.proofs.Walking.{same_then}
use Rattle.roots.specs.declared.open.RootFault.{RootFault}
use Rattle.roots.specs.declared.open.RootFault.TheVariants.{Header, Root as NoRoot}
use Rattle.roots.specs.declared.root.Root.{Root}
use Rattle.roots.specs.Root.{IsHeader, Counts}
use Rattle.roots.proofs.Fronts.{front_of, shown, first_shown, holds_from_front, header_in_front, past_the_end, none_in_front, too_short}
use Rattle.roots.proofs.open.counted_root.Goals as goal

is_not : (b : Bool) → b ≡ false → IsTrue b → ⊥
is_not b unset told = true≢false (sym told ∙ unset)

pub returns-then-not-is_header-clause-damaged : goal.returns-then-not-is_header-clause-damaged
returns-then-not-is_header-clause-damaged g c = λ keeps is root holds.
    let ran = c.len.ensures.ran in
    let content = g.D.Device.disk.content c.args.device.now in
    let front : c.read.new.buffer ≡ front_of content = shown content (g.D.Device.disk.content c.len.new.self) c.read.new.buffer (c.in_ok-read.ensures.bytes (ran.kept keeps)) (ran.seen keeps) in
    let Head : List ℕ → Type 0 = λ x. IsHeader (part 0 512 x) in
    let head : IsHeader (part 0 512 c.read.new.buffer) = subst Head (sym front) (header_in_front content root holds) in
    is_not c.is_header.result c.if-not-is_header.true (c.is_header.ensures.1 (subst (λ x. IsHeader x) (sym c.sector_at.ensures.bytes) head))

pub returns-in-Some-clause-found : goal.returns-in-Some-clause-found
returns-in-Some-clause-found g c = λ keeps.
    let ran = c.len.ensures.ran in
    let content = g.D.Device.disk.content c.args.device.now in
    let root = c.in-Some.root in
    let front : c.read.new.buffer ≡ front_of content = shown content (g.D.Device.disk.content c.len.new.self) c.read.new.buffer (c.in_ok-read.ensures.bytes (ran.kept keeps)) (ran.seen keeps) in
    let head : IsHeader c.sector_at.result.now = c.is_header.ensures.0 c.if-not-is_header.false in
    let Head : List ℕ → Type 0 = λ x. IsHeader (part 0 512 x) in
    let head_there : IsHeader (part 0 512 (front_of content)) = subst Head front (subst (λ x. IsHeader x) c.sector_at.ensures.bytes head) in
    let counts : Counts (front_of content) root = subst (λ x. Counts x root) front c.in-Some.ensures.some in
    holds_from_front content root c.in_ok-sectors.sectors (c.in_ok-sectors.ensures.sectors keeps) head_there counts (c.lies_inside.ensures.0 c.if-lies_inside.true)

pub returns-in_default-clause-damaged : goal.returns-in_default-clause-damaged
returns-in_default-clause-damaged g c = λ keeps is held holds.
    let ran = c.len.ensures.ran in
    let content = g.D.Device.disk.content c.args.device.now in
    let root = c.in-Some.root in
    let front : c.read.new.buffer ≡ front_of content = shown content (g.D.Device.disk.content c.len.new.self) c.read.new.buffer (c.in_ok-read.ensures.bytes (ran.kept keeps)) (ran.seen keeps) in
    let counts : Counts (front_of content) root = subst (λ x. Counts x root) front c.in-Some.ensures.some in
    past_the_end content root c.in_ok-sectors.sectors (c.in_ok-sectors.ensures.sectors keeps) counts
    (λ inside. is_not c.lies_inside.result c.if-lies_inside.false (c.lies_inside.ensures.1 inside)) held holds

pub returns-in_default-2-clause-damaged : goal.returns-in_default-2-clause-damaged
returns-in_default-2-clause-damaged g c = λ keeps is held holds.
    let ran = c.len.ensures.ran in
    let content = g.D.Device.disk.content c.args.device.now in
    let front : c.read.new.buffer ≡ front_of content = shown content (g.D.Device.disk.content c.len.new.self) c.read.new.buffer (c.in_ok-read.ensures.bytes (ran.kept keeps)) (ran.seen keeps) in
    let none : (root : Root) → Counts c.read.new.buffer root → ⊥ =
    subst (λ r. IfNone r ((root : Root) → Counts c.read.new.buffer root → ⊥)) c.in_default.is c.counted.ensures.none in
    none_in_front content (subst (λ x. (root : Root) → Counts x root → ⊥) front none) held holds

pub returns-then-not-is_header-clause-header : goal.returns-then-not-is_header-clause-header
returns-then-not-is_header-clause-header g c = λ keeps is header.
    let ran = c.len.ensures.ran in
    let content = g.D.Device.disk.content c.args.device.now in
    let first = first_shown content (g.D.Device.disk.content c.len.new.self) c.read.new.buffer c.sector_at.result.now
    (c.in_ok-read.ensures.bytes (ran.kept keeps)) (ran.seen keeps) c.sector_at.ensures.bytes
    in
    absurd (is_not c.is_header.result c.if-not-is_header.true (c.is_header.ensures.1 (subst (λ x. IsHeader x) (sym first) header)))

pub returns-in_default-clause-root : goal.returns-in_default-clause-root
returns-in_default-clause-root g c = λ keeps is.
    let ran = c.len.ensures.ran in
    let content = g.D.Device.disk.content c.args.device.now in
    let first = first_shown content (g.D.Device.disk.content c.len.new.self) c.read.new.buffer c.sector_at.result.now
    (c.in_ok-read.ensures.bytes (ran.kept keeps)) (ran.seen keeps) c.sector_at.ensures.bytes
    in
    (subst (λ x. IsHeader x) first (c.is_header.ensures.0 c.if-not-is_header.false), omega (arith, c.in_ok-sectors.ensures.sectors keeps, c.if-sectors-lt9.false))

pub returns-in_default-2-clause-root : goal.returns-in_default-2-clause-root
returns-in_default-2-clause-root g c = λ keeps is.
    let ran = c.len.ensures.ran in
    let content = g.D.Device.disk.content c.args.device.now in
    let first = first_shown content (g.D.Device.disk.content c.len.new.self) c.read.new.buffer c.sector_at.result.now
    (c.in_ok-read.ensures.bytes (ran.kept keeps)) (ran.seen keeps) c.sector_at.ensures.bytes
    in
    (subst (λ x. IsHeader x) first (c.is_header.ensures.0 c.if-not-is_header.false), omega (arith, c.in_ok-sectors.ensures.sectors keeps, c.if-sectors-lt9.false))

pub returns-in_err-read-clause-ran : goal.returns-in_err-read-clause-ran
returns-in_err-read-clause-ran g c = same_then g.D.Device.disk c.args.device.now c.len.new.self c.read.new.self c.len.ensures.ran c.read.ensures.ran

pub returns-then-not-is_header-clause-ran : goal.returns-then-not-is_header-clause-ran
returns-then-not-is_header-clause-ran g c = same_then g.D.Device.disk c.args.device.now c.len.new.self c.read.new.self c.len.ensures.ran c.read.ensures.ran

pub returns-in-Some-clause-ran : goal.returns-in-Some-clause-ran
returns-in-Some-clause-ran g c = same_then g.D.Device.disk c.args.device.now c.len.new.self c.read.new.self c.len.ensures.ran c.read.ensures.ran

pub returns-in_default-clause-ran : goal.returns-in_default-clause-ran
returns-in_default-clause-ran g c = same_then g.D.Device.disk c.args.device.now c.len.new.self c.read.new.self c.len.ensures.ran c.read.ensures.ran

pub returns-in_default-2-clause-ran : goal.returns-in_default-2-clause-ran
returns-in_default-2-clause-ran g c = same_then g.D.Device.disk c.args.device.now c.len.new.self c.read.new.self c.len.ensures.ran c.read.ensures.ran

ok_is_no_error : (root : Root) (fault : RootFault) → IsErrOf (Ok root) fault → ⊥
ok_is_no_error root fault is = cc

pub returns-in-Some-clause-damaged : goal.returns-in-Some-clause-damaged
returns-in-Some-clause-damaged g c = λ keeps is root holds. ⊎_elim (ok_is_no_error c.in-Some.root Header) (ok_is_no_error c.in-Some.root NoRoot) is

pub returns-then-sectors-lt9-clause-damaged : goal.returns-then-sectors-lt9-clause-damaged
returns-then-sectors-lt9-clause-damaged g c = λ keeps is root holds.
    too_short (g.D.Device.disk.content c.args.device.now) root c.in_ok-sectors.sectors (c.in_ok-sectors.ensures.sectors keeps) c.if-sectors-lt9.true holds
