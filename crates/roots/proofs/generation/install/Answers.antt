use Rattle.std.proofs.Common.{arith, ap, ◌≡◌, ◌∙◌, ◌*◌, ℕ, List, length}
use Rattle.roots.specs.declared.root.Root.{Root}
use Rattle.roots.specs.Install.{IsStaged}
use Rattle.roots.specs.Root.{gate_sector}
use Rattle.roots.proofs.Steps.{in_front}
use Rattle.roots.proofs.Staging.{length-torn}
use Rattle.roots.proofs.Installing.{on_ok, root_fails, gate_fails, AfterCut, after_cut}
use Rattle.roots.proofs.generation.install.Given.{Over}
use Rattle.roots.proofs.generation.install.Goals.{After-cut_behind}
use Rattle.roots.proofs.generation.install.Goals as goal

pub returns-in_err-write_root-clause-any_moment : goal.returns-in_err-write_root-clause-any_moment
returns-in_err-write_root-clause-any_moment g c start current last old pages is =
    root_fails g.D.Device.disk start c.args.device.now current last old c.args.next.now pages is c.write_root.new.device c.write_root.ensures.ran

pub returns-in_err-open_root-clause-any_moment : goal.returns-in_err-open_root-clause-any_moment
returns-in_err-open_root-clause-any_moment g c start current last old pages is =
    let keeps = is.stands.kept in
    gate_fails g.D.Device.disk start c.args.device.now current last old c.args.next.now pages is c.write_root.new.device c.write_root.ensures.ran
    (c.in_ok-write_root.ensures.durable keeps) (c.in_ok-write_root.ensures.spelled keeps) (c.in_ok-write_root.ensures.pages keeps pages is.size is.there)
    c.open_root.new.device c.open_root.ensures.ran

-- from then on the new root counts, whether the cut went through or not
counts_now : (g : Over) (c : After-cut_behind g) (start : g.row.D.Denot) (current : Root) (last : ℕ) (old pages : List ℕ)
    → IsStaged g.D.Device.disk start c.args.device.now current last old c.args.next.now pages
    → AfterCut g.D.Device.disk start current last old c.args.next.now pages c.cut_behind.new.device
counts_now g c start current last old pages is =
    let keeps = is.stands.kept in
    let kept = c.write_root.ensures.ran.kept keeps in
    after_cut g.D.Device.disk start c.args.device.now current last old c.args.next.now pages is c.write_root.new.device c.write_root.ensures.ran
    (c.in_ok-write_root.ensures.durable keeps) (c.in_ok-write_root.ensures.spelled keeps) (c.in_ok-write_root.ensures.pages keeps pages is.size is.there)
    c.open_root.new.device c.open_root.ensures.ran (c.in_ok-open_root.ensures.durable kept) (c.in_ok-open_root.ensures.opened kept)
    c.cut_behind.new.device c.cut_behind.ensures.ran

pub returns-clause-any_moment : goal.returns-clause-any_moment
returns-clause-any_moment g c start current last old pages is =
    (counts_now g (goal.at.returns-clause-any_moment g c).After-cut_behind start current last old pages is).either

pub returns-clause-installed : goal.returns-clause-installed
returns-clause-installed g c start current last old pages is =
    on_ok c.cut_behind.result (counts_now g (goal.at.returns-clause-installed g c).After-cut_behind start current last old pages is).installed

pub returns-clause-ok : goal.returns-clause-ok
returns-clause-ok g c start current last old pages is =
    on_ok c.cut_behind.result (counts_now g (goal.at.returns-clause-ok g c).After-cut_behind start current last old pages is).in_use

pub returns-clause-behind : goal.returns-clause-behind
returns-clause-behind g c keeps off =
    let disk = g.D.Device.disk in
    let second = disk.content c.write_root.new.device in
    let kept = c.write_root.ensures.ran.kept keeps in
    let places = in_front c.args.next.now.slot in
    let with_gate = c.in_ok-write_root.ensures.length keeps in
    let opened : length (disk.content c.open_root.new.device) ≡ length second = length-torn (512 * gate_sector c.args.next.now.slot) 512 second
    (disk.content c.open_root.new.device) (omega (arith, with_gate, c.requires.in_data, places.gate)) (c.open_root.ensures.ran.seen kept) in
    on_ok c.cut_behind.result (ap (λ d. length (disk.content d)) (c.cut_behind.ensures.behind off) ∙ opened ∙ with_gate)
