-- Laws of steps.
use Rattle.std.specs.Prelude.{◌≡◌, ◌≤◌, ◌^◌, List, ◌∷◌}
use Rattle.names.specs.declared.format.Rules.{Rules}
use Rattle.requests.specs.Request.{RequestHasForm}
use Rattle.histories.specs.View as seen
use Rattle.histories.specs.View.{view, after_all}
use Rattle.holdings.specs.Prepared.{writes_of}
use Rattle.decoded.specs.Decoded.{Decoded}
use Rattle.decoded.specs.Shown.{Shows}
use Rattle.decoded.specs.Standing.{View, History, IsHistory}
use Rattle.apicore.specs.Prepared.{IsReadOf, IsStepOf}
use Rattle.apicore.specs.declared.prepared.Prepared.{Prepared}
use Rattle.apicore.specs.Admitted.{AreAdmitted}
use Rattle.apicore.specs.Step.{Asked, accepted, step, runs}

-- What a request writes may follow, so that a step makes a history of a history.
abbrev pub WritesFollow : Type 0
WritesFollow =
    (rules : Rules) (h : History) (a : Asked) → rules.text_limit_bytes ≤ 2 ^ 24 → IsHistory rules h → RequestHasForm a.request → IsReadOf rules.format a.request a.specification
    → IsHistory rules (step rules h a).0

-- Each accepted write was admitted by the policies, bindings and parameters just before it.
abbrev pub AcceptedAreAdmitted : Type 0
AcceptedAreAdmitted = (rules : Rules) (v : View) (asked : List Asked) → AreAdmitted rules v (accepted rules v asked)

-- A run is its steps in turn.
abbrev pub RunsAreSteps : Type 0
RunsAreSteps =
    (rules : Rules) (h : History) (a : Asked) (rest : List Asked) →
    let after_one = (step rules h a).0 in
    ((runs rules h (a ∷ rest)).0 ≡ (runs rules after_one rest).0) × ((runs rules h (a ∷ rest)).1 ≡ (step rules h a).1 ∷ (runs rules after_one rest).1)

-- Equal views give equal replies, and equal views after.
abbrev pub ViewDecides : Type 0
ViewDecides =
    (rules : Rules) (g h : History) (a : Asked) → view rules g ≡ view rules h
    → ((step rules g a).1 ≡ (step rules h a).1) × (view rules (step rules g a).0 ≡ view rules (step rules h a).0)

-- A prepared step whose write is taken is one step of the model: its reply is the model's, and what is held then is the view of the history after it.
abbrev pub PreparedIsStep : Type 0
PreparedIsStep =
    (rules : Rules) (h : History) (held : seen.View Decoded) (a : Asked) (p : Prepared) → Shows held (view rules h) → IsStepOf rules held (view rules h) a p
    → (p.reply ≡ (step rules h a).1) × Shows (after_all rules held (writes_of p.write)) (view rules (step rules h a).0)
