-- What connections leave of a store, and of the device that it was opened on.
use Rattle.std.proofs.Common.{◌≡◌, sym, subst, refl, ℕ, List, [], ◌++◌, Result, Ok, Err, OnOk}
use Rattle.device.specs.declared.device.Device.{Ghosts}
use Rattle.device.proofs.Moments.{followed_by}
use Rattle.names.specs.declared.format.Rules.{Rules}
use Rattle.histories.specs.View.{view}
use Rattle.decoded.specs.Standing.{History, View, Write}
use Rattle.durable.specs.declared.store.Store.{Store}
use Rattle.durable.specs.Ready.{HoldsHistory}
use Rattle.durable.specs.Settled.{device_of, IsFound, IsSettledAt}
use Rattle.durable.proofs.Findings.{found_none}
use Rattle.httpmsg.specs.declared.head.End.{End}
use Rattle.api.specs.Answers.{all_writes}
use Rattle.api.specs.Serving.{Exchanged, HasEnded, HasReadSome, HasWrittenSome}
use Rattle.clients.specs.Serving.{HasServedSome}
use Rattle.gated.specs.Doing.{HasServedAll, IsOpened, ServedAll}

-- ---- a connection

pub ended_some : {I O D : Type 0} {g : Ghosts D} {gave : I → I → List ℕ → Type 0} {took : O → O → List ℕ → Type 0} {i j : I} {o p : O} (rules : Rules) (old new : Store D g) (v : View)
    (ended : Type 0) (end : End) → Exchanged gave took i j o p (λ read written. HasEnded rules old new v read written ended end) → HasServedSome rules old new v
ended_some rules old new v ended end e = record { answered = e.holds.answered; store = e.holds.store }

pub read_some : {I O D : Type 0} {g : Ghosts D} {gave : I → I → List ℕ → Type 0} {took : O → O → List ℕ → Type 0} {i j : I} {o p : O} (rules : Rules) (old new : Store D g) (v : View)
    → Exchanged gave took i j o p (HasReadSome rules old new v) → HasServedSome rules old new v
read_some rules old new v e = record { answered = e.holds.answered; store = e.holds.store }

pub wrote_some : {I O D : Type 0} {g : Ghosts D} {gave : I → I → List ℕ → Type 0} {took : O → O → List ℕ → Type 0} {i j : I} {o p : O} (rules : Rules) (old new : Store D g) (v : View)
    → Exchanged gave took i j o p (HasWrittenSome rules old new v) → HasServedSome rules old new v
wrote_some rules old new v e = record { answered = e.holds.answered; store = e.holds.store }

-- ---- on the device under a name

pub some_after : {S D : Type 0} {g : Ghosts D} (opened : S → List ℕ → D → Type 0) (storage : S) (name : List ℕ) (first last : Store D g) (is : IsOpened opened storage name first)
    (left : D) → left ≡ device_of last → (rules : Rules) (h : History) → HoldsHistory rules g.disk is.found h → IsSettledAt rules first h
    → HasServedSome rules first last (view rules h) → HasServedAll rules g.disk is.found left h
some_after {D = D} {g = g} opened storage name first last is left same rules h holds settled some =
    let writes : List Write = all_writes rules (view rules h) some.answered in
    let after : IsSettledAt rules last (h ++ writes) = some.store.settled h refl settled in
    let At : D → Type 0 = λ d. HasServedAll rules g.disk is.found d h in
    subst At (sym same) (record {
      answered = some.answered;
      specified = some.store.specified;
      admitted = some.store.admitted;
      holds = record { keeps = after.keeps; read = after.read; left = after.left };
      moments = followed_by g.disk is.found (device_of first) (device_of last) (g.disk.left is.found) (IsFound rules h [] writes) (IsFound rules h [] writes)
          (is.moments holds.keeps) (some.store.moments h refl settled) (λ c l. found_none rules h writes c (holds.left c l)) (λ c found. found);
    })

served_all : {S D : Type 0} {g : Ghosts D} (opened : S → List ℕ → D → Type 0) (storage : S) (name : List ℕ) (first last : Store D g) (is : IsOpened opened storage name first)
    → ((rules : Rules) (h : History) → IsSettledAt rules first h → HasServedSome rules first last (view rules h)) → (left : D) → left ≡ device_of last
    → (rules : Rules) (h : History) → HoldsHistory rules g.disk is.found h → HasServedAll rules g.disk is.found left h
served_all opened storage name first last is served left same rules h holds =
    let settled : IsSettledAt rules first h = is.settled rules h holds in
    some_after opened storage name first last is left same rules h holds settled (served rules h settled)

-- where they were served
pub served_file : {S D : Type 0} {g : Ghosts D} (made opened closed : S → List ℕ → D → Type 0) (storage : S) (name : List ℕ) (first last : Store D g) (is : IsOpened opened storage name first)
    (left : D) → left ≡ device_of last → closed storage name left → {T E : Type 0} (r : Result T E)
    → ((rules : Rules) (h : History) → IsSettledAt rules first h → OnOk r (HasServedSome rules first last (view rules h))) → OnOk r (ServedAll g.disk made opened closed storage name)
served_file made opened closed storage name first last is left same was_closed (Ok x) served = record {
  found = is.found;
  left = left;
  was_opened = is.was_opened;
  was_closed = was_closed;
  serves = served_all opened storage name first last is served left same;
}
served_file made opened closed storage name first last is left same was_closed (Err e) served = tt
