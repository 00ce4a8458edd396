-- A store that serves a view, or is settled at a history, and what requests leave of it.
use Rattle.std.specs.Prelude.{◌≡◌, ◌≤◌, ◌+◌, ℕ, List, [], ◌++◌, length, take, map, Bool, true, false}
use Rattle.std.specs.List.{AllByRecursion}
use Rattle.device.specs.declared.device.Device.{Ghosts}
use Rattle.device.specs.Disk.{LeavesOnly}
use Rattle.device.specs.Run.{Ran}
use Rattle.device.specs.Step.{Same}
use Rattle.gatelog.specs.declared.gate_log.Log.{Log}
use Rattle.roots.specs.declared.root.Root.{Root}
use Rattle.names.specs.declared.format.Format.{Format}
use Rattle.names.specs.declared.format.Rules.{Rules}
use Rattle.names.specs.Key.{Key}
use Rattle.requests.specs.Request.{Request}
use Rattle.requests.specs.Reply.{Reply}
use Rattle.records.specs.Payload.{group_limit}
use Rattle.histories.specs.View as seen
use Rattle.histories.specs.View.{view, after_all}
use Rattle.histories.specs.declared.stored.Stored.{Stored}
use Rattle.celtree.specs.Tree.{Expr}
use Rattle.expressions.specs.Specification.{Specification}
use Rattle.decoded.specs.Decoded.{Decoded}
use Rattle.decoded.specs.Standing.{Write, History, View, IsView}
use Rattle.apicore.specs.Admitted.{AreAdmitted}
use Rattle.apicore.specs.Step.{Asked, writes, reply, accepted, replies}
use Rattle.apicore.specs.Prepared.{IsReadOf}
use Rattle.paged.specs.Paged as paged
use Rattle.paged.specs.declared.state.Paged.{Paged}
use Rattle.durable.specs.declared.store.Store.{Store}
use Rattle.durable.specs.Stands.{StandsFor}

-- the writes that requests add to a history: those that were accepted
abbrev pub added : Rules → History → List Asked → List Write
added rules h asked = accepted rules (view rules h) asked

-- the requests, each with what stands in its document, as a format has it
pub record AreAsked (format : Format) (requests : List Request) (asked : List Asked) : Type 0 where
  pub are : map (λ a. a.request) asked ≡ requests
  pub read : AllByRecursion (λ a. IsReadOf format a.request a.specification) asked

-- The content stands for a history, followed by all the kept ones of its writes and perhaps by some of the next, in order, none skipped.
pub record IsFound (rules : Rules) (h : History) (kept writes : List Write) (c : List ℕ) : Type 0 where
  pub more : List Write
  pub rest : List Write
  pub parts : writes ≡ kept ++ (more ++ rest)
  pub stands : StandsFor rules c (h ++ (kept ++ more))

module _ {D : Type 0} {g : Ghosts D} where
  -- the device under a store
  abbrev pub device_of : Store D g → D
  device_of store = store.device

  -- its objects, in pages and in memory over them
  abbrev pub paged_of : Store D g → Paged
  paged_of store = store.paged

  -- whether a store serves: it does until its device fails, or damage is found
  abbrev pub serves : Store D g → Bool
  serves store = store.serves

  -- the numbers that a store keeps to
  abbrev pub kept_rules : Store D g → Rules
  kept_rules store = store.paged.core.rules

  -- these objects lie in its pages
  abbrev pub LiesUnder : Store D g → List (Key × Stored Decoded) → Type 0
  LiesUnder store base = paged.Below g.disk (device_of store) store.paged base

  -- what lies under one store lies under the other
  abbrev pub LiesStill : (old new : Store D g) → Type 0
  LiesStill old new = (base : List (Key × Stored Decoded)) → LiesUnder old base → LiesUnder new base

  -- what a store holds of its objects, with their plans
  abbrev pub Holds : Store D g → seen.View Decoded → Type 0
  Holds store held = paged.Holds g.disk (device_of store) store.paged held

  -- it shows a view
  abbrev pub IsShown : Store D g → View → Type 0
  IsShown store v = paged.IsShown g.disk (device_of store) store.paged v

  -- the revision that it shows
  abbrev pub revision_of : Store D g → ℕ
  revision_of store = store.paged.core.revision

  -- the root that counts on it
  abbrev pub root_of : Store D g → Root
  root_of store = paged.root_of store.paged

  -- the format of its file
  abbrev pub format_of : Store D g → Format
  format_of store = (root_of store).label.format

  -- the log behind the root's pages
  abbrev pub log_of : Store D g → Log
  log_of store = store.log

  -- At every moment since old a crash leaves the history, followed by some first ones of the writes.
  abbrev pub LeavesSome : Rules → (old new : Store D g) → History → List Write → Type 0
  LeavesSome rules old new h writes = LeavesOnly g.disk (device_of old) (device_of new) (IsFound rules h [] writes)

-- The store serves, keeps to these numbers, and shows this view, which is one as histories have it. Nothing is said of its device.
pub record ServesAt {D : Type 0} {g : Ghosts D} (rules : Rules) (store : Store D g) (v : View) : Type 0 where
  pub working : serves store ≡ true
  pub rules_are : kept_rules store ≡ rules
  pub shows : IsShown store v
  pub seen : IsView rules.format v

-- The store serves, keeps to these numbers and shows this history, and it would be found again, after a crash and without one.
pub record IsSettledAt {D : Type 0} {g : Ghosts D} (rules : Rules) (store : Store D g) (h : History) : Type 0 where
  pub working : serves store ≡ true
  pub rules_are : kept_rules store ≡ rules
  pub keeps : g.disk.keeps (device_of store)
  pub shows : IsShown store (view rules h)
  pub read : StandsFor rules (g.disk.content (device_of store)) h
  pub left : (c : List ℕ) → g.disk.left (device_of store) c → StandsFor rules c h

-- The store has stopped; a reader, and a crash, find the history, the kept writes and perhaps some of the next.
pub record IsLeftAt {D : Type 0} {g : Ghosts D} (rules : Rules) (store : Store D g) (h : History) (kept writes : List Write) : Type 0 where
  pub stopped : serves store ≡ false
  pub keeps : g.disk.keeps (device_of store)
  pub read : IsFound rules h kept writes (g.disk.content (device_of store))
  pub left : (c : List ℕ) → g.disk.left (device_of store) c → IsFound rules h kept writes c

-- ---- one request

-- A store that showed v has answered as the model does, serves, and shows what the request leaves. Its write was admitted just before it.
-- Where there is none, the device was read at most.
pub record HasReplyAt {D : Type 0} {g : Ghosts D} (rules : Rules) (old new : Store D g) (v : View) (a : Asked) (said : Reply) : Type 0 where
  pub reply : said ≡ reply rules v a
  pub serving : ServesAt rules new (after_all rules v (writes rules v a))
  pub untouched : writes rules v a ≡ [] → Ran g.disk (device_of old) (device_of new) Same
  pub admitted : AreAdmitted rules v (writes rules v a)

-- A store that was settled at the history is settled after the request.
pub record HasSettledAt {D : Type 0} {g : Ghosts D} (rules : Rules) (old new : Store D g) (h : History) (a : Asked) : Type 0 where
  pub settled : IsSettledAt rules new (h ++ writes rules (view rules h) a)
  pub moments : LeavesSome rules old new h (writes rules (view rules h) a)

-- What a request does to a store, with what stands in its document.
pub record HasReplied {D : Type 0} {g : Ghosts D} (old new : Store D g) (r : Request) (said : Reply) : Type 0 where
  pub specification : Specification Expr
  pub read : IsReadOf (format_of old) r specification
  pub root : root_of new ≡ root_of old
  -- at whatever view the store showed
  pub shown : (rules : Rules) (v : View) → ServesAt rules old v → HasReplyAt rules old new v (record { request = r; specification = specification }) said
  -- and where its device keeps the disk model
  pub settled : (rules : Rules) (h : History) → IsSettledAt rules old h → HasSettledAt rules old new h (record { request = r; specification = specification })

-- The device failed in the request: its write stands, or it does not.
pub record HasFailedAt {D : Type 0} {g : Ghosts D} (old new : Store D g) (r : Request) : Type 0 where
  pub specification : Specification Expr
  pub read : IsReadOf (format_of old) r specification
  pub untouched : (rules : Rules) (v : View) → ServesAt rules old v → writes rules v (record { request = r; specification = specification }) ≡ []
      → Ran g.disk (device_of old) (device_of new) Same
  pub left : (rules : Rules) (h : History) → IsSettledAt rules old h
      → IsLeftAt rules new h [] (writes rules (view rules h) (record { request = r; specification = specification }))
      × LeavesSome rules old new h (writes rules (view rules h) (record { request = r; specification = specification }))
  pub admitted : (rules : Rules) (v : View) → AreAdmitted rules v (writes rules v (record { request = r; specification = specification }))

-- ---- requests, one after the other

-- A store that showed v has answered as the model does, serves, and shows what the requests leave. Each write was admitted just before it.
-- Where there is none, the device was read at most.
pub record HasAnsweredAt {D : Type 0} {g : Ghosts D} (rules : Rules) (old new : Store D g) (v : View) (asked : List Asked) (given : List Reply) : Type 0 where
  pub serving : ServesAt rules new (after_all rules v (accepted rules v asked))
  pub answered : given ≡ replies rules v asked
  pub untouched : accepted rules v asked ≡ [] → Ran g.disk (device_of old) (device_of new) Same
  pub admitted : AreAdmitted rules v (accepted rules v asked)

-- A store that was settled at the history is settled after what was asked.
pub record HasServedAs {D : Type 0} {g : Ghosts D} (rules : Rules) (old new : Store D g) (h : History) (asked : List Asked) : Type 0 where
  pub settled : IsSettledAt rules new (h ++ added rules h asked)
  pub moments : LeavesSome rules old new h (added rules h asked)

-- A run from old has answered these requests, with what stands in their documents.
pub record HasServed {D : Type 0} {g : Ghosts D} (old new : Store D g) (requests : List Request) (given : List Reply) : Type 0 where
  pub asked : List Asked
  pub are : AreAsked (format_of old) requests asked
  pub root : root_of new ≡ root_of old
  pub shown : (rules : Rules) (v : View) → ServesAt rules old v → HasAnsweredAt rules old new v asked given
  pub settled : (rules : Rules) (h : History) → IsSettledAt rules old h → HasServedAs rules old new h asked

-- A store that was settled at the history has taken what was asked first of all, and its device failed in the rest.
pub record HasStoppedAs {D : Type 0} {g : Ghosts D} (rules : Rules) (old new : Store D g) (h : History) (done all : List Asked) : Type 0 where
  pub left : IsLeftAt rules new h (added rules h done) (added rules h all)
  pub moments : LeavesSome rules old new h (added rules h all)

-- A run from old has answered the first of these requests, and the device failed in the next, whose writes were to stand in one record. Nothing
-- was read of those after them.
pub record HasStopped {D : Type 0} {g : Ghosts D} (old new : Store D g) (requests : List Request) (given : List Reply) : Type 0 where
  pub asked : List Asked
  pub failing : List Asked
  pub some : 1 ≤ length failing
  pub few : length failing ≤ group_limit
  pub are : AreAsked (format_of old) (take (length given + length failing) requests) (asked ++ failing)
  pub shown : (rules : Rules) (v : View) → ServesAt rules old v
      → (given ≡ replies rules v asked)
      × (accepted rules v (asked ++ failing) ≡ [] → Ran g.disk (device_of old) (device_of new) Same)
      × AreAdmitted rules v (accepted rules v (asked ++ failing))
  pub stopped : (rules : Rules) (h : History) → IsSettledAt rules old h → HasStoppedAs rules old new h asked (asked ++ failing)

-- Damage was found in the request after those that a run from old has answered, and nothing was written for it, nor after it.
pub record HasFoundDamage {D : Type 0} {g : Ghosts D} (old new : Store D g) (requests : List Request) (given : List Reply) : Type 0 where
  -- the store that had answered them
  pub before : Store D g
  pub served : HasServed old before (take (length given) requests) given
  pub idle : Ran g.disk (device_of before) (device_of new) Same
