-- A store that has taken the writes of a group of requests, before they are on its device.
use Rattle.std.specs.Prelude.{◌≡◌, ◌≤◌, ◌+◌, ◌⊎◌, ℕ, List, [], ◌++◌, length, map, take, true, false, Option, Some, None, IfSome, vec_capacity}
use Rattle.std.specs.declared.alloc.Global.{Global}
use Rattle.std.specs.declared.vec.Vec.{Vec}
use Rattle.std.specs.List.{AllByRecursion}
use Rattle.device.specs.declared.device.Device.{Ghosts}
use Rattle.device.specs.Disk.{HasFailed}
use Rattle.device.specs.Run.{Ran}
use Rattle.device.specs.Step.{Same}
use Rattle.names.specs.declared.format.Rules.{Rules}
use Rattle.requests.specs.Request.{Request}
use Rattle.histories.specs.History as plain
use Rattle.histories.specs.Mapped.{mapped_write}
use Rattle.requests.specs.Reply.{Reply}
use Rattle.histories.specs.View.{after_all}
use Rattle.holdings.specs.Prepared.{writes_of}
use Rattle.holdings.specs.declared.prepared.PreparedWrite.{PreparedWrite}
use Rattle.records.specs.Gathered.{Gathers, count_of}
use Rattle.records.specs.Payload.{IsStorable}
use Rattle.records.specs.declared.group.Group.{Group}
use Rattle.celtree.specs.Tree.{Expr}
use Rattle.expressions.specs.Specification.{Specification}
use Rattle.decoded.specs.Decoded.{Decoded}
use Rattle.apicore.specs.Prepared.{IsReadOf}
use Rattle.decoded.specs.Shown.{plans_held}
use Rattle.decoded.specs.Standing.{Write, View, AllMayFollow, write_with_plans, recorded}
use Rattle.apicore.specs.Step.{Asked, writes, reply, accepted, replies}
use Rattle.durable.specs.declared.fault.Damage.{Damage}
use Rattle.durable.specs.declared.fault.Fault.{Fault}
use Rattle.durable.specs.declared.fault.Fault.TheVariants as Faults
use Rattle.durable.specs.declared.store.Store.{Store}
use Rattle.durable.specs.Called.{IsSteady}
use Rattle.durable.specs.Faults.{MayBeMet}
use Rattle.durable.specs.Settled.{device_of, root_of, format_of, serves, AreAsked, ServesAt, HasServed, HasStopped}

-- what a record says of writes
abbrev pub in_record : List Write → List (plain.Write (List ℕ))
in_record ws = map recorded (map write_with_plans ws)

-- and of a prepared one
abbrev pub prepared_in_record : Option (PreparedWrite Decoded) → List (plain.Write (List ℕ))
prepared_in_record asked = map recorded (map (mapped_write plans_held) (writes_of asked))

-- The writes may follow what is seen, and a record can hold each of them.
pub record CanBeAppended (rules : Rules) (v : View) (ws : List Write) : Type 0 where
  pub follow : AllMayFollow rules v ws
  pub storable : AllByRecursion IsStorable (in_record ws)

-- ---- one request

-- A store that showed v shows what the request leaves, and its writes are gathered after the others.
pub record HasSteppedAt {D : Type 0} {g : Ghosts D} (rules : Rules) (new : Store D g) (before now : Group) (v : View) (a : Asked) (said : Reply) : Type 0 where
  pub reply : said ≡ reply rules v a
  pub serving : ServesAt rules new (after_all rules v (writes rules v a))
  pub appendable : CanBeAppended rules v (writes rules v a)
  pub gathered : (ws : List (plain.Write (List ℕ))) → Gathers before ws → Gathers now (ws ++ in_record (writes rules v a))

-- What a request does to a store and to what its group has gathered, with what stands in its document.
pub record HasStepped {D : Type 0} {g : Ghosts D} (old new : Store D g) (before now : Group) (r : Request) (said : Reply) : Type 0 where
  pub specification : Specification Expr
  pub read : IsReadOf (format_of old) r specification
  pub root : root_of new ≡ root_of old
  pub shown : (rules : Rules) (v : View) → ServesAt rules old v → HasSteppedAt rules new before now v (record { request = r; specification = specification }) said

-- Nothing is told of the store and of the group that was not told before.
pub record StaysAs {D : Type 0} {g : Ghosts D} (old new : Store D g) (before now : Group) : Type 0 where
  pub serving : (rules : Rules) (v : View) → ServesAt rules old v → ServesAt rules new v
  pub gathered : (ws : List (plain.Write (List ℕ))) → Gathers before ws → Gathers now ws
  pub counted : count_of now ≡ count_of before
  pub root : root_of new ≡ root_of old

-- ---- the requests of a group

-- A store that showed v shows what the requests leave, and their writes are gathered.
pub record HasGatheredAt {D : Type 0} {g : Ghosts D} (rules : Rules) (new : Store D g) (group : Group) (v : View) (asked : List Asked) (given : List Reply) : Type 0 where
  pub answered : given ≡ replies rules v asked
  pub serving : ServesAt rules new (after_all rules v (accepted rules v asked))
  pub appendable : CanBeAppended rules v (accepted rules v asked)
  pub gathered : Gathers group (in_record (accepted rules v asked))

-- These requests are answered, with what stands in their documents, and nothing of it is on the device yet.
pub record HasGathered {D : Type 0} {g : Ghosts D} (old new : Store D g) (group : Group) (requests : List Request) (given : List Reply) : Type 0 where
  pub asked : List Asked
  pub are : AreAsked (format_of old) requests asked
  pub root : root_of new ≡ root_of old
  pub one_each : length given ≡ length asked
  pub few : count_of group ≤ length given
  pub shown : (rules : Rules) (v : View) → ServesAt rules old v → HasGatheredAt rules new group v asked given

-- The first requests of a group, up to one to which memory was refused, are answered after other replies, and nothing of it is on the device yet.
pub record HasGatheredMore {D : Type 0} {g : Ghosts D} (old new : Store D g) (group : Group) (requests : List Request) (before now : List Reply) : Type 0 where
  pub more : List Reply
  pub pushed : now ≡ before ++ more
  pub within : length more ≤ length requests
  pub gathered : HasGathered old new group (take (length more) requests) more

-- The first requests of a group, up to one to which memory was refused, are answered after other replies, and what they write is on the device.
pub record HasServedMore {D : Type 0} {g : Ghosts D} (old new : Store D g) (requests : List Request) (before now : List Reply) : Type 0 where
  pub more : List Reply
  pub pushed : now ≡ before ++ more
  pub within : length more ≤ length requests
  pub served : HasServed old new (take (length more) requests) more

-- The device failed in a group, of which nothing is answered.
pub record HasStoppedIn {D : Type 0} {g : Ghosts D} (old new : Store D g) (requests : List Request) : Type 0 where
  pub stopped : HasStopped old new requests []
  pub within : length stopped.failing ≤ length requests

-- A group is answered after other replies, up to a fault.
pub record HasAnswered {D : Type 0} {g : Ghosts D} (old new : Store D g) (requests : List Request) (before now : List Reply) (stop : Option Fault) : Type 0 where
  pub more : List Reply
  pub pushed : now ≡ before ++ more
  pub within : length more ≤ length requests
  pub all : stop ≡ None → (length more ≡ length requests)
  pub served : (stop ≡ None) ⊎ (stop ≡ Some Faults.Memory) → HasServed old new (take (length more) requests) more
  pub stopped : stop ≡ Some Faults.Device → (stopped : HasStopped old new requests more) × (length more + length stopped.failing ≤ length requests)

-- A group of this many requests has met this fault or none, and its replies stand after others. The store serves on unless its device fails, or damage is
-- found. That is only where no view is shown, and nothing is written then. Where all are answered, or memory was refused, no call of the device failed.
pub record HasMet {D : Type 0} {g : Ghosts D} (old new : Store D g) (asked : ℕ) (before now : Vec Reply Global) (stop : Option Fault) : Type 0 where
  pub damaged : (damage : Damage) → stop ≡ Some (Faults.Damaged damage) → (rules : Rules) (v : View) → ServesAt rules old v → ⊥
  pub damaged_ran : (damage : Damage) → stop ≡ Some (Faults.Damaged damage) → Ran g.disk (device_of old) (device_of new) Same
  pub all : stop ≡ None → length now.items ≡ length before.items + asked
  pub room : vec_capacity now ≡ vec_capacity before
  pub goes_on : (stop ≡ None) ⊎ (stop ≡ Some Faults.Memory) → serves new ≡ true
  pub stops : stop ≡ Some Faults.Device → serves new ≡ false
  pub damaged_stops : (damage : Damage) → stop ≡ Some (Faults.Damaged damage) → serves new ≡ false
  pub refusal : IfSome stop MayBeMet
  pub cause : stop ≡ Some Faults.Device → HasFailed g.disk (device_of old) (device_of new)
  pub count : g.disk.failures (device_of old) ≤ g.disk.failures (device_of new)
  pub steady : (stop ≡ None) ⊎ (stop ≡ Some Faults.Memory) → IsSteady old new
