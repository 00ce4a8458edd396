use Rattle.std.proofs.Common.{rules, arith, ◌≡◌, ◌∙◌, sym, ap, subst, map, take, ◌+◌, ◌++◌, ◌∷◌, [], List, ℕ, Vec, Global}
use Rattle.std.proofs.lemmas.List.{map_more, take_all}
use Rattle.std.specs.Prelude.{IsErrOf}
use Rattle.names.specs.Key.{Key}
use Rattle.records.specs.declared.fault.RecordFault.TheVariants as RecordFault
use Rattle.records.specs.Frames.{IsFramed}
use Rattle.recovery.specs.Known.{AreKeysOf}
use Rattle.recovery.proofs.Written.{keys_more, all_told, told_only}
use Rattle.recovery.proofs.Knowing.{contains_at}
use Rattle.recovery.proofs.keys.written_keys.Goals as goal

abbrev items : Vec ℕ Global → List ℕ
items v = v.items

pub returns-in_err-own-clause-damaged : goal.returns-in_err-own-clause-damaged
returns-in_err-own-clause-damaged c = λ is_damaged.
    let told : IsErrOf c.read_keys.result RecordFault.Damaged = search rules in
    let x = c.payload-item.result in
    let Unframed : List ℕ → Type 0 = λ p. (keys : List Key) → IsFramed p keys → ⊥ in
    (x.items, contains_at items c.args.payloads.now c.loop-payload.payload-index x (omega arith) c.payload-item.is, subst Unframed c.deref.ensures.value (c.read_keys.ensures.damaged told))

pub loop-payload-preserved : goal.loop-payload-preserved
loop-payload-preserved c =
    let i = c.loop-payload.payload-index in
    let xs = c.args.payloads.now in
    let x = c.payload-item.result in
    let more : map items (take (i + 1) xs) ≡ map items (take i xs) ++ x.items ∷ [] =
    map_more items xs i x (omega arith) ∙ ap (λ (v : Vec ℕ Global). map items (take i xs) ++ v.items ∷ []) (sym c.payload-item.is)
    in
    let Framed : List ℕ → Type 0 = λ p. IsFramed p c.in_ok-own.own.items in
    let Of : List (List ℕ) → Type 0 = λ ps. AreKeysOf ps (c.loop-payload.keys.items ++ c.in_ok-own.own.items) in
    let now = subst Of (sym more) (keys_more (map items (take i xs)) x.items c.loop-payload.keys.items c.in_ok-own.own.items c.loop-payload.invariant
    (subst Framed c.deref.ensures.value c.in_ok-own.ensures.framed)) in
    let Keys : List Key → Type 0 = λ ks. AreKeysOf (map items (take (i + 1) xs)) ks in
    let added : c.append.new.self.items ≡ c.loop-payload.keys.items ++ c.in_ok-own.own.items = search rules in
    subst Keys (sym added) now

pub returns-clause-keys : goal.returns-clause-keys
returns-clause-keys c =
    let Of : List (Vec ℕ Global) → Type 0 = λ ps. AreKeysOf (map items ps) c.loop-payload.keys.items in
    subst Of (take_all c.loop-payload.payload-index c.args.payloads.now c.loop-payload-test.false) c.loop-payload.invariant

pub returns-clause-all : goal.returns-clause-all
returns-clause-all c =
    let Of : List (Vec ℕ Global) → Type 0 = λ ps. AreKeysOf (map items ps) c.loop-payload.keys.items in
    all_told (map items c.args.payloads.now) c.loop-payload.keys.items
    (subst Of (take_all c.loop-payload.payload-index c.args.payloads.now c.loop-payload-test.false) c.loop-payload.invariant)

pub returns-clause-only : goal.returns-clause-only
returns-clause-only c =
    let Of : List (Vec ℕ Global) → Type 0 = λ ps. AreKeysOf (map items ps) c.loop-payload.keys.items in
    told_only (map items c.args.payloads.now) c.loop-payload.keys.items
    (subst Of (take_all c.loop-payload.payload-index c.args.payloads.now c.loop-payload-test.false) c.loop-payload.invariant)
