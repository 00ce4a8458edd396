use Rattle.std.proofs.Common.{◌≡◌, ◌<◌, ◌+◌, ◌-◌, List, get_or, set, sym, ap, ◌∙◌, subst, arith, IsTrue, vec_len, vec_capacity}
use Rattle.std.specs.FinMap.{is_sorted}
use Rattle.std.specs.List.{insert}
use Rattle.std.specs.Option.{is_some}
use Rattle.std.specs.Prelude.{Some}
use Rattle.names.specs.Key.{Key, key_cmp}
use Rattle.objects.specs.Objects.{Objects, value_at}
use Rattle.objects.specs.Place.{StandsAt, IsGap}
use Rattle.objects.proofs.Edits.{found-some, found-put, gap-value, gap-put, sorted-with_value, value_at-with_value}
use Rattle.objects.proofs.objects.Objects.put.Goals as goal

-- the key was there, and its entry is replaced
entries-in-Ok : goal.returns-in-Ok-clause-entries
entries-in-Ok g c =
    let same : c.self.inside.entries.items ≡ c.args.self.now.entries = ap (λ (o : Objects g.row.T.Denot). o.entries) c.self.view_is in
    let found = subst (λ (k : Key). StandsAt c.args.self.now.entries k c.in-Ok.at) c.key.ensures c.in-Ok.ensures.found in
    (λ i. set (same i) c.in-Ok.at (c.replace.ensures.after i)) ∙ found-put c.args.self.now.entries c.args.entry.0 c.in-Ok.at found c.args.entry.1

pub returns-in-Ok-clause-entries : goal.returns-in-Ok-clause-entries
returns-in-Ok-clause-entries = entries-in-Ok

pub invariant_of-self : goal.invariant_of-self
invariant_of-self g c =
    let same : c.self.inside.entries.items ≡ c.args.self.now.entries = ap (λ (o : Objects g.row.T.Denot). o.entries) c.self.view_is in
    let sorted = subst (λ (es : List (Key × g.row.T.Denot)). IsTrue (is_sorted key_cmp es)) same c.self.invariant in
    subst (λ (es : List (Key × g.row.T.Denot)). IsTrue (is_sorted key_cmp es)) (sym (entries-in-Ok g c))
    (sorted-with_value c.args.self.now.entries c.args.entry.0 sorted c.args.entry.1)

pub returns-in-Ok-clause-value : goal.returns-in-Ok-clause-value
returns-in-Ok-clause-value g c =
    let same : c.self.inside.entries.items ≡ c.args.self.now.entries = ap (λ (o : Objects g.row.T.Denot). o.entries) c.self.view_is in
    let found = subst (λ (k : Key). StandsAt c.args.self.now.entries k c.in-Ok.at) c.key.ensures c.in-Ok.ensures.found in
    let entry = c.index_mut.result.now in
    let read : entry ≡ get_or c.args.self.now.entries c.in-Ok.at entry =
    c.index_mut.ensures.value ∙ ap (λ (es : List (Key × g.row.T.Denot)). get_or es c.in-Ok.at entry) same
    in
    ap (λ (x : g.row.T.Denot). Some x) c.into_value.ensures ∙ ap (λ (p : Key × g.row.T.Denot). Some p.1) c.replace.ensures.value
    ∙ found-some c.args.self.now.entries c.args.entry.0 c.in-Ok.at found entry read

-- the key is new, and its entry goes into the gap
value-in-Err : goal.returns-in-Err-clause-value
value-in-Err g c =
    let gap = subst (λ (k : Key). IsGap c.args.self.now.entries k c.in-Err.at) c.key.ensures c.in-Err.ensures.absent in
    sym (gap-value c.args.self.now.entries c.args.entry.0 c.in-Err.at gap)

pub returns-in-Err-clause-value : goal.returns-in-Err-clause-value
returns-in-Err-clause-value = value-in-Err

pub unwrap-requires : goal.unwrap-requires
unwrap-requires g c =
    let gap = subst (λ (k : Key). IsGap c.args.self.now.entries k c.in-Err.at) c.key.ensures c.in-Err.ensures.absent in
    let none = ap is_some (gap-value c.args.self.now.entries c.args.entry.0 c.in-Err.at gap) in
    let room : vec_capacity c.self.inside.entries - vec_len c.self.inside.entries ≡ c.args.self.now.room = ap (λ (o : Objects g.row.T.Denot). o.room) c.self.view_is in
    let positive : 0 < c.args.self.now.room = c.requires none in
    c.insert.ensures.succeeds (omega arith)

entries-in-Err : goal.returns-in-Err-clause-entries
entries-in-Err g c =
    let same : c.self.inside.entries.items ≡ c.args.self.now.entries = ap (λ (o : Objects g.row.T.Denot). o.entries) c.self.view_is in
    let gap = subst (λ (k : Key). IsGap c.args.self.now.entries k c.in-Err.at) c.key.ensures c.in-Err.ensures.absent in
    let inserted : c.insert.new.self.items ≡ insert c.self.inside.entries.items c.in-Err.at c.args.entry = rw c.unwrap.ensures at c.insert.ensures.items in
    inserted ∙ (λ i. insert (same i) c.in-Err.at c.args.entry) ∙ gap-put c.args.self.now.entries c.args.entry.0 c.in-Err.at gap c.args.entry.1

pub returns-in-Err-clause-entries : goal.returns-in-Err-clause-entries
returns-in-Err-clause-entries = entries-in-Err

pub invariant_of-self-in-Err : goal.invariant_of-self-in-Err
invariant_of-self-in-Err g c =
    let same : c.self.inside.entries.items ≡ c.args.self.now.entries = ap (λ (o : Objects g.row.T.Denot). o.entries) c.self.view_is in
    let sorted = subst (λ (es : List (Key × g.row.T.Denot)). IsTrue (is_sorted key_cmp es)) same c.self.invariant in
    subst (λ (es : List (Key × g.row.T.Denot)). IsTrue (is_sorted key_cmp es)) (sym (entries-in-Err g c))
    (sorted-with_value c.args.self.now.entries c.args.entry.0 sorted c.args.entry.1)

pub returns-in-Err-clause-room : goal.returns-in-Err-clause-room
returns-in-Err-clause-room g c =
    let none = ap is_some (sym (value-in-Err g c)) in
    let room : vec_capacity c.self.inside.entries - vec_len c.self.inside.entries ≡ c.args.self.now.room = ap (λ (o : Objects g.row.T.Denot). o.room) c.self.view_is in
    let positive : 0 < c.args.self.now.room = c.requires none in
    let longer : vec_len c.insert.new.self ≡ vec_len c.self.inside.entries + 1 = rw c.unwrap.ensures at c.insert.ensures.len in
    let same : vec_capacity c.insert.new.self ≡ vec_capacity c.self.inside.entries = (c.insert.ensures.in_place (omega arith)).1.0 in
    omega arith

pub returns-in-Ok-clause-map : goal.returns-in-Ok-clause-map
returns-in-Ok-clause-map g c = λ key. ap (value_at key) (entries-in-Ok g c) ∙ value_at-with_value c.args.entry.0 key c.args.self.now.entries c.args.entry.1

pub returns-in-Err-clause-map : goal.returns-in-Err-clause-map
returns-in-Err-clause-map g c = λ key. ap (value_at key) (entries-in-Err g c) ∙ value_at-with_value c.args.entry.0 key c.args.self.now.entries c.args.entry.1
