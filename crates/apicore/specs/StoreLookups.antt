-- A core over a source, as objects are looked up in them.
use Rattle.std.specs.Prelude.{◌≡◌, List, map, IsTrue}
use Rattle.std.proofs.Common.{refl, sym, subst, ◌∙◌}
use Rattle.std.specs.FinMap.{is_sorted}
use Rattle.names.specs.Key.{Key, key_cmp}
use Rattle.histories.specs.declared.stored.Stored.{Stored}
use Rattle.histories.specs.View as seen
use Rattle.holdings.specs.Holdings as holdings
use Rattle.verdict.specs.Objects.{Held, Objects, all_held}
use Rattle.decoded.specs.Decoded.{Decoded}
use Rattle.decoded.specs.Shown.{HasNoRules}
use Rattle.apicore.specs.declared.store_lookup.StoreLookup.{StoreLookup}
use Rattle.apicore.specs.Looked.{Base}

-- what is stored, as a lookup finds it
abbrev pub held_of : Stored Decoded → Held
held_of s = record { document = s.document; policy = s.beside.policy; plans = s.beside.plans; binding = s.beside.binding; revision = s.revision }

abbrev pub entry_held : Key × Stored Decoded → Key × Held
entry_held o = (o.0, held_of o.1)

-- Over what the source holds, the core has these objects, with the plans of their trees, and their keys ascend.
pub record Sees {S : Type 0} (holds : S → List (Key × Stored Decoded) → Type 0) (s : StoreLookup S) (objects : Objects) : Type 0 where
  pub base : List (Key × Stored Decoded)
  pub below : holds s.source.now base
  pub free : HasNoRules base
  pub held : seen.View Decoded
  pub shows : holdings.Shows s.core.now base held
  pub are : map entry_held held.objects ≡ all_held objects
  pub ascends : IsTrue (is_sorted key_cmp objects)

-- The core has these objects, whatever their plans are, over objects among which no policy and no binding lies.
pub record Lends {S : Type 0} (s : StoreLookup S) (all : List (Key × Held)) : Type 0 where
  pub base : List (Key × Stored Decoded)
  pub free : HasNoRules base
  pub held : seen.View Decoded
  pub shows : holdings.Shows s.core.now base held
  pub are : map entry_held held.objects ≡ all

-- What is seen is lent.
pub lends_shown : {S : Type 0} (holds : S → Base → Type 0) (s : StoreLookup S) (objects : Objects) → Sees holds s objects → Lends s (all_held objects)
lends_shown holds s objects sees = record { base = sees.base; free = sees.free; held = sees.held; shows = sees.shows; are = sees.are }

-- Looks leave the core as it is, and the same source, of which they make what they may.
pub record Goes {S : Type 0} (holds : S → List (Key × Stored Decoded) → Type 0) (goes_to : S → S → Type 0) (before after : StoreLookup S) : Type 0 where
  pub core : after.core.now ≡ before.core.now
  pub same : after.source.ghost_name ≡ before.source.ghost_name
  pub kept : (base : List (Key × Stored Decoded)) → holds before.source.now base → holds after.source.now base
  pub goes : goes_to before.source.now after.source.now

module _ {S : Type 0} (holds : S → Base → Type 0) (goes_to : S → S → Type 0) where
  pub stays : ((s : S) → goes_to s s) → (s : StoreLookup S) → Goes holds goes_to s s
  stays itself s = record { core = refl; same = refl; kept = λ _ below. below; goes = itself s.source.now }

  pub goes_on : ((a b c : S) → goes_to a b → goes_to b c → goes_to a c) → (a b c : StoreLookup S) → Goes holds goes_to a b → Goes holds goes_to b c → Goes holds goes_to a c
  goes_on further a b c first second = record {
    core = second.core ∙ first.core;
    same = second.same ∙ first.same;
    kept = λ base below. second.kept base (first.kept base below);
    goes = further a.source.now b.source.now c.source.now first.goes second.goes;
  }

  pub lends_on : (a b : StoreLookup S) (all : List (Key × Held)) → Goes holds goes_to a b → Lends a all → Lends b all
  lends_on a b all goes lends =
      let Shown : holdings.State Decoded → Type 0 = λ core. holdings.Shows core lends.base lends.held in
      record { base = lends.base; free = lends.free; held = lends.held; shows = subst Shown (sym goes.core) lends.shows; are = lends.are }
