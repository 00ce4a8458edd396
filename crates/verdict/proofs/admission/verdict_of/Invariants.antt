use Rattle.std.proofs.Common.{◌≡◌, ◌≤◌, List, map, take, drop, string_bytes}
use Rattle.std.specs.Prelude.{IfSome}
use Rattle.serde_json.specs.View.{view}
use Rattle.names.specs.Key.{Key}
use Rattle.policy.specs.Rules.{attempt_seen}
use Rattle.verdict.specs.Request.{request_of}
use Rattle.verdict.specs.Admission.{finding}
use Rattle.verdict.specs.Objects.{Held, Objects, HaveTrees}
use Rattle.verdict.specs.Deciding.{verdict_of}
use Rattle.verdict.specs.Deciding.{after_warnings}
use Rattle.verdict.proofs.Spoiling.{NoneAsks}
use Rattle.verdict.proofs.admission.verdict_of.Given as goal

-- the warnings so far, and then the verdict of the bindings that are left
abbrev pub invariant-loop-named : goal.invariant-loop-named
invariant-loop-named g l =
    ((objects : Objects) → g.L.Lookup.shows l.fn.lookup objects → HaveTrees objects
    → verdict_of (map (finding objects (attempt_seen l.attempt)) l.bindings)
    ≡ after_warnings (map string_bytes l.warnings.items) (verdict_of (map (finding objects (attempt_seen l.attempt)) (drop l.named-index l.bindings))))
    × ((objects : Objects) → g.L.Lookup.shows l.fn.lookup objects → g.L.Lookup.shows l.lookup objects)
    × g.L.Lookup.goes_to l.fn.lookup l.lookup
    × (g.L.Lookup.failures l.fn.lookup ≤ g.L.Lookup.failures l.lookup)
    × IfSome l.request (λ d. view d ≡ request_of (attempt_seen l.attempt))
    × g.L.Lookup.unfailed l.fn.lookup l.lookup
    × ((all : List (Key × Held)) → g.L.Lookup.lends l.fn.lookup all → NoneAsks all (attempt_seen l.attempt) (take l.named-index l.bindings))
