-- Whole lives of a store: episodes, one after the other, each of which opens it and ends with a crash.
use Rattle.std.specs.Prelude.{◌≡◌, ◌≤◌, ◌+◌, ◌⊎◌, ℕ, List, [], ◌∷◌, ◌++◌, length, map, take}
use Rattle.names.specs.declared.format.Rules.{Rules}
use Rattle.requests.specs.Request.{Request}
use Rattle.requests.specs.RequestOf.{request_of}
use Rattle.histories.specs.View.{view}
use Rattle.records.specs.Payload.{group_limit}
use Rattle.decoded.specs.Standing.{Write, History}
use Rattle.apicore.specs.Admitted.{AreAdmitted}
use Rattle.apicore.specs.Step.{Asked, replies}
use Rattle.durable.specs.declared.episodes.Episode.{Episode}
use Rattle.durable.specs.declared.episodes.Found.{Found}
use Rattle.durable.specs.Stands.{StandsFor}
use Rattle.durable.specs.Settled.{added, AreAsked}

-- the requests of an episode
abbrev pub requests_of : Episode → List Request
requests_of e = map request_of e.requests.items

-- An episode that begins at a history. At its opening it shows the history's revision. It gives the model's replies to all its requests, or to the
-- first of them, and the device failed in the next, which stand in one record; nothing was read of those after them. What lasts of it are the first
-- of the writes that were accepted, in order, none skipped, each write whose reply was given among them, and each admitted just before it.
pub record IsEpisode (rules : Rules) (h : History) (e : Episode) (f : Found) (lasting : List Write) : Type 0 where
  pub revision : f.revision ≡ (view rules h).revision
  -- the requests, with what stands in their documents
  pub answered : List Asked
  pub failing : List Asked
  pub few : length failing ≤ group_limit
  pub are : AreAsked rules.format (take (length f.replies.items + length failing) (requests_of e)) (answered ++ failing)
  pub all : (length f.replies.items ≡ length (requests_of e)) ⊎ (1 ≤ length failing)
  pub replies : f.replies.items ≡ replies rules (view rules h) answered
  -- the writes
  pub beyond : List Write
  pub lost : List Write
  pub acknowledged : lasting ≡ added rules h answered ++ beyond
  pub prefix : added rules h (answered ++ failing) ≡ lasting ++ lost
  pub admitted : AreAdmitted rules (view rules h) lasting

-- The content stands for the history and what lasts of the episode.
pub record EpisodeLeaves (rules : Rules) (h : History) (e : Episode) (f : Found) (content : List ℕ) : Type 0 where
  pub lasting : List Write
  pub is : IsEpisode rules h e f lasting
  pub stands : StandsFor rules content (h ++ lasting)

-- Episodes from a history: each begins at the history that the one before left.
abbrev pub LivesFrom : Rules → History → List Episode → List Found → Type 0
LivesFrom rules h [] [] = Unit {0}
LivesFrom rules h [] (f ∷ fs) = ⊥
LivesFrom rules h (e ∷ es) [] = ⊥
LivesFrom rules h (e ∷ es) (f ∷ fs) = (lasting : List Write) × IsEpisode rules h e f lasting × LivesFrom rules (h ++ lasting) es fs
