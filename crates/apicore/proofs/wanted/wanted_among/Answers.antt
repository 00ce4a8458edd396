use Rattle.std.proofs.Common.{◌≡◌, map, ◌∙◌, rules}
use Rattle.std.proofs.lemmas.Grind.{common_steps}
use Rattle.std.specs.List.{filter_map}
use Rattle.policy.specs.Spec.{wanted_seen}
use Rattle.verdict.specs.LookupSeen.{listed_seen}
use Rattle.apicore.specs.Wanted.{if_wanted}
use Rattle.apicore.proofs.Among.{wanted_held}
use Rattle.apicore.proofs.wanted.wanted_among.Goals as goal

pub returns : goal.returns
returns c =
    let wanted = wanted_seen c.args.wanted.now in
    let all : c.loop-entry.documents.items ≡ filter_map (if_wanted wanted) (map listed_seen c.args.listed.now) = search (rules, common_steps) in
    all ∙ wanted_held wanted (map listed_seen c.args.listed.now)
