use Rattle.std.proofs.Common.{◌≡◌, map}
use Rattle.serde_json.specs.View.{members_view}
use Rattle.policy.specs.Forms.{all_among}
use Rattle.policy.proofs.form.all_among.Given as goal

-- what is left decides
abbrev pub invariant-loop-name : goal.invariant-loop-name
invariant-loop-name l = all_among (map (λ n. n.now) l.names) (members_view l.name-iterator) ≡ all_among (map (λ n. n.now) l.names) (members_view l.members.entries)
