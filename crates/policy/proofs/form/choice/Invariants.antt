use Rattle.std.proofs.Common.{◌≡◌, map, drop}
use Rattle.policy.specs.Forms.{row_of}
use Rattle.policy.proofs.form.choice.Given as goal

-- what is left decides
abbrev pub invariant-loop-row : goal.invariant-loop-row
invariant-loop-row g l = row_of (map (λ row. (row.0.now, row.1)) (drop l.row-index l.rows)) l.text ≡ row_of (map (λ row. (row.0.now, row.1)) l.rows) l.text
