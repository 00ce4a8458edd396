use Rattle.std.proofs.Common.{rules, ◌≡◌, ◌∙◌, ap, ℕ, List, [], ◌∷◌, ◌++◌}
use Rattle.std.proofs.lemmas.List.{map_push}
use Rattle.std.specs.declared.alloc.Global.{Global}
use Rattle.std.specs.declared.vec.Vec.{Vec}
use Rattle.names.specs.Key.{Key}
use Rattle.handing.specs.Cells.{cells_in}
use Rattle.snapshots.proofs.cells.CellReaderReader.entry.Goals as goal

pub returns-clause-told : goal.returns-clause-told
returns-clause-told c =
    let key = c.in_ok-object_key.object_key in
    let before : List (Key × List ℕ) = cells_in c.args.self.now.cells.items in
    let same : c.in_ok-cell.cell.items ≡ c.args.cell.now = search rules in
    record {
      cells = (key, c.args.cell.now) ∷ [];
      added =
          ap cells_in c.in_ok-push.ensures.items
          ∙ map_push (λ (pair : Key × Vec ℕ Global). (pair.0, pair.1.items)) c.args.self.now.cells.items (key, c.in_ok-cell.cell)
          ∙ ap (λ (bytes : List ℕ). before ++ (key, bytes) ∷ []) same;
      are = λ i. (c.in_ok-object_key.ensures.bytes i, c.args.cell.now) ∷ [];
      keys = (c.in_ok-object_key.ensures.key, tt);
    }
