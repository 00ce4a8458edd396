use Rattle.std.proofs.Common.{rules, refl, ◌≡◌, ◌∙◌, sym, ap, subst, ℕ, List, [], ◌∷◌, ◌++◌, drop, map, Option}
use Rattle.std.proofs.lemmas.Bool.{true≢false}
use Rattle.std.proofs.lemmas.List.{map_push}
use Rattle.std.specs.FinMap.{is_sorted}
use Rattle.std.specs.declared.alloc.Global.{Global}
use Rattle.std.specs.declared.vec.Vec.{Vec}
use Rattle.checkpoint.specs.EntryList.{listed}
use Rattle.names.specs.Key.{Key, key_bytes, key_cmp}
use Rattle.objects.specs.Merged.{merged}
use Rattle.objects.specs.Steps.{put_by, IsNext}
use Rattle.objects.proofs.Taking.{step_changed, step_kept}
use Rattle.histories.specs.declared.stored.Stored.{Stored}
use Rattle.handing.proofs.HandedOn.{next_first}
use Rattle.handing.proofs.merging.add_cell.Goals as goal

pub returns-then-is_next-clause-added : goal.returns-then-is_next-clause-added
returns-then-is_next-clause-added g c stored is =
    let changes = c.args.changes.now in
    let change = c.index-changes-0.result in
    let next : IsNext c.args.key changes = c.is_next.ensures.0 c.if-is_next.true in
    let first = next_first c.args.key changes change next c.index-changes-0.is in
    record {
      objects = put_by change;
      added = c.in_ok-add_put.ensures;
      are = λ base sorted none above.
          step_changed c.args.key stored [] (put_by change) change (drop 1 changes) base refl first.1 (ap (is_sorted key_cmp) (sym first.0) ∙ sorted) above
          ∙ ap (λ (cs : List (Key × Option (Stored g.row.P.Denot))). merged cs ((c.args.key, stored) ∷ base)) (sym first.0);
    }

pub returns-clause-added : goal.returns-clause-added
returns-clause-added g c stored is =
    let changes = c.args.changes.now in
    record {
      objects = (c.args.key, stored) ∷ [];
      added =
          ap listed c.in_ok-push.ensures.items
          ∙ map_push (λ (pair : Vec ℕ Global × Vec ℕ Global). (pair.0.items, pair.1.items)) c.args.entries.now.items (c.in_ok-object_key.field-0, c.args.cell)
          ∙ (λ i. listed c.args.entries.now.items ++ (c.in_ok-object_key.ensures i, is i) ∷ []);
      are = λ base sorted none above.
          step_kept c.args.key stored [] ((c.args.key, stored) ∷ []) changes base refl (λ next. true≢false (sym (c.is_next.ensures.1 next) ∙ c.if-is_next.false)) sorted none;
    }
