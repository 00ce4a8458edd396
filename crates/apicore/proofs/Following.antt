-- What requests write may follow.
use Rattle.std.proofs.Common.{◌≡◌, ◌≤◌, ◌^◌, List, [], ◌∷◌, ◌++◌, Bool, true, false, cond, map, is_some, IsTrue, refl, sym, ap, subst, ◌∙◌, append_assoc}
use Rattle.names.specs.Format.{has_resource}
use Rattle.names.specs.declared.format.Rules.{Rules}
use Rattle.names.specs.Key.{is_key}
use Rattle.requests.specs.declared.refusal.Refusal.TheVariants.{BadSpec}
use Rattle.requests.specs.Codes.{document_in}
use Rattle.requests.specs.Request.{Request, get, list, watch, create, replace, delete, refused, RequestHasForm}
use Rattle.histories.specs.History as write
use Rattle.histories.specs.History.{put}
use Rattle.histories.specs.View as seen
use Rattle.histories.specs.Mapped.{mapped_write}
use Rattle.histories.proofs.Mapping.{all_mapped}
use Rattle.holdings.specs.Prepared.{writes_of}
use Rattle.decoded.specs.Decoded.{Decoded}
use Rattle.decoded.specs.Shown.{plans_held, Shows}
use Rattle.decoded.specs.Standing.{plans_beside, with_plans}
use Rattle.histories.specs.View.{exists, is_too_large, is_full, is_exhausted, after_all, empty, view}
use Rattle.histories.proofs.ViewLemmas.{after_all-append}
use Rattle.celtree.specs.Tree.{Expr}
use Rattle.expressions.specs.Specification.{Specification, bad_spec, bad_expression}
use Rattle.expressions.specs.Specification as beside
use Rattle.decoded.specs.Standing.{Write, History, View, AllMayFollow, IsHistory}
use Rattle.decoded.proofs.Following.{AllMayFollow-append}
use Rattle.apicore.specs.Conditions.{known, with_bad_expression, place_conditions, create_conditions, replace_conditions, asks_for, put_of, update_conflicts, deletion_conflicts}
use Rattle.apicore.specs.Prepared.{IsReadOf, IsStepOf}
use Rattle.apicore.specs.declared.prepared.Prepared.{Prepared}
use Rattle.apicore.specs.Namespaces.{lacks_namespace, is_in_use}
use Rattle.apicore.proofs.Conditions.{form_of, put_follows, replaced_follows, deleted_follows, nothing_follows, bad_form}
use Rattle.apicore.specs.Step.{Asked, verdict_conditions, verdict_of, writes, refusal, reply, accepted, replies, step, runs}

-- what a request writes may follow
pub AllMayFollow-writes : (rules : Rules) (v : View) (r : Request) (s : Specification Expr) → rules.text_limit_bytes ≤ 2 ^ 24 → RequestHasForm r → IsReadOf rules.format r s
    → AllMayFollow rules v (writes rules v (record { request = r; specification = s }))
AllMayFollow-writes rules v (refused r) s limit form read = tt
AllMayFollow-writes rules v (get k) s limit form read = nothing_follows rules v (is_some (refusal rules v (record { request = get k; specification = s })))
AllMayFollow-writes rules v (list c selector) s limit form read = nothing_follows rules v (is_some (refusal rules v (record { request = list c selector; specification = s })))
AllMayFollow-writes rules v (watch c revision) s limit form read = nothing_follows rules v (is_some (refusal rules v (record { request = watch c revision; specification = s })))
AllMayFollow-writes rules v (create m) (beside.sound trees) limit form read =
    put_follows rules v m.key (document_in m.body) trees (verdict_conditions (verdict_of v (asks_for (create m) (beside.sound trees)))) (form_of m.key m.body form) limit read
    (has_resource rules.format m.key.resource) (lacks_namespace rules v m.key) (exists v m.key) (is_too_large rules (document_in m.body)) (is_full rules v) (is_exhausted rules v) refl refl refl refl
AllMayFollow-writes rules v (create m) bad_spec limit form read =
    bad_form rules v (place_conditions rules v m.key ++ create_conditions v m.key) (known BadSpec) (asks_for (create m) bad_spec)
AllMayFollow-writes rules v (create m) (bad_expression t) limit form read =
    bad_form rules v (place_conditions rules v m.key ++ create_conditions v m.key) (with_bad_expression t) (asks_for (create m) (bad_expression t))
AllMayFollow-writes rules v (replace m) (beside.sound trees) limit form read =
    replaced_follows rules v m.key (document_in m.body) trees (verdict_conditions (verdict_of v (asks_for (replace m) (beside.sound trees)))) (form_of m.key m.body form) limit read
    (has_resource rules.format m.key.resource) (lacks_namespace rules v m.key) (exists v m.key) (update_conflicts v m.key m.version) (is_too_large rules (document_in m.body)) (is_exhausted rules v) refl refl refl refl
AllMayFollow-writes rules v (replace m) bad_spec limit form read =
    bad_form rules v (place_conditions rules v m.key ++ replace_conditions v m.key m.version) (known BadSpec) (asks_for (replace m) bad_spec)
AllMayFollow-writes rules v (replace m) (bad_expression t) limit form read =
    bad_form rules v (place_conditions rules v m.key ++ replace_conditions v m.key m.version) (with_bad_expression t) (asks_for (replace m) (bad_expression t))
AllMayFollow-writes rules v (delete k asked) s limit form read =
    deleted_follows rules v k (verdict_conditions (verdict_of v (asks_for (delete k asked) s))) (exists v k) (deletion_conflicts v k asked) (is_in_use v k) (is_exhausted rules v) refl refl

-- ---- the key of a deletion

abbrev pub IsKeyOf : Write → Type 0
IsKeyOf (put k d trees) = Unit {0}
IsKeyOf (write.delete k) = IsTrue (is_key k)

written_if : (b : Bool) (w : Write) (ws : List Write) → cond b [] ws ≡ w ∷ [] → ws ≡ w ∷ []
written_if true w ws is = absurd (let never : ◌≡◌ {A = List Write} [] (w ∷ []) = is in cc)
written_if false w ws is = is

key_if : (v w : Write) → IsKeyOf v → v ∷ [] ≡ w ∷ [] → IsKeyOf w
key_if v w key is = let same : v ≡ w = cc in let P : Write → Type 0 = λ x. IsKeyOf x in subst P same key

-- the key that a request deletes is well-formed
pub key_of_written : (rules : Rules) (v : View) (r : Request) (s : Specification Expr) (w : Write) → RequestHasForm r → writes rules v (record { request = r; specification = s }) ≡ w ∷ [] → IsKeyOf w
key_of_written rules v (refused x) s w form is = absurd (let never : ◌≡◌ {A = List Write} [] (w ∷ []) = is in cc)
key_of_written rules v (get l) s w form is = absurd (let never : ◌≡◌ {A = List Write} [] (w ∷ []) = written_if (is_some (refusal rules v (record { request = get l; specification = s }))) w [] is in cc)
key_of_written rules v (list c selector) s w form is = absurd (let never : ◌≡◌ {A = List Write} [] (w ∷ []) = written_if (is_some (refusal rules v (record { request = list c selector; specification = s }))) w [] is in cc)
key_of_written rules v (watch c revision) s w form is = absurd (let never : ◌≡◌ {A = List Write} [] (w ∷ []) = written_if (is_some (refusal rules v (record { request = watch c revision; specification = s }))) w [] is in cc)
key_of_written rules v (create m) s w form is = key_if (put_of m s) w tt (written_if (is_some (refusal rules v (record { request = create m; specification = s }))) w (put_of m s ∷ []) is)
key_of_written rules v (replace m) s w form is = key_if (put_of m s) w tt (written_if (is_some (refusal rules v (record { request = replace m; specification = s }))) w (put_of m s ∷ []) is)
key_of_written rules v (delete k asked) s w form is = key_if (write.delete k) w form (written_if (is_some (refusal rules v (record { request = delete k asked; specification = s }))) w (write.delete k ∷ []) is)

-- ---- histories

pub IsHistory-step : (rules : Rules) (h : History) (a : Asked) → rules.text_limit_bytes ≤ 2 ^ 24 → IsHistory rules h → RequestHasForm a.request → IsReadOf rules.format a.request a.specification
    → IsHistory rules (step rules h a).0
IsHistory-step rules h a limit before form read =
    AllMayFollow-append rules empty h (writes rules (view rules h) a) before (AllMayFollow-writes rules (view rules h) a.request a.specification limit form read)

pub view-step : (rules : Rules) (h : History) (a : Asked) → view rules (step rules h a).0 ≡ after_all rules (view rules h) (writes rules (view rules h) a)
view-step rules h a = after_all-append rules empty h (writes rules (view rules h) a)

pub view_decides_step : (rules : Rules) (g h : History) (a : Asked) → view rules g ≡ view rules h
    → ((step rules g a).1 ≡ (step rules h a).1) × (view rules (step rules g a).0 ≡ view rules (step rules h a).0)
view_decides_step rules g h a same = (
  ap (λ v. reply rules v a) same,
  view-step rules g a ∙ ap (λ v. after_all rules v (writes rules v a)) same ∙ sym (view-step rules h a),
)

pub runs_are_steps : (rules : Rules) (h : History) (a : Asked) (rest : List Asked)
    → ((runs rules h (a ∷ rest)).0 ≡ (runs rules (step rules h a).0 rest).0)
    × ((runs rules h (a ∷ rest)).1 ≡ (step rules h a).1 ∷ (runs rules (step rules h a).0 rest).1)
runs_are_steps rules h a rest =
    let ws : List Write = writes rules (view rules h) a in
    let seen : view rules (h ++ ws) ≡ after_all rules (view rules h) ws = view-step rules h a in (
      sym (append_assoc h ws (accepted rules (after_all rules (view rules h) ws) rest)) ∙ ap (λ v. (h ++ ws) ++ accepted rules v rest) (sym seen),
      ap (λ v. reply rules (view rules h) a ∷ replies rules v rest) (sym seen),
    )

pub prepared_step : (rules : Rules) (h : History) (held : seen.View Decoded) (a : Asked) (p : Prepared) → Shows held (view rules h) → IsStepOf rules held (view rules h) a p
    → (p.reply ≡ (step rules h a).1) × Shows (after_all rules held (writes_of p.write)) (view rules (step rules h a).0)
prepared_step rules h held a p shows is =
    let v = view rules h in (
      is.reply,
      all_mapped plans_held rules held (writes_of p.write)
          ∙ ap (λ (u : seen.View Decoded). after_all rules u (map (mapped_write plans_held) (writes_of p.write))) shows
          ∙ ap (λ (ws : List (write.Write Decoded)). after_all rules (with_plans v) ws) is.writes
          ∙ sym (all_mapped plans_beside rules v (writes rules v a))
          ∙ ap (λ (u : View). with_plans u) (sym (view-step rules h a)),
    )
