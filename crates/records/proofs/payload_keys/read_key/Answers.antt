use Rattle.std.proofs.Common.{rules, ◌≡◌, ◌∙◌, refl, ap, ℕ, List, ◌∷◌, ◌++◌, IsTrue}
use Rattle.std.proofs.lemmas.Result.{IfOk-weaker}
use Rattle.names.specs.Key.{is_key, key_bytes}
use Rattle.fields.specs.Field.{field}
use Rattle.records.specs.Frames.{Frame, put_frame, delete_frame, key_in, frame_bytes, IsFrame}
use Rattle.records.proofs.Parts.{all-ok}
use Rattle.records.proofs.Frames.{rest-of_put_frame}
use Rattle.records.proofs.payload_keys.read_key.Goals as goal

pub returns-in-1-clause-frame : goal.returns-in-1-clause-frame
returns-in-1-clause-frame c =
    let whole : 1 ∷ c.in-Some.fields.now ≡ c.args.bytes.now = search rules in
    IfOk-weaker c.read_key_of_put.result _ _
    (λ p put. (
      put_frame p.0 put.0 put.1,
      (put.4, put.2, put.3),
      refl,
      ap (λ (x : List ℕ). 1 ∷ x) (rest-of_put_frame p.0 put.0 put.1 p.1.now ∙ put.5) ∙ whole,
    )) c.read_key_of_put.ensures.frame

pub returns-in-2-clause-frame : goal.returns-in-2-clause-frame
returns-in-2-clause-frame c =
    let whole : 2 ∷ c.in-Some.fields.now ≡ c.args.bytes.now = search rules in
    all-ok c.read_key_field.result (λ r. field 2 (key_bytes r.0) ++ r.1.now ≡ c.in-Some.fields.now) (λ r. IsTrue (is_key r.0))
    (λ p. (f : Frame) × IsFrame f × (key_in f ≡ p.0) × (frame_bytes f ++ p.1.now ≡ c.args.bytes.now)) c.read_key_field.ensures.field c.read_key_field.ensures.form
    (λ p same is. (delete_frame p.0, is, refl, ap (λ (x : List ℕ). 2 ∷ x) same ∙ whole))
