-- A response is written part by part.
use Rattle.std.proofs.Common.{◌≡◌, ℕ, List, [], ◌++◌, length, sym, ◌∙◌, append_assoc, Result}
use Rattle.std.specs.List.{flat_map}
use Rattle.httpmsg.specs.Flow.{TookSome, Writes}
use Rattle.httpmsg.specs.Response.{Response, front_lines, allow_line, warning_line, response_bytes}
use Rattle.httpmsg.proofs.Flows.{some_then, writes_then, writes_as}
use Rattle.httpmsg.proofs.Pieces.{parts_of, back_of}

module _ {S : Type 0} (took : S → S → List ℕ → Type 0)
    (took_none : (s : S) → took s s [])
    (took_then : (old mid new : S) (front back : List ℕ) → took old mid front → took mid new back → took old new (front ++ back)) where
  front : Response → List ℕ
  front r = front_lines r.status (length r.body)

  warnings : Response → List ℕ
  warnings r = flat_map warning_line r.warnings

  after_front : (r : Response) → response_bytes r ≡ front r ++ (allow_line r.allow ++ (warnings r ++ back_of r))
  unfolding front warnings
  after_front r = parts_of r

  after_allow : (r : Response) → response_bytes r ≡ (front r ++ allow_line r.allow) ++ (warnings r ++ back_of r)
  after_allow r = after_front r ∙ sym (append_assoc (front r) (allow_line r.allow) (warnings r ++ back_of r))

  after_warnings : (r : Response) → response_bytes r ≡ ((front r ++ allow_line r.allow) ++ warnings r) ++ back_of r
  after_warnings r = after_allow r ∙ sym (append_assoc (front r ++ allow_line r.allow) (warnings r) (back_of r))

  -- the second part fails
  pub allow_failed : (r : Response) (a b c : S) → took a b (front_lines r.status (length r.body)) → TookSome took b c (allow_line r.allow)
      → TookSome took a c (response_bytes r)
  unfolding front
  allow_failed r a b c first some =
      some_then took took_none took_then a b c (front r) (allow_line r.allow) (warnings r ++ back_of r) (response_bytes r) first some (after_front r)

  -- the third part fails
  pub warnings_failed : (r : Response) (a b c d : S) → took a b (front_lines r.status (length r.body)) → took b c (allow_line r.allow)
      → TookSome took c d (flat_map warning_line r.warnings) → TookSome took a d (response_bytes r)
  unfolding front warnings
  warnings_failed r a b c d first second some =
      some_then took took_none took_then a c d (front r ++ allow_line r.allow) (warnings r) (back_of r) (response_bytes r)
      (took_then a b c (front r) (allow_line r.allow) first second) some (after_allow r)

  -- the last part is written, or fails
  pub back_written : {T E : Type 0} (r : Response) (a b c d e : S) (result : Result T E) → took a b (front_lines r.status (length r.body))
      → took b c (allow_line r.allow) → took c d (flat_map warning_line r.warnings) → Writes took d e (back_of r) result
      → Writes took a e (response_bytes r) result
  unfolding front warnings
  back_written r a b c d e result first second third last =
      writes_as took took_none took_then a e (((front r ++ allow_line r.allow) ++ warnings r) ++ back_of r) (response_bytes r) result (sym (after_warnings r))
      (writes_then took took_none took_then a d e ((front r ++ allow_line r.allow) ++ warnings r) (back_of r) result
      (took_then a c d (front r ++ allow_line r.allow) (warnings r) (took_then a b c (front r) (allow_line r.allow) first second) third) last)
