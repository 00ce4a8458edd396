use Rattle.std.proofs.Common.{◌≡◌, ℕ, List, ◌++◌, length, ap, sym, ◌∙◌, subst}
use Rattle.std.specs.String.{string_bytes}
use Rattle.std.specs.List.{flat_map}
use Rattle.std.proofs.lemmas.List.Folds.{flat_map-map}
use Rattle.httpmsg.specs.Flow.{TookSome, Writes}
use Rattle.httpmsg.specs.Response.{Response, crlf, front_lines, allow_line, warning_line, close_line, content, response_bytes}
use Rattle.httpmsg.proofs.Flows.{some_front}
use Rattle.httpmsg.proofs.Pieces.{parts_of, back_of}
use Rattle.httpmsg.proofs.Parts.{allow_failed, warnings_failed, back_written}
use Rattle.httpmsg.proofs.response.Response.write.Goals.{In-Err, In-Ok, In-Err-write_allow, In-Ok-write_allow, In-Err-write_warnings, In-Ok-write_warnings}
use Rattle.httpmsg.proofs.response.Response.write.Goals as goal

pub returns-in-Err-clause-writes : goal.returns-in-Err-clause-writes
returns-in-Err-clause-writes g c =
    let r : Response = c.args.self.now in
    let front_is : front_lines c.self.inside.status (length c.self.inside.body.now) ≡ front_lines r.status (length r.body) =
    ap (λ (x : Response). front_lines x.status (length x.body)) c.self.view_is
    in
    let Some_taken : List ℕ → Type 0 = λ w. TookSome g.O.Output.took c.args.output.now c.write_front.new.output w in
    some_front g.O.Output.took g.met.O.Output.took_none g.met.O.Output.took_then c.args.output.now c.write_front.new.output
    (front_lines r.status (length r.body)) _ (response_bytes r) (subst Some_taken front_is c.in-Err.ensures.writes) (parts_of r)

pub returns-in-Err-write_allow-clause-writes : goal.returns-in-Err-write_allow-clause-writes
returns-in-Err-write_allow-clause-writes g c =
    let Front : Response → Type 0 = λ x. g.O.Output.took c.args.output.now c.write_front.new.output (front_lines x.status (length x.body)) in
    let Allow : Response → Type 0 = λ x. TookSome g.O.Output.took c.write_front.new.output c.write_allow.new.output (allow_line x.allow) in
    allow_failed g.O.Output.took g.met.O.Output.took_none g.met.O.Output.took_then c.args.self.now _ _ _
    (subst Front c.self.view_is c.in-Ok.ensures.writes) (subst Allow c.self.view_is c.in-Err-write_allow.ensures.writes)

pub returns-in-Err-write_warnings-clause-writes : goal.returns-in-Err-write_warnings-clause-writes
returns-in-Err-write_warnings-clause-writes g c =
    let Front : Response → Type 0 = λ x. g.O.Output.took c.args.output.now c.write_front.new.output (front_lines x.status (length x.body)) in
    let Allow : Response → Type 0 = λ x. g.O.Output.took c.write_front.new.output c.write_allow.new.output (allow_line x.allow) in
    let lines_are : flat_map (λ w. warning_line (string_bytes w)) c.self.inside.warnings.now ≡ flat_map warning_line c.args.self.now.warnings =
    sym (flat_map-map warning_line string_bytes c.self.inside.warnings.now) ∙ ap (λ (x : Response). flat_map warning_line x.warnings) c.self.view_is
    in
    let Some_taken : List ℕ → Type 0 = λ w. TookSome g.O.Output.took c.write_allow.new.output c.write_warnings.new.output w in
    warnings_failed g.O.Output.took g.met.O.Output.took_none g.met.O.Output.took_then c.args.self.now _ _ _ _
    (subst Front c.self.view_is c.in-Ok.ensures.writes) (subst Allow c.self.view_is c.in-Ok-write_allow.ensures.writes)
    (subst Some_taken lines_are c.in-Err-write_warnings.ensures.writes)

pub returns-clause-writes : goal.returns-clause-writes
returns-clause-writes g c =
    let Front : Response → Type 0 = λ x. g.O.Output.took c.args.output.now c.write_front.new.output (front_lines x.status (length x.body)) in
    let Allow : Response → Type 0 = λ x. g.O.Output.took c.write_front.new.output c.write_allow.new.output (allow_line x.allow) in
    let lines_are : flat_map (λ w. warning_line (string_bytes w)) c.self.inside.warnings.now ≡ flat_map warning_line c.args.self.now.warnings =
    sym (flat_map-map warning_line string_bytes c.self.inside.warnings.now) ∙ ap (λ (x : Response). flat_map warning_line x.warnings) c.self.view_is
    in
    let Taken : List ℕ → Type 0 = λ w. g.O.Output.took c.write_allow.new.output c.write_warnings.new.output w in
    let back_is : close_line c.self.inside.closes ++ crlf ++ c.content.result.now ≡ back_of c.args.self.now =
    ap (λ x. close_line c.self.inside.closes ++ crlf ++ x) c.content.ensures
    ∙ ap (λ (x : Response). close_line x.closes ++ crlf ++ content c.args.self.now) c.self.view_is
    in
    let Back : List ℕ → Type 0 = λ w. Writes g.O.Output.took c.write_warnings.new.output c.write_back.new.output w c.write_back.result in
    back_written g.O.Output.took g.met.O.Output.took_none g.met.O.Output.took_then c.args.self.now _ _ _ _ _ c.write_back.result
    (subst Front c.self.view_is c.in-Ok.ensures.writes) (subst Allow c.self.view_is c.in-Ok-write_allow.ensures.writes)
    (subst Taken lines_are c.in-Ok-write_warnings.ensures.writes) (subst Back back_is c.write_back.ensures.writes)
