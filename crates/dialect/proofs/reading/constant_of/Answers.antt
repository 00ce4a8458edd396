use Rattle.std.proofs.Common.{rules, ◌≡◌, ◌∙◌, ◌&&◌, not, true, false, cond, List, ℕ, Option, None, ap, sym}
use Rattle.std.proofs.lemmas.Result.{IfOk-weaker}
use Rattle.routes.specs.Path.{path_of}
use Rattle.dialect.specs.Discovery.{constant_at}
use Rattle.dialect.specs.Restated.{constant_of, is_watch, reads}
use Rattle.dialect.proofs.reading.constant_of.Goals as goal

pub returns : goal.returns
returns c =
    let m = c.args.message.now in
    let found : Option (List ℕ) = constant_at c.args.format (path_of m.target) in
    let yes : c.reads.result ≡ true = search rules in
    let reads_is : reads m.method ≡ true = ap reads (sym c.method.ensures) ∙ (sym c.reads.ensures ∙ yes) in
    let quiet : is_watch m ≡ false = sym c.requires.watches ∙ c.if-watches.false in
    let same : constant_of c.args.format m ≡ found =
    ap (λ b. cond (b && not (is_watch m)) found None) reads_is ∙ ap (λ b. cond (true && not b) found None) quiet
    in
    IfOk-weaker c.constant_at.result _ _ (λ text h. h ∙ (ap (constant_at c.args.format) c.requires.path ∙ sym same)) c.constant_at.ensures
