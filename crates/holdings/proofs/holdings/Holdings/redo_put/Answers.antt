use Rattle.std.proofs.Common.{◌≡◌, true, false, sym, ap, subst, ◌∙◌}
use Rattle.std.proofs.lemmas.Bool.{true≢false}
use Rattle.names.specs.Key.{Key}
use Rattle.requests.specs.Codes.{document_in}
use Rattle.histories.specs.View.{exists}
use Rattle.holdings.specs.Known.{IsKnown}
use Rattle.holdings.proofs.Redoing.{shows_redone_put, knows_made, knows_same}
use Rattle.holdings.proofs.holdings.Holdings.redo_put.Goals as goal

pub returns-then-not-may_put-clause-not_allowed : goal.returns-then-not-may_put-clause-not_allowed
returns-then-not-may_put-clause-not_allowed g c = λ base v shows known refused may.
    let no : c.may_put.result ≡ false = cc in
    true≢false (sym ((c.may_put.ensures.shown base v shows known).1 may) ∙ no)

pub returns-clause-taken : goal.returns-clause-taken
returns-clause-taken g c = λ base v shows known.
    let now = c.args.self.now in
    let m = c.args.manifest.now in
    let allowed : c.may_put.result ≡ true = cc in
    let stands = c.has-stands.ensures base v shows (subst (λ (k : Key). IsKnown now base k) (sym c.key.ensures) known) ∙ ap (exists v) c.key.ensures in (
      (c.may_put.ensures.shown base v shows known).0 allowed,
      shows_redone_put now c.prepare_put.new.self _ base v m.key (document_in m.body) c.args.beside c.has-stands.result c.in_ok-put.put shows
          c.prepare_put.ensures.shows c.prepare_put.ensures.rules c.in_ok-put.ensures.put stands (c.put.ensures.shows base v),
    )

pub returns-in_err-put-clause-known : goal.returns-in_err-put-clause-known
returns-in_err-put-clause-known g c = knows_same c.args.self.now c.prepare_put.new.self c.prepare_put.ensures.made

pub returns-clause-known : goal.returns-clause-known
returns-clause-known g c =
    knows_made c.args.self.now c.prepare_put.new.self c.put.new.self c.in_ok-put.put.key c.in_ok-put.put.stored c.prepare_put.ensures.made c.put.ensures.made
