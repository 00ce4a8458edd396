use Rattle.std.proofs.Common.{◌∙◌, ◌≡◌, sym, ap, subst, map}
use Rattle.names.specs.Key.{Key}
use Rattle.histories.specs.History.{put}
use Rattle.records.specs.declared.stored_write.StoredWrite.TheVariants.{Put}
use Rattle.records.specs.WriteOf.{write_of}
use Rattle.damage.specs.Plans.{ArePut}
use Rattle.damage.proofs.Finding.{contains_mapped}
use Rattle.damage.proofs.plan_search.first_put.Goals as goal

pub returns-then-branch : goal.returns-then-branch
returns-then-branch c =
    let writes = c.args.writes.now in
    let item = c.write-item.result in
    let manifest = c.in-Put.manifest in
    let own = c.key-key.result.now in
    let document = c.document.result.now in
    let plans = c.in-Put.plans.now in
    let same : write_of item ≡ put own document plans =
    ap write_of c.in-Put.is
    ∙ ap (λ b. write_of (Put (record { key = manifest.key; body = b; version = manifest.version }) c.in-Put.plans)) c.document.ensures.body
    ∙ ap (λ (k : Key). put k document plans) (sym c.key-key.ensures) in
    let At : Key → Type 0 = λ k. ArePut c.args.format (map write_of writes) k in
    subst At (sym c.in_ok-clone.ensures.cases) (record {
      document = document;
      plans = plans;
      there = contains_mapped write_of writes c.each.write-index item (put own document plans) c.each-test.true c.write-item.is same;
      others = c.in_ok-are_others.ensures c.if-branch.true;
    })
