use Rattle.std.proofs.Common.{arith, ◌≡◌, ◌∙◌, sym, ap, subst, ⊎_elim, ◌+◌, ◌++◌, ◌∷◌, [], ℕ, List, take, Contains}
use Rattle.std.proofs.lemmas.List.{take_more, take_all}
use Rattle.std.proofs.lemmas.List.Elements.{Contains-push_cases}
use Rattle.names.specs.Key.{Key, key_bytes}
use Rattle.paged.specs.Chosen.{is_rule_key}
use Rattle.paged.proofs.Choosing.{has_inserted, has_still, or_second}
use Rattle.paged.proofs.chosen.Chosen.add.Goals as goal

pub loop-key-preserved : goal.loop-key-preserved
loop-key-preserved c =
    let xs : List Key = c.args.keys.now in
    let i : ℕ = c.loop-key.key-index in
    let x : Key = c.key-item.result in
    let bytes = c.in_ok-object_key.field-0 in
    let keys = c.in_ok-insert.ensures.keys in
    record {
      added = λ k has.
          let In : List Key → Type 0 = λ ks. Contains ks k in
          let more : take (i + 1) xs ≡ take i xs ++ x ∷ [] = take_more xs i x (omega arith) ∙ ap (λ (y : Key). take i xs ++ y ∷ []) (sym c.key-item.is) in
          ⊎_elim
          (λ before. has_still bytes c.loop-key.self.keys.keys c.insert.new.self.keys (1 ∷ key_bytes k) keys (c.loop-key.invariant.added k before))
          (λ same. has_inserted bytes c.loop-key.self.keys.keys c.insert.new.self.keys (1 ∷ key_bytes k) keys
          (c.in_ok-object_key.ensures ∙ ap (λ (q : Key). 1 ∷ key_bytes q) same))
          (Contains-push_cases (take i xs) x k (subst In more has));
      stays = λ key before. has_still bytes c.loop-key.self.keys.keys c.insert.new.self.keys key keys (c.loop-key.invariant.stays key before);
    }

pub returns-clause-added : goal.returns-clause-added
returns-clause-added c = λ k has.
    let In : List Key → Type 0 = λ ks. Contains ks k in
    or_second (is_rule_key (1 ∷ key_bytes k))
    (c.loop-key.invariant.added k (subst In (sym (take_all c.loop-key.key-index c.args.keys.now c.loop-key-test.false)) has))
