use Rattle.std.proofs.Common.{◌≡◌, ◌∙◌, sym, ap, subst, false, ℕ, List, [], ◌∷◌, ◌++◌, map, length, drop, Bor}
use Rattle.std.specs.FinMap.{put}
use Rattle.std.specs.List.{AllByRecursion}
use Rattle.std.specs.Prelude.{IsTrue}
use Rattle.names.specs.declared.resource.Resource.{Resource}
use Rattle.names.specs.declared.resource.Scope.TheVariants.{Namespaced}
use Rattle.names.specs.Key.{Key, is_key}
use Rattle.names.specs.Name.{is_namespace}
use Rattle.names.specs.Resource.{row}
use Rattle.histories.specs.declared.stored.Stored.{Stored}
use Rattle.requests.specs.Namespaces.{names_among}
use Rattle.decoded.specs.Decoded.{Decoded}
use Rattle.snapshots.proofs.NamesInUse.{Name, bytes_cmp, inserted, put_all, sound_namespace, left_then, names_more, names_same}
use Rattle.snapshots.proofs.added.names_of.Goals as goal

abbrev Object : Type 0
Object = Key × Stored Decoded

abbrev AreSound : List Name → Type 0
AreSound names = AllByRecursion (λ (n : List ℕ). IsTrue (is_namespace n)) (map (λ n. n.0) names)

pub loop-held-preserved-in_ok-insert : goal.loop-held-preserved-in_ok-insert
loop-held-preserved-in_ok-insert c =
    let os : List Object = c.args.objects.now in
    let left : List Object = c.loop-held.held-iterator.iter.rest.now in
    let rest : List Object = c.next.new.self.iter.rest.now in
    let o : Object = c.in-Some.held.now in
    let before : List Name = names_among (drop (length left) os) in
    let was = c.loop-held.invariant in
    let step : left ≡ rest ++ o ∷ [] = c.in-Some.ensures.steps in
    let at : c.held.inside.key.now ≡ o.0 = ap (λ (x : Object). x.0) c.held.view_is in
    let namespaced : (row o.0.resource).scope ≡ Namespaced =
    ap (λ (k : Key). (row k.resource).scope) (sym at) ∙ ap (λ (r : Resource). (row r).scope) (sym c.resource.ensures.value)
    ∙ c.is_namespaced.ensures.0 c.if-is_namespaced.true
    in
    let text : c.namespace.result.now ≡ o.0.namespace = c.namespace.ensures.value ∙ ap (λ (k : Key). k.namespace) at in
    let key : IsTrue (is_key o.0) = subst (λ (k : Key). IsTrue (is_key k)) at c.namespace.ensures.key in
    let now : names_among (drop (length rest) os) ≡ put bytes_cmp o.0.namespace tt before = names_more os left rest o was.left step namespaced in
    record {
      left = left_then os left rest o was.left step;
      names =
          ap (map (λ (name : Bor (List ℕ)). name.now)) c.in_ok-insert.ensures.keys
          ∙ inserted (λ (name : Bor (List ℕ)). name.now) c.namespace.result c.loop-held.names.keys before was.names
          ∙ ap (λ (t : List ℕ). map (λ (n : Name). n.0) (put bytes_cmp t tt before)) text
          ∙ sym (ap (map (λ (n : Name). n.0)) now);
      sound =
          subst AreSound (sym now)
          (put_all (λ (n : List ℕ). IsTrue (is_namespace n)) o.0.namespace before (sound_namespace o.0 key namespaced) was.sound);
    }

pub loop-held-preserved : goal.loop-held-preserved
loop-held-preserved c =
    let os : List Object = c.args.objects.now in
    let left : List Object = c.loop-held.held-iterator.iter.rest.now in
    let rest : List Object = c.next.new.self.iter.rest.now in
    let o : Object = c.in-Some.held.now in
    let was = c.loop-held.invariant in
    let step : left ≡ rest ++ o ∷ [] = c.in-Some.ensures.steps in
    let at : c.held.inside.key.now ≡ o.0 = ap (λ (x : Object). x.0) c.held.view_is in
    let other : (row o.0.resource).scope ≡ Namespaced → ⊥ = λ is.
    let told = c.is_namespaced.ensures.1 (ap (λ (r : Resource). (row r).scope) c.resource.ensures.value ∙ ap (λ (k : Key). (row k.resource).scope) at ∙ is) in
    let not : c.is_namespaced.result ≡ false = c.if-is_namespaced.false in
    cc
    in
    let now = names_same os left rest o was.left step other in
    record {
      left = left_then os left rest o was.left step;
      names = was.names ∙ sym (ap (map (λ (n : Name). n.0)) now);
      sound = subst AreSound (sym now) was.sound;
    }
