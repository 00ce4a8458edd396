-- What requests ask for may follow, where none of their own conditions refuses it.
use Rattle.std.proofs.Common.{◌≡◌, ◌≤◌, ◌<◌, ◌⊎◌, ◌^◌, ℕ, List, [], ◌∷◌, ◌++◌, length, Bool, true, false, nat_lt, nat_le, cond, is_some, IsTrue, not, inl, inr, refl, arith}
use Rattle.jsondoc.specs.Json.{text}
use Rattle.names.specs.Format.{has_resource}
use Rattle.names.specs.declared.format.Format.{Format}
use Rattle.names.specs.declared.format.Rules.{Rules}
use Rattle.names.specs.declared.resource.Resource.{Resource}
use Rattle.names.specs.Key.{Key}
use Rattle.documents.specs.Document.{Document}
use Rattle.serde_json.specs.Data.{Data}
use Rattle.requests.specs.declared.refusal.Refusal.TheVariants.{NoSuchPath, NamespaceNotFound, AlreadyExists, NotFound, VersionNotCurrent, NamespaceNotEmpty, ObjectTooLarge, TooManyObjects, RevisionExhausted}
use Rattle.requests.specs.Codes.{document_in}
use Rattle.requests.specs.Manifest.{Body, sound, BodyHasForm}
use Rattle.documents.specs.Form.{HasForm}
use Rattle.histories.specs.History as write
use Rattle.histories.specs.History.{put}
use Rattle.histories.specs.View.{exists, is_too_large, is_full, is_exhausted}
use Rattle.celtree.specs.Tree.{Expr}
use Rattle.expressions.specs.Specification as beside
use Rattle.decoded.specs.Standing.{Write, View, HasTrees, AllMayFollow}
use Rattle.apicore.specs.Conditions.{Condition, Refusal, known, first_of}
use Rattle.apicore.specs.Read.{IsRead}

not_below : (m n : ℕ) → nat_lt m n ≡ false → n ≤ m
not_below m n e = Prim.grind arith

below : (m n : ℕ) → nat_le m n ≡ false → n < m
below m n e = Prim.grind arith

pub form_of : (k : Key) (b : Body) → BodyHasForm k b → HasForm k (document_in b)
form_of k (sound d) form = form

-- the trees that stand in a document of at most this size
trees_of_read : (f : Format) (r : Resource) (d : Data) (trees : List Expr) → IsRead f r d (beside.sound trees) → length (text d) ≤ 2 ^ 24 → HasTrees f r d trees
trees_of_read f r d trees read size = record {
  spelled = read.stands;
  alone = λ other spells. read.alone trees other refl spells;
  held = read.held.0 size;
  short = read.held.1;
}

-- a put of a document that is not too large, where the revision is not the greatest, may follow, whatever else is asked of it
puts_tail : (rules : Rules) (v : View) (k : Key) (d : Document) (trees : List Expr) (tail : List Condition) → has_resource rules.format k.resource ≡ true → HasForm k d → rules.text_limit_bytes ≤ 2 ^ 24 → IsRead rules.format k.resource d.json (beside.sound trees)
    → IsTrue (exists v k) ⊎ (length v.objects < rules.object_limit) → is_too_large rules d ≡ false → is_exhausted rules v ≡ false
    → AllMayFollow rules v (cond (is_some (first_of tail)) [] (put k d trees ∷ []))
puts_tail rules v k d trees tail served form limit read room small more =
    elim (is_some (first_of tail)) as (λ x. AllMayFollow rules v (cond x [] (put k d trees ∷ []))) [
      | true ↦ tt
      | false ↦ (
        (
          record {
            served = served;
            form = form;
            size = not_below rules.text_limit_bytes (length (text d.json)) small;
            room = room;
            revision = below rules.greatest_revision v.revision more;
          },
          trees_of_read rules.format k.resource d.json trees read (omega (arith, limit, not_below rules.text_limit_bytes (length (text d.json)) small)),
        ),
        tt,
      )
    ]

pub put_follows : (rules : Rules) (v : View) (k : Key) (d : Document) (trees : List Expr) (tail : List Condition) → HasForm k d → rules.text_limit_bytes ≤ 2 ^ 24 → IsRead rules.format k.resource d.json (beside.sound trees)
    → (has lacking there large full last : Bool) → has_resource rules.format k.resource ≡ has → is_too_large rules d ≡ large → is_full rules v ≡ full → is_exhausted rules v ≡ last
    → AllMayFollow rules v
    (cond (is_some (first_of ((known NoSuchPath, not has) ∷ (known NamespaceNotFound, lacking) ∷ (known AlreadyExists, there) ∷ (known ObjectTooLarge, large) ∷ (known TooManyObjects, full)
    ∷ (known RevisionExhausted, last) ∷ tail))) [] (put k d trees ∷ []))
put_follows rules v k d trees tail form limit read false lacking there large full last h a b c = tt
put_follows rules v k d trees tail form limit read true true there large full last h a b c = tt
put_follows rules v k d trees tail form limit read true false true large full last h a b c = tt
put_follows rules v k d trees tail form limit read true false false true full last h a b c = tt
put_follows rules v k d trees tail form limit read true false false false true last h a b c = tt
put_follows rules v k d trees tail form limit read true false false false false true h a b c = tt
put_follows rules v k d trees tail form limit read true false false false false false h a b c =
    puts_tail rules v k d trees tail h form limit read (inr (below rules.object_limit (length v.objects) b)) a c

pub replaced_follows : (rules : Rules) (v : View) (k : Key) (d : Document) (trees : List Expr) (tail : List Condition) → HasForm k d → rules.text_limit_bytes ≤ 2 ^ 24 → IsRead rules.format k.resource d.json (beside.sound trees)
    → (has lacking there stale large last : Bool) → has_resource rules.format k.resource ≡ has → exists v k ≡ there → is_too_large rules d ≡ large → is_exhausted rules v ≡ last
    → AllMayFollow rules v
    (cond (is_some (first_of ((known NoSuchPath, not has) ∷ (known NamespaceNotFound, lacking) ∷ (known NotFound, not there) ∷ (known VersionNotCurrent, stale) ∷ (known ObjectTooLarge, large)
    ∷ (known RevisionExhausted, last) ∷ tail))) [] (put k d trees ∷ []))
replaced_follows rules v k d trees tail form limit read false lacking there stale large last h a b c = tt
replaced_follows rules v k d trees tail form limit read true true there stale large last h a b c = tt
replaced_follows rules v k d trees tail form limit read true false false stale large last h a b c = tt
replaced_follows rules v k d trees tail form limit read true false true true large last h a b c = tt
replaced_follows rules v k d trees tail form limit read true false true false true last h a b c = tt
replaced_follows rules v k d trees tail form limit read true false true false false true h a b c = tt
replaced_follows rules v k d trees tail form limit read true false true false false false h a b c =
    puts_tail rules v k d trees tail h form limit read (inl a) b c

pub deleted_follows : (rules : Rules) (v : View) (k : Key) (tail : List Condition) → (there stale used last : Bool) → exists v k ≡ there → is_exhausted rules v ≡ last
    → AllMayFollow rules v
    (cond (is_some (first_of ((known NotFound, not there) ∷ (known VersionNotCurrent, stale) ∷ (known NamespaceNotEmpty, used) ∷ (known RevisionExhausted, last) ∷ tail))) [] (write.delete k ∷ []))
deleted_follows rules v k tail false stale used last a b = tt
deleted_follows rules v k tail true true used last a b = tt
deleted_follows rules v k tail true false true last a b = tt
deleted_follows rules v k tail true false false true a b = tt
deleted_follows rules v k tail true false false false a b =
    elim (is_some (first_of tail)) as (λ x. AllMayFollow rules v (cond x [] (write.delete k ∷ []))) [
      | true ↦ tt
      | false ↦ ((record { object = a; revision = below rules.greatest_revision v.revision b }, tt), tt)
    ]

pub nothing_follows : (rules : Rules) (v : View) (b : Bool) → AllMayFollow rules v (cond b [] [])
nothing_follows rules v true = tt
nothing_follows rules v false = tt

-- a bad form refuses, where none of the conditions before it does
pub bad_form : (rules : Rules) (v : View) (before : List Condition) (r : Refusal) (ws : List Write) → AllMayFollow rules v (cond (is_some (first_of (before ++ (r, true) ∷ []))) [] ws)
bad_form rules v [] r ws = tt
bad_form rules v ((x, true) ∷ before) r ws = tt
bad_form rules v ((x, false) ∷ before) r ws = bad_form rules v before r ws
