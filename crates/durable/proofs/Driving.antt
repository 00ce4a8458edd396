-- Whole lives: what an episode leaves, and one episode more.
use Rattle.std.proofs.Common.{suc, arith, ◌≡◌, ◌∙◌, sym, ap, subst, refl, ◌+◌, ◌++◌, inl, inr, ℕ, List, [], ◌∷◌, length, map, take, false, Option, Some, None, Result, Ok, Err, OnOk, IsErrOf, IfSome, ◌⊎◌, true≢false}
use Rattle.std.proofs.lemmas.List.{append-nil, append_assoc, take_all, length-map}
use Rattle.std.specs.List.{AllByRecursion}
use Rattle.device.specs.declared.device.Device.{Ghosts}
use Rattle.names.specs.declared.format.Format.{Format}
use Rattle.names.specs.declared.format.Rules.{Rules}
use Rattle.requests.specs.Request.{Request}
use Rattle.histories.specs.View.{view, after, after_all}
use Rattle.apicore.specs.Prepared.{IsReadOf}
use Rattle.decoded.specs.Standing.{Write, History, View}
use Rattle.apicore.specs.Admitted.{AreAdmitted}
use Rattle.apicore.specs.Step.{Asked, writes, replies}
use Rattle.durable.specs.declared.compacted.Compacted.{Compacted}
use Rattle.durable.specs.declared.fault.Damage.{Damage}
use Rattle.durable.specs.declared.fault.Fault.{Fault}
use Rattle.durable.specs.declared.fault.Fault.TheVariants as Faults
use Rattle.durable.specs.declared.episodes.Episode.{Episode}
use Rattle.durable.specs.declared.episodes.Found.{Found}
use Rattle.durable.specs.declared.store.Store.{Store}
use Rattle.durable.specs.Faults.{of_part, MayBeMet}
use Rattle.durable.specs.Lives.{requests_of, IsEpisode, EpisodeLeaves, LivesFrom}
use Rattle.durable.specs.Ready.{HoldsHistory}
use Rattle.durable.specs.Settled.{added, device_of, format_of, serves, AreAsked, IsFound, IsSettledAt, IsLeftAt, HasServed, HasStopped}
use Rattle.durable.specs.Stands.{StandsFor}
use Rattle.durable.proofs.Answering.{held, settled_serves}
use Rattle.durable.proofs.Numbers.{kept_format}

-- ---- a compaction

module _ {D : Type 0} {g : Ghosts D} (rules : Rules) (old new : Store D g) (h : History) where
  -- where there is no write to follow, the history is found as it was
  found_same : (c : List ℕ) → IsFound rules h [] [] c → StandsFor rules c h
  found_same c found = go found.more found.rest found.parts found.stands
    where
      go : (more rest : List Write) → [] ≡ [] ++ (more ++ rest) → StandsFor rules c (h ++ ([] ++ more)) → StandsFor rules c h
      go [] rest parts stands = let For : History → Type 0 = λ x. StandsFor rules c x in subst For (append-nil h) stands
      go (w ∷ ws) rest parts stands = cc

  left_holds : IsLeftAt rules new h [] [] → HoldsHistory rules g.disk (device_of new) h
  left_holds left = record { keeps = left.keeps; read = found_same _ left.read; left = λ c l. found_same c (left.left c l) }

  -- however it ends, the history stays
  pub compacted_holds : (r : Result Compacted Fault) → IsSettledAt rules old h → OnOk r (IsSettledAt rules new h) → (IsErrOf r Faults.Device → IsLeftAt rules new h [] [])
      → (IsErrOf r Faults.Memory ⊎ IsErrOf r Faults.Exhausted → IsSettledAt rules new h) → ((damage : Damage) → IsErrOf r (Faults.Damaged damage) → ⊥)
      → (IsErrOf r Faults.Failed → serves old ≡ false) → HoldsHistory rules g.disk (device_of new) h
  compacted_holds (Ok told) settled ok device unchanged damaged failed = held rules new h ok
  compacted_holds (Err Faults.Device) settled ok device unchanged damaged failed = left_holds (device refl)
  compacted_holds (Err Faults.Memory) settled ok device unchanged damaged failed = held rules new h (unchanged (inl refl))
  compacted_holds (Err (Faults.Damaged damage)) settled ok device unchanged damaged failed = absurd (damaged damage refl)
  compacted_holds (Err Faults.Failed) settled ok device unchanged damaged failed = absurd (true≢false (sym settled.working ∙ failed refl))
  compacted_holds (Err Faults.Exhausted) settled ok device unchanged damaged failed = held rules new h (unchanged (inr refl))

-- ---- an episode

length-replies : (rules : Rules) (v : View) (asked : List Asked) → length (replies rules v asked) ≡ length asked
length-replies rules v [] = refl
length-replies rules v (a ∷ rest) = ap suc (length-replies rules (after_all rules v (writes rules v a)) rest)

-- of writes that were admitted the first ones were
admitted_first : (rules : Rules) (v : View) (ws us : List Write) → AreAdmitted rules v (ws ++ us) → AreAdmitted rules v ws
admitted_first rules v [] us all = tt
admitted_first rules v (w ∷ ws) us all = (all.0, admitted_first rules (after rules v w) ws us all.1)

-- a fault that is neither out of memory nor damage is the device's
device_only : (x : Fault) → (Some x ≡ Some Faults.Memory → ⊥) → ((d : Damage) → Some x ≡ Some (Faults.Damaged d) → ⊥) → MayBeMet x → x ≡ Faults.Device
device_only x not_memory not_damaged (inl is) = is
device_only x not_memory not_damaged (inr (inl is)) = absurd (not_memory (ap Some is))
device_only x not_memory not_damaged (inr (inr found)) = absurd (not_damaged (of_part found.0) (ap Some found.1))

-- A store that was settled at the history, then run, and then perhaps compacted.
module _ {D : Type 0} {g : Ghosts D} (rules : Rules) (old mid new : Store D g) (h : History) (e : Episode) (f : Found) (settled : IsSettledAt rules old h)
    (holds : (x : History) → IsSettledAt rules mid x → HoldsHistory rules g.disk (device_of new) x) (stays : serves mid ≡ false → new ≡ mid) where
  -- what was asked of it, by the rules of the history
  asked_by : (rs : List Request) (asked : List Asked) → AreAsked (format_of old) rs asked → AreAsked rules.format rs asked
  asked_by rs asked are =
      let Are : Format → Type 0 = λ format. AreAsked format rs asked in
      subst Are (sym (kept_format old) ∙ ap (λ (r : Rules). r.format) settled.rules_are) are

  module _ (revision : f.revision ≡ (view rules h).revision) (c : List ℕ) (left : g.disk.left (device_of new) c) where
    served_leaves : HasServed old mid (requests_of e) f.replies.items → EpisodeLeaves rules h e f c
    served_leaves served =
        let said = served.shown rules (view rules h) (settled_serves rules old h settled) in
        let all : List Write = added rules h served.asked in
        let count : length f.replies.items ≡ length (requests_of e) =
        ap length said.answered ∙ length-replies rules (view rules h) served.asked ∙ sym (length-map served.asked (λ (a : Asked). a.request)) ∙ ap length served.are.are in
        let whole : take (length f.replies.items + 0) (requests_of e) ≡ requests_of e = take_all (length f.replies.items + 0) (requests_of e) (omega (arith, count)) in
        record {
          lasting = all;
          is = record {
            revision = revision;
            answered = served.asked;
            failing = [];
            few = omega arith;
            are = record {
              are = ap (map (λ (a : Asked). a.request)) (append-nil served.asked) ∙ served.are.are ∙ sym whole;
              read = subst (λ asked. AllByRecursion (λ (a : Asked). IsReadOf rules.format a.request a.specification) asked) (sym (append-nil served.asked))
                  (asked_by (requests_of e) served.asked served.are).read;
            };
            all = inl count;
            replies = said.answered;
            beyond = [];
            lost = [];
            acknowledged = sym (append-nil all);
            prefix = ap (added rules h) (append-nil served.asked) ∙ sym (append-nil all);
            admitted = said.admitted;
          };
          stands = (holds (h ++ all) (served.settled rules h settled).settled).left c left;
        }

    stopped_leaves : HasStopped old mid (requests_of e) f.replies.items → EpisodeLeaves rules h e f c
    stopped_leaves stopped =
        let said = stopped.shown rules (view rules h) (settled_serves rules old h settled) in
        let ended = (stopped.stopped rules h settled).left in
        let kept : List Write = added rules h stopped.asked in
        let Left : Store D g → Type 0 = λ s. g.disk.left (device_of s) c in
        let found = ended.left c (subst Left (stays ended.stopped) left) in
        let prefix : added rules h (stopped.asked ++ stopped.failing) ≡ (kept ++ found.more) ++ found.rest = found.parts ∙ sym (append_assoc kept found.more found.rest) in
        let Admitted : List Write → Type 0 = λ ws. AreAdmitted rules (view rules h) ws in
        record {
          lasting = kept ++ found.more;
          is = record {
            revision = revision;
            answered = stopped.asked;
            failing = stopped.failing;
            few = stopped.few;
            are = asked_by (take (length f.replies.items + length stopped.failing) (requests_of e)) (stopped.asked ++ stopped.failing) stopped.are;
            all = inr stopped.some;
            replies = said.0;
            beyond = found.more;
            lost = found.rest;
            acknowledged = refl;
            prefix = prefix;
            admitted = admitted_first rules (view rules h) (kept ++ found.more) found.rest (subst Admitted prefix said.2);
          };
          stands = found.stands;
        }

    -- whatever ended the run, except out of memory
    pub episode_leaves : (fault : Option Fault) → (fault ≡ Some Faults.Memory → ⊥) → ((d : Damage) → fault ≡ Some (Faults.Damaged d) → ⊥) → IfSome fault MayBeMet
        → (fault ≡ None → HasServed old mid (requests_of e) f.replies.items)
        → (fault ≡ Some Faults.Device → HasStopped old mid (requests_of e) f.replies.items) → EpisodeLeaves rules h e f c
    episode_leaves None not_memory not_damaged only all device = served_leaves (all refl)
    episode_leaves (Some x) not_memory not_damaged only all device = stopped_leaves (device (ap Some (device_only x not_memory not_damaged only)))

  -- where memory is refused to the compaction, the device still stands for the history and some writes
  pub episode_stands : (fault : Option Fault) → (fault ≡ Some Faults.Memory → ⊥) → ((d : Damage) → fault ≡ Some (Faults.Damaged d) → ⊥) → IfSome fault MayBeMet
      → (fault ≡ None → HasServed old mid (requests_of e) f.replies.items)
      → (fault ≡ Some Faults.Device → HasStopped old mid (requests_of e) f.replies.items)
      → (lasting : List Write) × StandsFor rules (g.disk.content (device_of new)) (h ++ lasting)
  episode_stands None not_memory not_damaged only all device =
      let served = all refl in
      (added rules h served.asked, (holds (h ++ added rules h served.asked) (served.settled rules h settled).settled).read)
  episode_stands (Some x) not_memory not_damaged only all device =
      let has = device (ap Some (device_only x not_memory not_damaged only)) in
      let ended = (has.stopped rules h settled).left in
      let For : Store D g → Type 0 = λ s. StandsFor rules (g.disk.content (device_of s)) (h ++ (added rules h has.asked ++ ended.read.more)) in
      (added rules h has.asked ++ ended.read.more, subst For (sym (stays ended.stopped)) ended.read.stands)

-- ---- episodes, up to where they lead

abbrev pub LivesTo : Rules → History → List Episode → List Found → History → Type 0
LivesTo rules h [] [] end = h ≡ end
LivesTo rules h [] (f ∷ fs) end = ⊥
LivesTo rules h (e ∷ es) [] end = ⊥
LivesTo rules h (e ∷ es) (f ∷ fs) end = (lasting : List Write) × IsEpisode rules h e f lasting × LivesTo rules (h ++ lasting) es fs end

pub one_more : (rules : Rules) (h mid : History) (es : List Episode) (fs : List Found) (e : Episode) (f : Found) (lasting : List Write) → LivesTo rules h es fs mid
    → IsEpisode rules mid e f lasting → LivesTo rules h (es ++ e ∷ []) (fs ++ f ∷ []) (mid ++ lasting)
one_more rules h mid [] [] e f lasting same is =
    let At : History → Type 0 = λ x. IsEpisode rules x e f lasting in
    (lasting, subst At (sym same) is, ap (λ (x : History). x ++ lasting) same)
one_more rules h mid [] (g ∷ fs) e f lasting lives is = absurd lives
one_more rules h mid (d ∷ es) [] e f lasting lives is = absurd lives
one_more rules h mid (d ∷ es) (g ∷ fs) e f lasting lives is = (lives.0, lives.1, one_more rules (h ++ lives.0) mid es fs e f lasting lives.2 is)

pub whole_life : (rules : Rules) (h end : History) (es : List Episode) (fs : List Found) → LivesTo rules h es fs end → LivesFrom rules h es fs
whole_life rules h end [] [] lives = tt
whole_life rules h end [] (f ∷ fs) lives = lives
whole_life rules h end (e ∷ es) [] lives = lives
whole_life rules h end (e ∷ es) (f ∷ fs) lives = (lives.0, lives.1, whole_life rules (h ++ lives.0) end es fs lives.2)

-- they lead to the history and further writes
pub lives_further : (rules : Rules) (h end : History) (es : List Episode) (fs : List Found) → LivesTo rules h es fs end → (ws : List Write) × (end ≡ h ++ ws)
lives_further rules h end [] [] same = ([], sym same ∙ sym (append-nil h))
lives_further rules h end [] (f ∷ fs) lives = absurd lives
lives_further rules h end (e ∷ es) [] lives = absurd lives
lives_further rules h end (e ∷ es) (f ∷ fs) lives =
    let more = lives_further rules (h ++ lives.0) end es fs lives.2 in
    (lives.0 ++ more.0, more.1 ∙ append_assoc h lives.0 more.0)
