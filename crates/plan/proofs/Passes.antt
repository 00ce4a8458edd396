-- The pass over a stretch of code meets no fault: backwards, from what it finds after the stretch to what it finds before it.
use Rattle.std.proofs.Common.{◌≡◌, ℕ, ◌+◌, ◌-◌, ◌≤◌, Bool, true, false, not, cond, nat_lt, List, [], ◌∷◌, ◌++◌, length, Ok, Err, refl, sym, ap, subst, ◌∙◌, arith, rules, append_assoc, length-append}
use Rattle.std.specs.List.{filter, list_all}
use Rattle.std.proofs.lemmas.Bool.Decides.{nat_tests}
use Rattle.std.proofs.lemmas.List.{append-nil}
use Rattle.celtree.specs.declared.tree.Macro.{Macro}
use Rattle.instructions.specs.declared.fault.CodeFault.TheVariants as fault
use Rattle.instructions.specs.Op.{Op, IfFalse, IfTrue, Branch, Jump, Over}
use Rattle.instructions.specs.Faults.{◌>>=◌}
use Rattle.instructions.specs.Judging.{takes, targets, Arrival, arrivals, OpenBody, comes_to, is_one, goes_past, is_fair, are_fair, is_named, goes_on, opens, judge, first_fault}
use Rattle.instructions.proofs.Converse.{and_true}
use Rattle.plan.proofs.Arriving.{come, same_come, Same, same_itself, same_over, once_only, swapped, one_more, Ahead, none_ahead, ahead_too, ahead_before, comes_next, height_here, is_judged, fair_to, all_both, left_after, ends_before}

-- an instruction that takes its operands, puts one outcome, and goes on to the next
pub record IsPlain (op : Op) : Type 0 where
  pub targets_are : targets op ≡ []
  pub leads : (at h : ℕ) → arrivals op at h ≡ come (at + 1) (h - takes op + 1) ∷ []
  pub opens_none : (at : ℕ) (b : OpenBody) (os : List OpenBody) → opens op at b os ≡ (b, os)
  pub clear : (place : ℕ) → not (goes_past place op) ≡ true

abbrev pub is_plain : Op → Bool
is_plain (IfFalse to) = false
is_plain (IfTrue to) = false
is_plain (Branch other to) = false
is_plain (Jump to) = false
is_plain (Over m to) = false
is_plain op = true

pub plainly : (op : Op) → is_plain op ≡ true → IsPlain op
plainly (IfFalse to) e = absurd cc
plainly (IfTrue to) e = absurd cc
plainly (Branch other to) e = absurd cc
plainly (Jump to) e = absurd cc
plainly (Over m to) e = absurd cc
plainly op e = record {
  targets_are = refl;
  leads = λ at h. refl;
  opens_none = λ at b os. refl;
  clear = λ place. refl;
}

-- an instruction that may lead to the target with the outcome that it tests, and else goes on to the next
pub record IsTest (op : Op) (to : ℕ) : Type 0 where
  pub targets_are : targets op ≡ to ∷ []
  pub leads : (at h : ℕ) → arrivals op at h ≡ come to h ∷ come (at + 1) h ∷ []
  pub opens_none : (at : ℕ) (b : OpenBody) (os : List OpenBody) → opens op at b os ≡ (b, os)
  pub clear : (place : ℕ) → not (goes_past place op) ≡ true
  pub named : (vars depth : ℕ) → is_named vars depth op ≡ true
  pub takes_one : takes op ≡ 1

pub if_false : (to : ℕ) → IsTest (IfFalse to) to
if_false to = search rules

pub if_true : (to : ℕ) → IsTest (IfTrue to) to
if_true to = search rules

-- where control may be after the branch of a conditional, its own next place first
branched : (at from other to h : ℕ) (further : List Arrival) → at + 1 ≡ from → Same (arrivals (Branch other to) at (h + 1) ++ further) (come from h ∷ come other h ∷ come to (h + 1) ∷ further)
branched at from other to h further next =
    let low : h + 1 - 1 ≡ h = omega arith in
    let o = come other h in
    let e = come to (h + 1) in
    let f = come from h in
    let leads : arrivals (Branch other to) at (h + 1) ≡ o ∷ e ∷ f ∷ [] =
    ap (λ (k : ℕ). come other k ∷ e ∷ come (at + 1) k ∷ []) low ∙ ap (λ (n : ℕ). o ∷ e ∷ come n h ∷ []) next in
    let moved : Same (o ∷ e ∷ f ∷ further) (f ∷ o ∷ e ∷ further) =
    same_over (o ∷ e ∷ f ∷ further) (o ∷ f ∷ e ∷ further) (f ∷ o ∷ e ∷ further) (one_more o (e ∷ f ∷ further) (f ∷ e ∷ further) (swapped e f further)) (swapped o f (e ∷ further)) in
    subst (λ (l : List Arrival). Same (l ++ further) (f ∷ o ∷ e ∷ further)) (sym leads) moved

-- the first branch and its jump lie between a branch and the second, and all of both between it and the end
branch_fair : (at end other to : ℕ) (first second rest : List Op) → at + 1 + length first + 1 ≡ other → other + length second ≡ to → to ≤ end → list_all (λ op. not (goes_past other op)) first ≡ true
    → list_all (λ op. not (goes_past to op)) (first ++ Jump to ∷ second) ≡ true → are_fair at end ((first ++ Jump to ∷ second) ++ rest) (other ∷ to ∷ []) ≡ true
branch_fair at end other to first second rest long longer le clear all_clear =
    let before = first ++ Jump to ∷ [] in
    let all = first ++ Jump to ∷ second in
    let split : all ++ rest ≡ before ++ (second ++ rest) = append_assoc first (Jump to ∷ second) rest ∙ sym (append_assoc first (Jump to ∷ []) (second ++ rest)) in
    let one = fair_to at end other before (second ++ rest) (omega (arith, long, length-append first (Jump to ∷ []))) (omega (arith, longer, le)) (all_both (λ op. not (goes_past other op)) first (Jump to ∷ []) clear refl) in
    let two = fair_to at end to all rest (omega (arith, long, longer, length-append first (Jump to ∷ second))) le all_clear in
    and_true _ _ (ap (λ (l : List Op). is_fair at end l other) split ∙ one) (and_true _ true two refl)

module _ (vars : ℕ) where
  -- From this place on the pass meets no fault: the innermost body ends there, these arrivals are awaited in it, and those bodies are around it.
  pub record Passes (at : ℕ) (ops : List Op) (end : ℕ) (awaited : List Arrival) (outer : List OpenBody) : Type 0 where
    pub is : judge vars at ops (record { end = end; awaited = awaited }) outer ≡ Ok tt

  passes_in : (at : ℕ) (a b : List Op) (end : ℕ) (awaited : List Arrival) (outer : List OpenBody) → a ≡ b → Passes at a end awaited outer → Passes at b end awaited outer
  passes_in at a b end awaited outer e p = subst (λ (l : List Op). Passes at l end awaited outer) e p

  -- an instruction that opens no body
  acts : (at to end h : ℕ) (op : Op) (further after awaited : List Arrival) (rest : List Op) (outer : List OpenBody) → at + 1 ≡ to → to ≤ end → Ahead to further
      → are_fair at end rest (targets op) ≡ true → is_named vars (length outer) op ≡ true → takes op ≤ h → ((b : OpenBody) (os : List OpenBody) → opens op at b os ≡ (b, os))
      → Same awaited (come at h ∷ further) → Same (arrivals op at h ++ further) after → ((now : List Arrival) → Same now after → Passes to rest end now outer)
      → Passes at (op ∷ rest) end awaited outer
  acts at to end h op further after awaited rest outer next le ahead fair named enough plain same on then =
      let b : OpenBody = record { end = end; awaited = awaited } in
      let leads = arrivals op at h in
      let more = filter (λ a. not (comes_to at a)) awaited ++ leads in
      let near = ahead_before (at + 1) to further (omega (arith, next)) ahead in
      let judged = is_judged vars at end h op further awaited rest outer (omega arith) near fair named enough same in
      let p = then more (same_over more (leads ++ further) after (comes_next at h further awaited leads near same) on) in
      record {
        is = ap (λ r. r >>= λ y. judge vars (at + 1) rest y.0 y.1) (judged ∙ ap (λ (x : OpenBody × List OpenBody). Ok x) (plain (goes_on op at h b) outer))
            ∙ ap (λ (n : ℕ). judge vars n rest (record { end = end; awaited = more }) outer) next ∙ p.is;
      }

  -- The stretch leads from one place and height to another, in bodies this deep, whatever is awaited further on and whatever stands after it.
  pub record Leads (depth at : ℕ) (ops : List Op) (h to k : ℕ) : Type 0 where
    pub long : at + length ops ≡ to
    -- no macro of it leads further
    pub clear : (place : ℕ) → to ≤ place → list_all (λ op. not (goes_past place op)) ops ≡ true
    pub by : (end : ℕ) (further awaited : List Arrival) (rest : List Op) (outer : List OpenBody) → length outer ≡ depth → to ≤ end → Ahead to further
        → Same awaited (come at h ∷ further) → ((now : List Arrival) → Same now (come to k ∷ further) → Passes to rest end now outer)
        → Passes at (ops ++ rest) end awaited outer

  pub nothing : (depth at h to k : ℕ) → at ≡ to → h ≡ k → Leads depth at [] h to k
  nothing depth at h to k e f = record {
    long = omega (arith, e);
    clear = λ place le. refl;
    by = λ end further awaited rest outer deep le ahead same then.
        let p = then awaited (subst (λ (x : Arrival). Same awaited (x ∷ further)) (same_come at to h k e f) same) in
        subst (λ (n : ℕ). Passes n rest end awaited outer) (sym e) p;
  }

  -- one stretch after the other
  pub on : (depth at h mid k to l : ℕ) (a b : List Op) → Leads depth at a h mid k → Leads depth mid b k to l → Leads depth at (a ++ b) h to l
  on depth at h mid k to l a b first second = record {
    long = omega (arith, first.long, second.long, length-append a b);
    clear = λ place le. all_both (λ op. not (goes_past place op)) a b (first.clear place (omega (arith, second.long))) (second.clear place le);
    by = λ end further awaited rest outer deep le ahead same then.
        let near = ahead_before mid to further (omega (arith, second.long)) ahead in
        passes_in at (a ++ (b ++ rest)) ((a ++ b) ++ rest) end awaited outer (sym (append_assoc a b rest))
        (first.by end further awaited (b ++ rest) outer deep (omega (arith, second.long)) near same
        (λ now now_same. second.by end further now rest outer deep le ahead now_same then));
  }

  -- one instruction
  pub plain : (depth at h to k : ℕ) (op : Op) → IsPlain op → is_named vars depth op ≡ true → takes op ≤ h → h + 1 ≡ takes op + k → at + 1 ≡ to → Leads depth at (op ∷ []) h to k
  plain depth at h to k op p named enough puts next = record {
    long = omega (arith, next);
    clear = λ place le. and_true _ _ (p.clear place) refl;
    by = λ end further awaited rest outer deep le ahead same then.
        let all = come to k ∷ further in
        let height : h - takes op + 1 ≡ k = omega (arith, enough, puts) in
        let leads : arrivals op at h ≡ come to k ∷ [] = p.leads at h ∙ ap (λ (x : Arrival). x ∷ []) (same_come (at + 1) to (h - takes op + 1) k next height) in
        let after = subst (λ (l : List Arrival). Same (l ++ further) all) (sym leads) (same_itself all) in
        let fair : are_fair at end rest (targets op) ≡ true = ap (λ (l : List ℕ). are_fair at end rest l) p.targets_are in
        let depth_named : is_named vars (length outer) op ≡ true = ap (λ (n : ℕ). is_named vars n op) deep ∙ named in
        acts at to end h op further all awaited rest outer next le ahead fair depth_named enough (p.opens_none at) same after then;
  }

  -- `&&` and `||` after the left side: the test may lead to the end, past the right side and what takes both
  pub tests : (depth at from to h : ℕ) (test : Op) (right : List Op) → IsTest test to → at + 1 ≡ from → Leads depth from right (h + 1) to (h + 1) → Leads depth at (test ∷ right) (h + 1) to (h + 1)
  tests depth at from to h test right t next side = record {
    long = omega (arith, next, side.long);
    clear = λ place le. and_true _ _ (t.clear place) (side.clear place le);
    by = λ end further awaited rest outer deep le ahead same then.
        let e = come to (h + 1) in
        let f = come from (h + 1) in
        let leads : arrivals test at (h + 1) ≡ e ∷ f ∷ [] = t.leads at (h + 1) ∙ ap (λ (n : ℕ). e ∷ come n (h + 1) ∷ []) next in
        let after = subst (λ (l : List Arrival). Same (l ++ further) (f ∷ e ∷ further)) (sym leads) (swapped e f further) in
        let past_it = fair_to at end to right rest (omega (arith, next, side.long)) le (side.clear to (omega arith)) in
        let fair = ap (λ (l : List ℕ). are_fair at end (right ++ rest) l) t.targets_are ∙ and_true _ true past_it refl in
        acts at from end (h + 1) test further (f ∷ e ∷ further) awaited (right ++ rest) outer next (omega (arith, side.long, le)) (ahead_before from to further (omega (arith, side.long)) ahead) fair
        (t.named vars (length outer)) (omega (arith, t.takes_one)) (t.opens_none at) same after
        (λ now now_same. side.by end (e ∷ further) now rest outer deep le (ahead_too to e further (omega arith) ahead) now_same
        (λ last last_same. then last (same_over last (e ∷ e ∷ further) (e ∷ further) last_same (once_only e further))));
  }

  -- the first branch of `?:` is left, and control comes to the second
  jumped : (depth at from to end h : ℕ) (second : List Op) (further awaited : List Arrival) (rest : List Op) (outer : List OpenBody) → at + 1 ≡ from → Leads depth from second h to (h + 1)
      → length outer ≡ depth → to ≤ end → Ahead to further → Same awaited (come at (h + 1) ∷ come from h ∷ come to (h + 1) ∷ further)
      → ((now : List Arrival) → Same now (come to (h + 1) ∷ further) → Passes to rest end now outer) → Passes at (Jump to ∷ (second ++ rest)) end awaited outer
  jumped depth at from to end h second further awaited rest outer next side deep le ahead same then =
      let e = come to (h + 1) in
      let f = come from h in
      let end_ahead = ahead_too to e further (omega arith) ahead in
      let near_ahead = ahead_too from f (e ∷ further) (omega arith) (ahead_before from to (e ∷ further) (omega (arith, side.long)) end_ahead) in
      let after = same_over (e ∷ f ∷ e ∷ further) (f ∷ e ∷ e ∷ further) (f ∷ e ∷ further) (swapped e f (e ∷ further)) (one_more f (e ∷ e ∷ further) (e ∷ further) (once_only e further)) in
      let fair = and_true _ true (fair_to at end to second rest (omega (arith, next, side.long)) le (side.clear to (omega arith))) refl in
      acts at from end (h + 1) (Jump to) (f ∷ e ∷ further) (f ∷ e ∷ further) awaited (second ++ rest) outer next (omega (arith, side.long, le)) near_ahead fair refl (omega arith) (λ b os. refl) same after
      (λ now now_same. side.by end (e ∷ further) now rest outer deep le end_ahead now_same
      (λ last last_same. then last (same_over last (e ∷ e ∷ further) (e ∷ further) last_same (once_only e further))))

  -- `?:` after the test
  pub chooses : (depth at from near other h to : ℕ) (first second : List Op) → at + 1 ≡ from → near + 1 ≡ other → Leads depth from first h near (h + 1) → Leads depth other second h to (h + 1)
      → Leads depth at (Branch other to ∷ (first ++ Jump to ∷ second)) (h + 1) to (h + 1)
  chooses depth at from near other h to first second next leap one two =
      let rest_of = first ++ Jump to ∷ second in
      let clear = λ (place : ℕ) (le : to ≤ place). all_both (λ op. not (goes_past place op)) first (Jump to ∷ second) (one.clear place (omega (arith, leap, two.long))) (two.clear place le) in
      record {
        long = omega (arith, next, leap, one.long, two.long, length-append first (Jump to ∷ second));
        clear = clear;
        by = λ end further awaited rest outer deep le ahead same then.
            let o = come other h in
            let e = come to (h + 1) in
            let near_ahead = ahead_too near o (e ∷ further) (omega (arith, leap)) (ahead_too near e further (omega (arith, leap, two.long)) (ahead_before near to further (omega (arith, leap, two.long)) ahead)) in
            let fair = branch_fair at end other to first second rest (omega (arith, next, leap, one.long)) two.long le (one.clear other (omega (arith, leap))) (clear to (omega arith)) in
            acts at from end (h + 1) (Branch other to) further (come from h ∷ o ∷ e ∷ further) awaited (rest_of ++ rest) outer next (omega (arith, one.long, leap, two.long, le))
            (ahead_before from to further (omega (arith, one.long, leap, two.long)) ahead) fair refl (omega arith) (λ b os. refl) same (branched at from other to h further next)
            (λ now now_same. passes_in from (first ++ (Jump to ∷ (second ++ rest))) (rest_of ++ rest) end now outer (sym (append_assoc first (Jump to ∷ second) rest))
            (one.by end (o ∷ e ∷ further) now (Jump to ∷ (second ++ rest)) outer deep (omega (arith, leap, two.long, le)) near_ahead now_same
            (λ mid mid_same. jumped depth near other to end h second further mid rest outer leap two deep le ahead mid_same then)));
      }

  -- where the innermost body ends with one outcome, the pass goes on in the one around it
  leaves : (at end : ℕ) (now awaited : List Arrival) (rest : List Op) (outer : List OpenBody) → Same now (come at 1 ∷ []) → Passes at rest end awaited outer
      → Passes at rest at now (record { end = end; awaited = awaited } ∷ outer)
  leaves at end now awaited rest outer same p =
      let one = ap is_one (height_here at 1 [] now (none_ahead (at + 1)) same) in
      record { is = left_after vars at (record { end = at; awaited = now }) (record { end = end; awaited = awaited }) outer rest refl one ∙ p.is }

  -- the body of a macro, with the body around it
  enters : (deeper from to end : ℕ) (body rest : List Op) (more : List Arrival) (outer : List OpenBody) → length outer + 1 ≡ deeper → Leads deeper from body 0 to 1 → Passes to rest end more outer
      → Passes from (body ++ rest) to (come from 0 ∷ []) (record { end = end; awaited = more } ∷ outer)
  enters deeper from to end body rest more outer deep inside p =
      inside.by to [] (come from 0 ∷ []) rest (record { end = end; awaited = more } ∷ outer) (omega (arith, deep)) (omega arith) (none_ahead to) (same_itself (come from 0 ∷ []))
      (λ now same. leaves to end now more rest outer same p)

  -- a macro after its operand
  pub loops : (depth deeper at from to h : ℕ) (m : Macro) (body : List Op) → depth + 1 ≡ deeper → deeper ≤ 2 → at + 1 ≡ from → Leads deeper from body 0 to 1
      → Leads depth at (Over m to ∷ body) (h + 1) to (h + 1)
  loops depth deeper at from to h m body one_deeper few next inside = record {
    long = omega (arith, next, inside.long);
    clear = λ place le. and_true _ _ (ends_before place to le) (inside.clear place le);
    by = λ end further awaited rest outer deep le ahead same then.
        let more = filter (λ a. not (comes_to at a)) awaited ++ come to (h + 1) ∷ [] in
        let long : at + 1 + length body ≡ to = omega (arith, next, inside.long) in
        let near = ahead_before (at + 1) to further (omega (arith, long)) ahead in
        let fair : are_fair at end (body ++ rest) (to ∷ []) ≡ true = and_true _ true (fair_to at end to body rest long le (inside.clear to (omega arith))) refl in
        let named : nat_lt (length outer) 2 ≡ true = grind (arith, nat_tests) in
        let judged = is_judged vars at end (h + 1) (Over m to) further awaited (body ++ rest) outer (omega (arith, long, le)) near fair named (omega arith) same in
        let after_it = then more (comes_next at (h + 1) further awaited (come to (h + 1) ∷ []) near same) in
        let p = subst (λ (n : ℕ). Passes n (body ++ rest) to (come n 0 ∷ []) (record { end = end; awaited = more } ∷ outer)) (sym next)
        (enters deeper from to end body rest more outer (omega (arith, deep, one_deeper)) inside after_it) in
        record { is = ap (λ r. r >>= λ y. judge vars (at + 1) (body ++ rest) y.0 y.1) judged ∙ p.is };
  }

  -- the plan ends with one outcome
  ends : (end : ℕ) (now : List Arrival) → Same now (come end 1 ∷ []) → Passes end [] end now []
  ends end now same =
      let one = ap is_one (height_here end 1 [] now (none_ahead (end + 1)) same) in
      record { is = ap (λ t. cond t (Ok tt) (Err fault.BadStack)) one }

  -- code that leads from an empty stack to one outcome has no fault
  pub sound : (code : List Op) (end : ℕ) → Leads 0 0 code 0 end 1 → first_fault vars code ≡ Ok tt
  unfolding first_fault
  sound code end leads =
      let n : length code ≡ end = omega (arith, leads.long) in
      let start : List Arrival = come 0 0 ∷ [] in
      let p = leads.by end [] start [] [] refl (omega arith) (none_ahead end) (same_itself start) (λ now same. ends end now same) in
      ap (λ (k : ℕ). judge vars 0 code (record { end = k; awaited = start }) []) n
      ∙ (ap (λ (l : List Op). judge vars 0 l (record { end = end; awaited = start }) []) (sym (append-nil code)) ∙ p.is)
