use Rattle.std.proofs.Common.{rules, ◌≡◌, ◌∙◌, ap, sym, subst, inl, ℕ, List, ◌++◌, Bool, if◌then◌else◌, Option, Some, Result, Ok, Err, OnOk}
use Rattle.std.specs.Result.{is_ok}
use Rattle.std.proofs.lemmas.Result.{on_ok_weaker}
use Rattle.jiff_fmt.specs.Text.{datetime_text, zulu_text}
use Rattle.clients.specs.Journal.{HasTime}
use Rattle.clients.proofs.journal.put_time.Goals as goal

-- what is there after a call that did not fail
after : {T E : Type 0} (r : Result T E) (new more old : List ℕ) → new ≡ (if is_ok r then more else old) → OnOk r (new ≡ more)
after (Ok x) new more old is = is
after (Err e) new more old is = tt

pub returns-in-Some-instant_at : goal.returns-in-Some-instant_at
returns-in-Some-instant_at c =
    let text : List ℕ = c.timestamp_text-text.result.bytes in
    let printed = c.timestamp_text-text.ensures in
    let plain = ap (λ (o : Bool × ℕ × Option ℕ). datetime_text o.0 o.1 o.2 printed.0 ++ zulu_text o.0) c.new.ensures in
    let asked : c.args.seconds ≡ Some c.in-Some.seconds = search rules in
    let Timed : Option ℕ → Type 0 = λ seconds. HasTime seconds text in
    let has : HasTime c.args.seconds text = subst Timed (sym asked)
    (inl (printed.0, printed.1 ∙ c.in-Some-instant_at.ensures.value, printed.2 ∙ plain)) in
    on_ok_weaker c.extend_from_slice.result
    (λ is. (text, has, is ∙ ap (λ (more : List ℕ). c.args.line.now.items ++ more) (c.as_bytes.ensures.value ∙ c.as_str.ensures.value)))
    (after c.extend_from_slice.result c.extend_from_slice.new.self.items _ _ c.extend_from_slice.ensures.items)
