use Rattle.std.specs.Option.{option_map}
use Rattle.std.specs.Prelude.{None}
use Rattle.objects.specs.Objects.{is_of}
use Rattle.objects.proofs.Ranges.{filter_within, is_of-any}
use Rattle.objects.proofs.objects.Objects.list.Goals as goal

pub returns-in-None : goal.returns-in-None
returns-in-None g c = rw (c.in-None.is, ← c.entries_of-entries.ensures) c.each_of.ensures

pub returns-in-Some : goal.returns-in-Some
returns-in-Some g c =
    let text = option_map (λ text. text.now) c.args.namespace in
    let narrow = filter_within (λ entry. is_of c.args.resource text entry.0) (λ entry. is_of c.args.resource None entry.0) (λ entry. is_of-any c.args.resource text entry.0) c.args.self.now.entries in
    rw (← narrow, ← c.entries_of-entries.ensures) c.only_of.ensures
