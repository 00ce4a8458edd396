use Rattle.std.proofs.Common.{◌≡◌, ◌≤◌, drop, take, min, true}
use Rattle.std.specs.List.{list_all}
use Rattle.std.specs.Char.{is_ascii_digit}
use Rattle.std.specs.Str.Parse.{digits_value, digits_value_after}
use Rattle.httpmsg.proofs.head.number.Given as goal

abbrev pub invariant-loop-digit : goal.invariant-loop-digit
invariant-loop-digit l =
    (l.number ≤ 65537)
    × (list_all is_ascii_digit (take l.digit-index l.value) ≡ true)
    × (min (digits_value_after 10 l.number (drop l.digit-index l.value)) 65537 ≡ min (digits_value 10 l.value) 65537)
