use Rattle.std.proofs.Common.{◌≡◌, map, take}
use Rattle.formats.proofs.Reading.{number_of}
use Rattle.formats.proofs.bytes.numbers.Given as goal

abbrev pub invariant-loop-four : goal.invariant-loop-four
invariant-loop-four l = l.numbers.items ≡ map number_of (take l.four-index l.fours)
