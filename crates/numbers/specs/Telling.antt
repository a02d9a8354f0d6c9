-- The line that tells of a refusal.
use Rattle.std.specs.Prelude.{ℕ, List, ◌++◌, codes, decimal}
use Rattle.numbers.specs.declared.refusal.Fault.{Fault}
use Rattle.numbers.specs.declared.refusal.Fault.TheVariants.{TooLarge, Character}
use Rattle.numbers.specs.declared.refusal.Refusal.{Refusal}

-- what is wrong
abbrev pub fault_text : Fault → List ℕ
fault_text TooLarge = codes "a number above 4294967295"
fault_text Character = codes "a character that is no digit, no blank and no line end"

-- and in which line, as `line 3: a number above 4294967295`
abbrev pub refusal_text : Refusal → List ℕ
refusal_text f = codes "line " ++ (decimal f.line ++ (codes ": " ++ fault_text f.fault))
