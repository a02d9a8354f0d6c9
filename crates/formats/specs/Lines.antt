-- The text that is printed.
use Rattle.std.specs.Prelude.{ℕ, ◌-◌, cond, List, [], ◌∷◌, ◌++◌, codes, decimal, nat_lt}
use Rattle.std.specs.List.{flat_map}
use Rattle.relational.specs.Instances.{Fact}

-- a constant is its number; nulls are counted from c, behind a question mark
abbrev pub value_text : ℕ → ℕ → List ℕ
value_text c n = cond (nat_lt n c) (decimal n) (codes "?" ++ decimal (n - c))

-- each value behind a blank
abbrev pub values_text : ℕ → List ℕ → List ℕ
values_text c values = flat_map (λ n. codes " " ++ value_text c n) values

-- the relation and the values, as `10: 1 ?0`, and `10:` where there is no value
abbrev pub fact_line : ℕ → Fact → List ℕ
fact_line c f = decimal f.relation ++ (codes ":" ++ (values_text c f.values ++ codes "\n"))

-- a line a fact
abbrev pub fact_lines : ℕ → List Fact → List ℕ
fact_lines c facts = flat_map (fact_line c) facts

-- the values of a row with one blank between them; where there is none the line is empty
abbrev pub row_line : ℕ → List ℕ → List ℕ
row_line c [] = codes "\n"
row_line c (n ∷ values) = value_text c n ++ (values_text c values ++ codes "\n")

-- a line a row
abbrev pub row_lines : ℕ → List (List ℕ) → List ℕ
row_lines c rows = flat_map (row_line c) rows

-- which refusal, and at which place, as `refused 1 at 64`
abbrev pub refusal_line : ℕ → ℕ → List ℕ
refusal_line number place = codes "refused " ++ (decimal number ++ (codes " at " ++ (decimal place ++ codes "\n")))

-- there is no solution
abbrev pub impossible_line : List ℕ
impossible_line = codes "impossible\n"
