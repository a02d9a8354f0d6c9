-- Where all comes on one stream: the first null, the count of facts, the facts, behind them the rules, and where a query is asked, behind these the query.
use Rattle.std.specs.Prelude.{ℕ, ◌+◌, ◌*◌, cond, List, drop, nat_le, slice_index}
use Rattle.formats.specs.Bytes.{numbers_of}

-- a count above the most that there may be is refused, and nothing that it promises is passed over
abbrev pub up_to : ℕ → ℕ → ℕ
up_to most count = cond (nat_le count most) count 0

-- at most 64 facts
abbrev pub few : ℕ → ℕ
few count = up_to 64 count

-- how many facts stand ahead of the rules: the second number says so
abbrev pub facts_ahead : List ℕ → ℕ
facts_ahead bytes = few (slice_index (numbers_of bytes) 1)

-- each number is four bytes, and each fact six numbers
abbrev pub rules_behind : List ℕ → List ℕ
rules_behind bytes = drop (4 * (2 + 6 * facts_ahead bytes)) bytes

-- how many rules stand ahead of the query, in bytes that begin with their count: one above 16 is refused, and none are passed over
abbrev pub rules_ahead : List ℕ → ℕ
rules_ahead bytes = up_to 16 (slice_index (numbers_of bytes) 0)

-- each rule is 53 numbers
abbrev pub query_behind : List ℕ → List ℕ
query_behind bytes = drop (4 * (1 + 53 * rules_ahead bytes)) bytes
