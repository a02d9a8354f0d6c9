-- What the program prints of the bytes that it is given: step by step, and what that means.
use Rattle.std.specs.Prelude.{◌≡◌, ℕ, ◌⊎◌, List, drop, replicate, Some, None, Ok, Err, Option, Result, slice_index}
use Rattle.relational.specs.Readings.{Request, request_reading}
use Rattle.relational.specs.Solutions.{NoSolution}
use Rattle.query.specs.Queries.{Query}
use Rattle.query.specs.Readings.{query_reading}
use Rattle.query.specs.Answering.{rows_in}
use Rattle.query.specs.Certain.{certain_answering, ExactlyCertain}
use Rattle.formats.specs.Bytes.{numbers_of}
use Rattle.formats.specs.Lines.{row_lines, refusal_line, impossible_line}
use Rattle.formats.specs.Stream.{rules_behind, query_behind}

-- where the answers are written, behind their count
abbrev pub room : List ℕ
room = replicate 65537 0

-- the rows that were written, a line each; the refusal; or that there is no solution
abbrev pub result_text : (c width : ℕ) → Option (Result ℕ (ℕ × ℕ)) → List ℕ → List ℕ
result_text c width (Some (Ok n)) memory = row_lines c (rows_in width n (drop 1 memory))
result_text c width (Some (Err e)) memory = refusal_line e.0 e.1
result_text c width None memory = impossible_line

-- the rows are as wide as the query's first number says
abbrev pub answers_text : (facts rules query : List ℕ) (c : ℕ) → List ℕ
answers_text facts rules query c =
    result_text c (slice_index query 0) (certain_answering facts rules query room c).result (certain_answering facts rules query room c).memory

-- a line is printed for each row of constants that every solution answers, once, and for nothing else
pub record AnswersTold (facts rules numbers : List ℕ) (c : ℕ) (text : List ℕ) : Type 0 where
  pub request : Request
  pub request_read : request_reading facts rules 1921 c ≡ Ok request
  pub query : Query
  pub query_read : query_reading numbers c ≡ Ok query
  pub rows : List (List ℕ)
  pub certain : ExactlyCertain c request.facts request.dependencies query rows
  pub is : text ≡ row_lines c rows

-- that there is no solution
pub record ImpossibleTold (facts rules : List ℕ) (c : ℕ) (text : List ℕ) : Type 0 where
  pub request : Request
  pub request_read : request_reading facts rules 1921 c ≡ Ok request
  pub none : NoSolution request.facts request.dependencies
  pub is : text ≡ impossible_line

pub record RefusalTold (text : List ℕ) : Type 0 where
  pub number : ℕ
  pub place : ℕ
  pub is : text ≡ refusal_line number place

unfoldable pub TextMeans : (facts rules query : List ℕ) (c : ℕ) → List ℕ → Type 0
TextMeans facts rules query c text = (AnswersTold facts rules query c text) ⊎ ((ImpossibleTold facts rules c text) ⊎ (RefusalTold text))

-- of the bytes of three files: the first numbers are the first null and the row of facts; what is missing is cut short
abbrev pub report_of : (facts rules query : List ℕ) → List ℕ
report_of facts rules query = answers_text (drop 1 (numbers_of facts)) (numbers_of rules) (numbers_of query) (slice_index (numbers_of facts) 0)

abbrev pub ReportMeans : (facts rules query : List ℕ) → List ℕ → Type 0
ReportMeans facts rules query text = TextMeans (drop 1 (numbers_of facts)) (numbers_of rules) (numbers_of query) (slice_index (numbers_of facts) 0) text

-- of one stream, where the rules stand behind the facts and the query behind the rules
abbrev pub stream_report_of : List ℕ → List ℕ
stream_report_of bytes = report_of bytes (rules_behind bytes) (query_behind (rules_behind bytes))

abbrev pub StreamReportMeans : List ℕ → List ℕ → Type 0
StreamReportMeans bytes text = ReportMeans bytes (rules_behind bytes) (query_behind (rules_behind bytes)) text
