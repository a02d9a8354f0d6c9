-- What the program prints of the bytes that it is given: step by step, and what that means.
use Rattle.std.specs.Prelude.{◌≡◌, ℕ, ◌⊎◌, List, drop, Ok, Err, Result, slice_index}
use Rattle.relational.specs.Instances.{Instance}
use Rattle.relational.specs.Readings.{Request, request_reading}
use Rattle.relational.specs.Solutions.{Universal, NoSolution}
use Rattle.trigger.specs.Meaning.{begin}
use Rattle.trigger.specs.Steps.{Stage, working, ready, failed, steps}
use Rattle.formats.specs.Bytes.{numbers_of}
use Rattle.formats.specs.Lines.{fact_lines, refusal_line, impossible_line}
use Rattle.formats.specs.Stream.{rules_behind}

-- after the last step: the facts, a line each; that there is no solution; or that the chase was given up
abbrev pub stage_text : ℕ → Stage → List ℕ
stage_text c (working t) = refusal_line 5 128
stage_text c (ready t) = fact_lines c t.facts
stage_text c failed = impossible_line

-- a request is chased for 128 steps, or its refusal is told
abbrev pub request_text : ℕ → Result Request (ℕ × ℕ) → List ℕ
request_text c (Ok q) = stage_text c (steps 128 c q.dependencies (working (begin c q.facts)))
request_text c (Err e) = refusal_line e.0 e.1

-- what the text says of a request: the facts of a universal solution, a line each; that there is no solution; that the chase was given up; or the refusal
unfoldable pub TextMeans : ℕ → Result Request (ℕ × ℕ) → List ℕ → Type 0
TextMeans c (Ok q) text =
    ((u : Instance) × Universal c q.facts q.dependencies u × (text ≡ fact_lines c u))
    ⊎ (((text ≡ impossible_line) × NoSolution q.facts q.dependencies)
    ⊎ (text ≡ refusal_line 5 128))
TextMeans c (Err e) text = text ≡ refusal_line e.0 e.1

-- the first numbers are the first null and the row of facts, the others the row of rules; what is missing is cut short
abbrev pub reading_of : (facts rules : List ℕ) → Result Request (ℕ × ℕ)
reading_of facts rules = request_reading (drop 1 (numbers_of facts)) (numbers_of rules) 1921 (slice_index (numbers_of facts) 0)

-- of the bytes of two files
abbrev pub report_of : (facts rules : List ℕ) → List ℕ
report_of facts rules = request_text (slice_index (numbers_of facts) 0) (reading_of facts rules)

abbrev pub ReportMeans : (facts rules : List ℕ) → List ℕ → Type 0
ReportMeans facts rules text = TextMeans (slice_index (numbers_of facts) 0) (reading_of facts rules) text

-- of one stream, where the rules stand behind the facts
abbrev pub stream_report_of : List ℕ → List ℕ
stream_report_of bytes = report_of bytes (rules_behind bytes)

abbrev pub StreamReportMeans : List ℕ → List ℕ → Type 0
StreamReportMeans bytes text = ReportMeans bytes (rules_behind bytes) text
