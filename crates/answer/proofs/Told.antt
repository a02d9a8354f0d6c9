-- The text for what a call for certain answers is answered with.
use Rattle.std.proofs.Common.{◌≡◌, ℕ, suc, ◌+◌, ◌-◌, ◌<◌, min, List, ◌++◌, length, get_or, take, drop, Some, None, Ok, Err, Option, Result, sym, subst, ap₂, inl, inr, append_assoc, arith}
use Rattle.std.proofs.lemmas.List.{take_min, drop_min}
use Rattle.relational.specs.Readings.{said}
use Rattle.relational.specs.declared.refusal.Refusal.{Refusal}
use Rattle.query.specs.Answering.{rows_in}
use Rattle.query.specs.Certain.{certain_answering, ExactlyCertain, AllCertain, CertainMeans}
use Rattle.query.proofs.Widths.{query_width}
use Rattle.formats.specs.Lines.{row_line, row_lines, refusal_line, impossible_line}
use Rattle.answer.specs.Report.{room, result_text, answers_text, TextMeans}

-- the next row was appended
pub row_more : (c : ℕ) (before whole : List ℕ) (width k n i : ℕ) (rest row next after : List ℕ) → i < n → k ≡ min width (length rest) → row ≡ take k rest → next ≡ drop k rest →
    before ++ row_lines c (rows_in width (n - i) rest) ≡ whole → after ≡ before ++ row_line c row → after ++ row_lines c (rows_in width (n - (i + 1)) next) ≡ whole
row_more c before whole width k n i rest row next after h m r x e a =
    let more : n - i ≡ suc (n - (i + 1)) = omega arith in
    rw (a, r, x, m, take_min, drop_min, append_assoc) (rw more at e)

module _ (facts rules query : List ℕ) (c : ℕ) where
  text_is : (result : Option (Result ℕ (ℕ × ℕ))) (memory : List ℕ) → result ≡ (certain_answering facts rules query room c).result → memory ≡ (certain_answering facts rules query room c).memory →
      result_text c (get_or query 0 0) result memory ≡ answers_text facts rules query c
  text_is result memory e m = ap₂ {C = List ℕ} (λ (r : Option (Result ℕ (ℕ × ℕ))) (xs : List ℕ). result_text c (get_or query 0 0) r xs) e m

  -- the rows that stand in the memory
  pub done_told : (n : ℕ) (memory : List ℕ) → Some (Ok n) ≡ (certain_answering facts rules query room c).result → memory ≡ (certain_answering facts rules query room c).memory →
      CertainMeans facts rules query memory c (Ok (Some n)) →
      (row_lines c (rows_in (get_or query 0 0) n (drop 1 memory)) ≡ answers_text facts rules query c) × TextMeans facts rules query c (answers_text facts rules query c)
  unfolding CertainMeans AllCertain TextMeans
  done_told n memory e m means =
      let s = means.0 in
      let text = text_is (Some (Ok n)) memory e m in
      let rows = ap₂ {C = List (List ℕ)} (λ (w k : ℕ). rows_in w k (drop 1 memory)) (query_width query c s.query s.query_read) s.count in (
        text,
        inl (record {
          request = s.request;
          request_read = s.request_read;
          query = s.query;
          query_read = s.query_read;
          rows = rows_in (get_or query 0 0) n (drop 1 memory);
          certain = subst (ExactlyCertain c s.request.facts s.request.dependencies s.query) rows means.1;
          is = sym text;
        }),
      )

  -- that there is no solution
  pub impossible_told : (memory : List ℕ) → None ≡ (certain_answering facts rules query room c).result → memory ≡ (certain_answering facts rules query room c).memory →
      CertainMeans facts rules query memory c (Ok None) → (impossible_line ≡ answers_text facts rules query c) × TextMeans facts rules query c (answers_text facts rules query c)
  unfolding CertainMeans TextMeans
  impossible_told memory e m means =
      let text = text_is None memory e m in
      (text, inr (inl (record { request = means.0; request_read = means.1; none = means.2; is = sym text })))

  -- a refusal
  pub refused_told : (f : Refusal) (memory : List ℕ) → Some (Err (said f)) ≡ (certain_answering facts rules query room c).result → memory ≡ (certain_answering facts rules query room c).memory →
      (refusal_line (said f).0 (said f).1 ≡ answers_text facts rules query c) × TextMeans facts rules query c (answers_text facts rules query c)
  unfolding TextMeans
  refused_told f memory e m =
      let text = text_is (Some (Err (said f))) memory e m in
      (text, inr (inr (record { number = (said f).0; place = (said f).1; is = sym text })))
