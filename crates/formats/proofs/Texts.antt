-- One fact more in a text. Assumes nothing.
use Rattle.std.proofs.Common.{◌≡◌, ℕ, suc, ◌+◌, ◌-◌, ◌*◌, ◌<◌, ◌≤◌, List, ◌++◌, drop, IfOk, Ok, Err, Result, sym, ap, ◌∙◌, append_assoc, append-nil, add-one, arith}
use Rattle.std.proofs.lemmas.List.{drop-drop}
use Rattle.relational.specs.Layout.{fact_in, facts_from}
use Rattle.formats.specs.Lines.{fact_line, fact_lines}

-- what was appended, told otherwise
pub retold : {T E : Type 0} (r : Result T E) (before after told text : List ℕ) → told ≡ text → IfOk r (λ _. after ≡ before ++ told) → IfOk r (λ _. after ≡ before ++ text)
retold (Ok x) before after told text e h = h ∙ ap (λ t. before ++ t) e
retold (Err y) before after told text e h = tt

module _ (c : ℕ) (before whole : List ℕ) where
  -- the fact at place i was appended, and k are left
  fact_step : (row rest : List ℕ) (i k : ℕ) (after : List ℕ) → rest ≡ drop (6 * i + 1) row → before ++ fact_lines c (facts_from row i (suc k)) ≡ whole → after ≡ before ++ fact_line c (fact_in rest) → after ++ fact_lines c (facts_from row (suc i) k) ≡ whole
  unfolding facts_from
  fact_step row rest i k after here e a = rw (a, here, append_assoc) e

  pub fact_more : (row rest : List ℕ) (i n : ℕ) (after : List ℕ) → i < n → rest ≡ drop (6 * i + 1) row → before ++ fact_lines c (facts_from row i (n - i)) ≡ whole → after ≡ before ++ fact_line c (fact_in rest) → after ++ fact_lines c (facts_from row (i + 1) (n - (i + 1))) ≡ whole
  fact_more row rest i n after h here e a =
      let more : n - i ≡ suc (n - (i + 1)) = omega arith in
      rw (add-one i) (fact_step row rest i (n - suc i) after here (rw (more, add-one i) at e) a)

  pub facts_all : (row : List ℕ) (i n : ℕ) → n ≤ i → before ++ fact_lines c (facts_from row i (n - i)) ≡ whole → before ≡ whole
  unfolding facts_from
  facts_all row i n h e =
      let none : n - i ≡ 0 = omega arith in
      sym (append-nil before) ∙ (rw none at e)

-- the next fact stands six numbers on
pub next_fact : (row rest next : List ℕ) (i : ℕ) → rest ≡ drop (6 * i + 1) row → next ≡ drop 6 rest → next ≡ drop (6 * (i + 1) + 1) row
next_fact row rest next i here e =
    let far : 6 * i + 1 + 6 ≡ 6 * (i + 1) + 1 = omega arith in
    e ∙ ap (drop 6) here ∙ drop-drop 6 (6 * i + 1) row ∙ ap (λ n. drop n row) far
