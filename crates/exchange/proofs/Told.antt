-- The text for what a move is answered with.
use Rattle.std.proofs.Common.{◌≡◌, ℕ, ◌⊎◌, List, get_or, Some, None, Ok, Err, Result, sym, refl, ap, ◌∙◌, subst, inl, inr}
use Rattle.relational.specs.Instances.{Instance}
use Rattle.relational.specs.Layout.{facts_in}
use Rattle.relational.specs.Readings.{Request, said}
use Rattle.relational.specs.Rows.{stored}
use Rattle.relational.specs.Solutions.{Universal, NoSolution}
use Rattle.relational.specs.declared.refusal.Refusal.{Refusal}
use Rattle.trigger.specs.Meaning.{begin}
use Rattle.trigger.specs.Steps.{Stage, working, ready, failed, steps}
use Rattle.chase.specs.Replies.{StageSays, MoveSays, MoveMeans}
use Rattle.formats.specs.Lines.{fact_lines, refusal_line, impossible_line}
use Rattle.exchange.specs.Report.{stage_text, request_text, TextMeans}

same_request : (p q : Request) → ◌≡◌ {A = Result Request (ℕ × ℕ)} (Ok p) (Ok q) → p ≡ q
same_request p q e = cc

-- the facts that stand in the row
pub done_told : (c : ℕ) (reading : Result Request (ℕ × ℕ)) (n : ℕ) (before after : List ℕ) → MoveSays c reading (Ok (Some n)) before after → MoveMeans c reading (Ok (Some n)) after →
    (fact_lines c (facts_in after n) ≡ request_text c reading) × TextMeans c reading (request_text c reading)
unfolding MoveSays MoveMeans TextMeans StageSays
done_told c (Err e) n before after h m = absurd h
done_told c (Ok q) n before after h m = go (steps 128 c q.dependencies (working (begin c q.facts))) h
  where
    go : (g : Stage) → StageSays g (Ok (Some n)) before after →
        (fact_lines c (facts_in after n) ≡ stage_text c g)
        × (((u : Instance) × Universal c q.facts q.dependencies u × (stage_text c g ≡ fact_lines c u))
        ⊎ (((stage_text c g ≡ impossible_line) × NoSolution q.facts q.dependencies)
        ⊎ (stage_text c g ≡ refusal_line 5 128)))
    go (working t) s = absurd s
    go failed s = absurd s
    go (ready t) s =
        let k : n ≡ get_or after 0 0 = s.0 ∙ sym (ap (λ (r : List ℕ). get_or r 0 0) s.1) in
        let e = same_request q m.0 m.1 in (
          ap (λ (j : ℕ). fact_lines c (facts_in after j)) k ∙ ap (fact_lines c) s.2,
          inl (stored after, subst (λ (p : Request). Universal c p.facts p.dependencies (stored after)) (sym e) m.3, ap (fact_lines c) (sym s.2)),
        )

-- that there is no solution
pub impossible_told : (c : ℕ) (reading : Result Request (ℕ × ℕ)) (before after : List ℕ) → MoveSays c reading (Ok None) before after → MoveMeans c reading (Ok None) after →
    (impossible_line ≡ request_text c reading) × TextMeans c reading (request_text c reading)
unfolding MoveSays MoveMeans TextMeans StageSays
impossible_told c (Err e) before after h m = absurd h
impossible_told c (Ok q) before after h m = go (steps 128 c q.dependencies (working (begin c q.facts))) h
  where
    go : (g : Stage) → StageSays g (Ok None) before after →
        (impossible_line ≡ stage_text c g)
        × (((u : Instance) × Universal c q.facts q.dependencies u × (stage_text c g ≡ fact_lines c u))
        ⊎ (((stage_text c g ≡ impossible_line) × NoSolution q.facts q.dependencies)
        ⊎ (stage_text c g ≡ refusal_line 5 128)))
    go (working t) s = absurd s
    go (ready t) s = absurd s
    go failed s =
        let e = same_request q m.0 m.1 in
        (refl, inr (inl (refl, subst (λ (p : Request). NoSolution p.facts p.dependencies) (sym e) m.2)))

-- a refusal
pub refused_told : (c : ℕ) (reading : Result Request (ℕ × ℕ)) (f : Refusal) (before after : List ℕ) → MoveSays c reading (Err f) before after →
    (refusal_line (said f).0 (said f).1 ≡ request_text c reading) × TextMeans c reading (request_text c reading)
unfolding MoveSays TextMeans StageSays
refused_told c (Err e) f before after h = (ap (λ (p : ℕ × ℕ). refusal_line p.0 p.1) h.0, refl)
refused_told c (Ok q) f before after h = go (steps 128 c q.dependencies (working (begin c q.facts))) h
  where
    go : (g : Stage) → StageSays g (Err f) before after →
        (refusal_line (said f).0 (said f).1 ≡ stage_text c g)
        × (((u : Instance) × Universal c q.facts q.dependencies u × (stage_text c g ≡ fact_lines c u))
        ⊎ (((stage_text c g ≡ impossible_line) × NoSolution q.facts q.dependencies)
        ⊎ (stage_text c g ≡ refusal_line 5 128)))
    go (working t) s = (ap (λ (p : ℕ × ℕ). refusal_line p.0 p.1) s.0, inr (inr refl))
    go (ready t) s = absurd s
    go failed s = absurd s
