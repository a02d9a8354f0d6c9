-- A text that is read character by character. Assumes nothing.
use Rattle.std.proofs.Common.{◌≡◌, ℕ, ◌+◌, ◌<◌, ◌≤◌, List, ◌++◌, length, get_or, drop, Ok, Err, MatchResult, Result, sym, refl, ap, ◌∙◌, append_assoc}
use Rattle.std.proofs.lemmas.List.{drop_more, drop_all}
use Rattle.std.proofs.lemmas.Bool.{eq-eqb, ne_eqb}
use Rattle.std.proofs.lemmas.Grind.{flat_map-append}
use Rattle.numbers.specs.Reading.{after, closed, before, ends_after, onward, read_from, in_bytes}
use Rattle.numbers.specs.Writing.{four_bytes, bytes_of}
use Rattle.numbers.specs.declared.inside.Inside.{Inside}
use Rattle.numbers.specs.declared.inside.Inside.TheVariants.{Nothing}
use Rattle.numbers.specs.declared.refusal.Fault.{Fault}
use Rattle.numbers.specs.declared.refusal.Refusal.{Refusal}

before_before : {E : Type 0} (xs ys : List ℕ) (r : Result (List ℕ) E) → before xs (before ys r) ≡ before (xs ++ ys) r
before_before xs ys (Ok zs) = ap (λ l. Ok l) (sym (append_assoc xs ys zs))
before_before xs ys (Err e) = refl

in_bytes_before : {E : Type 0} (ns : List ℕ) (r : Result (List ℕ) E) → in_bytes (before ns r) ≡ before (bytes_of ns) (in_bytes r)
in_bytes_before ns (Ok ms) = ap (λ l. Ok l) (flat_map-append four_bytes ns ms)
in_bytes_before ns (Err e) = refl

-- a line end is counted, and no other character is
pub one_ended : (ended c : ℕ) → c ≡ 10 → ended + 1 ≡ ends_after ended c
one_ended ended c e = rw (eq-eqb c 10 e)

pub none_ended : (ended c : ℕ) → (c ≡ 10 → ⊥) → ended ≡ ends_after ended c
none_ended ended c e = rw (ne_eqb c 10 e)

-- what a character is answered with in a line: what the text is inside of behind it, or its fault and the line
abbrev pub InLine : ℕ → Result Inside Fault → Result Inside Refusal → Type 0
InLine line read told = MatchResult read (λ next. told ≡ Ok next) (λ f. told ≡ Err (record { fault = f; line = line }))

refused : (line : ℕ) (read : Result Inside Fault) (told : Result Inside Refusal) (f : Refusal) → InLine line read told → told ≡ Err f → (g : Fault) × (read ≡ Err g) × (f ≡ record { fault = g; line = line })
refused line (Ok next) told f is e = absurd (cc)
refused line (Err g) told f is e = (g, refl, cc)

passed : (line : ℕ) (read : Result Inside Fault) (told : Result Inside Refusal) (next : Inside) → InLine line read told → told ≡ Ok next → read ≡ Ok next
passed line (Ok now) told next is e = cc
passed line (Err g) told next is e = cc

module _ (text : List ℕ) (i ended : ℕ) (inside : Inside) (done : List ℕ) (whole : Result (List ℕ) Refusal) (so_far : before done (in_bytes (read_from ended inside (drop i text))) ≡ whole) where
  -- the character at place i, taken by itself
  here : i < length text → before done (in_bytes (onward ended inside (after inside (get_or text i 0)) (λ next. read_from (ends_after ended (get_or text i 0)) next (drop (i + 1) text)))) ≡ whole
  unfolding read_from
  here h = rw (drop_more text i 0 h) at so_far

  -- one character on, inside of `next` and behind `later` line ends
  pub turn : (told : Result Inside Refusal) (next now : Inside) (more : List ℕ) (later : ℕ) → i < length text → InLine (ended + 1) (after inside (get_or text i 0)) told → told ≡ Ok next → more ≡ done ++ bytes_of (closed inside next) → now ≡ next →
      later ≡ ends_after ended (get_or text i 0) → before more (in_bytes (read_from later now (drop (i + 1) text))) ≡ whole
  turn told next now more later h line is_ok is same e =
      let goes : after inside (get_or text i 0) ≡ Ok next = passed (ended + 1) (after inside (get_or text i 0)) told next line is_ok in
      let rest : Result (List ℕ) Refusal = read_from (ends_after ended (get_or text i 0)) next (drop (i + 1) text) in
      rw (is, same, e) (sym (before_before done (bytes_of (closed inside next)) (in_bytes rest)) ∙ ap (before done) (sym (in_bytes_before (closed inside next) rest)) ∙ (rw goes at (here h)))

  pub stops : (told : Result Inside Refusal) (f : Refusal) → i < length text → InLine (ended + 1) (after inside (get_or text i 0)) told → told ≡ Err f → whole ≡ Err f
  stops told f h line is_err =
      let fault = refused (ended + 1) (after inside (get_or text i 0)) told f line is_err in
      rw fault.2 (sym (rw fault.1 at (here h)))

  pub ends : (all : List ℕ) → length text ≤ i → all ≡ done ++ bytes_of (closed inside Nothing) → whole ≡ Ok all
  unfolding read_from
  ends all h is = sym (rw (drop_all i text h) at so_far) ∙ ap (λ l. Ok l) (sym is)
