-- Whether facts share a null; and the order of places in which a block comes first.
use Rattle.std.proofs.Common.{◌≡◌, ℕ, ◌+◌, ◌<◌, ◌≤◌, Bool, true, false, eqb, ltb, not, ◌||◌, ◌⊎◌, List, [], ◌∷◌, refl, length, get_or, take, Decides, sym, ap, ◌∙◌, subst, inl, inr, arith}
use Rattle.std.specs.List.{list_all, list_any}
use Rattle.std.proofs.lemmas.List.Folds.{list_any_at}
use Rattle.std.proofs.lemmas.List.{length-take-le, length-drop, get_or-take, get_or-drop}
use Rattle.std.proofs.lemmas.Bool.{cases_eq, or_cases, and_from, eq-eqb, eqb-true, lt-ltb, ltb-true, false≢true}
use Rattle.relational.specs.Instances.{In, here, there, Fact, Instance}
use Rattle.relational.proofs.Members.{in_at, in_place}
use Rattle.relational.proofs.Testing.{every_in, any_in}
use Rattle.redundancy.specs.Mappings.{no_fact, Places}
use Rattle.redundancy.specs.Blocks.{NoSharedNull, Block, Arranged}

-- WHETHER FACTS ARE APART
or_true : (b : Bool) → (b || true) ≡ true
or_true true = refl
or_true false = refl

module _ (c : ℕ) (others : List ℕ) where
  -- a number is a constant, or stands not among the others
  abbrev apart_at : ℕ → Bool
  apart_at n = ltb n c || not (list_any (λ (m : ℕ). eqb m n) others)

  below_told : (n : ℕ) → apart_at n ≡ true → In n others → n < c
  below_told n e i = elim (or_cases (ltb n c) (not (list_any (λ (m : ℕ). eqb m n) others)) e) [
    | inl h ↦ ltb-true n c h
    | inr h ↦
        let t = in_place i in
        let stands = list_any_at (λ (m : ℕ). eqb m n) others t.0 0 t.1 (eq-eqb (get_or others t.0 0) n (t.2 0)) in
        absurd (false≢true (ap not (sym stands) ∙ h))
  ]

  told_below : (n : ℕ) → (In n others → n < c) → apart_at n ≡ true
  told_below n h = go (list_any (λ (m : ℕ). eqb m n) others) refl
    where
      go : (b : Bool) → list_any (λ (m : ℕ). eqb m n) others ≡ b → (ltb n c || not b) ≡ true
      go true e =
          let t = any_in (λ (m : ℕ). eqb m n) others e in
          let l = lt-ltb n c (h (subst (λ (z : ℕ). In z others) (eqb-true t.0 n t.2) t.1)) in
          simp l
      go false e = or_true (ltb n c)

  all_told : (ns : List ℕ) → ((n : ℕ) → In n ns → In n others → n < c) → list_all apart_at ns ≡ true
  all_told [] h = refl
  all_told (n ∷ ns) h = and_from (apart_at n) (list_all apart_at ns) (told_below n (h n here)) (all_told ns (λ m i. h m (there i)))

pub apart_decides : (c : ℕ) (f g : Fact) (r : Bool) → r ≡ list_all (λ (n : ℕ). ltb n c || not (list_any (λ (m : ℕ). eqb m n) g.values)) f.values → Decides r (NoSharedNull c f g)
unfolding NoSharedNull
apart_decides c f g r e = (
  (λ t. λ n i j. below_told c g.values n (every_in (apart_at c g.values) f.values n (sym e ∙ t) i) j),
  λ h. e ∙ all_told c g.values f.values h,
)

-- THE ORDER
-- the fact at a position of the order
abbrev pub fact_at : Instance → List ℕ → ℕ → Fact
fact_at facts order p = get_or facts (get_or order p 0) no_fact

-- while the positions from `count` on are looked through for what shares a null with position k: those before i share none
pub record Scanned (c : ℕ) (facts : Instance) (place : ℕ) (order : List ℕ) (k count i : ℕ) : Type 0 where
  pub arranged : Arranged c facts place order k count
  pub looking : k < count
  pub behind : count ≤ i
  pub apart : (p : ℕ) → count ≤ p → p < i → NoSharedNull c (fact_at facts order p) (fact_at facts order k)

module _ (c : ℕ) (facts : Instance) (place : ℕ) (order : List ℕ) (k count i : ℕ) (s : Scanned c facts place order k count i) where
  -- one that shares no null
  pub scan_past : NoSharedNull c (fact_at facts order i) (fact_at facts order k) → Scanned c facts place order k count (i + 1)
  scan_past h = record {
    arranged = s.arranged;
    looking = s.looking;
    behind = omega (arith, s.behind);
    apart = λ p l m. elim (cases_eq p i) [
      | inl e ↦ subst (λ (z : ℕ). NoSharedNull c (fact_at facts order z) (fact_at facts order k)) (sym e) h
      | inr n ↦ s.apart p l (omega (arith, n))
    ];
  }

  -- one that does changes places with the first behind the block
  module _ (l : i < length order) (after : List ℕ) (long : length after ≡ length order) (there_is : get_or after i 0 ≡ get_or order count 0) (here_is : get_or after count 0 ≡ get_or order i 0)
      (others : (p : ℕ) → (p ≡ i → ⊥) → (p ≡ count → ⊥) → get_or after p 0 ≡ get_or order p 0) where
    places_after : (p : ℕ) → p < length after → get_or after p 0 < length facts
    places_after p h = go (cases_eq p i) (cases_eq p count)
      where
        go : (p ≡ i) ⊎ (p ≡ i → ⊥) → (p ≡ count) ⊎ (p ≡ count → ⊥) → get_or after p 0 < length facts
        go (inl e) o = subst (λ (z : ℕ). z < length facts) (sym (ap (λ (q : ℕ). get_or after q 0) e ∙ there_is)) (s.arranged.places count (omega (arith, s.behind)))
        go (inr n) (inl e) = subst (λ (z : ℕ). z < length facts) (sym (ap (λ (q : ℕ). get_or after q 0) e ∙ here_is)) (s.arranged.places i l)
        go (inr n) (inr m) = subst (λ (z : ℕ). z < length facts) (sym (others p n m)) (s.arranged.places p (omega (arith, long)))

    all_after : (j : ℕ) → j < length facts → (p : ℕ) × (p < length after) × (get_or after p 0 ≡ j)
    all_after j h = let t = s.arranged.all j h in go t.0 t.1 t.2 (cases_eq t.0 i) (cases_eq t.0 count)
      where
        go : (p : ℕ) → p < length order → get_or order p 0 ≡ j → (p ≡ i) ⊎ (p ≡ i → ⊥) → (p ≡ count) ⊎ (p ≡ count → ⊥) → (q : ℕ) × (q < length after) × (get_or after q 0 ≡ j)
        go p b e (inl w) o = (count, omega (arith, long, s.behind), here_is ∙ ap (λ (q : ℕ). get_or order q 0) (sym w) ∙ e)
        go p b e (inr n) (inl w) = (i, omega (arith, long), there_is ∙ ap (λ (q : ℕ). get_or order q 0) (sym w) ∙ e)
        go p b e (inr n) (inr m) = (p, omega (arith, long), others p n m ∙ e)

    -- positions before the end of the block are as they were
    kept : (p : ℕ) → p < count → get_or after p 0 ≡ get_or order p 0
    kept p h = others p (λ e. omega (arith, e, s.behind)) (λ e. omega (arith, e))

    -- what stands behind the block now stood there before
    moved : (P : ℕ → Type 0) (p : ℕ) → count + 1 ≤ p → P (get_or order count 0) → ((p ≡ i → ⊥) → P (get_or order p 0)) → P (get_or after p 0)
    moved P p h x y = elim (cases_eq p i) [
      | inl e ↦ subst P (sym (ap (λ (q : ℕ). get_or after q 0) e ∙ there_is)) x
      | inr n ↦ subst P (sym (others p n (λ e. omega (arith, e)))) (y n)
    ]

    pub scan_swap : Scanned c facts place after k (count + 1) (i + 1)
    scan_swap =
        let a = s.arranged in
        record {
          arranged = record {
            places = places_after;
            all = all_after;
            some = omega arith;
            few = omega (arith, long, s.behind);
            first = kept 0 a.some ∙ a.first;
            closed = λ p q h m b. moved (λ x. NoSharedNull c (get_or facts x no_fact) (fact_at facts after q)) p h
                (subst (λ x. NoSharedNull c (fact_at facts order count) (get_or facts x no_fact)) (sym (kept q (omega (arith, b, s.looking)))) (a.closed count q (omega arith) (omega (arith, s.behind)) b))
                (λ n. subst (λ x. NoSharedNull c (fact_at facts order p) (get_or facts x no_fact)) (sym (kept q (omega (arith, b, s.looking)))) (a.closed p q (omega arith) (omega (arith, long)) b));
          };
          looking = omega (arith, s.looking);
          behind = omega (arith, s.behind);
          apart = λ p h m. moved (λ x. NoSharedNull c (get_or facts x no_fact) (fact_at facts after k)) p h
              (subst (λ x. NoSharedNull c (fact_at facts order count) (get_or facts x no_fact)) (sym (kept k s.looking)) (s.apart count (omega arith) (omega (arith, h, m))))
              (λ n. subst (λ x. NoSharedNull c (fact_at facts order p) (get_or facts x no_fact)) (sym (kept k s.looking)) (s.apart p (omega arith) (omega (arith, n))));
        }

-- at first the block has the one place
pub arranged_begin : (c : ℕ) (facts : Instance) (place : ℕ) (plain order : List ℕ) → ((p : ℕ) → p < length plain → get_or plain p 0 ≡ p) → length plain ≡ length facts → length order ≡ length plain → place < length facts →
    get_or order 0 0 ≡ get_or plain place 0 → get_or order place 0 ≡ get_or plain 0 0 → ((p : ℕ) → (p ≡ 0 → ⊥) → (p ≡ place → ⊥) → get_or order p 0 ≡ get_or plain p 0) → Arranged c facts place order 0 1
arranged_begin c facts place plain order own n m l zero_is place_is others = record {
  places = places;
  all = all;
  some = omega arith;
  few = omega (arith, n, m, l);
  first = zero_is ∙ own place (omega (arith, n));
  closed = λ p q h b e. absurd (omega (arith, e));
}
  where
    places : (p : ℕ) → p < length order → get_or order p 0 < length facts
    places p h = go (cases_eq p 0) (cases_eq p place)
      where
        go : (p ≡ 0) ⊎ (p ≡ 0 → ⊥) → (p ≡ place) ⊎ (p ≡ place → ⊥) → get_or order p 0 < length facts
        go (inl e) o = omega (arith, ap (λ (q : ℕ). get_or order q 0) e, zero_is, own place (omega (arith, n)))
        go (inr a) (inl e) = omega (arith, ap (λ (q : ℕ). get_or order q 0) e, place_is, own 0 (omega (arith, n)))
        go (inr a) (inr b) = omega (arith, others p a b, own p (omega (arith, m)))

    all : (j : ℕ) → j < length facts → (p : ℕ) × (p < length order) × (get_or order p 0 ≡ j)
    all j h = go (cases_eq j 0) (cases_eq j place)
      where
        go : (j ≡ 0) ⊎ (j ≡ 0 → ⊥) → (j ≡ place) ⊎ (j ≡ place → ⊥) → (p : ℕ) × (p < length order) × (get_or order p 0 ≡ j)
        go (inl e) o = (place, omega (arith, n, m), place_is ∙ own 0 (omega (arith, n)) ∙ sym e)
        go (inr a) (inl e) = (0, omega (arith, n, m), zero_is ∙ own place (omega (arith, n)) ∙ sym e)
        go (inr a) (inr b) = (j, omega (arith, n, m), others j a b ∙ own j (omega (arith, n)))

-- at the end it is closed
pub arranged_end : (c : ℕ) (facts : Instance) (place : ℕ) (order : List ℕ) (k count : ℕ) → Arranged c facts place order k count → count ≤ k → Block c facts place order count
unfolding Places
arranged_end c facts place order k count a l = record {
  places = λ i h. let t = in_place h in subst (λ (z : ℕ). z < length facts) (t.2 0) (a.places t.0 t.1);
  all = λ i h. let t = a.all i h in subst (λ (z : ℕ). In z order) t.2 (in_at order t.0 0 t.1);
  few = a.few;
  has = subst (λ (z : ℕ). In z (take count order)) (get_or-take count order 0 0 a.some ∙ a.first) (in_at (take count order) 0 0 (omega (arith, length-take-le count order a.few, a.some)));
  closed = λ i j h m.
      let t = in_place h in
      let s = in_place m in
      let b : s.0 < count = omega (arith, s.1, length-take-le count order a.few) in
      let x : get_or order (count + t.0) 0 ≡ i = sym (get_or-drop count order t.0 0) ∙ t.2 0 in
      let y : get_or order s.0 0 ≡ j = sym (get_or-take count order s.0 0 b) ∙ s.2 0 in
      subst (λ (z : ℕ). NoSharedNull c (get_or facts z no_fact) (get_or facts j no_fact)) x
      (subst (λ (z : ℕ). NoSharedNull c (fact_at facts order (count + t.0)) (get_or facts z no_fact)) y (a.closed (count + t.0) s.0 (omega arith) (omega (arith, t.1, length-drop count order)) (omega arith)));
}
