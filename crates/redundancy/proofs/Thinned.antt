-- Sparing facts block by block gives the same as asking for a homomorphism of the whole instance.
use Rattle.std.proofs.Common.{◌≡◌, ℕ, zero, suc, ◌-◌, ◌<◌, Bool, true, false, cond, ◌⊎◌, List, [], ◌++◌, map, length, get_or, take, drop, Decides, sym, refl, ap, ◌∙◌, subst, ap₂, inl, inr, arith}
use Rattle.std.specs.List.{remove}
use Rattle.std.proofs.lemmas.List.{map-append, take-map, drop-map, take-append-drop}
use Rattle.std.proofs.lemmas.Bool.{cases_eq}
use Rattle.std.proofs.lemmas.Bool.Decides.{same_from_decides, Decides-like}
use Rattle.relational.specs.Instances.{In, Within, Fact, Instance}
use Rattle.relational.specs.Solutions.{rename, Homomorphism}
use Rattle.relational.specs.declared.fact.Fact as code
use Rattle.relational.specs.Represented.{fact_of}
use Rattle.relational.proofs.Members.{in_at, in_place, in_append, in_left, in_map_inv, in_map, in_take, within_trans, within_refl}
use Rattle.relational.proofs.Decidable.{decide_number}
use Rattle.relational.proofs.Homomorphisms.{rename_agree, rename_fixed, identity, restricted, extended}
use Rattle.chase.specs.Limit.{values_in}
use Rattle.chase.proofs.Variables.{values_in_has, values_in_only}
use Rattle.redundancy.specs.Cores.{has_homomorphism, distinct, thinned}
use Rattle.redundancy.specs.Mappings.{Pairs, Extension, no_fact, facts_at, Places}
use Rattle.redundancy.specs.Blocks.{NoSharedNull, Block}
use Rattle.redundancy.proofs.Cores.{removed_within, distinct_within, within_distinct}
use Rattle.redundancy.proofs.Homomorphisms.{homomorphism_tested, tested_from_part}
use Rattle.redundancy.proofs.Extended.{place_kept, agrees_none}

-- ONE BLOCK
-- a map on the numbers of a list, which leaves the others alone
glued_by : (ℕ → ℕ) → (ns : List ℕ) (n : ℕ) → In n ns ⊎ (In n ns → ⊥) → ℕ
glued_by h ns n (inl i) = h n
glued_by h ns n (inr i) = n

glued : (ℕ → ℕ) → List ℕ → ℕ → ℕ
glued h ns n = glued_by h ns n (decide_number n ns)

glued_in : (h : ℕ → ℕ) (ns : List ℕ) (n : ℕ) → In n ns → glued h ns n ≡ h n
unfolding glued glued_by
glued_in h ns n i = elim (decide_number n ns) as (λ d. glued_by h ns n d ≡ h n) [ inl k ↦ refl | inr k ↦ absurd (k i) ]

glued_out : (h : ℕ → ℕ) (ns : List ℕ) (n : ℕ) → (In n ns → h n ≡ n) → glued h ns n ≡ n
unfolding glued glued_by
glued_out h ns n e = elim (decide_number n ns) as (λ d. glued_by h ns n d ≡ n) [ inl k ↦ e k | inr k ↦ refl ]

apart_at : (c : ℕ) (f g : Fact) → NoSharedNull c f g → (n : ℕ) → In n f.values → In n g.values → n < c
unfolding NoSharedNull
apart_at c f g a n i j = a n i j

place_at : (n : ℕ) (places : List ℕ) → Places n places → (i : ℕ) → In i places → i < n
unfolding Places
place_at n places p i h = p i h

module _ (c : ℕ) (facts : Instance) (place : ℕ) (order : List ℕ) (count : ℕ) (b : Block c facts place order count) (l : place < length facts) where
  front_in : {i : ℕ} → In i (take count order) → In i order
  front_in {i} h = subst (In i) (take-append-drop count order) (in_left (drop count order) h)

  block_within : Within (facts_at facts (take count order)) facts
  unfolding Within
  block_within = λ f i. let t = in_map_inv (λ j. get_or facts j no_fact) (take count order) i in subst (λ z. In z facts) (sym t.2) (in_at facts t.0 no_fact (place_at (length facts) order b.places t.0 (front_in t.1)))

  module _ (h : Homomorphism c (facts_at facts (take count order)) (remove facts place)) where
    numbers : List ℕ
    numbers = values_in (facts_at facts (take count order))

    in_front : (i : ℕ) → In i (take count order) → In (rename (glued h.on numbers) (get_or facts i no_fact)) (remove facts place)
    unfolding numbers
    in_front i j =
        let m : In (get_or facts i no_fact) (facts_at facts (take count order)) = in_map (λ k. get_or facts k no_fact) j in
        subst (λ z. In z (remove facts place)) (sym (rename_agree (glued h.on numbers) h.on (get_or facts i no_fact) (λ n v. glued_in h.on numbers n (values_in_has n (facts_at facts (take count order)) (get_or facts i no_fact) m v)))) (h.into (get_or facts i no_fact) m)

    -- a number of a fact behind the block that stands in the block is a constant
    shared : (i : ℕ) → In i (drop count order) → (n : ℕ) → In n (get_or facts i no_fact).values → In n numbers → h.on n ≡ n
    unfolding numbers
    shared i j n v m =
        let t = values_in_only n (facts_at facts (take count order)) m in
        let s = in_map_inv (λ k. get_or facts k no_fact) (take count order) t.1 in
        h.fixes n (apart_at c (get_or facts i no_fact) (get_or facts s.0 no_fact) (b.closed i s.0 j s.1) n v (subst (λ (z : Fact). In n z.values) s.2 t.2))

    behind : (i : ℕ) → i < length facts → (i ≡ place → ⊥) → In i (drop count order) → In (rename (glued h.on numbers) (get_or facts i no_fact)) (remove facts place)
    behind i k n j =
        subst (λ z. In z (remove facts place)) (sym (rename_fixed (glued h.on numbers) (get_or facts i no_fact) (λ m v. glued_out h.on numbers m (shared i j m v)))) (place_kept facts place i no_fact l k n)

    at_place : (i : ℕ) → i < length facts → In (rename (glued h.on numbers) (get_or facts i no_fact)) (remove facts place)
    at_place i k = go (cases_eq i place) (in_append (take count order) (subst (In i) (sym (take-append-drop count order)) (b.all i k)))
      where
        go : (i ≡ place) ⊎ (i ≡ place → ⊥) → In i (take count order) ⊎ In i (drop count order) → In (rename (glued h.on numbers) (get_or facts i no_fact)) (remove facts place)
        go (inl e) o = in_front i (subst (λ (z : ℕ). In z (take count order)) (sym e) b.has)
        go (inr n) (inl j) = in_front i j
        go (inr n) (inr j) = behind i k n j

    -- the block goes by the map, and the other facts stay
    from_block : Homomorphism c facts (remove facts place)
    from_block = record {
      on = glued h.on numbers;
      fixes = λ n m. glued_out h.on numbers n (λ i. h.fixes n m);
      into = λ f i. let t = in_place i in subst (λ z. In (rename (glued h.on numbers) z) (remove facts place)) (t.2 no_fact) (at_place t.0 t.1);
    }

  pub block_decides : (pairs : Pairs) (r : Bool) → pairs ≡ [] → Decides r (Extension c pairs (facts_at facts (take count order)) (remove facts place)) → Decides r (Homomorphism c facts (remove facts place))
  block_decides pairs r e d =
      Decides-like r (λ x. from_block x.goes)
      (λ g. subst (λ ps. Extension c ps (facts_at facts (take count order)) (remove facts place)) (sym e) (record { goes = restricted c (facts_at facts (take count order)) facts (remove facts place) block_within g; agrees = agrees_none g.on })) d

-- FROM THE LAST TO THE FIRST
-- what holds of those that are left, where the first i are still to be looked at
pub record Sparing (c : ℕ) (u : Instance) (i : ℕ) (w : Instance) : Type 0 where
  pub within : Within w u
  pub goes : Homomorphism c u w
  pub same : thinned c u i w ≡ thinned c u (length u) u

pub sparing_begin : (c : ℕ) (u : Instance) (i : ℕ) (w : Instance) → w ≡ u → i ≡ length u → Sparing c u i w
sparing_begin c u i w e k = record {
  within = subst (λ z. Within z u) (sym e) (within_refl u);
  goes = subst (Homomorphism c u) (sym e) (identity c u);
  same = ap₂ {C = Instance} (λ (j : ℕ) (z : Instance). thinned c u j z) k e;
}

module _ (c : ℕ) (u : Instance) (i : ℕ) (w : Instance) (s : Sparing c u (suc i) w) (r : Bool) (d : Decides r (Homomorphism c w (remove w i))) where
  same_answer : has_homomorphism c u (remove w i) ≡ r
  same_answer = tested_from_part c u w (remove w i) s.within s.goes ∙ same_from_decides (has_homomorphism c w (remove w i)) r (homomorphism_tested c w (remove w i)) d

  next : thinned c u i (cond r (remove w i) w) ≡ thinned c u (length u) u
  unfolding thinned
  next = ap (λ (b : Bool). thinned c u i (cond b (remove w i) w)) (sym same_answer) ∙ s.same

  pub sparing_taken : r ≡ true → Sparing c u i (remove w i)
  sparing_taken e = record {
    within = within_trans (remove w i) w u (removed_within w i) s.within;
    goes = (homomorphism_tested c u (remove w i)).0 (same_answer ∙ e);
    same = ap (λ (b : Bool). thinned c u i (cond b (remove w i) w)) (sym e) ∙ next;
  }

  pub sparing_left : r ≡ false → Sparing c u i w
  sparing_left e = record { within = s.within; goes = s.goes; same = ap (λ (b : Bool). thinned c u i (cond b (remove w i) w)) (sym e) ∙ next }

pub sparing_end : (c : ℕ) (u : Instance) (i : ℕ) (w : Instance) → Sparing c u i w → i ≡ 0 → w ≡ thinned c u (length u) u
unfolding thinned
sparing_end c u i w s e = sym (ap (λ (j : ℕ). thinned c u j w) e) ∙ s.same

-- thinning a part into which the instance goes is thinning by the instance
pub thinned_part : (c : ℕ) (u part : Instance) → Within part u → Homomorphism c u part → (i : ℕ) (w : Instance) → thinned c u i w ≡ thinned c part i w
unfolding thinned
thinned_part c u part p g zero w = refl
thinned_part c u part p g (suc i) w =
    ap (λ (b : Bool). thinned c u i (cond b (remove w i) w)) (tested_from_part c u part (remove w i) p g) ∙ thinned_part c u part p g i (cond (has_homomorphism c part (remove w i)) (remove w i) w)

pub distinct_goes : (c : ℕ) (u : Instance) → Homomorphism c u (distinct u)
distinct_goes c u = extended c u u (distinct u) (within_distinct u) (identity c u)

-- the thinned distinct facts are the core
pub thinned_distinct : (c : ℕ) (u : Instance) (i : ℕ) (w : Instance) → thinned c u i w ≡ thinned c (distinct u) i w
thinned_distinct c u i w = thinned_part c u (distinct u) (distinct_within u) (distinct_goes c u) i w

pub block_places : (c : ℕ) (facts : Instance) (place : ℕ) (order : List ℕ) (count n : ℕ) → Block c facts place order count → length facts ≡ n → Places n (take count order)
unfolding Places
block_places c facts place order count n b e = λ i h. subst (λ (z : ℕ). i < z) e (place_at (length facts) order b.places i (in_take count order h))

-- IN MEMORY
pub removed_map : {A B : Type 0} (f : A → B) (xs : List A) (i : ℕ) → map f (remove xs i) ≡ remove (map f xs) i
removed_map {A} {B} f xs i = map-append f (take i xs) (drop (suc i) xs) ∙ ap₂ {C = List B} (λ (ys zs : List B). ys ++ zs) (sym (take-map f i xs)) (sym (drop-map f (suc i) xs))

-- one step, at the place before i
module _ (c : ℕ) (u : Instance) (facts seen : List code.Fact) (i : ℕ) (l : 0 < i) (is : seen ≡ facts) (s : Sparing c u i (map fact_of facts)) (r : Bool)
    (d : Decides r (Homomorphism c (map fact_of seen) (remove (map fact_of seen) (i - 1)))) where
  before : Sparing c u (suc (i - 1)) (map fact_of facts)
  before = let e : i ≡ suc (i - 1) = omega arith in subst (λ (k : ℕ). Sparing c u k (map fact_of facts)) e s

  answer : Decides r (Homomorphism c (map fact_of facts) (remove (map fact_of facts) (i - 1)))
  answer = subst (λ (gs : List code.Fact). Decides r (Homomorphism c (map fact_of gs) (remove (map fact_of gs) (i - 1)))) is d

  pub one_stays : r ≡ false → Sparing c u (i - 1) (map fact_of facts)
  one_stays e = sparing_left c u (i - 1) (map fact_of facts) before r answer e

  pub one_goes : r ≡ true → (left : List code.Fact) → left ≡ remove facts (i - 1) → Sparing c u (i - 1) (map fact_of left)
  one_goes e left p = subst (Sparing c u (i - 1)) (sym (ap (map fact_of) p ∙ removed_map fact_of facts (i - 1))) (sparing_taken c u (i - 1) (map fact_of facts) before r answer e)
