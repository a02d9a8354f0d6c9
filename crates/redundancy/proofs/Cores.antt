-- The core that is computed is one.
use Rattle.std.proofs.Common.{◌≡◌, ℕ, zero, suc, ◌<◌, ◌≤◌, Bool, true, false, cond, eqb, ◌⊎◌, List, [], ◌∷◌, ◌++◌, length, get_or, take, drop, sym, refl, subst, inl, inr, add-one, arith}
use Rattle.std.specs.Cmp.Lexicographic.{bytes_decides}
use Rattle.std.specs.List.{remove}
use Rattle.std.proofs.lemmas.List.{take-append-drop, drop_more, drop_at, drop_all, length-take-le}
use Rattle.std.proofs.lemmas.List.Edits.{length-remove}
use Rattle.std.proofs.lemmas.Bool.{and_parts, and_from, eqb-true, eq-eqb, both_ways}
use Rattle.relational.specs.Instances.{In, here, there, Within, Fact, Instance}
use Rattle.relational.specs.Solutions.{Homomorphism}
use Rattle.relational.specs.Tests.{any}
use Rattle.relational.proofs.Members.{in_nil, in_cons, in_head, in_one, in_left, in_right, in_append, in_take, in_within, within_trans}
use Rattle.relational.proofs.Testing.{any_in}
use Rattle.relational.proofs.Decidable.{decide_fact}
use Rattle.relational.proofs.Homomorphisms.{identity, composed, extended}
use Rattle.redundancy.specs.Cores.{has_homomorphism, same_values, same_fact, distinct_from, distinct, thinned, core, Distinct, CoreRight}
use Rattle.redundancy.proofs.Tested.{any_from}
use Rattle.redundancy.proofs.Homomorphisms.{homomorphism_tested}

-- THE TEST OF FACTS
pub same_fact_true : (f g : Fact) → same_fact f g ≡ true → f ≡ g
same_fact_true f g e =
    let t = and_parts (eqb f.relation g.relation) (same_values f.values g.values) e in
    let p = eqb-true f.relation g.relation t.0 in
    let q = (bytes_decides f.values g.values).0 t.1 in
    λ j. record { relation = p j; values = q j }

pub same_fact_refl : (f : Fact) → same_fact f f ≡ true
same_fact_refl f = and_from (eqb f.relation f.relation) (same_values f.values f.values) (eq-eqb f.relation f.relation refl) ((bytes_decides f.values f.values).1 refl)

pub seen_in : (f : Fact) (seen : Instance) → any (same_fact f) seen ≡ true → In f seen
seen_in f seen e = let t = any_in (same_fact f) seen e in subst (λ z. In z seen) (sym (same_fact_true f t.0 t.2)) t.1

pub in_seen : (f : Fact) (seen : Instance) → In f seen → any (same_fact f) seen ≡ true
in_seen f seen i = any_from (same_fact f) seen f i (same_fact_refl f)

-- EACH FACT ONCE
pub distinct_only : (seen facts : Instance) (f : Fact) → In f (distinct_from seen facts) → In f facts × (In f seen → ⊥)
unfolding distinct_from
distinct_only seen [] f h = absurd (in_nil h)
distinct_only seen (g ∷ facts) f h = go (any (same_fact g) seen) refl h (λ k. distinct_only seen facts f k) (λ k. distinct_only (seen ++ g ∷ []) facts f k)
  where
    go : (b : Bool) → any (same_fact g) seen ≡ b → In f (cond b (distinct_from seen facts) (g ∷ distinct_from (seen ++ g ∷ []) facts)) →
        (In f (distinct_from seen facts) → In f facts × (In f seen → ⊥)) → (In f (distinct_from (seen ++ g ∷ []) facts) → In f facts × (In f (seen ++ g ∷ []) → ⊥)) → In f (g ∷ facts) × (In f seen → ⊥)
    go true q h more less = let t = more h in (there t.0, t.1)
    go false q h more less = elim (in_cons h) [
      | inl e ↦ (in_head facts e, λ k. both_ways (any (same_fact g) seen) q (in_seen g seen (subst (λ z. In z seen) e k)))
      | inr k ↦ let t = less k in (there t.0, λ m. t.1 (in_left (g ∷ []) m))
    ]

pub distinct_has : (seen facts : Instance) (f : Fact) → In f facts → (In f seen) ⊎ (In f (distinct_from seen facts))
unfolding distinct_from
distinct_has seen [] f h = absurd (in_nil h)
distinct_has seen (g ∷ facts) f h = go (any (same_fact g) seen) refl (in_cons h) (λ k. distinct_has seen facts f k) (λ k. distinct_has (seen ++ g ∷ []) facts f k)
  where
    go : (b : Bool) → any (same_fact g) seen ≡ b → (f ≡ g) ⊎ (In f facts) → (In f facts → (In f seen) ⊎ (In f (distinct_from seen facts))) →
        (In f facts → (In f (seen ++ g ∷ [])) ⊎ (In f (distinct_from (seen ++ g ∷ []) facts))) → (In f seen) ⊎ (In f (cond b (distinct_from seen facts) (g ∷ distinct_from (seen ++ g ∷ []) facts)))
    go true q (inl e) more less = inl (subst (λ z. In z seen) (sym e) (seen_in g seen q))
    go true q (inr k) more less = more k
    go false q (inl e) more less = inr (in_head (distinct_from (seen ++ g ∷ []) facts) e)
    go false q (inr k) more less = elim (less k) [
      | inl m ↦ elim (in_append seen m) [ inl n ↦ inl n | inr n ↦ inr (in_head (distinct_from (seen ++ g ∷ []) facts) (in_one n)) ]
      | inr m ↦ inr (there m)
    ]

pub distinct_once : (seen facts : Instance) → Distinct (distinct_from seen facts)
unfolding distinct_from
distinct_once seen [] = tt
distinct_once seen (g ∷ facts) = go (any (same_fact g) seen) (distinct_once seen facts) (distinct_once (seen ++ g ∷ []) facts)
  where
    go : (b : Bool) → Distinct (distinct_from seen facts) → Distinct (distinct_from (seen ++ g ∷ []) facts) → Distinct (cond b (distinct_from seen facts) (g ∷ distinct_from (seen ++ g ∷ []) facts))
    go true more less = more
    go false more less = ((λ k. (distinct_only (seen ++ g ∷ []) facts g k).1 (in_right seen here)), less)

pub distinct_within : (facts : Instance) → Within (distinct facts) facts
unfolding Within
distinct_within facts = λ f i. (distinct_only [] facts f i).0

pub within_distinct : (facts : Instance) → Within facts (distinct facts)
unfolding Within
within_distinct facts = λ f i. elim (distinct_has [] facts f i) [ inl k ↦ absurd (in_nil k) | inr k ↦ k ]

-- ONE FACT LESS
in_drop : {A : Type 0} {a : A} (i : ℕ) (xs : List A) → In a (drop i xs) → In a xs
in_drop {A} {a} i xs h = subst (In a) (take-append-drop i xs) (in_right (take i xs) h)

pub removed_within : {A : Type 0} (w : List A) (i : ℕ) → Within (remove w i) w
unfolding Within
removed_within w i = λ f h. elim (in_append (take i w) h) [ inl k ↦ in_take i w k | inr k ↦ in_drop (suc i) w k ]

at_place : (w : Instance) (i : ℕ) (d : Fact) → i < length w → drop i w ≡ get_or w i d ∷ drop (suc i) w
at_place w i d l = rw add-one at (drop_more w i d l)

pub removed_has : (w : Instance) (i : ℕ) (d f : Fact) → i < length w → (f ≡ get_or w i d → ⊥) → In f w → In f (remove w i)
removed_has w i d f l n h = go (in_append (take i w) (subst (In f) (sym (take-append-drop i w)) h))
  where
    go : (In f (take i w)) ⊎ (In f (drop i w)) → In f (remove w i)
    go (inl k) = in_left (drop (suc i) w) k
    go (inr k) = elim (in_cons (subst (In f) (at_place w i d l) k)) [ inl e ↦ absurd (n e) | inr m ↦ in_right (take i w) m ]

pub removed_drop : (w : Instance) (i : ℕ) → i ≤ length w → drop i (remove w i) ≡ drop (suc i) w
removed_drop w i l = drop_at (take i w) (drop (suc i) w) i (length-take-le i w l)

pub removed_distinct : (w : Instance) (i : ℕ) → Distinct w → Distinct (remove w i)
removed_distinct [] zero o = tt
removed_distinct [] (suc i) o = tt
removed_distinct (f ∷ w) zero o = o.1
removed_distinct (f ∷ w) (suc i) o = ((λ k. o.0 (in_within (remove w i) w (removed_within w i) f k)), removed_distinct w i o.1)

-- the instance goes into no part that lacks the fact
abbrev pub Needed : ℕ → Instance → Instance → Fact → Type 0
Needed c u w f = (part : Instance) → Within part w → (In f part → ⊥) → Homomorphism c u part → ⊥

-- SPARING, from the last to the first: what holds of those that are left, where the first i are still to be looked at
pub record Thinning (c : ℕ) (u : Instance) (i : ℕ) (w : Instance) : Type 0 where
  pub fits : i ≤ length w
  pub within : Within w u
  pub goes : Homomorphism c u w
  pub needed : (f : Fact) → In f (drop i w) → Needed c u w f
  pub once : Distinct w

module _ (c : ℕ) (u : Instance) (i : ℕ) (w : Instance) (t : Thinning c u (suc i) w) where
  needed_less : (f : Fact) → In f (drop i (remove w i)) → Needed c u (remove w i) f
  needed_less f h = λ part p n g. t.needed f (subst (In f) (removed_drop w i (omega (arith, t.fits))) h) part (within_trans part (remove w i) w p (removed_within w i)) n g

  -- a part that lacks the fact at i lies within the rest
  within_removed : (d : Fact) (part : Instance) → Within part w → (In (get_or w i d) part → ⊥) → Within part (remove w i)
  unfolding Within
  within_removed d part p n = λ g j. removed_has w i d g t.fits (λ e. n (subst (λ z. In z part) e j)) (p g j)

  needed_here : has_homomorphism c u (remove w i) ≡ false → (d : Fact) → Needed c u w (get_or w i d)
  needed_here q d = λ part p n g. both_ways (has_homomorphism c u (remove w i)) q ((homomorphism_tested c u (remove w i)).1 (extended c u part (remove w i) (within_removed d part p n) g))

  needed_still : has_homomorphism c u (remove w i) ≡ false → (f : Fact) → In f (drop i w) → Needed c u w f
  needed_still q f h = elim (in_cons (subst (In f) (at_place w i f t.fits) h)) [
    | inl e ↦ subst (Needed c u w) (sym e) (needed_here q f)
    | inr k ↦ t.needed f k
  ]

  pub thinning_step : (b : Bool) → has_homomorphism c u (remove w i) ≡ b → Thinning c u i (cond b (remove w i) w)
  thinning_step true q = record {
    fits = omega (arith, t.fits, length-remove w i t.fits);
    within = within_trans (remove w i) w u (removed_within w i) t.within;
    goes = (homomorphism_tested c u (remove w i)).0 q;
    needed = needed_less;
    once = removed_distinct w i t.once;
  }
  thinning_step false q = record { fits = omega (arith, t.fits); within = t.within; goes = t.goes; needed = needed_still q; once = t.once }

thinning_all : (c : ℕ) (u : Instance) (i : ℕ) (w : Instance) → Thinning c u i w → Thinning c u 0 (thinned c u i w)
unfolding thinned
thinning_all c u zero w t = t
thinning_all c u (suc i) w t =
    thinning_all c u i (cond (has_homomorphism c u (remove w i)) (remove w i) w) (thinning_step c u i w t (has_homomorphism c u (remove w i)) refl)

none_left : (c : ℕ) (u w : Instance) (f : Fact) → In f (drop (length w) w) → Needed c u w f
none_left c u w f h = absurd (in_nil (subst (In f) (drop_all (length w) w (omega arith)) h))

-- at first nothing has been looked at
pub thinning_start : (c : ℕ) (u : Instance) → Thinning c u (length (distinct u)) (distinct u)
thinning_start c u = record {
  fits = omega arith;
  within = distinct_within u;
  goes = extended c u u (distinct u) (within_distinct u) (identity c u);
  needed = none_left c u (distinct u);
  once = distinct_once [] u;
}

-- a part of which every fact is needed goes into no part of itself that lacks one
minimal_part : (c : ℕ) (u v : Instance) → Homomorphism c u v → ((f : Fact) → In f v → Needed c u v f) → (part : Instance) → Within part v → Homomorphism c v part → Within v part
unfolding Within
minimal_part c u v g needed part p h = λ f i. elim (decide_fact f part) [ inl k ↦ k | inr n ↦ absurd (needed f i part p n (composed c u v part g h)) ]

pub core_right : CoreRight
core_right c u =
    let t = thinning_all c u (length (distinct u)) (distinct u) (thinning_start c u) in
    (record { within = t.within; goes = t.goes; minimal = minimal_part c u (core c u) t.goes t.needed }, t.once)
