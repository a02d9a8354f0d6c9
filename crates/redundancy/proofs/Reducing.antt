-- What the flags of tgds that were judged one after the other mean.
use Rattle.std.proofs.Common.{◌≡◌, ℕ, suc, Bool, true, false, List, [], ◌∷◌, ◌++◌, map, length, take, is_err, None, Ok, Err, Result, sym, refl, ap, subst, append_assoc, append-nil, arith}
use Rattle.std.proofs.lemmas.Bool.{false≢true}
use Rattle.relational.specs.Instances.{In, here, Within, Dependency, body_of, DependencyBelow, DependenciesBelow}
use Rattle.relational.specs.Elements.{elements}
use Rattle.relational.specs.Readings.{judged}
use Rattle.relational.specs.Represented.{dependency_of}
use Rattle.relational.specs.Requests.{dependencies_of}
use Rattle.relational.specs.declared.dependency.Dependency as stored_dependency
use Rattle.relational.specs.declared.bounded.Bounded.{Bounded}
use Rattle.relational.specs.declared.refusal.Refusal.{Refusal}
use Rattle.relational.proofs.Members.{in_right, in_within, in_map_inv}
use Rattle.redundancy.specs.Tgds.{is_tgd, OnlyTgds}
use Rattle.redundancy.specs.Implied.{Implies, VariablesBelow}
use Rattle.redundancy.specs.Implications.{tgds_reading, tgds_fault, implication, Refuted}
use Rattle.redundancy.specs.Reduced.{Reduced, judged as all_judged, goes, remains}
use Rattle.redundancy.specs.Reductions.{next_flagged, reduction_from, staying, ReductionMeans}
use Rattle.redundancy.proofs.Asking.{tgds_known, no_fault, implication_true, implication_false}
use Rattle.redundancy.proofs.Judging.{body_small}
use Rattle.redundancy.proofs.Reduced.{within_one_more, reduced_right}

-- dependencies that can be judged
record Judgeable (c : ℕ) (ds : List Dependency) : Type 0 where
  tgds : (d : Dependency) → In d ds → is_tgd d ≡ true
  below : (d : Dependency) → In d ds → DependencyBelow c d
  small : (d : Dependency) → In d ds → VariablesBelow 16 (body_of d)

judgeable : (c : ℕ) (items : List stored_dependency.Dependency) → OnlyTgds (map dependency_of items) → DependenciesBelow c (map dependency_of items) → Judgeable c (map dependency_of items)
unfolding OnlyTgds DependenciesBelow
judgeable c items o b = record {
  tgds = o;
  below = b;
  small = λ d i. let t = in_map_inv dependency_of items i in subst (λ (x : Dependency). VariablesBelow 16 (body_of x)) (sym t.2) (body_small t.0);
}

judgeable_within : (c : ℕ) (es ds : List Dependency) → Within es ds → Judgeable c ds → Judgeable c es
judgeable_within c es ds w j = record {
  tgds = λ d i. j.tgds d (in_within es ds w d i);
  below = λ d i. j.below d (in_within es ds w d i);
  small = λ d i. j.small d (in_within es ds w d i);
}

only_tgds : (c : ℕ) (ds : List Dependency) → Judgeable c ds → OnlyTgds ds
unfolding OnlyTgds
only_tgds c ds j = j.tgds

all_below : (c : ℕ) (ds : List Dependency) → Judgeable c ds → DependenciesBelow c ds
unfolding DependenciesBelow
all_below c ds j = j.below

refuted_not : (ds : List Dependency) (d : Dependency) → Refuted ds d → Implies ds d → ⊥
unfolding Implies
refuted_not ds d r h = r.broken (h r.instance r.keeps)

-- there is a flag for each of the rest, and those that stay are what is left of it
abbrev FlagsRight : (stay rest : List Dependency) → List Bool → Type 0
FlagsRight stay rest flags = Reduced stay rest (stay ++ staying flags rest) × (length flags ≡ length rest)

module _ (c : ℕ) (stay : List Dependency) (d : Dependency) (rest : List Dependency) (j : Judgeable c (stay ++ d ∷ rest)) where
  others : Judgeable c (stay ++ rest)
  others = judgeable_within c (stay ++ rest) (stay ++ d ∷ rest) (within_one_more stay rest d) j

  inside : In d (stay ++ d ∷ rest)
  inside = in_right stay here

  implied : implication c (stay ++ rest) d ≡ Ok true → Implies (stay ++ rest) d
  implied e =
      implication_true c (stay ++ rest) (only_tgds c (stay ++ rest) others) (all_below c (stay ++ rest) others) d (j.tgds d inside) (j.below d inside) (j.small d inside) e

  not_implied : implication c (stay ++ rest) d ≡ Ok false → Implies (stay ++ rest) d → ⊥
  not_implied e =
      refuted_not (stay ++ rest) d (implication_false c (stay ++ rest) (only_tgds c (stay ++ rest) others) (all_below c (stay ++ rest) others) d (j.tgds d inside) (j.below d inside) (j.small d inside) e)

  one_gone : (fs : List Bool) → Implies (stay ++ rest) d → FlagsRight stay rest fs → FlagsRight stay (d ∷ rest) (false ∷ fs)
  one_gone fs h t = (goes h t.0, ap suc t.1)

  one_stayed : (fs : List Bool) → (Implies (stay ++ rest) d → ⊥) → FlagsRight (stay ++ d ∷ []) rest fs → FlagsRight stay (d ∷ rest) (true ∷ fs)
  one_stayed fs h t = (remains h (subst (Reduced (stay ++ d ∷ []) rest) (append_assoc stay (d ∷ []) (staying fs rest)) t.0), ap suc t.1)

  next_right : ((fs : List Bool) → reduction_from c stay rest ≡ Ok fs → FlagsRight stay rest fs) → ((fs : List Bool) → reduction_from c (stay ++ d ∷ []) rest ≡ Ok fs → FlagsRight (stay ++ d ∷ []) rest fs) →
      (flags : List Bool) (r : Result Bool (ℕ × ℕ)) → implication c (stay ++ rest) d ≡ r → (a b : Result (List Bool) (ℕ × ℕ)) → reduction_from c stay rest ≡ a → reduction_from c (stay ++ d ∷ []) rest ≡ b →
      next_flagged r a b ≡ Ok flags → FlagsRight stay (d ∷ rest) flags
  next_right gone stayed flags (Err x) p a b u v e = let z : ◌≡◌ {A = ℕ} 0 1 = cc in absurd (omega arith)
  next_right gone stayed flags (Ok true) p (Err x) b u v e = let z : ◌≡◌ {A = ℕ} 0 1 = cc in absurd (omega arith)
  next_right gone stayed flags (Ok true) p (Ok fs) b u v e = let q : false ∷ fs ≡ flags = cc in subst (FlagsRight stay (d ∷ rest)) q (one_gone fs (implied p) (gone fs u))
  next_right gone stayed flags (Ok false) p a (Err x) u v e = let z : ◌≡◌ {A = ℕ} 0 1 = cc in absurd (omega arith)
  next_right gone stayed flags (Ok false) p a (Ok fs) u v e = let q : true ∷ fs ≡ flags = cc in subst (FlagsRight stay (d ∷ rest)) q (one_stayed fs (not_implied p) (stayed fs v))

flags_right : (c : ℕ) (stay rest : List Dependency) (flags : List Bool) → Judgeable c (stay ++ rest) → reduction_from c stay rest ≡ Ok flags → FlagsRight stay rest flags
unfolding reduction_from
flags_right c stay [] flags j e =
    let q : [] ≡ flags = cc in
    subst (FlagsRight stay []) q (subst (Reduced stay []) (sym (append-nil stay)) all_judged, refl)
flags_right c stay (d ∷ rest) flags j e =
    next_right c stay d rest j
    (λ fs u. flags_right c stay rest fs (others c stay d rest j) u)
    (λ fs u. flags_right c (stay ++ d ∷ []) rest fs (subst (Judgeable c) (sym (append_assoc stay (d ∷ []) rest)) j) u)
    flags (implication c (stay ++ rest) d) refl (reduction_from c stay rest) (reduction_from c (stay ++ d ∷ []) rest) refl refl e

-- WHAT IS ANSWERED
pub reduction_refused : (rules : List ℕ) (r : Result (Bounded Bool 16) Refusal) → is_err r ≡ true → ReductionMeans rules r
unfolding ReductionMeans
reduction_refused rules (Ok r) e = absurd (false≢true e)
reduction_refused rules (Err x) e = tt

pub reduction_means : (rules : List ℕ) (c : ℕ) (tgds : Bounded stored_dependency.Dependency 16) (r : Result (Bounded Bool 16) Refusal) → Ok (dependencies_of tgds) ≡ tgds_reading rules → None ≡ tgds_fault c (dependencies_of tgds) →
    judged elements r ≡ reduction_from c [] (dependencies_of tgds) → ReductionMeans rules r
unfolding ReductionMeans
reduction_means rules c tgds (Err x) p n e = tt
reduction_means rules c tgds (Ok r) p n e =
    let k = tgds_known rules (dependencies_of tgds) p in
    let t = flags_right c [] (dependencies_of tgds) (elements r) (judgeable c (take tgds.count tgds.items) k.1 (no_fault c (dependencies_of tgds) n).1) (sym e) in
    record {
      tgds = dependencies_of tgds;
      rules_read = k.0;
      each = t.1;
      reduced = t.0;
      irredundant = reduced_right (dependencies_of tgds) (staying (elements r) (dependencies_of tgds)) t.0;
    }
