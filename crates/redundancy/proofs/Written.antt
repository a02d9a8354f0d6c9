-- What is answered for the core of a row's instance, and what stands in the row then.
use Rattle.std.proofs.Common.{◌≡◌, ℕ, ◌^◌, ◌<◌, ◌≤◌, List, map, length, Ok, Err, Result, sym, refl, ap, ◌∙◌, subst, arith}
use Rattle.std.proofs.lemmas.List.{length-take-le}
use Rattle.std.proofs.lemmas.Bool.{lt-ltb, le-ltb, le-leb, lt-leb}
use Rattle.relational.specs.declared.fact.Fact as code
use Rattle.relational.specs.declared.refusal.Refusal.{Refusal}
use Rattle.relational.specs.Instances.{Fact, Instance}
use Rattle.relational.specs.Readings.{facts_reading, said}
use Rattle.relational.specs.Represented.{fact_of}
use Rattle.relational.specs.Rows.{ShortAll, replaced, stored}
use Rattle.relational.proofs.Members.{in_map_inv}
use Rattle.relational.proofs.Stored.{stored_replaced}
use Rattle.redundancy.specs.Cores.{distinct, thinned, core, Core, Distinct}
use Rattle.redundancy.specs.CoreRows.{core_judged, core_reading, CoreSays, UniversalToo, CoreMeans}
use Rattle.redundancy.proofs.Cores.{core_right}
use Rattle.redundancy.proofs.Retracts.{core_universal}
use Rattle.redundancy.proofs.Thinned.{thinned_distinct}

-- a fact by value has at most four values
pub stored_short : (facts : List code.Fact) → ShortAll (map fact_of facts)
unfolding ShortAll
stored_short facts f i =
    let t = in_map_inv fact_of facts i in
    let g : code.Fact = t.0 in
    omega (arith, ap (λ (z : Fact). length z.values) t.2, length-take-le g.values.count g.values.items (omega (arith, g.values.few, g.values.full)), g.values.few)

-- WHAT IS REFUSED
pub refused_says : (c : ℕ) (reading : Result Instance (ℕ × ℕ)) (e : Refusal) (row : List ℕ) → reading ≡ Err (said e) → CoreSays c reading (Err e) row row
unfolding CoreSays
refused_says c reading e row h = subst (λ r. CoreSays c r (Err e) row row) (sym h) (refl, refl)

pub refused_means : (c : ℕ) (reading : Result Instance (ℕ × ℕ)) (e : Refusal) (row : List ℕ) → CoreMeans c reading (Err e) row
unfolding CoreMeans
refused_means c reading e row = tt

module _ (instance : List ℕ) (room c : ℕ) where
  pub reading_none : (e : ℕ × ℕ) → Err e ≡ facts_reading 320 instance → core_reading instance room c ≡ Err e
  reading_none e h = ap (λ r. core_judged r room c) (sym h)

  module _ (facts : Instance) (h : Ok facts ≡ facts_reading 320 instance) where
    reading_of : core_reading instance room c ≡ core_judged (Ok facts) room c
    reading_of = ap (λ r. core_judged r room c) (sym h)

    pub reading_null : 2 ^ 32 < c → core_reading instance room c ≡ Err (3, 80)
    reading_null l = let t = lt-ltb (2 ^ 32) c l in reading_of ∙ simp t

    pub reading_room : c ≤ 2 ^ 32 → room < 1921 → core_reading instance room c ≡ Err (4, room)
    reading_room l k = let t = le-ltb (2 ^ 32) c l in let s = lt-leb 1921 room k in reading_of ∙ simp (t, s)

    pub reading_ok : c ≤ 2 ^ 32 → 1921 ≤ room → core_reading instance room c ≡ Ok facts
    reading_ok l k = let t = le-ltb (2 ^ 32) c l in let s = le-leb 1921 room k in reading_of ∙ simp (t, s)

-- WHAT IS WRITTEN
universal_too : (c : ℕ) (u : Instance) → UniversalToo c u (core c u)
unfolding UniversalToo
universal_too c u = λ facts ds l b p. core_universal c facts ds u l b p

module _ (c : ℕ) (reading : Result Instance (ℕ × ℕ)) (facts : Instance) (h : reading ≡ Ok facts) (left : Instance) (is : left ≡ core c facts) (short : ShortAll left) (n : ℕ) (count : n ≡ length left)
    (before after : List ℕ) (written : after ≡ replaced before left) where
  reads : stored after ≡ core c facts
  reads = ap stored written ∙ stored_replaced before left short ∙ is

  pub core_says : CoreSays c reading (Ok n) before after
  unfolding CoreSays
  core_says = subst (λ r. CoreSays c r (Ok n) before after) (sym h) (count ∙ ap length is, written ∙ ap (replaced before) is, reads)

  pub core_means : CoreMeans c reading (Ok n) after
  unfolding CoreMeans
  core_means =
      let r = core_right c facts in
      (facts, h, count ∙ ap length (is ∙ sym reads), subst (Core c facts) (sym reads) r.0, subst Distinct (sym reads) r.1, subst (UniversalToo c facts) (sym reads) (universal_too c facts))

-- the distinct facts, thinned, are the core
pub core_left : (c : ℕ) (facts read left : Instance) → read ≡ distinct facts → left ≡ thinned c read (length read) read → left ≡ core c facts
core_left c facts read left d t = t ∙ ap (λ (gs : Instance). thinned c gs (length gs) gs) d ∙ sym (thinned_distinct c facts (length (distinct facts)) (distinct facts))
