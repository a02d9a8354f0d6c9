-- An instance goes into its core by a map that leaves the core alone; so the core keeps what the instance keeps, and is universal where the instance is.
use Rattle.std.proofs.Common.{◌≡◌, ℕ, ◌<◌, List, map, sym, ap, ◌∙◌, subst}
use Rattle.relational.specs.Instances.{In, Within, Fact, Instance, Atom, Dependency, tgd, egd, Valuation, value_of, image, Matches, Mentions, Satisfied, Keeps, KeepsAll, BelowAll, DependencyBelow, DependenciesBelow}
use Rattle.relational.specs.Solutions.{rename, Homomorphism}
use Rattle.relational.proofs.Members.{in_map, in_map_inv, in_within}
use Rattle.relational.proofs.Maps.{matches_along, matches_within}
use Rattle.relational.proofs.Homomorphisms.{rename_fixed, rename_rename, rename_constants, restricted, renaming}
use Rattle.chase.specs.Limit.{different, values_in}
use Rattle.chase.proofs.Finite.{Once, different_has, different_only}
use Rattle.chase.proofs.Variables.{values_in_has, values_in_only}
use Rattle.redundancy.specs.Cores.{core, Core, CoresUniversal, CoreUniversal}
use Rattle.redundancy.proofs.Cores.{core_right}
use Rattle.redundancy.proofs.Onto.{different_once, Onto, undone, undone_back, undone_fixed}

module _ (c : ℕ) (u v : Instance) (k : Core c u v) where
  renamed_within : Within (map (rename k.goes.on) v) v
  unfolding Within
  renamed_within = λ f i. let t = in_map_inv (rename k.goes.on) v i in subst (λ z. In z v) (sym t.2) (k.goes.into t.0 (in_within v u k.within t.0 t.1))

  -- each fact of the core comes from one of its facts, since it goes into what comes of them
  facts_onto : (f : Fact) → In f v → (g : Fact) × In g v × (f ≡ rename k.goes.on g)
  facts_onto f i =
      let all = k.minimal (map (rename k.goes.on) v) renamed_within (renaming c v k.goes.on k.goes.fixes) in
      in_map_inv (rename k.goes.on) v (in_within v (map (rename k.goes.on) v) all f i)

  numbers : List ℕ
  numbers = different (values_in v)

  number_in : (f : Fact) (n : ℕ) → In f v → In n f.values → In n numbers
  unfolding numbers
  number_in f n i j = different_has n (values_in v) (values_in_has n v f i j)

  number_of : (n : ℕ) → In n numbers → (f : Fact) × In f v × In n f.values
  unfolding numbers
  number_of n i = values_in_only n v (different_only n (values_in v) i)

  numbers_into : (n : ℕ) → In n numbers → In (k.goes.on n) numbers
  numbers_into n i =
      let t = number_of n i in
      number_in (rename k.goes.on t.0) (k.goes.on n) (k.goes.into t.0 (in_within v u k.within t.0 t.1)) (in_map k.goes.on t.2)

  numbers_onto : Onto k.goes.on numbers
  numbers_onto n i =
      let t = number_of n i in
      let q = facts_onto t.0 t.1 in
      let r = in_map_inv k.goes.on q.0.values (subst (λ (z : Fact). In n z.values) q.2 t.2) in
      (r.0, number_in q.0 r.0 q.1 r.1, sym r.2)

  once : Once numbers
  unfolding numbers
  once = different_once (values_in v)

  -- first into the core, and then back to where each number of the core came from
  on : ℕ → ℕ
  on n = undone k.goes.on numbers (k.goes.on n)

  on_leaves : (f : Fact) (n : ℕ) → In f v → In n f.values → on n ≡ n
  unfolding on
  on_leaves f n i j = undone_back k.goes.on numbers once numbers_onto n (number_in f n i j)

  on_fixes : (n : ℕ) → n < c → on n ≡ n
  unfolding on
  on_fixes n l = ap (undone k.goes.on numbers) (k.goes.fixes n l) ∙ undone_fixed k.goes.on numbers once numbers_onto n (k.goes.fixes n l) numbers_into

  on_into : (f : Fact) → In f u → In (rename on f) v
  unfolding on
  on_into f i =
      let q = facts_onto (rename k.goes.on f) (k.goes.into f i) in
      let back : ℕ → ℕ = undone k.goes.on numbers in
      let e : rename on f ≡ q.0 =
      sym (rename_rename back k.goes.on f) ∙ ap (rename back) q.2 ∙ rename_rename back k.goes.on q.0 ∙ rename_fixed on q.0 (λ n j. on_leaves q.0 n q.1 j) in
      subst (λ z. In z v) (sym e) q.1

  pub retraction : (e : Homomorphism c u v) × ((f : Fact) (n : ℕ) → In f v → In n f.values → e.on n ≡ n)
  retraction = (record { on = on; fixes = on_fixes; into = on_into }, on_leaves)

-- the value of a variable stands in the facts that the atoms match
matched_value : (facts : Instance) (v : Valuation) (atoms : List Atom) → Matches facts v atoms → (x : ℕ) → Mentions x atoms → (f : Fact) × In f facts × In (v x) f.values
matched_value facts v atoms m x i = (image v i.atom, m.holds i.atom i.among, in_map (value_of v) i.inside)

module _ (c : ℕ) (u v : Instance) (w : Within v u) (e : Homomorphism c u v) (leaves : (f : Fact) (n : ℕ) → In f v → In n f.values → e.on n ≡ n) where
  -- what an instance keeps, a part keeps into which it goes by a map that leaves the part alone
  part_keeps : (d : Dependency) → DependencyBelow c d → Keeps u d → Keeps v d
  unfolding Keeps Satisfied DependencyBelow
  part_keeps (tgd body head) b kp = λ a m.
      let t = kp a (matches_within v u a body w m) in
      ((λ x. e.on (t.0 x)), (λ x i. let q = matched_value v a body m x i in ap e.on (t.1 x i) ∙ leaves q.0 (a x) q.1 q.2), matches_along c u v e t.0 head b.1 t.2)
  part_keeps (egd body x y) b kp = λ a m. kp a (matches_within v u a body w m)

  pub part_keeps_all : (ds : List Dependency) → DependenciesBelow c ds → KeepsAll u ds → KeepsAll v ds
  unfolding KeepsAll DependenciesBelow
  part_keeps_all ds b kp = λ d i. part_keeps d (b d i) (kp d i)

  -- facts of constants stay
  pub part_has : (facts : Instance) → BelowAll c facts → Within facts u → Within facts v
  unfolding Within BelowAll
  part_has facts b p = λ f i. subst (λ z. In z v) (rename_constants c e.on f (b f i) e.fixes) (e.into f (p f i))

pub cores_universal : CoresUniversal
cores_universal c facts ds u v l b p k =
    let r = retraction c u v k in
    record {
      solution = record {
        has = part_has c u v k.within r.0 r.1 facts l p.solution.has;
        keeps = part_keeps_all c u v k.within r.0 r.1 ds b p.solution.keeps;
      };
      goes = λ i s. restricted c v u i k.within (p.goes i s);
    }

pub core_universal : CoreUniversal
core_universal c facts ds u l b p = cores_universal c facts ds u (core c u) l b p (core_right c u).0
