-- An instance pulled back along a map on numbers: all facts that the map takes into it. It keeps the tgds that the instance keeps.
use Rattle.std.proofs.Common.{◌≡◌, ℕ, zero, suc, ◌+◌, ◌-◌, ◌<◌, Bool, true, false, cond, eqb, ltb, ◌⊎◌, List, [], ◌∷◌, ◌++◌, map, filter, sym, refl, ap, ◌∙◌, subst, ap₂, inl, inr, arith}
use Rattle.std.proofs.lemmas.Bool.{ltb-true, ltb-false, lt-ltb, le-ltb, eqb-true, eq-eqb}
use Rattle.relational.specs.Instances.{In, here, there, Within, Fact, Instance, Atom, Dependency, tgd, egd, Valuation, image, Matches, Mentions, Satisfied, Keeps, KeepsAll, ConstantsBelow, DependencyBelow, DependenciesBelow}
use Rattle.relational.specs.Solutions.{rename, Homomorphism}
use Rattle.relational.specs.Terms.{mentions}
use Rattle.relational.proofs.Members.{in_nil, in_cons, in_one, in_left, in_right, in_append, in_map, in_map_inv}
use Rattle.relational.proofs.Maps.{matches_agree, matches_rename, image_rename}
use Rattle.relational.proofs.Homomorphisms.{rename_rename, agree_below}
use Rattle.chase.proofs.Finite.{over, over_has, kept_has, kept_only, span, span_has}
use Rattle.chase.proofs.Variables.{mentions_true, true_mentions}
use Rattle.redundancy.specs.Tgds.{OnlyTgds, UniversalCarried}
use Rattle.redundancy.proofs.Tgds.{no_egd}

over_only : {A B : Type 0} (xs : List A) (g : A → List B) (b : B) → In b (over xs g) → (a : A) × In a xs × In b (g a)
unfolding over
over_only [] g b h = absurd (in_nil h)
over_only {A} {B} (x ∷ xs) g b h = go (in_append (g x) h) (λ k. over_only xs g b k)
  where
    go : (In b (g x)) ⊎ (In b (over xs g)) → (In b (over xs g) → (a : A) × In a xs × In b (g a)) → (a : A) × In a (x ∷ xs) × In b (g a)
    go (inl k) more = (x, here, k)
    go (inr k) more = let t = more k in (t.0, there t.1, t.2)

span_below : (a k n : ℕ) → In n (span a k) → n < a + k
unfolding span
span_below a zero n h = absurd (in_nil h)
span_below a (suc k) n h = go (in_cons h) (λ i. span_below (suc a) k n i)
  where
    go : (n ≡ a) ⊎ (In n (span (suc a) k)) → (In n (span (suc a) k) → n < suc a + k) → n < a + suc k
    go (inl e) more = omega arith
    go (inr i) more = omega (arith, more i)

-- g below d, and from d on all numbers once more
pub folded : ℕ → (ℕ → ℕ) → ℕ → ℕ
folded d g n = cond (ltb n d) (g n) (n - d)

pub folded_below : (d : ℕ) (g : ℕ → ℕ) (n : ℕ) → n < d → folded d g n ≡ g n
unfolding folded
folded_below d g n l = rw (lt-ltb n d l)

pub folded_above : (d : ℕ) (g : ℕ → ℕ) (n : ℕ) → folded d g (n + d) ≡ n
unfolding folded
folded_above d g n = rw (le-ltb (n + d) d (omega arith)) (omega arith)

module _ (d : ℕ) (g : ℕ → ℕ) where
  -- the numbers that go to n: some below d, and one above
  origins : ℕ → List ℕ
  origins n = filter (λ m. eqb (g m) n) (span 0 d) ++ (n + d) ∷ []

  origins_has : (m : ℕ) → In m (origins (folded d g m))
  unfolding origins folded
  origins_has m = go (ltb m d) refl
    where
      go : (b : Bool) → ltb m d ≡ b → In m (filter (λ k. eqb (g k) (cond b (g m) (m - d))) (span 0 d) ++ (cond b (g m) (m - d) + d) ∷ [])
      go true q = in_left ((g m + d) ∷ []) (kept_has (λ k. eqb (g k) (g m)) m (span 0 d) (span_has 0 d m (omega arith) (omega (arith, ltb-true m d q))) (eq-eqb (g m) (g m) refl))
      go false q =
          let e : m - d + d ≡ m = omega (arith, ltb-false m d q) in
          in_right (filter (λ k. eqb (g k) (m - d)) (span 0 d)) (subst (λ z. In m (z ∷ [])) (sym e) here)

  origins_only : (n m : ℕ) → In m (origins n) → folded d g m ≡ n
  unfolding origins
  origins_only n m h = elim (in_append (filter (λ k. eqb (g k) n) (span 0 d)) h) [
    | inl i ↦ let t = kept_only (λ k. eqb (g k) n) m (span 0 d) i in folded_below d g m (omega (arith, span_below 0 d m t.0)) ∙ eqb-true (g m) n t.1
    | inr i ↦ ap (folded d g) (in_one i) ∙ folded_above d g n
  ]

  -- the rows of numbers that go to a row
  rows : List ℕ → List (List ℕ)
  rows [] = [] ∷ []
  rows (n ∷ ns) = over (origins n) (λ m. map (λ r. m ∷ r) (rows ns))

  rows_has : (ms : List ℕ) → In ms (rows (map (folded d g) ms))
  unfolding rows
  rows_has [] = here
  rows_has (m ∷ ms) = over_has (origins (folded d g m)) (λ k. map (λ r. k ∷ r) (rows (map (folded d g) ms))) m (m ∷ ms) (origins_has m) (in_map (λ r. m ∷ r) (rows_has ms))

  rows_only : (ns ms : List ℕ) → In ms (rows ns) → map (folded d g) ms ≡ ns
  unfolding rows
  rows_only [] ms h = ap (map (folded d g)) (in_one h)
  rows_only (n ∷ ns) ms h =
      let t = over_only (origins n) (λ k. map (λ r. k ∷ r) (rows ns)) ms h in
      let s = in_map_inv (λ r. t.0 ∷ r) (rows ns) t.2 in
      ap (map (folded d g)) s.2 ∙ ap₂ {C = List ℕ} (λ p r. p ∷ r) (origins_only n t.0 t.1) (rows_only ns s.0 s.1)

  abbrev with_values : ℕ → List ℕ → Fact
  with_values relation ns = record { relation = relation; values = ns }

  -- all facts that go into the instance
  pub pulled : Instance → Instance
  pulled k = over k (λ f. map (with_values f.relation) (rows f.values))

  pub pulled_has : (k : Instance) (f : Fact) → In (rename (folded d g) f) k → In f (pulled k)
  unfolding pulled
  pulled_has k f i = over_has k (λ z. map (with_values z.relation) (rows z.values)) (rename (folded d g) f) f i (in_map (with_values f.relation) (rows_has f.values))

  pub pulled_only : (k : Instance) (f : Fact) → In f (pulled k) → In (rename (folded d g) f) k
  unfolding pulled
  pulled_only k f i =
      let t = over_only k (λ z. map (with_values z.relation) (rows z.values)) f i in
      let s = in_map_inv (with_values t.0.relation) (rows t.0.values) t.2 in
      let p = rows_only t.0.values s.0 s.1 in
      let e : with_values t.0.relation (map (folded d g) s.0) ≡ t.0 = λ j. record { relation = t.0.relation; values = p j } in
      subst (λ z. In z k) (sym (ap (rename (folded d g)) s.2 ∙ e)) t.1

-- the values of a body's variables, and any origin of the others
lifted : (ℕ → ℕ) → Valuation → Valuation → ℕ → Bool → ℕ
lifted s v w x true = v x
lifted s v w x false = s (w x)

module _ (c d : ℕ) (g : ℕ → ℕ) (k : Instance) (fix : (n : ℕ) → n < c → folded d g n ≡ n) where
  matches_out : (v : Valuation) (atoms : List Atom) → ConstantsBelow c atoms → Matches (pulled d g k) v atoms → Matches k (λ x. folded d g (v x)) atoms
  unfolding ConstantsBelow
  matches_out v atoms b m = matches_rename (pulled d g k) k (folded d g) v atoms (λ a n i j. fix n (b a n i j)) (pulled_only d g k) m

  matches_in : (v : Valuation) (atoms : List Atom) → ConstantsBelow c atoms → Matches k (λ x. folded d g (v x)) atoms → Matches (pulled d g k) v atoms
  unfolding ConstantsBelow
  matches_in v atoms b m = record
      { holds = λ a i. pulled_has d g k (image v a) (subst (λ z. In z k) (sym (image_rename (folded d g) v a (λ n j. fix n (b a n i j)))) (m.holds a i)) }

  lift : List Atom → Valuation → Valuation → Valuation
  lift body v w x = lifted (λ n. n + d) v w x (mentions x body)

  lift_body : (body : List Atom) (v w : Valuation) (x : ℕ) → Mentions x body → lift body v w x ≡ v x
  unfolding lift lifted
  lift_body body v w x m = rw (true_mentions x body m)

  lift_image : (body : List Atom) (v w : Valuation) → ((x : ℕ) → Mentions x body → w x ≡ folded d g (v x)) → (x : ℕ) → w x ≡ folded d g (lift body v w x)
  unfolding lift lifted
  lift_image body v w h x = go (mentions x body) refl
    where
      go : (b : Bool) → mentions x body ≡ b → w x ≡ folded d g (lifted (λ n. n + d) v w x b)
      go true q = h x (mentions_true x body q)
      go false q = sym (folded_above d g (w x))

  pulled_keeps : (body head : List Atom) → ConstantsBelow c body → ConstantsBelow c head → Keeps k (tgd body head) → Keeps (pulled d g k) (tgd body head)
  unfolding Keeps Satisfied
  pulled_keeps body head bb bh kp = λ v m.
      let t = kp (λ x. folded d g (v x)) (matches_out v body bb m) in
      let up = lift body v t.0 in
      (up, lift_body body v t.0, matches_in up head bh (matches_agree k t.0 (λ x. folded d g (up x)) head (λ x i. lift_image body v t.0 t.1 x) t.2))

  pub pulled_keeps_all : (ds : List Dependency) → OnlyTgds ds → DependenciesBelow c ds → KeepsAll k ds → KeepsAll (pulled d g k) ds
  unfolding KeepsAll DependenciesBelow DependencyBelow
  pulled_keeps_all ds o b kp = λ e i. go e i
    where
      go : (e : Dependency) → In e ds → Keeps (pulled d g k) e
      go (tgd body head) i = let t : ConstantsBelow c body × ConstantsBelow c head = b (tgd body head) i in pulled_keeps body head t.0 t.1 (kp (tgd body head) i)
      go (egd body x y) i = absurd (no_egd ds o body x y i)

pub universal_carried : UniversalCarried
unfolding Within
universal_carried c d facts ds u k l low o b p kp g = (
  record {
    on = λ n. folded d g.on (h.on n);
    fixes = λ n m. ap (folded d g.on) (h.fixes n (omega arith)) ∙ fix n m;
    into = λ f i. subst (λ z. In z k) (rename_rename (folded d g.on) h.on f) (pulled_only d g.on k (rename h.on f) (h.into f i));
  },
  λ n m. ap (folded d g.on) (h.fixes n m) ∙ folded_below d g.on n m,
)
  where
    fix : (n : ℕ) → n < c → folded d g.on n ≡ n
    fix n m = folded_below d g.on n (omega arith) ∙ g.fixes n m

    has : (f : Fact) → In f facts → In f (pulled d g.on k)
    has f i = pulled_has d g.on k f (subst (λ z. In z k) (sym (agree_below d facts low g.on (folded d g.on) (folded_below d g.on) f i)) (g.into f i))

    h : Homomorphism d u (pulled d g.on k)
    h = p.goes (pulled d g.on k) (record { has = has; keeps = pulled_keeps_all c d g.on k fix ds o b kp })
