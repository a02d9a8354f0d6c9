-- Whether an instance goes into another: its facts read as atoms, and matched.
use Rattle.std.proofs.Common.{◌≡◌, ℕ, ◌+◌, ◌-◌, ◌<◌, Bool, true, false, cond, ltb, List, [], ◌∷◌, map, Decides, sym, refl, subst, ap₂, arith}
use Rattle.std.proofs.lemmas.Bool.{ltb-true, ltb-false}
use Rattle.relational.specs.declared.term.Term.TheVariants.{Constant, Variable}
use Rattle.relational.specs.Instances.{In, Within, Fact, Instance, Atom, Valuation, value_of, image, Matches, ConstantsBelow}
use Rattle.relational.specs.Solutions.{Homomorphism}
use Rattle.relational.proofs.Members.{in_map_inv}
use Rattle.relational.proofs.Maps.{matches_along}
use Rattle.relational.proofs.Homomorphisms.{composed, restricted}
use Rattle.matching.proofs.Bindings.{nothing_agrees}
use Rattle.matching.proofs.Listed.{matches_exist}
use Rattle.redundancy.specs.Implied.{frozen}
use Rattle.redundancy.specs.Cores.{as_term, as_atom, has_homomorphism, HomomorphismTested}
use Rattle.redundancy.proofs.Implying.{frozen_matches, thawing}

abbrev pub as_atoms : ℕ → Instance → List Atom
as_atoms c u = map (as_atom c) u

-- frozen again, the terms are the values that they were
term_back : (c n : ℕ) → value_of (λ x. c + x) (as_term c n) ≡ n
term_back c n = go (ltb n c) refl
  where
    go : (b : Bool) → ltb n c ≡ b → value_of (λ x. c + x) (cond b (Constant n) (Variable (n - c))) ≡ n
    go true q = refl
    go false q = omega (arith, ltb-false n c q)

terms_back : (c : ℕ) (ns : List ℕ) → map (value_of (λ x. c + x)) (map (as_term c) ns) ≡ ns
terms_back c [] = refl
terms_back c (n ∷ ns) = ap₂ {C = List ℕ} (λ p r. p ∷ r) (term_back c n) (terms_back c ns)

atom_back : (c : ℕ) (f : Fact) → image (λ x. c + x) (as_atom c f) ≡ f
atom_back c f = let e = terms_back c f.values in λ j. record { relation = f.relation; values = e j }

pub atoms_back : (c : ℕ) (u : Instance) → frozen c (as_atoms c u) ≡ u
atoms_back c [] = refl
atoms_back c (f ∷ u) = ap₂ {C = Instance} (λ p r. p ∷ r) (atom_back c f) (atoms_back c u)

-- only constants are constants of the atoms
term_constant : (c n m : ℕ) → Constant m ≡ as_term c n → m < c
term_constant c n m e = go (ltb n c) refl e
  where
    go : (b : Bool) → ltb n c ≡ b → Constant m ≡ cond b (Constant n) (Variable (n - c)) → m < c
    go true q e = let z : m ≡ n = cc in omega (arith, ltb-true n c q)
    go false q e = let z : ◌≡◌ {A = ℕ} 0 1 = cc in absurd (omega arith)

pub atoms_constants : (c : ℕ) (u : Instance) → ConstantsBelow c (as_atoms c u)
unfolding ConstantsBelow
atoms_constants c u = λ a n i j.
    let t = in_map_inv (as_atom c) u i in
    let s = in_map_inv (as_term c) t.0.values (subst (λ (z : Atom). In (Constant n) z.terms) t.2 j) in
    term_constant c s.0 n s.2

pub matched_goes : (c : ℕ) (u k : Instance) (v : Valuation) → Matches k v (as_atoms c u) → Homomorphism c u k
matched_goes c u k v m = subst (λ z. Homomorphism c z k) (atoms_back c u) (thawing c k v (as_atoms c u) (atoms_constants c u) m)

pub goes_matched : (c : ℕ) (u k : Instance) → Homomorphism c u k → (v : Valuation) × Matches k v (as_atoms c u)
goes_matched c u k g =
    let h : Homomorphism c (frozen c (as_atoms c u)) k = subst (λ z. Homomorphism c z k) (sym (atoms_back c u)) g in
    ((λ x. h.on (c + x)), matches_along c (frozen c (as_atoms c u)) k h (λ x. c + x) (as_atoms c u) (atoms_constants c u) (frozen_matches c (as_atoms c u)))

pub homomorphism_tested : HomomorphismTested
unfolding has_homomorphism
homomorphism_tested c u k =
    let d = matches_exist (as_atoms c u) k [] in (
      (λ e. let t = d.0 e in matched_goes c u k t.0 t.2),
      λ g. let t = goes_matched c u k g in d.1 (t.0, nothing_agrees t.0, t.1),
    )

-- the same answer for a part into which the instance goes
pub tested_from_part : (c : ℕ) (u part k : Instance) → Within part u → Homomorphism c u part → has_homomorphism c u k ≡ has_homomorphism c part k
tested_from_part c u part k w g = go (has_homomorphism c u k) (has_homomorphism c part k) (homomorphism_tested c u k) (homomorphism_tested c part k)
  where
    go : (a b : Bool) → Decides a (Homomorphism c u k) → Decides b (Homomorphism c part k) → a ≡ b
    go true true d e = refl
    go false false d e = refl
    go true false d e = sym (e.1 (restricted c part u k w (d.0 refl)))
    go false true d e = d.1 (composed c u part k g (e.0 refl))
