-- A map of finitely many numbers onto themselves takes no two to one, and can be undone.
use Rattle.std.proofs.Common.{◌≡◌, ℕ, Bool, true, false, cond, eqb, ◌⊎◌, List, [], ◌∷◌, map, sym, refl, ap, ◌∙◌, subst, inl, inr, arith}
use lib.ListN.{length-map}
use Rattle.std.proofs.lemmas.Bool.{eqb-true, eqb-false, eq-eqb, cases_eq, both_ways}
use Rattle.relational.specs.Instances.{In, here, there}
use Rattle.relational.specs.Tests.{any}
use Rattle.relational.proofs.Members.{in_nil, in_cons, in_map}
use Rattle.chase.specs.Limit.{different}
use Rattle.redundancy.proofs.Tested.{any_from}
use Rattle.chase.proofs.Finite.{Once, once_nil, once_cons, without, without_length, without_has, once_length, different_only}

pub different_once : (ns : List ℕ) → Once (different ns)
unfolding different
different_once [] = once_nil
different_once (n ∷ ns) = go (any (λ m. eqb n m) ns) refl (different_once ns)
  where
    go : (b : Bool) → any (λ m. eqb n m) ns ≡ b → Once (different ns) → Once (cond b (different ns) (n ∷ different ns))
    go true q o = o
    go false q o = once_cons (λ h. both_ways (any (λ m. eqb n m) ns) q (any_from (λ m. eqb n m) ns n (different_only n ns h) (eq-eqb n n refl))) o

-- each number of the list comes from one of the list
abbrev pub Onto : (ℕ → ℕ) → List ℕ → Type 0
Onto h ns = (n : ℕ) → In n ns → (m : ℕ) × In m ns × (h m ≡ n)

module _ (h : ℕ → ℕ) (ns : List ℕ) (o : Once ns) (onto : Onto h ns) where
  -- if two go to one, all come from the others
  from_others : (a b : ℕ) (i : In a ns) → In b ns → h a ≡ h b → (a ≡ b → ⊥) → (n : ℕ) → In n ns → In n (map h (without i))
  from_others a b i j e ne n k = let t = onto n k in subst (λ z. In z (map h (without i))) t.2 (by t.0 t.1 (cases_eq t.0 a))
    where
      by : (m : ℕ) → In m ns → (m ≡ a) ⊎ (m ≡ a → ⊥) → In (h m) (map h (without i))
      by m l (inl q) = subst (λ z. In z (map h (without i))) (sym (ap h q ∙ e)) (in_map h (without_has i (λ r. ne (sym r)) j))
      by m l (inr q) = in_map h (without_has i q l)

  pub onto_apart : (a b : ℕ) → In a ns → In b ns → h a ≡ h b → a ≡ b
  onto_apart a b i j e = go (cases_eq a b)
    where
      go : (a ≡ b) ⊎ (a ≡ b → ⊥) → a ≡ b
      go (inl q) = q
      go (inr ne) =
          let s = once_length ns (map h (without i)) o (from_others a b i j e ne) in
          absurd (omega (arith, length-map (without i) h, without_length i))

-- the first of the list that goes to n, or n itself
pub undone : (ℕ → ℕ) → List ℕ → ℕ → ℕ
undone h [] n = n
undone h (m ∷ ns) n = cond (eqb (h m) n) m (undone h ns n)

pub undone_is : (h : ℕ → ℕ) (ns : List ℕ) (n : ℕ) → (In (undone h ns n) ns × (h (undone h ns n) ≡ n)) ⊎ (((m : ℕ) → In m ns → h m ≡ n → ⊥) × (undone h ns n ≡ n))
unfolding undone
undone_is h [] n = inr ((λ m i e. in_nil i), refl)
undone_is h (m ∷ ns) n = go (eqb (h m) n) refl (undone_is h ns n)
  where
    go : (b : Bool) → eqb (h m) n ≡ b → (In (undone h ns n) ns × (h (undone h ns n) ≡ n)) ⊎ (((k : ℕ) → In k ns → h k ≡ n → ⊥) × (undone h ns n ≡ n)) →
        (In (cond b m (undone h ns n)) (m ∷ ns) × (h (cond b m (undone h ns n)) ≡ n)) ⊎ (((k : ℕ) → In k (m ∷ ns) → h k ≡ n → ⊥) × (cond b m (undone h ns n) ≡ n))
    go true q r = inl (here, eqb-true (h m) n q)
    go false q (inl t) = inl (there t.0, t.1)
    go false q (inr t) = inr ((λ k i e. elim (in_cons i) [ inl d ↦ eqb-false (h m) n q (ap h (sym d) ∙ e) | inr j ↦ t.0 k j e ]), t.1)

module _ (h : ℕ → ℕ) (ns : List ℕ) (o : Once ns) (onto : Onto h ns) where
  pub undone_back : (n : ℕ) → In n ns → undone h ns (h n) ≡ n
  undone_back n i = elim (undone_is h ns (h n)) [ inl t ↦ onto_apart h ns o onto (undone h ns (h n)) n t.0 i t.1 | inr t ↦ absurd (t.0 n i refl) ]

  -- a number that h leaves alone is left alone
  pub undone_fixed : (n : ℕ) → h n ≡ n → ((m : ℕ) → In m ns → In (h m) ns) → undone h ns n ≡ n
  undone_fixed n e into = elim (undone_is h ns n) [
    | inl t ↦ onto_apart h ns o onto (undone h ns n) n t.0 (subst (λ z. In z ns) t.1 (into (undone h ns n) t.0)) (t.1 ∙ sym e)
    | inr t ↦ t.1
  ]
