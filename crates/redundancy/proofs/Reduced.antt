-- Dependencies that are left out one by one: what is left has the same solutions, and none of it is implied by the others.
use Rattle.std.proofs.Common.{◌≡◌, ℕ, ◌⊎◌, List, [], ◌∷◌, ◌++◌, sym, refl, ap, ◌∙◌, subst, inl, inr, append_assoc, append-nil, arith}
use Rattle.relational.specs.Instances.{Within, Instance, Dependency, KeepsAll}
use Rattle.relational.proofs.Members.{within_refl, within_trans, within_append, within_left, within_right, within_tail}
use Rattle.relational.proofs.Kept.{keeps_fewer}
use Rattle.redundancy.specs.Implied.{Implies}
use Rattle.redundancy.specs.Reduced.{Reduced, judged, goes, remains, ReducedRight}
use Rattle.redundancy.proofs.Implying.{keeps_added, keeps_left_out}

-- more dependencies imply more
implies_more : (some all : List Dependency) (d : Dependency) → Within some all → Implies some d → Implies all d
unfolding Implies
implies_more some all d w h = λ k kp. h k (keeps_fewer k some all w kp)

-- the same instances keep both
record Same (ds es : List Dependency) : Type 0 where
  onward : (k : Instance) → KeepsAll k ds → KeepsAll k es
  back : (k : Instance) → KeepsAll k es → KeepsAll k ds

reduced_same : {stay rest result : List Dependency} → Reduced stay rest result → Same (stay ++ rest) result
reduced_same (judged {stay = stay}) = record { onward = λ k kp. subst (KeepsAll k) (append-nil stay) kp; back = λ k kp. subst (KeepsAll k) (sym (append-nil stay)) kp }
reduced_same (goes {stay = stay} {rest = rest} {d = d} h r) =
    let t = reduced_same r in
    record { onward = λ k kp. t.onward k (keeps_left_out stay rest d h k kp); back = λ k kp. keeps_added stay rest d h k (t.back k kp) }
reduced_same (remains {stay = stay} {rest = rest} {d = d} n r) =
    let t = reduced_same r in
    let e : (stay ++ d ∷ []) ++ rest ≡ stay ++ d ∷ rest = append_assoc stay (d ∷ []) rest in
    record { onward = λ k kp. t.onward k (subst (KeepsAll k) (sym e) kp); back = λ k kp. subst (KeepsAll k) e (t.back k kp) }

pub within_one_more : (stay rest : List Dependency) (d : Dependency) → Within (stay ++ rest) (stay ++ d ∷ rest)
within_one_more stay rest d =
    within_append stay rest (stay ++ d ∷ rest) (within_left stay (d ∷ rest)) (within_trans rest (d ∷ rest) (stay ++ d ∷ rest) (within_tail d rest) (within_right stay (d ∷ rest)))

reduced_within : {stay rest result : List Dependency} → Reduced stay rest result → Within result (stay ++ rest)
reduced_within (judged {stay = stay}) = within_left stay []
reduced_within (goes {stay = stay} {rest = rest} {result = result} {d = d} h r) = within_trans result (stay ++ rest) (stay ++ d ∷ rest) (reduced_within r) (within_one_more stay rest d)
reduced_within (remains {stay = stay} {rest = rest} {result = result} {d = d} n r) = subst (Within result) (append_assoc stay (d ∷ []) rest) (reduced_within r)

-- none of those that stay is implied by the others and the rest
abbrev Minimal : (stay rest : List Dependency) → Type 0
Minimal stay rest = (before after : List Dependency) (d : Dependency) → stay ≡ before ++ d ∷ after → Implies ((before ++ after) ++ rest) d → ⊥

not_nil : {A : Type 0} (xs : List A) (y : A) (ys : List A) → [] ≡ xs ++ y ∷ ys → ⊥
not_nil [] y ys e = let z : ◌≡◌ {A = ℕ} 0 1 = cc in omega arith
not_nil (x ∷ xs) y ys e = let z : ◌≡◌ {A = ℕ} 0 1 = cc in omega arith

-- where one of a list that ends in e stands: before the end, or there
split_last : {A : Type 0} (xs : List A) (e : A) (before : List A) (d : A) (after : List A) → xs ++ e ∷ [] ≡ before ++ d ∷ after →
    ((rest : List A) × (after ≡ rest ++ e ∷ []) × (xs ≡ before ++ d ∷ rest)) ⊎ ((after ≡ []) × (d ≡ e) × (before ≡ xs))
split_last [] e [] d after q = inr (cc, cc, refl)
split_last [] e (y ∷ before) d after q = absurd (not_nil before d after (cc))
split_last (x ∷ xs) e [] d after q = inl (xs, cc, cc)
split_last {A} (x ∷ xs) e (y ∷ before) d after q = go (split_last xs e before d after (cc))
  where
    go : ((rest : List A) × (after ≡ rest ++ e ∷ []) × (xs ≡ before ++ d ∷ rest)) ⊎ ((after ≡ []) × (d ≡ e) × (before ≡ xs)) →
        ((rest : List A) × (after ≡ rest ++ e ∷ []) × (x ∷ xs ≡ y ∷ before ++ d ∷ rest)) ⊎ ((after ≡ []) × (d ≡ e) × (y ∷ before ≡ x ∷ xs))
    go (inl t) = let p = t.2 in inl (t.0, t.1, cc)
    go (inr t) = let p = t.2 in inr (t.0, t.1, cc)

minimal_less : (stay rest : List Dependency) (e : Dependency) → Minimal stay (e ∷ rest) → Minimal stay rest
minimal_less stay rest e l = λ before after d q h. l before after d q (implies_more ((before ++ after) ++ rest) ((before ++ after) ++ e ∷ rest) d (within_one_more (before ++ after) rest e) h)

minimal_one_more : (stay rest : List Dependency) (e : Dependency) → (Implies (stay ++ rest) e → ⊥) → Minimal stay (e ∷ rest) → Minimal (stay ++ e ∷ []) rest
minimal_one_more stay rest e n l = λ before after d q h. go before after d h (split_last stay e before d after q)
  where
    within : (before after : List Dependency) → Within ((before ++ (after ++ e ∷ [])) ++ rest) ((before ++ after) ++ e ∷ rest)
    within before after = subst (λ z. Within z ((before ++ after) ++ e ∷ rest)) (sym (ap (λ z. z ++ rest) (sym (append_assoc before after (e ∷ []))) ∙ append_assoc (before ++ after) (e ∷ []) rest)) (within_refl ((before ++ after) ++ e ∷ rest))

    go : (before after : List Dependency) (d : Dependency) → Implies ((before ++ after) ++ rest) d →
        ((more : List Dependency) × (after ≡ more ++ e ∷ []) × (stay ≡ before ++ d ∷ more)) ⊎ ((after ≡ []) × (d ≡ e) × (before ≡ stay)) → ⊥
    go before after d h (inl t) =
        let i : Implies ((before ++ (t.0 ++ e ∷ [])) ++ rest) d = subst (λ z. Implies ((before ++ z) ++ rest) d) t.1 h in
        l before t.0 d t.2 (implies_more ((before ++ (t.0 ++ e ∷ [])) ++ rest) ((before ++ t.0) ++ e ∷ rest) d (within before t.0) i)
    go before after d h (inr t) =
        let i : Implies ((before ++ []) ++ rest) d = subst (λ z. Implies ((before ++ z) ++ rest) d) t.0 h in
        let j : Implies (before ++ rest) d = subst (λ z. Implies (z ++ rest) d) (append-nil before) i in
        n (subst (Implies (stay ++ rest)) t.1 (subst (λ z. Implies (z ++ rest) d) t.2 j))

reduced_minimal : {stay rest result : List Dependency} → Reduced stay rest result → Minimal stay rest → Minimal result []
reduced_minimal judged l = l
reduced_minimal (goes {stay = stay} {rest = rest} {d = d} h r) l = reduced_minimal r (minimal_less stay rest d l)
reduced_minimal (remains {stay = stay} {rest = rest} {d = d} n r) l = reduced_minimal r (minimal_one_more stay rest d n l)

pub reduced_right : ReducedRight
reduced_right ds result r =
    let t = reduced_same r in
    record {
      within = reduced_within r;
      same = λ facts k. ((λ s. record { has = s.has; keeps = t.onward k s.keeps }), λ s. record { has = s.has; keeps = t.back k s.keeps });
      minimal = λ before after d q h. reduced_minimal r (λ b a e p i. not_nil b e a p) before after d q (subst (λ z. Implies z d) (sym (append-nil (before ++ after))) h);
    }
