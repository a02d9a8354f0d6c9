-- Reading facts one by one, each once.
use Rattle.std.proofs.Common.{◌≡◌, ℕ, ◌+◌, ◌<◌, ◌≤◌, Bool, true, false, cond, ◌&&◌, ◌||◌, List, [], ◌∷◌, ◌++◌, map, length, get_or, drop, ◌==◌, sym, refl, ap, ◌∙◌}
use Rattle.std.specs.Cmp.{nat_eq_equiv}
use Rattle.std.specs.Cmp.Lexicographic.{nat_list_eq_equiv}
use Rattle.std.proofs.lemmas.List.{append-nil, append_assoc, drop_more, drop_all}
use Rattle.relational.specs.declared.fact.Fact.{Fact as Stored}
use Rattle.relational.specs.Instances.{Fact, Instance}
use Rattle.relational.specs.Represented.{fact_of}
use Rattle.relational.specs.Tests.{any}
use Rattle.redundancy.specs.Cores.{same_values, same_fact, distinct_from}

-- the test of the code has the sides the other way round
same_back : (f g : Fact) → same_fact f g ≡ same_fact g f
same_back f g = ap (λ (b : Bool). b && same_values f.values g.values) (nat_eq_equiv.symm f.relation g.relation) ∙ ap (λ (b : Bool). g.relation == f.relation && b) (nat_list_eq_equiv.symm f.values g.values)

pub contained : (fact : Stored) (facts : List Stored) → any (λ (g : Stored). same_fact (fact_of g) (fact_of fact)) facts ≡ any (same_fact (fact_of fact)) (map fact_of facts)
contained fact [] = refl
contained fact (g ∷ facts) = λ i. same_back (fact_of g) (fact_of fact) i || contained fact facts i

-- one more fact is looked at
module _ (facts seen : Instance) (i : ℕ) (f : Fact) (l : i < length facts) (is : get_or facts i f ≡ f) where
  distinct_step : distinct_from seen (drop i facts) ≡ cond (any (same_fact f) seen) (distinct_from seen (drop (i + 1) facts)) (f ∷ distinct_from (seen ++ f ∷ []) (drop (i + 1) facts))
  unfolding distinct_from
  distinct_step = ap (distinct_from seen) (drop_more facts i f l ∙ ap (λ (g : Fact). g ∷ drop (i + 1) facts) is)

  pub distinct_old : true ≡ any (same_fact f) seen → seen ++ distinct_from seen (drop (i + 1) facts) ≡ seen ++ distinct_from seen (drop i facts)
  distinct_old e = ap (λ (gs : Instance). seen ++ gs) (sym (distinct_step ∙ ap (λ (b : Bool). cond b (distinct_from seen (drop (i + 1) facts)) (f ∷ distinct_from (seen ++ f ∷ []) (drop (i + 1) facts))) (sym e)))

  pub distinct_new : false ≡ any (same_fact f) seen → (seen ++ f ∷ []) ++ distinct_from (seen ++ f ∷ []) (drop (i + 1) facts) ≡ seen ++ distinct_from seen (drop i facts)
  distinct_new e =
      append_assoc seen (f ∷ []) (distinct_from (seen ++ f ∷ []) (drop (i + 1) facts))
      ∙ ap (λ (gs : Instance). seen ++ gs) (sym (distinct_step ∙ ap (λ (b : Bool). cond b (distinct_from seen (drop (i + 1) facts)) (f ∷ distinct_from (seen ++ f ∷ []) (drop (i + 1) facts))) (sym e)))

-- all have been
pub distinct_all : (facts seen : Instance) (i : ℕ) → length facts ≤ i → seen ≡ seen ++ distinct_from seen (drop i facts)
unfolding distinct_from
distinct_all facts seen i l = sym (ap (λ (gs : Instance). seen ++ distinct_from seen gs) (drop_all i facts l) ∙ append-nil seen)
