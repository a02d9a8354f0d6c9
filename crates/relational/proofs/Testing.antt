-- A loop that tests the elements of a list one by one.
use Rattle.std.proofs.Common.{◌≡◌, ℕ, suc, ◌+◌, ◌<◌, ◌≤◌, Bool, true, false, cond, not, ltb, leb, ◌&&◌, ◌||◌, List, [], ◌∷◌, map, length, get_or, drop, Some, None, Option, sym, refl, ap, ◌∙◌, ap₂, ⊎_elim, arith}
use Rattle.std.proofs.lemmas.List.{drop_more, drop_all}
use Rattle.std.proofs.Math.Dec.{leb-suc-suc}
use Rattle.std.proofs.lemmas.Bool.{le-leb, and_parts, or_cases, false≢true}
use Rattle.std.specs.List.{position, position_or_len}
use Rattle.relational.specs.Instances.{In, here, there}
use Rattle.relational.specs.Tests.{any, every, first_failing}
use Rattle.relational.proofs.Members.{in_at}

module _ {A : Type 0} (t : A → Bool) (xs : List A) (i : ℕ) where
  pub any_hit : (d : A) → i < length xs → true ≡ t (get_or xs i d) → true ≡ any t (drop i xs)
  any_hit d l e = let p = drop_more xs i d l in let q = sym e in simp (p, q)

  pub any_miss : (d : A) → i < length xs → false ≡ t (get_or xs i d) → any t (drop (i + 1) xs) ≡ any t (drop i xs)
  any_miss d l e = let p = drop_more xs i d l in let q = sym e in sym (simp (p, q))

  pub any_end : length xs ≤ i → false ≡ any t (drop i xs)
  any_end l = let p = drop_all i xs l in simp p

  pub every_miss : (d : A) → i < length xs → false ≡ t (get_or xs i d) → false ≡ every t (drop i xs)
  every_miss d l e = let p = drop_more xs i d l in let q = sym e in simp (p, q)

  pub every_hit : (d : A) → i < length xs → true ≡ t (get_or xs i d) → every t (drop (i + 1) xs) ≡ every t (drop i xs)
  every_hit d l e = let p = drop_more xs i d l in let q = sym e in sym (simp (p, q))

  pub every_end : length xs ≤ i → true ≡ every t (drop i xs)
  every_end l = let p = drop_all i xs l in simp p

pub any_map : {A B : Type 0} (t : B → Bool) (f : A → B) (xs : List A) → any t (map f xs) ≡ any (λ x. t (f x)) xs
any_map t f [] = refl
any_map t f (x ∷ xs) = ap (λ b. t (f x) || b) (any_map t f xs)

pub every_map : {A B : Type 0} (t : B → Bool) (f : A → B) (xs : List A) → every t (map f xs) ≡ every (λ x. t (f x)) xs
every_map t f [] = refl
every_map t f (x ∷ xs) = ap (λ b. t (f x) && b) (every_map t f xs)

-- the place of the first that fails, as a search for the first that does not pass finds it
failing_place : {A B : Type 0} (t : B → Bool) (f : A → B) (xs : List A) (i : ℕ) →
    first_failing t (map f xs) i ≡ cond (ltb (position_or_len (λ x. not (t (f x))) xs) (length xs)) (Some (i + position_or_len (λ x. not (t (f x))) xs)) None
failing_place t f [] i = refl
failing_place {A} {B} t f (x ∷ xs) i = go (t (f x)) refl (position_or_len (λ y. not (t (f y))) xs) (failing_place t f xs (suc i))
  where
    go : (b : Bool) → t (f x) ≡ b → (rest : ℕ) → first_failing t (map f xs) (suc i) ≡ cond (ltb rest (length xs)) (Some (suc i + rest)) None →
        cond b (first_failing t (map f xs) (suc i)) (Some i) ≡ cond (ltb (cond (not (not b)) (1 + rest) 0) (suc (length xs))) (Some (i + cond (not (not b)) (1 + rest) 0)) None
    go true e rest ih =
        let s : 1 + rest ≡ suc rest = omega arith in
        let j : suc i + rest ≡ i + (1 + rest) = omega arith in
        ih ∙ ap₂ {C = Option ℕ} (λ (b : Bool) (k : ℕ). cond b (Some k) None) (sym (ap (λ (k : ℕ). leb (suc k) (suc (length xs))) s ∙ leb-suc-suc (suc rest) (length xs))) j
    go false e rest ih =
        let l = le-leb 1 (suc (length xs)) (omega arith) in
        let j : i ≡ i + 0 = omega arith in
        ap₂ {C = Option ℕ} (λ (b : Bool) (k : ℕ). cond b (Some k) None) (sym l) j

module _ {A B : Type 0} (t : B → Bool) (f : A → B) (xs : List A) (i : ℕ) (found : Option ℕ) (is : found ≡ position (λ x. not (t (f x))) xs) where
  pub placed_none : found ≡ None → None ≡ first_failing t (map f xs) i
  placed_none e = go (ltb (position_or_len (λ x. not (t (f x))) xs) (length xs)) _ is ∙ sym (failing_place t f xs i)
    where
      go : (b : Bool) (rest : ℕ) → found ≡ cond b (Some rest) None → None ≡ cond b (Some (i + rest)) None
      go true rest h = let z : ◌≡◌ {A = ℕ} 0 1 = cc in absurd (omega arith)
      go false rest h = refl

  pub placed_some : (place : ℕ) → found ≡ Some place → Some (i + place) ≡ first_failing t (map f xs) i
  placed_some place e = go (ltb (position_or_len (λ x. not (t (f x))) xs) (length xs)) _ is ∙ sym (failing_place t f xs i)
    where
      go : (b : Bool) (rest : ℕ) → found ≡ cond b (Some rest) None → Some (i + place) ≡ cond b (Some (i + rest)) None
      go true rest h = let z : rest ≡ place = cc in ap (λ (k : ℕ). Some (i + k)) (sym z)
      go false rest h = let z : ◌≡◌ {A = ℕ} 0 1 = cc in absurd (omega arith)

-- a loop that looks for the first that fails
module _ {A : Type 0} (t : A → Bool) (xs : List A) (i at : ℕ) where
  pub failing_hit : (d : A) → i < length xs → false ≡ t (get_or xs i d) → Some at ≡ first_failing t (drop i xs) at
  failing_hit d l e = let p = drop_more xs i d l in let q = sym e in simp (p, q)

  pub failing_miss : (d : A) → i < length xs → true ≡ t (get_or xs i d) → first_failing t (drop (i + 1) xs) (suc at) ≡ first_failing t (drop i xs) at
  failing_miss d l e = let p = drop_more xs i d l in let q = sym e in sym (simp (p, q))

  pub failing_end : length xs ≤ i → None ≡ first_failing t (drop i xs) at
  failing_end l = let p = drop_all i xs l in simp p

-- what a test of every element, of any, and of the first that fails says of the elements
pub every_in : {A : Type 0} (t : A → Bool) (xs : List A) (x : A) → every t xs ≡ true → In x xs → t x ≡ true
every_in t [] x e h = elim h [ ]
every_in t (y ∷ xs) x e here = (and_parts (t x) (every t xs) e).0
every_in t (y ∷ xs) x e (there h) = every_in t xs x (and_parts (t y) (every t xs) e).1 h

pub any_in : {A : Type 0} (t : A → Bool) (xs : List A) → any t xs ≡ true → (x : A) × In x xs × (t x ≡ true)
any_in t [] e = absurd (false≢true e)
any_in t (y ∷ xs) e = ⊎_elim (λ (h : t y ≡ true). (y, here, h)) (λ (h : any t xs ≡ true). let r = any_in t xs h in (r.0, there r.1, r.2)) (or_cases (t y) (any t xs) e)

some_none : {A : Type 0} {P : Type 0} (x : A) → Some x ≡ None → P
some_none x e = let z : ◌≡◌ {A = ℕ} 0 1 = cc in absurd (omega arith)

first_passed : {A : Type 0} (t : A → Bool) (xs : List A) (i : ℕ) (y : A) (b : Bool) → t y ≡ b → cond b (first_failing t xs (suc i)) (Some i) ≡ None → (t y ≡ true) × (first_failing t xs (suc i) ≡ None)
first_passed t xs i y true p e = (p, e)
first_passed t xs i y false p e = some_none i e

pub none_failing : {A : Type 0} (t : A → Bool) (xs : List A) (i : ℕ) (x : A) → first_failing t xs i ≡ None → In x xs → t x ≡ true
none_failing t [] i x e h = elim h [ ]
none_failing t (y ∷ xs) i x e here = (first_passed t xs i x (t x) refl e).0
none_failing t (y ∷ xs) i x e (there h) = none_failing t xs (suc i) x (first_passed t xs i y (t y) refl e).1 h

pub every_at : {A : Type 0} (t : A → Bool) (xs : List A) (i : ℕ) (d : A) → every t xs ≡ true → i < length xs → t (get_or xs i d) ≡ true
every_at t xs i d e l = every_in t xs (get_or xs i d) e (in_at xs i d l)
