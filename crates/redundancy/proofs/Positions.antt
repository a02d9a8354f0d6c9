-- The place of the first element that fails a test, found from the front.
use Rattle.std.proofs.Common.{◌≡◌, ℕ, ◌+◌, Bool, true, false, not, cond, List, [], ◌∷◌, map, Some, Option, refl, ap, ◌∙◌, add-one, arith}
use Rattle.std.specs.List.{position_from}
use Rattle.std.specs.Option.{option_map}
use Rattle.relational.specs.Tests.{first_failing}

cond_not : {A : Type 0} (b : Bool) (x y : A) → cond (not b) x y ≡ cond b y x
cond_not true x y = refl
cond_not false x y = refl

pub first_is : {A B : Type 0} (t : B → Bool) (f : A → B) (xs : List A) (i : ℕ) → position_from (λ x. not (t (f x))) i xs ≡ first_failing t (map f xs) i
first_is t f [] i = refl
first_is t f (x ∷ xs) i =
    cond_not (t (f x)) (Some i) (position_from (λ y. not (t (f y))) (i + 1) xs)
    ∙ ap (λ (o : Option ℕ). cond (t (f x)) o (Some i)) (first_is t f xs (i + 1) ∙ ap (first_failing t (map f xs)) (add-one i))

option_map_cond : {A B : Type 0} (f : A → B) (b : Bool) (x : A) (o : Option A) → option_map f (cond b (Some x) o) ≡ cond b (Some (f x)) (option_map f o)
option_map_cond f true x o = refl
option_map_cond f false x o = refl

-- the places counted from a later one on
pub places_from : {A : Type 0} (t : A → Bool) (xs : List A) (i k : ℕ) → option_map (λ n. i + n) (position_from t k xs) ≡ position_from t (i + k) xs
places_from t [] i k = refl
places_from t (x ∷ xs) i k =
    let e : i + (k + 1) ≡ i + k + 1 = omega arith in
    option_map_cond (λ n. i + n) (t x) k (position_from t (k + 1) xs)
    ∙ ap (λ (o : Option ℕ). cond (t x) (Some (i + k)) o) (places_from t xs i (k + 1) ∙ ap (λ (n : ℕ). position_from t n xs) e)
