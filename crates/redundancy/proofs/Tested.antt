-- Tests of every element of a list, and of any, from what is known of the elements.
use Rattle.std.proofs.Common.{◌≡◌, Bool, true, List, [], ◌∷◌, refl}
use Rattle.std.proofs.lemmas.Bool.{and_from, or_left, or_right}
use Rattle.relational.specs.Instances.{In, here, there}
use Rattle.relational.specs.Tests.{any, every}
use Rattle.relational.proofs.Members.{in_nil}

pub every_from : {A : Type 0} (t : A → Bool) (xs : List A) → ((a : A) → In a xs → t a ≡ true) → every t xs ≡ true
every_from t [] h = refl
every_from t (x ∷ xs) h = and_from (t x) (every t xs) (h x here) (every_from t xs (λ a i. h a (there i)))

pub any_from : {A : Type 0} (t : A → Bool) (xs : List A) (a : A) → In a xs → t a ≡ true → any t xs ≡ true
any_from t [] a h e = absurd (in_nil h)
any_from t (x ∷ xs) a here e = or_left (t x) (any t xs) e
any_from t (x ∷ xs) a (there h) e = or_right (t x) (any t xs) (any_from t xs a h e)
