-- Tests of the elements of a list.
use Rattle.std.specs.Prelude.{ℕ, suc, Bool, cond, List, [], ◌∷◌, Some, None, Option}
use Rattle.std.specs.List.{list_any, list_all}

-- each passes
abbrev pub every : {A : Type 0} → (A → Bool) → List A → Bool
every = list_all

-- one of them passes
abbrev pub any : {A : Type 0} → (A → Bool) → List A → Bool
any = list_any

-- the place of the first that fails, places counted from i on
abbrev pub first_failing : {A : Type 0} → (A → Bool) → List A → ℕ → Option ℕ
first_failing t [] i = None
first_failing t (x ∷ xs) i = cond (t x) (first_failing t xs (suc i)) (Some i)
