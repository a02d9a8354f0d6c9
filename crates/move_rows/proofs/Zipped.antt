-- Calls at items paired with what they gave.
use Rattle.std.proofs.Common.{◌≡◌, ◌<◌, ◌++◌, List, ℕ, [], ◌∷◌, length, get_or, refl, sym, subst, ap, ◌∙◌, arith}
use Rattle.std.specs.List.{FoldsTo, zip}
use Rattle.std.proofs.lemmas.Fn.{FoldsTo-push}

pub zip_none : {X Y : Type 0} (xs : List X) → zip {X = Y} xs [] ≡ []
zip_none [] = refl
zip_none (x ∷ xs) = refl

zip_more : {X Y : Type 0} (xs : List X) (ys : List Y) (x : X) (y : Y) → length ys < length xs → x ≡ get_or xs (length ys) x → zip xs (ys ++ y ∷ []) ≡ zip xs ys ++ (x, y) ∷ []
zip_more [] ys x y inside at = absurd (omega (arith, inside))
zip_more {X} {Y} (a ∷ xs) [] x y inside at = ap (λ (b : X). (b, y) ∷ zip xs []) (sym at) ∙ ap (λ (ps : List (X × Y)). (x, y) ∷ ps) (zip_none xs)
zip_more {X} {Y} (a ∷ xs) (b ∷ ys) x y inside at = ap (λ (ps : List (X × Y)). (a, b) ∷ ps) (zip_more xs ys x y (omega (arith, inside)) at)

module _ {F X Y : Type 0} (R : F → X × Y → F → Type 0) (f : F) (xs : List X) where
  pub called_once_more : (ys zs : List Y) (i : ℕ) (g h : F) (x : X) (y : Y) → FoldsTo R f (zip xs ys) g → R g (x, y) h → length ys ≡ i → i < length xs → x ≡ get_or xs i x → zs ≡ ys ++ y ∷ [] → FoldsTo R f (zip xs zs) h
  called_once_more ys zs i g h x y before call long inside at more =
      let here : x ≡ get_or xs (length ys) x = at ∙ ap (λ (n : ℕ). get_or xs n x) (sym long) in
      let longer : zip xs zs ≡ zip xs ys ++ (x, y) ∷ [] = ap (zip xs) more ∙ zip_more xs ys x y (omega (arith, long, inside)) here in
      subst (λ (ps : List (X × Y)). FoldsTo R f ps h) (sym longer) (FoldsTo-push R f (zip xs ys) g (x, y) h before call)
