-- What stands in a list, and which lists lie within which.
use Rattle.std.proofs.Common.{◌≡◌, ℕ, zero, suc, ◌<◌, ◌⊎◌, List, [], ◌∷◌, ◌++◌, map, length, get_or, take, drop, sym, refl, subst, inl, inr, arith}
use Rattle.std.proofs.lemmas.List.{take-append-drop}
use Rattle.relational.specs.Instances.{In, here, there, Within}

pub in_nil : {A : Type 0} {a : A} → In a [] → ⊥
in_nil h = elim h [ ]

pub in_cons : {A : Type 0} {a b : A} {xs : List A} → In a (b ∷ xs) → (a ≡ b) ⊎ In a xs
in_cons here = inl refl
in_cons (there h) = inr h

-- the first of a list stands in it, whatever it is called
pub in_head : {A : Type 0} {a b : A} (xs : List A) → a ≡ b → In a (b ∷ xs)
in_head xs e = rw e here

pub in_one : {A : Type 0} {a b : A} → In a (b ∷ []) → a ≡ b
in_one here = refl
in_one (there h) = absurd (in_nil h)

pub in_left : {A : Type 0} {a : A} {xs : List A} (ys : List A) → In a xs → In a (xs ++ ys)
in_left ys here = here
in_left ys (there h) = there (in_left ys h)

pub in_right : {A : Type 0} {a : A} (xs : List A) {ys : List A} → In a ys → In a (xs ++ ys)
in_right [] h = h
in_right (x ∷ xs) h = there (in_right xs h)

pub in_append : {A : Type 0} {a : A} (xs : List A) {ys : List A} → In a (xs ++ ys) → In a xs ⊎ In a ys
in_append [] h = inr h
in_append {a = a} (x ∷ xs) {ys} h = go (λ k. in_append xs k) (in_cons h)
  where
    go : (In a (xs ++ ys) → In a xs ⊎ In a ys) → (a ≡ x) ⊎ In a (xs ++ ys) → In a (x ∷ xs) ⊎ In a ys
    go more (inl e) = inl (in_head xs e)
    go more (inr k) = elim (more k) [ inl m ↦ inl (there m) | inr m ↦ inr m ]

pub in_map : {A B : Type 0} (f : A → B) {a : A} {xs : List A} → In a xs → In (f a) (map f xs)
in_map f here = here
in_map f (there h) = there (in_map f h)

pub in_map_inv : {A B : Type 0} (f : A → B) (xs : List A) {b : B} → In b (map f xs) → (a : A) × In a xs × (b ≡ f a)
in_map_inv f [] h = absurd (in_nil h)
in_map_inv {A} f (x ∷ xs) {b} h = go (λ k. in_map_inv f xs k) (in_cons h)
  where
    go : (In b (map f xs) → (a : A) × In a xs × (b ≡ f a)) → (b ≡ f x) ⊎ In b (map f xs) → (a : A) × In a (x ∷ xs) × (b ≡ f a)
    go more (inl e) = (x, here, e)
    go more (inr k) = let t = more k in (t.0, there t.1, t.2)

pub in_at : {A : Type 0} (xs : List A) (i : ℕ) (d : A) → i < length xs → In (get_or xs i d) xs
in_at [] i d h = absurd (omega arith)
in_at (x ∷ xs) zero d h = here
in_at (x ∷ xs) (suc i) d h = there (in_at xs i d (omega arith))

pub in_place : {A : Type 0} {a : A} {xs : List A} → In a xs → (i : ℕ) × (i < length xs) × ((d : A) → get_or xs i d ≡ a)
in_place here = (0, omega arith, λ d. refl)
in_place (there h) = let t = in_place h in (suc t.0, omega (arith, t.1), t.2)

pub in_within : {A : Type 0} (xs ys : List A) → Within xs ys → (a : A) → In a xs → In a ys
unfolding Within
in_within xs ys w a i = w a i

pub within_refl : {A : Type 0} (xs : List A) → Within xs xs
unfolding Within
within_refl xs = λ a h. h

pub within_trans : {A : Type 0} (xs ys zs : List A) → Within xs ys → Within ys zs → Within xs zs
unfolding Within
within_trans xs ys zs p q = λ a h. q a (p a h)

pub within_nil : {A : Type 0} (xs : List A) → Within [] xs
unfolding Within
within_nil xs = λ a h. absurd (in_nil h)

pub within_left : {A : Type 0} (xs ys : List A) → Within xs (xs ++ ys)
unfolding Within
within_left xs ys = λ a h. in_left ys h

pub within_right : {A : Type 0} (xs ys : List A) → Within ys (xs ++ ys)
unfolding Within
within_right xs ys = λ a h. in_right xs h

pub within_append : {A : Type 0} (xs ys zs : List A) → Within xs zs → Within ys zs → Within (xs ++ ys) zs
unfolding Within
within_append xs ys zs p q = λ a h. elim (in_append xs h) [ inl k ↦ p a k | inr k ↦ q a k ]

pub within_tail : {A : Type 0} (x : A) (xs : List A) → Within xs (x ∷ xs)
unfolding Within
within_tail x xs = λ a h. there h

pub within_cons : {A : Type 0} (x : A) (xs ys : List A) → In x ys → Within xs ys → Within (x ∷ xs) ys
unfolding Within
within_cons x xs ys h p = λ a k. elim (in_cons k) [ inl e ↦ subst (λ y. In y ys) (sym e) h | inr m ↦ p a m ]

pub within_map : {A B : Type 0} (f : A → B) (xs ys : List A) → Within xs ys → Within (map f xs) (map f ys)
unfolding Within
within_map f xs ys p = λ b h. let t = in_map_inv f xs h in subst (λ y. In y (map f ys)) (sym t.2) (in_map f (p t.0 t.1))

pub in_take : {A : Type 0} {a : A} (i : ℕ) (xs : List A) → In a (take i xs) → In a xs
in_take {A} {a} i xs h = subst (In a) (take-append-drop i xs) (in_left (drop i xs) h)
