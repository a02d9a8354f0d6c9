-- Lists without repetition inside other lists, weights, and lists made from lists.
use Rattle.std.proofs.Common.{◌≡◌, ℕ, zero, suc, ◌+◌, ◌*◌, ◌<◌, ◌≤◌, Bool, true, false, cond, eqb, ◌⊎◌, List, [], ◌∷◌, ◌++◌, map, length, filter, sym, refl, ap, ◌∙◌, ap₂, inl, inr, ⊎_elim, suc-mul, add_comm, zero-add, zero-mul, arith, length-append}
use Rattle.std.proofs.lemmas.Bool.{eqb-true, cases_eq}
use Rattle.relational.specs.Instances.{In, here, there}
use Rattle.relational.specs.Tests.{any}
use Rattle.relational.proofs.Members.{in_nil, in_cons, in_head, in_left, in_right, in_append, in_map, in_map_inv}
use Rattle.relational.proofs.Testing.{any_in}
use Rattle.relational.proofs.Decidable.{decide_number}
use Rattle.chase.specs.Limit.{different}

-- nothing stands twice in a list
pub data Once {A : Type 0} : List A → Type 0 where
  once_nil : Once []
  once_cons : {a : A} {xs : List A} → (In a xs → ⊥) → Once xs → Once (a ∷ xs)

-- the list without what stands at a place
unfoldable pub without : {A : Type 0} {a : A} {xs : List A} → In a xs → List A
without (here {xs = xs}) = xs
without (there {b = b} h) = b ∷ without h

pub without_length : {A : Type 0} {a : A} {xs : List A} (h : In a xs) → length xs ≡ suc (length (without h))
unfolding without
without_length here = refl
without_length (there h) = ap suc (without_length h)

pub without_has : {A : Type 0} {a z : A} {xs : List A} (h : In a xs) → (z ≡ a → ⊥) → In z xs → In z (without h)
unfolding without
without_has here n k = elim (in_cons k) [ inl e ↦ absurd (n e) | inr m ↦ m ]
without_has {a = a} {z = z} (there {b = b} {xs = xs} h) n k = go (in_cons k) (λ m. without_has h n m)
  where
    go : (z ≡ b) ⊎ In z xs → (In z xs → In z (without h)) → In z (b ∷ without h)
    go (inl e) more = in_head (without h) e
    go (inr m) more = there (more m)

-- the sum of the weights
unfoldable pub weight : {A : Type 0} → (A → ℕ) → List A → ℕ
weight w [] = 0
weight w (a ∷ xs) = w a + weight w xs

without_weight : {A : Type 0} (w : A → ℕ) {a : A} {xs : List A} (h : In a xs) → weight w xs ≡ w a + weight w (without h)
unfolding without weight
without_weight w here = refl
without_weight w (there h) = let q = without_weight w h in omega arith

-- a list without repetition inside another weighs no more, and is no longer
pub once_weight : {A : Type 0} (w : A → ℕ) (xs ys : List A) → Once xs → ((x : A) → In x xs → In x ys) → weight w xs ≤ weight w ys
unfolding weight
once_weight w [] ys o h = omega arith
once_weight w (x ∷ xs) ys (once_cons n o) h =
    let m = h x here in
    let more = once_weight w xs (without m) o (λ z k. without_has m (λ e. n (rw e at k)) (h z (there k))) in
    let q = without_weight w m in
    omega arith

pub once_length : {A : Type 0} (xs ys : List A) → Once xs → ((x : A) → In x xs → In x ys) → length xs ≤ length ys
once_length [] ys o h = omega arith
once_length (x ∷ xs) ys (once_cons n o) h =
    let m = h x here in
    let more = once_length xs (without m) o (λ z k. without_has m (λ e. n (rw e at k)) (h z (there k))) in
    let q = without_length m in
    omega arith

pub weight_append : {A : Type 0} (w : A → ℕ) (xs ys : List A) → weight w (xs ++ ys) ≡ weight w xs + weight w ys
unfolding weight
weight_append w [] ys = sym (zero-add (weight w ys))
weight_append w (x ∷ xs) ys = let q = weight_append w xs ys in omega arith

pub weight_map : {A B : Type 0} (w : B → ℕ) (g : A → B) (k : ℕ) (xs : List A) → ((a : A) → w (g a) ≡ k) → weight w (map g xs) ≡ length xs * k
unfolding weight
weight_map w g k [] h = sym (zero-mul k)
weight_map w g k (a ∷ xs) h = ap₂ {C = ℕ} (λ p q. p + q) (h a) (weight_map w g k xs h) ∙ add_comm k (length xs * k) ∙ sym (suc-mul (length xs) k)

pub weight_suc : {A : Type 0} (w : A → ℕ) (xs : List A) → weight (λ a. suc (w a)) xs ≡ length xs + weight w xs
unfolding weight
weight_suc w [] = refl
weight_suc w (a ∷ xs) = let q = weight_suc w xs in omega arith

-- what a function makes of each element, one behind the other
unfoldable pub over : {A B : Type 0} → List A → (A → List B) → List B
over [] g = []
over (a ∷ xs) g = g a ++ over xs g

pub over_has : {A B : Type 0} (xs : List A) (g : A → List B) (a : A) (b : B) → In a xs → In b (g a) → In b (over xs g)
unfolding over
over_has [] g a b h k = absurd (in_nil h)
over_has (x ∷ xs) g a b here k = in_left (over xs g) k
over_has (x ∷ xs) g a b (there h) k = in_right (g x) (over_has xs g a b h k)

pub over_within : {A B : Type 0} (xs ys : List A) (g h : A → List B) → ((a : A) → In a xs → In a ys) → ((a : A) (b : B) → In b (g a) → In b (h a)) → (b : B) → In b (over xs g) → In b (over ys h)
unfolding over
over_within [] ys g h s t b k = absurd (in_nil k)
over_within (x ∷ xs) ys g h s t b k =
    ⊎_elim (λ (z : In b (g x)). over_has ys h x b (s x here) (t x b z)) (λ (z : In b (over xs g)). over_within xs ys g h (λ a m. s a (there m)) t b z) (in_append (g x) k)

pub over_length : {A B : Type 0} (xs : List A) (g : A → List B) (k : ℕ) → ((a : A) → length (g a) ≡ k) → length (over xs g) ≡ length xs * k
unfolding over
over_length [] g k h = sym (zero-mul k)
over_length (a ∷ xs) g k h =
    length-append (g a) (over xs g) ∙ ap₂ {C = ℕ} (λ p q. p + q) (h a) (over_length xs g k h) ∙ add_comm k (length xs * k) ∙ sym (suc-mul (length xs) k)

pub map_within : {A B : Type 0} (g : A → B) (xs ys : List A) → ((a : A) → In a xs → In a ys) → (b : B) → In b (map g xs) → In b (map g ys)
map_within g xs ys s b k = let t = in_map_inv g xs k in rw t.2 (in_map g (s t.0 t.1))

pub append_within : {A : Type 0} (xs ys us vs : List A) → ((a : A) → In a xs → In a us) → ((a : A) → In a ys → In a vs) → (a : A) → In a (xs ++ ys) → In a (us ++ vs)
append_within xs ys us vs s t a k = ⊎_elim (λ (z : In a xs). in_left vs (s a z)) (λ (z : In a ys). in_right us (t a z)) (in_append xs k)

-- a filter keeps what passes
pub kept_has : {A : Type 0} (t : A → Bool) (a : A) (xs : List A) → In a xs → t a ≡ true → In a (filter t xs)
kept_has t a [] h e = absurd (in_nil h)
kept_has t a (x ∷ xs) here e = rw e here
kept_has t a (x ∷ xs) (there h) e = go (t x) (kept_has t a xs h e)
  where
    go : (b : Bool) → In a (filter t xs) → In a (cond b (x ∷ filter t xs) (filter t xs))
    go true k = there k
    go false k = k

pub kept_only : {A : Type 0} (t : A → Bool) (a : A) (xs : List A) → In a (filter t xs) → In a xs × (t a ≡ true)
kept_only t a [] h = absurd (in_nil h)
kept_only t a (x ∷ xs) h = go (t x) refl h (λ k. kept_only t a xs k)
  where
    go : (b : Bool) → t x ≡ b → In a (cond b (x ∷ filter t xs) (filter t xs)) → (In a (filter t xs) → In a xs × (t a ≡ true)) → In a (x ∷ xs) × (t a ≡ true)
    go false q h more = let r = more h in (there r.0, r.1)
    go true q h more = ⊎_elim (λ (e : a ≡ x). (in_head xs e, ap t e ∙ q)) (λ (k : In a (filter t xs)). let r = more k in (there r.0, r.1)) (in_cons h)

-- `different` keeps the same numbers
pub different_has : (n : ℕ) (ns : List ℕ) → In n ns → In n (different ns)
unfolding different
different_has n [] h = h
different_has n (m ∷ ns) h = go (any (λ k. eqb m k) ns) refl (in_cons h) (λ k. different_has n ns k)
  where
    go : (b : Bool) → any (λ k. eqb m k) ns ≡ b → (n ≡ m) ⊎ In n ns → (In n ns → In n (different ns)) → In n (cond b (different ns) (m ∷ different ns))
    go true q (inl e) more = let t = any_in (λ k. eqb m k) ns q in more (rw (e, eqb-true m t.0 t.2) t.1)
    go true q (inr k) more = more k
    go false q (inl e) more = in_head (different ns) e
    go false q (inr k) more = there (more k)

pub different_only : (n : ℕ) (ns : List ℕ) → In n (different ns) → In n ns
unfolding different
different_only n [] h = h
different_only n (m ∷ ns) h = go (any (λ k. eqb m k) ns) h (λ k. different_only n ns k)
  where
    go : (b : Bool) → In n (cond b (different ns) (m ∷ different ns)) → (In n (different ns) → In n ns) → In n (m ∷ ns)
    go true h more = there (more h)
    go false h more = ⊎_elim (λ (e : n ≡ m). in_head ns e) (λ (k : In n (different ns)). there (more k)) (in_cons h)

-- the numbers from a on, so many
unfoldable pub span : (a count : ℕ) → List ℕ
span a zero = []
span a (suc k) = a ∷ span (suc a) k

pub span_has : (a k n : ℕ) → a ≤ n → n < a + k → In n (span a k)
unfolding span
span_has a zero n l m = absurd (omega arith)
span_has a (suc k) n l m = go (cases_eq n a) (λ p q. span_has (suc a) k n p q)
  where
    go : (n ≡ a) ⊎ (n ≡ a → ⊥) → (suc a ≤ n → n < suc a + k → In n (span (suc a) k)) → In n (a ∷ span (suc a) k)
    go (inl e) more = in_head (span (suc a) k) e
    go (inr ne) more = there (more (omega arith) (omega arith))

pub span_length : (a k : ℕ) → length (span a k) ≡ k
unfolding span
span_length a zero = refl
span_length a (suc k) = ap suc (span_length (suc a) k)

-- a number for each element of a list
pub choice : (xs : List ℕ) (P : ℕ → ℕ → Type 0) → ((x : ℕ) → In x xs → (m : ℕ) × P x m) → (o : ℕ → ℕ) × ((x : ℕ) → In x xs → P x (o x))
choice xs P h = ((λ x. go x (decide_number x xs)), λ x m. is x (decide_number x xs) m)
  where
    go : (x : ℕ) → In x xs ⊎ (In x xs → ⊥) → ℕ
    go x (inl p) = (h x p).0
    go x (inr n) = 0

    is : (x : ℕ) (d : In x xs ⊎ (In x xs → ⊥)) → In x xs → P x (go x d)
    is x (inl p) m = (h x p).1
    is x (inr n) m = absurd (n m)
