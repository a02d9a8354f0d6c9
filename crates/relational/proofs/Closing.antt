-- Elements of fixed memory that close up behind one that is taken out.
use Rattle.std.proofs.Common.{◌≡◌, ℕ, ◌-◌, ◌<◌, ◌≤◌, List, ◌++◌, length, take, drop, sym, ap, ◌∙◌, ap₂, add-one, arith}
use borrow.Rule.Slice.PartMut.{put_mid}
use Rattle.std.specs.List.{remove}
use Rattle.std.proofs.lemmas.List.{append_assoc, take-take, take_at, drop-drop, length-take-le, length-take, length-drop, length-append}
use Rattle.std.proofs.lemmas.Slice.{between_is}

-- what went behind the others is taken out from among them
pub closed_up : {A : Type 0} (xs : List A) (i count : ℕ) (last : List A) → i < count → count ≤ length xs → last ≡ drop 1 (take (count - i) (drop i xs)) ++ take 1 (take (count - i) (drop i xs)) →
    take (count - 1) (put_mid i (count - i) xs last) ≡ remove (take count xs) i
closed_up {A} xs i count last l m e =
    let part = take (count - i) (drop i xs) in
    let post = drop (count - i) (drop i xs) in
    let long : length (take i xs ++ drop 1 part) ≡ count - 1 =
    omega (arith, length-append (take i xs) (drop 1 part), length-take-le i xs (omega arith), length-drop 1 part, length-take (count - i) (drop i xs), length-drop i xs) in
    ap (λ (ys : List A). take (count - 1) (take i xs ++ (ys ++ post))) e
    ∙ ap (λ (ys : List A). take (count - 1) (take i xs ++ ys)) (append_assoc (drop 1 part) (take 1 part) post)
    ∙ ap (take (count - 1)) (sym (append_assoc (take i xs) (drop 1 part) (take 1 part ++ post)))
    ∙ take_at (take i xs ++ drop 1 part) (take 1 part ++ post) (count - 1) long
    ∙ ap₂ {C = List A} (λ (ys zs : List A). ys ++ zs) (sym (take-take i count xs (omega arith))) (ap (drop 1) (between_is xs i count) ∙ drop-drop 1 i (take count xs) ∙ ap (λ (j : ℕ). drop j (take count xs)) (add-one i))
