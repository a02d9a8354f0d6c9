-- The first fault of a text. Assumes nothing.
use Rattle.std.proofs.Common.{◌≡◌, ℕ, ◌+◌, ◌-◌, ◌*◌, ◌^◌, Bool, true, false, cond, eqb, ltb, List, [], ◌∷◌, ◌++◌, Ok, Err, Result, sym, refl, ap, ◌∙◌, arith}
use Rattle.std.specs.Char.{is_ascii_digit}
use Rattle.numbers.specs.Meaning.{line_ends, FirstFault}
use Rattle.numbers.specs.Reading.{blank, after_number, after, closed, before, ends_after, read_from}
use Rattle.numbers.specs.declared.inside.Inside.{Inside}
use Rattle.numbers.specs.declared.inside.Inside.TheVariants.{Nothing, Number, Comment}
use Rattle.numbers.specs.declared.refusal.Fault.{Fault}
use Rattle.numbers.specs.declared.refusal.Fault.TheVariants.{TooLarge, Character}
use Rattle.numbers.specs.declared.refusal.Refusal.{Refusal}
use Rattle.numbers.proofs.Saying.{one_on, read_said}
use Rattle.numbers.proofs.Sound.{step_err, sound}

-- a character before which the text is read, and with which none is
record FaultAt (ended : ℕ) (inside : Inside) (text : List ℕ) (f : Refusal) : Type 0 where
  pub front : List ℕ
  pub character : ℕ
  pub back : List ℕ
  pub splits : text ≡ front ++ character ∷ back
  pub readable : (ns : List ℕ) × (read_from ended inside front ≡ Ok ns)
  pub faulty : (rest : List ℕ) → read_from ended inside (front ++ character ∷ rest) ≡ Err f
  pub in_line : f.line ≡ ended + line_ends front + 1
  pub kind : f.fault ≡ cond (is_ascii_digit character) TooLarge Character

never : {A : Type 0} (x : A) (f : Fault) → ◌≡◌ {A = Result A Fault} (Ok x) (Err f) → ⊥
never x f e = cc

same_fault : {A : Type 0} (f g : Fault) → ◌≡◌ {A = Result A Fault} (Err f) (Err g) → g ≡ f
same_fault f g e = cc

number_kind : (n c : ℕ) (f : Fault) → after_number n c ≡ Err f → f ≡ cond (is_ascii_digit c) TooLarge Character
number_kind n c f e = go (is_ascii_digit c) (ltb (n * 10 + (c - 48)) (2 ^ 32)) (blank c) (eqb c 35) e
  where
    go : (d l b h : Bool) → cond d (cond l (Ok (Number (n * 10 + (c - 48)))) (Err TooLarge)) (cond b (Ok Nothing) (cond h (Ok Comment) (Err Character))) ≡ Err f → f ≡ cond d TooLarge Character
    go true true b h e = absurd (never (Number (n * 10 + (c - 48))) f e)
    go true false b h e = same_fault {A = Inside} TooLarge f e
    go false l true h e = absurd (never Nothing f e)
    go false l false true e = absurd (never Comment f e)
    go false l false false e = same_fault {A = Inside} Character f e

kind_of : (inside : Inside) (c : ℕ) (f : Fault) → after inside c ≡ Err f → f ≡ cond (is_ascii_digit c) TooLarge Character
kind_of Nothing c f e = number_kind 0 c f e
kind_of (Number n) c f e = number_kind n c f e
kind_of Comment c f e = absurd (never (cond (eqb c 10) Nothing Comment) f e)

before_err : (ns : List ℕ) (r : Result (List ℕ) Refusal) (f : Refusal) → before ns r ≡ Err f → r ≡ Err f
before_err ns (Ok ms) f e = absurd (cc)
before_err ns (Err g) f e = e

ends_more : (ended c : ℕ) (front : List ℕ) → ends_after ended c + line_ends front + 1 ≡ ended + line_ends (c ∷ front) + 1
ends_more ended c front = go (eqb c 10)
  where
    go : (b : Bool) → cond b (ended + 1) ended + line_ends front + 1 ≡ ended + (cond b 1 0 + line_ends front) + 1
    go true = omega arith
    go false = omega arith

fault_found : (text : List ℕ) (ended : ℕ) (inside : Inside) (f : Refusal) → read_from ended inside text ≡ Err f → FaultAt ended inside text f
unfolding read_from
fault_found [] ended inside f e = absurd (cc)
fault_found (c ∷ text) ended inside f e = go (after inside c) refl (λ next r. fault_found text (ends_after ended c) next f r)
  where
    go : (r : Result Inside Fault) → after inside c ≡ r → ((next : Inside) → read_from (ends_after ended c) next text ≡ Err f → FaultAt (ends_after ended c) next text f) → FaultAt ended inside (c ∷ text) f
    go (Err g) is more =
        let told : ◌≡◌ {A = Result (List ℕ) Refusal} (Err (record { fault = g; line = ended + 1 })) (Err f) = sym (step_err ended inside g c text is) ∙ e in
        let same : f ≡ record { fault = g; line = ended + 1 } = cc in
        record {
          front = [];
          character = c;
          back = text;
          splits = refl;
          readable = (closed inside Nothing, refl);
          faulty = λ rest. step_err ended inside g c rest is ∙ told;
          in_line = ap (λ (x : Refusal). x.line) same ∙ (omega arith);
          kind = ap (λ (x : Refusal). x.fault) same ∙ kind_of inside c g is;
        }
    go (Ok next) is more =
        let on = more next (before_err (closed inside next) (read_from (ends_after ended c) next text) f (sym (one_on ended inside next c text is) ∙ e)) in
        record {
          front = c ∷ on.front;
          character = on.character;
          back = on.back;
          splits = ap (λ l. c ∷ l) on.splits;
          readable = (closed inside next ++ on.readable.0, one_on ended inside next c on.front is ∙ ap (before (closed inside next)) on.readable.1);
          faulty = λ rest. one_on ended inside next c (on.front ++ on.character ∷ rest) is ∙ ap (before (closed inside next)) (on.faulty rest);
          in_line = on.in_line ∙ ends_more ended c on.front;
          kind = on.kind;
        }

-- a text that is refused has its first fault where the refusal says
pub first_fault : (text : List ℕ) (f : Refusal) → read_from 0 Nothing text ≡ Err f → FirstFault text f
first_fault text f e =
    let at = fault_found text 0 Nothing f e in
    record {
      front = at.front;
      character = at.character;
      back = at.back;
      splits = at.splits;
      readable = (at.readable.0, sound at.front 0 Nothing at.readable.0 at.readable.1);
      faulty = λ rest ns says.
          let read = read_said (at.front ++ at.character ∷ rest) ns says 0 in
          let refused = at.faulty rest in
          cc;
      in_line = omega (arith, at.in_line);
      kind = at.kind;
    }
