-- Dependencies that are judged one after the other: what is left without one of them, and the flags of those that stay.
use Rattle.std.proofs.Common.{◌≡◌, ℕ, suc, ◌+◌, ◌<◌, ◌≤◌, Bool, true, false, List, [], ◌∷◌, ◌++◌, map, length, get_or, take, drop, Ok, Err, Result, sym, refl, ap, ◌∙◌, subst, arith}
use Rattle.std.specs.List.{remove}
use Rattle.std.proofs.lemmas.List.Edits.{length-remove}
use Rattle.std.proofs.lemmas.List.{append_assoc, append-nil, length-take-le, take_at, drop_at, take_more, drop_more, drop_all, get_or-map}
use Rattle.relational.specs.Instances.{Within, Dependency}
use Rattle.relational.proofs.Members.{in_at, in_within, within_refl, within_trans}
use Rattle.redundancy.proofs.Cores.{removed_within}
use Rattle.redundancy.specs.Tgds.{is_tgd, OnlyTgds}
use Rattle.redundancy.specs.Implications.{implication}
use Rattle.redundancy.specs.Reductions.{flagged, next_flagged, reduction_from}

-- THE LOOP
-- flags in front of others
abbrev pub flags_ahead : List Bool → Result (List Bool) (ℕ × ℕ) → Result (List Bool) (ℕ × ℕ)
flags_ahead flags (Ok more) = Ok (flags ++ more)
flags_ahead flags (Err e) = Err e

flags_none : (r : Result (List Bool) (ℕ × ℕ)) → flags_ahead [] r ≡ r
flags_none (Ok more) = refl
flags_none (Err e) = refl

flags_one_more : (flags : List Bool) (b : Bool) (r : Result (List Bool) (ℕ × ℕ)) → flags_ahead (flags ++ b ∷ []) r ≡ flags_ahead flags (flagged b r)
flags_one_more flags b (Ok more) = ap {B = Result (List Bool) (ℕ × ℕ)} Ok (append_assoc flags (b ∷ []) more)
flags_one_more flags b (Err e) = refl

-- the tgds before place i have been judged: those that stay are the first `at` of those that are left, and behind them are those still to be judged
pub record JudgedSoFar (c : ℕ) (ds left : List Dependency) (at i : ℕ) (stays : List Bool) : Type 0 where
  pub few : at ≤ i
  pub count : length left + i ≡ at + length ds
  pub rest : drop at left ≡ drop i ds
  pub within : Within left ds
  pub flags : flags_ahead stays (reduction_from c (take at left) (drop i ds)) ≡ reduction_from c [] ds

pub judging_begins : (c : ℕ) (ds : List Dependency) → JudgedSoFar c ds ds 0 0 []
judging_begins c ds = record {
  few = omega arith;
  count = omega arith;
  rest = refl;
  within = within_refl ds;
  flags = flags_none (reduction_from c [] ds);
}

module _ (c : ℕ) (ds left : List Dependency) (at i : ℕ) (stays : List Bool) (h : JudgedSoFar c ds left at i stays) (inside : i < length ds) (d asked : Dependency) (is : get_or ds i d ≡ asked) where
  rest_ahead : drop i ds ≡ asked ∷ drop (i + 1) ds
  rest_ahead = drop_more ds i d inside ∙ ap (λ (t : Dependency). t ∷ drop (i + 1) ds) is

  at_inside : at < length left
  at_inside = omega (arith, h.count)

  there : get_or left at d ∷ drop (at + 1) left ≡ asked ∷ drop (i + 1) ds
  there = sym (drop_more left at d at_inside) ∙ h.rest ∙ rest_ahead

  its_place : get_or left at d ≡ asked
  its_place = let e = there in cc

  behind_it : drop (at + 1) left ≡ drop (i + 1) ds
  behind_it = let e = there in cc

  others_behind : drop (suc at) left ≡ drop (i + 1) ds
  others_behind = let s : suc at ≡ at + 1 = omega arith in ap (λ (k : ℕ). drop k left) s ∙ behind_it

  next_flags : (r : Result Bool (ℕ × ℕ)) → r ≡ implication c (remove left at) asked →
      flags_ahead stays (next_flagged r (reduction_from c (take at left) (drop (i + 1) ds)) (reduction_from c (take at left ++ asked ∷ []) (drop (i + 1) ds))) ≡ reduction_from c [] ds
  unfolding reduction_from
  next_flags r e =
      ap (λ (q : Result Bool (ℕ × ℕ)). flags_ahead stays (next_flagged q (reduction_from c (take at left) (drop (i + 1) ds)) (reduction_from c (take at left ++ asked ∷ []) (drop (i + 1) ds))))
      (e ∙ ap (λ (es : List Dependency). implication c (take at left ++ es) asked) others_behind)
      ∙ ap (λ (es : List Dependency). flags_ahead stays (reduction_from c (take at left) es)) (sym rest_ahead)
      ∙ h.flags

  pub one_goes : (others : List Dependency) → others ≡ remove left at → Ok true ≡ implication c (remove left at) asked → JudgedSoFar c ds others at (i + 1) (stays ++ false ∷ [])
  one_goes others w e =
      let n = length-remove left at at_inside in
      let t = length-take-le at left (omega (arith, at_inside)) in
      let front : take at others ≡ take at left = ap (take at) w ∙ take_at (take at left) (drop (suc at) left) at t in
      record {
        few = omega (arith, h.few);
        count = omega (arith, n, h.count, ap length w);
        rest = ap (drop at) w ∙ drop_at (take at left) (drop (suc at) left) at t ∙ others_behind;
        within = subst (λ (es : List Dependency). Within es ds) (sym w) (within_trans (remove left at) left ds (removed_within left at) h.within);
        flags =
            ap (λ (es : List Dependency). flags_ahead (stays ++ false ∷ []) (reduction_from c es (drop (i + 1) ds))) front
            ∙ flags_one_more stays false (reduction_from c (take at left) (drop (i + 1) ds))
            ∙ next_flags (Ok true) e;
      }

  pub one_stays : Ok false ≡ implication c (remove left at) asked → JudgedSoFar c ds left (at + 1) (i + 1) (stays ++ true ∷ [])
  one_stays e = record {
    few = omega (arith, h.few);
    count = omega (arith, h.count);
    rest = behind_it;
    within = h.within;
    flags =
        ap (λ (es : List Dependency). flags_ahead (stays ++ true ∷ []) (reduction_from c es (drop (i + 1) ds)))
        (take_more left at d at_inside ∙ ap (λ (t : Dependency). take at left ++ t ∷ []) its_place)
        ∙ flags_one_more stays true (reduction_from c (take at left ++ asked ∷ []) (drop (i + 1) ds))
        ∙ next_flags (Ok false) e;
  }

  pub one_refused : (x : ℕ × ℕ) → Err x ≡ implication c (remove left at) asked → Err x ≡ reduction_from c [] ds
  one_refused x e = next_flags (Err x) e

pub judging_ends : (c : ℕ) (ds left : List Dependency) (at i : ℕ) (stays : List Bool) → JudgedSoFar c ds left at i stays → length ds ≤ i → Ok stays ≡ reduction_from c [] ds
unfolding reduction_from
judging_ends c ds left at i stays h l =
    ap {B = Result (List Bool) (ℕ × ℕ)} Ok (sym (append-nil stays))
    ∙ ap (λ (es : List Dependency). flags_ahead stays (reduction_from c (take at left) es)) (sym (drop_all i ds l))
    ∙ h.flags

-- they are tgds, as all are
only_within : (es ds : List Dependency) → Within es ds → OnlyTgds ds → OnlyTgds es
unfolding OnlyTgds
only_within es ds w o = λ d i. o d (in_within es ds w d i)

pub others_tgds : (c : ℕ) (ds left : List Dependency) (at i : ℕ) (stays : List Bool) (es : List Dependency) → JudgedSoFar c ds left at i stays → OnlyTgds ds → es ≡ remove left at → OnlyTgds es
others_tgds c ds left at i stays es h o e = subst OnlyTgds (sym e) (only_within (remove left at) ds (within_trans (remove left at) left ds (removed_within left at) h.within) o)

pub tgd_at : (ds : List Dependency) (i : ℕ) (d asked : Dependency) → OnlyTgds ds → i < length ds → get_or ds i d ≡ asked → is_tgd asked ≡ true
unfolding OnlyTgds
tgd_at ds i d asked o l e = subst (λ (t : Dependency). is_tgd t ≡ true) e (o (get_or ds i d) (in_at ds i d l))

-- AS THEY LIE IN MEMORY
pub item_at : {A B : Type 0} (f : A → B) (xs : List A) (i : ℕ) (x : A) → i < length xs → x ≡ get_or xs i x → get_or (map f xs) i (f x) ≡ f x
item_at f xs i x l e = get_or-map f xs i x (f x) l ∙ ap f (sym e)
