-- Pieces in front of others: together they have what both have, and each side says what it said of what it has.
use Rattle.std.proofs.Common.{◌≡◌, ℕ, ◌+◌, ◌≤◌, List, [], ◌∷◌, ◌++◌, Option, Some, None, ℤ, pos, negsuc, refl, ap, sym, ◌∙◌, arith}
use Rattle.fsl_meaning.specs.Heaps.{Key as key, Agrees}
use Rattle.fsl_own.specs.Owning.{Resource, Resource as resource, Known}
use Rattle.fsl_own.specs.Atoms.{Atom}
use Rattle.fsl_good.specs.Pieces.{Level, AtPlain, AtUp, AtDown, Piece, demand_at, AllSay, IsPossible}
use Rattle.fsl_good.proofs.Pieces.{demand_more}
use Rattle.fsl_held.specs.Heaps.{heap_of, or_this, value_by, value_in, out_by, out_in, count_by, count_in, tokens_at, bank_in, truth_of, Kept}
use Rattle.fsl_held.specs.Laws.{FrontIsKept}
use Rattle.fsl_held.proofs.Heaps.{heap_more, knows_front, knows_behind, first, value_first, out_first, count_first, first_front, first_behind, Speaks, first_there, first_none, out_speaks, count_speaks, no_share, value_said}

-- ---- what is said once

-- who has a resource that one piece alone has says the same in front of others
once_front : {X : Type 0} (f : Atom → Option X) (r : Resource) (z : X) → Speaks f r → (xs ys : List Piece) → 1 ≤ demand_at AtPlain xs r → or_this (first f (xs ++ ys)) z ≡ or_this (first f xs) z
once_front f r z s xs ys h =
    let t = first_there f r s AtPlain xs h in
    ap (λ o. or_this o z) (first_front f xs ys t.0 t.1) ∙ sym (ap (λ o. or_this o z) t.1)

none_of : (a b c d e f : ℕ) → (a + d) + ((b + e) + (c + f)) ≤ 1 → 1 ≤ d → (a ≡ 0) × (b ≡ 0) × (c ≡ 0)
none_of a b c d e f h i = (omega arith, omega arith, omega arith)

-- those in front have none of it
none_before : (xs ys : List Piece) (r : Resource) → demand_at AtPlain (xs ++ ys) r + (demand_at AtUp (xs ++ ys) r + demand_at AtDown (xs ++ ys) r) ≤ 1 → 1 ≤ demand_at AtPlain ys r
    → (a : Level) → demand_at a xs r ≡ 0
none_before xs ys r h i =
    let p = demand_more AtPlain xs ys r in
    let u = demand_more AtUp xs ys r in
    let d = demand_more AtDown xs ys r in
    let l : (demand_at AtPlain xs r + demand_at AtPlain ys r) + ((demand_at AtUp xs r + demand_at AtUp ys r) + (demand_at AtDown xs r + demand_at AtDown ys r)) ≤ 1 = omega arith in
    each (none_of (demand_at AtPlain xs r) (demand_at AtUp xs r) (demand_at AtDown xs r) (demand_at AtPlain ys r) (demand_at AtUp ys r) (demand_at AtDown ys r) l i)
  where
    each : (demand_at AtPlain xs r ≡ 0) × (demand_at AtUp xs r ≡ 0) × (demand_at AtDown xs r ≡ 0) → (a : Level) → demand_at a xs r ≡ 0
    each t AtPlain = t.0
    each t AtUp = t.1
    each t AtDown = t.2

-- nor do they say anything of it
once_behind : {X : Type 0} (f : Atom → Option X) (r : Resource) → Speaks f r → (xs ys : List Piece)
    → demand_at AtPlain (xs ++ ys) r + (demand_at AtUp (xs ++ ys) r + demand_at AtDown (xs ++ ys) r) ≤ 1 → 1 ≤ demand_at AtPlain ys r → first f (xs ++ ys) ≡ first f ys
once_behind f r s xs ys h i = first_behind f xs ys (first_none f r s xs (none_before xs ys r h i))

-- ---- what those in front say

value_front : (xs ys : List Piece) (l x : ℤ) → value_in xs l ≡ Some x → value_in (xs ++ ys) l ≡ Some x
value_front xs ys l x e = value_first l (xs ++ ys) ∙ first_front (λ y. value_by y l) xs ys x (sym (value_first l xs) ∙ e)

out_front : (xs ys : List Piece) (l : ℤ) (part : ℕ) → 1 ≤ demand_at AtPlain xs (resource.Permission l part) → or_this (out_in (xs ++ ys) l part) [] ≡ or_this (out_in xs l part) []
out_front xs ys l part h =
    ap (λ (o : Option (List ℤ)). or_this o []) (out_first l part (xs ++ ys))
    ∙ once_front (λ y. out_by y l part) (resource.Permission l part) [] (out_speaks l part) xs ys h
    ∙ sym (ap (λ (o : Option (List ℤ)). or_this o []) (out_first l part xs))

-- where the authority is here, the tokens don't matter
this_count : (o p : Option ℕ) (n m : ℕ) (t : ℕ) → p ≡ Some t → o ≡ p → or_this o n ≡ or_this p m
this_count o p n m t e d = ap (λ z. or_this z n) (d ∙ e) ∙ sym (ap (λ z. or_this z m) e)

bank_front : (xs ys : List Piece) (b : ℤ) → 1 ≤ heap_of xs (key.Bank b) → bank_in (xs ++ ys) b ≡ bank_in xs b
bank_front xs ys (pos b) h =
    let t = first_there (λ y. count_by y b) (resource.Bank b) (count_speaks b) AtPlain xs h in
    let here : count_in xs b ≡ Some t.0 = count_first b xs ∙ t.1 in
    let there : count_in (xs ++ ys) b ≡ Some t.0 = count_first b (xs ++ ys) ∙ first_front (λ y. count_by y b) xs ys t.0 t.1 in
    ap pos (this_count (count_in (xs ++ ys) b) (count_in xs b) (tokens_at (xs ++ ys) (pos b)) (tokens_at xs (pos b)) t.0 here (there ∙ sym here))
bank_front xs ys (negsuc b) h = absurd (no_share h)

front_agrees : (xs ys : List Piece) → Agrees (truth_of xs) (truth_of (xs ++ ys)) (heap_of xs)
front_agrees xs ys = record {
  value = λ r l x h e. value_front xs ys l x e;
  out = λ l part h. out_front xs ys l part h;
  bank = bank_front xs ys;
}

-- in front of others, pieces say what they said
pub front_kept : (xs ys : List Piece) → Kept xs (heap_of xs) (xs ++ ys)
front_kept xs ys = record { knows = record { more = λ c n k. knows_front xs ys c k }; agrees = front_agrees xs ys }

-- ---- what those behind say

say_behind : (k : Known) (xs ys : List Piece) → AllSay k (xs ++ ys) → AllSay k ys
say_behind k [] ys s = s
say_behind k (x ∷ xs) ys s = say_behind k xs ys s.1

-- what is said of a value is the same on both sides
value_behind : (k : Known) (xs ys : List Piece) (l x : ℤ) → AllSay k (xs ++ ys) → value_in ys l ≡ Some x → value_in (xs ++ ys) l ≡ Some x
value_behind k xs ys l x s e = by_case (value_in xs l) refl
  where
    by_case : (o : Option ℤ) → value_in xs l ≡ o → value_in (xs ++ ys) l ≡ Some x
    by_case None d = value_first l (xs ++ ys) ∙ first_behind (λ y. value_by y l) xs ys (sym (value_first l xs) ∙ d) ∙ sym (value_first l ys) ∙ e
    by_case (Some w) d =
        let both = value_front xs ys l w d in
        let one : k.values l ≡ Some w = value_said k l w (xs ++ ys) s both in
        let other : k.values l ≡ Some x = value_said k l x ys (say_behind k xs ys s) e in
        both ∙ sym one ∙ other

out_behind : (xs ys : List Piece) (l : ℤ) (part : ℕ) → IsPossible (xs ++ ys) → 1 ≤ demand_at AtPlain ys (resource.Permission l part)
    → or_this (out_in (xs ++ ys) l part) [] ≡ or_this (out_in ys l part) []
out_behind xs ys l part p h =
    ap (λ (o : Option (List ℤ)). or_this o [])
    (out_first l part (xs ++ ys) ∙ once_behind (λ y. out_by y l part) (resource.Permission l part) (out_speaks l part) xs ys (p.within (resource.Permission l part)) h ∙ sym (out_first l part ys))

bank_behind : (xs ys : List Piece) (b : ℤ) → IsPossible (xs ++ ys) → 1 ≤ heap_of ys (key.Bank b) → bank_in (xs ++ ys) b ≡ bank_in ys b
bank_behind xs ys (pos b) p h =
    let t = first_there (λ y. count_by y b) (resource.Bank b) (count_speaks b) AtPlain ys h in
    let here : count_in ys b ≡ Some t.0 = count_first b ys ∙ t.1 in
    let same : count_in (xs ++ ys) b ≡ count_in ys b =
    count_first b (xs ++ ys) ∙ once_behind (λ y. count_by y b) (resource.Bank b) (count_speaks b) xs ys (p.within (resource.Bank b)) h ∙ sym (count_first b ys) in
    ap pos (this_count (count_in (xs ++ ys) b) (count_in ys b) (tokens_at (xs ++ ys) (pos b)) (tokens_at ys (pos b)) t.0 here same)
bank_behind xs ys (negsuc b) p h = absurd (no_share h)

behind_agrees : (xs ys : List Piece) → IsPossible (xs ++ ys) → Agrees (truth_of ys) (truth_of (xs ++ ys)) (heap_of ys)
behind_agrees xs ys p = record {
  value = λ r l x h e. value_behind p.known xs ys l x p.agree e;
  out = λ l part h. out_behind xs ys l part p h;
  bank = λ b h. bank_behind xs ys b p h;
}

-- behind others, pieces say what they said
pub behind_kept : (xs ys : List Piece) → IsPossible (xs ++ ys) → Kept ys (heap_of ys) (xs ++ ys)
behind_kept xs ys p = record { knows = record { more = λ c n k. knows_behind xs ys c k }; agrees = behind_agrees xs ys p }

pub possible_behind : (xs ys : List Piece) → IsPossible (xs ++ ys) → IsPossible ys
possible_behind xs ys p = record {
  known = p.known;
  within = λ r.
      let h = p.within r in
      let a = demand_more AtPlain xs ys r in
      let b = demand_more AtUp xs ys r in
      let c = demand_more AtDown xs ys r in
      omega arith;
  agree = say_behind p.known xs ys p.agree;
}

pub front_is_kept : FrontIsKept
front_is_kept ys xs p = record { sum = heap_more ys xs; front = front_kept ys xs; behind = behind_kept ys xs p; possible = possible_behind ys xs p }
