-- The atoms of a message are shared out: some go on, some join shares of the thread, and the others are kept. What is known
-- of the message is known on each side that asks for it.
use Rattle.std.proofs.Common.{◌≡◌, ℕ, ◌+◌, ◌≤◌, ◌&&◌, Bool, true, false, if◌then◌else◌, List, [], ◌∷◌, ◌++◌, Option, Some, None, ℤ, refl, sym, ap, subst, ◌∙◌, arith}
use Rattle.std.specs.Ordering.{int_eq}
use Rattle.std.proofs.lemmas.Bool.{and_parts, and_from}
use Rattle.fsl_core.specs.declared.mode.Rung.{Rung}
use Rattle.fsl_core.specs.declared.mode.Rung.TheVariants.{Plain, Up, Down, Msg}
use Rattle.fsl_meaning.specs.Heaps.{Key, Key as key, Heap, Claim, Claim as claim, Knows}
use Rattle.fsl_kept.specs.Changes.{lifted}
use Rattle.fsl_own.specs.Owning.{Resource, Cell, Known}
use Rattle.fsl_own.specs.Atoms.{Atom, Points, Init, Rel, Acq, RmwAcq, Tok, Auth, asked, demand, AreRight}
use Rattle.fsl_graph.specs.declared.graph.Graph.{Graph}
use Rattle.fsl_graph.specs.Positions.{Holder}
use Rattle.fsl_good.specs.Pieces.{Level, AtPlain, AtUp, AtDown, Piece, placed, level_at, all_placed, demand_at, Entails, Yields, IsPossible}
use Rattle.fsl_good.specs.Good.{AllShares}
use Rattle.fsl_good.proofs.Pieces.{placed_cells}
use Rattle.fsl_held.specs.Heaps.{heap_of, ground_of, or_else, value_by, value_in, is_at, says, knows_in}
use Rattle.fsl_held.specs.Parts.{rung_of, HasCellsAt, atoms_of, Cut}
use Rattle.fsl_held.proofs.Given.{atoms_placed}
use Rattle.fsl_held.proofs.Filled.{in_all, in_all_least, atoms_demand}
use Rattle.fsl_held.proofs.Cutting.{heap_cut}
use Rattle.fsl_walk.proofs.Agreeing.{entails_then, entails_front}
use Rattle.fsl_walk.proofs.Yielding.{yields_self, yields_then, yields_both, yields_swap}

-- ---- shares alone

abbrev pub share_before : Atom → List Atom → List Atom
share_before (Points c n v) xs = Points c n v ∷ xs
share_before (Init l) xs = xs
share_before (Rel l i ys) xs = xs
share_before (Acq l i ys p o) xs = xs
share_before (RmwAcq l i ys) xs = xs
share_before (Tok b n) xs = xs
share_before (Auth b n) xs = xs

abbrev pub shares_of : List Atom → List Atom
shares_of [] = []
shares_of (x ∷ xs) = share_before x (shares_of xs)

all_shares : (xs : List Atom) → AllShares (shares_of xs)
all_shares [] = tt
all_shares (x ∷ xs) = one x (all_shares xs)
  where
    one : (x : Atom) → AllShares (shares_of xs) → AllShares (share_before x (shares_of xs))
    one (Points c n v) e = (c, n, v, refl, e)
    one (Init l) e = e
    one (Rel l i ys) e = e
    one (Acq l i ys p o) e = e
    one (RmwAcq l i ys) e = e
    one (Tok b n) e = e
    one (Auth b n) e = e

shares_cells : (xs : List Atom) (c : ℤ) → demand (shares_of xs) (Cell c) ≡ demand xs (Cell c)
shares_cells [] c = refl
shares_cells (x ∷ xs) c = one x (shares_cells xs c)
  where
    one : (x : Atom) → demand (shares_of xs) (Cell c) ≡ demand xs (Cell c) → demand (share_before x (shares_of xs)) (Cell c) ≡ asked x (Cell c) + demand xs (Cell c)
    one (Points d n v) e = omega (arith, e)
    one (Init l) e = omega (arith, e)
    one (Rel l i ys) e = omega (arith, e)
    one (Acq l i ys p o) e = omega (arith, e)
    one (RmwAcq l i ys) e = omega (arith, e)
    one (Tok b n) e = omega (arith, e)
    one (Auth b n) e = omega (arith, e)

shares_least : (xs : List Atom) (r : Resource) → demand (shares_of xs) r ≤ demand xs r
shares_least [] r = omega arith
shares_least (x ∷ xs) r = one x (shares_least xs r)
  where
    line_more : (a b c : ℕ) → a ≤ b → a ≤ c + b
    line_more a b c h = omega arith

    line_same : (a b c : ℕ) → a ≤ b → c + a ≤ c + b
    line_same a b c h = omega arith

    one : (x : Atom) → demand (shares_of xs) r ≤ demand xs r → demand (share_before x (shares_of xs)) r ≤ asked x r + demand xs r
    one (Points d n v) e = line_same (demand (shares_of xs) r) (demand xs r) (asked (Points d n v) r) e
    one (Init l) e = line_more (demand (shares_of xs) r) (demand xs r) (asked (Init l) r) e
    one (Rel l i ys) e = line_more (demand (shares_of xs) r) (demand xs r) (asked (Rel l i ys) r) e
    one (Acq l i ys p o) e = line_more (demand (shares_of xs) r) (demand xs r) (asked (Acq l i ys p o) r) e
    one (RmwAcq l i ys) e = line_more (demand (shares_of xs) r) (demand xs r) (asked (RmwAcq l i ys) r) e
    one (Tok b n) e = line_more (demand (shares_of xs) r) (demand xs r) (asked (Tok b n) r) e
    one (Auth b n) e = line_more (demand (shares_of xs) r) (demand xs r) (asked (Auth b n) r) e

shares_right : (g : Graph) (done : List ℕ) (k : Known) (h : Holder) (xs : List Atom) → AreRight g done k h xs → AreRight g done k h (shares_of xs)
shares_right g done k h [] p = tt
shares_right g done k h (Points c n v ∷ xs) p = (p.0, shares_right g done k h xs p.1)
shares_right g done k h (Init l ∷ xs) p = shares_right g done k h xs p.1
shares_right g done k h (Rel l i ys ∷ xs) p = shares_right g done k h xs p.1
shares_right g done k h (Acq l i ys q o ∷ xs) p = shares_right g done k h xs p.1
shares_right g done k h (RmwAcq l i ys ∷ xs) p = shares_right g done k h xs p.1
shares_right g done k h (Tok b n ∷ xs) p = shares_right g done k h xs p.1
shares_right g done k h (Auth b n ∷ xs) p = shares_right g done k h xs p.1

yields_shares : (xs : List Atom) → Yields xs (shares_of xs)
yields_shares xs = record { enough = shares_least xs; right = λ g done k h p. shares_right g done k h xs p }

shares_value : (a : Level) (xs : List Atom) (l : ℤ) → value_in (all_placed a (shares_of xs)) l ≡ value_in (all_placed a xs) l
shares_value a [] l = refl
shares_value a (Points c n v ∷ xs) l = ap (λ (o : Option ℤ). or_else (value_by (Points c n v) l) o) (shares_value a xs l)
shares_value a (Init c ∷ xs) l = shares_value a xs l
shares_value a (Rel c i ys ∷ xs) l = shares_value a xs l
shares_value a (Acq c i ys p o ∷ xs) l = shares_value a xs l
shares_value a (RmwAcq c i ys ∷ xs) l = shares_value a xs l
shares_value a (Tok b n ∷ xs) l = shares_value a xs l
shares_value a (Auth b n ∷ xs) l = shares_value a xs l

-- ---- atoms, wherever they are put

pub atoms_value : (a : Level) (xs : List Piece) (l : ℤ) → value_in (all_placed a (atoms_of xs)) l ≡ value_in xs l
atoms_value a [] l = refl
atoms_value a (x ∷ xs) l = ap (λ (o : Option ℤ). or_else (value_by x.atom l) o) (atoms_value a xs l)

none_says : {X : Type 0} → false ≡ true → X
none_says h = absurd (cc)

says_at : (a b : Level) (r q : Rung) (x : Atom) (l : ℤ) → is_at b q ≡ true → says a x (claim.IsInit r l) ≡ true → says (level_at b x) x (claim.IsInit q l) ≡ true
says_at a b r q (Init m) l e h = and_from (is_at b q) (int_eq m l) e (and_parts (is_at a r) (int_eq m l) h).1
says_at a b r q (Points m n v) l e h = none_says h
says_at a b r q (Rel m i ys) l e h = none_says h
says_at a b r q (Acq m i ys p o) l e h = none_says h
says_at a b r q (RmwAcq m i ys) l e h = none_says h
says_at a b r q (Tok m n) l e h = none_says h
says_at a b r q (Auth m n) l e h = none_says h

-- that a location was written is known where the atoms are put
pub knows_at : (b : Level) (r q : Rung) (xs : List Piece) (l : ℤ) → is_at b q ≡ true → knows_in xs (claim.IsInit r l) ≡ true → knows_in (all_placed b (atoms_of xs)) (claim.IsInit q l) ≡ true
knows_at b r q [] l e h = none_says h
knows_at b r q (x ∷ xs) l e h = by_case (says x.level x.atom (claim.IsInit r l)) refl h (knows_at b r q xs l e)
  where
    first : (d : Bool) → d ≡ true → (if d then true else knows_in (all_placed b (atoms_of xs)) (claim.IsInit q l)) ≡ true
    first true e = refl
    first false e = none_says e

    last : (d : Bool) → knows_in (all_placed b (atoms_of xs)) (claim.IsInit q l) ≡ true → (if d then true else knows_in (all_placed b (atoms_of xs)) (claim.IsInit q l)) ≡ true
    last true e = refl
    last false e = e

    by_case : (d : Bool) → says x.level x.atom (claim.IsInit r l) ≡ d → (if d then true else knows_in xs (claim.IsInit r l)) ≡ true
        → (knows_in xs (claim.IsInit r l) ≡ true → knows_in (all_placed b (atoms_of xs)) (claim.IsInit q l) ≡ true) → knows_in (all_placed b (atoms_of (x ∷ xs))) (claim.IsInit q l) ≡ true
    by_case true s f more = first (says (level_at b x.atom) x.atom (claim.IsInit q l)) (says_at x.level b r q x.atom l e s)
    by_case false s f more = last (says (level_at b x.atom) x.atom (claim.IsInit q l)) (more f)

-- ---- parts of a message

lifted_alone : (h : Heap) → HasCellsAt Plain (lifted Msg Plain h)
lifted_alone h Plain l e = none_says (sym e)
lifted_alone h Up l e = refl
lifted_alone h Down l e = refl
lifted_alone h Msg l e = refl

line_nothing : (n : ℕ) → 0 ≤ n
line_nothing n = omega arith

lifted_within : (h m : Heap) → ((l : ℤ) → h (key.Cell Msg l) ≤ m (key.Cell Plain l)) → (k : Key) → lifted Msg Plain h k ≤ m k
lifted_within h m less (key.Cell Plain l) = less l
lifted_within h m less (key.Cell Up l) = line_nothing (m (key.Cell Up l))
lifted_within h m less (key.Cell Down l) = line_nothing (m (key.Cell Down l))
lifted_within h m less (key.Cell Msg l) = line_nothing (m (key.Cell Msg l))
lifted_within h m less (key.Permission l p) = line_nothing (m (key.Permission l p))
lifted_within h m less (key.Tokens b) = line_nothing (m (key.Tokens b))
lifted_within h m less (key.Bank b) = line_nothing (m (key.Bank b))

-- the message was shared out: `given` goes on, `joined` joins, and all that is left is kept
pub record Shares (given kept joined : Heap) (message : List Piece) : Type 0 where
  pub on : List Atom
  pub left : List Atom
  pub joins : List Atom
  pub divides : Yields (atoms_of message) (on ++ (left ++ joins))
  pub gives : Entails message (all_placed AtPlain on)
  pub are_shares : AllShares joins
  pub on_is : (l : ℤ) → demand on (Cell l) ≡ given (key.Cell Msg l)
  pub joins_are : (l : ℤ) → demand joins (Cell l) ≡ joined (key.Cell Msg l)
  pub left_is : (l : ℤ) → kept (key.Cell Msg l) ≤ demand left (Cell l)
  pub on_says : (l x : ℤ) → 1 ≤ given (key.Cell Msg l) → value_in message l ≡ Some x → value_in (all_placed AtPlain on) l ≡ Some x
  pub joins_say : (l x : ℤ) → 1 ≤ joined (key.Cell Msg l) → value_in message l ≡ Some x → value_in (all_placed AtPlain joins) l ≡ Some x
  pub left_says : (a : Level) (l x : ℤ) → 1 ≤ kept (key.Cell Msg l) → value_in message l ≡ Some x → value_in (all_placed a left) l ≡ Some x
  pub on_knows : (a : Level) (q : Rung) (l : ℤ) → is_at a q ≡ true → Knows (ground_of message) (claim.IsInit Plain l) → Knows (ground_of (all_placed a on)) (claim.IsInit q l)
  pub left_knows : (a : Level) (q : Rung) (l : ℤ) → is_at a q ≡ true → Knows (ground_of message) (claim.IsInit Plain l) → Knows (ground_of (all_placed a left)) (claim.IsInit q l)

line_first : (k j g m : ℕ) → k + (j + g) ≤ m → g ≤ m
line_first k j g m h = omega arith

line_rest : (k j g m r : ℕ) → k + (j + g) ≤ m → m ≡ r + g → k + j ≤ r
line_rest k j g m r h e = omega arith

line_second : (k j r : ℕ) → k + j ≤ r → j ≤ r
line_second k j r h = omega arith

line_third : (k j r s : ℕ) → k + j ≤ r → r ≡ s + j → k ≤ s
line_third k j r s h e = omega arith

line_there : (a b : ℕ) → 1 ≤ a → a ≤ b → 1 ≤ b
line_there a b p q = omega arith

line_trans : (a b c d : ℕ) → a ≤ b → b ≤ c → c ≡ d → a ≤ d
line_trans a b c d p q e = omega arith

pub share_out : (given kept joined : Heap) (message : List Piece) → IsPossible message
    → ((l : ℤ) → kept (key.Cell Msg l) + (joined (key.Cell Msg l) + given (key.Cell Msg l)) ≤ heap_of message (key.Cell Plain l)) → Shares given kept joined message
share_out given kept joined message possible enough = record {
  on = one.atoms;
  left = atoms_of two.rest;
  joins = shares_of two.atoms;
  divides = yields_then one.is.yields (yields_both one.atoms (atoms_of one.rest) one.atoms (atoms_of two.rest ++ shares_of two.atoms) (yields_self one.atoms)
      (yields_then two.is.yields (yields_then (yields_both two.atoms (atoms_of two.rest) (shares_of two.atoms) (atoms_of two.rest) (yields_shares two.atoms) (yields_self (atoms_of two.rest)))
      (yields_swap (shares_of two.atoms) (atoms_of two.rest)))));
  gives = entails_then one.is.gives (entails_front (all_placed AtPlain one.atoms) one.rest);
  are_shares = all_shares two.atoms;
  on_is = λ l. sym (placed_cells AtPlain one.atoms l) ∙ one.is.taken (key.Cell Plain l);
  joins_are = λ l. shares_cells two.atoms l ∙ sym (placed_cells AtPlain two.atoms l) ∙ two.is.taken (key.Cell Plain l);
  left_is = λ l.
      line_trans (kept (key.Cell Msg l)) (heap_of two.rest (key.Cell Plain l)) (in_all two.rest (Cell l)) (demand (atoms_of two.rest) (Cell l)) (last l) (in_all_least AtPlain two.rest (Cell l))
      (sym (atoms_demand two.rest (Cell l)));
  on_says = λ l x some is. one.is.agrees.value Plain l x some is;
  joins_say = λ l x some is.
      shares_value AtPlain two.atoms l ∙ two.is.agrees.value Plain l x some (one.is.kept.agrees.value Plain l x (line_there (joined (key.Cell Msg l)) (heap_of one.rest (key.Cell Plain l)) some
      (line_second (kept (key.Cell Msg l)) (joined (key.Cell Msg l)) (heap_of one.rest (key.Cell Plain l)) (next l))) is);
  left_says = λ a l x some is.
      let there = line_there (kept (key.Cell Msg l)) (heap_of two.rest (key.Cell Plain l)) some (last l) in
      let before = line_before (kept (key.Cell Msg l)) (joined (key.Cell Msg l)) (heap_of one.rest (key.Cell Plain l)) some (next l) in
      atoms_value a two.rest l ∙ two.is.kept.agrees.value Plain l x there (one.is.kept.agrees.value Plain l x before is);
  on_knows = λ a q l e known. subst (λ (ys : List Atom). knows_in (all_placed a ys) (claim.IsInit q l) ≡ true) (atoms_placed AtPlain one.atoms)
      (knows_at a Plain q (all_placed AtPlain one.atoms) l e (one.is.knows (claim.IsInit Plain l) refl tt known));
  left_knows = λ a q l e known. knows_at a Plain q two.rest l e (two.is.kept.knows.more (claim.IsInit Plain l) tt (one.is.kept.knows.more (claim.IsInit Plain l) tt known));
}
  where
    line_before : (k j r : ℕ) → 1 ≤ k → k + j ≤ r → 1 ≤ r
    line_before k j r p h = omega arith

    one : Cut AtPlain (lifted Msg Plain given) message
    one = heap_cut AtPlain (lifted Msg Plain given) message possible (lifted_alone given) (lifted_within given (heap_of message) (λ l.
        line_first (kept (key.Cell Msg l)) (joined (key.Cell Msg l)) (given (key.Cell Msg l)) (heap_of message (key.Cell Plain l)) (enough l)))

    next : (l : ℤ) → kept (key.Cell Msg l) + joined (key.Cell Msg l) ≤ heap_of one.rest (key.Cell Plain l)
    next l =
        line_rest (kept (key.Cell Msg l)) (joined (key.Cell Msg l)) (given (key.Cell Msg l)) (heap_of message (key.Cell Plain l)) (heap_of one.rest (key.Cell Plain l)) (enough l)
        (one.is.left (key.Cell Plain l))

    two : Cut AtPlain (lifted Msg Plain joined) one.rest
    two = heap_cut AtPlain (lifted Msg Plain joined) one.rest one.is.possible (lifted_alone joined) (lifted_within joined (heap_of one.rest) (λ l.
        line_second (kept (key.Cell Msg l)) (joined (key.Cell Msg l)) (heap_of one.rest (key.Cell Plain l)) (next l)))

    last : (l : ℤ) → kept (key.Cell Msg l) ≤ heap_of two.rest (key.Cell Plain l)
    last l =
        line_third (kept (key.Cell Msg l)) (joined (key.Cell Msg l)) (heap_of one.rest (key.Cell Plain l)) (heap_of two.rest (key.Cell Plain l)) (next l)
        (two.is.left (key.Cell Plain l))
