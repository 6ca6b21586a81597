-- Fences of every mode: an acquiring one turns what the path has at down, a releasing one sets apart what it asks for.
use Rattle.std.proofs.Common.{◌≡◌, ◌⊎◌, inl, inr, ℕ, zero, suc, ◌+◌, ◌≤◌, Bool, true, false, ◌||◌, List, [], ◌++◌, ℤ, refl, sym, subst, ◌∙◌, arith}
use Rattle.std.proofs.lemmas.Bool.{or_left, or_right, or_cases}
use Rattle.fsl_base.specs.declared.span.Span.{Span}
use Rattle.fsl_core.specs.declared.act.Act.TheOpen.{Act-F}
use Rattle.fsl_core.specs.declared.act.Stmt.{Stmt}
use Rattle.fsl_core.specs.declared.assertion.Asrt.{Asrt}
use Rattle.fsl_core.specs.declared.label.Label.TheVariants as label
use Rattle.fsl_core.specs.declared.mode.Mode.{Mode}
use Rattle.fsl_core.specs.declared.mode.Rung.TheVariants.{Plain, Up, Down, Msg}
use Rattle.fsl_core.specs.declared.need.Need.TheVariants as need
use Rattle.fsl_core.specs.declared.scope.Scope.{Scope}
use Rattle.fsl_core.specs.Modes.{acquires, releases}
use Rattle.fsl_core.specs.Moves.{Config, failed, act_move}
use Rattle.fsl_core.specs.logic.States.{State}
use Rattle.fsl_core.specs.logic.Assertions.{asrt_of}
use Rattle.fsl_core.specs.logic.Fences.{acquire, release, only, fence}
use Rattle.fsl_core.specs.logic.Paths.{Ends, each}
use Rattle.fsl_lin.specs.Numbers.{Numbers}
use Rattle.fsl_meaning.specs.Heaps.{Key, Key as key, Heap, Holds, Truth, Ground, Claim, Claim as claim, Needs, KnowsMore, Agrees}
use Rattle.fsl_meaning.specs.States.{All, Fits}
use Rattle.fsl_meaning.proofs.Kept.{fits_kept}
use Rattle.fsl_asserted.specs.Carried.{moved, IsPlain}
use Rattle.fsl_kept.specs.Changes.{lifted, acquired}
use Rattle.fsl_kept.proofs.Fences.{acquire_fits, release_fits}
use Rattle.fsl_own.specs.Atoms.{Atom}
use Rattle.fsl_good.specs.Pieces.{AtPlain, AtUp, AtDown, Piece, all_placed, Entails, IsPossible}
use Rattle.fsl_good.specs.Good.{raised_if, ReleasesIf}
use Rattle.fsl_held.specs.Heaps.{heap_of, truth_of, ground_of, knows_in, Kept}
use Rattle.fsl_held.specs.Parts.{HasCellsAt, Cut, IsInFront}
use Rattle.fsl_held.proofs.Cutting.{heap_cut}
use Rattle.fsl_held.proofs.Fronts.{front_is_kept}
use Rattle.fsl_walk.specs.Stances.{AllDerived, Activation, config_of, IsGood, IsGoodMove, Stance, Runs}
use Rattle.fsl_walk.proofs.Rounds.{kept_self, kept_less, kept_then, bounded, left_within}
use Rattle.fsl_walk.proofs.Steps.{derived_left, each_lands, each_followed, good_possible}
use Rattle.fsl_walk.proofs.Showing.{At, frame_of, line_self, good_shown}
use Rattle.fsl_walk.proofs.Possible.{entailed_possible}
use Rattle.fsl_walk.proofs.Agreeing.{AgreesAt, agrees_at, agrees_by, at_then, entails_then, entails_swap, entails_self, under_rest}
use Rattle.fsl_walk.proofs.Placing.{placed_agrees, cells_placed, moved_placed, knows_placed, raised_placed, possible_turned}
use Rattle.fsl_walk.proofs.Needing.{carried_self, cells_alone, moved_same, agrees_moved}

-- ---- what comes behind half a fence

-- the pieces are possible, and the path stands on them as it goes on
record Ready (xs : List Piece) (under : Heap) (slots : List ℤ) (after : Ends) (zs : List Piece) : Type 0 where
  pub possible : IsPossible zs
  pub keeps : Kept xs under zs
  pub numbers : Numbers
  pub state : State
  pub stance : Stance zs under slots numbers state
  pub derived : AllDerived (after state)

-- ---- acquiring

-- the cells at down
abbrev downs : Heap → Heap
downs h = lifted Down Down h

downs_alone : (h : Heap) → HasCellsAt Down (downs h)
downs_alone h Plain l other = refl
downs_alone h Up l other = refl
downs_alone h Down l other = absurd (let e : true ≡ false = other in cc)
downs_alone h Msg l other = refl

line_nothing : (a : ℕ) → 0 ≤ a
line_nothing a = omega arith

downs_less : (h : Heap) (k : Key) → downs h k ≤ h k
downs_less h (key.Cell Plain l) = line_nothing (h (key.Cell Plain l))
downs_less h (key.Cell Up l) = line_nothing (h (key.Cell Up l))
downs_less h (key.Cell Down l) = line_self (h (key.Cell Down l))
downs_less h (key.Cell Msg l) = line_nothing (h (key.Cell Msg l))
downs_less h (key.Permission l p) = line_nothing (h (key.Permission l p))
downs_less h (key.Tokens b) = line_nothing (h (key.Tokens b))
downs_less h (key.Bank b) = line_nothing (h (key.Bank b))

-- what is known at down is known at plain too
abbrev down_known : List Piece → Claim → Bool
down_known xs (claim.IsInit Plain l) = knows_in xs (claim.IsInit Plain l) || knows_in xs (claim.IsInit Down l)
down_known xs (claim.IsInit Up l) = knows_in xs (claim.IsInit Up l)
down_known xs (claim.IsInit Down l) = knows_in xs (claim.IsInit Down l)
down_known xs (claim.IsInit Msg l) = knows_in xs (claim.IsInit Msg l)
down_known xs (claim.MayWrite l i ys) = knows_in xs (claim.MayWrite l i ys)
down_known xs (claim.MayRead l i ys) = knows_in xs (claim.MayRead l i ys)
down_known xs (claim.MayUpdate l i ys) = knows_in xs (claim.MayUpdate l i ys)

abbrev down_ground : List Piece → Ground
down_ground xs = record { knows = down_known xs; truth = truth_of xs }

down_more : (xs : List Piece) (h : Heap) → KnowsMore (ground_of xs) (down_ground xs) h
down_more xs h = record { more = more }
  where
    more : (c : Claim) → Needs h c → knows_in xs c ≡ true → down_known xs c ≡ true
    more (claim.IsInit Plain l) n k = or_left (knows_in xs (claim.IsInit Plain l)) (knows_in xs (claim.IsInit Down l)) k
    more (claim.IsInit Up l) n k = k
    more (claim.IsInit Down l) n k = k
    more (claim.IsInit Msg l) n k = k
    more (claim.MayWrite l i ys) n k = k
    more (claim.MayRead l i ys) n k = k
    more (claim.MayUpdate l i ys) n k = k

same_truth : (t : Truth) (h : Heap) → Agrees t t h
same_truth t h = record { value = λ r l x some is. is; out = λ l p some. refl; bank = λ b some. refl }

down_fits : (xs : List Piece) {slots : List ℤ} {v : Numbers} {s : State} (h : Heap) → Fits slots (All (ground_of xs) h) v s → Fits slots (All (down_ground xs) h) v s
down_fits xs h fits = fits_kept (down_ground xs) (down_more xs h) (same_truth (truth_of xs) h) fits

line_acquired : (d m u x r p z : ℕ) → m + u ≤ x → x ≡ r + 0 → p ≡ d → z ≡ r + p → (d + m) + u ≤ z
line_acquired d m u x r p z a b c e = omega arith

line_other : (m u x r p z : ℕ) → m + u ≤ x → x ≡ r + 0 → z ≡ r + p → (0 + m) + u ≤ z
line_other m u x r p z a b c = omega arith

line_down : (m u x r p z : ℕ) → m + u ≤ x → x ≡ r + m → z ≡ r + p → (0 + 0) + u ≤ z
line_down m u x r p z a b c = omega arith

line_rest : (m u x r : ℕ) → 1 ≤ 0 + m → m + u ≤ x → x ≡ r + 0 → 1 ≤ r
line_rest m u x r a b c = omega arith

line_either : (d m : ℕ) → 1 ≤ d + m → (1 ≤ d) ⊎ (1 ≤ m)
line_either zero m h = inr (omega arith)
line_either (suc d) m h = inl (omega arith)

line_some : (m u x r : ℕ) → 1 ≤ m → m + u ≤ x → x ≡ r + 0 → 1 ≤ r
line_some m u x r a b c = omega arith

no_down : 1 ≤ 0 + 0 → ⊥
no_down h = omega arith

-- what the path has at down was cut out, and is turned
record Turning (xs : List Piece) (mine under : Heap) : Type 0 where
  pub atoms : List Atom
  pub rest : List Piece
  pub gives : Entails xs (rest ++ all_placed AtDown atoms)
  pub possible : IsPossible (rest ++ all_placed AtPlain atoms)
  pub keeps : Kept xs under (rest ++ all_placed AtPlain atoms)
  pub agrees : Agrees (truth_of xs) (truth_of (rest ++ all_placed AtPlain atoms)) (acquired mine)
  pub knows : KnowsMore (down_ground xs) (ground_of (rest ++ all_placed AtPlain atoms)) (acquired mine)
  pub parts : Holds (acquired mine) under (heap_of (rest ++ all_placed AtPlain atoms))

abbrev DownCut : List Piece → Heap → Type 0
DownCut xs mine = Cut AtDown (downs mine) xs

turned_cells : (xs : List Piece) (mine : Heap) (c : DownCut xs mine) (l : ℤ) → heap_of (all_placed AtPlain c.atoms) (key.Cell Plain l) ≡ mine (key.Cell Down l)
turned_cells xs mine c l = cells_placed AtPlain c.atoms l ∙ sym (cells_placed AtDown c.atoms l) ∙ c.is.taken (key.Cell Down l)

turned_at : (xs : List Piece) (mine under : Heap) → Holds mine under (heap_of xs) → (c : DownCut xs mine) → IsInFront c.rest (all_placed AtPlain c.atoms) → (k : Key) → 1 ≤ acquired mine k
    → AgreesAt (truth_of xs) (truth_of (c.rest ++ all_placed AtPlain c.atoms)) k
turned_at xs mine under holds c f = each
  where
    by_rest : (k : Key) → 1 ≤ heap_of c.rest k → AgreesAt (truth_of xs) (truth_of (c.rest ++ all_placed AtPlain c.atoms)) k
    by_rest k some = at_then (truth_of xs) (truth_of c.rest) (truth_of (c.rest ++ all_placed AtPlain c.atoms)) k (agrees_at c.is.kept.agrees k some) (agrees_at f.front.agrees k some)

    by_atoms : (l : ℤ) → 1 ≤ mine (key.Cell Down l) → AgreesAt (truth_of xs) (truth_of (c.rest ++ all_placed AtPlain c.atoms)) (key.Cell Plain l)
    by_atoms l some =
        let k = key.Cell Plain l in
        at_then (truth_of xs) (truth_of (all_placed AtDown c.atoms)) (truth_of (c.rest ++ all_placed AtPlain c.atoms)) k (agrees_at c.is.agrees (key.Cell Down l) some)
        (at_then (truth_of (all_placed AtDown c.atoms)) (truth_of (all_placed AtPlain c.atoms)) (truth_of (c.rest ++ all_placed AtPlain c.atoms)) k (placed_agrees AtDown AtPlain c.atoms k)
        (agrees_at f.behind.agrees k (subst (λ (n : ℕ). 1 ≤ n) (sym (turned_cells xs mine c l)) some)))

    each : (k : Key) → 1 ≤ acquired mine k → AgreesAt (truth_of xs) (truth_of (c.rest ++ all_placed AtPlain c.atoms)) k
    each (key.Cell Plain l) some = elim (line_either (mine (key.Cell Down l)) (mine (key.Cell Plain l)) some) [
      | inl d ↦ by_atoms l d
      | inr m ↦ by_rest (key.Cell Plain l) (line_some (mine (key.Cell Plain l)) (under (key.Cell Plain l)) (heap_of xs (key.Cell Plain l)) (heap_of c.rest (key.Cell Plain l)) m
          (holds (key.Cell Plain l)) (c.is.left (key.Cell Plain l)))
    ]
    each (key.Cell Up l) some = by_rest (key.Cell Up l) (line_rest (mine (key.Cell Up l)) (under (key.Cell Up l)) (heap_of xs (key.Cell Up l)) (heap_of c.rest (key.Cell Up l)) some
        (holds (key.Cell Up l)) (c.is.left (key.Cell Up l)))
    each (key.Cell Down l) some = absurd (no_down some)
    each (key.Cell Msg l) some = by_rest (key.Cell Msg l) (line_rest (mine (key.Cell Msg l)) (under (key.Cell Msg l)) (heap_of xs (key.Cell Msg l)) (heap_of c.rest (key.Cell Msg l)) some
        (holds (key.Cell Msg l)) (c.is.left (key.Cell Msg l)))
    each (key.Permission l p) some =
        by_rest (key.Permission l p) (line_rest (mine (key.Permission l p)) (under (key.Permission l p)) (heap_of xs (key.Permission l p)) (heap_of c.rest (key.Permission l p)) some
        (holds (key.Permission l p)) (c.is.left (key.Permission l p)))
    each (key.Tokens b) some = tt
    each (key.Bank b) some = by_rest (key.Bank b) (line_rest (mine (key.Bank b)) (under (key.Bank b)) (heap_of xs (key.Bank b)) (heap_of c.rest (key.Bank b)) some (holds (key.Bank b))
        (c.is.left (key.Bank b)))

turned_knows : (xs : List Piece) (mine under : Heap) → Holds mine under (heap_of xs) → (c : DownCut xs mine) → IsInFront c.rest (all_placed AtPlain c.atoms)
    → KnowsMore (down_ground xs) (ground_of (c.rest ++ all_placed AtPlain c.atoms)) (acquired mine)
turned_knows xs mine under holds c f = record { more = more }
  where
    by_rest : (d : Claim) → Needs (heap_of c.rest) d → knows_in xs d ≡ true → knows_in (c.rest ++ all_placed AtPlain c.atoms) d ≡ true
    by_rest d n k = f.front.knows.more d n (c.is.kept.knows.more d n k)

    by_atoms : (l : ℤ) → knows_in xs (claim.IsInit Down l) ≡ true → knows_in (c.rest ++ all_placed AtPlain c.atoms) (claim.IsInit Plain l) ≡ true
    by_atoms l k = f.behind.knows.more (claim.IsInit Plain l) tt (knows_placed AtDown AtPlain c.atoms (claim.IsInit Down l) (c.is.knows (claim.IsInit Down l) refl tt k))

    more : (d : Claim) → Needs (acquired mine) d → down_known xs d ≡ true → knows_in (c.rest ++ all_placed AtPlain c.atoms) d ≡ true
    more (claim.IsInit Plain l) n k = elim (or_cases (knows_in xs (claim.IsInit Plain l)) (knows_in xs (claim.IsInit Down l)) k) [
      | inl p ↦ by_rest (claim.IsInit Plain l) tt p
      | inr d ↦ by_atoms l d
    ]
    more (claim.IsInit Up l) n k = by_rest (claim.IsInit Up l) tt k
    more (claim.IsInit Down l) n k = by_rest (claim.IsInit Down l) tt k
    more (claim.IsInit Msg l) n k = by_rest (claim.IsInit Msg l) tt k
    more (claim.MayWrite l i ys) n k = by_rest (claim.MayWrite l i ys) tt k
    more (claim.MayUpdate l i ys) n k = by_rest (claim.MayUpdate l i ys) tt k
    more (claim.MayRead l i ys) n k =
        let p = key.Permission l n.0 in
        by_rest (claim.MayRead l i ys) (n.0, line_rest (mine p) (under p) (heap_of xs p) (heap_of c.rest p) n.1 (holds p) (c.is.left p)) k

turned_parts : (xs : List Piece) (mine under : Heap) → Holds mine under (heap_of xs) → (c : DownCut xs mine) → IsInFront c.rest (all_placed AtPlain c.atoms)
    → Holds (acquired mine) under (heap_of (c.rest ++ all_placed AtPlain c.atoms))
turned_parts xs mine under holds c f = each
  where
    all : Heap
    all = heap_of (c.rest ++ all_placed AtPlain c.atoms)

    turned : Heap
    turned = heap_of (all_placed AtPlain c.atoms)

    each : (k : Key) → acquired mine k + under k ≤ heap_of (c.rest ++ all_placed AtPlain c.atoms) k
    each (key.Cell Plain l) =
        let k = key.Cell Plain l in
        line_acquired (mine (key.Cell Down l)) (mine k) (under k) (heap_of xs k) (heap_of c.rest k) (heap_of (all_placed AtPlain c.atoms) k) (heap_of (c.rest ++ all_placed AtPlain c.atoms) k)
        (holds k) (c.is.left k) (turned_cells xs mine c l) (f.sum k)
    each (key.Cell Up l) =
        let k = key.Cell Up l in line_other (mine k) (under k) (heap_of xs k) (heap_of c.rest k) (heap_of (all_placed AtPlain c.atoms) k) (heap_of (c.rest ++ all_placed AtPlain c.atoms) k)
        (holds k) (c.is.left k) (f.sum k)
    each (key.Cell Down l) =
        let k = key.Cell Down l in line_down (mine k) (under k) (heap_of xs k) (heap_of c.rest k) (heap_of (all_placed AtPlain c.atoms) k) (heap_of (c.rest ++ all_placed AtPlain c.atoms) k)
        (holds k) (c.is.left k) (f.sum k)
    each (key.Cell Msg l) =
        let k = key.Cell Msg l in line_other (mine k) (under k) (heap_of xs k) (heap_of c.rest k) (heap_of (all_placed AtPlain c.atoms) k) (heap_of (c.rest ++ all_placed AtPlain c.atoms) k)
        (holds k) (c.is.left k) (f.sum k)
    each (key.Permission l p) =
        let k = key.Permission l p in line_other (mine k) (under k) (heap_of xs k) (heap_of c.rest k) (heap_of (all_placed AtPlain c.atoms) k)
        (heap_of (c.rest ++ all_placed AtPlain c.atoms) k) (holds k) (c.is.left k) (f.sum k)
    each (key.Tokens b) =
        let k = key.Tokens b in line_other (mine k) (under k) (heap_of xs k) (heap_of c.rest k) (heap_of (all_placed AtPlain c.atoms) k) (heap_of (c.rest ++ all_placed AtPlain c.atoms) k)
        (holds k) (c.is.left k) (f.sum k)
    each (key.Bank b) =
        let k = key.Bank b in line_other (mine k) (under k) (heap_of xs k) (heap_of c.rest k) (heap_of (all_placed AtPlain c.atoms) k) (heap_of (c.rest ++ all_placed AtPlain c.atoms) k)
        (holds k) (c.is.left k) (f.sum k)

turning_by : (xs : List Piece) (mine under : Heap) → Holds mine under (heap_of xs) → (c : DownCut xs mine) → IsPossible (c.rest ++ all_placed AtPlain c.atoms) → Turning xs mine under
turning_by xs mine under holds c possible =
    let f = front_is_kept c.rest (all_placed AtPlain c.atoms) possible in
    record {
      atoms = c.atoms;
      rest = c.rest;
      gives = entails_then c.is.gives (entails_swap (all_placed AtDown c.atoms) c.rest);
      possible = possible;
      keeps = kept_less under (heap_of c.rest) (under_rest (downs mine) mine under (heap_of xs) (heap_of c.rest) (downs_less mine) holds c.is.left) (kept_then c.is.kept f.front);
      agrees = agrees_by (acquired mine) (turned_at xs mine under holds c f);
      knows = turned_knows xs mine under holds c f;
      parts = turned_parts xs mine under holds c f;
    }

line_within : (d m x : ℕ) → d ≤ m → m ≤ x → d ≤ x
line_within d m x a b = omega arith

turning : (xs : List Piece) (mine under : Heap) → IsPossible xs → Holds mine under (heap_of xs) → Turning xs mine under
turning xs mine under possible holds =
    let c = heap_cut AtDown (downs mine) xs possible (downs_alone mine) (λ k. line_within (downs mine k) (mine k) (heap_of xs k) (downs_less mine k) (left_within mine under (heap_of xs) holds k)) in
    turning_by xs mine under holds c (possible_turned AtDown AtPlain c.atoms c.rest (entailed_possible xs (all_placed AtDown c.atoms ++ c.rest) c.is.gives possible))

-- the first half of a fence
record Half (b : Bool) (xs : List Piece) (under : Heap) (slots : List ℤ) (after : Ends) : Type 0 where
  pub kept : List Piece
  pub turned : List Piece
  pub gives : Entails xs (kept ++ turned)
  pub ready : Ready xs under slots after (kept ++ raised_if b turned)

first_half : {xs : List Piece} {under : Heap} {slots : List ℤ} {v : Numbers} {s : State} (b : Bool) (after : Ends) (at : Span) → IsPossible xs → Stance xs under slots v s
    → AllDerived (each at (only b acquire s) (λ x. after)) → Half b xs under slots after
first_half {xs = xs} {under = under} {v = v} {s = s} false after at possible stance d = record {
  kept = [];
  turned = xs;
  gives = entails_self xs;
  ready = record { possible = possible; keeps = kept_self xs under; numbers = v; state = s; stance = stance; derived = derived_left (after s) [] d };
}
first_half {xs = xs} {under = under} {slots = slots} {s = s} true after at possible stance d =
    let mine = stance.mine in
    let t = turning xs mine under possible stance.parts in
    let zs = t.rest ++ all_placed AtPlain t.atoms in
    let landed = each_lands at (λ x. after)
    (acquire_fits (λ l k. or_right (knows_in xs (claim.IsInit Plain l)) (knows_in xs (claim.IsInit Down l)) k)
    (bounded xs mine possible (left_within mine under (heap_of xs) stance.parts)) (down_fits xs mine stance.fits)) d in
    let ready : Ready xs under slots after zs = record {
      possible = t.possible;
      keeps = t.keeps;
      numbers = landed.numbers;
      state = landed.state;
      stance = record { mine = acquired mine; fits = fits_kept (ground_of zs) t.knows t.agrees landed.is; parts = t.parts };
      derived = landed.derived;
    } in
    record {
      kept = t.rest;
      turned = all_placed AtDown t.atoms;
      gives = t.gives;
      ready = subst (λ (ws : List Piece). Ready xs under slots after (t.rest ++ ws)) (sym (raised_placed t.atoms)) ready;
    }

-- ---- releasing

-- what is known at plain is known at up too
abbrev up_known : List Piece → Claim → Bool
up_known xs (claim.IsInit Up l) = knows_in xs (claim.IsInit Up l) || knows_in xs (claim.IsInit Plain l)
up_known xs (claim.IsInit Plain l) = knows_in xs (claim.IsInit Plain l)
up_known xs (claim.IsInit Down l) = knows_in xs (claim.IsInit Down l)
up_known xs (claim.IsInit Msg l) = knows_in xs (claim.IsInit Msg l)
up_known xs (claim.MayWrite l i ys) = knows_in xs (claim.MayWrite l i ys)
up_known xs (claim.MayRead l i ys) = knows_in xs (claim.MayRead l i ys)
up_known xs (claim.MayUpdate l i ys) = knows_in xs (claim.MayUpdate l i ys)

abbrev up_ground : List Piece → Ground
up_ground xs = record { knows = up_known xs; truth = truth_of xs }

up_more : (xs : List Piece) (h : Heap) → KnowsMore (ground_of xs) (up_ground xs) h
up_more xs h = record { more = more }
  where
    more : (c : Claim) → Needs h c → knows_in xs c ≡ true → up_known xs c ≡ true
    more (claim.IsInit Up l) n k = or_left (knows_in xs (claim.IsInit Up l)) (knows_in xs (claim.IsInit Plain l)) k
    more (claim.IsInit Plain l) n k = k
    more (claim.IsInit Down l) n k = k
    more (claim.IsInit Msg l) n k = k
    more (claim.MayWrite l i ys) n k = k
    more (claim.MayRead l i ys) n k = k
    more (claim.MayUpdate l i ys) n k = k

abbrev PlainCut : List Piece → Heap → Type 0
PlainCut xs d = Cut AtPlain d xs

-- the heap behind: what was set apart, and what is left
abbrev apart_heap : Heap → Heap → Heap
apart_heap d left = λ k. moved Plain Up d k + left k

line_left : (m l n u x r : ℕ) → m ≡ l + n → m + u ≤ x → x ≡ r + n → 1 ≤ l → 1 ≤ r
line_left m l n u x r a b c d = omega arith

line_apart : (m l n u x r v w z : ℕ) → m ≡ l + n → m + u ≤ x → x ≡ r + n → v ≤ w → z ≡ w + r → (v + l) + u ≤ z
line_apart m l n u x r v w z a b c d e = omega arith

line_part : (m l n : ℕ) → m ≡ l + n → n ≤ m
line_part m l n e = omega arith

line_up : (v w : ℕ) → 1 ≤ v → v ≤ w → 1 ≤ w
line_up v w a b = omega arith

apart_less : (xs : List Piece) (d : Heap) (c : PlainCut xs d) (k : Key) → moved Plain Up d k ≤ heap_of (all_placed AtUp c.atoms) k
apart_less xs d c k =
    subst (λ (n : ℕ). n ≤ heap_of (all_placed AtUp c.atoms) k) (moved_same Plain Up (heap_of (all_placed AtPlain c.atoms)) d c.is.taken k) (moved_placed AtPlain AtUp c.atoms k)

apart_at : (xs : List Piece) (mine under left d : Heap) → ((k : Key) → mine k ≡ left k + d k) → Holds mine under (heap_of xs) → (c : PlainCut xs d) → IsInFront (all_placed AtUp c.atoms) c.rest
    → (k : Key) → 1 ≤ apart_heap d left k → AgreesAt (truth_of xs) (truth_of (all_placed AtUp c.atoms ++ c.rest)) k
apart_at xs mine under left d sum holds c f k some =
    let ups = all_placed AtUp c.atoms in
    let plains = all_placed AtPlain c.atoms in
    let zs = ups ++ c.rest in
    elim (line_either (moved Plain Up d k) (left k) some) [
      | inl v ↦ at_then (truth_of xs) (truth_of plains) (truth_of zs) k (agrees_moved (truth_of xs) (truth_of plains) Plain Up d c.is.agrees k v)
          (at_then (truth_of plains) (truth_of ups) (truth_of zs) k (placed_agrees AtPlain AtUp c.atoms k)
          (agrees_at f.front.agrees k (line_up (moved Plain Up d k) (heap_of ups k) v (apart_less xs d c k))))
      | inr l ↦
          let there = line_left (mine k) (left k) (d k) (under k) (heap_of xs k) (heap_of c.rest k) (sum k) (holds k) (c.is.left k) l in
          at_then (truth_of xs) (truth_of c.rest) (truth_of zs) k (agrees_at c.is.kept.agrees k there) (agrees_at f.behind.agrees k there)
    ]

apart_knows : (xs : List Piece) (mine under left d : Heap) → ((k : Key) → mine k ≡ left k + d k) → Holds mine under (heap_of xs) → (c : PlainCut xs d) → IsInFront (all_placed AtUp c.atoms) c.rest
    → KnowsMore (up_ground xs) (ground_of (all_placed AtUp c.atoms ++ c.rest)) (apart_heap d left)
apart_knows xs mine under left d sum holds c f = record { more = more }
  where
    by_rest : (b : Claim) → Needs (heap_of c.rest) b → knows_in xs b ≡ true → knows_in (all_placed AtUp c.atoms ++ c.rest) b ≡ true
    by_rest b n k = f.behind.knows.more b n (c.is.kept.knows.more b n k)

    by_atoms : (l : ℤ) → knows_in xs (claim.IsInit Plain l) ≡ true → knows_in (all_placed AtUp c.atoms ++ c.rest) (claim.IsInit Up l) ≡ true
    by_atoms l k = f.front.knows.more (claim.IsInit Up l) tt (knows_placed AtPlain AtUp c.atoms (claim.IsInit Plain l) (c.is.knows (claim.IsInit Plain l) refl tt k))

    more : (b : Claim) → Needs (apart_heap d left) b → up_known xs b ≡ true → knows_in (all_placed AtUp c.atoms ++ c.rest) b ≡ true
    more (claim.IsInit Up l) n k = elim (or_cases (knows_in xs (claim.IsInit Up l)) (knows_in xs (claim.IsInit Plain l)) k) [
      | inl p ↦ by_rest (claim.IsInit Up l) tt p
      | inr p ↦ by_atoms l p
    ]
    more (claim.IsInit Plain l) n k = by_rest (claim.IsInit Plain l) tt k
    more (claim.IsInit Down l) n k = by_rest (claim.IsInit Down l) tt k
    more (claim.IsInit Msg l) n k = by_rest (claim.IsInit Msg l) tt k
    more (claim.MayWrite l i ys) n k = by_rest (claim.MayWrite l i ys) tt k
    more (claim.MayUpdate l i ys) n k = by_rest (claim.MayUpdate l i ys) tt k
    more (claim.MayRead l i ys) n k =
        let p = key.Permission l n.0 in
        let b = claim.MayRead l i ys in
        elim (line_either (d p) (left p) n.1) [
          | inl v ↦ f.front.knows.more b (n.0, line_up (d p) (heap_of (all_placed AtUp c.atoms) p) v (apart_less xs d c p)) (knows_placed AtPlain AtUp c.atoms b (c.is.knows b refl (n.0, v) k))
          | inr l ↦ by_rest b (n.0, line_left (mine p) (left p) (d p) (under p) (heap_of xs p) (heap_of c.rest p) (sum p) (holds p) (c.is.left p) l) k
        ]

-- what a fence leads to
abbrev Goes : Activation → ℕ → Config → List Piece → Heap → List ℤ → Ends → Type 0
Goes u m c xs under slots after = (zs : List Piece) (w : Numbers) (t : State) → Kept xs under zs → Stance zs under slots w t → AllDerived (after t) → IsGood u m c zs

apart_goes : {xs : List Piece} {under : Heap} {slots : List ℤ} {w : Numbers} {t : State} (u : Activation) (m : ℕ) (next : Config) (after : Ends) (mine left d : Heap)
    → ((k : Key) → mine k ≡ left k + d k)
    → Holds mine under (heap_of xs) → (c : PlainCut xs d) → IsPossible (all_placed AtUp c.atoms ++ c.rest) → Fits slots (All (up_ground xs) (apart_heap d left)) w t → AllDerived (after t)
    → Goes u m next xs under slots after → IsGood u m next (all_placed AtUp c.atoms ++ c.rest)
apart_goes {xs = xs} {under = under} {w = w} {t = t} u m next after mine left d sum holds c possible fits derived goes =
    let zs = all_placed AtUp c.atoms ++ c.rest in
    let f = front_is_kept (all_placed AtUp c.atoms) c.rest possible in
    goes zs w t
    (kept_less under (heap_of c.rest) (under_rest d mine under (heap_of xs) (heap_of c.rest) (λ k. line_part (mine k) (left k) (d k) (sum k)) holds c.is.left) (kept_then c.is.kept f.behind))
    (record {
      mine = apart_heap d left;
      fits = fits_kept (ground_of zs) (apart_knows xs mine under left d sum holds c f) (agrees_by (apart_heap d left) (apart_at xs mine under left d sum holds c f)) fits;
      parts = λ k. line_apart (mine k) (left k) (d k) (under k) (heap_of xs k) (heap_of c.rest k) (moved Plain Up d k) (heap_of (all_placed AtUp c.atoms) k) (heap_of zs k) (sum k) (holds k)
          (c.is.left k) (apart_less xs d c k) (f.sum k);
    })
    derived

second_half : {xs : List Piece} {under : Heap} {slots : List ℤ} {v : Numbers} {s : State} (u : Activation) (m : ℕ) (next : Config) (b : Bool) (a : Asrt) (after : Ends) (at : Span)
    → (next ≡ failed → ⊥) → (b ≡ true → IsPlain u.program.invs a)
    → IsPossible xs → Stance xs under slots v s → AllDerived (each at (only b (release (asrt_of a)) s) (λ x. after)) → Goes u m next xs under slots after → ReleasesIf b (IsGood u m next) xs
second_half {xs = xs} {under = under} {v = v} {s = s} u m next false a after at good plain possible stance d goes = goes xs v s (kept_self xs under) stance (derived_left (after s) [] d)
second_half {xs = xs} {under = under} {slots = slots} u m next true a after at good plain possible stance d goes =
    let mine = stance.mine in
    let holds = stance.parts in
    let within = left_within mine under (heap_of xs) holds in
    let landed = each_lands at (λ x. after)
    (release_fits u.program.invs a (plain refl) (λ l k. or_right (knows_in xs (claim.IsInit Up l)) (knows_in xs (claim.IsInit Plain l)) k) (bounded xs mine possible within)
    (fits_kept (up_ground xs) (up_more xs mine) (same_truth (truth_of xs) mine) stance.fits)) d in
    let set = landed.is in
    let d = set.need.heap in
    let cut = heap_cut AtPlain d xs possible (cells_alone Plain set.need (carried_self u.program.invs (truth_of xs) a Plain slots set.need (plain refl) set.is))
    (λ k. line_within (d k) (mine k) (heap_of xs k) (line_part (mine k) (set.left k) (d k) (set.parts k)) (within k)) in
    record {
      apart = cut.atoms;
      rest = cut.rest;
      gives = cut.is.gives;
      next = good_possible u m next (all_placed AtUp cut.atoms ++ cut.rest) good (λ possible. apart_goes u m next after mine set.left d set.parts holds cut possible set.fits landed.derived goes);
    }

-- ---- both halves

pub fence_moves : {scope : Scope} {Q : List ℤ → Type 0} {base : List Piece} {under : Heap} {xs : List Piece} {slots env : List ℤ} {v : Numbers} {s : State}
    (u : Activation) (m : ℕ) (after : Ends) (stmt : Stmt) (rest : List Stmt) (mode : Mode) (a : Asrt) (at : Span)
    → IsPlain u.program.invs a → Runs u m after rest scope Q base under → At scope Q base under xs slots env v s
    → AllDerived (each at (fence mode (asrt_of a) s) (λ x. after)) → IsGoodMove u m (act_move u.program (Act-F.Fence mode a) stmt (frame_of u rest env) u.below) xs
fence_moves {under = under} {xs = xs} {slots = slots} {env = env} {s = s} u m after stmt rest mode a at plain runs here d =
    let next = config_of u rest env in
    let half = first_half (acquires mode) (λ t. each at (only (releases mode) (release (asrt_of a)) t) (λ x. after)) at here.possible here.stance
    (each_followed at (λ x t. only (releases mode) (release (asrt_of a)) t) (λ x. after) (only (acquires mode) acquire s) d) in
    let ready = half.ready in
    good_shown u m (need.Fence mode) (label.Fence mode) next xs (λ n. absurd (cc)) (record {
      kept = half.kept;
      turned = half.turned;
      gives = half.gives;
      next = second_half u m next (releases mode) a after at (λ f. absurd (cc)) (λ e. plain) ready.possible ready.stance ready.derived (λ zs w t kept stance derived.
          runs m (line_self m) zs slots env w t (kept_then here.kept (kept_then ready.keeps kept)) stance here.matches here.holds derived);
    })
