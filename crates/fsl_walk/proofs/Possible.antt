-- What follows from what is possible is possible too: there is a graph in which all that pieces say of writes is right,
-- wherever they stand.
use Rattle.std.proofs.Common.{◌≡◌, ◌⊎◌, inl, inr, ℕ, zero, suc, ◌+◌, ◌<◌, ◌≤◌, List, [], ◌∷◌, length, Some, None, ℤ, pos, slice_get, refl, ap, ◌∙◌, arith}
use Rattle.std.proofs.lemmas.Bool.{cases_eq}
use Rattle.fsl_core.specs.declared.label.Label.TheVariants as label
use Rattle.fsl_core.specs.declared.mode.Mode.TheVariants as mode
use Rattle.fsl_graph.specs.declared.event.Event.{Event}
use Rattle.fsl_graph.specs.declared.graph.Graph.{Graph}
use Rattle.fsl_graph.specs.Events.{Is}
use Rattle.fsl_graph.specs.Sequenced.{In, Path as path, SbEdge as sb}
use Rattle.fsl_graph.specs.Happens.{HbEdge as hb, InSequence as sequence, ReleasePoint as point}
use Rattle.fsl_graph.specs.Positions.{Position, StandsFor as stands}
use Rattle.fsl_own.specs.Owning.{Known, limit}
use Rattle.fsl_own.specs.Atoms.{Atom, Points, Init, Rel, Acq, RmwAcq, Tok, Auth, Says, IsRight}
use Rattle.fsl_good.specs.Pieces.{Level, AtPlain, AtUp, AtDown, holder_of, Piece, demand_at, RightPieces, Entails, AllSay, IsPossible}
use Rattle.fsl_good.proofs.Pieces.{all_say}

-- ---- a graph with an update for each piece, and a fence behind them

abbrev place_of : Atom → ℤ
place_of (Init l) = l
place_of _ = pos 0

-- it reads from itself, which no execution does
abbrev update : ℕ → ℤ → Event
update i l = record { thread = 0; label = label.Rmw mode.AcqRel l (pos 0) (pos 0); from = Some i }

abbrev fence : Event
fence = record { thread = 0; label = label.Fence mode.AcqRel; from = None }

abbrev events_from : ℕ → List Piece → List Event
events_from i [] = fence ∷ []
events_from i (x ∷ xs) = update i (place_of x.atom) ∷ events_from (suc i) xs

abbrev graph_of : List Piece → Graph
graph_of xs = record { threads = []; events = events_from 0 xs; mo = [] }

-- all numbers below
abbrev below : ℕ → List ℕ
below zero = []
below (suc n) = n ∷ below n

in_below : (n e : ℕ) → e < n → In e (below n)
in_below zero e h = absurd (omega arith)
in_below (suc n) e h = by_case (cases_eq e n) (λ other. in_below n e (omega (arith, other, h)))
  where
    by_case : (e ≡ n) ⊎ (e ≡ n → ⊥) → ((e ≡ n → ⊥) → In e (below n)) → In e (n ∷ below n)
    by_case (inl same) k = inl same
    by_case (inr other) k = inr (k other)

line_first : (i : ℕ) → i ≡ i + 0
line_first i = omega arith

line_none : (i : ℕ) → 0 + i ≡ i
line_none i = omega arith

line_next : (i j : ℕ) → suc i + j ≡ i + suc j
line_next i j = omega arith

one_of : {X : Type 0} {x y : X} → Some x ≡ Some y → x ≡ y
one_of e = cc

event_at : (i : ℕ) (xs : List Piece) (j : ℕ) (x : Piece) → slice_get xs j ≡ Some x → slice_get (events_from i xs) j ≡ Some (update (i + j) (place_of x.atom))
event_at i [] j x e = absurd (let d : None ≡ Some x = e in cc)
event_at i (y ∷ ys) zero x e =
    let same : y ≡ x = one_of e in
    ap (λ (z : Piece). Some (update i (place_of z.atom))) same ∙ ap (λ (n : ℕ). Some (update n (place_of x.atom))) (line_first i)
event_at i (y ∷ ys) (suc j) x e = event_at (suc i) ys j x e ∙ ap (λ (n : ℕ). Some (update n (place_of x.atom))) (line_next i j)

fence_at : (i : ℕ) (xs : List Piece) → slice_get (events_from i xs) (length xs) ≡ Some fence
fence_at i [] = refl
fence_at i (x ∷ xs) = fence_at (suc i) xs

is_below : (xs : List Piece) (j : ℕ) (x : Piece) → slice_get xs j ≡ Some x → j < length xs
is_below [] j x e = absurd (let d : None ≡ Some x = e in cc)
is_below (y ∷ ys) zero x e = omega arith
is_below (y ∷ ys) (suc j) x e = let h = is_below ys j x e in omega (arith, h)

-- ---- all is right in it

known_at : (g : Graph) (done : List ℕ) (j last : ℕ) (l : ℤ) (a : Level) → Is g j (update j l) → Is g last fence → j < last → In j done → In last done → Position g done (holder_of 0 a) j
known_at g done j last l AtPlain is is_last before here there = record { last = j; past = here; stands = stands.by_event (update j l) is refl; reaches = inl refl }
known_at g done j last l AtUp is is_last before here there = record {
  fence = last;
  past = there;
  event = fence;
  is = is_last;
  thread = refl;
  mode = mode.AcqRel;
  fences = record { event = fence; is = is_last; fences = refl };
  releases = refl;
  reaches = inr (path.one (hb.by_sb (sb.by_order (record { earlier = update j l; later = fence; is_earlier = is; is_later = is_last; thread = refl; before = before }))));
}
known_at g done j last l AtDown is is_last before here there = record {
  read = j;
  past = here;
  mode = mode.AcqRel;
  loc = l;
  value = pos 0;
  reads = record { event = update j l; is = is; reads = refl };
  thread = refl;
  atomic = refl;
  source = j;
  from = record { reader = update j l; is = is; source = refl };
  sent = record { head = j; point = j; sequence = sequence.head; release = point.at_write (record { event = update j l; is = is; writes = refl }) refl refl; reaches = inl refl };
}

right_one : (g : Graph) (done : List ℕ) (k : Known) (j last : ℕ) (a : Level) (x : Atom) → Is g j (update j (place_of x)) → Is g last fence → j < last → In j done → In last done → Says k x
    → IsRight g done k (holder_of 0 a) x
right_one g done k j last a (Init l) is is_last before here there says = record {
  deal = says.0;
  made = says.1;
  write = j;
  past = here;
  mode = mode.AcqRel;
  value = pos 0;
  writes = record { event = update j l; is = is; writes = refl };
  known = known_at g done j last l a is is_last before here there;
}
right_one g done k j last a (Points c n v) is is_last before here there says = says
right_one g done k j last a (Rel l inv args) is is_last before here there says = says
right_one g done k j last a (Acq l inv args part out) is is_last before here there says = says
right_one g done k j last a (RmwAcq l inv args) is is_last before here there says = says
right_one g done k j last a (Tok b n) is is_last before here there says = says
right_one g done k j last a (Auth b n) is is_last before here there says = says

right_from : (k : Known) (all : List Piece) (j : ℕ) (xs : List Piece) → ((i : ℕ) → slice_get all (j + i) ≡ slice_get xs i) → AllSay k xs
    → RightPieces (graph_of all) (below (suc (length all))) k 0 xs
right_from k all j [] same says = tt
right_from k all j (x ∷ xs) same says =
    let here : slice_get all j ≡ Some x = ap (λ (n : ℕ). slice_get all n) (line_first j) ∙ same 0 in
    let before = is_below all j x here in (
      right_one (graph_of all) (below (suc (length all))) k j (length all) x.level x.atom (event_at 0 all j x here ∙ ap (λ (n : ℕ). Some (update n (place_of x.atom))) (line_none j))
          (fence_at 0 all) before
          (in_below (suc (length all)) j (omega (arith, before))) (in_below (suc (length all)) (length all) (omega arith)) says.0,
      right_from k all (suc j) xs (λ i. ap (λ (n : ℕ). slice_get all n) (line_next j i) ∙ same (suc i)) says.1,
    )

line_within : (a b c d e f m : ℕ) → a ≤ d → b ≤ e → c ≤ f → d + (e + f) ≤ m → a + (b + c) ≤ m
line_within a b c d e f m h i j k = omega arith

-- what follows is possible too
pub entailed_possible : (xs ys : List Piece) → Entails xs ys → IsPossible xs → IsPossible ys
entailed_possible xs ys entails p = record {
  known = p.known;
  within = λ r.
      line_within (demand_at AtPlain ys r) (demand_at AtUp ys r) (demand_at AtDown ys r) (demand_at AtPlain xs r) (demand_at AtUp xs r) (demand_at AtDown xs r) (limit p.known r)
      (entails.enough AtPlain r) (entails.enough AtUp r) (entails.enough AtDown r) (p.within r);
  agree =
      let g = graph_of xs in
      let done = below (suc (length xs)) in
      all_say g done p.known 0 ys (entails.right g done p.known 0 (right_from p.known xs 0 xs (λ i. ap (λ (n : ℕ). slice_get xs n) (line_none i)) p.agree));
}
