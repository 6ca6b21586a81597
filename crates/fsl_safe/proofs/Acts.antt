-- Every label that a good thread shows, but those of starting, joining and ending threads, keeps the ground.
use Rattle.std.proofs.Common.{◌≡◌, ◌≤◌, ◌<ℤ◌, ℕ, zero, suc, Bool, true, false, inr, if◌then◌else◌, List, [], ◌∷◌, ◌++◌, Option, Some, None, ℤ, pos, refl, sym, ap, subst, ◌∙◌, arith}
use Rattle.fsl_core.specs.declared.label.Label.{Label}
use Rattle.fsl_core.specs.declared.label.Label.TheVariants as label
use Rattle.fsl_core.specs.declared.mode.AllocKind.{AllocKind}
use Rattle.fsl_core.specs.declared.mode.AllocKind.TheVariants as kind
use Rattle.fsl_core.specs.declared.mode.Mode.{Mode}
use Rattle.fsl_core.specs.declared.mode.Mode.TheVariants as mode
use Rattle.fsl_core.specs.declared.need.Need.{Need}
use Rattle.fsl_core.specs.Modes.{is_atomic}
use Rattle.fsl_core.specs.Moves.{kind_at}
use Rattle.fsl_graph.specs.declared.event.Event.{Event}
use Rattle.fsl_graph.specs.declared.graph.Graph.{Graph}
use Rattle.fsl_graph.specs.Events.{read_by, written_by}
use Rattle.fsl_graph.specs.Sequenced.{In}
use Rattle.fsl_graph.specs.Consistent.{IsConsistent}
use Rattle.fsl_graph.specs.Execution.{Allocates, IsDistinct, ArePositive}
use Rattle.fsl_graph.specs.Safe.{access_by}
use Rattle.fsl_graph.specs.Orders.{Comes}
use Rattle.fsl_graph.specs.Positions.{Holder, Position}
use Rattle.fsl_graph.specs.Positions.{Holder as holder}
use Rattle.fsl_own.specs.Owning.{Resource, Cell, Permission, Tokens, Bank, Heap, World, full, only, Deal, Known, Adds, KeepsDeals, Agree}
use Rattle.fsl_own.specs.Atoms.{Atom, Points, Rel, Acq, RmwAcq, Has}
use Rattle.fsl_own.proofs.Knowing.{positions_grow}
use Rattle.fsl_own.proofs.Totals.{more_at}
use Rattle.fsl_ground.specs.Ground.{Meaning, Ground}
use Rattle.fsl_ground.specs.Changes.{with_deal, permissions}
use Rattle.fsl_ground.proofs.Ground.{same_agrees}
use Rattle.fsl_ground.proofs.Deals.{alloc_deal, deal_agrees, deal_keeps}
use Rattle.fsl_ground.proofs.Tables.{int_here}
use Rattle.fsl_good.specs.Pieces.{Level, AtPlain, AtUp, AtDown, same_level, holder_of, Piece, plain, asked_at, demand_at, RightPieces, Fits}
use Rattle.fsl_good.specs.Good.{Logic, deal, acquisitions, LoadsAt, StoresAt, Allows}
use Rattle.fsl_good.specs.Keeping.{Keeps, Acted}
use Rattle.fsl_good.proofs.Pieces.{demand_more, right_more}
use Rattle.fsl_good.proofs.Shifting.{pieces_stay, others_at}
use Rattle.fsl_good.proofs.Acting.{quiet_acts, make_acts, load_acts, store_acts, free_acts, other_holder}
use Rattle.fsl_good.proofs.Fencing.{fence_acts}
use Rattle.fsl_good.proofs.Gaining.{atomic_load_acts}
use Rattle.fsl_good.proofs.Sending.{put_acts}
use Rattle.fsl_good.proofs.Replacing.{replace_acts}

-- ---- atomic locations are made

-- leave to acquire all parts asks for their permissions, at plain
acquisitions_ask : (a : Level) (c : ℤ) (inv : ℕ) (args : List ℤ) (n : ℕ) (r : Resource) → demand_at a (acquisitions c inv args n) r ≡ (if same_level a AtPlain then permissions c n r else 0)
acquisitions_ask AtPlain c inv args zero r = refl
acquisitions_ask AtUp c inv args zero r = refl
acquisitions_ask AtDown c inv args zero r = refl
acquisitions_ask AtPlain c inv args (suc n) r = let e = acquisitions_ask AtPlain c inv args n r in omega arith
acquisitions_ask AtUp c inv args (suc n) r = let e = acquisitions_ask AtUp c inv args n r in omega arith
acquisitions_ask AtDown c inv args (suc n) r = let e = acquisitions_ask AtDown c inv args n r in omega arith

none_out : (k : Known) (c : ℤ) (d : Deal) (part : ℕ) (v : ℤ) (out : List ℤ) → Has v ((with_deal k c d).out c part) → Has v out
none_out k c d part v out h = elim (subst (λ (xs : List ℤ). Has v xs) (int_here c [] (k.out c part)) h) [ ]

acquisitions_right : (g : Graph) (done : List ℕ) (k : Known) (t : ℕ) (c : ℤ) (inv : ℕ) (args : List ℤ) (n : ℕ) → RightPieces g done (with_deal k c (deal false inv args)) t (acquisitions c inv args n)
acquisitions_right g done k t c inv args zero = tt
acquisitions_right g done k t c inv args (suc n) =
    ((int_here c (Some (deal false inv args)) (k.deals c), (λ v h. none_out k c (deal false inv args) n v [] h)), acquisitions_right g done k t c inv args n)

-- a new atomic location, with leave to do to it what its deal says
made_acts : (asks : Meaning) (g : Graph) (done : List ℕ) (e : ℕ) (x : Event) (k : Known) (w : World) (c : ℤ) (d : Deal) (n : ℕ) (K : List Piece → Type 0) (xs news : List Piece) → IsDistinct g
    → Ground asks g done [] k w → Comes g done e x → x.label ≡ label.Alloc (kind_at d.rmw) c → Fits g done k w x.thread xs
    → ((a : Level) (r : Resource) → demand_at a news r ≡ (if same_level a AtPlain then permissions c n r else 0)) → RightPieces g (e ∷ done) (with_deal k c d) x.thread news
    → K (news ++ xs) → Acted asks g (e ∷ done) k w x.thread K
made_acts asks g done e x k w c d n K xs news distinct ground comes is f amounts right next =
    from (more_at w (holder.Plain x.thread) (permissions c n))
  where
    agrees : (h : Holder) (r : Resource) → 1 ≤ w h r → Agree k (with_deal k c d) r
    agrees h r o = deal_agrees asks g done [] k w e x c d distinct ground comes is h r o

    from : (v : World) × Adds w v (holder.Plain x.thread) (permissions c n) → Acted asks g (e ∷ done) k w x.thread K
    from v = record {
      known = with_deal k c d;
      world = v.0;
      ground = alloc_deal asks g done [] k w v.0 e x c d n distinct ground comes is v.1;
      pieces = news ++ xs;
      fits = record {
        enough = λ a r. let p = others_at w v.0 x.thread (permissions c n) a r v.1 in let q = amounts a r in let s = demand_more a news xs r in let y = f.enough a r in omega arith;
        right = right_more g (e ∷ done) (with_deal k c d) x.thread news xs right
            (pieces_stay g done (e ∷ done) k (with_deal k c d) x.thread xs (λ a i. inr i) (λ a b p. positions_grow g done e (holder_of x.thread a) b p)
            (deal_keeps asks g done [] k w e x c d distinct ground comes is) (λ a r o. agrees (holder_of x.thread a) r (let y = f.enough a r in omega arith)) f.right);
      };
      next = next;
      deals = deal_keeps asks g done [] k w e x c d distinct ground comes is;
      others = λ u a m. record {
        grows = λ r. let q = v.1.others (holder_of u a) r (other_holder u x.thread a m) in omega arith;
        agree = λ r o. agrees (holder_of u a) r o;
      };
    }

rel_asks : (a : Level) (c : ℤ) (inv : ℕ) (args : List ℤ) (ys : List Piece) (r : Resource) → demand_at a (plain (Rel c inv args) ∷ ys) r ≡ demand_at a ys r
rel_asks AtPlain c inv args ys r = omega arith
rel_asks AtUp c inv args ys r = omega arith
rel_asks AtDown c inv args ys r = omega arith

leaves_ask : (a : Level) (c : ℤ) (inv : ℕ) (args : List ℤ) (r : Resource) → demand_at a (plain (Rel c inv args) ∷ plain (RmwAcq c inv args) ∷ []) r ≡ (if same_level a AtPlain then permissions c 0 r else 0)
leaves_ask AtPlain c inv args r = refl
leaves_ask AtUp c inv args r = refl
leaves_ask AtDown c inv args r = refl

-- ---- all labels

-- those that start, join and end no thread
abbrev pub IsOwn : Label → Type 0
IsOwn (label.Fork children) = ⊥
IsOwn (label.Join results) = ⊥
IsOwn (label.End v) = ⊥
IsOwn (label.Alloc k c) = Unit {0}
IsOwn (label.Free c) = Unit {0}
IsOwn (label.Load m c v) = Unit {0}
IsOwn (label.Store m c v) = Unit {0}
IsOwn (label.Rmw m c old new) = Unit {0}
IsOwn (label.Fence m) = Unit {0}
IsOwn (label.Print v) = Unit {0}

not_atomic : (m : Mode) → is_atomic m ≡ false → m ≡ mode.Na
not_atomic mode.Na h = refl
not_atomic mode.Rlx h = cc
not_atomic mode.Acq h = cc
not_atomic mode.Rel h = cc
not_atomic mode.AcqRel h = cc

pub own_acts : (l : Logic) (g : Graph) (done : List ℕ) (e : ℕ) (x : Event) (k : Known) (w : World) (o : l.Owed) (n : Need) (K : List l.Owed → List Piece → Type 0) (waits : List l.Owed) (xs : List Piece) (shown : Label)
    → IsConsistent g → IsDistinct g → ArePositive g → Ground l.asks g done [] k w → Comes g done e x → x.label ≡ shown → IsOwn shown → Fits g done k w x.thread xs → Allows l o n shown K waits xs
    → Acted l.asks g (e ∷ done) k w x.thread (K waits)
own_acts l g done e x k w o n K waits xs (label.Alloc kind.Na c) consistent distinct positive ground comes is own f allows =
    make_acts l.asks g done e x k w c (K waits) xs distinct ground comes is f (allows (positive e kind.Na c (record { event = x; is = comes.is; allocates = is })))
own_acts l g done e x k w o n K waits xs (label.Alloc kind.Acq c) consistent distinct positive ground comes is own f allows =
    let made = allows (positive e kind.Acq c (record { event = x; is = comes.is; allocates = is })) in
    made_acts l.asks g done e x k w c (deal false made.0 made.1) made.2 (K waits) xs (plain (Rel c made.0 made.1) ∷ acquisitions c made.0 made.1 made.2) distinct ground comes is f
    (λ a r. rel_asks a c made.0 made.1 (acquisitions c made.0 made.1 made.2) r ∙ acquisitions_ask a c made.0 made.1 made.2 r)
    ((false, int_here c (Some (deal false made.0 made.1)) (k.deals c)), acquisitions_right g (e ∷ done) k x.thread c made.0 made.1 made.2)
    made.3
own_acts l g done e x k w o n K waits xs (label.Alloc kind.Rmw c) consistent distinct positive ground comes is own f allows =
    let made = allows (positive e kind.Rmw c (record { event = x; is = comes.is; allocates = is })) in
    made_acts l.asks g done e x k w c (deal true made.0 made.1) 0 (K waits) xs (plain (Rel c made.0 made.1) ∷ plain (RmwAcq c made.0 made.1) ∷ []) distinct ground comes is f
    (λ a r. leaves_ask a c made.0 made.1 r)
    ((true, int_here c (Some (deal true made.0 made.1)) (k.deals c)), (int_here c (Some (deal true made.0 made.1)) (k.deals c), tt))
    made.2
own_acts l g done e x k w o n K waits xs (label.Free c) consistent distinct positive ground comes is own f allows = free_acts l.asks g done e x k w c (K waits) xs distinct ground comes is f allows
own_acts l g done e x k w o n K waits xs (label.Load m c v) consistent distinct positive ground comes is own f allows = by_mode (is_atomic m) refl allows
  where
    by_mode : (b : Bool) → is_atomic m ≡ b → LoadsAt l b m c v (K waits) xs → Acted l.asks g (e ∷ done) k w x.thread (K waits)
    by_mode true h a = atomic_load_acts l.asks g done e x k w m c v (K waits) xs consistent distinct ground comes is h f a.0 a.1
    by_mode false h a = load_acts l.asks g done e x k w c v (K waits) xs consistent distinct ground comes (is ∙ ap (λ (z : Mode). label.Load z c v) (not_atomic m h)) f a
own_acts l g done e x k w o n K waits xs (label.Store m c v) consistent distinct positive ground comes is own f allows = by_mode (is_atomic m) refl allows
  where
    by_mode : (b : Bool) → is_atomic m ≡ b → StoresAt l b m c v (K waits) xs → Acted l.asks g (e ∷ done) k w x.thread (K waits)
    by_mode true h a = put_acts l.asks g done e x k w m c v (K waits) xs distinct ground comes is h f a
    by_mode false h a = store_acts l.asks g done e x k w c v (K waits) xs consistent distinct ground comes (is ∙ ap (λ (z : Mode). label.Store z c v) (not_atomic m h)) f a
own_acts l g done e x k w o n K waits xs (label.Rmw m c old new) consistent distinct positive ground comes is own f allows =
    replace_acts l.asks g done e x k w m c old new (K waits) xs consistent distinct ground comes is allows.0 f allows.1
own_acts l g done e x k w o n K waits xs (label.Fence m) consistent distinct positive ground comes is own f allows = fence_acts l.asks g done e x k w m (K waits) xs ground comes is f allows
own_acts l g done e x k w o n K waits xs (label.Print v) consistent distinct positive ground comes is own f allows =
    quiet_acts l.asks g done e x k w (K waits) xs ground comes (ap access_by is) (ap read_by is) (ap written_by is) f allows
own_acts l g done e x k w o n K waits xs (label.Fork children) consistent distinct positive ground comes is own f allows = elim own [ ]
own_acts l g done e x k w o n K waits xs (label.Join results) consistent distinct positive ground comes is own f allows = elim own [ ]
own_acts l g done e x k w o n K waits xs (label.End v) consistent distinct positive ground comes is own f allows = elim own [ ]
