-- What a next event needs to be safe: none for one that accesses nothing; a deal for an atomic access; a share of the
-- cell for another one, and all shares where it changes the cell.
use Rattle.std.proofs.Common.{◌≡◌, ◌≤◌, ℕ, Bool, true, false, ◌⊎◌, inl, inr, List, [], ◌∷◌, Option, Some, None, ℤ, refl, sym, ap, subst, ◌∙◌, arith}
use Rattle.fsl_core.specs.declared.label.Label.{Label}
use Rattle.fsl_core.specs.declared.label.Label.TheVariants as label
use Rattle.fsl_core.specs.declared.mode.AllocKind.{AllocKind}
use Rattle.fsl_core.specs.declared.mode.AllocKind.TheVariants as kind
use Rattle.fsl_core.specs.declared.mode.Mode.{Mode}
use Rattle.fsl_core.specs.declared.mode.Mode.TheVariants as mode
use Rattle.fsl_core.specs.Moves.{kind_at}
use Rattle.fsl_graph.specs.declared.event.Event.{Event}
use Rattle.fsl_graph.specs.declared.graph.Graph.{Graph}
use Rattle.fsl_graph.specs.Events.{Is, Writes, Touch, Touches, read_by, written_by, is_atomic}
use Rattle.fsl_graph.specs.Sequenced.{In}
use Rattle.fsl_graph.specs.Happens.{Hb}
use Rattle.fsl_graph.specs.Execution.{Allocates, IsDistinct}
use Rattle.fsl_graph.specs.Safe.{Access, Accesses, access_by, IsAccess, IsRace, IsFreed, fits}
use Rattle.fsl_graph.specs.Orders.{Comes}
use Rattle.fsl_graph.specs.Positions.{Holder}
use Rattle.fsl_graph.specs.Positions.{Holder as holder}
use Rattle.fsl_graph.proofs.Threads.{one_event, one_access, one_kind}
use Rattle.fsl_own.specs.Owning.{Resource, Cell, World, full, Deal, Known, IsAlive, UsesCell, Owned}
use Rattle.fsl_own.proofs.Owning.{change_is_after, use_is_after}
use Rattle.fsl_ground.specs.Laws.{QuietIsSafe}
use Rattle.fsl_ground.specs.Ground.{Meaning, IsMade, IsAllocatedIn, IsSafeSoFar, Ground, IsSafeNext}

-- ---- kinds

-- an allocation is for atomic accesses, or for others
na_atomic : (b : Bool) → kind.Na ≡ kind_at b → ⊥
na_atomic true h = absurd (cc)
na_atomic false h = absurd (cc)

fits_plain : (k : AllocKind) → fits k false ≡ true → k ≡ kind.Na
fits_plain kind.Na h = refl
fits_plain kind.Acq h = cc
fits_plain kind.Rmw h = cc

fits_atomic : (k : AllocKind) → fits k true ≡ true → k ≡ kind.Na → ⊥
fits_atomic kind.Na h e = absurd (let f : false ≡ true = h in cc)
fits_atomic kind.Acq h e = absurd (cc)
fits_atomic kind.Rmw h e = absurd (cc)

kind_fits : (b : Bool) → fits (kind_at b) true ≡ true
kind_fits true = refl
kind_fits false = refl

-- an atomic location isn't accessed otherwise, and is no cell
pub made_not_plain : (g : Graph) (done : List ℕ) (l : ℤ) (d : Deal) → IsDistinct g → IsMade g done l d → IsAllocatedIn g done l false → ⊥
made_not_plain g done l d distinct m a =
    na_atomic d.rmw (sym (fits_plain a.kind a.fits) ∙ one_kind g distinct a.alloc m.alloc a.kind (kind_at d.rmw) l a.allocates m.made)

pub alive_not_atomic : (g : Graph) (done : List ℕ) (c : ℤ) → IsDistinct g → IsAlive g done c → IsAllocatedIn g done c true → ⊥
alive_not_atomic g done c distinct m a = fits_atomic a.kind a.fits (one_kind g distinct a.alloc m.alloc a.kind kind.Na c a.allocates m.made)

pub alive_not_made : (g : Graph) (done : List ℕ) (c : ℤ) (d : Deal) → IsDistinct g → IsAlive g done c → IsMade g done c d → ⊥
alive_not_made g done c d distinct a m = na_atomic d.rmw (one_kind g distinct a.alloc m.alloc kind.Na (kind_at d.rmw) c a.made m.made)

-- ---- labels

free_access : (g : Graph) (f : ℕ) (l : ℤ) (n : IsFreed g f l) → IsAccess g f n.event l false true
free_access g f l n = record { is = n.is; accesses = ap access_by n.frees }

-- what changes a cell writes it or frees it
changing : (x : Label) (c : ℤ) → access_by x ≡ Some (Accesses c false true) → ((m : Mode) × (v : ℤ) × (written_by x ≡ Some (Touches m c v))) ⊎ (x ≡ label.Free c)
changing (label.Store m l v) c h = let e : Some (Accesses l (is_atomic m) true) ≡ Some (Accesses c false true) = h in let q : l ≡ c = cc in inl (m, v, ap (λ (z : ℤ). Some (Touches m z v)) q)
changing (label.Rmw m l o n) c h = let e : Some (Accesses l (is_atomic m) true) ≡ Some (Accesses c false true) = h in let q : l ≡ c = cc in inl (m, n, ap (λ (z : ℤ). Some (Touches m z n)) q)
changing (label.Free l) c h = let e : Some (Accesses l false true) ≡ Some (Accesses c false true) = h in let q : l ≡ c = cc in inr (ap label.Free q)
changing (label.Load m l v) c h = absurd (let e : Some (Accesses l (is_atomic m) false) ≡ Some (Accesses c false true) = h in let q : false ≡ true = cc in cc)
changing (label.Alloc k l) c h = absurd (let e : None ≡ Some (Accesses c false true) = h in cc)
changing (label.Fence m) c h = absurd (let e : None ≡ Some (Accesses c false true) = h in cc)
changing (label.Fork ts) c h = absurd (let e : None ≡ Some (Accesses c false true) = h in cc)
changing (label.Join rs) c h = absurd (let e : None ≡ Some (Accesses c false true) = h in cc)
changing (label.Print v) c h = absurd (let e : None ≡ Some (Accesses c false true) = h in cc)
changing (label.End v) c h = absurd (let e : None ≡ Some (Accesses c false true) = h in cc)

-- ---- events that access nothing

-- an event that accesses nothing is safe
pub quiet_is_safe : QuietIsSafe
quiet_is_safe g done e x is quiet unread = record {
  no_race = λ a i r. none r.y r.loc r.b_atomic r.b_changes r.other;
  initialised = λ t reads. absurd (let f : None ≡ Some t = sym unread ∙ reads in cc);
  allocated = λ l atomic changes acc. absurd (none x l atomic changes acc);
  unfreed = λ f l atomic changes i free acc. none x l atomic changes acc;
  frees = λ l free a y atomic changes i acc. absurd (none free.event l false true (free_access g e l free));
}
  where
    none : (y : Event) (l : ℤ) (atomic changes : Bool) → IsAccess g e y l atomic changes → ⊥
    none y l atomic changes acc =
        let same : x ≡ y = one_event g e x y is acc.is in
        let f : None ≡ Some (Accesses l atomic changes) = sym quiet ∙ ap (λ (z : Event). access_by z.label) same ∙ acc.accesses in
        absurd (cc)

-- ---- atomic accesses

pub atomic_is_safe : (asks : Meaning) (g : Graph) (done but : List ℕ) (k : Known) (w : World) (e : ℕ) (x : Event) (l : ℤ) (changes : Bool) (d : Deal) → IsDistinct g → Ground asks g done but k w
    → Is g e x → access_by x.label ≡ Some (Accesses l true changes) → k.deals l ≡ Some d → ((t : Touch) → read_by x.label ≡ Some t → (s : ℕ) × (x.from ≡ Some s))
    → IsSafeNext g done e x
atomic_is_safe asks g done but k w e x l changes d distinct ground is accesses deal sourced =
    let made = ground.made l d deal in
    record {
      no_race = λ a i r.
          let at = one r.y r.loc r.b_atomic r.b_changes r.other in
          elim r.plain [
            | inl p ↦ made_not_plain g done l d distinct made (subst (λ (z : ℤ). IsAllocatedIn g done z false) (sym at.0)
                (subst (λ (b : Bool). IsAllocatedIn g done r.loc b) p (ground.safe.allocated a r.x r.loc r.a_atomic r.a_changes i r.accesses)))
            | inr p ↦ absurd (let b = at.1 in cc)
          ];
      initialised = sourced;
      allocated = λ z atomic writes acc.
          let at = one x z atomic writes acc in
          subst (λ (n : ℤ). IsAllocatedIn g done n atomic) at.0 (subst (λ (b : Bool). IsAllocatedIn g done l b) at.1
          (record { alloc = made.alloc; past = made.past; kind = kind_at d.rmw; allocates = made.made; fits = kind_fits d.rmw }));
      unfreed = λ f z atomic writes i free acc.
          let at = one x z atomic writes acc in
          made_not_plain g done l d distinct made (subst (λ (n : ℤ). IsAllocatedIn g done n false) (sym at.0)
          (ground.safe.allocated f free.event z false true i (free_access g f z free)));
      frees = λ z free a y atomic writes i acc. absurd (let at = (one free.event z false true (free_access g e z free)).1 in cc);
    }
  where
    one : (y : Event) (z : ℤ) (atomic writes : Bool) → IsAccess g e y z atomic writes → (l ≡ z) × (true ≡ atomic)
    one y z atomic writes acc = let q = one_access g e x y l z true atomic changes writes (record { is = is; accesses = accesses }) acc in (q.0, q.1)

-- ---- accesses of cells

pub plain_is_safe : (asks : Meaning) (g : Graph) (done but : List ℕ) (k : Known) (w : World) (e : ℕ) (x : Event) (c : ℤ) (changes : Bool) → IsDistinct g → Ground asks g done but k w
    → Comes g done e x → access_by x.label ≡ Some (Accesses c false changes) → 1 ≤ w (holder.Plain x.thread) (Cell c)
    → (changes ≡ true → full ≤ w (holder.Plain x.thread) (Cell c)) → ((t : Touch) → read_by x.label ≡ Some t → (s : ℕ) × (x.from ≡ Some s))
    → IsSafeNext g done e x
plain_is_safe asks g done but k w e x c changes distinct ground comes accesses some all sourced =
    let alive : IsAlive g done c = ground.owned.there (holder.Plain x.thread) (Cell c) some in
    record {
      no_race = λ a i r.
          let at = one r.y r.loc r.b_atomic r.b_changes r.other in
          let acc : IsAccess g a r.x c r.a_atomic r.a_changes = subst (λ (n : ℤ). IsAccess g a r.x n r.a_atomic r.a_changes) (sym at.0) r.accesses in
          elim r.changes [
            | inl q ↦ r.unordered (changed_before a r.x r.a_atomic i (subst (λ (b : Bool). IsAccess g a r.x c r.a_atomic b) q acc))
            | inr q ↦ r.unordered (change_is_after g done k w e x c ground.owned comes (all (at.2 ∙ q)) a i (uses a r.x r.a_atomic r.a_changes i acc))
          ];
      initialised = sourced;
      allocated = λ z atomic writes acc.
          let at = one x z atomic writes acc in
          subst (λ (n : ℤ). IsAllocatedIn g done n atomic) at.0 (subst (λ (b : Bool). IsAllocatedIn g done c b) at.1
          (record { alloc = alive.alloc; past = alive.past; kind = kind.Na; allocates = alive.made; fits = refl }));
      unfreed = λ f z atomic writes i free acc.
          let at = one x z atomic writes acc in
          alive.unfreed f i (subst (λ (n : ℤ). IsFreed g f n) (sym at.0) free);
      frees = λ z free a y atomic writes i acc.
          let at = one free.event z false true (free_access g e z free) in
          change_is_after g done k w e x c ground.owned comes (all at.2) a i
          (uses a y atomic writes i (subst (λ (n : ℤ). IsAccess g a y n atomic writes) (sym at.0) acc));
    }
  where
    one : (y : Event) (z : ℤ) (atomic writes : Bool) → IsAccess g e y z atomic writes → (c ≡ z) × (false ≡ atomic) × (changes ≡ writes)
    one y z atomic writes acc = one_access g e x y c z false atomic changes writes (record { is = comes.is; accesses = accesses }) acc

    plain : (a : ℕ) (y : Event) (atomic writes : Bool) → In a done → IsAccess g a y c atomic writes → atomic ≡ false
    plain a y true writes i acc = absurd (alive_not_atomic g done c distinct (ground.owned.there (holder.Plain x.thread) (Cell c) some) (ground.safe.allocated a y c true writes i acc))
    plain a y false writes i acc = refl

    uses : (a : ℕ) (y : Event) (atomic writes : Bool) → In a done → IsAccess g a y c atomic writes → UsesCell g a c
    uses a y atomic writes i acc = record { event = y; changes = writes; access = subst (λ (b : Bool). IsAccess g a y c b writes) (plain a y atomic writes i acc) acc }

    changed_before : (a : ℕ) (y : Event) (atomic : Bool) → In a done → IsAccess g a y c atomic true → Hb g a e
    changed_before a y atomic i acc =
        let p : access_by y.label ≡ Some (Accesses c false true) = subst (λ (b : Bool). access_by y.label ≡ Some (Accesses c b true)) (plain a y atomic true i acc) acc.accesses in
        elim (changing y.label c p) [
          | inl h ↦ use_is_after g done k w e x c ground.owned comes some a h.0 h.1 i (record { event = y; is = acc.is; writes = h.2 })
          | inr h ↦ absurd ((ground.owned.there (holder.Plain x.thread) (Cell c) some).unfreed a i (record { event = y; is = acc.is; frees = h }))
        ]
