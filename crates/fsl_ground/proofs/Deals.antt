-- The allocation of an atomic location: its deal is known from then on, and the thread gets leave to acquire its parts.
use Rattle.std.proofs.Common.{◌≡◌, ◌≤◌, ◌<◌, ◌+◌, ℕ, zero, suc, Bool, true, false, ◌⊎◌, inl, inr, List, [], ◌∷◌, Option, Some, None, ℤ, refl, sym, ap, subst, ◌∙◌, arith, if◌then◌else◌, int_eq}
use Rattle.fsl_core.specs.declared.label.Label.TheVariants as label
use Rattle.fsl_core.specs.declared.mode.AllocKind.{AllocKind}
use Rattle.fsl_core.specs.declared.mode.Mode.{Mode}
use Rattle.fsl_core.specs.Moves.{kind_at}
use Rattle.fsl_graph.specs.declared.event.Event.{Event}
use Rattle.fsl_graph.specs.declared.graph.Graph.{Graph}
use Rattle.fsl_graph.specs.Events.{Writes, read_by, written_by}
use Rattle.fsl_graph.specs.Sequenced.{In}
use Rattle.fsl_graph.specs.Execution.{Allocates, IsDistinct}
use Rattle.fsl_graph.specs.Safe.{access_by}
use Rattle.fsl_graph.specs.Orders.{Comes}
use Rattle.fsl_graph.specs.Positions.{Holder}
use Rattle.fsl_graph.specs.Positions.{Holder as holder}
use Rattle.fsl_own.specs.Owning.{Resource, Cell, Permission, Tokens, Bank, Heap, World, only, Deal, Known, limit, IsThere, Adds, KeepsDeals, Agree}
use Rattle.fsl_own.specs.Atoms.{Has}
use Rattle.fsl_own.proofs.Totals.{only_here, only_elsewhere, only_some, same_resource, none_or_some}
use Rattle.fsl_own.proofs.Owning.{kept_by_gaining}
use Rattle.fsl_ground.specs.Ground.{Meaning, IsDue, Sends, IsMade, Ground}
use Rattle.fsl_ground.specs.Changes.{with_deal, permissions}
use Rattle.fsl_ground.proofs.Ground.{ground_changed, due_before}
use Rattle.fsl_ground.proofs.Cells.{quiet_keeps, new_location, unwritten, writes_not, message_not_plain}
use Rattle.fsl_ground.proofs.Tables.{int_here, int_elsewhere, int_or}

permission_loc : (a b : ℤ) (p q : ℕ) → Permission a p ≡ Permission b q → a ≡ b
permission_loc a b p q e = cc

permission_part : (a b : ℤ) (p q : ℕ) → Permission a p ≡ Permission b q → p ≡ q
permission_part a b p q e = cc

-- permissions are of the location, and one of each part
pub permissions_at : (l : ℤ) (n : ℕ) (r : Resource) → 1 ≤ permissions l n r → (q : ℕ) × (q < n) × (Permission l q ≡ r)
permissions_at l zero r h = absurd (omega arith)
permissions_at l (suc n) r h = elim (none_or_some (only (Permission l n) 1 r)) [
  | inl z ↦ let more = permissions_at l n r (omega arith) in (more.0, omega (arith, more.1), more.2)
  | inr o ↦ (n, omega arith, only_some (Permission l n) r 1 o)
]

permissions_above : (l : ℤ) (n q : ℕ) → n ≤ q → permissions l n (Permission l q) ≡ 0
permissions_above l n q h = elim (none_or_some (permissions l n (Permission l q))) [
  | inl z ↦ z
  | inr o ↦ absurd (let m = permissions_at l n (Permission l q) o in let s = permission_part l l m.0 q m.2 in let b = m.1 in omega arith)
]

permissions_most : (l : ℤ) (n : ℕ) (r : Resource) → permissions l n r ≤ 1
permissions_most l zero r = omega arith
permissions_most l (suc n) r = elim (same_resource (Permission l n) r) [
  | inl e ↦
      let one : only (Permission l n) 1 r ≡ 1 = subst (λ (z : Resource). only (Permission l n) 1 z ≡ 1) e (only_here (Permission l n) 1) in
      let none : permissions l n r ≡ 0 = subst (λ (z : Resource). permissions l n z ≡ 0) e (permissions_above l n n (omega arith)) in
      omega arith
  | inr f ↦ let z = only_elsewhere (Permission l n) r 1 f in let m = permissions_most l n r in omega arith
]

-- a location that is allocated only now has no deal yet
undealt : (asks : Meaning) (g : Graph) (done but : List ℕ) (k : Known) (w : World) (e : ℕ) (x : Event) (l : ℤ) (d : Deal) → IsDistinct g → Ground asks g done but k w → Comes g done e x
    → x.label ≡ label.Alloc (kind_at d.rmw) l → (j : ℤ) (f : Deal) → k.deals j ≡ Some f → j ≡ l → ⊥
undealt asks g done but k w e x l d distinct ground comes is j f q p =
    let m = ground.made l f (subst (λ (z : ℤ). k.deals z ≡ Some f) p q) in
    new_location asks g done but k w e x l (kind_at d.rmw) distinct ground comes is (kind_at f.rmw) m.alloc m.past m.made

-- so those that there are stay
pub deal_keeps : (asks : Meaning) (g : Graph) (done but : List ℕ) (k : Known) (w : World) (e : ℕ) (x : Event) (l : ℤ) (d : Deal) → IsDistinct g → Ground asks g done but k w → Comes g done e x
    → x.label ≡ label.Alloc (kind_at d.rmw) l → KeepsDeals k (with_deal k l d)
deal_keeps asks g done but k w e x l d distinct ground comes is j f q =
    int_elsewhere j l (Some d) (k.deals j) (λ p. undealt asks g done but k w e x l d distinct ground comes is j f q p) ∙ q

-- and what is known of what somebody has
pub deal_agrees : (asks : Meaning) (g : Graph) (done but : List ℕ) (k : Known) (w : World) (e : ℕ) (x : Event) (l : ℤ) (d : Deal) → IsDistinct g → Ground asks g done but k w → Comes g done e x
    → x.label ≡ label.Alloc (kind_at d.rmw) l → (h : Holder) (r : Resource) → 1 ≤ w h r → Agree k (with_deal k l d) r
deal_agrees asks g done but k w e x l d distinct ground comes is h (Cell c) o = refl
deal_agrees asks g done but k w e x l d distinct ground comes is h (Tokens b) o = tt
deal_agrees asks g done but k w e x l d distinct ground comes is h (Bank b) o = refl
deal_agrees asks g done but k w e x l d distinct ground comes is h (Permission j q) o =
    let there : (f : Deal) × (k.deals j ≡ Some f) = ground.owned.there h (Permission j q) o in
    int_elsewhere j l [] (k.out j q) (λ p. undealt asks g done but k w e x l d distinct ground comes is j there.0 there.1 p)

pub alloc_deal : (asks : Meaning) (g : Graph) (done but : List ℕ) (k : Known) (w v : World) (e : ℕ) (x : Event) (l : ℤ) (d : Deal) (n : ℕ) → IsDistinct g → Ground asks g done but k w
    → Comes g done e x → x.label ≡ label.Alloc (kind_at d.rmw) l → Adds w v (holder.Plain x.thread) (permissions l n) → Ground asks g (e ∷ done) but (with_deal k l d) v
alloc_deal asks g done but k w v e x l d n distinct ground comes is a =
    let after = quiet_keeps asks g done but k w e x ground comes (ap access_by is) (ap read_by is) (ap written_by is) in
    ground_changed asks g (e ∷ done) but k (with_deal k l d) w v after
    (kept_by_gaining g (e ∷ done) k (with_deal k l d) w v (holder.Plain x.thread) (permissions l n) after.owned a
    (λ r h. there_more r h)
    (λ r o. let m = permissions_at l n r o in subst (λ (z : Resource). IsThere g (e ∷ done) (with_deal k l d) z) m.2 (d, int_here l (Some d) (k.deals l)))
    limits
    (λ c o. absurd (let m = permissions_at l n (Cell c) o in let q = m.2 in cc)))
    after.right
    (λ j f q. elim (int_or j l) [
      | inl p ↦
          let known = subst (λ (z : ℤ). (with_deal k l d).deals z ≡ Some d) (sym p) (int_here l (Some d) (k.deals l)) in
          let y : Some d ≡ Some f = sym known ∙ q in
          let same : d ≡ f = cc in
          subst (λ (z : ℤ). IsMade g (e ∷ done) z f) (sym p) (subst (λ (z : Deal). IsMade g (e ∷ done) l z) same
          (record { alloc = e; past = inl refl; made = record { event = x; is = comes.is; allocates = is } }))
      | inr p ↦ after.made j f (sym (int_elsewhere j l (Some d) (k.deals j) p) ∙ q)
    ])
    keeps
    (λ m f j u i s. elim (int_or j l) [
      | inl p ↦ absurd (unsent m s.mode u i (subst (λ (z : ℤ). Writes g m s.mode z u) p s.writes))
      | inr p ↦ record { mode = s.mode; writes = s.writes; made = sym (int_elsewhere j l (Some d) (k.deals j) p) ∙ s.made }
    ])
    (λ m f j u part s due. due_before g (e ∷ done) k (with_deal k l d) m j u part f.rmw
    (λ h. subst (λ (xs : List ℤ). Has u xs) (sym (int_elsewhere j l [] (k.out j part) (λ p. undealt asks g done but k w e x l d distinct ground comes is j f s.made p))) h) due)
    (λ m part r. let s = a.others (holder.Message m part) r (message_not_plain m part x.thread) in omega arith)
    (λ m part r o. deal_agrees asks g done but k w e x l d distinct ground comes is (holder.Message m part) r o)
  where
    new : (i : AllocKind) (b : ℕ) → In b done → Allocates g b i l → ⊥
    new = new_location asks g done but k w e x l (kind_at d.rmw) distinct ground comes is

    keeps : KeepsDeals k (with_deal k l d)
    keeps = deal_keeps asks g done but k w e x l d distinct ground comes is

    there_more : (r : Resource) → IsThere g (e ∷ done) k r → IsThere g (e ∷ done) (with_deal k l d) r
    there_more (Cell c) h = h
    there_more (Permission j q) h = (h.0, keeps j h.0 h.1)
    there_more (Tokens b) h = h
    there_more (Bank b) h = h

    unsent : (m : ℕ) (y : Mode) (u : ℤ) → In m (e ∷ done) → Writes g m y l u → ⊥
    unsent m y u (inl q) z = writes_not g e x y l u comes.is (ap written_by is) (subst (λ (o : ℕ). Writes g o y l u) q z)
    unsent m y u (inr i) z = unwritten asks g done but k w l ground new m y u i z

    none_of : (r : Resource) → ((q : ℕ) → Permission l q ≡ r → ⊥) → permissions l n r ≡ 0
    none_of r f = elim (none_or_some (permissions l n r)) [ inl z ↦ z | inr o ↦ absurd (let m = permissions_at l n r o in f m.0 m.2) ]

    limits : (r : Resource) (c : ℕ) → c ≤ limit k r → (((h : Holder) → 1 ≤ w h r → ⊥) → c ≡ 0) → c + permissions l n r ≤ limit (with_deal k l d) r
    limits (Cell b) c h none = let z = none_of (Cell b) (λ q p. absurd (cc)) in omega arith
    limits (Tokens b) c h none = let z = none_of (Tokens b) (λ q p. absurd (cc)) in omega arith
    limits (Bank b) c h none = let z = none_of (Bank b) (λ q p. absurd (cc)) in omega arith
    limits (Permission j q) c h none = elim (int_or j l) [
      | inl p ↦
          let no = none (λ z o. let there : (f : Deal) × (k.deals j ≡ Some f) = ground.owned.there z (Permission j q) o in undealt asks g done but k w e x l d distinct ground comes is j there.0 there.1 p) in
          let most = permissions_most l n (Permission j q) in
          omega arith
      | inr f ↦ let z = none_of (Permission j q) (λ y p. f (sym (permission_loc l j y q p))) in omega arith
    ]
