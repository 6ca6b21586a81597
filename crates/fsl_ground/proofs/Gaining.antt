-- A part of an invariant is gained: it leaves the message, cells to where the read puts them and all else to plain, and
-- its value is gained from then on.
use Rattle.std.proofs.Common.{◌≡◌, ◌≤◌, ◌+◌, ℕ, Bool, true, false, ◌&&◌, ◌==◌, ◌⊎◌, inl, inr, List, [], ◌∷◌, Option, Some, ℤ, int_eq, refl, sym, ap, subst, ◌∙◌, arith, if◌then◌else◌}
use Rattle.std.proofs.lemmas.Bool.{cases_Bool, and_parts, eqb-true, eq-eqb}
use Rattle.std.proofs.lemmas.Bool.Decides.{Decides-int_eq}
use Rattle.fsl_core.specs.declared.mode.Mode.{Mode}
use Rattle.fsl_graph.specs.declared.graph.Graph.{Graph}
use Rattle.fsl_graph.specs.Events.{Writes}
use Rattle.fsl_graph.specs.Sequenced.{In}
use Rattle.fsl_graph.specs.Positions.{Holder}
use Rattle.fsl_graph.specs.Positions.{Holder as holder}
use Rattle.fsl_graph.proofs.Threads.{one_write}
use Rattle.fsl_own.specs.Knowledge.{Tells}
use Rattle.fsl_own.specs.Owning.{Resource, Cell, Permission, Tokens, Bank, Heap, World, Deal, Known, limit, IsThere, Owned, Adds, Gives, KeepsDeals, Agree}
use Rattle.fsl_own.specs.Atoms.{Atom, demand, Has, AreRight, Holds}
use Rattle.fsl_own.proofs.Totals.{give_to, same_holder}
use Rattle.fsl_own.proofs.Owning.{alone}
use Rattle.fsl_own.proofs.Atoms.{stay_right}
use Rattle.fsl_ground.specs.Ground.{Meaning, IsDue, Sends, Ground, IsFree}
use Rattle.fsl_ground.specs.Changes.{with_out}
use Rattle.fsl_ground.proofs.Ground.{ground_by_knowing, ground_by_giving}

-- ---- what was gained

-- the cells that atoms ask for, and all else
abbrev pub cells_of : List Atom → Heap
cells_of ys (Cell c) = demand ys (Cell c)
cells_of ys (Permission l part) = 0
cells_of ys (Tokens b) = 0
cells_of ys (Bank b) = 0

abbrev pub else_of : List Atom → Heap
else_of ys (Cell c) = 0
else_of ys (Permission l part) = demand ys (Permission l part)
else_of ys (Tokens b) = demand ys (Tokens b)
else_of ys (Bank b) = demand ys (Bank b)

pub in_two : (ys : List Atom) (r : Resource) → cells_of ys r + else_of ys r ≡ demand ys r
in_two ys (Cell c) = omega arith
in_two ys (Permission l part) = omega arith
in_two ys (Tokens b) = omega arith
in_two ys (Bank b) = omega arith

no_cell : (ys : List Atom) (c : ℤ) → else_of ys (Cell c) ≡ 0
no_cell ys c = refl

out_here : (k : Known) (l : ℤ) (q : ℕ) (v : ℤ) → Has v ((with_out k l q v).out l q)
out_here k l q v = let e = (Decides-int_eq l l).1 refl in let f = eq-eqb q q refl in rw (e, f) (inl refl)

out_more : (k : Known) (l : ℤ) (q : ℕ) (v : ℤ) (j u : ℤ) (p : ℕ) → Has u (k.out j p) → Has u ((with_out k l q v).out j p)
out_more k l q v j u p h = elim (cases_Bool (int_eq j l && p == q)) [ inl t ↦ rw t (inr h) | inr f ↦ rw f h ]

pub out_split : (k : Known) (l : ℤ) (q : ℕ) (v u : ℤ) → Has u ((with_out k l q v).out l q) → (u ≡ v) ⊎ Has u (k.out l q)
out_split k l q v u h =
    let e = (Decides-int_eq l l).1 refl in let f = eq-eqb q q refl in
    let t : (int_eq l l && (q == q)) ≡ true = rw (e, f) refl in
    subst (λ (b : Bool). Has u (if b then v ∷ k.out l q else k.out l q)) t h

pub out_agrees : (k : Known) (l : ℤ) (q : ℕ) (v : ℤ) (r : Resource) → (r ≡ Permission l q → ⊥) → Agree k (with_out k l q v) r
out_agrees k l q v (Cell c) n = refl
out_agrees k l q v (Tokens b) n = tt
out_agrees k l q v (Bank b) n = refl
out_agrees k l q v (Permission j p) n = elim (cases_Bool (int_eq j l && p == q)) [
  | inl t ↦
      let a = and_parts (int_eq j l) (p == q) t in
      let e : j ≡ l = (Decides-int_eq j l).0 a.0 in
      let f : p ≡ q = eqb-true p q a.1 in
      absurd (n (cc))
  | inr f ↦ rw f refl
]

-- nobody has less where somebody gets more
pub grows : (u v : World) (b : Holder) (d : Heap) (h : Holder) (r : Resource) → Adds u v b d → u h r ≤ v h r
grows u v b d h r a = elim (same_holder h b) [
  | inl e ↦ subst (λ (z : Holder). u z r ≤ v z r) (sym e) (let s = a.here r in omega arith)
  | inr n ↦ let s = a.others h r n in omega arith
]

-- ---- the gain

pub record Gained (asks : Meaning) (g : Graph) (done : List ℕ) (k : Known) (w : World) (m t : ℕ) (b : Holder) (l : ℤ) (q : ℕ) (v : ℤ) (d : Deal) : Type 0 where
  pub atoms : List Atom
  pub asked : asks d q v atoms
  pub mid : World
  pub world : World
  pub cells : Gives w mid (holder.Message m q) b (cells_of atoms)
  pub others : Gives mid world (holder.Message m q) (holder.Plain t) (else_of atoms)
  pub ground : Ground asks g done [] (with_out k l q v) world
  pub right : AreRight g done (with_out k l q v) b atoms

pub gain_part : (asks : Meaning) (g : Graph) (done : List ℕ) (k : Known) (w : World) (m t : ℕ) (n : Mode) (b : Holder) (l : ℤ) (q : ℕ) (v : ℤ) (d : Deal) → Ground asks g done [] k w → In m done
    → Writes g m n l v → k.deals l ≡ Some d → d.rmw ≡ false → 1 ≤ w (holder.Plain t) (Permission l q) → (Has v (k.out l q) → ⊥) → Tells g done (holder.Message m q) b
    → Gained asks g done k w m t b l q v d
gain_part asks g done k w m t n b l q v d x past writes deal loads has new tells =
    let held = x.messages m d l v q past (λ i. i) (record { mode = n; writes = writes; made = deal }) (due d.rmw loads) in
    let known = ground_by_knowing asks g done [] k (with_out k l q v) w x (λ r h. there_more r h) (λ r. limit_more r) x.right refl (λ j u p h. out_more k l q v j u p h)
    (λ a p r o. agrees (holder.Message a p) (λ e. absurd (cc)) r o) in
    let one = give_to w (holder.Message m q) b (cells_of held.atoms) (λ r. let s = in_two held.atoms r in let e = held.holds.enough r in omega arith) in
    let ground = ground_by_giving asks g done [] (with_out k l q v) w one.0 (holder.Message m q) b (cells_of held.atoms) known one.1 (λ c o. tells) free in
    let two = give_to one.0 (holder.Message m q) (holder.Plain t) (else_of held.atoms) (λ r. left held.atoms held.holds.enough one.0 one.1 r) in
    record {
      atoms = held.atoms;
      asked = held.asked;
      mid = one.0;
      world = two.0;
      cells = one.1;
      others = two.1;
      ground = ground_by_giving asks g done [] (with_out k l q v) one.0 two.0 (holder.Message m q) (holder.Plain t) (else_of held.atoms) ground two.1
          (λ c o. absurd (let z = no_cell held.atoms c in omega arith)) free;
      right = stay_right g done done k (with_out k l q v) w (holder.Message m q) b held.atoms (λ e i. i) tells (λ j f e. e) (λ r o. agrees (holder.Message m q) (λ e. absurd (cc)) r o)
          held.holds.enough held.holds.right;
    }
  where
    due : (rmw : Bool) → rmw ≡ false → IsDue g done k m l v q rmw
    due true e = absurd (cc)
    due false e = new

    agrees : (h : Holder) → (h ≡ holder.Plain t → ⊥) → (r : Resource) → 1 ≤ w h r → Agree k (with_out k l q v) r
    agrees h f r o = out_agrees k l q v r (λ e. f (sym (alone g done k w x.owned (holder.Plain t) h (Permission l q) has (subst (λ (y : Resource). 1 ≤ w h y) e o))))

    there_more : (r : Resource) → IsThere g done k r → IsThere g done (with_out k l q v) r
    there_more (Cell c) h = h
    there_more (Permission j p) h = h
    there_more (Tokens c) h = h
    there_more (Bank c) h = h

    limit_more : (r : Resource) → limit k r ≤ limit (with_out k l q v) r
    limit_more (Cell c) = omega arith
    limit_more (Permission j p) = omega arith
    limit_more (Tokens c) = omega arith
    limit_more (Bank c) = omega arith

    undue : (rmw : Bool) → rmw ≡ false → IsDue g done (with_out k l q v) m l v q rmw → ⊥
    undue true e u = absurd (cc)
    undue false e u = u (out_here k l q v)

    free : IsFree g done [] (with_out k l q v) (holder.Message m q)
    free a p f j z same i o s u =
        let at : m ≡ a = cc in
        let part : q ≡ p = cc in
        let touch = one_write g m n s.mode l j v z writes (subst (λ (y : ℕ). Writes g y s.mode j z) (sym at) s.writes) in
        let e : Some d ≡ Some f = sym deal ∙ subst (λ (y : ℤ). k.deals y ≡ Some f) (sym touch.1) s.made in
        let deals : d ≡ f = cc in
        undue f.rmw (subst (λ (y : Deal). y.rmw ≡ false) deals loads)
        (subst (λ (y : ℕ). IsDue g done (with_out k l q v) y l v q f.rmw) (sym at)
        (subst (λ (y : ℤ). IsDue g done (with_out k l q v) a y v q f.rmw) (sym touch.1)
        (subst (λ (y : ℤ). IsDue g done (with_out k l q v) a j y q f.rmw) (sym touch.2)
        (subst (λ (y : ℕ). IsDue g done (with_out k l q v) a j z y f.rmw) (sym part) u))))

    left : (ys : List Atom) → ((r : Resource) → demand ys r ≤ w (holder.Message m q) r) → (mid : World) → Gives w mid (holder.Message m q) b (cells_of ys) → (r : Resource) → else_of ys r ≤ mid (holder.Message m q) r
    left ys enough mid gift r = let s = in_two ys r in let e = enough r in let lost = gift.loses.here r in let grew = grows gift.mid mid b (cells_of ys) (holder.Message m q) r gift.gains in omega arith
