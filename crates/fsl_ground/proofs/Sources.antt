-- What a read reads: of a location that was written, a message that is there; and what a read-modify-write takes.
use Rattle.std.proofs.Common.{◌≡◌, ℕ, Bool, true, false, ◌⊎◌, inl, inr, List, [], ◌∷◌, Option, Some, ℤ, refl, sym, ap, subst, ◌∙◌}
use Rattle.fsl_core.specs.declared.mode.Mode.{Mode}
use Rattle.fsl_graph.specs.declared.event.Event.{Event}
use Rattle.fsl_graph.specs.declared.graph.Graph.{Graph}
use Rattle.fsl_graph.specs.Events.{Reads, Writes, Updates}
use Rattle.fsl_graph.specs.Sequenced.{In, Rf}
use Rattle.fsl_graph.specs.Sequenced.Edge.{by_rf}
use Rattle.fsl_graph.specs.Consistent.{IsConsistent}
use Rattle.fsl_graph.specs.Orders.{Comes}
use Rattle.fsl_graph.specs.Positions.{Holder}
use Rattle.fsl_graph.specs.Positions.{Holder as holder}
use Rattle.fsl_graph.proofs.Places.{one_update, source_written}
use Rattle.fsl_graph.proofs.Reading.{read_has_source}
use Rattle.fsl_graph.proofs.Threads.{one_write}
use Rattle.fsl_own.specs.Owning.{Deal, Known}
use Rattle.fsl_own.specs.Atoms.{IsInit}
use Rattle.fsl_own.proofs.Knowing.{known_before}
use Rattle.fsl_ground.specs.Laws.{Got, InitIsRead, UpdateTakes, ReadIsFree}
use Rattle.fsl_ground.specs.Ground.{IsUnread, IsDue, Sends, IsFree}

-- a read of a location of which the thread knows a write reads a message of it
pub init_is_read : InitIsRead
init_is_read g c done k e x m l v comes reads init =
    let s = read_has_source g c init.write e init.mode m l init.value v init.writes reads (known_before g done e x init.write comes init.known) in
    let w = source_written g c s.0 e m l v reads s.1 in
    record { source = s.0; from = s.1; past = comes.before s.0 (by_rf s.1); mode = w.0; writes = w.1 }

-- a read-modify-write reads a message that no other has read
pub update_takes : UpdateTakes
update_takes g c done e s x m l old new comes u r a n k i j past v q =
    comes.fresh (subst (λ (z : ℕ). In z done) (one_update g c s a e n m k l i j old new v u q r) past)

read_not_due : (g : Graph) (done : List ℕ) (k : Known) (e s : ℕ) (l v : ℤ) (part : ℕ) (rmw : Bool) (m : Mode) (loc old new : ℤ) → Updates g e m loc old new → Rf g s e → rmw ≡ true
    → IsDue g (e ∷ done) k s l v part rmw → ⊥
read_not_due g done k e s l v part true m loc old new u r h due = due.1 e m loc old new (inl refl) u r
read_not_due g done k e s l v part false m loc old new u r h due = absurd (cc)

-- of which nothing is due then
pub read_free : ReadIsFree
read_free g done but k e s part m n l v old new d u r w deal rmw a b f j z same past out sends due =
    let q : s ≡ a = cc in
    let at : l ≡ j = (one_write g s n sends.mode l j v z w (subst (λ (y : ℕ). Writes g y sends.mode j z) (sym q) sends.writes)).1 in
    let one : Some d ≡ Some f = sym deal ∙ subst (λ (y : ℤ). k.deals y ≡ Some f) (sym at) sends.made in
    let deals : d ≡ f = cc in
    let taken : f.rmw ≡ true = subst (λ (y : Deal). y.rmw ≡ true) deals rmw in
    read_not_due g done k e a j z b f.rmw m l old new u (subst (λ (y : ℕ). Rf g y e) q r) taken due
