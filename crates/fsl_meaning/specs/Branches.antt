-- Rules on states that fit: some branch goes on with a state that fits again, or some branch fails.
use Rattle.std.specs.Prelude.{◌≡◌, ◌⊎◌, ℕ, List, [], ◌∷◌}
use Rattle.fsl_core.specs.declared.verdict.Kind.{Kind}
use Rattle.fsl_core.specs.logic.States.{State, goes, fails, Branch, Branches}
use Rattle.fsl_lin.specs.Numbers.{Numbers}
use Rattle.fsl_meaning.specs.Means.{Grows}

abbrev pub Among : {X : Type 0} → X → List X → Type 0
Among x [] = ⊥
Among x (y ∷ ys) = (x ≡ y) ⊎ Among x ys

-- a branch goes on with a result and a state, at a later place of the path, of which P holds; or one fails
pub data Lands {X : Type 0} (n : ℕ) (v : Numbers) (P : X → State → Numbers → Type 0) (bs : Branches X) : Type 0 where
  lands : (x : X) (s : State) (w : Numbers) → Among (goes x s) bs → Grows n v s.next w → P x s w → Lands n v P bs
  stops : (kind : Kind) → Among (let b : Branch X = fails kind in b) bs → Lands n v P bs

-- the same of a rule that leaves the state as it is
pub data Tells {X : Type 0} (s : State) (P : X → Type 0) (bs : Branches X) : Type 0 where
  tells : (x : X) → Among (goes x s) bs → P x → Tells s P bs
  stops : (kind : Kind) → Among (let b : Branch X = fails kind in b) bs → Tells s P bs
