-- What the rules leave behind: what was there, what was read, given or set apart, and that the state fits what is left.
use Rattle.std.specs.Prelude.{◌≡◌, ℕ, ◌+◌, ◌≤◌, ◌^◌, Bool, true, false, List, Option, Some, ℤ, pos, ◌+ℤ◌, ◌-ℤ◌, slice_set, if◌then◌else◌}
use Rattle.fsl_core.specs.declared.assertion.Asrt.{Asrt}
use Rattle.fsl_core.specs.declared.mode.Mode.{Mode}
use Rattle.fsl_core.specs.declared.mode.Rung.TheVariants.{Plain, Up}
use Rattle.fsl_core.specs.Modes.{acquires, releases}
use Rattle.fsl_core.specs.logic.States.{Env, State}
use Rattle.fsl_lin.specs.Numbers.{Numbers}
use Rattle.fsl_meaning.specs.Heaps.{Key, Cell, Tokens, Bank, Heap, less, Ground, AllKnown}
use Rattle.fsl_meaning.specs.States.{All, Fits}
use Rattle.fsl_asserted.specs.Needs.{Need, asks}
use Rattle.fsl_asserted.specs.Carried.{moved}
use Rattle.fsl_asserted.specs.Fitting.{Gives}
use Rattle.fsl_kept.specs.Changes.{grounded, allowing, with_more, acquired}

-- a share of the cell is there, and its value was read
pub record LoadsCell (g : Ground) (slots : List ℤ) (slot : ℕ) (loc : ℤ) (h : Heap) (s : State) (w : Numbers) : Type 0 where
  pub value : ℤ
  pub is : g.truth.value loc ≡ Some value
  pub some : 1 ≤ h (Cell Plain loc)
  pub fits : Fits (slice_set slots slot value) (All g h) w s

-- all shares of the cell were there
pub record Stores (slots : List ℤ) (loc : ℤ) (h left : Heap) (g : Ground) (s : State) (w : Numbers) : Type 0 where
  pub whole : 2 ^ 63 ≤ h (Cell Plain loc)
  pub fits : Fits slots (All g left) w s

-- tokens come, and there may be as many more
pub record Mints (g : Ground) (slots : List ℤ) (number z : ℤ) (h : Heap) (s : State) (w : Numbers) : Type 0 where
  pub amount : ℕ
  pub is : z ≡ pos amount
  pub there : 1 ≤ h (Bank number)
  pub fits : Fits slots (All (grounded g (allowing number (g.truth.bank number +ℤ pos amount) g.truth)) (with_more h (Tokens number) amount)) w s

-- tokens go, and there may be as many less
pub record Burns (g : Ground) (slots : List ℤ) (number z : ℤ) (h : Heap) (s : State) (w : Numbers) : Type 0 where
  pub amount : ℕ
  pub is : z ≡ pos amount
  pub there : 1 ≤ h (Bank number)
  pub enough : amount ≤ h (Tokens number)
  pub fits : Fits slots (All (grounded g (allowing number (g.truth.bank number -ℤ pos amount) g.truth)) (less h (Tokens number) amount)) w s

abbrev pub Steps : Bool → Ground → List ℤ → ℤ → ℤ → Heap → State → Numbers → Type 0
Steps true g slots number z h s w = Mints g slots number z h s w
Steps false g slots number z h s w = Burns g slots number z h s w

-- what was asked for at plain is set apart
pub record SetsApart (g : Ground) (slots : List ℤ) (a : Asrt) (h : Heap) (s : State) (w : Numbers) : Type 0 where
  pub need : Need
  pub is : asks g.truth a Plain slots ≡ Some need
  pub known : AllKnown g need.claims
  pub left : Heap
  pub parts : (k : Key) → h k ≡ left k + need.heap k
  pub fits : Fits slots (All g (λ k. moved Plain Up need.heap k + left k)) w s

abbrev pub FencedBy : Bool → Ground → List ℤ → Asrt → Heap → State → Numbers → Type 0
FencedBy true g slots a h s w = SetsApart g slots a h s w
FencedBy false g slots a h s w = Fits slots (All g h) w s

-- a fence that does both acquires first
abbrev pub Fenced : Mode → Ground → List ℤ → Asrt → Heap → State → Numbers → Type 0
Fenced m g slots a h s w = FencedBy (releases m) g slots a (if acquires m then acquired h else h) s w

-- what an assertion asks for was given up at the end of a procedure or of a round
pub record GivesUp (g : Ground) (slots : List ℤ) (asked : Option Need) (h : Heap) (s : State) (w : Numbers) : Type 0 where
  pub env : Env
  pub gives : Gives g slots asked h env s w
