-- When passing an assertion on fits what it asks for: what the message has goes first, and the thread adds what lacks.
use Rattle.std.specs.Prelude.{◌≡◌, ◌⊎◌, ℕ, ◌+◌, ◌≤◌, true, List, [], ◌∷◌, map, Option, Some, ℤ}
use Rattle.fsl_core.specs.declared.chunk.Chunk.{Chunk}
use Rattle.fsl_core.specs.declared.chunk.Chunk.TheVariants as chunk
use Rattle.fsl_core.specs.declared.mode.Rung.{Rung}
use Rattle.fsl_core.specs.declared.mode.Rung.TheVariants.{Msg}
use Rattle.fsl_core.specs.logic.States.{Env, State}
use Rattle.fsl_core.specs.logic.Fences.{is_at}
use Rattle.fsl_core.specs.logic.Messages.{Held, Taking, Passing}
use Rattle.fsl_lin.specs.Combination.{Combination}
use Rattle.fsl_lin.specs.Numbers.{Numbers}
use Rattle.fsl_meaning.specs.Means.{Means, AllMean}
use Rattle.fsl_meaning.specs.Heaps.{Key, Cell, Heap, Claim, IsInit, Ground, Knows}
use Rattle.fsl_meaning.specs.States.{Owns, All, Fits}
use Rattle.fsl_meaning.specs.Branches.{Lands}
use Rattle.fsl_asserted.specs.Needs.{Need, Asks}
use Rattle.fsl_kept.specs.Changes.{lifted}

abbrev pub chunks_of : List Held → List Chunk
chunks_of held = map (λ h. h.chunk) held

-- of the cell of a chunk the new message has got something
pub record IsTouched (n : ℕ) (v : Numbers) (past : Heap) (at : Combination) : Type 0 where
  pub loc : ℤ
  pub at_is : Means n v at loc
  pub some : 1 ≤ past (Cell Msg loc)

abbrev pub Touched : ℕ → Numbers → Heap → Chunk → Type 0
Touched n v past (chunk.Points rung at share value) = IsTouched n v past at
Touched n v past _ = Unit {0}

pub record IsHeld (n : ℕ) (v : Numbers) (past : Heap) (h : Held) : Type 0 where
  pub at_msg : is_at Msg h.chunk ≡ true
  pub touched : h.touched ≡ true → Touched n v past h.chunk

abbrev pub EachHeld : ℕ → Numbers → Heap → List Held → Type 0
EachHeld n v past [] = Unit {0}
EachHeld n v past (h ∷ hs) = IsHeld n v past h × EachHeld n v past hs

-- all chunks of the message stand at msg, and those of which a share was taken are touched; `past` is what was taken
pub record AllHeld (n : ℕ) (v : Numbers) (past : Heap) (held : List Held) : Type 0 where
  pub each : EachHeld n v past held

-- the message knows that the location was written
pub record IsGiven (g : Ground) (second : Rung) (c : Claim) : Type 0 where
  pub loc : ℤ
  pub is : c ≡ IsInit second loc
  pub known : Knows g (IsInit Msg loc)

abbrev pub IsPassed : Ground → Rung → Claim → Type 0
IsPassed g second c = Knows g c ⊎ IsGiven g second c

-- each claim is known to the thread, or is given by the message
abbrev pub AllPassed : Ground → Rung → List Claim → Type 0
AllPassed g second [] = Unit {0}
AllPassed g second (c ∷ cs) = IsPassed g second c × AllPassed g second cs

-- what is asked for was taken from the message and from the thread
pub record Passes (g : Ground) (slots : List ℤ) (second : Rung) (past : Heap) (asked : Option Need) (message thread : Heap) (t : Taking) (s : State) (w : Numbers) : Type 0 where
  pub need : Need
  pub is : asked ≡ Some need
  pub known : AllPassed g second need.claims
  pub given : Heap  -- by the message
  pub kept : Heap
  pub added : Heap  -- by the thread
  pub left : Heap
  pub message_is : (k : Key) → message k ≡ kept k + given k
  pub thread_is : (k : Key) → thread k ≡ left k + added k
  pub need_is : (k : Key) → need.heap k ≡ lifted Msg second given k + added k
  pub fits : Fits slots (All g left) w s
  pub owns : Owns g s.next w (chunks_of t.held) kept
  pub held : AllHeld s.next w (λ k. past k + given k) t.held
  pub env : AllMean s.next w t.env need.env

abbrev pub PassFits : Ground → Passing → Asks → Type 0
PassFits g pass asked = (second : Rung) (past message thread : Heap) (slots : List ℤ) (v : Numbers) (s : State) (env : Env) (held : List Held) (xs : List ℤ)
    → Fits slots (All g thread) v s → Owns g s.next v (chunks_of held) message → AllHeld s.next v past held → AllMean s.next v env xs
    → Lands s.next v (λ t u w. Passes g slots second past (asked second xs) message thread t u w) (pass second (record { env = env; held = held }) s)
