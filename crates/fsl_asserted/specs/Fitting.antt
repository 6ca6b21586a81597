-- When the rules of an assertion fit what it asks for: produced, the state fits a heap that has this too; consumed,
-- it fits what is left.
use Rattle.std.specs.Prelude.{◌≡◌, ◌+◌, List, Option, Some, ℤ}
use Rattle.fsl_core.specs.declared.mode.Rung.{Rung}
use Rattle.fsl_core.specs.declared.verdict.Mood.{Mood}
use Rattle.fsl_core.specs.logic.States.{Env, State}
use Rattle.fsl_core.specs.logic.Producing.{Produce}
use Rattle.fsl_core.specs.logic.Consuming.{Consume}
use Rattle.fsl_lin.specs.Numbers.{Numbers}
use Rattle.fsl_meaning.specs.Means.{AllMean}
use Rattle.fsl_meaning.specs.Heaps.{Key, Heap, Holds, Ground, AllKnown, IsBounded}
use Rattle.fsl_meaning.specs.States.{All, Fits}
use Rattle.fsl_meaning.specs.Branches.{Lands}
use Rattle.fsl_asserted.specs.Needs.{Need, Asks}

-- the state fits `more`, and the variables are these numbers
pub record Gains (g : Ground) (slots : List ℤ) (more : Heap) (ys : List ℤ) (e : Env) (s : State) (w : Numbers) : Type 0 where
  pub fits : Fits slots (All g more) w s
  pub env : AllMean s.next w e ys

abbrev pub ProduceFits : Ground → Produce → Asks → Type 0
ProduceFits g produce asked = (rung : Rung) (n : Need) (h more : Heap) (slots : List ℤ) (v : Numbers) (s : State) (env : Env) (xs : List ℤ)
    → Fits slots (All g h) v s → AllMean s.next v env xs → asked rung xs ≡ Some n → AllKnown g n.claims → Holds n.heap h more → IsBounded g.truth more
    → Lands s.next v (Gains g slots more n.env) (produce rung env s)

-- what is asked for was taken out of h, and the state fits what is left
pub record Gives (g : Ground) (slots : List ℤ) (asked : Option Need) (h : Heap) (e : Env) (s : State) (w : Numbers) : Type 0 where
  pub need : Need
  pub is : asked ≡ Some need
  pub known : AllKnown g need.claims
  pub left : Heap
  pub parts : (k : Key) → h k ≡ left k + need.heap k
  pub fits : Fits slots (All g left) w s
  pub env : AllMean s.next w e need.env

abbrev pub ConsumeFits : Ground → Consume → Asks → Type 0
ConsumeFits g consume asked = (mood : Mood) (rung : Rung) (h : Heap) (slots : List ℤ) (v : Numbers) (s : State) (env : Env) (xs : List ℤ)
    → Fits slots (All g h) v s → AllMean s.next v env xs → Lands s.next v (Gives g slots (asked rung xs) h) (consume mood rung env s)
