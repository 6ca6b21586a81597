-- Consuming what a read-modify-write passes on: first from the message that it has read, and then from the thread.
use Rattle.std.specs.Prelude.{Bool, true, false, List, [], ◌∷◌, ◌++◌, Option, Some, None, pos}
use Rattle.fsl_core.specs.declared.chunk.Chunk.{Chunk}
use Rattle.fsl_core.specs.declared.chunk.Chunk.TheVariants as chunk
use Rattle.fsl_core.specs.declared.mode.Rung.{Rung}
use Rattle.fsl_core.specs.declared.mode.Rung.TheVariants.{Msg}
use Rattle.fsl_core.specs.declared.verdict.Kind.TheVariants as kind
use Rattle.fsl_core.specs.declared.verdict.Mood.TheVariants as mood
use Rattle.fsl_core.specs.logic.States.{Env, Rule, Action, ◌>>=◌, ◌>>◌, give, done, look}
use Rattle.fsl_core.specs.logic.Terms.{Expression, term, fitting}
use Rattle.fsl_core.specs.logic.Deciding.{Condition, decide_at_most, each_side, decided}
use Rattle.fsl_core.specs.logic.Chunks.{Found, first, find_or, Cell, cell_at, init_at}
use Rattle.fsl_core.specs.logic.Producing.{Wanted, any, Pattern, wanted, chosen}
use Rattle.fsl_core.specs.logic.Consuming.{Consume, consume_cell, demand_share, match_value, rest_of}
use Rattle.fsl_lin.specs.Combination.{Combination, minus}

-- a chunk of the message, and whether a share was taken from it
pub record Held : Type 0 where
  pub chunk : Chunk
  pub touched : Bool

abbrev pub untouched : Chunk → Held
untouched c = record { chunk = c; touched = false }

-- the environment of a part that is consumed, and what the message still holds
pub record Taking : Type 0 where
  pub env : Env
  pub held : List Held

-- an assertion, with the rung that comes second
abbrev pub Passing : Type 0
Passing = Rung → Taking → Rule Taking

-- what the message gives none of is consumed from the thread alone
abbrev pub by_thread : Consume → Passing
by_thread c second t = do
  e ← c mood.Cond second t.env
  give (record { env = e; held = t.held })

-- what is left of a chunk of the message
abbrev pub left_in : Found Held Cell → Option Combination → List Held
left_in f None = f.before ++ f.behind
left_in f (Some r) = f.before ++ record { chunk = chunk.Points Msg f.is.at r f.is.value; touched = true } ∷ f.behind

-- a share k of a cell, of which the message holds some: enough, or not enough
abbrev pub pass_share : Rung → Combination → Combination → Wanted Combination → Taking → Found Held Cell → Bool → Rule Taking
pass_share second at k w t f true = do
  e ← match_value w f.is.value t.env
  r ← rest_of f.is.share k
  give (record { env = e; held = left_in f r })
pass_share second at k w t f false = do
  e ← match_value w f.is.value t.env
  r ← fitting (minus k f.is.share)
  consume_cell second at r any e
  give (record { env = e; held = f.before ++ f.behind })

abbrev pub pass_cell : Rung → Combination → Combination → Wanted Combination → Taking → Option (Found Held Cell) → Rule Taking
pass_cell second at k w t None = do
  e ← consume_cell second at k w t.env
  give (record { env = e; held = t.held })
pass_cell second at k w t (Some f) = do
  sides ← look (λ s. decide_at_most k (pos 0) f.is.share s.facts)
  enough ← each_side sides
  pass_share second at k w t f enough

abbrev pub pass_init : Rung → Combination → Option (Found Held Combination) → Action
pass_init second at (Some f) = done
pass_init second at None = do
  find_or kind.Init (init_at second at)
  done

abbrev pub points_passed : Expression → Expression → Pattern → Passing
points_passed at share pat second t = do
  a ← term at t.env
  k ← term share t.env
  w ← wanted pat t.env
  demand_share k
  f ← look (λ s. first (λ h. cell_at Msg a s.facts h.chunk) t.held)
  pass_cell second a k w t f

abbrev pub init_passed : Expression → Passing
init_passed at second t = do
  a ← term at t.env
  f ← look (λ s. first (λ h. init_at Msg a s.facts h.chunk) t.held)
  pass_init second a f
  give t

abbrev pub choice_passed : Condition → Passing → Passing → Passing
choice_passed cond a b second t = do
  holds ← decided cond t.env
  chosen a b holds second t

abbrev pub all_passed : List Passing → Passing
all_passed [] second t = give t
all_passed (a ∷ rest) second t = do
  u ← a second t
  all_passed rest second u
