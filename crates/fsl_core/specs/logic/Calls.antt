-- The rules of calls, of threads that run side by side, and of where a procedure starts and ends.
use Rattle.std.specs.Prelude.{ℕ, zero, suc, Bool, true, false, ◌||◌, List, [], ◌∷◌, ◌++◌, map, Option, Some, None, is_some, slice_get}
use Rattle.fsl_core.specs.declared.act.Called.{Called}
use Rattle.fsl_core.specs.declared.expr.Expr.{Expr}
use Rattle.fsl_core.specs.declared.mode.Rung.TheVariants.{Plain}
use Rattle.fsl_core.specs.declared.verdict.Mood.TheVariants as mood
use Rattle.fsl_core.specs.logic.States.{Env, Rule, Action, ◌>>=◌, ◌>>◌, give, done, change, new_symbol, here, set}
use Rattle.fsl_core.specs.logic.Terms.{Expression, terms}
use Rattle.fsl_core.specs.logic.Assertions.{Assertion}
use Rattle.fsl_core.specs.logic.Locations.{Setting, Contract, padded}
use Rattle.fsl_lin.specs.Combination.{Combination}

-- ---- start and end of a procedure

-- new symbols, one for each parameter
abbrev pub new_symbols : ℕ → Rule (List Combination)
new_symbols zero = give []
new_symbols (suc n) = do
  ts ← new_symbols n
  t ← new_symbol
  give (ts ++ t ∷ [])

-- the binders of `requires` keep their terms for `ensures`
abbrev pub enter : Contract → Action
enter q = do
  ts ← new_symbols q.params
  e ← q.pre.produce Plain (padded q.slots ts)
  change (λ s. record s { env = e })

-- the result stands behind the variables
abbrev pub with_result : Env → Option Combination → Env
with_result e None = e
with_result e (Some t) = e ++ t ∷ []

-- the procedure ends with a result; what is left is dropped
abbrev pub finish : Assertion → Combination → Action
finish post t = do
  env ← here
  post.consume mood.Post Plain (with_result env (Some t))
  done

-- ---- calls

-- a call makes a symbol for its result where something speaks of it
abbrev pub new_result : Bool → Rule (Option Combination)
new_result false = give None
new_result true = do
  t ← new_symbol
  give (Some t)

abbrev pub set_result : Option ℕ → Option Combination → Action
set_result (Some slot) (Some t) = set slot t
set_result _ _ = done

-- the environment that `requires` leaves to `ensures`
abbrev pub give_pre : Contract → List Combination → Rule Env
give_pre q args = q.pre.consume mood.Pre Plain (padded q.slots args)

abbrev pub gain_post : Contract → Env → Option Combination → Action
gain_post q e t = do
  q.post.produce Plain (with_result e t)
  done

abbrev pub call_proc : Option ℕ → Option Contract → List Combination → Action
call_proc slot None args = done
call_proc slot (Some q) args = do
  e ← give_pre q args
  t ← new_result (is_some slot || q.post.says)
  gain_post q e t
  set_result slot t

abbrev pub call : Setting → Option ℕ → ℕ → List Expression → Action
call p slot proc es = do
  env ← here
  args ← terms es env
  call_proc slot (slice_get p.procs proc) args

-- ---- threads side by side

-- a procedure that is about to run, with its environment
pub record Running : Type 0 where
  pub proc : Contract
  pub env : Env

abbrev pub running : Option Contract → List Combination → List Running → List Running
running None args rest = rest
running (Some q) args rest = record { proc = q; env = padded q.slots args } ∷ rest

-- a call, with its arguments read
pub record CallTo : Type 0 where
  pub proc : ℕ
  pub args : List Expression

abbrev pub call_of : (Expr → Expression) → Called → CallTo
call_of read c = record { proc = c.proc; args = map read c.args }

-- the terms of all calls come first
abbrev pub with_args : Setting → List CallTo → Env → Rule (List Running)
with_args p [] env = give []
with_args p (c ∷ cs) env = do
  args ← terms c.args env
  rest ← with_args p cs env
  give (running (slice_get p.procs c.proc) args rest)

-- then every `requires`
abbrev pub start_each : List Running → Rule (List Running)
start_each [] = give []
start_each (x ∷ xs) = do
  e ← x.proc.pre.consume mood.Pre Plain x.env
  rest ← start_each xs
  give (record { proc = x.proc; env = e } ∷ rest)

-- and then every `ensures`, each with a result
abbrev pub join_each : List Running → Action
join_each [] = done
join_each (x ∷ xs) = do
  t ← new_symbol
  gain_post x.proc x.env (Some t)
  join_each xs

abbrev pub par : Setting → List CallTo → Action
par p calls = do
  env ← here
  xs ← with_args p calls env
  ys ← start_each xs
  join_each ys
