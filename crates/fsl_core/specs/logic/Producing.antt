-- Producing an assertion at a rung: what it says is assumed, and what it owns joins the chunks.
use Rattle.std.specs.Prelude.{ℕ, Bool, true, false, List, [], ◌∷◌, map, Some, None, slice_set, get_or}
use Rattle.fsl_core.specs.declared.assertion.Inst.{Inst}
use Rattle.fsl_core.specs.declared.assertion.Pat.{Pat}
use Rattle.fsl_core.specs.declared.assertion.Pat.TheVariants as pat
use Rattle.fsl_core.specs.declared.chunk.Chunk.TheVariants as chunk
use Rattle.fsl_core.specs.declared.expr.Expr.{Expr}
use Rattle.fsl_core.specs.declared.mode.Rung.{Rung}
use Rattle.fsl_core.specs.logic.States.{Env, Rule, ◌>>=◌, ◌>>◌, give, new_symbol}
use Rattle.fsl_core.specs.logic.Terms.{Expression, term, terms}
use Rattle.fsl_core.specs.logic.Deciding.{Condition, assume_cond, decided}
use Rattle.fsl_core.specs.logic.Chunks.{add, Leave, leave}
use Rattle.fsl_core.specs.logic.Joining.{nought, assume_share, add_cell, produce_init, produce_rel, produce_rmw, produce_tokens, produce_authority}
use Rattle.fsl_lin.specs.Combination.{Combination}

-- a pattern: nothing, a binder, or something that the value is equal to
pub data Wanted (X : Type 0) : Type 0 where
  any : Wanted X
  bind : ℕ → Wanted X
  equals : X → Wanted X

abbrev pub Pattern : Type 0
Pattern = Wanted Expression

abbrev pub pat_of : (Expr → Expression) → Pat → Pattern
pat_of read pat.Any = any
pat_of read (pat.Bind slot) = bind slot
pat_of read (pat.Is e) = equals (read e)

abbrev pub pat_says : Pattern → Bool
pat_says any = false
pat_says (bind slot) = false
pat_says (equals e) = e.says

-- a pattern with its term
abbrev pub wanted : Pattern → Env → Rule (Wanted Combination)
wanted any env = give any
wanted (bind slot) env = give (bind slot)
wanted (equals e) env = do
  t ← term e env
  give (equals t)

-- a location's invariant with its arguments
pub record Instance : Type 0 where
  pub inv : ℕ
  pub args : List Expression

abbrev pub inst_of : (Expr → Expression) → Inst → Instance
inst_of read i = record { inv = i.inv; args = map read i.args }

-- a location with its invariant, in terms
abbrev pub leave_terms : Expression → Instance → Env → Rule Leave
leave_terms at inst env = do
  a ← term at env
  args ← terms inst.args env
  give (leave a inst.inv args)

-- a share of a cell with the value of a pattern; a binder is a new symbol
abbrev pub add_wanted : Rung → Combination → Combination → Wanted Combination → Env → Rule Env
add_wanted rung at share any env = do
  add_cell rung (record { at = at; share = share; value = None })
  give env
add_wanted rung at share (equals t) env = do
  add_cell rung (record { at = at; share = share; value = Some t })
  give env
add_wanted rung at share (bind slot) env = do
  v ← new_symbol
  add_cell rung (record { at = at; share = share; value = Some v })
  give (slice_set env slot v)

-- the term of the bank of a slot
abbrev pub bank_of : ℕ → Env → Combination
bank_of slot env = get_or env slot nought

-- an assertion at a rung gives the environment with its binders
abbrev pub Produce : Type 0
Produce = Rung → Env → Rule Env

abbrev pub emp_produced : Produce
emp_produced rung env = give env

abbrev pub fact_produced : Condition → Produce
fact_produced cond rung env = do
  assume_cond true cond env
  give env

abbrev pub points_produced : Expression → Expression → Pattern → Produce
points_produced at share pat rung env = do
  a ← term at env
  k ← term share env
  w ← wanted pat env
  assume_share k
  add_wanted rung a k w env

abbrev pub init_produced : Expression → Produce
init_produced at rung env = do
  a ← term at env
  produce_init rung a
  give env

abbrev pub rel_produced : Expression → Instance → Produce
rel_produced at inst rung env = do
  l ← leave_terms at inst env
  produce_rel l
  give env

abbrev pub acq_produced : Expression → Instance → ℕ → List Expression → Produce
acq_produced at inst part out rung env = do
  l ← leave_terms at inst env
  values ← terms out env
  add (chunk.Acq l.at l.inv l.args part values)
  give env

abbrev pub rmw_produced : Expression → Instance → Produce
rmw_produced at inst rung env = do
  l ← leave_terms at inst env
  produce_rmw l
  give env

abbrev pub tok_produced : ℕ → Expression → Produce
tok_produced bank n rung env = do
  k ← term n env
  produce_tokens (bank_of bank env) k
  give env

abbrev pub auth_produced : ℕ → Expression → Produce
auth_produced bank n rung env = do
  k ← term n env
  produce_authority (bank_of bank env) k
  give env

abbrev pub chosen : {X : Type 0} → X → X → Bool → X
chosen x y true = x
chosen x y false = y

abbrev pub choice_produced : Condition → Produce → Produce → Produce
choice_produced cond a b rung env = do
  holds ← decided cond env
  chosen a b holds rung env

abbrev pub all_produced : List Produce → Produce
all_produced [] rung env = give env
all_produced (a ∷ rest) rung env = do
  e ← a rung env
  all_produced rest rung e
