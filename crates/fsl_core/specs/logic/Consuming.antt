-- Consuming an assertion at a rung: what it says has to be proved, and what it owns is taken out of the chunks.
use Rattle.std.specs.Prelude.{ℕ, ◌==◌, Bool, true, false, ◌&&◌, List, [], ◌∷◌, Option, Some, None, pos, slice_set}
use Rattle.std.specs.List.{list_all, list_any}
use Rattle.fsl_core.specs.declared.chunk.Chunk.{Chunk}
use Rattle.fsl_core.specs.declared.chunk.Chunk.TheVariants as chunk
use Rattle.fsl_core.specs.declared.mode.Rung.{Rung}
use Rattle.fsl_core.specs.declared.verdict.Kind.{Kind}
use Rattle.fsl_core.specs.declared.verdict.Kind.TheVariants as kind
use Rattle.fsl_core.specs.declared.verdict.Mood.{Mood}
use Rattle.fsl_core.specs.declared.verdict.Mood.TheVariants as mood
use Rattle.fsl_core.specs.logic.States.{Env, Rule, Action, ◌>>=◌, ◌>>◌, give, fail, either, look, demand, demand_some}
use Rattle.fsl_core.specs.logic.Terms.{Expression, term, terms, fitting}
use Rattle.fsl_core.specs.logic.Deciding.{Condition, proves_at_most, proves_equal, assume_at_most, decided, demand_cond}
use Rattle.fsl_core.specs.logic.Chunks.{Found, Reading, when, find, find_or, put, take, Cell, leave, Permission, same_leave, cell_at, enough_at, init_at, rel_of, rmw_of, tokens_of, authority_of}
use Rattle.fsl_core.specs.logic.Joining.{nought}
use Rattle.fsl_core.specs.logic.Producing.{Wanted, any, bind, equals, Pattern, wanted, Instance, leave_terms, bank_of, chosen}
use Rattle.fsl_lin.specs.Combination.{Combination, minus, constant}
use Rattle.fsl_lin.specs.declared.fact.Fact.{Fact}

-- a + gap <= b has to be proved, and so has a = b, else the path fails by this kind
abbrev pub demand_at_most : Kind → Combination → Combination → Action
demand_at_most kind a b = look (λ s. proves_at_most s.facts a (pos 0) b) >>= demand kind

abbrev pub demand_equal : Kind → Combination → Combination → Action
demand_equal kind a b = look (λ s. proves_equal s.facts a b) >>= demand kind

-- ---- shares of cells

-- what the share k leaves of a share: nothing, or a rest of at least 1; two branches where neither is proved
abbrev pub rest_of : Combination → Combination → Rule (Option Combination)
rest_of share k = do
  gone ← look (λ s. proves_equal s.facts share k)
  stays ← look (λ s. proves_at_most s.facts k (pos 1) share)
  by_rest gone stays
  where
    nothing : Rule (Option Combination)
    nothing = give None

    something : Rule (Option Combination)
    something = do
      r ← fitting (minus share k)
      give (Some r)

    by_rest : Bool → Bool → Rule (Option Combination)
    by_rest true stays = nothing
    by_rest false true = something
    by_rest false false = either (assume_at_most share (pos 0) k >> nothing) (assume_at_most k (pos 1) share >> something)

-- a chunk keeps what is left
abbrev pub leave_rest : Rung → Found Chunk Cell → Option Combination → Action
leave_rest rung f None = take f
leave_rest rung f (Some r) = put f (chunk.Points rung f.is.at r f.is.value)

-- no cell with share enough: none at all, or not enough of it
abbrev pub lacking : {C X Y : Type 0} → Option (Found C X) → Rule Y
lacking None = fail kind.Points
lacking (Some f) = fail kind.Share

abbrev pub enough_or : Rung → Combination → Option (Found Chunk Cell) → Rule (Found Chunk Cell)
enough_or rung at (Some f) = give f
enough_or rung at None = find (cell_at rung at) >>= lacking

-- the first chunk of a cell that has this share
abbrev pub find_cell : Rung → Combination → Combination → Rule (Found Chunk Cell)
find_cell rung at k = find (enough_at rung at k) >>= enough_or rung at

-- a value is held against a pattern, and a binder is set to it
abbrev pub match_value : Wanted Combination → Option Combination → Env → Rule Env
match_value any value env = give env
match_value (bind slot) value env = do
  v ← demand_some kind.Uninit value
  give (slice_set env slot v)
match_value (equals t) value env = do
  v ← demand_some kind.Uninit value
  demand_equal kind.Value v t
  give env

-- a share is at least 1
abbrev pub demand_share : Combination → Action
demand_share share = demand_at_most kind.Share (constant (pos 1)) share

abbrev pub consume_cell : Rung → Combination → Combination → Wanted Combination → Env → Rule Env
consume_cell rung at k w env = do
  demand_share k
  f ← find_cell rung at k
  e ← match_value w f.is.value env
  r ← rest_of f.is.share k
  leave_rest rung f r
  give e

-- ---- permissions and tokens

-- each value that the chunk excludes is one of those that are written
abbrev pub excludes_no_more : List Fact → List Combination → List Combination → Bool
excludes_no_more facts out written = list_all (λ x. list_any (λ y. proves_equal facts x y) written) out

abbrev pub permission_of : Permission → Reading Permission
permission_of p facts (chunk.Acq a inv args part out) =
    when (same_leave facts (leave a inv args) p.leave && (part == p.part && excludes_no_more facts out p.out))
    (record { leave = leave a inv args; part = part; out = out })
permission_of p facts _ = None

abbrev pub consume_tokens : Combination → Combination → Action
consume_tokens g k = do
  demand_at_most kind.Token nought k
  f ← find_or kind.Token (tokens_of g)
  demand_at_most kind.Token k f.is.n
  r ← fitting (minus f.is.n k)
  put f (chunk.Tok f.is.bank r)

abbrev pub consume_authority : Combination → Combination → Action
consume_authority g n = do
  f ← find_or kind.Token (authority_of g)
  demand_equal kind.Token f.is.n n
  take f

-- ---- assertions

-- the kind by which a fact fails
abbrev pub failing : Mood → Kind
failing mood.Pre = kind.Pre
failing mood.Post = kind.Post
failing mood.Loop = kind.Loop
failing mood.Cond = kind.Cond

-- an assertion at a rung gives the environment with its binders
abbrev pub Consume : Type 0
Consume = Mood → Rung → Env → Rule Env

abbrev pub emp_consumed : Consume
emp_consumed mood rung env = give env

abbrev pub fact_consumed : Condition → Consume
fact_consumed cond mood rung env = do
  demand_cond (failing mood) cond env
  give env

abbrev pub points_consumed : Expression → Expression → Pattern → Consume
points_consumed at share pat mood rung env = do
  a ← term at env
  k ← term share env
  w ← wanted pat env
  consume_cell rung a k w env

abbrev pub init_consumed : Expression → Consume
init_consumed at mood rung env = do
  a ← term at env
  find_or kind.Init (init_at rung a)
  give env

abbrev pub rel_consumed : Expression → Instance → Consume
rel_consumed at inst mood rung env = do
  l ← leave_terms at inst env
  find_or kind.Rel (rel_of l)
  give env

abbrev pub acq_consumed : Expression → Instance → ℕ → List Expression → Consume
acq_consumed at inst part out mood rung env = do
  l ← leave_terms at inst env
  values ← terms out env
  f ← find_or kind.Acq (permission_of (record { leave = l; part = part; out = values }))
  take f
  give env

abbrev pub rmw_consumed : Expression → Instance → Consume
rmw_consumed at inst mood rung env = do
  l ← leave_terms at inst env
  find_or kind.Rmw (rmw_of l)
  give env

abbrev pub tok_consumed : ℕ → Expression → Consume
tok_consumed bank n mood rung env = do
  k ← term n env
  consume_tokens (bank_of bank env) k
  give env

abbrev pub auth_consumed : ℕ → Expression → Consume
auth_consumed bank n mood rung env = do
  k ← term n env
  consume_authority (bank_of bank env) k
  give env

abbrev pub choice_consumed : Condition → Consume → Consume → Consume
choice_consumed cond a b mood rung env = do
  holds ← decided cond env
  chosen a b holds mood rung env

abbrev pub all_consumed : List Consume → Consume
all_consumed [] mood rung env = give env
all_consumed (a ∷ rest) mood rung env = do
  e ← a mood rung env
  all_consumed rest mood rung e
