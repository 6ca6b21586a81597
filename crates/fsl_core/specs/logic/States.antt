-- Symbolic states, and rules on them. A state is what is known and owned at a place of a path, in terms over
-- symbols; a symbol stands for a whole number that nothing else is known of. A rule gives the branches that a state
-- goes on with, in order. Branches that contradict the facts are left out.
use Rattle.std.specs.Prelude.{ℕ, ◌+◌, Bool, true, false, List, [], ◌∷◌, ◌++◌, Option, Some, None, nat_lt, if◌then◌else◌, slice_set}
use Rattle.fsl_core.specs.declared.chunk.Chunk.{Chunk}
use Rattle.fsl_core.specs.declared.verdict.Kind.{Kind}
use Rattle.fsl_core.specs.declared.verdict.Kind.TheVariants.{Symbols}
use Rattle.fsl_lin.specs.Combination.{Combination, symbol}
use Rattle.fsl_lin.specs.declared.fact.Fact.{Fact}

-- the terms of variables
abbrev pub Env : Type 0
Env = List Combination

pub record State : Type 0 where
  pub env : Env  -- the terms of the procedure's variables
  pub facts : List Fact  -- what was assumed, the newest first
  pub chunks : List Chunk  -- what is owned, the oldest first
  pub next : ℕ  -- the number of the next symbol

-- a branch goes on with what the rule gives and a state, or it fails
pub data Branch (X : Type 0) : Type 0 where
  goes : X → State → Branch X
  fails : Kind → Branch X

abbrev pub Branches : Type 0 → Type 0
Branches X = List (Branch X)

-- a rule that gives an X
abbrev pub Rule : Type 0 → Type 0
Rule X = State → Branches X

-- a rule that gives nothing but the state that it leaves
abbrev pub Action : Type 0
Action = Rule (Unit {0})

-- each branch that goes on is followed by a rule, in its place
abbrev pub followed : {X Y : Type 0} → Branches X → (X → Rule Y) → Branches Y
followed [] rule = []
followed (goes x s ∷ bs) rule = rule x s ++ followed bs rule
followed (fails kind ∷ bs) rule = fails kind ∷ followed bs rule

-- one rule, and then another one with what it gave; `do` writes these
infixl 10 ◌>>=◌
abbrev pub ◌>>=◌ : {X Y : Type 0} → Rule X → (X → Rule Y) → Rule Y
rule >>= after = λ s. followed (rule s) after

infixl 10 ◌>>◌
abbrev pub ◌>>◌ : {X Y : Type 0} → Rule X → Rule Y → Rule Y
rule >> after = rule >>= (λ _. after)

abbrev pub give : {X : Type 0} → X → Rule X
give x = λ s. goes x s ∷ []

abbrev pub done : Action
done = give tt

abbrev pub fail : {X : Type 0} → Kind → Rule X
fail kind = λ s. fails kind ∷ []

-- the branches of one rule, and behind them those of another one
abbrev pub either : {X : Type 0} → Rule X → Rule X → Rule X
either one other = λ s. one s ++ other s

-- what can be read off the state
abbrev pub look : {X : Type 0} → (State → X) → Rule X
look f = λ s. goes (f s) s ∷ []

abbrev pub change : (State → State) → Action
change f = λ s. goes tt (f s) ∷ []

-- a demand, and the kind by which it fails
abbrev pub demand : Kind → Bool → Action
demand kind true = done
demand kind false = fail kind

abbrev pub demand_some : {X : Type 0} → Kind → Option X → Rule X
demand_some kind (Some x) = give x
demand_some kind None = fail kind

-- a new symbol; a path has at most 512
abbrev pub new_symbol : Rule Combination
new_symbol = λ s. if nat_lt s.next 512 then goes (symbol s.next) (record s { next = s.next + 1 }) ∷ [] else fails Symbols ∷ []

-- the terms of the procedure's variables
abbrev pub here : Rule Env
here = look (λ s. s.env)

-- a variable is set
abbrev pub set : ℕ → Combination → Action
set slot t = change (λ s. record s { env = slice_set s.env slot t })
