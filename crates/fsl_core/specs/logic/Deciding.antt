-- Facts: what the path proves, what is assumed on it, and comparisons that are decided, with a branch for each
-- answer that isn't ruled out.
use Rattle.std.specs.Prelude.{Bool, true, false, not, ◌&&◌, ◌||◌, filter, List, [], ◌∷◌, ◌++◌, ℤ, pos, ◌-ℤ◌, if◌then◌else◌}
use Rattle.fsl_core.specs.declared.expr.Cond.{Cond}
use Rattle.fsl_core.specs.declared.expr.Cond.TheVariants as cond
use Rattle.fsl_core.specs.declared.expr.CmpOp.{CmpOp}
use Rattle.fsl_core.specs.declared.expr.Expr.{Expr}
use Rattle.fsl_core.specs.declared.expr.CmpOp.TheVariants as cmp_op
use Rattle.fsl_core.specs.declared.verdict.Kind.{Kind}
use Rattle.fsl_core.specs.declared.verdict.Kind.TheVariants as kind
use Rattle.fsl_core.specs.logic.States.{Env, goes, fails, Rule, Action, ◌>>=◌, ◌>>◌, give, done, look, demand}
use Rattle.fsl_core.specs.logic.Terms.{Expression, term}
use Rattle.fsl_lin.specs.Combination.{Combination, plus, minus, constant, is_narrow}
use Rattle.fsl_lin.specs.Facts.{proves_le, proves_is, absurd_facts, facts_fit}
use Rattle.fsl_lin.specs.Numbers.{part, gapped}
use Rattle.fsl_lin.specs.declared.fact.Fact.{Fact}
use Rattle.fsl_lin.specs.declared.fact.Fact.TheVariants.{Le, Is}

-- a + gap <= b is proved, by the exact difference
abbrev pub proves_at_most : List Fact → Combination → ℤ → Combination → Bool
proves_at_most facts a gap b = proves_le facts (gapped (part a) (part b) gap)

abbrev pub proves_equal : List Fact → Combination → Combination → Bool
proves_equal facts a b = proves_is facts (gapped (part a) (part b) (pos 0))

-- one of them is less than the other
abbrev pub proves_apart : List Fact → Combination → Combination → Bool
proves_apart facts a b = proves_at_most facts a (pos 1) b || proves_at_most facts b (pos 1) a

abbrev pub term_in : Fact → Combination
term_in (Le t) = t
term_in (Is t) = t

-- the numbers of a fact, and of all facts with it, keep within their bounds
abbrev pub has_room : Fact → List Fact → Bool
has_room fact facts = is_narrow (term_in fact) && facts_fit (fact ∷ facts)

-- a fact is assumed as it stands; where the facts are absurd with it, there is no branch
abbrev pub assume : Fact → Action
assume fact = λ s.
    if has_room fact s.facts
    then (if absurd_facts (fact ∷ s.facts) then [] else goes tt (record s { facts = fact ∷ s.facts }) ∷ [])
    else fails kind.Term ∷ []

-- a + gap <= b
abbrev pub assume_at_most : Combination → ℤ → Combination → Action
assume_at_most a gap b = assume (Le (plus (minus a b) (constant gap)))

abbrev pub assume_equal : Combination → Combination → Action
assume_equal a b = assume (Is (minus a b))

-- one answer of a decision, with what is assumed for it
pub record Side : Type 0 where
  pub holds : Bool
  pub assumed : Action

abbrev pub side : Bool → Action → Side
side holds assumed = record { holds = holds; assumed = assumed }

-- the answer is known, and nothing is assumed for it
abbrev pub known : Bool → List Side
known holds = side holds done ∷ []

-- a + gap <= b, the true side first; it is false where b + 1 <= a + gap
abbrev pub decide_at_most : Combination → ℤ → Combination → List Fact → List Side
decide_at_most a gap b facts =
    if proves_at_most facts a gap b then known true
    else if proves_at_most facts b (pos 1 -ℤ gap) a then known false
    else side true (assume_at_most a gap b) ∷ side false (assume_at_most b (pos 1 -ℤ gap) a) ∷ []

-- equal, less, greater
abbrev pub decide_equal : Combination → Combination → List Fact → List Side
decide_equal a b facts =
    if proves_equal facts a b then known true
    else if proves_apart facts a b then known false
    else side true (assume_equal a b) ∷ side false (assume_at_most a (pos 1) b) ∷ side false (assume_at_most b (pos 1) a) ∷ []

-- less, greater, equal
abbrev pub decide_unequal : Combination → Combination → List Fact → List Side
decide_unequal a b facts =
    if proves_equal facts a b then known false
    else if proves_apart facts a b then known true
    else side true (assume_at_most a (pos 1) b) ∷ side true (assume_at_most b (pos 1) a) ∷ side false (assume_equal a b) ∷ []

abbrev pub decide : CmpOp → Combination → Combination → List Fact → List Side
decide cmp_op.Eq a b = decide_equal a b
decide cmp_op.Ne a b = decide_unequal a b
decide cmp_op.Lt a b = decide_at_most a (pos 1) b
decide cmp_op.Le a b = decide_at_most a (pos 0) b
decide cmp_op.Gt a b = decide_at_most b (pos 1) a
decide cmp_op.Ge a b = decide_at_most b (pos 0) a

-- a condition, with its expressions read
pub data Condition : Type 0 where
  always : Condition
  never : Condition
  compares : CmpOp → Expression → Expression → Condition

abbrev pub cond_of : (Expr → Expression) → Cond → Condition
cond_of read cond.Yes = always
cond_of read cond.No = never
cond_of read (cond.Cmp op l r) = compares op (read l) (read r)

abbrev pub cond_says : Condition → Bool
cond_says always = false
cond_says never = false
cond_says (compares op l r) = l.says || r.says

-- the sides of a condition
abbrev pub sides : Condition → Env → Rule (List Side)
sides always env = give (known true)
sides never env = give (known false)
sides (compares op l r) env = do
  a ← term l env
  b ← term r env
  look (λ s. decide op a b s.facts)

-- every side in order, each with its answer
abbrev pub each_side : List Side → Rule Bool
each_side [] s = []
each_side (x ∷ xs) s = (x.assumed >> give x.holds) s ++ each_side xs s

abbrev pub agrees : Bool → Bool → Bool
agrees true b = b
agrees false b = not b

-- the sides with this answer alone; a branch that fails by its fact is one of that fact's side
abbrev pub sides_of : Bool → List Side → List Side
sides_of answer xs = filter (λ x. agrees answer x.holds) xs

-- a condition is decided
abbrev pub decided : Condition → Env → Rule Bool
decided cond env = sides cond env >>= each_side

-- a condition is assumed to hold, or not to hold
abbrev pub assume_cond : Bool → Condition → Env → Action
assume_cond answer cond env = do
  xs ← sides cond env
  each_side (sides_of answer xs)
  done

-- true without a branch
abbrev pub is_sure : List Side → Bool
is_sure (x ∷ []) = x.holds
is_sure _ = false

-- a condition has to be proved, else the path fails by this kind
abbrev pub demand_cond : Kind → Condition → Env → Action
demand_cond kind cond env = do
  xs ← sides cond env
  demand kind (is_sure xs)
