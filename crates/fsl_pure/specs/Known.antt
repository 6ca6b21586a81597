-- What was assumed at a place of a path, and what is held to judge by it.
use Rattle.std.specs.Prelude.{◌≡◌, ◌≤◌, ℕ, suc, Bool, true, false, List, ◌∷◌, map}
use Rattle.fsl_lin.specs.declared.equation.Equation.{Equation}
use Rattle.fsl_lin.specs.declared.fact.Fact.{Fact}
use Rattle.fsl_lin.specs.declared.sym.Sym.{Sym}
use Rattle.fsl_lin.specs.declared.took.Took.{Took}
use Rattle.fsl_lin.specs.declared.took.Took.TheVariants.{Pivot, Trivial, Absurd, NoPivot}
use Rattle.fsl_lin.specs.Combination.{Combination}
use Rattle.fsl_lin.specs.Numbers.{Numbers, part, opposite}
use Rattle.fsl_lin.specs.Rows.{Row, normal}
use Rattle.fsl_lin.specs.Equations.{rows_of}
use Rattle.fsl_lin.specs.Facts.{rows, kept, refuted_equation, facts_fit}
use Rattle.fsl_pure.specs.Table.{some_have}

-- the facts, the newest first, and how many symbols were made
pub record Assumed : Type 0 where
  pub facts : List Fact
  pub symbols : ℕ

-- the same, and what there was at each mark that is left, the newest first
pub record Marked : Type 0 where
  pub facts : List Fact
  pub symbols : ℕ
  pub marks : List Assumed

-- the reduced equations, the kept bounds in normal form, and whether an equation was refuted
pub record IsHeld (fs : List Fact) (eqs : List Equation) (bounds : List Combination) (unequal : Bool) : Type 0 where
  pub equations : rows_of eqs ≡ rows fs
  pub normal : map part bounds ≡ kept fs
  pub told : unequal ≡ refuted_equation fs
  pub fit : facts_fit fs ≡ true

pub record IsKnown (fs : List Fact) (symbols : ℕ) (eqs : List Equation) (bounds : List Combination) (unequal : Bool) : Type 0 where
  pub held : IsHeld fs eqs bounds unequal
  pub few : symbols ≤ 512

-- the kept bounds once `t = 0` is assumed, by what became of it
abbrev pub kept_next : List Row → Numbers → Took → List Numbers → List Numbers
kept_next rs t (Pivot s) ns = map (normal rs) ns
kept_next rs t Trivial ns = ns
kept_next rs t Absurd ns = ns
kept_next rs t NoPivot ns = normal rs t ∷ opposite (normal rs t) ∷ ns

-- where no bound has the pivot, they are in normal form already
abbrev pub Leaves : List Row → Took → List Numbers → Type 0
Leaves rs k ns = (s : Sym) → k ≡ Pivot s → some_have (suc s.0) ns ≡ false → map (normal rs) ns ≡ ns

abbrev pub is_absurd : Took → Bool
is_absurd (Pivot s) = false
is_absurd Trivial = false
is_absurd Absurd = true
is_absurd NoPivot = false
