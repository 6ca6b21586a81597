-- The laws of assertions, as words.
use Rattle.fsl_core.specs.declared.assertion.Asrt.{Asrt}
use Rattle.fsl_core.specs.declared.expr.Cond.{Cond}
use Rattle.fsl_core.specs.declared.expr.Expr.{Expr}
use Rattle.fsl_core.specs.logic.Assertions.{asrt_of}
use Rattle.fsl_core.specs.logic.Deciding.{cond_of}
use Rattle.fsl_core.specs.logic.Terms.{expr_of}
use Rattle.fsl_meaning.specs.Deciding.{IsRead, IsJudged}
use Rattle.fsl_meaning.specs.Heaps.{Ground}
use Rattle.fsl_asserted.specs.Exact.{exact, exact_cond}
use Rattle.fsl_asserted.specs.Fitting.{ProduceFits, ConsumeFits}
use Rattle.fsl_asserted.specs.Needs.{asks}

-- the term of an expression is its exact number
abbrev pub ExprIsRead : Type 0
ExprIsRead = (e : Expr) → IsRead (expr_of e) (exact e)

abbrev pub CondIsJudged : Type 0
CondIsJudged = (c : Cond) → IsJudged (cond_of expr_of c) (exact_cond c)

-- produced, an assertion fits with what it asks for
abbrev pub AsrtProduces : Type 0
AsrtProduces = (g : Ground) (a : Asrt) → ProduceFits g (asrt_of a).produce (asks g.truth a)

-- consumed, it gives away what it asks for
abbrev pub AsrtConsumes : Type 0
AsrtConsumes = (g : Ground) (a : Asrt) → ConsumeFits g (asrt_of a).consume (asks g.truth a)
