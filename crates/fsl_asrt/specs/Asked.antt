-- The branches that a question stands for.
use Rattle.std.specs.Prelude.{List, [], ◌∷◌, Option, Some, None}
use Rattle.fsl_asrt.specs.declared.asked.Question.{Question}
use Rattle.fsl_asrt.specs.Sides.{sides_of}
use Rattle.fsl_core.specs.declared.verdict.Kind.TheVariants.{Term}
use Rattle.fsl_core.specs.logic.States.{Rule, goes, fails}
use Rattle.fsl_core.specs.logic.Deciding.{Side}

abbrev pub asked : Option Question → Rule (List Side)
asked None s = fails Term ∷ []
asked (Some q) s = goes (sides_of q.a q.b q.sides) s ∷ []
