-- What is assumed of two terms on a branch of a decision, and the sides of decisions.
use Rattle.std.specs.Prelude.{Bool, true, false, List, [], ◌∷◌, map, pos, if◌then◌else◌}
use Rattle.fsl_asrt.specs.declared.given.Given.{Given}
use Rattle.fsl_asrt.specs.declared.given.Given.TheVariants.{Nothing, Equal, Less, AtMost, Greater, AtLeast}
use Rattle.fsl_asrt.specs.declared.given.Side.{Side}
use Rattle.fsl_core.specs.logic.States.{Action, Rule, ◌>>◌, done, give}
use Rattle.fsl_core.specs.logic.Deciding as deciding
use Rattle.fsl_core.specs.logic.Deciding.{known, side, proves_at_most, proves_equal, assume_at_most, assume_equal}
use Rattle.fsl_lin.specs.Combination.{Combination}
use Rattle.fsl_lin.specs.declared.fact.Fact.{Fact}

abbrev pub assumed : Combination → Combination → Given → Action
assumed a b Nothing = done
assumed a b Equal = assume_equal a b
assumed a b Less = assume_at_most a (pos 1) b
assumed a b AtMost = assume_at_most a (pos 0) b
assumed a b Greater = assume_at_most b (pos 1) a
assumed a b AtLeast = assume_at_most b (pos 0) a

abbrev pub proved : Combination → Combination → List Fact → Given → Bool
proved a b facts Nothing = true
proved a b facts Equal = proves_equal facts a b
proved a b facts Less = proves_at_most facts a (pos 1) b
proved a b facts AtMost = proves_at_most facts a (pos 0) b
proved a b facts Greater = proves_at_most facts b (pos 1) a
proved a b facts AtLeast = proves_at_most facts b (pos 0) a

abbrev pub side_of : Combination → Combination → Side → deciding.Side
side_of a b x = record { holds = x.holds; assumed = assumed a b x.given }

abbrev pub sides_of : Combination → Combination → List Side → List deciding.Side
sides_of a b = map (side_of a b)

-- true by one fact and false by another, the true side first
abbrev pub ordered : Given → Given → Combination → Combination → List Fact → List deciding.Side
ordered so not_so a b facts =
    if proved a b facts so then known true
    else if proved a b facts not_so then known false
    else side true (assumed a b so) ∷ side false (assumed a b not_so) ∷ []

-- a side is taken, with its answer
abbrev pub taken : Combination → Combination → Side → Rule Bool
taken a b x = assumed a b x.given >> give x.holds
