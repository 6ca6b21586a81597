-- What is known of a message is known while it is read. Before, what was known of another one is forgotten; behind, it
-- is known where the read puts what it gains.
use Rattle.std.specs.Prelude.{Bool, false, not, ◌&&◌, ◌||◌}
use Rattle.fsl_core.specs.declared.mode.Rung.{Rung}
use Rattle.fsl_core.specs.declared.mode.Rung.TheVariants.{Msg}
use Rattle.fsl_core.specs.logic.Chunks.{same_rung}
use Rattle.fsl_meaning.specs.Heaps.{Claim, IsInit, MayWrite, MayRead, MayUpdate, Ground}

-- a claim of the message that is read
abbrev pub of_message : Claim → Bool
of_message (IsInit r l) = same_rung r Msg
of_message (MayWrite l i xs) = false
of_message (MayRead l i xs) = false
of_message (MayUpdate l i xs) = false

abbrev pub forgetting : Ground → Ground
forgetting g = record { knows = λ c. not (of_message c) && g.knows c; truth = g.truth }

-- the message knew that a location was written, and the read puts this here
abbrev pub learns : Rung → Ground → Claim → Bool
learns rung g (IsInit r l) = same_rung r rung && g.knows (IsInit Msg l)
learns rung g (MayWrite l i xs) = false
learns rung g (MayRead l i xs) = false
learns rung g (MayUpdate l i xs) = false

abbrev pub learning : Rung → Ground → Ground
learning rung g = record { knows = λ c. learns rung g c || g.knows c; truth = g.truth }
