-- What the program answers to its words.
use Rattle.std.specs.Prelude.{◌≡◌, ℕ, List, [], ◌∷◌, codes, Option, Some, None, if◌then◌else◌}
use Rattle.std.specs.Str.{bytes_eq}
use Rattle.fsl_commands.specs.declared.answer.Answer.{Answer}
use Rattle.fsl_commands.specs.Answer.{answer}
use Rattle.fsl_commands.specs.Changes.{Reading}
use Rattle.fsl_commands.specs.Check.{IsChecked}
use Rattle.fsl_commands.specs.Run.{IsRan}

abbrev pub usage : List ℕ
usage = codes "usage: fslpp check|run|gauge FILE [--workers N] [--seed N] [--steps N]\n"

-- the file that the words name for an action: they are the program's name, the action and the file's name
abbrev pub named : List ℕ → List (List ℕ) → Option (List ℕ)
named wanted (program ∷ action ∷ name ∷ []) = if bytes_eq action wanted then Some name else None
named wanted _ = None

-- the answer to words: that of `check` or of `run`, by the file that they name for it, or the usage
abbrev pub IsAnswered : (check run : Option (List ℕ)) → (List ℕ → Reading) → Answer → Type 0
IsAnswered (Some name) other reading a = IsChecked (reading name) a
IsAnswered None (Some name) reading a = IsRan (reading name) 100000 a
IsAnswered None None reading a = a ≡ answer 2 usage
