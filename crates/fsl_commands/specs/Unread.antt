-- The answer where no program was read.
use Rattle.std.specs.Prelude.{ℕ, List, codes, length, Option, Some, None}
use Rattle.fsl_report.specs.Refusals.{refused_text}
use Rattle.fsl_commands.specs.declared.answer.Answer.{Answer}
use Rattle.fsl_commands.specs.declared.unread.Unread.{Unread}
use Rattle.fsl_commands.specs.declared.unread.Unread.TheVariants.{Read, Refused, NoMemory}
use Rattle.fsl_commands.specs.Answer.{answer}

abbrev pub read_fault : List ℕ
read_fault = codes "read fault\n"

-- want of memory has no answer of its own
abbrev pub refusal : Unread → Option Answer
refusal Read = Some (answer 4 read_fault)
refusal (Refused bytes why) = Some (answer 3 (refused_text bytes why))
refusal NoMemory = None

-- how many bytes are kept
abbrev pub size_of : Unread → ℕ
size_of Read = 0
size_of (Refused bytes why) = length bytes
size_of NoMemory = 0
