-- An answer, and what it is to write one.
use Rattle.std.specs.Prelude.{◌≡◌, ◌≤◌, ℕ, List, length, take}
use Rattle.std.specs.Io.KnownBytes.{Appends}
use Rattle.fsl_base.specs.Outside.{Rose}
use Rattle.fsl_commands.specs.declared.answer.Answer.{Answer}
use Rattle.fsl_commands.specs.declared.status.Status.{Status}
use Rattle.fsl_commands.specs.Changes.{Writing}

abbrev pub status : ℕ → Status
status n = record { 0 = n }

abbrev pub answer : ℕ → List ℕ → Answer
answer n text = record { status = status n; text = text }

-- a push failed: the sink's count of faults rose, and a first part of the text was appended
pub record IsCut (w : Writing) (text : List ℕ) : Type 0 where
  pub rose : Rose w.before.faults w.after.faults
  pub bytes : ℕ
  pub within : bytes ≤ length text
  pub part : Appends w.before.written w.after.written (take bytes text)

-- an answer was pushed once: whole, with its status, or cut off, with status 5
pub data IsWritten (a : Answer) (w : Writing) (result : Status) : Type 0 where
  whole : result ≡ a.status → Appends w.before.written w.after.written a.text → IsWritten a w result
  cut : result ≡ status 5 → IsCut w a.text → IsWritten a w result

-- an answer was composed and then written; or there was no memory for it, and nothing was pushed
pub data IsSaid (IsAnswer : Answer → Type 0) (w : Writing) (result : Status) : Type 0 where
  written : (a : Answer) → IsAnswer a → IsWritten a w result → IsSaid IsAnswer w result
  no_memory : result ≡ status 6 → w.after ≡ w.before → IsSaid IsAnswer w result
