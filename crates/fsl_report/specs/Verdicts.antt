-- The texts of verdicts. Each ends with a line feed.
use Rattle.std.specs.Prelude.{ℕ, List, [], ◌++◌, codes, slice_get, Option, Some, None}
use Rattle.std.specs.Fmt.{decimal}
use Rattle.fsl_core.specs.Programs.{Program}
use Rattle.fsl_core.specs.declared.declaration.Proc.{Proc}
use Rattle.fsl_core.specs.declared.verdict.Kind.{Kind}
use Rattle.fsl_core.specs.declared.verdict.Kind.TheVariants.{Uninit, Points, Share, Value, Init, Rel, Acq, Rmw, Token, Assert, Cond, Pre, Post, Loop, Paths, Symbols, Chunks, Term}
use Rattle.fsl_core.specs.declared.verdict.Verdict.{Verdict}
use Rattle.fsl_core.specs.declared.verdict.Verdict.TheVariants.{Accepted, Failed}
use Rattle.fsl_token.specs.declared.places.Place.{Place}
use Rattle.fsl_token.specs.Places.{place_at}

abbrev pub kind_word : Kind → List ℕ
kind_word Uninit = codes "uninit"
kind_word Points = codes "points"
kind_word Share = codes "share"
kind_word Value = codes "value"
kind_word Init = codes "init"
kind_word Rel = codes "rel"
kind_word Acq = codes "acq"
kind_word Rmw = codes "rmw"
kind_word Token = codes "token"
kind_word Assert = codes "assert"
kind_word Cond = codes "cond"
kind_word Pre = codes "pre"
kind_word Post = codes "post"
kind_word Loop = codes "loop"
kind_word Paths = codes "paths"
kind_word Symbols = codes "symbols"
kind_word Chunks = codes "chunks"
kind_word Term = codes "term"

abbrev pub name_in : Option Proc → List ℕ
name_in None = []
name_in (Some proc) = proc.name

-- the name of a procedure by its number
abbrev pub name_of : List Proc → ℕ → List ℕ
name_of procs number = name_in (slice_get procs number)

-- `failed NAME LINE:COL KIND`
abbrev pub failed_text : List ℕ → Place → Kind → List ℕ
failed_text name place kind =
    codes "failed " ++ (name ++ (codes " " ++ (decimal place.line ++ (codes ":" ++ (decimal place.col ++ (codes " " ++
    (kind_word kind ++ codes "\n")))))))

-- `accepted P`, or the name of the first procedure that fails, the place in the file and the kind
abbrev pub verdict_text : List ℕ → Program → Verdict → List ℕ
verdict_text bytes p (Accepted n) = codes "accepted " ++ (decimal n ++ codes "\n")
verdict_text bytes p (Failed proc at kind) = failed_text (name_of p.procs proc) (place_at bytes at.from) kind
