-- What a refusal says of the tokens, and where it stands.
use Rattle.std.specs.Prelude.{ℕ, ◌≡◌, ◌≤◌, ◌<◌, [], ◌∷◌, ◌++◌}
use Rattle.fsl_base.specs.declared.span.Span.{Span}
use Rattle.fsl_token.specs.declared.kind.Token.{Token}
use Rattle.fsl_tree.specs.declared.file.File.{File}
use Rattle.fsl_tree.specs.SpelledExpressions.{Tokens}
use Rattle.fsl_tree.specs.Spelling.{spelling}
use Rattle.fsl_tree.specs.Nesting.{nesting}
use Rattle.fsl_grammar.specs.Levels.{deepest}
use Rattle.fsl_grammar.specs.declared.fault.Fault.{Fault}
use Rattle.fsl_grammar.specs.declared.fault.Fault.TheVariants as stops
use Rattle.fsl_parse.specs.declared.fault.ParseFault.{ParseFault}
use Rattle.fsl_parse.specs.declared.fault.ParseFault.TheVariants as faults

-- no tree that nests at most 64 deep is spelled by the tokens
abbrev pub IsNoFile : Tokens → Type 0
IsNoFile tokens = (file : File) → nesting file ≤ 64 → spelling file ≡ tokens → ⊥

-- both refusals say that; want of memory says nothing
abbrev pub IsRefused : ParseFault → Tokens → Type 0
IsRefused (faults.Unexpected place) tokens = IsNoFile tokens
IsRefused (faults.Deep place) tokens = IsNoFile tokens
IsRefused faults.NoMemory tokens = Unit {0}

-- the place of the first token that is left, or of the end of the file
abbrev pub place_of : Tokens → ℕ → Span
place_of [] end = record { from = end; to = end }
place_of (token ∷ tokens) end = token.span

abbrev pub placed : Fault → Tokens → ℕ → ParseFault
placed stops.Unexpected left end = faults.Unexpected (place_of left end)
placed stops.Deep left end = faults.Deep (place_of left end)
placed stops.NoMemory left end = faults.NoMemory

-- some tree's spelling begins with these tokens
pub record BeginsFile (front : Tokens) : Type 0 where
  pub file : File
  pub rest : Tokens
  pub is : spelling file ≡ front ++ rest

-- no tree's spelling begins with `front` and the first token of `left`; where none is left, `front` is no tree's spelling
abbrev pub StopsThere : Tokens → Tokens → Type 0
StopsThere front [] = (file : File) → spelling file ≡ front → ⊥
StopsThere front (token ∷ left) = BeginsFile (front ++ token ∷ []) → ⊥

-- the first of the tokens that are left is unexpected, or that none is left, and none before it nests too deeply
pub record IsUnexpected (tokens left : Tokens) : Type 0 where
  pub front : Tokens
  pub is : tokens ≡ front ++ left
  pub begins : BeginsFile front
  pub stops : StopsThere front left
  pub within : deepest front ≤ 64

-- the first of the tokens that are left is the first that nests too deeply, and none up to it is unexpected
pub record IsDeep (tokens left : Tokens) : Type 0 where
  pub front : Tokens
  pub token : Token
  pub back : Tokens
  pub first : left ≡ token ∷ back
  pub is : tokens ≡ front ++ left
  pub begins : BeginsFile (front ++ token ∷ [])
  pub within : deepest front ≤ 64
  pub deeper : 64 < deepest (front ++ token ∷ [])

-- a place in a file of `end` bytes where the tokens that are left from there on are so
pub record StandsAt (Left : Tokens → Type 0) (place : Span) (end : ℕ) : Type 0 where
  pub left : Tokens
  pub holds : Left left
  pub there : place ≡ place_of left end

-- want of memory has no place
abbrev pub IsPlaced : ParseFault → Tokens → ℕ → Type 0
IsPlaced (faults.Unexpected place) tokens end = StandsAt (IsUnexpected tokens) place end
IsPlaced (faults.Deep place) tokens end = StandsAt (IsDeep tokens) place end
IsPlaced faults.NoMemory tokens end = Unit {0}
