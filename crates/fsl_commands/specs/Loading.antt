-- What it is for a file to be a program that a command supports, and why it is none: the shelf failed or has no such
-- file; there are too many bytes; or no tokens, no tree, a fault of names and types, or a program that the command
-- doesn't support. Of the causes in the bytes at most one applies, as their tokens are the only ones and the tree of
-- these is the only one.
use Rattle.std.specs.Prelude.{◌≡◌, ◌≤◌, ◌<◌, ◌⊎◌, ℕ, true, false, List, [], length, Some, None, Ok, Err, IsTrue}
use Rattle.fsl_base.specs.Outside.{Content, Rose, HoldsNo, raised}
use Rattle.fsl_core.specs.Programs.{Program}
use Rattle.fsl_parse.specs.declared.fault.ParseFault.TheVariants as parse_faults
use Rattle.fsl_parse.specs.Refusal.{IsPlaced}
use Rattle.fsl_report.specs.declared.refused.BadToken.{BadToken}
use Rattle.fsl_report.specs.declared.refused.BadToken.TheVariants.{Char, Number, Name}
use Rattle.fsl_report.specs.declared.refused.Refused.{Refused}
use Rattle.fsl_report.specs.declared.refused.Refused.TheVariants as refusals
use Rattle.fsl_token.specs.declared.fault.LexFault.{LexFault}
use Rattle.fsl_token.specs.declared.fault.LexFault.TheVariants as lex_faults
use Rattle.fsl_token.specs.declared.kind.Token.{Token}
use Rattle.fsl_token.specs.Tokens.{lexed}
use Rattle.fsl_tree.specs.declared.file.File.{File}
use Rattle.fsl_types.specs.Faults.{fault_at, least_fault}
use Rattle.fsl_types.specs.Predicates.{has_predicates}
use Rattle.fsl_types.specs.Programs.{faults_of, program_of}
use Rattle.fsl_types.specs.Reading.{IsTreeOf, ReadsAs}
use Rattle.fsl_commands.specs.declared.command.Command.{Command}
use Rattle.fsl_commands.specs.declared.loading.Fault.{Fault}
use Rattle.fsl_commands.specs.declared.loading.Fault.TheVariants as faults
use Rattle.fsl_commands.specs.declared.unread.Unread.{Unread}
use Rattle.fsl_commands.specs.declared.unread.Unread.TheVariants as unread
use Rattle.fsl_commands.specs.Changes.{Reading}
use Rattle.fsl_commands.specs.Command.{supports}

-- where the shelf tells what it holds, these are the bytes under the name
abbrev pub IsHeld : Content → List ℕ → List ℕ → Type 0
IsHeld None name bytes = Unit {0}
IsHeld (Some held) name bytes = held name ≡ Some bytes

-- the file has these bytes, at most 1048576
pub record HasFile (content : Content) (name : List ℕ) (bytes : List ℕ) : Type 0 where
  pub held : IsHeld content name bytes
  pub within : length bytes ≤ 1048576

-- where the shelf tells what it holds, more than 1048576 bytes are under the name
abbrev pub IsTooLong : Content → List ℕ → Type 0
IsTooLong None name = Unit {0}
IsTooLong (Some held) name = (bytes : List ℕ) × (held name ≡ Some bytes) × (1048576 < length bytes)

-- the file has more: one byte more was pulled
pub record HasTooMany (r : Reading) : Type 0 where
  pub pulled : r.after.given ≡ raised r.before.given 1048577
  pub long : IsTooLong r.before.content r.name

-- the bytes are no other program
abbrev pub IsOnly : List ℕ → Program → Type 0
IsOnly bytes p = (q : Program) → ReadsAs bytes q → q ≡ p

-- the bytes are no program
abbrev pub IsNoProgram : List ℕ → Type 0
IsNoProgram bytes = (p : Program) → ReadsAs bytes p → ⊥

-- the bytes are no program that the command supports so far
abbrev pub IsNotSupported : Command → List ℕ → Type 0
IsNotSupported command bytes = (p : Program) → ReadsAs bytes p → IsTrue (supports command p) → ⊥

-- a tree that the command doesn't support: it has named predicates, or its program is none that is supported
abbrev pub IsBeyond : Command → List ℕ → File → Type 0
IsBeyond command bytes file =
    (has_predicates file ≡ true) ⊎ ((faults_of bytes file ≡ []) × (supports command (program_of bytes file) ≡ false))

-- the fault of the lexer that a bad token is
abbrev pub bad_token : BadToken → ℕ → LexFault
bad_token Char at = lex_faults.BadChar at
bad_token Number at = lex_faults.LongNumber at
bad_token Name at = lex_faults.LongName at

-- the fault of at most 1048576 bytes, with its place
abbrev pub HasFault : Command → List ℕ → Refused → Type 0
HasFault command bytes refusals.Size = ⊥
HasFault command bytes (refusals.Text at) = lexed bytes ≡ Err (lex_faults.NotText at)
HasFault command bytes (refusals.Token bad at) = lexed bytes ≡ Err (bad_token bad at)
HasFault command bytes (refusals.Syntax place) = (tokens : List Token) × (lexed bytes ≡ Ok tokens) × IsPlaced (parse_faults.Unexpected place) tokens (length bytes)
HasFault command bytes (refusals.Deep place) = (tokens : List Token) × (lexed bytes ≡ Ok tokens) × IsPlaced (parse_faults.Deep place) tokens (length bytes)
HasFault command bytes (refusals.Types kind place) = (file : File) × IsTreeOf bytes file × (has_predicates file ≡ false) × (least_fault (faults_of bytes file) ≡ Some (fault_at place kind))
HasFault command bytes refusals.Form = (file : File) × IsTreeOf bytes file × IsBeyond command bytes file

-- what that says of programs
abbrev pub RulesOut : Command → List ℕ → Refused → Type 0
RulesOut command bytes refusals.Form = IsNotSupported command bytes
RulesOut command bytes _ = IsNoProgram bytes

-- why bytes are refused for a command
pub record IsRefused (command : Command) (bytes : List ℕ) (why : Refused) : Type 0 where
  pub has : HasFault command bytes why
  pub rules_out : RulesOut command bytes why

-- why bytes are not read for a command; want of memory says nothing of them
abbrev pub IsFault : Command → List ℕ → Fault → Type 0
IsFault command bytes (faults.Refused why) = IsRefused command bytes why
IsFault command bytes faults.NoMemory = Unit {0}

-- a file was read, and its bytes are refused
pub record IsRefusedFile (command : Command) (r : Reading) (bytes : List ℕ) (why : Refused) : Type 0 where
  pub file : HasFile r.before.content r.name bytes
  pub refused : IsRefused command bytes why

-- why a file is refused: it has too many bytes, or by what they are
abbrev pub IsRefusedFor : Command → Reading → List ℕ → Refused → Type 0
IsRefusedFor command r bytes refusals.Size = HasTooMany r
IsRefusedFor command r bytes why = IsRefusedFile command r bytes why

-- why no program was read: the shelf failed or has no such file, or the file is refused; want of memory has no cause
abbrev pub CausedBy : Command → Reading → Unread → Type 0
CausedBy command r unread.Read = Rose r.before.faults r.after.faults ⊎ HoldsNo r.before.content r.name
CausedBy command r (unread.Refused bytes why) = IsRefusedFor command r bytes why
CausedBy command r unread.NoMemory = Unit {0}

-- the file has these bytes, and they are one program alone, which the command supports
pub record IsProgramOf (command : Command) (r : Reading) (bytes : List ℕ) (p : Program) : Type 0 where
  pub file : HasFile r.before.content r.name bytes
  pub reads : ReadsAs bytes p
  pub only : IsOnly bytes p
  pub supported : IsTrue (supports command p)
