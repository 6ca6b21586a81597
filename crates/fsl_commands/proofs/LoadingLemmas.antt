-- The bytes of a file spell no other tree, and so are no other program; and why they are none that a command supports.
use Rattle.std.proofs.Common.{◌≡◌, ◌≤◌, inl, inr, true, false, ℕ, List, [], Result, Ok, Err, Some, None, length, sym, ap, ◌∙◌}
use Rattle.fsl_base.specs.declared.span.Span.{Span}
use Rattle.fsl_core.specs.Programs.{Program}
use Rattle.fsl_parse.specs.declared.fault.ParseFault.TheVariants as parse_faults
use Rattle.fsl_parse.specs.Refusal.{IsNoFile, IsPlaced}
use Rattle.fsl_report.specs.declared.refused.BadToken.{BadToken}
use Rattle.fsl_report.specs.declared.refused.Refused.{Refused}
use Rattle.fsl_report.specs.declared.refused.Refused.TheVariants as refusals
use Rattle.fsl_token.specs.declared.fault.LexFault.{LexFault}
use Rattle.fsl_token.specs.declared.fault.LexFault.TheVariants as lex_faults
use Rattle.fsl_token.specs.declared.kind.Token.{Token}
use Rattle.fsl_token.specs.Tokens.{lexed}
use Rattle.fsl_tree.specs.declared.file.File.{File}
use Rattle.fsl_tree.specs.Nesting.{nesting}
use Rattle.fsl_tree.specs.Spelling.{spelling}
use Rattle.fsl_types.specs.declared.fault.Fault.{Fault}
use Rattle.fsl_types.specs.declared.fault.TypeKind.{TypeKind}
use Rattle.fsl_types.specs.Faults.{fault_at, least_fault}
use Rattle.fsl_types.specs.Predicates.{has_predicates}
use Rattle.fsl_types.specs.Programs.{faults_of, program_of}
use Rattle.fsl_types.specs.Reading.{IsTreeOf, ReadsAs}
use Rattle.fsl_commands.specs.declared.command.Command.{Command}
use Rattle.fsl_commands.specs.Changes.{Reading}
use Rattle.fsl_commands.specs.Command.{supports}
use Rattle.fsl_commands.specs.Loading.{HasFile, IsNoProgram, IsOnly, IsRefused, IsRefusedFor, bad_token}

abbrev as_tokens : List Token → Result (List Token) LexFault
as_tokens tokens = Ok tokens

pub tree : (bytes : List ℕ) (tokens : List Token) (file : File) → lexed bytes ≡ Ok tokens → spelling file ≡ tokens → nesting file ≤ 64 → IsTreeOf bytes file
tree bytes tokens file cut spelled nested = record { spelled = cut ∙ ap as_tokens (sym spelled); nested = nested }

pub only_tree : (bytes : List ℕ) (tokens : List Token) (file : File) → lexed bytes ≡ Ok tokens
    → ((other : File) → spelling other ≡ tokens → other ≡ file) → (other : File) → IsTreeOf bytes other → other ≡ file
only_tree bytes tokens file cut only other is =
    let spelled = is.spelled in let same : spelling other ≡ tokens = cc in only other same

pub reads : (bytes : List ℕ) (file : File) (p : Program) → IsTreeOf bytes file → has_predicates file ≡ false → faults_of bytes file ≡ []
    → p ≡ program_of bytes file → ReadsAs bytes p
reads bytes file p is plain sound made = record { file = file; tree = is; plain = plain; sound = sound; is = made }

pub only_program : (bytes : List ℕ) (file : File) (p : Program) → ((other : File) → IsTreeOf bytes other → other ≡ file)
    → p ≡ program_of bytes file → IsOnly bytes p
only_program bytes file p only is = λ q r. r.is ∙ ap (λ f. program_of bytes f) (only r.file r.tree) ∙ sym is

no_program : (bytes : List ℕ) (fault : LexFault) → lexed bytes ≡ Err fault → IsNoProgram bytes
no_program bytes fault is = λ p reads. let spelled = reads.tree.spelled in absurd cc

pub no_text : (bytes : List ℕ) (at : ℕ) → lexed bytes ≡ Err (lex_faults.NotText at)
    → (command : Command) → IsRefused command bytes (refusals.Text at)
no_text bytes at is command = record { has = is; rules_out = no_program bytes (lex_faults.NotText at) is }

pub no_tokens : (bytes : List ℕ) (bad : BadToken) (at : ℕ) → lexed bytes ≡ Err (bad_token bad at)
    → (command : Command) → IsRefused command bytes (refusals.Token bad at)
no_tokens bytes bad at is command = record { has = is; rules_out = no_program bytes (bad_token bad at) is }

no_tree : (bytes : List ℕ) (tokens : List Token) → lexed bytes ≡ Ok tokens → IsNoFile tokens → IsNoProgram bytes
no_tree bytes tokens cut no_file = λ p reads.
    let spelled = reads.tree.spelled in let same : spelling reads.file ≡ tokens = cc in no_file reads.file reads.tree.nested same

pub unexpected : (bytes : List ℕ) (tokens : List Token) (place : Span) → lexed bytes ≡ Ok tokens → IsNoFile tokens
    → IsPlaced (parse_faults.Unexpected place) tokens (length bytes) → (command : Command)
    → IsRefused command bytes (refusals.Syntax place)
unexpected bytes tokens place cut no_file placed command = record { has = (tokens, cut, placed); rules_out = no_tree bytes tokens cut no_file }

pub too_deep : (bytes : List ℕ) (tokens : List Token) (place : Span) → lexed bytes ≡ Ok tokens → IsNoFile tokens
    → IsPlaced (parse_faults.Deep place) tokens (length bytes) → (command : Command)
    → IsRefused command bytes (refusals.Deep place)
too_deep bytes tokens place cut no_file placed command = record { has = (tokens, cut, placed); rules_out = no_tree bytes tokens cut no_file }

-- a tree with faults has a first one
none_of_none : (faults : List Fault) (fault : Fault) → least_fault faults ≡ Some fault → faults ≡ [] → ⊥
none_of_none faults fault least none = let least_none : least_fault faults ≡ None = ap least_fault none in absurd cc

pub ill_typed : (bytes : List ℕ) (file : File) (kind : TypeKind) (place : Span) → IsTreeOf bytes file
    → ((other : File) → IsTreeOf bytes other → other ≡ file) → has_predicates file ≡ false
    → least_fault (faults_of bytes file) ≡ Some (fault_at place kind) → (command : Command)
    → IsRefused command bytes (refusals.Types kind place)
ill_typed bytes file kind place is only plain least command = record {
  has = (file, is, plain, least);
  rules_out = λ p reads. none_of_none (faults_of bytes file) (fault_at place kind) least
      (ap (λ f. faults_of bytes f) (sym (only reads.file reads.tree)) ∙ reads.sound);
}

pub with_predicates : (bytes : List ℕ) (file : File) → IsTreeOf bytes file → ((other : File) → IsTreeOf bytes other → other ≡ file)
    → has_predicates file ≡ true → (command : Command) → IsRefused command bytes refusals.Form
with_predicates bytes file is only has command = record {
  has = (file, is, inl has);
  rules_out = λ p reads supported.
      let none : has_predicates file ≡ false = ap has_predicates (sym (only reads.file reads.tree)) ∙ reads.plain in absurd cc;
}

pub not_supported : (bytes : List ℕ) (file : File) (q : Program) (command : Command) → IsTreeOf bytes file
    → ((other : File) → IsTreeOf bytes other → other ≡ file) → faults_of bytes file ≡ [] → q ≡ program_of bytes file
    → supports command q ≡ false → IsRefused command bytes refusals.Form
not_supported bytes file q command is only sound made other = record {
  has = (file, is, inr (sound, ap (supports command) (sym made) ∙ other));
  rules_out = λ p reads supported.
      let same : p ≡ q = reads.is ∙ ap (λ f. program_of bytes f) (only reads.file reads.tree) ∙ sym made in
      let false_ : supports command p ≡ false = ap (supports command) same ∙ other in absurd cc;
}

-- the cause of a refusal of a file that was read
pub cause_of : (command : Command) (r : Reading) (bytes : List ℕ) (why : Refused) → HasFile r.before.content r.name bytes
    → IsRefused command bytes why → IsRefusedFor command r bytes why
cause_of command r bytes refusals.Size file is = absurd is.has
cause_of command r bytes (refusals.Text at) file is = record { file = file; refused = is }
cause_of command r bytes (refusals.Token bad at) file is = record { file = file; refused = is }
cause_of command r bytes (refusals.Syntax place) file is = record { file = file; refused = is }
cause_of command r bytes (refusals.Deep place) file is = record { file = file; refused = is }
cause_of command r bytes (refusals.Types kind place) file is = record { file = file; refused = is }
cause_of command r bytes refusals.Form file is = record { file = file; refused = is }
