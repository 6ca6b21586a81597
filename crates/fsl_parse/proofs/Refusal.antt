-- What the reader finds is a file of the tokens, and what it refuses is none.
use Rattle.std.proofs.Common.{ℕ, ◌≡◌, ◌≤◌, ◌∙◌, [], sym, ap, Err}
use Rattle.fsl_tree.specs.declared.file.File.{File}
use Rattle.fsl_tree.specs.SpelledExpressions.{Tokens}
use Rattle.fsl_tree.specs.Spelling.{spelling}
use Rattle.fsl_tree.specs.Nesting.{nesting}
use Rattle.fsl_grammar.specs.declared.fault.Fault.{Fault}
use Rattle.fsl_grammar.specs.declared.fault.Fault.TheVariants as stops
use Rattle.fsl_grammar.specs.Readers.{Outcome, Found, Wrong, Deep, seen}
use Rattle.fsl_grammar.specs.ReadDeclarations.{read_file}
use Rattle.fsl_parse.specs.Refusal.{IsNoFile, IsRefused, placed}
use Rattle.fsl_grammar.proofs.SoundDeclarations.{file_sound}
use Rattle.fsl_grammar.proofs.WholeDeclarations.{file_reads}

pub spelled : (file : File) (left tokens : Tokens) → Found file left ≡ read_file 64 tokens → spelling file ≡ tokens
spelled file left tokens h = sym ((file_sound 64 tokens).holds file left (sym h)).found

pub nested : (file : File) (left tokens : Tokens) → Found file left ≡ read_file 64 tokens → nesting file ≤ 64
nested file left tokens h = ((file_sound 64 tokens).holds file left (sym h)).within

wrong_is_none : (tokens left : Tokens) → Wrong left ≡ read_file 64 tokens → IsNoFile tokens
wrong_is_none tokens left h file fits same =
    let a = file_reads 64 file fits in let b : read_file 64 (spelling file) ≡ read_file 64 tokens = ap (read_file 64) same in cc

deep_is_none : (tokens left : Tokens) → Deep left ≡ read_file 64 tokens → IsNoFile tokens
deep_is_none tokens left h file fits same =
    let a = file_reads 64 file fits in let b : read_file 64 (spelling file) ≡ read_file 64 tokens = ap (read_file 64) same in cc

pub refused : (e : Fault) (left : Tokens) (end : ℕ) (tokens : Tokens) → seen (Err e) left (read_file 64 tokens) ≡ read_file 64 tokens
    → IsRefused (placed e left end) tokens
refused stops.Unexpected left end tokens h = wrong_is_none tokens left h
refused stops.Deep left end tokens h = deep_is_none tokens left h
refused stops.NoMemory left end tokens h = tt
