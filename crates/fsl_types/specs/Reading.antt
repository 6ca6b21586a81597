-- What it is for bytes to be a program.
use Rattle.std.specs.Prelude.{◌≡◌, ◌≤◌, ℕ, false, List, [], Ok}
use Rattle.fsl_core.specs.Programs.{Program}
use Rattle.fsl_token.specs.Tokens.{lexed}
use Rattle.fsl_tree.specs.declared.file.File.{File}
use Rattle.fsl_tree.specs.Nesting.{nesting}
use Rattle.fsl_tree.specs.Spelling.{spelling}
use Rattle.fsl_types.specs.Predicates.{has_predicates}
use Rattle.fsl_types.specs.Programs.{faults_of, program_of}

-- the bytes are cut into tokens, and these spell a tree that nests at most 64 deep
pub record IsTreeOf (bytes : List ℕ) (file : File) : Type 0 where
  pub spelled : lexed bytes ≡ Ok (spelling file)
  pub nested : nesting file ≤ 64

-- their tree has no named predicates and no faults, and the program is made of it
pub record ReadsAs (bytes : List ℕ) (p : Program) : Type 0 where
  pub file : File
  pub tree : IsTreeOf bytes file
  pub plain : has_predicates file ≡ false
  pub sound : faults_of bytes file ≡ []
  pub is : p ≡ program_of bytes file
