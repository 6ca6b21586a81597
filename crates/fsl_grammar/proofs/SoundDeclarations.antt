-- What is read as a declaration or a file has its tokens, and nests no deeper than there was room for.
use Rattle.std.proofs.Common.{ℕ, zero, suc, ◌≡◌, ◌≤◌, List, [], ◌∷◌, map, length, refl, arith}
use Rattle.fsl_token.specs.declared.kind.TokenKind.{TokenKind}
use Rattle.fsl_tree.specs.SpelledExpressions.{Tokens, Spelled, all}
use Rattle.fsl_tree.specs.declared.file.File.{File}
use Rattle.fsl_grammar.specs.Heads.{is_next, is_more}
use Rattle.fsl_grammar.specs.Readers.{Reader, many}
use Rattle.fsl_tree.specs.Spelling.{parameter, next_parameter, optional_parameters, declaration, spelling}
use Rattle.fsl_tree.specs.Nesting.{in_declaration, nesting}
use Rattle.fsl_grammar.proofs.GroupTokens.{header, contract, in_contract}
use Rattle.fsl_grammar.specs.ReadDeclarations.{read_bank_parameter, read_plain_parameter, read_parameter, read_next_parameter, read_parameters, read_optional_parameters, read_header, read_invariant, read_predicate, read_procedure, read_declaration, read_file, read_contract}
use Rattle.fsl_token.specs.declared.kind.TokenKind.TheVariants as kind
use Rattle.fsl_grammar.proofs.Sound.{OnFound, both, is_read, maybe_read, found, and_then, when, Sound, SoundIfThere, none, one_level, take_sound, open_sound, many_of_sound, some_parameters}
use Rattle.fsl_grammar.proofs.SoundAssertions.{part_sound}
use Rattle.fsl_grammar.proofs.SoundStatements.{optional_clause_sound, block_sound}

pub bank_parameter_sound : (room : ℕ) → Sound parameter none room read_bank_parameter
unfolding read_bank_parameter
bank_parameter_sound room ts =
    and_then (take_sound kind.Bank ts) (λ bank l1 e1. and_then (take_sound kind.Name l1) (λ name l2 e2.
    found _ _ (is_read (cc) (omega arith) (omega arith))))

pub plain_parameter_sound : (room : ℕ) → Sound parameter none room read_plain_parameter
unfolding read_plain_parameter
plain_parameter_sound room ts =
    and_then (take_sound kind.Name ts) (λ name l1 e1. found _ _ (is_read (cc) (omega arith) (omega arith)))

pub parameter_sound : (room : ℕ) → Sound parameter none room read_parameter
unfolding read_parameter
parameter_sound room ts =
    when (is_next kind.Bank ts) (λ h. bank_parameter_sound room ts)
    (λ h. plain_parameter_sound room ts)

pub next_parameter_sound : (room : ℕ) → Sound next_parameter none room read_next_parameter
unfolding read_next_parameter
next_parameter_sound room ts =
    and_then (take_sound kind.Comma ts) (λ comma l1 e1. and_then (parameter_sound room l1) (λ p l2 e2.
    found _ _ (is_read (cc) (omega arith) (omega arith))))

pub parameters_sound : (room : ℕ) → Sound some_parameters none room read_parameters
unfolding read_parameters
parameters_sound room ts =
    and_then (parameter_sound room ts) (λ first l1 e1. and_then (many_of_sound (is_next kind.Comma) (next_parameter_sound room) l1) (λ more l2 e2.
    found _ _ (is_read (cc) (omega arith) (omega arith))))

pub optional_parameters_sound : (room : ℕ) → SoundIfThere optional_parameters none room read_optional_parameters
unfolding read_optional_parameters
optional_parameters_sound room ts =
    when (is_next kind.CloseParen ts) (λ h. found _ _ (maybe_read refl (omega arith) (omega arith)))
    (λ h. and_then (parameters_sound room ts) (λ p l1 e1. found _ _ (maybe_read (cc) (omega arith) (omega arith))))

pub header_sound : (word : TokenKind) (room : ℕ) → Sound (header word) one_level room (read_header word room)
unfolding read_header
header_sound word room ts =
    and_then (take_sound word ts) (λ place l1 e1. and_then (take_sound kind.Name l1) (λ name l2 e2.
    and_then (open_sound kind.OpenParen room l2) (λ start l3 e3. and_then (optional_parameters_sound room l3) (λ given l4 e4.
    and_then (take_sound kind.CloseParen l4) (λ end l5 e5. found _ _ (is_read (cc) (omega arith) (omega arith)))))))

pub invariant_sound : (room : ℕ) → Sound declaration in_declaration room (read_invariant room)
unfolding read_invariant
invariant_sound room ts =
    and_then (header_sound kind.Inv room ts) (λ h l1 e1. and_then (take_sound kind.Of l1) (λ of l2 e2.
    and_then (take_sound kind.Name l2) (λ value l3 e3. and_then (part_sound room l3) (λ first l4 e4.
    and_then (many_of_sound (is_next kind.OpenBrace) (part_sound room) l4) (λ more l5 e5.
    found _ _ (is_read (cc) (omega arith) (omega arith)))))))

pub predicate_sound : (room : ℕ) → Sound declaration in_declaration room (read_predicate room)
unfolding read_predicate
predicate_sound room ts =
    and_then (header_sound kind.Pred room ts) (λ h l1 e1. and_then (part_sound room l1) (λ body l2 e2.
    found _ _ (is_read (cc) (omega arith) (omega arith))))

pub contract_sound : (room : ℕ) → SoundIfThere contract in_contract room (read_contract room)
unfolding read_contract
contract_sound room ts =
    and_then (optional_clause_sound kind.Requires room ts) (λ before l1 e1. and_then (optional_clause_sound kind.Ensures room l1) (λ after l2 e2.
    found _ _ (maybe_read (cc) (omega arith) (omega arith))))

pub procedure_sound : (room : ℕ) → Sound declaration in_declaration room (read_procedure room)
unfolding read_procedure
procedure_sound room ts =
    and_then (header_sound kind.Proc room ts) (λ h l1 e1. and_then (contract_sound room l1) (λ c l2 e2. and_then (block_sound room l2) (λ body l3 e3.
    found _ _ (is_read (cc) (omega arith) (omega arith)))))

pub declaration_sound : (room : ℕ) → Sound declaration in_declaration room (read_declaration room)
unfolding read_declaration
declaration_sound room ts =
    when (is_next kind.Inv ts) (λ h. invariant_sound room ts)
    (λ h. when (is_next kind.Pred ts) (λ h. predicate_sound room ts)
    (λ h. procedure_sound room ts))

-- ---- files

all_read : {A : Type 0} {spelled : A → Spelled} {depth : A → ℕ} {room : ℕ} {item : Reader A} → Sound spelled depth room item
    → (turns : ℕ) (ts : Tokens) → length ts ≤ turns → OnFound (λ (xs : List A) (left : Tokens). left ≡ []) (many is_more item turns ts)
all_read each zero [] enough = found [] [] refl
all_read each zero (token ∷ ts) enough = absurd (omega arith)
all_read each (suc turns) [] enough = found [] [] refl
all_read each (suc turns) (token ∷ ts) enough =
    and_then (each (token ∷ ts)) (λ a l1 e1. and_then (all_read each turns l1 (omega arith)) (λ others l2 e2. found _ _ e2))

-- a whole file's tree was read from its tokens, and none are left
pub record IsFile (file : File) (room : ℕ) (ts left : Tokens) : Type 0 where
  pub found : ts ≡ spelling file
  pub within : nesting file ≤ room
  pub ended : left ≡ []

pub file_sound : (room : ℕ) (ts : Tokens) → OnFound (λ file left. IsFile file room ts left) (read_file room ts)
unfolding read_file
file_sound room ts = and_then (both (many_of_sound is_more (declaration_sound room) ts) (all_read (declaration_sound room) (length ts) ts
    (omega arith)))
    (λ every left e. let read = e.0 in let ended = e.1 in let whole : ts ≡ all (map declaration every) [] = cc in
    found _ _ (record { found = whole; within = read.within; ended = ended }))
