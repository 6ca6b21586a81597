-- The same of declarations and files.
use Rattle.std.proofs.Common.{ℕ, List, refl}
use Rattle.fsl_token.specs.declared.kind.TokenKind.{TokenKind}
use Rattle.fsl_grammar.specs.Heads.{is_next, is_more}
use Rattle.fsl_grammar.specs.ReadDeclarations.{read_bank_parameter, read_plain_parameter, read_parameter, read_next_parameter, read_parameters, read_optional_parameters, read_header, read_invariant, read_predicate, read_contract, read_procedure, read_declaration, read_file}
use Rattle.fsl_grammar.specs.Levels.{Opened}
use Rattle.fsl_token.specs.declared.kind.TokenKind.TheVariants as kind
use Rattle.fsl_grammar.proofs.Level.{LevelOf, Fits, inside, IsPlain, Any, done, and_then, when, take_plain, take_name, close_paren, open_level, many_of_level}
use Rattle.fsl_grammar.proofs.LevelAssertions.{part_level}
use Rattle.fsl_grammar.proofs.LevelStatements.{optional_clause_level, block_level}

pub bank_parameter_level : {n room : ℕ} {F : List Opened} → Fits n room F → LevelOf n F Any Any read_bank_parameter
unfolding read_bank_parameter
bank_parameter_level fits flag ts q =
    and_then (take_plain kind.Bank (λ F b. refl) fits flag ts) (λ bank l1 f1 q1. and_then (take_name fits f1 l1) (λ name l2 f2 q2. done f2 tt))

pub plain_parameter_level : {n room : ℕ} {F : List Opened} → Fits n room F → LevelOf n F Any Any read_plain_parameter
unfolding read_plain_parameter
plain_parameter_level fits flag ts q =
    and_then (take_name fits flag ts) (λ name l1 f1 q1. done f1 tt)

pub parameter_level : {n room : ℕ} {F : List Opened} → Fits n room F → LevelOf n F Any Any read_parameter
unfolding read_parameter
parameter_level fits flag ts q =
    when (is_next kind.Bank ts) (bank_parameter_level fits flag ts tt)
    (plain_parameter_level fits flag ts tt)

pub next_parameter_level : {n room : ℕ} {F : List Opened} → Fits n room F → LevelOf n F Any Any read_next_parameter
unfolding read_next_parameter
next_parameter_level fits flag ts q =
    and_then (take_plain kind.Comma (λ F b. refl) fits flag ts) (λ comma l1 f1 q1. and_then (parameter_level fits f1 l1 tt) (λ p l2 f2 q2.
    done f2 tt))

pub parameters_level : {n room : ℕ} {F : List Opened} → Fits n room F → LevelOf n F Any Any read_parameters
unfolding read_parameters
parameters_level fits flag ts q =
    and_then (parameter_level fits flag ts tt) (λ first l1 f1 q1.
    and_then (many_of_level {Q = Any} (is_next kind.Comma) (next_parameter_level fits) f1 l1 tt) (λ more l2 f2 q2. done f2 tt))

pub optional_parameters_level : {n room : ℕ} {F : List Opened} → Fits n room F → LevelOf n F Any Any read_optional_parameters
unfolding read_optional_parameters
optional_parameters_level fits flag ts q =
    when (is_next kind.CloseParen ts) (done flag tt)
    (and_then (parameters_level fits flag ts tt) (λ p l1 f1 q1. done f1 tt))

pub header_level : {n room : ℕ} {F : List Opened} (word : TokenKind) → IsPlain word → Fits n room F → LevelOf n F Any Any (read_header word room)
unfolding read_header
header_level word plain fits flag ts q =
    and_then (take_plain word plain fits flag ts) (λ place l1 f1 q1. and_then (take_name fits f1 l1) (λ name l2 f2 q2.
    and_then (open_level kind.OpenParen (λ b. refl) fits.fits f2 l2) (λ start l3 f3 q3.
    and_then (optional_parameters_level (inside fits q3.roomy) f3 l3 tt) (λ given l4 f4 q4. and_then (close_paren fits f4 l4) (λ end l5 f5 q5.
    done f5 tt)))))

pub invariant_level : {n room : ℕ} {F : List Opened} → Fits n room F → LevelOf n F Any Any (read_invariant room)
unfolding read_invariant
invariant_level fits flag ts q =
    and_then (header_level kind.Inv (λ F b. refl) fits flag ts tt) (λ h l1 f1 q1.
    and_then (take_plain kind.Of (λ F b. refl) fits f1 l1) (λ of l2 f2 q2. and_then (take_name fits f2 l2) (λ value l3 f3 q3.
    and_then (part_level fits f3 l3 tt) (λ first l4 f4 q4.
    and_then (many_of_level {Q = Any} (is_next kind.OpenBrace) (part_level fits) f4 l4 tt) (λ more l5 f5 q5. done f5 tt)))))

pub predicate_level : {n room : ℕ} {F : List Opened} → Fits n room F → LevelOf n F Any Any (read_predicate room)
unfolding read_predicate
predicate_level fits flag ts q =
    and_then (header_level kind.Pred (λ F b. refl) fits flag ts tt) (λ h l1 f1 q1. and_then (part_level fits f1 l1 tt) (λ body l2 f2 q2. done f2 tt))

pub contract_level : {n room : ℕ} {F : List Opened} → Fits n room F → LevelOf n F Any Any (read_contract room)
unfolding read_contract
contract_level fits flag ts q =
    and_then (optional_clause_level kind.Requires (λ F b. refl) fits flag ts tt) (λ before l1 f1 q1.
    and_then (optional_clause_level kind.Ensures (λ F b. refl) fits f1 l1 tt) (λ after l2 f2 q2. done f2 tt))

pub procedure_level : {n room : ℕ} {F : List Opened} → Fits n room F → LevelOf n F Any Any (read_procedure room)
unfolding read_procedure
procedure_level fits flag ts q =
    and_then (header_level kind.Proc (λ F b. refl) fits flag ts tt) (λ h l1 f1 q1. and_then (contract_level fits f1 l1 tt) (λ c l2 f2 q2.
    and_then (block_level fits f2 l2 tt) (λ body l3 f3 q3. done f3 tt)))

pub declaration_level : {n room : ℕ} {F : List Opened} → Fits n room F → LevelOf n F Any Any (read_declaration room)
unfolding read_declaration
declaration_level fits flag ts q =
    when (is_next kind.Inv ts) (invariant_level fits flag ts tt)
    (when (is_next kind.Pred ts) (predicate_level fits flag ts tt)
    (procedure_level fits flag ts tt))

pub file_level : {n room : ℕ} {F : List Opened} → Fits n room F → LevelOf n F Any Any (read_file room)
unfolding read_file
file_level fits flag ts q =
    and_then (many_of_level {Q = Any} is_more (declaration_level fits) flag ts tt) (λ all l1 f1 q1. done f1 tt)
