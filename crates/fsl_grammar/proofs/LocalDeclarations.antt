-- The same of declarations and files.
use Rattle.std.proofs.Common.{ℕ}
use Rattle.fsl_token.specs.declared.kind.TokenKind.{TokenKind}
use Rattle.fsl_grammar.specs.ReadDeclarations.{read_bank_parameter, read_plain_parameter, read_parameter, read_next_parameter, read_parameters, read_optional_parameters, read_header, read_invariant, read_predicate, read_contract, read_procedure, read_declaration, read_file}
use Rattle.fsl_token.specs.declared.kind.TokenKind.TheVariants as kind
use Rattle.fsl_grammar.proofs.Local.{Rooms, Local, loose, found_local, and_then, when, next_by_head, more_by_head, take_local, open_local, many_local}
use Rattle.fsl_grammar.proofs.LocalAssertions.{part_local}
use Rattle.fsl_grammar.proofs.LocalStatements.{optional_clause_local, block_local}

pub bank_parameter_local : {P : Type 0} → Local P 1 read_bank_parameter read_bank_parameter
unfolding read_bank_parameter
bank_parameter_local =
    and_then (take_local kind.Bank) (λ bank. and_then (take_local kind.Name) (λ name. found_local _))

pub plain_parameter_local : {P : Type 0} → Local P 1 read_plain_parameter read_plain_parameter
unfolding read_plain_parameter
plain_parameter_local =
    and_then (take_local kind.Name) (λ name. found_local _)

pub parameter_local : {P : Type 0} → Local P 1 read_parameter read_parameter
unfolding read_parameter
parameter_local =
    when (next_by_head kind.Bank) bank_parameter_local
    plain_parameter_local

pub next_parameter_local : {P : Type 0} → Local P 1 read_next_parameter read_next_parameter
unfolding read_next_parameter
next_parameter_local =
    and_then (take_local kind.Comma) (λ comma. and_then parameter_local (λ p. found_local _))

pub parameters_local : {P : Type 0} → Local P 1 read_parameters read_parameters
unfolding read_parameters
parameters_local =
    and_then parameter_local (λ first. and_then (many_local (next_by_head kind.Comma) next_parameter_local) (λ more. found_local _))

pub optional_parameters_local : {P : Type 0} → Local P 0 read_optional_parameters read_optional_parameters
unfolding read_optional_parameters
optional_parameters_local =
    when (next_by_head kind.CloseParen) (found_local _)
    (loose (and_then parameters_local (λ p. found_local _)))

pub header_local : {P : Type 0} {n m : ℕ} (word : TokenKind) → Rooms P n m → Local P 1 (read_header word n) (read_header word m)
unfolding read_header
header_local word rooms =
    and_then (take_local word) (λ place. and_then (take_local kind.Name) (λ name. and_then (open_local kind.OpenParen rooms) (λ start.
    and_then optional_parameters_local (λ given. and_then (take_local kind.CloseParen) (λ end. found_local _)))))

pub invariant_local : {P : Type 0} {n m : ℕ} → Rooms P n m → Local P 1 (read_invariant n) (read_invariant m)
unfolding read_invariant
invariant_local rooms =
    and_then (header_local kind.Inv rooms) (λ h. and_then (take_local kind.Of) (λ of. and_then (take_local kind.Name) (λ value.
    and_then (part_local rooms) (λ first. and_then (many_local (next_by_head kind.OpenBrace) (part_local rooms)) (λ more. found_local _)))))

pub predicate_local : {P : Type 0} {n m : ℕ} → Rooms P n m → Local P 1 (read_predicate n) (read_predicate m)
unfolding read_predicate
predicate_local rooms =
    and_then (header_local kind.Pred rooms) (λ h. and_then (part_local rooms) (λ body. found_local _))

pub contract_local : {P : Type 0} {n m : ℕ} → Rooms P n m → Local P 0 (read_contract n) (read_contract m)
unfolding read_contract
contract_local rooms =
    and_then (optional_clause_local kind.Requires rooms) (λ before. and_then (optional_clause_local kind.Ensures rooms) (λ after. found_local _))

pub procedure_local : {P : Type 0} {n m : ℕ} → Rooms P n m → Local P 1 (read_procedure n) (read_procedure m)
unfolding read_procedure
procedure_local rooms =
    and_then (header_local kind.Proc rooms) (λ h. and_then (contract_local rooms) (λ c. and_then (block_local rooms) (λ body. found_local _)))

pub declaration_local : {P : Type 0} {n m : ℕ} → Rooms P n m → Local P 1 (read_declaration n) (read_declaration m)
unfolding read_declaration
declaration_local rooms =
    when (next_by_head kind.Inv) (invariant_local rooms)
    (when (next_by_head kind.Pred) (predicate_local rooms)
    (procedure_local rooms))

pub file_local : {P : Type 0} {n m : ℕ} → Rooms P n m → Local P 0 (read_file n) (read_file m)
unfolding read_file
file_local rooms =
    and_then (many_local more_by_head (declaration_local rooms)) (λ all. found_local _)
