-- The same of declarations and files.
use Rattle.std.proofs.Common.{ℕ, List, [], map, refl, Option, Some, None}
use Rattle.fsl_token.specs.declared.kind.TokenKind.{TokenKind}
use Rattle.fsl_tree.specs.SpelledExpressions.{all}
use Rattle.fsl_tree.specs.declared.declaration.Declaration.{Declaration}
use Rattle.fsl_tree.specs.declared.declaration.Part.{Part}
use Rattle.fsl_tree.specs.declared.declaration.Parameters.{Parameters}
use Rattle.fsl_grammar.specs.declared.groups.Header.{Header}
use Rattle.fsl_grammar.specs.ReadDeclarations.{Contract}
use Rattle.fsl_grammar.specs.Heads.{is_next, is_more}
use Rattle.fsl_grammar.specs.ReadDeclarations.{read_bank_parameter, read_plain_parameter, read_parameter, read_next_parameter, read_parameters, read_optional_parameters, read_header, read_invariant, read_predicate, read_contract, read_procedure, read_declaration, read_file}
use Rattle.fsl_tree.specs.Spelling.{parameter, next_parameter, optional_parameters, declaration}
use Rattle.fsl_grammar.proofs.GroupTokens.{header, contract}
use Rattle.fsl_tree.specs.declared.declaration.Clause.{Clause}
use Rattle.fsl_tree.specs.declared.statement.Block.{Block}
use Rattle.fsl_token.specs.declared.kind.TokenKind.TheVariants as kind
use Rattle.fsl_tree.specs.declared.declaration.Declaration.TheVariants as declarations
use Rattle.fsl_base.specs.declared.span.Span.{Span}
use Rattle.fsl_grammar.proofs.Shortest.{some_part, some_block, some_parameter, some_contract}
use Rattle.fsl_grammar.proofs.Sound.{some_parameters}
use Rattle.fsl_grammar.proofs.Begun.{AllGo, complete, done, and_then, when, nowhere, take_goes, open_goes, many_of_goes}
use Rattle.fsl_grammar.proofs.BegunAssertions.{part_goes}
use Rattle.fsl_grammar.proofs.BegunStatements.{optional_clause_goes, block_goes}

pub bank_parameter_goes : AllGo parameter read_bank_parameter
unfolding read_bank_parameter
bank_parameter_goes ts =
    and_then (take_goes kind.Bank ts) (λ bank. complete (record { bank = Some bank; name = nowhere }) _ (λ after. refl)) (λ bank l1.
    and_then (take_goes kind.Name l1) (λ name. complete (record { bank = Some bank; name = name }) _ (λ after. refl)) (λ name l2.
    done (record { bank = Some bank; name = name }) (λ after. refl)))

pub plain_parameter_goes : AllGo parameter read_plain_parameter
unfolding read_plain_parameter
plain_parameter_goes ts =
    and_then (take_goes kind.Name ts) (λ name. complete (record { bank = None; name = name }) _ (λ after. refl)) (λ name l1.
    done (record { bank = None; name = name }) (λ after. refl))

pub parameter_goes : AllGo parameter read_parameter
unfolding read_parameter
parameter_goes ts =
    when (is_next kind.Bank ts) (bank_parameter_goes ts)
    (plain_parameter_goes ts)

pub next_parameter_goes : AllGo next_parameter read_next_parameter
unfolding read_next_parameter
next_parameter_goes ts =
    and_then (take_goes kind.Comma ts) (λ comma. complete (record { comma = comma; parameter = some_parameter }) _ (λ after. refl)) (λ comma l1.
    and_then (parameter_goes l1) (λ p. complete (record { comma = comma; parameter = p }) _ (λ after. refl)) (λ p l2.
    done (record { comma = comma; parameter = p }) (λ after. refl)))

pub parameters_goes : AllGo some_parameters read_parameters
unfolding read_parameters
parameters_goes ts =
    and_then (parameter_goes ts) (λ first. complete (record { first = first; more = [] }) _ (λ after. refl)) (λ first l1.
    and_then (many_of_goes (is_next kind.Comma) next_parameter_goes l1) (λ more. complete (record { first = first; more = more }) _
    (λ after. refl)) (λ more l2.
    done (record { first = first; more = more }) (λ after. refl)))

pub optional_parameters_goes : AllGo optional_parameters read_optional_parameters
unfolding read_optional_parameters
optional_parameters_goes ts =
    when (is_next kind.CloseParen ts) (done None (λ after. refl))
    (and_then (parameters_goes ts) (λ p. complete (Some p) _ (λ after. refl)) (λ p l1.
    done (Some p) (λ after. refl)))

abbrev header_made : Span → Span → Span → Option Parameters → Span → Header
header_made place name start given end =
    record { word = place; name = name; «open» = start; parameters = given; close = end }

pub header_goes : (word : TokenKind) (room : ℕ) → AllGo (header word) (read_header word room)
unfolding read_header
header_goes word room ts =
    and_then (take_goes word ts) (λ place. complete (header_made place nowhere nowhere None nowhere) _ (λ after. refl)) (λ place l1.
    and_then (take_goes kind.Name l1) (λ name. complete (header_made place name nowhere None nowhere) _ (λ after. refl)) (λ name l2.
    and_then (open_goes kind.OpenParen room l2) (λ start. complete (header_made place name start None nowhere) _ (λ after. refl)) (λ start l3.
    and_then (optional_parameters_goes l3) (λ given. complete (header_made place name start given nowhere) _ (λ after. refl)) (λ given l4.
    and_then (take_goes kind.CloseParen l4) (λ end. complete (header_made place name start given end) _ (λ after. refl)) (λ end l5.
    done (header_made place name start given end) (λ after. refl))))))

abbrev invariant_made : Header → Span → Span → Part → List Part → Declaration
invariant_made h of value first more =
    declarations.Invariant (record {
      word = h.word;
      name = h.name;
      «open» = h.open;
      parameters = h.parameters;
      close = h.close;
      of = of;
      value = value;
      first = first;
      more = more;
    })

pub invariant_goes : (room : ℕ) → AllGo declaration (read_invariant room)
unfolding read_invariant
invariant_goes room ts =
    and_then (header_goes kind.Inv room ts) (λ h. complete (invariant_made h nowhere nowhere some_part []) _ (λ after. refl)) (λ h l1.
    and_then (take_goes kind.Of l1) (λ of. complete (invariant_made h of nowhere some_part []) _ (λ after. refl)) (λ of l2.
    and_then (take_goes kind.Name l2) (λ value. complete (invariant_made h of value some_part []) _ (λ after. refl)) (λ value l3.
    and_then (part_goes room l3) (λ first. complete (invariant_made h of value first []) _ (λ after. refl)) (λ first l4.
    and_then (many_of_goes (is_next kind.OpenBrace) (part_goes room) l4) (λ more. complete (invariant_made h of value first more) _
    (λ after. refl)) (λ more l5.
    done (invariant_made h of value first more) (λ after. refl))))))

abbrev predicate_made : Header → Part → Declaration
predicate_made h body =
    declarations.Predicate (record { word = h.word; name = h.name; «open» = h.open; parameters = h.parameters; close = h.close; body = body })

pub predicate_goes : (room : ℕ) → AllGo declaration (read_predicate room)
unfolding read_predicate
predicate_goes room ts =
    and_then (header_goes kind.Pred room ts) (λ h. complete (predicate_made h some_part) _ (λ after. refl)) (λ h l1.
    and_then (part_goes room l1) (λ body. complete (predicate_made h body) _ (λ after. refl)) (λ body l2.
    done (predicate_made h body) (λ after. refl)))

abbrev contract_made : Option Clause → Option Clause → Contract
contract_made before after =
    record { requires_clause = before; ensures_clause = after }

pub contract_goes : (room : ℕ) → AllGo contract (read_contract room)
unfolding read_contract
contract_goes room ts =
    and_then (optional_clause_goes kind.Requires room ts) (λ before. complete (contract_made before None) _ (λ after. refl)) (λ before l1.
    and_then (optional_clause_goes kind.Ensures room l1) (λ after. complete (contract_made before after) _ (λ after. refl)) (λ after l2.
    done (contract_made before after) (λ after. refl)))

abbrev procedure_made : Header → Contract → Block → Declaration
procedure_made h c body =
    declarations.Procedure (record {
      word = h.word;
      name = h.name;
      «open» = h.open;
      parameters = h.parameters;
      close = h.close;
      requires_clause = c.requires_clause;
      ensures_clause = c.ensures_clause;
      body = body;
    })

pub procedure_goes : (room : ℕ) → AllGo declaration (read_procedure room)
unfolding read_procedure
procedure_goes room ts =
    and_then (header_goes kind.Proc room ts) (λ h. complete (procedure_made h some_contract some_block) _ (λ after. refl)) (λ h l1.
    and_then (contract_goes room l1) (λ c. complete (procedure_made h c some_block) _ (λ after. refl)) (λ c l2.
    and_then (block_goes room l2) (λ body. complete (procedure_made h c body) _ (λ after. refl)) (λ body l3.
    done (procedure_made h c body) (λ after. refl))))

pub declaration_goes : (room : ℕ) → AllGo declaration (read_declaration room)
unfolding read_declaration
declaration_goes room ts =
    when (is_next kind.Inv ts) (invariant_goes room ts)
    (when (is_next kind.Pred ts) (predicate_goes room ts)
    (procedure_goes room ts))

pub file_goes : (room : ℕ) → AllGo (λ f after. all (map declaration f.declarations) after) (read_file room)
unfolding read_file
file_goes room ts =
    and_then (many_of_goes is_more (declaration_goes room) ts) (λ all. complete (record { declarations = all }) _ (λ after. refl)) (λ all l1.
    done (record { declarations = all }) (λ after. refl))
