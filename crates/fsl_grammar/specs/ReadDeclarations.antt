-- How declarations and files are read.
use Rattle.std.specs.Prelude.{ℕ, Bool, true, false, if◌then◌else◌, List, [], ◌∷◌, Option, Some, None, length}
use Rattle.fsl_token.specs.declared.kind.TokenKind.{TokenKind}
use Rattle.fsl_token.specs.declared.kind.TokenKind.TheVariants as kind
use Rattle.fsl_tree.specs.SpelledExpressions.{Tokens}
use Rattle.fsl_tree.specs.declared.declaration.Declaration.{Declaration}
use Rattle.fsl_tree.specs.declared.declaration.Declaration.TheVariants as declarations
use Rattle.fsl_tree.specs.declared.declaration.Part.{Part}
use Rattle.fsl_tree.specs.declared.declaration.Parameters.{Parameters}
use Rattle.fsl_tree.specs.declared.declaration.NextParameter.{NextParameter}
use Rattle.fsl_tree.specs.declared.declaration.Parameter.{Parameter}
use Rattle.fsl_tree.specs.declared.file.File.{File}
use Rattle.fsl_grammar.specs.declared.groups.Header.{Header}
use Rattle.fsl_grammar.specs.declared.groups.Contracted.{Contracted}
use Rattle.fsl_grammar.specs.declared.groups.Ensured.{Ensured}
use Rattle.fsl_tree.specs.declared.declaration.Clause.{Clause}
use Rattle.fsl_grammar.specs.Heads.{is_next, is_more}
use Rattle.fsl_grammar.specs.Readers.{Outcome, Found, Reader, bind, take, open_at, many_of}
use Rattle.fsl_grammar.specs.ReadAssertions.{read_part}
use Rattle.fsl_grammar.specs.ReadStatements.{read_optional_clause, read_block}

unfoldable pub read_bank_parameter : Reader Parameter
read_bank_parameter tokens =
    bind (take kind.Bank tokens) (λ bank left. bind (take kind.Name left) (λ name left. Found (record { bank = Some bank; name = name }) left))

unfoldable pub read_plain_parameter : Reader Parameter
read_plain_parameter tokens = bind (take kind.Name tokens) (λ name left. Found (record { bank = None; name = name }) left)

unfoldable pub read_parameter : Reader Parameter
read_parameter tokens = if is_next kind.Bank tokens then read_bank_parameter tokens else read_plain_parameter tokens

unfoldable pub read_next_parameter : Reader NextParameter
read_next_parameter tokens =
    bind (take kind.Comma tokens) (λ comma left. bind (read_parameter left) (λ p left. Found (record { comma = comma; parameter = p }) left))

unfoldable pub read_parameters : Reader Parameters
read_parameters tokens =
    bind (read_parameter tokens) (λ first left. bind (many_of (is_next kind.Comma) read_next_parameter left)
    (λ more left. Found (record { first = first; more = more }) left))

unfoldable pub read_optional_parameters : Reader (Option Parameters)
read_optional_parameters tokens =
    if is_next kind.CloseParen tokens then Found None tokens else bind (read_parameters tokens) (λ p left. Found (Some p) left)

unfoldable pub read_header : TokenKind → ℕ → Reader Header
read_header word room tokens =
    bind (take word tokens) (λ place left. bind (take kind.Name left) (λ name left. bind (open_at kind.OpenParen room left) (λ start left.
    bind (read_optional_parameters left) (λ given left. bind (take kind.CloseParen left) (λ end left.
    Found (record { word = place; name = name; «open» = start; parameters = given; close = end }) left)))))

unfoldable pub read_invariant : ℕ → Reader Declaration
read_invariant room tokens =
    bind (read_header kind.Inv room tokens) (λ h left. bind (take kind.Of left) (λ of left. bind (take kind.Name left) (λ value left.
    bind (read_part room left) (λ first left. bind (many_of (is_next kind.OpenBrace) (read_part room) left) (λ more left.
    Found (declarations.Invariant (record {
      word = h.word;
      name = h.name;
      «open» = h.open;
      parameters = h.parameters;
      close = h.close;
      of = of;
      value = value;
      first = first;
      more = more;
    })) left)))))

unfoldable pub read_predicate : ℕ → Reader Declaration
read_predicate room tokens =
    bind (read_header kind.Pred room tokens) (λ h left. bind (read_part room left) (λ body left.
    Found (declarations.Predicate (record {
      word = h.word;
      name = h.name;
      «open» = h.open;
      parameters = h.parameters;
      close = h.close;
      body = body;
    })) left))

-- the two clauses of a procedure
pub record Contract : Type 0 where
  pub requires_clause : Option Clause
  pub ensures_clause : Option Clause

unfoldable pub read_contract : ℕ → Reader Contract
read_contract room tokens =
    bind (read_optional_clause kind.Requires room tokens) (λ before left. bind (read_optional_clause kind.Ensures room left) (λ after left.
    Found (record { requires_clause = before; ensures_clause = after }) left))

unfoldable pub read_procedure : ℕ → Reader Declaration
read_procedure room tokens =
    bind (read_header kind.Proc room tokens) (λ h left. bind (read_contract room left) (λ c left. bind (read_block room left) (λ body left.
    Found (declarations.Procedure (record {
      word = h.word;
      name = h.name;
      «open» = h.open;
      parameters = h.parameters;
      close = h.close;
      requires_clause = c.requires_clause;
      ensures_clause = c.ensures_clause;
      body = body;
    })) left)))

-- the same with the clauses and the body together
unfoldable pub read_ensured : ℕ → Reader Ensured
read_ensured room tokens =
    bind (read_optional_clause kind.Ensures room tokens) (λ after left. bind (read_block room left) (λ body left.
    Found (record { ensures_clause = after; body = body }) left))

unfoldable pub read_contracted : ℕ → Reader Contracted
read_contracted room tokens =
    bind (read_optional_clause kind.Requires room tokens) (λ before left. bind (read_ensured room left) (λ e left.
    Found (record { requires_clause = before; ensures_clause = e.ensures_clause; body = e.body }) left))

unfoldable pub read_contracted_procedure : ℕ → Reader Declaration
read_contracted_procedure room tokens =
    bind (read_header kind.Proc room tokens) (λ h left. bind (read_contracted room left) (λ c left.
    Found (declarations.Procedure (record {
      word = h.word;
      name = h.name;
      «open» = h.open;
      parameters = h.parameters;
      close = h.close;
      requires_clause = c.requires_clause;
      ensures_clause = c.ensures_clause;
      body = c.body;
    })) left))

unfoldable pub read_declaration : ℕ → Reader Declaration
read_declaration room tokens =
    if is_next kind.Inv tokens then read_invariant room tokens
    else (if is_next kind.Pred tokens then read_predicate room tokens
    else read_procedure room tokens)

unfoldable pub read_file : ℕ → Reader File
read_file room tokens =
    bind (many_of is_more (read_declaration room) tokens) (λ all left. Found (record { declarations = all }) left)
