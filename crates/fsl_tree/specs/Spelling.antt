-- The tokens of a file's tree: `spelling`.
use Rattle.std.specs.Prelude.{[], ◌∷◌, Option, Some, None, map}
use Rattle.fsl_base.specs.declared.span.Span.{Span}
use Rattle.fsl_token.specs.declared.kind.TokenKind.TheVariants as kind
use Rattle.fsl_tree.specs.declared.declaration.Declaration.{Declaration}
use Rattle.fsl_tree.specs.declared.declaration.Declaration.TheVariants as declarations
use Rattle.fsl_tree.specs.declared.declaration.Invariant.{Invariant}
use Rattle.fsl_tree.specs.declared.declaration.Part.{Part}
use Rattle.fsl_tree.specs.declared.declaration.Predicate.{Predicate}
use Rattle.fsl_tree.specs.declared.declaration.Procedure.{Procedure}
use Rattle.fsl_tree.specs.declared.declaration.Parameters.{Parameters}
use Rattle.fsl_tree.specs.declared.declaration.NextParameter.{NextParameter}
use Rattle.fsl_tree.specs.declared.declaration.Parameter.{Parameter}
use Rattle.fsl_tree.specs.declared.file.File.{File}
use Rattle.fsl_tree.specs.SpelledExpressions.{Tokens, Spelled, fixed, all}
use Rattle.fsl_tree.specs.SpelledAssertions.{assertion}
use Rattle.fsl_tree.specs.SpelledStatements.{optional_clause, block}

abbrev pub optional_word : Option Span → Spelled
optional_word None after = after
optional_word (Some place) after = fixed kind.Bank place ∷ after

abbrev pub parameter : Parameter → Spelled
parameter p after = optional_word p.bank (fixed kind.Name p.name ∷ after)

abbrev pub next_parameter : NextParameter → Spelled
next_parameter p after = fixed kind.Comma p.comma ∷ parameter p.parameter after

abbrev pub optional_parameters : Option Parameters → Spelled
optional_parameters None after = after
optional_parameters (Some p) after = parameter p.first (all (map next_parameter p.more) after)

abbrev pub part : Part → Spelled
part p after = fixed kind.OpenBrace p.open ∷ assertion p.assertion (fixed kind.CloseBrace p.close ∷ after)

abbrev pub invariant : Invariant → Spelled
invariant i after =
    fixed kind.Inv i.word ∷ fixed kind.Name i.name ∷ fixed kind.OpenParen i.open ∷ optional_parameters i.parameters (
    fixed kind.CloseParen i.close ∷ fixed kind.Of i.of ∷ fixed kind.Name i.value ∷ part i.first (all (map part i.more) after))

abbrev pub predicate : Predicate → Spelled
predicate p after =
    fixed kind.Pred p.word ∷ fixed kind.Name p.name ∷ fixed kind.OpenParen p.open ∷ optional_parameters p.parameters (
    fixed kind.CloseParen p.close ∷ part p.body after)

abbrev pub procedure : Procedure → Spelled
procedure p after =
    fixed kind.Proc p.word ∷ fixed kind.Name p.name ∷ fixed kind.OpenParen p.open ∷ optional_parameters p.parameters (
    fixed kind.CloseParen p.close ∷ optional_clause kind.Requires p.requires_clause (
    optional_clause kind.Ensures p.ensures_clause (block p.body after)))

abbrev pub declaration : Declaration → Spelled
declaration (declarations.Invariant i) after = invariant i after
declaration (declarations.Predicate p) after = predicate p after
declaration (declarations.Procedure p) after = procedure p after

-- the tokens of the whole tree
abbrev pub spelling : File → Tokens
spelling file = all (map declaration file.declarations) []
