-- The same of declarations and whole files.
use Rattle.std.proofs.Common.{ℕ, ◌≡◌, List, [], ◌∷◌, map, Option, Some, None, refl, ap, ◌∙◌, subst}
use Rattle.std.specs.Prelude.{Ok}
use Rattle.fsl_base.specs.declared.span.Span.{Span}
use Rattle.fsl_token.specs.declared.kind.TokenKind.TheVariants as kind
use Rattle.fsl_tree.specs.declared.declaration.Declaration.{Declaration}
use Rattle.fsl_tree.specs.declared.declaration.Declaration.TheVariants as declarations
use Rattle.fsl_tree.specs.declared.declaration.Invariant.{Invariant}
use Rattle.fsl_tree.specs.declared.declaration.Part.{Part}
use Rattle.fsl_tree.specs.declared.declaration.Predicate.{Predicate}
use Rattle.fsl_tree.specs.declared.declaration.Procedure.{Procedure}
use Rattle.fsl_tree.specs.declared.declaration.Parameters.{Parameters}
use Rattle.fsl_tree.specs.declared.declaration.NextParameter.{NextParameter}
use Rattle.fsl_tree.specs.declared.declaration.Parameter.{Parameter}
use Rattle.fsl_tree.specs.declared.file.File.{File}
use Rattle.fsl_tree.specs.SpelledExpressions.{Tokens, all}
use Rattle.fsl_tree.specs.Spelling.{optional_word, parameter, next_parameter, optional_parameters, part, invariant, predicate, procedure, declaration, spelling}
use Rattle.fsl_tree.specs.Printing.{printed, AreHeld, AreAlike, ReadsBack}
use Rattle.fsl_tree.proofs.Again.{Again, token, and_then, made, nothing, each}
use Rattle.fsl_tree.proofs.AgainAssertions.{assertion_again}
use Rattle.fsl_tree.proofs.AgainStatements.{optional_clause_again, block_again}
use Rattle.fsl_tree.proofs.Relexed.{tokens_again}

optional_word_again : (w : Option Span) → Again optional_word w
optional_word_again None = nothing None (λ after. refl)
optional_word_again (Some place) = made (token kind.Bank place) (λ t. Some t) (λ t after. refl)

parameter_again : (p : Parameter) → Again parameter p
parameter_again p = made (and_then (optional_word_again p.bank) (token kind.Name p.name)) (λ t. record { bank = t.0; name = t.1 }) (λ t after. refl)

next_parameter_again : (p : NextParameter) → Again next_parameter p
next_parameter_again p = made (and_then (token kind.Comma p.comma) (parameter_again p.parameter)) (λ t. record { comma = t.0; parameter = t.1 }) (λ t after. refl)

optional_parameters_again : (p : Option Parameters) → Again optional_parameters p
optional_parameters_again None = nothing None (λ after. refl)
optional_parameters_again (Some p) = made (and_then (parameter_again p.first) (each next_parameter_again p.more)) (λ t. Some (record { first = t.0; more = t.1 })) (λ t after. refl)

part_again : (p : Part) → Again part p
part_again p = made (and_then (token kind.OpenBrace p.open) (and_then (assertion_again p.assertion) (token kind.CloseBrace p.close))) (λ t. record { «open» = t.0; assertion = t.1.0; close = t.1.1 }) (λ t after. refl)

invariant_again : (i : Invariant) → Again invariant i
invariant_again i = made (and_then (token kind.Inv i.word) (and_then (token kind.Name i.name) (and_then (token kind.OpenParen i.open) (and_then (optional_parameters_again i.parameters) (and_then (token kind.CloseParen i.close) (and_then (token kind.Of i.of) (and_then (token kind.Name i.value) (and_then (part_again i.first) (each part_again i.more))))))))) (λ t. record { word = t.0; name = t.1.0; «open» = t.1.1.0; parameters = t.1.1.1.0; close = t.1.1.1.1.0; of = t.1.1.1.1.1.0; value = t.1.1.1.1.1.1.0; first = t.1.1.1.1.1.1.1.0; more = t.1.1.1.1.1.1.1.1 }) (λ t after. refl)

predicate_again : (p : Predicate) → Again predicate p
predicate_again p = made (and_then (token kind.Pred p.word) (and_then (token kind.Name p.name) (and_then (token kind.OpenParen p.open) (and_then (optional_parameters_again p.parameters) (and_then (token kind.CloseParen p.close) (part_again p.body)))))) (λ t. record { word = t.0; name = t.1.0; «open» = t.1.1.0; parameters = t.1.1.1.0; close = t.1.1.1.1.0; body = t.1.1.1.1.1 }) (λ t after. refl)

procedure_again : (p : Procedure) → Again procedure p
procedure_again p = made (and_then (token kind.Proc p.word) (and_then (token kind.Name p.name) (and_then (token kind.OpenParen p.open) (and_then (optional_parameters_again p.parameters) (and_then (token kind.CloseParen p.close) (and_then (optional_clause_again kind.Requires p.requires_clause) (and_then (optional_clause_again kind.Ensures p.ensures_clause) (block_again p.body)))))))) (λ t. record { word = t.0; name = t.1.0; «open» = t.1.1.0; parameters = t.1.1.1.0; close = t.1.1.1.1.0; requires_clause = t.1.1.1.1.1.0; ensures_clause = t.1.1.1.1.1.1.0; body = t.1.1.1.1.1.1.1 }) (λ t after. refl)

declaration_again : (d : Declaration) → Again declaration d
declaration_again (declarations.Invariant x) = made (invariant_again x) (λ t. declarations.Invariant t) (λ t after. refl)
declaration_again (declarations.Predicate x) = made (predicate_again x) (λ t. declarations.Predicate t) (λ t after. refl)
declaration_again (declarations.Procedure x) = made (procedure_again x) (λ t. declarations.Procedure t) (λ t after. refl)

-- tokens that are alike nothing are none
none_alike : (bytes text : List ℕ) (us : Tokens) → AreAlike bytes [] text us → us ≡ []
none_alike bytes text [] alike = refl
none_alike bytes text (u ∷ us) alike = absurd alike

-- tokens that are alike those of a file are those of a file
pub file_again : (bytes text : List ℕ) (file : File) (us : Tokens) → AreAlike bytes (spelling file) text us → (again : File) × (us ≡ spelling again)
file_again bytes text file us alike =
    let parts = (each declaration_again file.declarations).leads bytes text [] us alike in
    (record { declarations = parts.part }, parts.whole ∙ ap (all (map declaration parts.part)) (none_alike bytes text parts.rest parts.alike))

pub reads_back : (bytes : List ℕ) (file : File) → AreHeld bytes (spelling file) → ReadsBack bytes file (printed bytes (spelling file))
reads_back bytes file held =
    let text = printed bytes (spelling file) in
    let tokens = tokens_again bytes (spelling file) held in
    let tree = file_again bytes text file tokens.0 tokens.2 in
    (tree.0, tokens.1 ∙ ap Ok tree.1, subst (λ (us : Tokens). AreAlike bytes (spelling file) text us) tree.1 tokens.2)
