-- The same of the groups that several productions share.
use Rattle.std.proofs.Common.{ℕ, ◌-◌, refl, Option, None}
use Rattle.fsl_token.specs.declared.kind.TokenKind.{TokenKind}
use Rattle.fsl_grammar.specs.declared.groups.Enclosed.{Enclosed}
use Rattle.fsl_grammar.specs.declared.groups.Test.{Test}
use Rattle.fsl_grammar.specs.declared.groups.Held.{Held}
use Rattle.fsl_grammar.specs.declared.groups.ExcludedSet.{ExcludedSet}
use Rattle.fsl_grammar.specs.declared.groups.Pair.{Pair}
use Rattle.fsl_grammar.specs.declared.groups.Triple.{Triple}
use Rattle.fsl_grammar.specs.ReadGroups.{read_enclosed, read_test, read_held, read_excluded_set, read_pair, read_triple}
use Rattle.fsl_tree.specs.Spelling.{invariant}
use Rattle.fsl_grammar.proofs.GroupTokens.{enclosed, test, held, excluded_set, pair, triple}
use Rattle.fsl_tree.specs.declared.expression.Expression.{Expression}
use Rattle.fsl_tree.specs.declared.expression.Condition.{Condition}
use Rattle.fsl_tree.specs.declared.expression.Arguments.{Arguments}
use Rattle.fsl_tree.specs.declared.expression.NextArgument.{NextArgument}
use Rattle.fsl_tree.specs.declared.expression.Use.{Use}
use Rattle.fsl_token.specs.declared.kind.TokenKind.TheVariants as kind
use Rattle.fsl_base.specs.declared.span.Span.{Span}
use Rattle.fsl_grammar.proofs.Shortest.{some_expression, some_condition, some_next_argument, some_use}
use Rattle.fsl_grammar.proofs.Begun.{AllGo, complete, done, and_then, nowhere, take_goes, open_goes}
use Rattle.fsl_grammar.proofs.BegunExpressions.{expression_goes, condition_goes, next_argument_goes, optional_arguments_goes, usage_goes}

abbrev enclosed_made : Span → Span → Expression → Span → Enclosed
enclosed_made place start inside end =
    record { word = place; «open» = start; expression = inside; close = end }

pub enclosed_goes : (word : TokenKind) (room : ℕ) → AllGo (enclosed word) (read_enclosed word room)
unfolding read_enclosed
enclosed_goes word room ts =
    and_then (take_goes word ts) (λ place. complete (enclosed_made place nowhere some_expression nowhere) _ (λ after. refl)) (λ place l1.
    and_then (open_goes kind.OpenParen room l1) (λ start. complete (enclosed_made place start some_expression nowhere) _ (λ after. refl))
    (λ start l2.
    and_then (expression_goes (room - 1) l2) (λ inside. complete (enclosed_made place start inside nowhere) _ (λ after. refl)) (λ inside l3.
    and_then (take_goes kind.CloseParen l3) (λ end. complete (enclosed_made place start inside end) _ (λ after. refl)) (λ end l4.
    done (enclosed_made place start inside end) (λ after. refl)))))

abbrev test_made : Span → Span → Condition → Span → Test
test_made place start inside end =
    record { word = place; «open» = start; condition = inside; close = end }

pub test_goes : (word : TokenKind) (room : ℕ) → AllGo (test word) (read_test word room)
unfolding read_test
test_goes word room ts =
    and_then (take_goes word ts) (λ place. complete (test_made place nowhere some_condition nowhere) _ (λ after. refl)) (λ place l1.
    and_then (open_goes kind.OpenParen room l1) (λ start. complete (test_made place start some_condition nowhere) _ (λ after. refl)) (λ start l2.
    and_then (condition_goes (room - 1) l2) (λ inside. complete (test_made place start inside nowhere) _ (λ after. refl)) (λ inside l3.
    and_then (take_goes kind.CloseParen l3) (λ end. complete (test_made place start inside end) _ (λ after. refl)) (λ end l4.
    done (test_made place start inside end) (λ after. refl)))))

abbrev held_made : Expression → Span → Use → Held
held_made location comma invariant =
    record { location = location; comma = comma; invariant = invariant }

pub held_goes : (room : ℕ) → AllGo held (read_held room)
unfolding read_held
held_goes room ts =
    and_then (expression_goes room ts) (λ location. complete (held_made location nowhere some_use) _ (λ after. refl)) (λ location l1.
    and_then (take_goes kind.Comma l1) (λ comma. complete (held_made location comma some_use) _ (λ after. refl)) (λ comma l2.
    and_then (usage_goes room l2) (λ invariant. complete (held_made location comma invariant) _ (λ after. refl)) (λ invariant l3.
    done (held_made location comma invariant) (λ after. refl))))

abbrev excluded_set_made : Span → Option Arguments → Span → ExcludedSet
excluded_set_made start excluded end =
    record { «open» = start; excluded = excluded; close = end }

pub excluded_set_goes : (room : ℕ) → AllGo excluded_set (read_excluded_set room)
unfolding read_excluded_set
excluded_set_goes room ts =
    and_then (open_goes kind.OpenBrace room ts) (λ start. complete (excluded_set_made start None nowhere) _ (λ after. refl)) (λ start l1.
    and_then (optional_arguments_goes (room - 1) l1) (λ excluded. complete (excluded_set_made start excluded nowhere) _ (λ after. refl))
    (λ excluded l2.
    and_then (take_goes kind.CloseBrace l2) (λ end. complete (excluded_set_made start excluded end) _ (λ after. refl)) (λ end l3.
    done (excluded_set_made start excluded end) (λ after. refl))))

abbrev pair_made : Span → Expression → NextArgument → Span → Pair
pair_made start location value end =
    record { «open» = start; location = location; value = value; close = end }

pub pair_goes : (room : ℕ) → AllGo pair (read_pair room)
unfolding read_pair
pair_goes room ts =
    and_then (open_goes kind.OpenParen room ts) (λ start. complete (pair_made start some_expression some_next_argument nowhere) _ (λ after. refl))
    (λ start l1.
    and_then (expression_goes (room - 1) l1) (λ location. complete (pair_made start location some_next_argument nowhere) _ (λ after. refl))
    (λ location l2.
    and_then (next_argument_goes (room - 1) l2) (λ value. complete (pair_made start location value nowhere) _ (λ after. refl)) (λ value l3.
    and_then (take_goes kind.CloseParen l3) (λ end. complete (pair_made start location value end) _ (λ after. refl)) (λ end l4.
    done (pair_made start location value end) (λ after. refl)))))

abbrev triple_made : Span → Expression → NextArgument → NextArgument → Span → Triple
triple_made start location expected new end =
    record { «open» = start; location = location; expected = expected; new = new; close = end }

pub triple_goes : (room : ℕ) → AllGo triple (read_triple room)
unfolding read_triple
triple_goes room ts =
    and_then (open_goes kind.OpenParen room ts)
    (λ start. complete (triple_made start some_expression some_next_argument some_next_argument nowhere) _ (λ after. refl)) (λ start l1.
    and_then (expression_goes (room - 1) l1)
    (λ location. complete (triple_made start location some_next_argument some_next_argument nowhere) _ (λ after. refl)) (λ location l2.
    and_then (next_argument_goes (room - 1) l2) (λ expected. complete (triple_made start location expected some_next_argument nowhere) _
    (λ after. refl)) (λ expected l3.
    and_then (next_argument_goes (room - 1) l3) (λ new. complete (triple_made start location expected new nowhere) _ (λ after. refl)) (λ new l4.
    and_then (take_goes kind.CloseParen l4) (λ end. complete (triple_made start location expected new end) _ (λ after. refl)) (λ end l5.
    done (triple_made start location expected new end) (λ after. refl))))))
