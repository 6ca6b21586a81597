-- One level of a tree: its tokens and its nesting, by those of its parts.
use Rattle.std.proofs.Common.{ℕ, ◌+◌, ◌≡◌, ◌∷◌, max, ap, Option, Some, None}
use Rattle.fsl_tree.specs.SpelledExpressions.{Tokens, Spelled, fixed, condition, factor_step, addend_step, expression_step, multiplier_step, term_step, factor, addend, expression, multiplier, term}
use Rattle.fsl_tree.specs.SpelledAssertions.{atom_step, assertion_step, conjunct_step, atom, assertion, conjunct}
use Rattle.fsl_tree.specs.SpelledStatements.{statement_step, block_step, otherwise_step, statement, block, otherwise, optional_otherwise}
use Rattle.fsl_tree.specs.Nesting.{factor_depth, addend_depth, expression_depth, multiplier_depth, term_depth, in_factor, in_addend, in_expression, in_multiplier, in_term, atom_depth, assertion_depth, conjunct_depth, in_atom, in_assertion, in_conjunct, statement_depth, block_depth, otherwise_depth, in_statement, in_block, in_otherwise, in_condition, in_optional_otherwise}
use Rattle.fsl_tree.specs.declared.expression.Factor.{Factor, map-Factor}
use Rattle.fsl_tree.specs.declared.expression.Addend.{Addend, map-Addend}
use Rattle.fsl_tree.specs.declared.expression.Expression.{Expression, map-Expression}
use Rattle.fsl_tree.specs.declared.expression.Multiplier.{Multiplier, map-Multiplier}
use Rattle.fsl_tree.specs.declared.expression.Term.{Term, map-Term}
use Rattle.fsl_tree.specs.declared.expression.Factor.TheOpen.{Factor-F, Addend-F, Expression-F, Multiplier-F, Term-F}
use Rattle.fsl_tree.specs.declared.expression.Factor.TheViews.{roll-Factor, roll-Addend, roll-Expression, roll-Multiplier, roll-Term}
use Rattle.fsl_tree.specs.declared.expression.Factor.TheFolds.{fold-roll-Factor, fold-roll-Addend, fold-roll-Expression, fold-roll-Multiplier, fold-roll-Term}
use Rattle.fsl_tree.specs.declared.assertion.Atom.{Atom, map-Atom}
use Rattle.fsl_tree.specs.declared.assertion.Assertion.{Assertion, map-Assertion}
use Rattle.fsl_tree.specs.declared.assertion.Conjunct.{Conjunct, map-Conjunct}
use Rattle.fsl_tree.specs.declared.assertion.Atom.TheOpen.{Atom-F, Assertion-F, Conjunct-F}
use Rattle.fsl_tree.specs.declared.assertion.Atom.TheViews.{roll-Atom, roll-Assertion, roll-Conjunct}
use Rattle.fsl_tree.specs.declared.assertion.Atom.TheFolds.{fold-roll-Atom, fold-roll-Assertion, fold-roll-Conjunct}
use Rattle.fsl_tree.specs.declared.statement.Statement.{Statement, map-Statement}
use Rattle.fsl_tree.specs.declared.statement.Block.{Block, map-Block}
use Rattle.fsl_tree.specs.declared.statement.Otherwise.{Otherwise, map-Otherwise}
use Rattle.fsl_tree.specs.declared.statement.Statement.TheOpen.{Statement-F, Block-F, Otherwise-F}
use Rattle.fsl_tree.specs.declared.statement.Statement.TheViews.{roll-Statement, roll-Block, roll-Otherwise}
use Rattle.fsl_tree.specs.declared.statement.Statement.TheFolds.{fold-roll-Statement, fold-roll-Block, fold-roll-Otherwise}
use Rattle.fsl_base.specs.declared.span.Span.{Span}
use Rattle.fsl_token.specs.declared.kind.TokenKind.TheVariants as kind
use Rattle.fsl_tree.specs.declared.expression.Condition.{Condition}

abbrev pub FactorLayer : Type 0
FactorLayer = Factor-F Factor Addend Expression Multiplier Term

abbrev pub factor_layer : FactorLayer → Spelled
factor_layer x = factor_step (map-Factor Factor Addend Expression Multiplier Term Spelled Spelled Spelled Spelled Spelled factor addend expression multiplier term x)

pub factor_spells : (x : FactorLayer) (after : Tokens) → factor (roll-Factor x) after ≡ factor_layer x after
unfolding factor addend expression multiplier term
factor_spells x after = ap (λ (s : Spelled). s after)
    (fold-roll-Factor Spelled Spelled Spelled Spelled Spelled factor_step addend_step expression_step multiplier_step term_step x)

pub factor_nests : (x : FactorLayer)
    → in_factor (roll-Factor x) ≡ factor_depth
    (map-Factor Factor Addend Expression Multiplier Term ℕ ℕ ℕ ℕ ℕ in_factor in_addend in_expression in_multiplier in_term x)
unfolding in_factor in_addend in_expression in_multiplier in_term
factor_nests x = fold-roll-Factor ℕ ℕ ℕ ℕ ℕ factor_depth addend_depth expression_depth multiplier_depth term_depth x

abbrev pub AddendLayer : Type 0
AddendLayer = Addend-F Factor Addend Expression Multiplier Term

abbrev pub addend_layer : AddendLayer → Spelled
addend_layer x = addend_step (map-Addend Factor Addend Expression Multiplier Term Spelled Spelled Spelled Spelled Spelled factor addend expression multiplier term x)

pub addend_spells : (x : AddendLayer) (after : Tokens) → addend (roll-Addend x) after ≡ addend_layer x after
unfolding factor addend expression multiplier term
addend_spells x after = ap (λ (s : Spelled). s after)
    (fold-roll-Addend Spelled Spelled Spelled Spelled Spelled factor_step addend_step expression_step multiplier_step term_step x)

pub addend_nests : (x : AddendLayer)
    → in_addend (roll-Addend x) ≡ addend_depth
    (map-Addend Factor Addend Expression Multiplier Term ℕ ℕ ℕ ℕ ℕ in_factor in_addend in_expression in_multiplier in_term x)
unfolding in_factor in_addend in_expression in_multiplier in_term
addend_nests x = fold-roll-Addend ℕ ℕ ℕ ℕ ℕ factor_depth addend_depth expression_depth multiplier_depth term_depth x

abbrev pub ExpressionLayer : Type 0
ExpressionLayer = Expression-F Factor Addend Expression Multiplier Term

abbrev pub expression_layer : ExpressionLayer → Spelled
expression_layer x = expression_step
    (map-Expression Factor Addend Expression Multiplier Term Spelled Spelled Spelled Spelled Spelled factor addend expression multiplier term x)

pub expression_spells : (x : ExpressionLayer) (after : Tokens) → expression (roll-Expression x) after ≡ expression_layer x after
unfolding factor addend expression multiplier term
expression_spells x after = ap
    (λ (s : Spelled). s after) (fold-roll-Expression Spelled Spelled Spelled Spelled Spelled factor_step addend_step expression_step multiplier_step term_step x)

pub expression_nests : (x : ExpressionLayer)
    → in_expression (roll-Expression x) ≡ expression_depth
    (map-Expression Factor Addend Expression Multiplier Term ℕ ℕ ℕ ℕ ℕ in_factor in_addend in_expression in_multiplier in_term x)
unfolding in_factor in_addend in_expression in_multiplier in_term
expression_nests x = fold-roll-Expression ℕ ℕ ℕ ℕ ℕ factor_depth addend_depth expression_depth multiplier_depth term_depth x

abbrev pub MultiplierLayer : Type 0
MultiplierLayer = Multiplier-F Factor Addend Expression Multiplier Term

abbrev pub multiplier_layer : MultiplierLayer → Spelled
multiplier_layer x = multiplier_step
    (map-Multiplier Factor Addend Expression Multiplier Term Spelled Spelled Spelled Spelled Spelled factor addend expression multiplier term x)

pub multiplier_spells : (x : MultiplierLayer) (after : Tokens) → multiplier (roll-Multiplier x) after ≡ multiplier_layer x after
unfolding factor addend expression multiplier term
multiplier_spells x after = ap
    (λ (s : Spelled). s after) (fold-roll-Multiplier Spelled Spelled Spelled Spelled Spelled factor_step addend_step expression_step multiplier_step term_step x)

pub multiplier_nests : (x : MultiplierLayer)
    → in_multiplier (roll-Multiplier x) ≡ multiplier_depth
    (map-Multiplier Factor Addend Expression Multiplier Term ℕ ℕ ℕ ℕ ℕ in_factor in_addend in_expression in_multiplier in_term x)
unfolding in_factor in_addend in_expression in_multiplier in_term
multiplier_nests x = fold-roll-Multiplier ℕ ℕ ℕ ℕ ℕ factor_depth addend_depth expression_depth multiplier_depth term_depth x

abbrev pub TermLayer : Type 0
TermLayer = Term-F Factor Addend Expression Multiplier Term

abbrev pub term_layer : TermLayer → Spelled
term_layer x = term_step (map-Term Factor Addend Expression Multiplier Term Spelled Spelled Spelled Spelled Spelled factor addend expression multiplier term x)

pub term_spells : (x : TermLayer) (after : Tokens) → term (roll-Term x) after ≡ term_layer x after
unfolding factor addend expression multiplier term
term_spells x after = ap (λ (s : Spelled). s after)
    (fold-roll-Term Spelled Spelled Spelled Spelled Spelled factor_step addend_step expression_step multiplier_step term_step x)

pub term_nests : (x : TermLayer)
    → in_term (roll-Term x) ≡ term_depth
    (map-Term Factor Addend Expression Multiplier Term ℕ ℕ ℕ ℕ ℕ in_factor in_addend in_expression in_multiplier in_term x)
unfolding in_factor in_addend in_expression in_multiplier in_term
term_nests x = fold-roll-Term ℕ ℕ ℕ ℕ ℕ factor_depth addend_depth expression_depth multiplier_depth term_depth x

abbrev pub AtomLayer : Type 0
AtomLayer = Atom-F Atom Assertion Conjunct

abbrev pub atom_layer : AtomLayer → Spelled
atom_layer x = atom_step (map-Atom Atom Assertion Conjunct Spelled Spelled Spelled atom assertion conjunct x)

pub atom_spells : (x : AtomLayer) (after : Tokens) → atom (roll-Atom x) after ≡ atom_layer x after
unfolding atom assertion conjunct
atom_spells x after = ap (λ (s : Spelled). s after) (fold-roll-Atom Spelled Spelled Spelled atom_step assertion_step conjunct_step x)

pub atom_nests : (x : AtomLayer) → in_atom (roll-Atom x) ≡ atom_depth (map-Atom Atom Assertion Conjunct ℕ ℕ ℕ in_atom in_assertion in_conjunct x)
unfolding in_atom in_assertion in_conjunct
atom_nests x = fold-roll-Atom ℕ ℕ ℕ atom_depth assertion_depth conjunct_depth x

abbrev pub AssertionLayer : Type 0
AssertionLayer = Assertion-F Atom Assertion Conjunct

abbrev pub assertion_layer : AssertionLayer → Spelled
assertion_layer x = assertion_step (map-Assertion Atom Assertion Conjunct Spelled Spelled Spelled atom assertion conjunct x)

pub assertion_spells : (x : AssertionLayer) (after : Tokens) → assertion (roll-Assertion x) after ≡ assertion_layer x after
unfolding atom assertion conjunct
assertion_spells x after = ap (λ (s : Spelled). s after) (fold-roll-Assertion Spelled Spelled Spelled atom_step assertion_step conjunct_step x)

pub assertion_nests : (x : AssertionLayer)
    → in_assertion (roll-Assertion x) ≡ assertion_depth (map-Assertion Atom Assertion Conjunct ℕ ℕ ℕ in_atom in_assertion in_conjunct x)
unfolding in_atom in_assertion in_conjunct
assertion_nests x = fold-roll-Assertion ℕ ℕ ℕ atom_depth assertion_depth conjunct_depth x

abbrev pub ConjunctLayer : Type 0
ConjunctLayer = Conjunct-F Atom Assertion Conjunct

abbrev pub conjunct_layer : ConjunctLayer → Spelled
conjunct_layer x = conjunct_step (map-Conjunct Atom Assertion Conjunct Spelled Spelled Spelled atom assertion conjunct x)

pub conjunct_spells : (x : ConjunctLayer) (after : Tokens) → conjunct (roll-Conjunct x) after ≡ conjunct_layer x after
unfolding atom assertion conjunct
conjunct_spells x after = ap (λ (s : Spelled). s after) (fold-roll-Conjunct Spelled Spelled Spelled atom_step assertion_step conjunct_step x)

pub conjunct_nests : (x : ConjunctLayer)
    → in_conjunct (roll-Conjunct x) ≡ conjunct_depth (map-Conjunct Atom Assertion Conjunct ℕ ℕ ℕ in_atom in_assertion in_conjunct x)
unfolding in_atom in_assertion in_conjunct
conjunct_nests x = fold-roll-Conjunct ℕ ℕ ℕ atom_depth assertion_depth conjunct_depth x

abbrev pub StatementLayer : Type 0
StatementLayer = Statement-F Statement Block Otherwise

abbrev pub statement_layer : StatementLayer → Spelled
statement_layer x = statement_step (map-Statement Statement Block Otherwise Spelled Spelled Spelled statement block otherwise x)

pub statement_spells : (x : StatementLayer) (after : Tokens) → statement (roll-Statement x) after ≡ statement_layer x after
unfolding statement block otherwise
statement_spells x after = ap (λ (s : Spelled). s after) (fold-roll-Statement Spelled Spelled Spelled statement_step block_step otherwise_step x)

pub statement_nests : (x : StatementLayer)
    → in_statement (roll-Statement x) ≡ statement_depth (map-Statement Statement Block Otherwise ℕ ℕ ℕ in_statement in_block in_otherwise x)
unfolding in_statement in_block in_otherwise
statement_nests x = fold-roll-Statement ℕ ℕ ℕ statement_depth block_depth otherwise_depth x

abbrev pub BlockLayer : Type 0
BlockLayer = Block-F Statement Block Otherwise

abbrev pub block_layer : BlockLayer → Spelled
block_layer x = block_step (map-Block Statement Block Otherwise Spelled Spelled Spelled statement block otherwise x)

pub block_spells : (x : BlockLayer) (after : Tokens) → block (roll-Block x) after ≡ block_layer x after
unfolding statement block otherwise
block_spells x after = ap (λ (s : Spelled). s after) (fold-roll-Block Spelled Spelled Spelled statement_step block_step otherwise_step x)

pub block_nests : (x : BlockLayer)
    → in_block (roll-Block x) ≡ block_depth (map-Block Statement Block Otherwise ℕ ℕ ℕ in_statement in_block in_otherwise x)
unfolding in_statement in_block in_otherwise
block_nests x = fold-roll-Block ℕ ℕ ℕ statement_depth block_depth otherwise_depth x

abbrev pub OtherwiseLayer : Type 0
OtherwiseLayer = Otherwise-F Statement Block Otherwise

abbrev pub otherwise_layer : OtherwiseLayer → Spelled
otherwise_layer x = otherwise_step (map-Otherwise Statement Block Otherwise Spelled Spelled Spelled statement block otherwise x)

pub otherwise_spells : (x : OtherwiseLayer) (after : Tokens) → otherwise (roll-Otherwise x) after ≡ otherwise_layer x after
unfolding statement block otherwise
otherwise_spells x after = ap (λ (s : Spelled). s after) (fold-roll-Otherwise Spelled Spelled Spelled statement_step block_step otherwise_step x)

pub otherwise_nests : (x : OtherwiseLayer)
    → in_otherwise (roll-Otherwise x) ≡ otherwise_depth (map-Otherwise Statement Block Otherwise ℕ ℕ ℕ in_statement in_block in_otherwise x)
unfolding in_statement in_block in_otherwise
otherwise_nests x = fold-roll-Otherwise ℕ ℕ ℕ statement_depth block_depth otherwise_depth x

-- an absent second block has no tokens
pub if_spells : (word start : Span) (holds : Condition) (end : Span) (b : Block) (o : Option Otherwise) (after : Tokens)
    → statement (roll-Statement (Statement-F.If word start holds end b o)) after
    ≡ fixed kind.If word ∷ fixed kind.OpenParen start ∷ condition holds (fixed kind.CloseParen end ∷ block b (optional_otherwise o after))
if_spells word start holds end b None after = statement_spells (Statement-F.If word start holds end b None) after
if_spells word start holds end b (Some o) after = statement_spells (Statement-F.If word start holds end b (Some o)) after

pub if_nests : (word start : Span) (holds : Condition) (end : Span) (b : Block) (o : Option Otherwise)
    → in_statement (roll-Statement (Statement-F.If word start holds end b o)) ≡ max (1 + in_condition holds) (max (in_block b)
    (in_optional_otherwise o))
if_nests word start holds end b None = statement_nests (Statement-F.If word start holds end b None)
if_nests word start holds end b (Some o) = statement_nests (Statement-F.If word start holds end b (Some o))
