-- Whether a tree has named predicates, declared or used. Their uses mean nothing until each is replaced by its body.
use Rattle.std.specs.Prelude.{Bool, true, false, ◌||◌, Option, Some, None}
use Rattle.std.specs.List.{list_any}
use Rattle.fsl_tree.specs.declared.assertion.Assertion.{Assertion}
use Rattle.fsl_tree.specs.declared.assertion.Atom.{Atom}
use Rattle.fsl_tree.specs.declared.assertion.Atom.TheFolds.{fold-Atom, fold-Assertion, fold-Conjunct}
use Rattle.fsl_tree.specs.declared.assertion.Atom.TheOpen.{Atom-F, Assertion-F, Conjunct-F}
use Rattle.fsl_tree.specs.declared.assertion.Conjunct.{Conjunct}
use Rattle.fsl_tree.specs.declared.declaration.Clause.{Clause}
use Rattle.fsl_tree.specs.declared.declaration.Declaration.{Declaration}
use Rattle.fsl_tree.specs.declared.declaration.Declaration.TheVariants as declarations
use Rattle.fsl_tree.specs.declared.declaration.Part.{Part}
use Rattle.fsl_tree.specs.declared.file.File.{File}
use Rattle.fsl_tree.specs.declared.statement.Block.{Block}
use Rattle.fsl_tree.specs.declared.statement.FenceKind.{FenceKind}
use Rattle.fsl_tree.specs.declared.statement.FenceKind.TheVariants as fences
use Rattle.fsl_tree.specs.declared.statement.Statement.{Statement}
use Rattle.fsl_tree.specs.declared.statement.Statement.TheFolds.{fold-Statement, fold-Block, fold-Otherwise}
use Rattle.fsl_tree.specs.declared.statement.Statement.TheOpen.{Statement-F, Block-F, Otherwise-F}

-- ---- uses in assertions

abbrev pub atom_step : Atom-F Bool Bool Bool → Bool
atom_step (Atom-F.Predicate predicate) = true
atom_step (Atom-F.Choice word start condition end first_start first first_end otherwise second_start second second_end) = first || second
atom_step (Atom-F.Up word start inside end) = inside
atom_step (Atom-F.Down word start inside end) = inside
atom_step _ = false

abbrev pub assertion_step : Assertion-F Bool Bool Bool → Bool
assertion_step a = a.first || list_any (λ uses. uses) a.more

abbrev pub conjunct_step : Conjunct-F Bool Bool Bool → Bool
conjunct_step c = c.atom

abbrev pub in_atom : Atom → Bool
in_atom = fold-Atom Bool Bool Bool atom_step assertion_step conjunct_step

abbrev pub in_assertion : Assertion → Bool
in_assertion = fold-Assertion Bool Bool Bool atom_step assertion_step conjunct_step

abbrev pub in_conjunct : Conjunct → Bool
in_conjunct = fold-Conjunct Bool Bool Bool atom_step assertion_step conjunct_step

abbrev pub in_clause : Option Clause → Bool
in_clause None = false
in_clause (Some c) = in_assertion c.assertion

-- ---- uses in statements

abbrev pub in_fence : FenceKind → Bool
in_fence (fences.Acquire word) = false
in_fence (fences.Release word start held end) = in_assertion held

abbrev pub in_other : Option Bool → Bool
in_other None = false
in_other (Some uses) = uses

abbrev pub statement_step : Statement-F Bool Bool Bool → Bool
statement_step (Statement-F.Fence word what semicolon) = in_fence what
statement_step (Statement-F.If word start condition end then_block otherwise) = then_block || in_other otherwise
statement_step (Statement-F.While word start condition end invariant body) = in_clause invariant || body
statement_step _ = false

abbrev pub block_step : Block-F Bool Bool Bool → Bool
block_step b = list_any (λ uses. uses) b.statements

abbrev pub otherwise_step : Otherwise-F Bool Bool Bool → Bool
otherwise_step o = o.block

abbrev pub in_statement : Statement → Bool
in_statement = fold-Statement Bool Bool Bool statement_step block_step otherwise_step

abbrev pub in_block : Block → Bool
in_block = fold-Block Bool Bool Bool statement_step block_step otherwise_step

-- ---- files

abbrev pub in_part : Part → Bool
in_part p = in_assertion p.assertion

abbrev pub in_declaration : Declaration → Bool
in_declaration (declarations.Invariant i) = in_part i.first || list_any in_part i.more
in_declaration (declarations.Predicate p) = true
in_declaration (declarations.Procedure p) = in_clause p.requires_clause || in_clause p.ensures_clause || in_block p.body

abbrev pub has_predicates : File → Bool
has_predicates file = list_any in_declaration file.declarations
