-- Faults only grow: where there are none behind a part of a tree, there were none before it, and what the tree has
-- there keeps the rules.
use Rattle.std.proofs.Common.{◌≡◌, ℕ, Bool, true, false, List, [], ◌∷◌, ◌++◌, Option, Some, None, map, drop, filter, if◌then◌else◌, refl, sym, subst}
use Rattle.fsl_base.specs.declared.span.Span.{Span}
use Rattle.fsl_tree.specs.declared.expression.Addend.{Addend, map-Addend}
use Rattle.fsl_tree.specs.declared.expression.Condition.{Condition}
use Rattle.fsl_tree.specs.declared.expression.Condition.TheVariants as conditions
use Rattle.fsl_tree.specs.declared.expression.Expression.{Expression, map-Expression}
use Rattle.fsl_tree.specs.declared.expression.Factor.{Factor, map-Factor}
use Rattle.fsl_tree.specs.declared.expression.Factor.TheFolds.{ind-Expression, fold-roll-Factor, fold-roll-Addend, fold-roll-Expression, fold-roll-Multiplier, fold-roll-Term}
use Rattle.fsl_tree.specs.declared.expression.Factor.TheOpen.{Factor-F, Addend-F, Expression-F, Multiplier-F, Term-F}
use Rattle.fsl_tree.specs.declared.expression.Factor.TheViews.{roll-Factor, roll-Addend, roll-Expression, roll-Multiplier, roll-Term}
use Rattle.fsl_tree.specs.declared.expression.Multiplier.{Multiplier, map-Multiplier}
use Rattle.fsl_tree.specs.declared.expression.Term.{Term, map-Term}
use Rattle.fsl_tree.specs.declared.expression.Use.{Use}
use Rattle.fsl_types.specs.declared.fault.Fault.{Fault}
use Rattle.fsl_types.specs.declared.fault.TypeKind.{TypeKind}
use Rattle.fsl_types.specs.declared.fault.TypeKind.TheVariants as kind
use Rattle.fsl_types.specs.declared.occurrence.Due.{Due}
use Rattle.fsl_types.specs.declared.occurrence.Due.TheVariants as due
use Rattle.fsl_types.specs.declared.occurrence.Occurrence.{Occurrence}
use Rattle.fsl_types.specs.declared.occurrence.Occurrence.TheVariants as occurrence
use Rattle.fsl_types.specs.declared.variable.Signature.{Signature}
use Rattle.fsl_types.specs.Expressions.{Judged, Sight, addend_judged, arguments_of, banks_of, expression_judged, factor_judged, first_due, fits, in_turn, judged_addend, judged_argument, judged_arguments, judged_bank, judged_condition, judged_excluded, judged_expression, judged_factor, judged_multiplier, judged_number, judged_term, judged_use, multiplier_judged, name_alone, term_judged}
use Rattle.fsl_types.specs.Faults.{breaks, fault_at, faults_at, is_ill_typed, is_misfit, is_miscounted, is_modal, is_no_part, is_twice, is_unknown, kinds, lacks_main, place_of}
use Rattle.fsl_types.specs.Resolvers.{noted, one_more}

-- where no faults are behind, none were before
abbrev pub Grows : Judged → Type 0
Grows judged = (faults : List Fault) → judged faults ≡ [] → faults ≡ []

pub none_in_both : {X : Type 0} (xs ys : List X) → xs ++ ys ≡ [] → (xs ≡ []) × (ys ≡ [])
none_in_both [] ys e = (refl, e)
none_in_both (x ∷ xs) ys e = absurd cc

-- ---- one occurrence

pub record Keeps (o : Occurrence) : Type 0 where
  pub known : is_unknown o ≡ false
  pub once : is_twice o ≡ false
  pub typed : is_ill_typed o ≡ false
  pub fitting : is_misfit o ≡ false
  pub unmodal : is_modal o ≡ false
  pub part : is_no_part o ≡ false
  pub counted : is_miscounted o ≡ false
  pub main : lacks_main o ≡ false

none_mapped : {X Y : Type 0} (f : X → Y) (xs : List X) → map f xs ≡ [] → xs ≡ []
none_mapped f [] e = refl
none_mapped f (x ∷ xs) e = absurd cc

none_first : (b : Bool) (k : TypeKind) (ks : List TypeKind) → (if b then k ∷ ks else ks) ≡ [] → (b ≡ false) × (ks ≡ [])
none_first true k ks e = absurd cc
none_first false k ks e = (refl, e)

none_kept : (test : TypeKind → Bool) (k : TypeKind) (ks : List TypeKind) → filter test (k ∷ ks) ≡ [] → (test k ≡ false) × (filter test ks ≡ [])
none_kept test k ks e = none_first (test k) k (filter test ks) e

keeps : (o : Occurrence) → faults_at o ≡ [] → Keeps o
keeps o e =
    let test : TypeKind → Bool = λ what. breaks what o in
    let one = none_kept test kind.Unknown (kind.Twice ∷ kind.Type_ ∷ kind.Arity ∷ kind.Modal ∷ kind.Parts ∷ kind.Count ∷ kind.NoMain ∷ [])
    (none_mapped (fault_at (place_of o)) (filter test kinds) e) in
    let two = none_kept test kind.Twice (kind.Type_ ∷ kind.Arity ∷ kind.Modal ∷ kind.Parts ∷ kind.Count ∷ kind.NoMain ∷ []) one.1 in
    let three = none_kept test kind.Type_ (kind.Arity ∷ kind.Modal ∷ kind.Parts ∷ kind.Count ∷ kind.NoMain ∷ []) two.1 in
    let four = none_kept test kind.Arity (kind.Modal ∷ kind.Parts ∷ kind.Count ∷ kind.NoMain ∷ []) three.1 in
    let five = none_kept test kind.Modal (kind.Parts ∷ kind.Count ∷ kind.NoMain ∷ []) four.1 in
    let six = none_kept test kind.Parts (kind.Count ∷ kind.NoMain ∷ []) five.1 in
    let seven = none_kept test kind.Count (kind.NoMain ∷ []) six.1 in
    let eight = none_kept test kind.NoMain [] seven.1 in
    record { known = one.0; once = two.0; typed = three.0; fitting = four.0; unmodal = five.0; part = six.0; counted = seven.0; main = eight.0 }

pub noted_grows : (faults of_it : List Fault) → faults ++ of_it ≡ [] → faults ≡ []
noted_grows faults of_it e = (none_in_both faults of_it e).0

pub noted_keeps : (o : Occurrence) (faults : List Fault) → noted o faults ≡ [] → Keeps o
noted_keeps o faults e = keeps o (none_in_both faults (faults_at o) e).1

-- ---- several parts in turn

-- a part whose faults grow
abbrev Growing : (A : Type 0) → (A → Judged) → Type 0
Growing A judged = (part : A) × Grows (judged part)

in_turn_grows : {A : Type 0} (judged : A → Judged) (parts : List (Growing A judged)) → Grows (in_turn (map judged (map (λ part. part.0) parts)))
in_turn_grows judged [] faults e = e
in_turn_grows judged (part ∷ parts) faults e = part.1 faults (in_turn_grows judged parts (judged part.0 faults) e)

pub each_grows : {A : Type 0} (judged : A → Judged) → ((a : A) → Grows (judged a)) → (xs : List A) → Grows (in_turn (map judged xs))
each_grows judged grow [] faults e = e
each_grows judged grow (x ∷ xs) faults e = grow x faults (each_grows judged grow xs (judged x faults) e)

-- ---- expressions

abbrev GrowingFactor : Sight → Due → Type 0
GrowingFactor sight wanted = Growing Factor (judged_factor sight wanted)

abbrev GrowingAddend : Sight → Due → Type 0
GrowingAddend sight wanted = Growing Addend (judged_addend sight wanted)

abbrev GrowingExpression : Sight → Due → Type 0
GrowingExpression sight wanted = Growing Expression (judged_expression sight wanted)

abbrev GrowingMultiplier : Sight → Due → Type 0
GrowingMultiplier sight wanted = Growing Multiplier (judged_multiplier sight wanted)

abbrev GrowingTerm : Sight → Due → Type 0
GrowingTerm sight wanted = Growing Term (judged_term sight wanted)

abbrev FactorParts : Sight → Due → Type 0
FactorParts sight wanted = Factor-F (GrowingFactor sight wanted) (GrowingAddend sight wanted) (GrowingExpression sight wanted) (GrowingMultiplier sight wanted) (GrowingTerm sight wanted)

abbrev bare_factor : (sight : Sight) (wanted : Due) → FactorParts sight wanted → Factor-F Factor Addend Expression Multiplier Term
bare_factor sight wanted y = map-Factor (GrowingFactor sight wanted) (GrowingAddend sight wanted) (GrowingExpression sight wanted) (GrowingMultiplier sight wanted) (GrowingTerm sight wanted)
    Factor Addend Expression Multiplier Term (λ part. part.0) (λ part. part.0) (λ part. part.0) (λ part. part.0) (λ part. part.0) y

abbrev factor_layer : Sight → Due → Factor-F Factor Addend Expression Multiplier Term → Judged
factor_layer sight wanted x = factor_judged sight wanted (map-Factor Factor Addend Expression Multiplier Term Judged Judged Judged Judged Judged
    (judged_factor sight wanted) (judged_addend sight wanted) (judged_expression sight wanted) (judged_multiplier sight wanted) (judged_term sight wanted) x)

factor_layer_grows : (sight : Sight) (wanted : Due) (y : FactorParts sight wanted) → Grows (factor_layer sight wanted (bare_factor sight wanted y))
factor_layer_grows sight wanted (Factor-F.Number place value) faults e = e
factor_layer_grows sight wanted (Factor-F.Name place) faults e = noted_grows faults _ e
factor_layer_grows sight wanted (Factor-F.Outcome place) faults e = noted_grows faults _ e
factor_layer_grows sight wanted (Factor-F.Negative minus factor) faults e = factor.1 faults e
factor_layer_grows sight wanted (Factor-F.Group start inside end) faults e = inside.1 faults e

factor_rolled : (sight : Sight) (wanted : Due) (x : Factor-F Factor Addend Expression Multiplier Term) (y : FactorParts sight wanted) → bare_factor sight wanted y ≡ x
    → Grows (judged_factor sight wanted (roll-Factor x))
factor_rolled sight wanted x y is =
    subst Grows (sym (fold-roll-Factor Judged Judged Judged Judged Judged
    (factor_judged sight wanted) addend_judged expression_judged multiplier_judged term_judged x))
    (subst (λ (l : Factor-F Factor Addend Expression Multiplier Term). Grows (factor_layer sight wanted l)) is (factor_layer_grows sight wanted y))

abbrev AddendParts : Sight → Due → Type 0
AddendParts sight wanted = Addend-F (GrowingFactor sight wanted) (GrowingAddend sight wanted) (GrowingExpression sight wanted) (GrowingMultiplier sight wanted) (GrowingTerm sight wanted)

abbrev bare_addend : (sight : Sight) (wanted : Due) → AddendParts sight wanted → Addend-F Factor Addend Expression Multiplier Term
bare_addend sight wanted y = map-Addend (GrowingFactor sight wanted) (GrowingAddend sight wanted) (GrowingExpression sight wanted) (GrowingMultiplier sight wanted) (GrowingTerm sight wanted)
    Factor Addend Expression Multiplier Term (λ part. part.0) (λ part. part.0) (λ part. part.0) (λ part. part.0) (λ part. part.0) y

abbrev addend_layer : Sight → Due → Addend-F Factor Addend Expression Multiplier Term → Judged
addend_layer sight wanted x = addend_judged (map-Addend Factor Addend Expression Multiplier Term Judged Judged Judged Judged Judged
    (judged_factor sight wanted) (judged_addend sight wanted) (judged_expression sight wanted) (judged_multiplier sight wanted) (judged_term sight wanted) x)

addend_layer_grows : (sight : Sight) (wanted : Due) (y : AddendParts sight wanted) → Grows (addend_layer sight wanted (bare_addend sight wanted y))
addend_layer_grows sight wanted y faults e = y.term.1 faults e

addend_rolled : (sight : Sight) (wanted : Due) (x : Addend-F Factor Addend Expression Multiplier Term) (y : AddendParts sight wanted) → bare_addend sight wanted y ≡ x
    → Grows (judged_addend sight wanted (roll-Addend x))
addend_rolled sight wanted x y is =
    subst Grows (sym (fold-roll-Addend Judged Judged Judged Judged Judged
    (factor_judged sight wanted) addend_judged expression_judged multiplier_judged term_judged x))
    (subst (λ (l : Addend-F Factor Addend Expression Multiplier Term). Grows (addend_layer sight wanted l)) is (addend_layer_grows sight wanted y))

abbrev ExpressionParts : Sight → Due → Type 0
ExpressionParts sight wanted = Expression-F (GrowingFactor sight wanted) (GrowingAddend sight wanted) (GrowingExpression sight wanted) (GrowingMultiplier sight wanted) (GrowingTerm sight wanted)

abbrev bare_expression : (sight : Sight) (wanted : Due) → ExpressionParts sight wanted → Expression-F Factor Addend Expression Multiplier Term
bare_expression sight wanted y = map-Expression (GrowingFactor sight wanted) (GrowingAddend sight wanted) (GrowingExpression sight wanted) (GrowingMultiplier sight wanted) (GrowingTerm sight wanted)
    Factor Addend Expression Multiplier Term (λ part. part.0) (λ part. part.0) (λ part. part.0) (λ part. part.0) (λ part. part.0) y

abbrev expression_layer : Sight → Due → Expression-F Factor Addend Expression Multiplier Term → Judged
expression_layer sight wanted x = expression_judged (map-Expression Factor Addend Expression Multiplier Term Judged Judged Judged Judged Judged
    (judged_factor sight wanted) (judged_addend sight wanted) (judged_expression sight wanted) (judged_multiplier sight wanted) (judged_term sight wanted) x)

expression_layer_grows : (sight : Sight) (wanted : Due) (y : ExpressionParts sight wanted) → Grows (expression_layer sight wanted (bare_expression sight wanted y))
expression_layer_grows sight wanted y faults e = y.first.1 faults (in_turn_grows (judged_addend sight wanted) y.more _ e)

expression_rolled : (sight : Sight) (wanted : Due) (x : Expression-F Factor Addend Expression Multiplier Term) (y : ExpressionParts sight wanted) → bare_expression sight wanted y ≡ x
    → Grows (judged_expression sight wanted (roll-Expression x))
expression_rolled sight wanted x y is =
    subst Grows (sym (fold-roll-Expression Judged Judged Judged Judged Judged
    (factor_judged sight wanted) addend_judged expression_judged multiplier_judged term_judged x))
    (subst (λ (l : Expression-F Factor Addend Expression Multiplier Term). Grows (expression_layer sight wanted l)) is (expression_layer_grows sight wanted y))

abbrev MultiplierParts : Sight → Due → Type 0
MultiplierParts sight wanted = Multiplier-F (GrowingFactor sight wanted) (GrowingAddend sight wanted) (GrowingExpression sight wanted) (GrowingMultiplier sight wanted) (GrowingTerm sight wanted)

abbrev bare_multiplier : (sight : Sight) (wanted : Due) → MultiplierParts sight wanted → Multiplier-F Factor Addend Expression Multiplier Term
bare_multiplier sight wanted y = map-Multiplier (GrowingFactor sight wanted) (GrowingAddend sight wanted) (GrowingExpression sight wanted) (GrowingMultiplier sight wanted) (GrowingTerm sight wanted)
    Factor Addend Expression Multiplier Term (λ part. part.0) (λ part. part.0) (λ part. part.0) (λ part. part.0) (λ part. part.0) y

abbrev multiplier_layer : Sight → Due → Multiplier-F Factor Addend Expression Multiplier Term → Judged
multiplier_layer sight wanted x = multiplier_judged (map-Multiplier Factor Addend Expression Multiplier Term Judged Judged Judged Judged Judged
    (judged_factor sight wanted) (judged_addend sight wanted) (judged_expression sight wanted) (judged_multiplier sight wanted) (judged_term sight wanted) x)

multiplier_layer_grows : (sight : Sight) (wanted : Due) (y : MultiplierParts sight wanted) → Grows (multiplier_layer sight wanted (bare_multiplier sight wanted y))
multiplier_layer_grows sight wanted y faults e = y.factor.1 faults e

multiplier_rolled : (sight : Sight) (wanted : Due) (x : Multiplier-F Factor Addend Expression Multiplier Term) (y : MultiplierParts sight wanted) → bare_multiplier sight wanted y ≡ x
    → Grows (judged_multiplier sight wanted (roll-Multiplier x))
multiplier_rolled sight wanted x y is =
    subst Grows (sym (fold-roll-Multiplier Judged Judged Judged Judged Judged
    (factor_judged sight wanted) addend_judged expression_judged multiplier_judged term_judged x))
    (subst (λ (l : Multiplier-F Factor Addend Expression Multiplier Term). Grows (multiplier_layer sight wanted l)) is (multiplier_layer_grows sight wanted y))

abbrev TermParts : Sight → Due → Type 0
TermParts sight wanted = Term-F (GrowingFactor sight wanted) (GrowingAddend sight wanted) (GrowingExpression sight wanted) (GrowingMultiplier sight wanted) (GrowingTerm sight wanted)

abbrev bare_term : (sight : Sight) (wanted : Due) → TermParts sight wanted → Term-F Factor Addend Expression Multiplier Term
bare_term sight wanted y = map-Term (GrowingFactor sight wanted) (GrowingAddend sight wanted) (GrowingExpression sight wanted) (GrowingMultiplier sight wanted) (GrowingTerm sight wanted)
    Factor Addend Expression Multiplier Term (λ part. part.0) (λ part. part.0) (λ part. part.0) (λ part. part.0) (λ part. part.0) y

abbrev term_layer : Sight → Due → Term-F Factor Addend Expression Multiplier Term → Judged
term_layer sight wanted x = term_judged (map-Term Factor Addend Expression Multiplier Term Judged Judged Judged Judged Judged
    (judged_factor sight wanted) (judged_addend sight wanted) (judged_expression sight wanted) (judged_multiplier sight wanted) (judged_term sight wanted) x)

term_layer_grows : (sight : Sight) (wanted : Due) (y : TermParts sight wanted) → Grows (term_layer sight wanted (bare_term sight wanted y))
term_layer_grows sight wanted y faults e = y.first.1 faults (in_turn_grows (judged_multiplier sight wanted) y.more _ e)

term_rolled : (sight : Sight) (wanted : Due) (x : Term-F Factor Addend Expression Multiplier Term) (y : TermParts sight wanted) → bare_term sight wanted y ≡ x
    → Grows (judged_term sight wanted (roll-Term x))
term_rolled sight wanted x y is =
    subst Grows (sym (fold-roll-Term Judged Judged Judged Judged Judged
    (factor_judged sight wanted) addend_judged expression_judged multiplier_judged term_judged x))
    (subst (λ (l : Term-F Factor Addend Expression Multiplier Term). Grows (term_layer sight wanted l)) is (term_layer_grows sight wanted y))

pub expression_grows : (sight : Sight) (wanted : Due) (e : Expression) → Grows (judged_expression sight wanted e)
expression_grows sight wanted = ind-Expression
    (λ (f : Factor). Grows (judged_factor sight wanted f)) (λ (a : Addend). Grows (judged_addend sight wanted a))
    (λ (e : Expression). Grows (judged_expression sight wanted e)) (λ (m : Multiplier). Grows (judged_multiplier sight wanted m))
    (λ (t : Term). Grows (judged_term sight wanted t))
    (factor_rolled sight wanted) (addend_rolled sight wanted) (expression_rolled sight wanted) (multiplier_rolled sight wanted) (term_rolled sight wanted)

pub number_grows : (sight : Sight) (e : Expression) → Grows (judged_number sight e)
number_grows sight e = expression_grows sight due.Number e

pub condition_grows : (sight : Sight) (c : Condition) → Grows (judged_condition sight c)
condition_grows sight (conditions.Always place) faults e = e
condition_grows sight (conditions.Never place) faults e = e
condition_grows sight (conditions.Compared left comparison right) faults e = number_grows sight left faults (number_grows sight right _ e)

-- ---- arguments and uses

bank_grows : (sight : Sight) (e : Expression) (alone : Option Span) → Grows (judged_bank sight e alone)
bank_grows sight e (Some place) faults none = noted_grows faults _ none
bank_grows sight e None faults none = noted_grows faults _ none

argument_grows : (sight : Sight) (wanted : Due) (e : Expression) → Grows (judged_argument sight wanted e)
argument_grows sight due.Bank e faults none = bank_grows sight e (name_alone e) faults none
argument_grows sight due.Number e faults none = expression_grows sight due.Number e faults none
argument_grows sight due.Target e faults none = expression_grows sight due.Target e faults none
argument_grows sight due.Any e faults none = expression_grows sight due.Any e faults none

pub arguments_grow : (sight : Sight) (banks : List Bool) (es : List Expression) → Grows (judged_arguments sight banks es)
arguments_grow sight banks [] faults none = none
arguments_grow sight banks (e ∷ es) faults none =
    argument_grows sight (first_due banks) e faults (arguments_grow sight (drop 1 banks) es (judged_argument sight (first_due banks) e faults) none)

use_noted : (sight : Sight) (o : Option Signature) (u : Use) (faults : List Fault) → judged_use sight o u faults ≡ []
    → noted (occurrence.Used u.name (fits u.arguments o)) faults ≡ []
use_noted sight o u faults none = arguments_grow sight (banks_of o) (arguments_of u.arguments) _ none

pub use_grows : (sight : Sight) (o : Option Signature) (u : Use) → Grows (judged_use sight o u)
use_grows sight o u faults none = noted_grows faults _ (use_noted sight o u faults none)

pub use_keeps : (sight : Sight) (o : Option Signature) (u : Use) (faults : List Fault) → judged_use sight o u faults ≡ []
    → Keeps (occurrence.Used u.name (fits u.arguments o))
use_keeps sight o u faults none = noted_keeps _ faults (use_noted sight o u faults none)

pub excluded_grows : (sight : Sight) (before : ℕ) (es : List Expression) → Grows (judged_excluded sight before es)
excluded_grows sight before [] faults none = none
excluded_grows sight before (e ∷ es) faults none =
    noted_grows faults _ (number_grows sight e _ (excluded_grows sight (one_more 16 before) es _ none))
