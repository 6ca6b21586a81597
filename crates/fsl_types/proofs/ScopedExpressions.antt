-- An expression without faults reads only what is visible, and arguments are what their parameters are.
use Rattle.std.proofs.Common.{◌≡◌, ℕ, ◌+◌, Bool, true, false, true≢false, ◌&&◌, List, [], ◌∷◌, Option, Some, None, map, length, refl, ap, sym, ◌∙◌, subst, subst₂, arith}
use Rattle.std.proofs.lemmas.Bool.{and_from, and_parts, not-false, or_left, or_right}
use Rattle.std.proofs.lemmas.List.Folds.{list_all-map}
use Rattle.std.specs.List.{list_all}
use Rattle.fsl_base.specs.declared.span.Span.{Span}
use Rattle.fsl_core.specs.declared.expr.Expr.{Expr, map-Expr}
use Rattle.fsl_core.specs.declared.expr.Expr.TheFolds.{fold-Part, fold-roll-Expr, fold_out-Part}
use Rattle.fsl_core.specs.declared.expr.Expr.TheOpen.{Expr-F}
use Rattle.fsl_core.specs.declared.expr.Expr.TheVariants as expr
use Rattle.fsl_core.specs.declared.expr.Expr.TheVariants.{rolls-Const, rolls-Var, rolls-Result_, rolls-Neg, rolls-Sum, rolls-Product}
use Rattle.fsl_core.specs.declared.expr.Expr.TheViews.{roll-Expr}
use Rattle.fsl_core.specs.declared.expr.Part.{Part}
use Rattle.fsl_core.specs.declared.scope.Scope.{Scope}
use Rattle.fsl_core.specs.Scopes.{argument_fits, arguments_fit, bank_step, inst_argument_fits, is_bank, is_bank_alone, is_number, part_reads_step, reads, reads_step, sight_at, tests}
use Rattle.fsl_tree.specs.declared.expression.Addend.{Addend, map-Addend}
use Rattle.fsl_tree.specs.declared.expression.Condition.{Condition}
use Rattle.fsl_tree.specs.declared.expression.Condition.TheVariants as conditions
use Rattle.fsl_tree.specs.declared.expression.Expression.{Expression, map-Expression}
use Rattle.fsl_tree.specs.declared.expression.Factor.{Factor, map-Factor}
use Rattle.fsl_tree.specs.declared.expression.Factor.TheFolds.{ind-Expression, fold-roll-Factor, fold-roll-Addend, fold-roll-Expression, fold-roll-Multiplier, fold-roll-Term, fold_out-Factor, fold_out-Term, fold_out-Expression}
use Rattle.fsl_tree.specs.declared.expression.Factor.TheOpen.{Factor-F, Addend-F, Expression-F, Multiplier-F, Term-F}
use Rattle.fsl_tree.specs.declared.expression.Factor.TheViews.{out-Expression, out-Term, roll-Factor, roll-Addend, roll-Expression, roll-Multiplier, roll-Term}
use Rattle.fsl_tree.specs.declared.expression.Multiplier.{Multiplier, map-Multiplier}
use Rattle.fsl_tree.specs.declared.expression.Term.{Term, map-Term}
use Rattle.fsl_types.specs.declared.fault.Fault.{Fault}
use Rattle.fsl_types.specs.declared.occurrence.Due.TheVariants as due
use Rattle.fsl_types.specs.declared.occurrence.Occurrence.TheVariants as occurrence
use Rattle.fsl_types.specs.declared.resolver.Resolver.{Resolver}
use Rattle.fsl_types.specs.declared.variable.Variable.{Variable}
use Rattle.fsl_types.specs.Expressions.{Judged, Numbered, Sight, addend_judged, addend_of, addend_step, condition_of, expression_judged, expression_of, expression_step, factor_judged, factor_of, factor_step, first_due, first_factor, in_turn, judged_addend, judged_argument, judged_arguments, judged_bank, judged_condition, judged_excluded, judged_expression, judged_factor, judged_multiplier, judged_name, judged_number, judged_term, multiplier_judged, multiplier_of, multiplier_step, name_alone, negated, only_name, product_of, sum_of, term_judged, term_of, term_step}
use Rattle.fsl_types.specs.Faults.{is_due}
use Rattle.fsl_types.specs.Names.{found, slot_at, text_at}
use Rattle.fsl_types.specs.Resolvers.{one_more}
use Rattle.fsl_types.proofs.ExpressionsLemmas.{Grows, arguments_grow, excluded_grows, noted_grows, noted_keeps, number_grows}
use Rattle.fsl_types.proofs.StatementsLemmas.{Agree}
use Rattle.fsl_types.proofs.ScopedNames.{Shows, Stand, as_bank, as_number, named}

-- ---- one layer of an expression

pub folded_part : Scope → Part → Bool
folded_part scope = fold-Part Bool Bool (reads_step scope) part_reads_step

pub read_layer : (scope : Scope) (e : Expr) (layer : Expr-F Expr Part) → roll-Expr layer ≡ e
    → reads_step scope (map-Expr Expr Part Bool Bool (reads scope) (folded_part scope) layer) ≡ true → reads scope e ≡ true
unfolding folded_part
read_layer scope e layer is fit =
    subst (λ (x : Expr). reads scope x ≡ true) is (fold-roll-Expr Bool Bool (reads_step scope) part_reads_step layer ∙ fit)

-- addends that are read
abbrev adds : Scope → Part → Bool
adds scope part = reads scope part.e

parts_read : (scope : Scope) (parts : List Part) → list_all (adds scope) parts ≡ true → list_all (λ part. part) (map (folded_part scope) parts) ≡ true
unfolding folded_part
parts_read scope [] all = refl
parts_read scope (p ∷ ps) all =
    let both = and_parts (adds scope p) (list_all (adds scope) ps) all in
    and_from _ _ (fold_out-Part Bool Bool (reads_step scope) part_reads_step p ∙ both.0) (parts_read scope ps both.1)

sum_read : (scope : Scope) (first : Expr) (more : List Part) → reads scope first ≡ true → list_all (adds scope) more ≡ true → reads scope (sum_of first more) ≡ true
sum_read scope first [] one all = one
sum_read scope first (p ∷ ps) one all =
    read_layer scope _ (Expr-F.Sum (record { minus = false; e = first } ∷ p ∷ ps)) (rolls-Sum _)
    (parts_read scope (record { minus = false; e = first } ∷ p ∷ ps) (and_from _ _ one all))

product_read : (scope : Scope) (first : Expr) (more : List Expr) → reads scope first ≡ true → list_all (reads scope) more ≡ true → reads scope (product_of first more) ≡ true
product_read scope first [] one all = one
product_read scope first (e ∷ es) one all =
    read_layer scope _ (Expr-F.Product (first ∷ e ∷ es)) (rolls-Product _)
    (list_all-map (λ (factor : Bool). factor) (reads scope) (first ∷ e ∷ es) ∙ and_from _ _ one all)

negated_read : (scope : Scope) (number : Option ℕ) (e : Expr) → reads scope e ≡ true → reads scope (negated number e) ≡ true
negated_read scope (Some n) e fit = read_layer scope _ (Expr-F.Const _) (rolls-Const _) refl
negated_read scope None e fit = read_layer scope _ (Expr-F.Neg e) (rolls-Neg _) fit

-- ---- expressions

-- what is visible is seen so in a scope
pub record Reaches (scope : Scope) (seen : Sight) : Type 0 where
  pub number : (name : List ℕ) (v : Variable) → found name seen.names ≡ Some v → is_due due.Number v.sort ≡ true → is_number (sight_at scope v.slot) ≡ true
  pub bank : (name : List ℕ) (v : Variable) → found name seen.names ≡ Some v → is_due due.Bank v.sort ≡ true → is_bank (sight_at scope v.slot) ≡ true
  pub outcome : seen.in_ensures ≡ scope.in_ensures

pub reaches : (stand : Stand) (total : ℕ) (scope : Scope) (resolver : Resolver) (bytes : List ℕ) → Shows stand total scope resolver
    → Reaches scope (record { bytes = bytes; names = resolver.names; in_ensures = stand.in_ensures })
reaches stand total scope resolver bytes shows = record {
  number = λ name v is wanted. as_number stand.code (sight_at scope v.slot) v.sort (shows.each name v is).fits wanted;
  bank = λ name v is wanted. as_bank stand.code (sight_at scope v.slot) v.sort (shows.each name v is).fits wanted;
  outcome = sym shows.in_ensures;
}

-- without faults it is read
pub record IsRead (scope : Scope) (judged : Judged) (e : Expr) : Type 0 where
  pub grows : Grows judged
  pub fits : (faults : List Fault) → judged faults ≡ [] → reads scope e ≡ true

abbrev ReadFactor : Scope → Sight → Type 0
ReadFactor scope seen = (f : Factor) × IsRead scope (judged_factor seen due.Number f) (factor_of seen.bytes seen.names f).e

abbrev ReadAddend : Scope → Sight → Type 0
ReadAddend scope seen = (a : Addend) × IsRead scope (judged_addend seen due.Number a) (addend_of seen.bytes seen.names a).e

abbrev ReadExpression : Scope → Sight → Type 0
ReadExpression scope seen = (e : Expression) × IsRead scope (judged_expression seen due.Number e) (expression_of seen.bytes seen.names e)

abbrev ReadMultiplier : Scope → Sight → Type 0
ReadMultiplier scope seen = (m : Multiplier) × IsRead scope (judged_multiplier seen due.Number m) (multiplier_of seen.bytes seen.names m)

abbrev ReadTerm : Scope → Sight → Type 0
ReadTerm scope seen = (t : Term) × IsRead scope (judged_term seen due.Number t) (term_of seen.bytes seen.names t)

-- a level of a tree, with what is known of its parts, and without
abbrev Known : (F : Type 0 → Type 0 → Type 0 → Type 0 → Type 0 → Type 0) → Scope → Sight → Type 0
Known F scope seen = F (ReadFactor scope seen) (ReadAddend scope seen) (ReadExpression scope seen) (ReadMultiplier scope seen) (ReadTerm scope seen)

abbrev bare_factor : (scope : Scope) (seen : Sight) → Known Factor-F scope seen → Factor-F Factor Addend Expression Multiplier Term
bare_factor scope seen y = map-Factor (ReadFactor scope seen) (ReadAddend scope seen) (ReadExpression scope seen) (ReadMultiplier scope seen) (ReadTerm scope seen)
    Factor Addend Expression Multiplier Term (λ part. part.0) (λ part. part.0) (λ part. part.0) (λ part. part.0) (λ part. part.0) y

abbrev factor_layer : Sight → Factor-F Factor Addend Expression Multiplier Term → Judged
factor_layer seen x = factor_judged seen due.Number (map-Factor Factor Addend Expression Multiplier Term Judged Judged Judged Judged Judged
    (judged_factor seen due.Number) (judged_addend seen due.Number) (judged_expression seen due.Number) (judged_multiplier seen due.Number) (judged_term seen due.Number) x)

abbrev factor_made : Sight → Factor-F Factor Addend Expression Multiplier Term → Numbered
factor_made seen x = factor_step seen.bytes seen.names (map-Factor Factor Addend Expression Multiplier Term Numbered Part Expr Expr Expr
    (factor_of seen.bytes seen.names) (addend_of seen.bytes seen.names) (expression_of seen.bytes seen.names) (multiplier_of seen.bytes seen.names) (term_of seen.bytes seen.names) x)

name_read : (scope : Scope) (seen : Sight) (place : Span) → Reaches scope seen → (faults : List Fault) → judged_name seen due.Number place faults ≡ []
    → reads scope (expr.Var (slot_at seen.bytes seen.names place)) ≡ true
name_read scope seen place reach faults none =
    read_layer scope _ (Expr-F.Var _) (rolls-Var _)
    (named scope place due.Number is_number (found (text_at seen.bytes place) seen.names) (reach.number (text_at seen.bytes place)) (noted_keeps _ faults none))

factor_layer_read : (scope : Scope) (seen : Sight) → Reaches scope seen → (y : Known Factor-F scope seen)
    → IsRead scope (factor_layer seen (bare_factor scope seen y)) (factor_made seen (bare_factor scope seen y)).e
factor_layer_read scope seen reach (Factor-F.Number place value) = record {
  grows = λ faults none. none;
  fits = λ faults none. read_layer scope _ (Expr-F.Const _) (rolls-Const _) refl;
}
factor_layer_read scope seen reach (Factor-F.Name place) = record {
  grows = λ faults none. noted_grows faults _ none;
  fits = λ faults none. name_read scope seen place reach faults none;
}
factor_layer_read scope seen reach (Factor-F.Outcome place) = record {
  grows = λ faults none. noted_grows faults _ none;
  fits = λ faults none.
      read_layer scope _ Expr-F.Result_ rolls-Result_
      (sym reach.outcome ∙ not-false seen.in_ensures (noted_keeps (occurrence.Outcome place seen.in_ensures) faults none).typed);
}
factor_layer_read scope seen reach (Factor-F.Negative minus factor) = record {
  grows = factor.1.grows;
  fits = λ faults none. negated_read scope _ _ (factor.1.fits faults none);
}
factor_layer_read scope seen reach (Factor-F.Group start inside end) = inside.1

factor_rolled : (scope : Scope) (seen : Sight) → Reaches scope seen → (x : Factor-F Factor Addend Expression Multiplier Term) (y : Known Factor-F scope seen)
    → bare_factor scope seen y ≡ x → IsRead scope (judged_factor seen due.Number (roll-Factor x)) (factor_of seen.bytes seen.names (roll-Factor x)).e
factor_rolled scope seen reach x y is =
    subst₂ (λ (j : Judged) (n : Numbered). IsRead scope j n.e)
    (sym (fold-roll-Factor Judged Judged Judged Judged Judged (factor_judged seen due.Number) addend_judged expression_judged multiplier_judged term_judged x))
    (sym (fold-roll-Factor Numbered Part Expr Expr Expr (factor_step seen.bytes seen.names) addend_step expression_step multiplier_step term_step x))
    (subst (λ (l : Factor-F Factor Addend Expression Multiplier Term). IsRead scope (factor_layer seen l) (factor_made seen l).e) is (factor_layer_read scope seen reach y))

abbrev bare_addend : (scope : Scope) (seen : Sight) → Known Addend-F scope seen → Addend-F Factor Addend Expression Multiplier Term
bare_addend scope seen y = map-Addend (ReadFactor scope seen) (ReadAddend scope seen) (ReadExpression scope seen) (ReadMultiplier scope seen) (ReadTerm scope seen)
    Factor Addend Expression Multiplier Term (λ part. part.0) (λ part. part.0) (λ part. part.0) (λ part. part.0) (λ part. part.0) y

abbrev addend_layer : Sight → Addend-F Factor Addend Expression Multiplier Term → Judged
addend_layer seen x = addend_judged (map-Addend Factor Addend Expression Multiplier Term Judged Judged Judged Judged Judged
    (judged_factor seen due.Number) (judged_addend seen due.Number) (judged_expression seen due.Number) (judged_multiplier seen due.Number) (judged_term seen due.Number) x)

abbrev addend_made : Sight → Addend-F Factor Addend Expression Multiplier Term → Part
addend_made seen x = addend_step (map-Addend Factor Addend Expression Multiplier Term Numbered Part Expr Expr Expr
    (factor_of seen.bytes seen.names) (addend_of seen.bytes seen.names) (expression_of seen.bytes seen.names) (multiplier_of seen.bytes seen.names) (term_of seen.bytes seen.names) x)

addend_rolled : (scope : Scope) (seen : Sight) (x : Addend-F Factor Addend Expression Multiplier Term) (y : Known Addend-F scope seen)
    → bare_addend scope seen y ≡ x → IsRead scope (judged_addend seen due.Number (roll-Addend x)) (addend_of seen.bytes seen.names (roll-Addend x)).e
addend_rolled scope seen x y is =
    subst₂ (λ (j : Judged) (n : Part). IsRead scope j n.e)
    (sym (fold-roll-Addend Judged Judged Judged Judged Judged (factor_judged seen due.Number) addend_judged expression_judged multiplier_judged term_judged x))
    (sym (fold-roll-Addend Numbered Part Expr Expr Expr (factor_step seen.bytes seen.names) addend_step expression_step multiplier_step term_step x))
    (subst (λ (l : Addend-F Factor Addend Expression Multiplier Term). IsRead scope (addend_layer seen l) (addend_made seen l).e) is
    (record { grows = y.term.1.grows; fits = y.term.1.fits }))

abbrev bare_expression : (scope : Scope) (seen : Sight) → Known Expression-F scope seen → Expression-F Factor Addend Expression Multiplier Term
bare_expression scope seen y = map-Expression (ReadFactor scope seen) (ReadAddend scope seen) (ReadExpression scope seen) (ReadMultiplier scope seen) (ReadTerm scope seen)
    Factor Addend Expression Multiplier Term (λ part. part.0) (λ part. part.0) (λ part. part.0) (λ part. part.0) (λ part. part.0) y

abbrev expression_layer : Sight → Expression-F Factor Addend Expression Multiplier Term → Judged
expression_layer seen x = expression_judged (map-Expression Factor Addend Expression Multiplier Term Judged Judged Judged Judged Judged
    (judged_factor seen due.Number) (judged_addend seen due.Number) (judged_expression seen due.Number) (judged_multiplier seen due.Number) (judged_term seen due.Number) x)

abbrev expression_made : Sight → Expression-F Factor Addend Expression Multiplier Term → Expr
expression_made seen x = expression_step (map-Expression Factor Addend Expression Multiplier Term Numbered Part Expr Expr Expr
    (factor_of seen.bytes seen.names) (addend_of seen.bytes seen.names) (expression_of seen.bytes seen.names) (multiplier_of seen.bytes seen.names) (term_of seen.bytes seen.names) x)

addends_read : (scope : Scope) (seen : Sight) (parts : List (ReadAddend scope seen)) (faults : List Fault)
    → in_turn (map (judged_addend seen due.Number) (map (λ part. part.0) parts)) faults ≡ []
    → (faults ≡ []) × (list_all (adds scope) (map (addend_of seen.bytes seen.names) (map (λ part. part.0) parts)) ≡ true)
addends_read scope seen [] faults none = (none, refl)
addends_read scope seen (part ∷ parts) faults none =
    let behind = addends_read scope seen parts (judged_addend seen due.Number part.0 faults) none in
    (part.1.grows faults behind.0, and_from _ _ (part.1.fits faults behind.0) behind.1)

expression_layer_read : (scope : Scope) (seen : Sight) (y : Known Expression-F scope seen)
    → IsRead scope (expression_layer seen (bare_expression scope seen y)) (expression_made seen (bare_expression scope seen y))
expression_layer_read scope seen y = record {
  grows = λ faults none. y.first.1.grows faults (addends_read scope seen y.more _ none).0;
  fits = λ faults none.
      let behind = addends_read scope seen y.more _ none in sum_read scope _ _ (y.first.1.fits faults behind.0) behind.1;
}

expression_rolled : (scope : Scope) (seen : Sight) (x : Expression-F Factor Addend Expression Multiplier Term) (y : Known Expression-F scope seen)
    → bare_expression scope seen y ≡ x → IsRead scope (judged_expression seen due.Number (roll-Expression x)) (expression_of seen.bytes seen.names (roll-Expression x))
expression_rolled scope seen x y is =
    subst₂ (IsRead scope)
    (sym (fold-roll-Expression Judged Judged Judged Judged Judged (factor_judged seen due.Number) addend_judged expression_judged multiplier_judged term_judged x))
    (sym (fold-roll-Expression Numbered Part Expr Expr Expr (factor_step seen.bytes seen.names) addend_step expression_step multiplier_step term_step x))
    (subst (λ (l : Expression-F Factor Addend Expression Multiplier Term). IsRead scope (expression_layer seen l) (expression_made seen l)) is (expression_layer_read scope seen y))

abbrev bare_multiplier : (scope : Scope) (seen : Sight) → Known Multiplier-F scope seen → Multiplier-F Factor Addend Expression Multiplier Term
bare_multiplier scope seen y = map-Multiplier (ReadFactor scope seen) (ReadAddend scope seen) (ReadExpression scope seen) (ReadMultiplier scope seen) (ReadTerm scope seen)
    Factor Addend Expression Multiplier Term (λ part. part.0) (λ part. part.0) (λ part. part.0) (λ part. part.0) (λ part. part.0) y

abbrev multiplier_layer : Sight → Multiplier-F Factor Addend Expression Multiplier Term → Judged
multiplier_layer seen x = multiplier_judged (map-Multiplier Factor Addend Expression Multiplier Term Judged Judged Judged Judged Judged
    (judged_factor seen due.Number) (judged_addend seen due.Number) (judged_expression seen due.Number) (judged_multiplier seen due.Number) (judged_term seen due.Number) x)

abbrev multiplier_made : Sight → Multiplier-F Factor Addend Expression Multiplier Term → Expr
multiplier_made seen x = multiplier_step (map-Multiplier Factor Addend Expression Multiplier Term Numbered Part Expr Expr Expr
    (factor_of seen.bytes seen.names) (addend_of seen.bytes seen.names) (expression_of seen.bytes seen.names) (multiplier_of seen.bytes seen.names) (term_of seen.bytes seen.names) x)

multiplier_rolled : (scope : Scope) (seen : Sight) (x : Multiplier-F Factor Addend Expression Multiplier Term) (y : Known Multiplier-F scope seen)
    → bare_multiplier scope seen y ≡ x → IsRead scope (judged_multiplier seen due.Number (roll-Multiplier x)) (multiplier_of seen.bytes seen.names (roll-Multiplier x))
multiplier_rolled scope seen x y is =
    subst₂ (IsRead scope)
    (sym (fold-roll-Multiplier Judged Judged Judged Judged Judged (factor_judged seen due.Number) addend_judged expression_judged multiplier_judged term_judged x))
    (sym (fold-roll-Multiplier Numbered Part Expr Expr Expr (factor_step seen.bytes seen.names) addend_step expression_step multiplier_step term_step x))
    (subst (λ (l : Multiplier-F Factor Addend Expression Multiplier Term). IsRead scope (multiplier_layer seen l) (multiplier_made seen l)) is
    (record { grows = y.factor.1.grows; fits = y.factor.1.fits }))

abbrev bare_term : (scope : Scope) (seen : Sight) → Known Term-F scope seen → Term-F Factor Addend Expression Multiplier Term
bare_term scope seen y = map-Term (ReadFactor scope seen) (ReadAddend scope seen) (ReadExpression scope seen) (ReadMultiplier scope seen) (ReadTerm scope seen)
    Factor Addend Expression Multiplier Term (λ part. part.0) (λ part. part.0) (λ part. part.0) (λ part. part.0) (λ part. part.0) y

abbrev term_layer : Sight → Term-F Factor Addend Expression Multiplier Term → Judged
term_layer seen x = term_judged (map-Term Factor Addend Expression Multiplier Term Judged Judged Judged Judged Judged
    (judged_factor seen due.Number) (judged_addend seen due.Number) (judged_expression seen due.Number) (judged_multiplier seen due.Number) (judged_term seen due.Number) x)

abbrev term_made : Sight → Term-F Factor Addend Expression Multiplier Term → Expr
term_made seen x = term_step (map-Term Factor Addend Expression Multiplier Term Numbered Part Expr Expr Expr
    (factor_of seen.bytes seen.names) (addend_of seen.bytes seen.names) (expression_of seen.bytes seen.names) (multiplier_of seen.bytes seen.names) (term_of seen.bytes seen.names) x)

factors_read : (scope : Scope) (seen : Sight) (parts : List (ReadMultiplier scope seen)) (faults : List Fault)
    → in_turn (map (judged_multiplier seen due.Number) (map (λ part. part.0) parts)) faults ≡ []
    → (faults ≡ []) × (list_all (reads scope) (map (multiplier_of seen.bytes seen.names) (map (λ part. part.0) parts)) ≡ true)
factors_read scope seen [] faults none = (none, refl)
factors_read scope seen (part ∷ parts) faults none =
    let behind = factors_read scope seen parts (judged_multiplier seen due.Number part.0 faults) none in
    (part.1.grows faults behind.0, and_from _ _ (part.1.fits faults behind.0) behind.1)

term_layer_read : (scope : Scope) (seen : Sight) (y : Known Term-F scope seen) → IsRead scope (term_layer seen (bare_term scope seen y)) (term_made seen (bare_term scope seen y))
term_layer_read scope seen y = record {
  grows = λ faults none. y.first.1.grows faults (factors_read scope seen y.more _ none).0;
  fits = λ faults none.
      let behind = factors_read scope seen y.more _ none in product_read scope _ _ (y.first.1.fits faults behind.0) behind.1;
}

term_rolled : (scope : Scope) (seen : Sight) (x : Term-F Factor Addend Expression Multiplier Term) (y : Known Term-F scope seen)
    → bare_term scope seen y ≡ x → IsRead scope (judged_term seen due.Number (roll-Term x)) (term_of seen.bytes seen.names (roll-Term x))
term_rolled scope seen x y is =
    subst₂ (IsRead scope)
    (sym (fold-roll-Term Judged Judged Judged Judged Judged (factor_judged seen due.Number) addend_judged expression_judged multiplier_judged term_judged x))
    (sym (fold-roll-Term Numbered Part Expr Expr Expr (factor_step seen.bytes seen.names) addend_step expression_step multiplier_step term_step x))
    (subst (λ (l : Term-F Factor Addend Expression Multiplier Term). IsRead scope (term_layer seen l) (term_made seen l)) is (term_layer_read scope seen y))

expression_read : (scope : Scope) (seen : Sight) → Reaches scope seen → (e : Expression) → IsRead scope (judged_expression seen due.Number e) (expression_of seen.bytes seen.names e)
expression_read scope seen reach = ind-Expression
    (λ (f : Factor). IsRead scope (judged_factor seen due.Number f) (factor_of seen.bytes seen.names f).e)
    (λ (a : Addend). IsRead scope (judged_addend seen due.Number a) (addend_of seen.bytes seen.names a).e)
    (λ (e : Expression). IsRead scope (judged_expression seen due.Number e) (expression_of seen.bytes seen.names e))
    (λ (m : Multiplier). IsRead scope (judged_multiplier seen due.Number m) (multiplier_of seen.bytes seen.names m))
    (λ (t : Term). IsRead scope (judged_term seen due.Number t) (term_of seen.bytes seen.names t))
    (factor_rolled scope seen reach) (addend_rolled scope seen) (expression_rolled scope seen) (multiplier_rolled scope seen) (term_rolled scope seen)

pub number_read : (scope : Scope) (seen : Sight) → Reaches scope seen → (e : Expression) (faults : List Fault) → judged_number seen e faults ≡ []
    → reads scope (expression_of seen.bytes seen.names e) ≡ true
number_read scope seen reach e = (expression_read scope seen reach e).fits

pub condition_tested : (scope : Scope) (seen : Sight) → Reaches scope seen → (c : Condition) (faults : List Fault) → judged_condition seen c faults ≡ []
    → tests scope (condition_of seen.bytes seen.names c) ≡ true
condition_tested scope seen reach (conditions.Always place) faults none = refl
condition_tested scope seen reach (conditions.Never place) faults none = refl
condition_tested scope seen reach (conditions.Compared left comparison right) faults none =
    and_from _ _ (number_read scope seen reach left faults (number_grows seen right _ none)) (number_read scope seen reach right _ none)

pub excluded_read : (scope : Scope) (seen : Sight) → Reaches scope seen → (before : ℕ) (es : List Expression) (faults : List Fault) → judged_excluded seen before es faults ≡ []
    → list_all (reads scope) (map (expression_of seen.bytes seen.names) es) ≡ true
excluded_read scope seen reach before [] faults none = refl
excluded_read scope seen reach before (e ∷ es) faults none =
    and_from _ _ (number_read scope seen reach e _ (excluded_grows seen (one_more 16 before) es _ none)) (excluded_read scope seen reach (one_more 16 before) es _ none)

-- ---- a bank, which is a name alone

pub bank_seen : (scope : Scope) (seen : Sight) → Reaches scope seen → (place : Span) (faults : List Fault) → judged_name seen due.Bank place faults ≡ []
    → is_bank (sight_at scope (slot_at seen.bytes seen.names place)) ≡ true
bank_seen scope seen reach place faults none =
    named scope place due.Bank is_bank (found (text_at seen.bytes place) seen.names) (reach.bank (text_at seen.bytes place)) (noted_keeps _ faults none)

only_var : (seen : Sight) (more : List Addend) (factors : List Multiplier) (layer : Factor-F Factor Addend Expression Multiplier Term) (place : Span)
    → only_name more factors layer ≡ Some place
    → sum_of (product_of (factor_made seen layer).e (map (multiplier_of seen.bytes seen.names) factors)) (map (addend_of seen.bytes seen.names) more)
    ≡ expr.Var (slot_at seen.bytes seen.names place)
only_var seen [] [] (Factor-F.Number at value) place is = absurd cc
only_var seen [] [] (Factor-F.Name at) place is = let same : at ≡ place = cc in ap (λ (p : Span). expr.Var (slot_at seen.bytes seen.names p)) same
only_var seen [] [] (Factor-F.Outcome at) place is = absurd cc
only_var seen [] [] (Factor-F.Negative minus factor) place is = absurd cc
only_var seen [] [] (Factor-F.Group start inside end) place is = absurd cc
only_var seen [] (m ∷ ms) layer place is = absurd cc
only_var seen (a ∷ more) factors layer place is = absurd cc

alone_var : (seen : Sight) (e : Expression) (place : Span) → name_alone e ≡ Some place → expression_of seen.bytes seen.names e ≡ expr.Var (slot_at seen.bytes seen.names place)
alone_var seen e place is =
    let level = out-Expression e in
    let term = out-Term level.first in
    let step = factor_step seen.bytes seen.names in
    let outer = fold_out-Expression Numbered Part Expr Expr Expr step addend_step expression_step multiplier_step term_step e in
    let middle = fold_out-Term Numbered Part Expr Expr Expr step addend_step expression_step multiplier_step term_step level.first in
    let inner = fold_out-Factor Numbered Part Expr Expr Expr step addend_step expression_step multiplier_step term_step term.first in
    outer
    ∙ ap (λ (first : Expr). sum_of first (map (addend_of seen.bytes seen.names) level.more)) middle
    ∙ ap (λ (first : Numbered). sum_of (product_of first.e (map (multiplier_of seen.bytes seen.names) term.more)) (map (addend_of seen.bytes seen.names) level.more)) inner
    ∙ only_var seen level.more term.more (first_factor e) place is

var_bank : (scope : Scope) (slot : ℕ) → is_bank (sight_at scope slot) ≡ true → is_bank_alone scope (expr.Var slot) ≡ true
var_bank scope slot is =
    subst (λ (x : Expr). is_bank_alone scope x ≡ true) (rolls-Var slot) (fold-roll-Expr Bool Bool (bank_step scope) part_reads_step (Expr-F.Var slot) ∙ is)

bank_given : (scope : Scope) (seen : Sight) → Reaches scope seen → (e : Expression) (alone : Option Span) → name_alone e ≡ alone → (faults : List Fault)
    → judged_bank seen e alone faults ≡ [] → is_bank_alone scope (expression_of seen.bytes seen.names e) ≡ true
bank_given scope seen reach e (Some place) is faults none =
    subst (λ (x : Expr). is_bank_alone scope x ≡ true) (sym (alone_var seen e place is)) (var_bank scope _ (bank_seen scope seen reach place faults none))
bank_given scope seen reach e None is faults none = absurd (true≢false (noted_keeps (occurrence.Compound _) faults none).typed)

-- ---- arguments

-- each argument is what its parameter is
abbrev pub each_given : Scope → List Bool → List Expr → Bool
each_given scope [] [] = true
each_given scope (b ∷ banks) (e ∷ es) = argument_fits scope b e && each_given scope banks es
each_given scope _ _ = false

argument_given : (scope : Scope) (seen : Sight) → Reaches scope seen → (b : Bool) (banks : List Bool) (e : Expression) (faults : List Fault)
    → judged_argument seen (first_due (b ∷ banks)) e faults ≡ [] → argument_fits scope b (expression_of seen.bytes seen.names e) ≡ true
argument_given scope seen reach true banks e faults none = bank_given scope seen reach e (name_alone e) refl faults none
argument_given scope seen reach false banks e faults none = number_read scope seen reach e faults none

pub arguments_given : (scope : Scope) (seen : Sight) → Reaches scope seen → (banks : List Bool) (es : List Expression) (faults : List Fault)
    → length es ≡ length banks → judged_arguments seen banks es faults ≡ [] → each_given scope banks (map (expression_of seen.bytes seen.names) es) ≡ true
arguments_given scope seen reach [] [] faults long none = refl
arguments_given scope seen reach [] (e ∷ es) faults long none = absurd cc
arguments_given scope seen reach (b ∷ banks) [] faults long none = absurd cc
arguments_given scope seen reach (b ∷ banks) (e ∷ es) faults long none =
    and_from _ _ (argument_given scope seen reach b banks e faults (arguments_grow seen banks es _ none))
    (arguments_given scope seen reach banks es _ (omega (arith, long)) none)

either_given : (scope : Scope) (b : Bool) (e : Expr) → argument_fits scope b e ≡ true → inst_argument_fits scope e ≡ true
either_given scope true e is = or_right (reads scope e) _ is
either_given scope false e is = or_left (reads scope e) _ is

-- of an invariant
pub instance_given : (scope : Scope) (banks : List Bool) (es : List Expr) → each_given scope banks es ≡ true → list_all (inst_argument_fits scope) es ≡ true
instance_given scope [] [] is = refl
instance_given scope [] (e ∷ es) is = absurd (true≢false (sym is))
instance_given scope (b ∷ banks) [] is = refl
instance_given scope (b ∷ banks) (e ∷ es) is =
    let both = and_parts (argument_fits scope b e) (each_given scope banks es) is in and_from _ _ (either_given scope b e both.0) (instance_given scope banks es both.1)

-- of a procedure
pub call_given : (scope : Scope) (banks : List ℕ) (slot : ℕ) (bs : List Bool) (es : List Expr) → Agree banks slot bs → each_given scope bs es ≡ true
    → arguments_fit scope banks slot es ≡ true
call_given scope banks slot [] [] agree is = refl
call_given scope banks slot [] (e ∷ es) agree is = absurd (true≢false (sym is))
call_given scope banks slot (b ∷ bs) [] agree is = refl
call_given scope banks slot (b ∷ bs) (e ∷ es) agree is =
    let both = and_parts (argument_fits scope b e) (each_given scope bs es) is in
    and_from _ _ (ap (λ (bank : Bool). argument_fits scope bank e) agree.0 ∙ both.0) (call_given scope banks (slot + 1) bs es agree.1 both.1)
