-- Terms of slots that are read from the list of all, and a part of a sum, read.
use Rattle.std.proofs.Common.{◌≡◌, ℕ, suc, ◌-◌, List, [], ◌∷◌, length, get_or, slice_get, true, Option, Some, None, refl, sym, ap, subst, ◌∙◌, arith}
use Rattle.std.proofs.lemmas.Option.{unwrap_or-slice_get}
use Rattle.std.specs.Option.{unwrap_or}
use Rattle.fsl_core.specs.logic.States.{Env}
use Rattle.fsl_core.specs.logic.Terms.{last_or, constant_of, number_of, Term, Expression, expr_step, part_step}
use Rattle.fsl_lin.specs.Combination.{Combination}
use Rattle.fsl_lin.specs.Facts.{rows}
use Rattle.fsl_lin.specs.Numbers.{Numbers, part, is_constant}
use Rattle.fsl_lin.specs.Rows.{normal}
use Rattle.fsl_lin.specs.declared.fact.Fact.{Fact}
use Rattle.std.specs.Prelude.{Bool}
use Rattle.fsl_core.specs.declared.expr.Part.{Part}
use Rattle.fsl_core.specs.declared.expr.Expr.TheFolds.{fold-Part}

pub unset : (env : Env) (slot : ℕ) (d : Combination) → None ≡ slice_get env slot → get_or env slot d ≡ d
unset env slot d h = sym (unwrap_or-slice_get env slot d) ∙ ap (λ (o : Option Combination). unwrap_or o d) (sym h)

one_less : (x y : Combination) (ys : Env) → length (x ∷ (y ∷ ys)) - 1 ≡ suc (length (y ∷ ys) - 1)
one_less x y ys = omega arith

pub last_some : (d t : Combination) (env : Env) → Some t ≡ slice_get env (length env - 1) → last_or d env ≡ t
last_some d t [] h = absurd cc
last_some d t (x ∷ []) h = cc
last_some d t (x ∷ (y ∷ ys)) h = last_some x t (y ∷ ys) (rw (one_less x y ys) at h)

never_none : (x : Combination) (xs : Env) → None ≡ slice_get (x ∷ xs) (length (x ∷ xs) - 1) → ⊥
never_none x [] h = cc
never_none x (y ∷ ys) h = never_none y ys (rw (one_less x y ys) at h)

pub last_none : (d : Combination) (env : Env) → None ≡ slice_get env (length env - 1) → last_or d env ≡ d
last_none d [] h = refl
last_none d (x ∷ xs) h = absurd (never_none x xs h)

-- a number by its normal form
by_constant : (n : Numbers) → is_constant n ≡ true → Some (n 0) ≡ number_of n
by_constant n k = rw k refl

pub number_is : (n : Numbers) (facts : List Fact) (t : Combination) → n ≡ normal (rows facts) (part t) → is_constant n ≡ true
    → Some (n 0) ≡ constant_of facts t
number_is n facts t h k = subst (λ (m : Numbers). Some (n 0) ≡ number_of m) h (by_constant n k)

abbrev pub part_of : Part → Bool × Expression
part_of = fold-Part Expression (Bool × Expression) expr_step part_step

abbrev pub term_of : Expression → Term
term_of e = e.term
