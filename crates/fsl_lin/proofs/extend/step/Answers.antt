use Rattle.std.proofs.Common.{◌≡◌, ◌≤◌, ◌-◌, ℕ, Some, None, true, ap, sym, subst, ◌∙◌, Err, arith}
use Rattle.fsl_lin.specs.declared.fault.LinFault.TheVariants.{Wide}
use Rattle.fsl_lin.specs.declared.took.Took.TheVariants.{Pivot}
use Rattle.fsl_lin.specs.Numbers.{Numbers, most, part, listed}
use Rattle.fsl_lin.specs.Rows.{IsReduced, normal, pivot_below, is_unit, extended, took_of, rows_fit}
use Rattle.fsl_lin.specs.Equations.{rows_of}
use Rattle.fsl_lin.proofs.Arrays.{most_is}
use Rattle.fsl_lin.proofs.Few.{few_equations}
use Rattle.fsl_lin.proofs.Pivots.{IsPivot, pivot_is, reduced_extended}
use Rattle.fsl_lin.proofs.extend.step.Goals as goal

pub fill-requires-clause-few : goal.fill-requires-clause-few
fill-requires-clause-few c = few_equations c.args.equations.now c.requires

pub with_pivot-requires-clause-low : goal.with_pivot-requires-clause-low
with_pivot-requires-clause-low c = (pivot_is most (listed c.fill.new.numbers) c.in-Some.place (sym c.in-Some.ensures)).low

pub with_pivot-requires-clause-high : goal.with_pivot-requires-clause-high
with_pivot-requires-clause-high c =
    let high : c.in-Some.place ≤ most = (pivot_is most (listed c.fill.new.numbers) c.in-Some.place (sym c.in-Some.ensures)).high in
    subst (λ (k : ℕ). c.in-Some.place ≤ k) most_is high

pub symbol_at-requires-clause-low : goal.symbol_at-requires-clause-low
symbol_at-requires-clause-low c = (pivot_is most (listed c.fill.new.numbers) c.in-Some.place (sym c.in-Some.ensures)).low

pub symbol_at-requires-clause-high : goal.symbol_at-requires-clause-high
symbol_at-requires-clause-high c =
    let high : c.in-Some.place ≤ most = (pivot_is most (listed c.fill.new.numbers) c.in-Some.place (sym c.in-Some.ensures)).high in
    subst (λ (k : ℕ). c.in-Some.place ≤ k) most_is high

pub returns-in-Ok-clause-exact : goal.returns-in-Ok-clause-exact
returns-in-Ok-clause-exact c =
    let same : listed c.fill.new.numbers ≡ normal (rows_of c.args.equations.now) (part c.args.t.now) = c.fill.ensures.value in
    let at : pivot_below most (normal (rows_of c.args.equations.now) (part c.args.t.now)) ≡ Some c.in-Some.place =
    ap (pivot_below most) (sym same) ∙ sym c.in-Some.ensures in
    let pivot : IsPivot most (listed c.fill.new.numbers) c.in-Some.place = pivot_is most (listed c.fill.new.numbers) c.in-Some.place (sym c.in-Some.ensures) in
    let unit : is_unit (normal (rows_of c.args.equations.now) (part c.args.t.now) c.in-Some.place) ≡ true =
    ap (λ (n : Numbers). is_unit (n c.in-Some.place)) (sym same) ∙ pivot.unit in
    let symbol : c.symbol_at.result.0 ≡ c.in-Some.place - 1 = omega (arith, c.symbol_at.ensures) in
    record {
      took = ap (λ (q : ℕ). Pivot (record { 0 = q })) symbol ∙ sym (ap (took_of (normal (rows_of c.args.equations.now) (part c.args.t.now))) at);
      rows = c.in-Ok.ensures.exact ∙ (λ j. extended (rows_of c.args.equations.now) (same j) (sym at j));
      kept = record {
        narrow = c.in-Ok.ensures.narrow;
        reduced = subst IsReduced (sym (c.in-Ok.ensures.exact ∙ ap (λ (n : Numbers). extended (rows_of c.args.equations.now) n (Some c.in-Some.place)) same))
            (reduced_extended (rows_of c.args.equations.now) (part c.args.t.now) c.in-Some.place c.requires.reduced unit);
      };
    }

pub returns-in-Err-clause-wide : goal.returns-in-Err-clause-wide
returns-in-Err-clause-wide c h =
    let f : c.in-Err.fault ≡ Wide = cc in
    let same : listed c.fill.new.numbers ≡ normal (rows_of c.args.equations.now) (part c.args.t.now) = c.fill.ensures.value in
    let at : pivot_below most (normal (rows_of c.args.equations.now) (part c.args.t.now)) ≡ Some c.in-Some.place =
    ap (pivot_below most) (sym same) ∙ sym c.in-Some.ensures in
    ap rows_fit (λ j. extended (rows_of c.args.equations.now) (sym same j) (at j)) ∙ c.in-Err.ensures.wide (ap Err f)

pub returns-in-None-clause-exact : goal.returns-in-None-clause-exact
returns-in-None-clause-exact c =
    let same : listed c.fill.new.numbers ≡ normal (rows_of c.args.equations.now) (part c.args.t.now) = c.fill.ensures.value in
    let at : pivot_below most (normal (rows_of c.args.equations.now) (part c.args.t.now)) ≡ None =
    ap (pivot_below most) (sym same) ∙ sym c.in-None.ensures in
    record {
      took = c.without_pivot.ensures ∙ (λ j. took_of (same j) (sym at j));
      rows = sym (ap (extended (rows_of c.args.equations.now) (normal (rows_of c.args.equations.now) (part c.args.t.now))) at);
      kept = c.requires;
    }
