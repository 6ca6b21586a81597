use Rattle.std.proofs.Common.{◌<◌, ◌≤◌, ◌-ℤ◌, length, ap, sym, subst, arith}
use Rattle.fsl_lin.specs.declared.equation.Equation.{Equation}
use Rattle.fsl_lin.specs.Combination.{IsKept}
use Rattle.fsl_lin.specs.Numbers.{Numbers, part, listed}
use Rattle.fsl_lin.specs.Rows.{taken}
use Rattle.fsl_lin.specs.Equations.{rows_of}
use Rattle.fsl_lin.proofs.MoreRows.{kept_at}
use Rattle.fsl_lin.proofs.Rows.{left_step, left_none}
use Rattle.fsl_lin.proofs.Sizes.{start_size, next_size, left_size}
use Rattle.fsl_lin.proofs.normal.fill.Goals as goal

pub loop-equation-init : goal.loop-equation-init
loop-equation-init c = record {
  left = λ i. ap (λ (n : Numbers). n i -ℤ taken (rows_of c.args.equations.now) (part c.args.t.now) i) c.write_parts.ensures.value;
  size = λ i. start_size c.args.t.now (listed c.write_parts.new.numbers i) i c.write_parts.ensures.kept (ap (λ (n : Numbers). n i) c.write_parts.ensures.value);
}

pub take_share-requires-clause-size : goal.take_share-requires-clause-size
take_share-requires-clause-size c =
    let few : c.loop-equation.equation-index ≤ 512 = omega arith in
    λ i. left_size c.loop-equation.equation-index _ few (c.loop-equation.invariant.size i)

pub loop-equation-preserved : goal.loop-equation-preserved
loop-equation-preserved c =
    let within : c.loop-equation.equation-index < length c.args.equations.now = omega arith in
    let kept : IsKept c.equation-item.result.lin =
    subst (λ (e : Equation). IsKept e.lin) (sym c.equation-item.is) (kept_at c.args.equations.now c.loop-equation.equation-index c.equation-item.result within c.requires.narrow) in
    record {
      left = λ i. left_step c.args.equations.now c.loop-equation.equation-index c.equation-item.result c.args.t.now i _ _ _
          within c.equation-item.is (c.take_share.ensures i) (c.loop-equation.invariant.left i);
      size = λ i. next_size c.loop-equation.equation-index c.args.t.now c.equation-item.result.lin c.equation-item.result.sym.0 i _ _
          c.write_parts.ensures.kept kept (c.loop-equation.invariant.size i) (c.take_share.ensures i);
    }

pub returns-clause-value : goal.returns-clause-value
returns-clause-value c =
    let all : length c.args.equations.now ≤ c.loop-equation.equation-index = omega arith in
    λ j i. left_none c.args.equations.now c.loop-equation.equation-index (part c.args.t.now) i _ _ all (c.loop-equation.invariant.left i) j
