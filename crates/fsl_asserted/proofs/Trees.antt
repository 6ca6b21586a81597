-- Every assertion, produced and consumed.
use Rattle.std.proofs.Common.{List, [], ◌∷◌, map, sym, subst}
use Rattle.fsl_core.specs.declared.assertion.Asrt.{Asrt}
use Rattle.fsl_core.specs.declared.assertion.Asrt.TheOpen.{Asrt-F}
use Rattle.fsl_core.specs.declared.assertion.Asrt.TheViews.{roll-Asrt}
use Rattle.fsl_core.specs.declared.assertion.Asrt.TheFolds.{ind-Asrt, map-Asrt, fold-roll-Asrt}
use Rattle.fsl_core.specs.declared.mode.Rung.TheVariants as rung
use Rattle.fsl_core.specs.logic.Terms.{expr_of}
use Rattle.fsl_core.specs.logic.Assertions.{Assertion, asrt_step, asrt_of}
use Rattle.fsl_meaning.specs.Heaps.{Ground}
use Rattle.fsl_asserted.specs.Needs.{Asks, asks_step, asks}
use Rattle.fsl_asserted.specs.Fitting.{ProduceFits, ConsumeFits}
use Rattle.fsl_asserted.proofs.Producing.{AllProduceFit, emp_fits, fact_fits, points_fit, init_fits, rel_fits, acq_fits, rmw_fits, tok_fits, auth_fits, choice_fits, all_fit}
use Rattle.fsl_asserted.proofs.Consumed.{AllConsumeFit, emp_gives, fact_gives, points_give, init_gives, rel_gives, acq_gives, rmw_gives, tok_gives, auth_gives, choice_gives, all_give}

pub record FitsBoth (g : Ground) (a : Assertion) (asked : Asks) : Type 0 where
  pub produces : ProduceFits g a.produce asked
  pub consumes : ConsumeFits g a.consume asked

each_produces : {X A : Type 0} (g : Ground) (a : X → A) (f : A → Assertion) (q : A → Asks) → ((x : X) → FitsBoth g (f (a x)) (q (a x))) → (xs : List X)
    → AllProduceFit g (map (λ p. p.produce) (map f (map a xs))) (map q (map a xs))
each_produces g a f q each [] = tt
each_produces g a f q each (x ∷ xs) = ((each x).produces, each_produces g a f q each xs)

each_consumes : {X A : Type 0} (g : Ground) (a : X → A) (f : A → Assertion) (q : A → Asks) → ((x : X) → FitsBoth g (f (a x)) (q (a x))) → (xs : List X)
    → AllConsumeFit g (map (λ p. p.consume) (map f (map a xs))) (map q (map a xs))
each_consumes g a f q each [] = tt
each_consumes g a f q each (x ∷ xs) = ((each x).consumes, each_consumes g a f q each xs)

-- one level, whose children are fit
layer : {X A : Type 0} (g : Ground) (a : X → A) (f : A → Assertion) (q : A → Asks) → ((x : X) → FitsBoth g (f (a x)) (q (a x))) → (l : Asrt-F X)
    → FitsBoth g (asrt_step expr_of (map-Asrt A Assertion f (map-Asrt X A a l))) (asks_step g.truth (map-Asrt A Asks q (map-Asrt X A a l)))
layer g a f q each Asrt-F.Emp = record { produces = emp_fits g; consumes = emp_gives g }
layer g a f q each (Asrt-F.Fact c) = record { produces = fact_fits g c; consumes = fact_gives g c }
layer g a f q each (Asrt-F.Points at share p) = record { produces = points_fit g at share p; consumes = points_give g at share p }
layer g a f q each (Asrt-F.Init at) = record { produces = init_fits g at; consumes = init_gives g at }
layer g a f q each (Asrt-F.Rel at inst) = record { produces = rel_fits g at inst; consumes = rel_gives g at inst }
layer g a f q each (Asrt-F.Acq at inst part out) = record { produces = acq_fits g at inst part out; consumes = acq_gives g at inst part out }
layer g a f q each (Asrt-F.RmwAcq at inst) = record { produces = rmw_fits g at inst; consumes = rmw_gives g at inst }
layer g a f q each (Asrt-F.Tok bank n) = record { produces = tok_fits g bank n; consumes = tok_gives g bank n }
layer g a f q each (Asrt-F.Auth bank n) = record { produces = auth_fits g bank n; consumes = auth_gives g bank n }
layer g a f q each (Asrt-F.Choice c x y) = record {
  produces = choice_fits g c (f (a x)).produce (f (a y)).produce (q (a x)) (q (a y)) (each x).produces (each y).produces;
  consumes = choice_gives g c (f (a x)).consume (f (a y)).consume (q (a x)) (q (a y)) (each x).consumes (each y).consumes;
}
layer g a f q each (Asrt-F.Up x) = record { produces = λ r. (each x).produces rung.Up; consumes = λ mood r. (each x).consumes mood rung.Up }
layer g a f q each (Asrt-F.Down x) = record { produces = λ r. (each x).produces rung.Down; consumes = λ mood r. (each x).consumes mood rung.Down }
layer g a f q each (Asrt-F.Both xs) = record {
  produces = all_fit g (map (λ p. p.produce) (map f (map a xs))) (map q (map a xs)) (each_produces g a f q each xs);
  consumes = all_give g (map (λ p. p.consume) (map f (map a xs))) (map q (map a xs)) (each_consumes g a f q each xs);
}

pub asrt_fits : (g : Ground) (a : Asrt) → FitsBoth g (asrt_of a) (asks g.truth a)
asrt_fits g = ind-Asrt (λ a. FitsBoth g (asrt_of a) (asks g.truth a))
    (λ x y is.
    let p = fold-roll-Asrt Assertion (asrt_step expr_of) x in
    let q = fold-roll-Asrt Asks (asks_step g.truth) x in
    let l = subst (λ z. FitsBoth g (asrt_step expr_of (map-Asrt Asrt Assertion asrt_of z)) (asks_step g.truth (map-Asrt Asrt Asks (asks g.truth) z))) is
    (layer g (λ e. e.0) asrt_of (asks g.truth) (λ e. e.1) y) in
    subst (λ (z : Assertion). FitsBoth g z (asks g.truth (roll-Asrt x))) (sym p)
    (subst (λ (z : Asks). FitsBoth g (asrt_step expr_of (map-Asrt Asrt Assertion asrt_of x)) z) (sym q) l))

pub produce_fits : (g : Ground) (a : Asrt) → ProduceFits g (asrt_of a).produce (asks g.truth a)
produce_fits g a = (asrt_fits g a).produces

pub consume_fits : (g : Ground) (a : Asrt) → ConsumeFits g (asrt_of a).consume (asks g.truth a)
consume_fits g a = (asrt_fits g a).consumes
