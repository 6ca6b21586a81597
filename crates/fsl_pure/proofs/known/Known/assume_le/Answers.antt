use Rattle.std.proofs.Common.{◌≡◌, List, true, [], ◌∷◌, ◌++◌, reverse, ap, sym, subst, ◌∙◌}
use Rattle.fsl_lin.specs.declared.fact.Fact.{Fact}
use Rattle.fsl_lin.specs.declared.fact.Fact.TheVariants.{Le}
use Rattle.fsl_lin.specs.Combination.{Combination}
use Rattle.fsl_lin.specs.Facts.{facts_fit}
use Rattle.fsl_pure.specs.Known.{Assumed, IsHeld}
use Rattle.fsl_pure.proofs.Held.{held_bound, facts_pushed}
use Rattle.fsl_pure.proofs.known.Known.assume_le.Goals as goal

pub invariant_of-self-in-Ok : goal.invariant_of-self-in-Ok
invariant_of-self-in-Ok c =
    let fact : c.in_ok-fact.fact ≡ Le c.args.t.now = c.in_ok-fact.ensures ∙ ap (λ (t : Combination). Le t) c.in_ok-try_clone.ensures in
    let facts : reverse c.push.new.items.items ≡ Le c.args.t.now ∷ reverse c.self.inside.facts.items =
    facts_pushed c.self.inside.facts.items c.push.new.items.items c.in_ok-fact.fact (Le c.args.t.now)
    (c.push.ensures ∙ ap (λ (fs : List Fact). fs ++ c.in_ok-fact.fact ∷ []) c.reserve.ensures.items) fact in
    record {
      held = subst (λ (fs : List Fact). IsHeld fs c.self.inside.eqs c.add_term.new.self c.self.inside.unequal) (sym facts)
          (held_bound _ c.args.t.now _ _ _ _ c.self.invariant.held (rw c.get.ensures at c.in-Ok.ensures.added) c.fit.ensures);
      few = c.self.invariant.few;
    }

pub returns-in-Ok-clause-fit : goal.returns-in-Ok-clause-fit
returns-in-Ok-clause-fit c =
    subst (λ (a : Assumed). facts_fit (Le c.args.t.now ∷ a.facts) ≡ true) c.self.view_is
    (held_bound _ c.args.t.now _ _ _ _ c.self.invariant.held (rw c.get.ensures at c.in-Ok.ensures.added) c.fit.ensures).fit
