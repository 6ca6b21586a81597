use Rattle.std.proofs.Common.{◌≡◌, List, [], ◌∷◌, ◌++◌, reverse, ap, sym, subst, ◌∙◌}
use Rattle.fsl_lin.specs.declared.fact.Fact.{Fact}
use Rattle.fsl_lin.specs.declared.fact.Fact.TheVariants.{Is}
use Rattle.fsl_lin.specs.Combination.{Combination}
use Rattle.fsl_pure.specs.Known.{Assumed, IsHeld}
use Rattle.fsl_pure.proofs.Held.{facts_pushed}
use Rattle.fsl_pure.proofs.known.Known.assume_eq.Goals as goal

pub invariant_of-self-2 : goal.invariant_of-self-2
invariant_of-self-2 c =
    let fact : c.in_ok-fact.fact ≡ Is c.args.t.now = c.in_ok-fact.ensures ∙ ap (λ (t : Combination). Is t) c.in_ok-try_clone.ensures in
    let facts : reverse c.push.new.items.items ≡ Is c.args.t.now ∷ reverse c.self.inside.facts.items =
    facts_pushed c.self.inside.facts.items c.push.new.items.items c.in_ok-fact.fact (Is c.args.t.now)
    (c.push.ensures ∙ ap (λ (fs : List Fact). fs ++ c.in_ok-fact.fact ∷ []) c.reserve.ensures.items) fact in
    record {
      held = subst (λ (fs : List Fact). IsHeld fs c.in-Ok.next.eqs c.in-Ok.next.kept c.in-Ok.next.unequal) (sym facts)
          (subst (λ (a : Assumed). IsHeld (Is c.args.t.now ∷ a.facts) c.in-Ok.next.eqs c.in-Ok.next.kept c.in-Ok.next.unequal) (sym c.self.view_is) c.in-Ok.ensures.exact);
      few = c.self.invariant.few;
    }
