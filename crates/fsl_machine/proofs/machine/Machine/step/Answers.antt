use Rattle.std.proofs.Common.{◌≡◌, rules, ◌∙◌}
use Rattle.fsl_machine.specs.declared.steps.Readiness.TheVariants as readiness
use Rattle.fsl_machine.proofs.MachineLemmas.{shows_plain, steps_on, makes_next, asks_no_threads, names_no_threads, takes_none, meets}
use Rattle.fsl_machine.proofs.machine.Machine.step.Goals as goal

pub remember-requires-clause-plain : goal.remember-requires-clause-plain
remember-requires-clause-plain g c =
    let s = c.self.inside in
    let ready : c.readiness-why.result ≡ readiness.Ready = search rules in
    shows_plain s.program s.bound s.config s.moves s.history c.asked-need.result c.answer-reply.result c.label_of.result c.self.invariant
    (c.readiness-why.ensures s.program ∙ ready) c.asked-need.ensures c.answer-reply.ensures c.label_of.ensures

pub invariant_of-self-2 : goal.invariant_of-self-2
invariant_of-self-2 g c =
    let s = c.self.inside in
    let ready : c.readiness-why.result ≡ readiness.Ready = search rules in
    steps_on s.program s.bound s.config c.go_on.new.c s.moves s.history c.remember.new.history c.asked-need.result c.answer-reply.result
    c.label_of.result c.self.invariant (c.readiness-why.ensures s.program ∙ ready) c.if-self.false c.asked-need.ensures
    c.answer-reply.ensures c.label_of.ensures c.in-Ok.ensures.grown c.go_on.ensures.moved c.go_on.ensures.fits

pub returns-clause-step : goal.returns-clause-step
returns-clause-step g c =
    let s = c.self.inside in
    let ready : c.readiness-why.result ≡ readiness.Ready = search rules in
    makes_next s.program s.bound s.config c.go_on.new.c s.moves s.history c.remember.new.history c.asked-need.result c.answer-reply.result
    c.label_of.result c.args.self.now c.self.invariant c.self.view_is (c.readiness-why.ensures s.program ∙ ready) c.if-self.false c.asked-need.ensures
    (c.limit.ensures s.moves ∙ c.in_default.is)
    c.answer-reply.ensures c.label_of.ensures c.in-Ok.ensures.grown c.go_on.ensures.moved

pub asked-need-requires-clause-plain : goal.asked-need-requires-clause-plain
asked-need-requires-clause-plain g c =
    let s = c.self.inside in
    let ready : c.readiness-why.result ≡ readiness.Ready = search rules in
    asks_no_threads s.program s.bound s.config s.moves s.history c.self.invariant (c.readiness-why.ensures s.program ∙ ready)

pub go_on-requires-clause-plain : goal.go_on-requires-clause-plain
go_on-requires-clause-plain g c =
    let s = c.self.inside in takes_none s.program s.bound s.config s.moves s.history c.self.invariant

pub go_on-requires-clause-numbers : goal.go_on-requires-clause-numbers
go_on-requires-clause-numbers g c =
    let s = c.self.inside in
    let ready : c.readiness-why.result ≡ readiness.Ready = search rules in
    names_no_threads s.program s.bound s.config s.moves s.history c.answer-reply.result c.self.invariant (c.readiness-why.ensures s.program ∙ ready)

pub returns-in-Some-clause-limit : goal.returns-in-Some-clause-limit
returns-in-Some-clause-limit g c =
    let s = c.self.inside in
    let ready : c.readiness-why.result ≡ readiness.Ready = search rules in
    meets s.program s.bound s.config s.moves s.history c.asked-need.result c.in-Some.kind c.args.self.now c.self.invariant c.self.view_is
    (c.readiness-why.ensures s.program ∙ ready) c.if-self.false c.asked-need.ensures (c.limit.ensures s.moves ∙ c.in-Some.is)
