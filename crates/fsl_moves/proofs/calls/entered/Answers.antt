use Rattle.std.proofs.Common.{◌≡◌, List, Some, length, slice_get, refl, subst}
use Rattle.std.proofs.lemmas.Option.{slice_get_read}
use Rattle.fsl_core.specs.declared.declaration.Proc.{Proc}
use Rattle.fsl_moves.specs.declared.config.Frame.{Frame}
use Rattle.fsl_moves.proofs.TurnLemmas.{entered_is}
use Rattle.fsl_moves.proofs.calls.entered.Goals as goal

pub returns : goal.returns
returns c =
    let proc = c.in-Some.declared.now in
    let found = c.in-Some.ensures.lookup in
    let there : slice_get c.args.p.now.procs c.args.proc ≡ Some proc =
    subst (λ (procs : List Proc). slice_get procs c.args.proc ≡ Some proc) c.procs.ensures
    (slice_get_read c.procs.result.now (length c.procs.result.now) c.args.proc proc refl found.3.0 found.1) in
    let frame : Frame = record { proc = c.args.proc; path = c.new.result; at = 0; env = c.in_ok-env.env; target = c.args.target } in
    entered_is c.args.p.now c.args.proc c.args.args c.args.target proc frame there refl c.new.ensures.items refl c.in_ok-env.ensures refl
