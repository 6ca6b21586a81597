-- A program may be shared by threads: its types one after the other, since a `search` that goes down through all of
-- them at once runs out of steps.
use denote.Param.Send.{IsSync, sendable}
use Rattle.fsl_base.proofs.list.List.TheSendSync.{the_sync as list_sync}
use Rattle.fsl_base.proofs.boxed.Boxed.TheSendSync.{the_sync as boxed_sync}
use Rattle.fsl_base.proofs.text.Text.TheSendSync.{the_sync as text_sync}
use Rattle.fsl_base.proofs.span.Span.TheSendSync.{the_field_sync as span_sync}
use Rattle.fsl_core.proofs.assertion.Asrt.TheLaws.TheKnot.{sync-Asrt}
use Rattle.fsl_core.proofs.act.Act.TheLaws.TheKnot.{sync-Stmt}
use Rattle.fsl_core.proofs.expr.Expr.TheLaws.TheKnot.{sync-Expr}
use Rattle.fsl_core.specs.contracts.declaration.Inv as Inv
use Rattle.fsl_core.specs.contracts.declaration.Proc as Proc
use Rattle.fsl_core.specs.contracts.program.Program as Program
use Rattle.fsl_core.specs.contracts.assertion.Asrt as Asrt
use Rattle.fsl_core.specs.contracts.assertion.Inst as Inst
use Rattle.fsl_core.specs.contracts.act.Called as Called
use Rattle.fsl_core.specs.contracts.act.Step as Step
use Rattle.fsl_core.specs.contracts.act.Stmt as Stmt
use Rattle.fsl_core.specs.contracts.expr.Cond as Cond
use Rattle.fsl_core.specs.contracts.expr.Expr as Expr

expr_sync : IsSync Expr.the_field.row
expr_sync = search (sendable, sync-Expr, list_sync, boxed_sync) depth 20

cond_sync : IsSync Cond.the_field.row
cond_sync = let e = expr_sync in search sendable depth 20

inst_sync : IsSync Inst.the_field.row
inst_sync = let e = expr_sync in search (sendable, list_sync) depth 20

asrt_sync : IsSync Asrt.the_field.row
asrt_sync = let e = expr_sync in let c = cond_sync in let i = inst_sync in search (sendable, sync-Asrt, list_sync, boxed_sync) depth 20

called_sync : IsSync Called.the_field.row
called_sync = let e = expr_sync in search (sendable, list_sync) depth 20

step_sync : IsSync Step.the_field.row
step_sync = let e = expr_sync in search sendable depth 20

stmt_sync : IsSync Stmt.the_field.row
stmt_sync =
    let e = expr_sync in let c = cond_sync in let i = inst_sync in let a = asrt_sync in let d = called_sync in let t = step_sync in
    search (sendable, sync-Stmt, list_sync, span_sync) depth 20

inv_sync : IsSync Inv.the_field.row
inv_sync = let a = asrt_sync in search (sendable, list_sync, text_sync) depth 20

proc_sync : IsSync Proc.the_field.row
proc_sync = let a = asrt_sync in let s = stmt_sync in search (sendable, list_sync, text_sync, span_sync) depth 20

pub program_sync : IsSync Program.the_field.row
program_sync = let i = inv_sync in let p = proc_sync in search (sendable, list_sync) depth 20
