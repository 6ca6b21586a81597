use Rattle.std.proofs.Common.{◌≡◌, ◌<◌, List, take, length, slice_get, get_or, rules, sym, ap, subst, ◌∙◌}
use Rattle.std.proofs.lemmas.List.{take_all}
use Rattle.fsl_core.specs.declared.act.Stmt.{Stmt}
use Rattle.fsl_moves.specs.declared.config.Entry.{Entry}
use Rattle.fsl_moves.specs.Config.{body_of, entered, left_from}
use Rattle.fsl_moves.specs.Reach.{IsFound}
use Rattle.fsl_moves.proofs.ReachLemmas.{innermost_more, around_more}
use Rattle.fsl_moves.proofs.reach.next_of.Goals as goal

pub loop-depth-preserved : goal.loop-depth-preserved
loop-depth-preserved c =
    let body = body_of (slice_get c.args.p.now.procs c.args.frame.now.proc) in
    let path = c.args.frame.now.path.items in
    let depth = c.loop-depth.depth in
    let entry = c.index-entry.result.now in
    let within : depth < length path = search rules in
    let is : entry ≡ get_or path depth entry = search rules in
    record {
      block = innermost_more body path depth entry within is ∙ ap (entered entry) c.loop-depth.invariant.block ∙ sym c.entered-block.ensures;
      next = subst (λ (left : List Stmt). IsFound body path left c.later-next.result) (sym (around_more body path depth entry within is))
          (c.later-next.ensures body path (search rules) c.loop-depth.invariant.block c.loop-depth.invariant.next);
    }

pub returns : goal.returns
returns c =
    let body = body_of (slice_get c.args.p.now.procs c.args.frame.now.proc) in
    let path = c.args.frame.now.path.items in
    let end : c.loop-depth.depth ≡ c.len.result = search rules in
    let whole : take c.len.result path ≡ path = take_all c.len.result path (search rules) in
    subst (λ (q : List Entry). IsFound body path (left_from body q c.args.frame.now.at) c.later.result) whole
    (c.later.ensures body path (search rules) (rw (← end) c.loop-depth.invariant.block) (rw (← end) c.loop-depth.invariant.next))
