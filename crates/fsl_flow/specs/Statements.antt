-- Acts that have one rule: all but branches, loops and returns, which say themselves how a path goes on.
use Rattle.std.specs.Prelude.{Bool, true, false, [], map}
use Rattle.fsl_core.specs.declared.act.Act.{Act}
use Rattle.fsl_core.specs.declared.act.Stmt.{Stmt}
use Rattle.fsl_core.specs.declared.act.Act.TheOpen.{Act-F}
use Rattle.fsl_core.specs.declared.act.Act.TheViews.{out-Act}
use Rattle.fsl_core.specs.logic.States.{Action, Branches}
use Rattle.fsl_core.specs.logic.Terms.{expr_of}
use Rattle.fsl_core.specs.logic.Deciding.{cond_of}
use Rattle.fsl_core.specs.logic.Producing.{inst_of}
use Rattle.fsl_core.specs.logic.Assertions.{asrt_of}
use Rattle.fsl_core.specs.logic.Locations.{Setting}
use Rattle.fsl_core.specs.logic.Accesses.{alloc_na, alloc_at, load, store, free}
use Rattle.fsl_core.specs.logic.Fences.{fence}
use Rattle.fsl_core.specs.logic.Updates.{cas, fetch_add, exchange}
use Rattle.fsl_core.specs.logic.Tokens.{new_bank, step_of, token_step}
use Rattle.fsl_core.specs.logic.Calls.{call, call_of, par}
use Rattle.fsl_core.specs.logic.Paths.{set_to, assert, print}
use Rattle.fsl_chunk.specs.Went as chunks
use Rattle.fsl_asrt.specs.Branch.{branches}
use Rattle.fsl_flow.specs.declared.statements.Came.{Came}
use Rattle.fsl_flow.specs.declared.statements.Came.TheVariants as came

abbrev pub has_rule_level : Act-F Act Stmt → Bool
has_rule_level (Act-F.If cond a b) = false
has_rule_level (Act-F.While cond inv body) = false
has_rule_level (Act-F.Return e) = false
has_rule_level _ = true

abbrev pub has_rule : Act → Bool
has_rule act = has_rule_level (out-Act act)

abbrev pub rule_level : Setting → Act-F Act Stmt → Action
rule_level p (Act-F.Set slot e) = set_to slot (expr_of e)
rule_level p (Act-F.AllocNa slot) = alloc_na slot
rule_level p (Act-F.AllocAt slot rmw inst) = alloc_at p slot rmw (inst_of expr_of inst)
rule_level p (Act-F.Free at) = free (expr_of at)
rule_level p (Act-F.Load slot mode at) = load p slot mode (expr_of at)
rule_level p (Act-F.Store mode at e) = store p mode (expr_of at) (expr_of e)
rule_level p (Act-F.Cas slot mode miss at old new steps) = cas p slot mode (expr_of at) (expr_of old) (expr_of new) (map (step_of expr_of) steps)
rule_level p (Act-F.Add slot mode at e steps) = fetch_add p slot mode (expr_of at) (expr_of e) (map (step_of expr_of) steps)
rule_level p (Act-F.Swap slot mode at e steps) = exchange p slot mode (expr_of at) (expr_of e) (map (step_of expr_of) steps)
rule_level p (Act-F.Call slot proc args) = call p slot proc (map expr_of args)
rule_level p (Act-F.Par calls) = par p (map (call_of expr_of) calls)
rule_level p (Act-F.Fence mode asrt) = fence mode (asrt_of asrt)
rule_level p (Act-F.Assert cond) = assert (cond_of expr_of cond)
rule_level p (Act-F.Print e) = print (expr_of e)
rule_level p (Act-F.Bank slot) = new_bank slot
rule_level p (Act-F.Step step) = token_step (step_of expr_of step)
rule_level p _ = λ s. []

-- the rule of an act that has one
abbrev pub rule_of : Setting → Act → Action
rule_of p act = rule_level p (out-Act act)

-- what came of it
abbrev pub branches_came : Came → Branches (Unit {0})
branches_came (came.One went) = chunks.branches went
branches_came (came.Several bs) = branches bs
