-- The slots that statements set, in the order of the text.
use Rattle.std.specs.Prelude.{ℕ, List, [], ◌∷◌, ◌++◌, map}
use Rattle.std.specs.List.{flat_map}
use Rattle.fsl_core.specs.declared.act.Act.{Act}
use Rattle.fsl_core.specs.declared.act.Stmt.{Stmt}
use Rattle.fsl_core.specs.declared.act.Act.TheOpen.{Act-F}
use Rattle.fsl_core.specs.declared.act.Act.TheFolds.{fold-Act, fold-Stmt}
use Rattle.fsl_core.specs.logic.Paths.{set_by_call}

abbrev pub Slots : Type 0
Slots = List ℕ

abbrev pub joined : List Slots → Slots
joined lists = flat_map (λ slots. slots) lists

abbrev pub sets_step : Act-F Slots Slots → Slots
sets_step (Act-F.Set slot e) = slot ∷ []
sets_step (Act-F.AllocNa slot) = slot ∷ []
sets_step (Act-F.AllocAt slot rmw inst) = slot ∷ []
sets_step (Act-F.Free at) = []
sets_step (Act-F.Load slot mode at) = slot ∷ []
sets_step (Act-F.Store mode at e) = []
sets_step (Act-F.Cas slot mode miss at old new steps) = slot ∷ []
sets_step (Act-F.Add slot mode at e steps) = slot ∷ []
sets_step (Act-F.Swap slot mode at e steps) = slot ∷ []
sets_step (Act-F.Call slot proc args) = set_by_call slot
sets_step (Act-F.Par calls) = []
sets_step (Act-F.Fence mode asrt) = []
sets_step (Act-F.If cond a b) = joined a ++ joined b
sets_step (Act-F.While cond inv body) = joined body
sets_step (Act-F.Assert cond) = []
sets_step (Act-F.Print e) = []
sets_step (Act-F.Return e) = []
sets_step (Act-F.Bank slot) = slot ∷ []
sets_step (Act-F.Step step) = []

abbrev pub act_sets : Act → Slots
act_sets = fold-Act Slots Slots sets_step (λ stmt. stmt.act)

abbrev pub stmt_sets : Stmt → Slots
stmt_sets = fold-Stmt Slots Slots sets_step (λ stmt. stmt.act)

abbrev pub stmts_set : List Stmt → Slots
stmts_set stmts = joined (map stmt_sets stmts)
