-- The theorem on accepted programs speaks of something: a program that the rules accept, and a whole execution of it.
use Rattle.std.specs.Prelude.{ℕ, ◌≡◌, true, List, [], ◌∷◌, codes, pos, ℤ}
use Rattle.fsl_core.specs.declared.act.Act.TheOpen.{Act-F}
use Rattle.fsl_core.specs.declared.act.Called.{Called}
use Rattle.fsl_core.specs.declared.act.Stmt.{Stmt}
use Rattle.fsl_core.specs.declared.assertion.Asrt.{Asrt}
use Rattle.fsl_core.specs.declared.assertion.Pat.TheVariants as pat
use Rattle.fsl_core.specs.declared.declaration.Inv.{Inv}
use Rattle.fsl_core.specs.declared.declaration.Proc.{Proc}
use Rattle.fsl_core.specs.declared.label.Label.TheVariants as label
use Rattle.fsl_core.specs.declared.mode.AllocKind.TheVariants as kind
use Rattle.fsl_core.specs.declared.mode.Mode.{Mode}
use Rattle.fsl_core.specs.declared.mode.Mode.TheVariants as mode
use Rattle.fsl_core.specs.declared.verdict.Verdict.TheVariants.{Accepted}
use Rattle.fsl_core.specs.Programs.{Program}
use Rattle.fsl_core.specs.WellFormed.{is_well_formed}
use Rattle.fsl_core.specs.logic.Verdicts.{verdict_of}
use Rattle.fsl_graph.specs.declared.event.Event.{Event}
use Rattle.fsl_graph.specs.declared.graph.Graph.{Graph}
use Rattle.fsl_graph.specs.Consistent.{IsConsistent}
use Rattle.fsl_graph.specs.Events.{Is, Reads, Writes}
use Rattle.fsl_graph.specs.Execution.{IsExecution}
use Rattle.fsl_graph.specs.Graphs.{does, reads, load, store, order}
use Rattle.fsl_graph.specs.Happens.{Hb}
use Rattle.fsl_graph.specs.Safe.{IsFreed}
use Rattle.fsl_graph.specs.Sequenced.{IsAcyclic, Rf}
use Rattle.fsl_graph_examples.specs.Executions.{runs, all_returned}
use Rattle.fsl_judged.specs.Words.{num, var, all_shares, equal, unequal, inst, nothing, points, init, rel, rmw_acq, choice, both, span, at, thread as calls, inv, proc, program}

-- ---- the program

-- A box that is full hands a cell over to whoever empties it by an exchange, and who frees it then.
--   inv Box(d) of v { if (v == 0) { emp } else { d |-> 7 } }
--   proc give(b, d) requires (Rel(b, Box(d)) &*& d |-> _) {
--     store na(d, 7);
--     store rel(b, 1);
--   }
--   proc take(b, d) requires (Init(b) &*& Rel(b, Box(d)) &*& RmwAcq(b, Box(d))) {
--     let o = exchange acq(b, 0);
--     if (o != 0) { let x = load na(d); free(d); }
--   }
--   proc main() {
--     let d = alloc na;
--     let b = alloc rmw Box(d);
--     store rel(b, 0);
--     par { give(b, d); take(b, d); }
--   }
abbrev pub cell_if_full : Asrt
cell_if_full = choice (equal (var 1) (num 0)) nothing (points (var 0) all_shares (pat.Is (num 7)))

abbrev pub box : Inv
box = inv (codes "Box") 1 2 (cell_if_full ∷ [])

abbrev pub giving : List Stmt
giving = at 115 130 (Act-F.Store mode.Na (var 1) (num 7)) ∷ at 133 149 (Act-F.Store mode.Rel (var 0) (num 1)) ∷ []

abbrev pub looking : List Stmt
looking = at 276 295 (Act-F.Load 3 mode.Na (var 1)) ∷ at 296 304 (Act-F.Free (var 1)) ∷ []

abbrev pub emptying : List Stmt
emptying = at 232 259 (Act-F.Swap 2 mode.Acq (var 0) (num 0) []) ∷ at 262 306 (Act-F.If (unequal (var 2) (num 0)) looking []) ∷ []

abbrev pub both_called : List Called
both_called = calls 0 (var 1 ∷ var 0 ∷ []) ∷ calls 1 (var 1 ∷ var 0 ∷ []) ∷ []

abbrev pub starting : List Stmt
starting =
    at 325 342 (Act-F.AllocNa 0)
    ∷ at 345 370 (Act-F.AllocAt 1 true (inst 0 (var 0 ∷ [])))
    ∷ at 373 389 (Act-F.Store mode.Rel (var 1) (num 0))
    ∷ at 392 423 (Act-F.Par both_called) ∷ []

abbrev pub give_needs : Asrt
give_needs = both (rel (var 0) (inst 0 (var 1 ∷ [])) ∷ points (var 1) all_shares pat.Any ∷ [])

abbrev pub take_needs : Asrt
take_needs = both (init (var 0) ∷ rel (var 0) (inst 0 (var 1 ∷ [])) ∷ rmw_acq (var 0) (inst 0 (var 1 ∷ [])) ∷ [])

abbrev pub give : Proc
give = proc (codes "give") 2 2 [] give_needs nothing giving (span 150 151)

abbrev pub take : Proc
take = proc (codes "take") 2 4 [] take_needs nothing emptying (span 307 308)

abbrev pub main : Proc
main = proc (codes "main") 0 2 [] nothing nothing starting (span 424 425)

abbrev pub taking : Program
taking = program (box ∷ []) (give ∷ take ∷ main ∷ [])

-- ---- an execution of it

-- the cell is 1 and the box 2; the box was full when it was emptied
abbrev pub taken : Graph
taken = record {
  threads = runs 2 [] 6 ∷ runs 0 (2 ∷ 1 ∷ []) 3 ∷ runs 1 (2 ∷ 1 ∷ []) 5 ∷ [];
  events = does 0 (label.Alloc kind.Na (pos 1)) ∷ does 0 (label.Alloc kind.Rmw (pos 2))
      ∷ does 0 (store mode.Rel 2 0) ∷ does 0 (label.Fork (1 ∷ 2 ∷ []))
      ∷ does 1 (store mode.Na 1 7) ∷ does 1 (store mode.Rel 2 1) ∷ does 1 (label.End (pos 0))
      ∷ reads 2 (label.Rmw mode.Acq (pos 2) (pos 1) (pos 0)) 5 ∷ reads 2 (load mode.Na 1 7) 4 ∷ does 2 (label.Free (pos 1)) ∷ does 2 (label.End (pos 0))
      ∷ does 0 (label.Join (record { thread = 1; value = pos 0 } ∷ record { thread = 2; value = pos 0 } ∷ []))
      ∷ does 0 (label.End (pos 0)) ∷ [];
  mo = order 1 (4 ∷ []) ∷ order 2 (2 ∷ 5 ∷ 7 ∷ []) ∷ [];
}

-- event r is a read-modify-write that reads what event w of another thread wrote
pub record UpdatesOther (g : Graph) (w r : ℕ) : Type 0 where
  pub writer : Event
  pub reader : Event
  pub is_writer : Is g w writer
  pub is_reader : Is g r reader
  pub mode : Mode
  pub loc : ℤ
  pub old : ℤ
  pub new : ℤ
  pub updates : reader.label ≡ label.Rmw mode loc old new
  pub source : Rf g w r
  pub threads : writer.thread ≡ reader.thread → ⊥

-- what is supposed of a program and of an execution is so of these; and the cell is stored by one thread, and loaded and
-- freed by the other, in this order because the exchange reads the release store
pub record TheoremApplies : Type 0 where
  pub well_formed : is_well_formed taking ≡ true
  pub accepted : verdict_of taking ≡ Accepted 3
  pub execution : IsExecution taking taken all_returned
  pub consistent : IsConsistent taken
  pub acyclic : IsAcyclic taken
  pub exchanged : UpdatesOther taken 5 7
  pub stored : Writes taken 4 mode.Na (pos 1) (pos 7)
  pub loaded : Reads taken 8 mode.Na (pos 1) (pos 7)
  pub ordered : Hb taken 4 8
  pub freed : IsFreed taken 9 (pos 1)
