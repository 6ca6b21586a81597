-- The example graphs: where happens-before leads, edge by edge, and where it doesn't, by a part of the graph that
-- is closed.
use Rattle.std.proofs.Common.{◌≡◌, ◌<◌, ℕ, true, false, inl, List, [], ◌∷◌, pos, refl, arith}
use Rattle.fsl_core.specs.declared.label.Label.TheVariants as label
use Rattle.fsl_core.specs.declared.mode.Mode.TheVariants as mode
use Rattle.fsl_graph.specs.declared.event.Event.{Event}
use Rattle.fsl_graph.specs.declared.graph.Graph.{Graph}
use Rattle.fsl_graph.specs.Events.{Is}
use Rattle.fsl_graph.specs.Sequenced.{Edge, Po}
use Rattle.fsl_graph.specs.Sequenced.Path.{one, more}
use Rattle.fsl_graph.specs.Happens.{Hb, HbEdge}
use Rattle.fsl_graph.specs.Happens.HbEdge.{by_sb, by_sw}
use Rattle.fsl_graph.specs.Happens.InSequence.{head, next}
use Rattle.fsl_graph.specs.Happens.ReleasePoint.{at_write, at_fence as release_fence}
use Rattle.fsl_graph.specs.Happens.AcquirePoint.{at_read, at_fence as acquire_fence}
use Rattle.fsl_graph.specs.Edges.{is_in, sb_edge, edge}
use Rattle.fsl_graph.specs.Graphs.{message_passing, relaxed_passing, fenced_passing, sequence_passing, fork_join, store_buffering, load_buffering, load, store, does, reads}
use Rattle.fsl_graph.specs.Shapes.{ShapesPossible, CycleHasNoOrder, MessagePassed, FencesPass, SequencePasses, RelaxedRaces, ForkPasses, JoinPasses, BuffersApart}
use Rattle.fsl_graph.proofs.Paths.{closed_path}
use Rattle.fsl_graph.proofs.Along.{closed_under_hb}
use Rattle.fsl_graph.proofs.Edges.{sb_edges_decided, edges_decided, is_in_true, not_in}
use Rattle.fsl_graph.proofs.Acquiring.{along_sb}
use Rattle.fsl_graph.proofs.Possible.{possible, consistent_by_sb}
use Rattle.fsl_graph.proofs.Forward.{ordered_is_acyclic}
use Rattle.fsl_graph.proofs.Closure.{closes, edges_closed, sb_closed}

-- an edge of sequenced-before that the test finds
sb : (g : Graph) (a b : ℕ) → sb_edge g a b ≡ true → HbEdge g a b
sb g a b h = by_sb ((sb_edges_decided g a b).0 h)

pub message_passed : MessagePassed
message_passed = more {b = 5} (sb message_passing 4 5 refl) (more {b = 6} (by_sw (record {
  write = 5;
  source = 5;
  read = 6;
  release = at_write (record { event = does 1 (store mode.Rel 2 1); is = refl; writes = refl }) refl refl;
  sequence = head;
  reads = record { reader = reads 2 (load mode.Acq 2 1) 5; is = refl; source = refl };
  acquire = at_read (record { event = reads 2 (load mode.Acq 2 1) 5; is = refl; reads = refl }) refl refl;
})) (one (sb message_passing 6 7 refl)))

po : (g : Graph) (a b : ℕ) (x y : Event) → Is g a x → Is g b y → x.thread ≡ y.thread → a < b → Po g a b
po g a b x y p q s l = record { earlier = x; later = y; is_earlier = p; is_later = q; thread = s; before = l }

pub fences_pass : FencesPass
fences_pass = more {b = 5} (sb fenced_passing 4 5 refl) (more {b = 8} (by_sw (record {
  write = 6;
  source = 6;
  read = 7;
  release = release_fence (record { event = does 1 (store mode.Rlx 2 1); is = refl; writes = refl }) refl
      (record { event = does 1 (label.Fence mode.Rel); is = refl; fences = refl }) refl
      (po fenced_passing 5 6 (does 1 (label.Fence mode.Rel)) (does 1 (store mode.Rlx 2 1)) refl refl refl (omega arith));
  sequence = head;
  reads = record { reader = reads 2 (load mode.Rlx 2 1) 6; is = refl; source = refl };
  acquire = acquire_fence (record { event = reads 2 (load mode.Rlx 2 1) 6; is = refl; reads = refl }) refl
      (record { event = does 2 (label.Fence mode.Acq); is = refl; fences = refl }) refl
      (po fenced_passing 7 8 (reads 2 (load mode.Rlx 2 1) 6) (does 2 (label.Fence mode.Acq)) refl refl refl (omega arith));
})) (one (sb fenced_passing 8 9 refl)))

pub sequence_passes : SequencePasses
sequence_passes = more {b = 5} (sb sequence_passing 4 5 refl) (more {b = 7} (by_sw (record {
  write = 5;
  source = 6;
  read = 7;
  release = at_write (record { event = does 1 (store mode.Rel 2 1); is = refl; writes = refl }) refl refl;
  sequence = next {m = mode.Rlx} {l = pos 2} {old = pos 1} {new = pos 2} head
      (record { reader = reads 2 (label.Rmw mode.Rlx (pos 2) (pos 1) (pos 2)) 5; is = refl; source = refl })
      (record { event = reads 2 (label.Rmw mode.Rlx (pos 2) (pos 1) (pos 2)) 5; is = refl; updates = refl });
  reads = record { reader = reads 3 (load mode.Acq 2 2) 6; is = refl; source = refl };
  acquire = at_read (record { event = reads 3 (load mode.Acq 2 2) 6; is = refl; reads = refl }) refl refl;
})) (one (sb sequence_passing 7 8 refl)))

pub fork_passes : ForkPasses
fork_passes = more {b = 2} (sb fork_join 1 2 refl) (one (sb fork_join 2 3 refl))

pub join_passes : JoinPasses
join_passes = more {b = 5} (sb fork_join 4 5 refl) (more {b = 6} (sb fork_join 5 6 refl) (one (sb fork_join 6 7 refl)))

-- ---- where it doesn't lead: out of a part that is closed

buffer_apart : (part : List ℕ) → closes (edge store_buffering) 9 part ≡ true → (a b : ℕ) → is_in b part ≡ true → is_in a part ≡ false → Hb store_buffering a b → ⊥
buffer_apart part c a b i n h =
    not_in a part n (closed_under_hb store_buffering part (edges_closed store_buffering part refl c) a b h (is_in_true b part i))

pub buffers_apart : BuffersApart
buffers_apart = (buffer_apart (0 ∷ 1 ∷ 2 ∷ 3 ∷ 4 ∷ 7 ∷ 8 ∷ []) refl 5 8 refl refl, buffer_apart (0 ∷ 1 ∷ 2 ∷ 3 ∷ 4 ∷ 5 ∷ 6 ∷ []) refl 7 6 refl refl)

relaxed_apart : (part : List ℕ) → closes (sb_edge relaxed_passing) 8 part ≡ true → (a b : ℕ) → is_in b part ≡ true → is_in a part ≡ false → Hb relaxed_passing a b → ⊥
relaxed_apart part c a b i n h =
    not_in a part n (closed_path part (sb_closed relaxed_passing part c) a b (along_sb relaxed_passing refl a b h) (is_in_true b part i))

pub relaxed_races : RelaxedRaces
relaxed_races = record {
  x = does 1 (store mode.Na 1 42);
  y = reads 2 (load mode.Na 1 42) 4;
  loc = pos 1;
  a_atomic = false;
  b_atomic = false;
  a_changes = true;
  b_changes = false;
  accesses = record { is = refl; accesses = refl };
  other = record { is = refl; accesses = refl };
  threads = λ e. absurd (omega arith);
  changes = inl refl;
  plain = inl refl;
  unordered = relaxed_apart (0 ∷ 1 ∷ 2 ∷ 3 ∷ 6 ∷ 7 ∷ []) refl 4 7 refl refl;
  unordered_back = relaxed_apart (0 ∷ 1 ∷ 2 ∷ 3 ∷ 4 ∷ []) refl 7 4 refl refl;
}

pub shapes_possible : ShapesPossible
shapes_possible = (
  possible message_passing refl,
  possible relaxed_passing refl,
  possible fenced_passing refl,
  possible sequence_passing refl,
  possible fork_join refl,
  possible store_buffering refl,
)

-- an edge that the test finds
edge_of : (g : Graph) (a b : ℕ) → edge g a b ≡ true → Edge g a b
edge_of g a b h = (edges_decided g a b).0 h

pub cycle_has_no_order : CycleHasNoOrder
cycle_has_no_order = (
  consistent_by_sb load_buffering refl refl,
  λ order f. ordered_is_acyclic load_buffering order f 5 (more {b = 6} (edge_of load_buffering 5 6 refl) (more {b = 7} (edge_of load_buffering 6 7 refl)
      (more {b = 8} (edge_of load_buffering 7 8 refl) (one (edge_of load_buffering 8 5 refl))))),
)
