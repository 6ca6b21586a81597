-- Calls that run side by side: each is started with what it requires, and when all have ended, what they ensure stands
-- beside what was left.
use Rattle.std.proofs.Common.{◌≡◌, ℕ, ◌+◌, ◌≤◌, true, List, [], ◌++◌, map, length, Option, Some, None, ℤ, refl, arith}
use Rattle.fsl_base.specs.declared.span.Span.{Span}
use Rattle.fsl_core.specs.declared.act.Called.{Called}
use Rattle.fsl_core.specs.declared.act.Stmt.{Stmt}
use Rattle.fsl_core.specs.declared.label.Ended.{Ended}
use Rattle.fsl_core.specs.declared.need.Started.{Started as Start}
use Rattle.fsl_core.specs.declared.scope.Scope.{Scope}
use Rattle.fsl_core.specs.Programs.{Program}
use Rattle.fsl_core.specs.Moves.{Frame, joining, forking, started_of}
use Rattle.fsl_core.specs.WellFormed.{is_well_formed}
use Rattle.fsl_core.specs.logic.States.{State, followed, here}
use Rattle.fsl_core.specs.logic.Terms.{expr_of}
use Rattle.fsl_core.specs.logic.Assertions.{asrt_of}
use Rattle.fsl_core.specs.logic.Locations.{setting_of}
use Rattle.fsl_core.specs.logic.Calls.{Running, call_of, with_args, start_each, join_each, par}
use Rattle.fsl_core.specs.logic.Paths.{Ends, each}
use Rattle.fsl_lin.specs.Numbers.{Numbers}
use Rattle.fsl_meaning.specs.Heaps.{Key, Heap}
use Rattle.fsl_meaning.specs.States.{All, Fits}
use Rattle.fsl_asserted.specs.Needs.{Need}
use Rattle.fsl_kept.specs.Threads.{Started, started, AllRun, all_needs, EachRequires, with_binders}
use Rattle.fsl_kept.proofs.Threads.{args_tell, starts_fit, joins_fit}
use Rattle.fsl_own.specs.Atoms.{Atom}
use Rattle.fsl_good.specs.Pieces.{together, AtPlain, Piece, all_placed, IsPossible}
use Rattle.fsl_good.specs.Good.{EachPays}
use Rattle.fsl_held.specs.Heaps.{heap_of, ground_of, Kept}
use Rattle.fsl_held.specs.Asked.{logic_of}
use Rattle.fsl_walk.specs.Stances.{AllDerived, Activation, config_of, IsGood, IsGoodMove, Stance, Matches, Runs}
use Rattle.fsl_walk.specs.Walks.{ParMoves}
use Rattle.fsl_walk.proofs.Rounds.{kept_less, kept_then, frame_fits, bounded, plus, line_plus_left, line_plus_right}
use Rattle.fsl_walk.proofs.Steps.{derived_left, each_tells, each_lands, each_followed, good_possible, good_halting}
use Rattle.fsl_derived.proofs.Passing.{EachStarted, all_started, all_owed, each_starts}
use Rattle.fsl_derived.proofs.Cutting.{CutAll, cut_all, values_of, paid_all}
use Rattle.fsl_derived.proofs.Moving.{joining_good, forking_good}

-- ---- given away

-- what the path has given to all calls: what each requires, what is left, and the branch that goes on
record Given (ks : List Started) (slots : List ℤ) (under : Heap) (at : Span) (after : Ends) (xs : List Piece) : Type 0 where
  needs : List Need
  asked : EachRequires (ground_of xs) ks needs
  runs : List Running
  state : State
  numbers : Numbers
  left : Heap
  fits : Fits slots (All (ground_of xs) left) numbers state
  are : AllRun state.next numbers runs (with_binders ks needs)
  derived : AllDerived (each at (join_each runs state) (λ x. after))
  room : (k : Key) → (left k + under k) + all_needs needs k ≤ heap_of xs k

line_parts : (h l n u x : ℕ) → h ≡ l + n → h + u ≤ x → (l + u) + n ≤ x
line_parts h l n u x e i = omega arith

-- the rule reads all arguments, and then gives every `requires` away
give_all : (p : Program) (calls : List Called) (slots : List ℤ) (under : Heap) (at : Span) (after : Ends) (xs : List Piece) (v : Numbers) (s : State) → Stance xs under slots v s
    → AllDerived (each at (par (setting_of asrt_of p) (map (call_of expr_of) calls) s) (λ x. after)) → Given (started p slots calls) slots under at after xs
give_all p calls slots under at after xs v s stance derived =
    let setting = setting_of asrt_of p in
    let reads = map (call_of expr_of) calls in
    let rest = λ (rs : List Running) (t : State). followed (start_each rs t) join_each in
    let first = derived_left (each at (followed (with_args setting reads s.env s) rest) (λ x. after)) []
    (each_followed at (λ e t. followed (with_args setting reads e t) rest) (λ x. after) (here s) derived) in
    let told = each_tells at (λ rs t. each at (rest rs t) (λ x. after)) (args_tell p calls stance.fits stance.fits.env)
    (each_followed at rest (λ x. after) (with_args setting reads s.env s) first) in
    let land = each_lands at (λ rs t. each at (join_each rs t) (λ x. after)) (starts_fit stance.fits told.is)
    (each_followed at join_each (λ x. after) (start_each told.gives s) told.derived) in
    record {
      needs = land.is.needs;
      asked = land.is.are;
      runs = land.gives;
      state = land.state;
      numbers = land.numbers;
      left = land.is.left;
      fits = land.is.fits;
      are = land.is.run;
      derived = land.derived;
      room = λ k. line_parts (stance.mine k) (land.is.left k) (all_needs land.is.needs k) (under k) (heap_of xs k) (land.is.parts k) (stance.parts k);
    }

-- ---- joined

line_self : (a : ℕ) → a ≤ a
line_self a = omega arith

line_more : (n l u r x : ℕ) → l + u ≤ r → n + r ≤ x → (n + l) + u ≤ x
line_more n l u r x i j = omega arith

line_first : (n l u r x : ℕ) → l + u ≤ r → n + r ≤ x → n + l ≤ x
line_first n l u r x i j = omega arith

-- what all of them ensure stands in front of what was left, and the statements behind the `par` go on
join : {Q : List ℤ → Type 0} {base : List Piece} {under : Heap} {slots : List ℤ}
    (u : Activation) (m : ℕ) (ks : List Started) (scope : Scope) (stmts : List Stmt) (at : Span) (after : Ends) (xs : List Piece) (env : List ℤ)
    → Runs u m after stmts scope Q base under → Kept base under xs → Matches scope env slots → Q slots
    → (g : Given ks slots under at after xs) (c : CutAll ks g.needs (plus g.left under) xs) (rs : List Ended) (yss : List (List Atom)) → EachPays (logic_of u.program) (all_owed ks g.needs) rs yss
    → (k : ℕ) → k ≤ m → IsPossible (all_placed AtPlain (together yss) ++ c.rest) → IsGood u k (config_of u stmts env) (all_placed AtPlain (together yss) ++ c.rest)
join {under = under} {slots = slots} u m ks scope stmts at after xs env runs kept matches holds g c rs yss pays k less possible =
    let new : List Piece = all_placed AtPlain (together yss) ++ c.rest in
    let paid = paid_all u.program ks g.needs rs yss c.rest pays possible in
    let stays = kept_then c.kept (kept_less (plus g.left under) (heap_of c.rest) c.enough paid.kept) in
    let fit = frame_fits g.left (kept_less g.left (plus g.left under) (λ i. line_plus_left (g.left i) (under i)) stays) g.fits in
    let more : Heap = plus (all_needs paid.needs) g.left in
    let room = bounded new more possible (λ i. line_first (all_needs paid.needs i) (g.left i) (under i) (heap_of c.rest i) (heap_of new i) (c.enough i) (paid.room i)) in
    let land = each_lands at (λ x. after) (joins_fit (values_of rs) paid.needs more fit g.are paid.ensures (λ i. line_self (more i)) room) g.derived in
    let parts = λ (i : Key). line_more (all_needs paid.needs i) (g.left i) (under i) (heap_of c.rest i) (heap_of new i) (c.enough i) (paid.room i) in
    runs k less new slots env land.numbers land.state (kept_then kept (kept_less under (plus g.left under) (λ i. line_plus_right (g.left i) (under i)) stays))
    (record { mine = more; fits = land.is; parts = parts }) matches holds land.derived

-- ---- started

-- the frame that waits
abbrev waiting : Activation → List Stmt → List ℤ → Frame
waiting u stmts env = record { stmts = stmts; env = env; target = u.target }

fork : {Q : List ℤ → Type 0} {base : List Piece} {under : Heap} {slots : List ℤ}
    (u : Activation) (m : ℕ) (calls : List Called) (scope : Scope) (stmts : List Stmt) (after : Ends) (at : Span) (xs : List Piece) (env : List ℤ) → IsPossible xs
    → Runs u m after stmts scope Q base under → Kept base under xs → Matches scope env slots → Q slots → Given (started u.program slots calls) slots under at after xs
    → ((ds : List Start) → started_of u.program calls env ≡ Some ds → EachStarted u.program ds (started u.program slots calls)) → (o : Option (List Start)) → started_of u.program calls env ≡ o
    → IsGoodMove u m (forking o (λ first. joining first (length calls) (waiting u stmts env) u.below)) xs
fork u m calls scope stmts after at xs env possible runs kept matches holds g starts None is = good_halting u m xs
fork {under = under} {slots = slots} u m calls scope stmts after at xs env possible runs kept matches holds g starts (Some ds) is =
    let ks = started u.program slots calls in
    let c = cut_all u.program ds ks g.needs (plus g.left under) xs (starts ds is) possible g.asked g.room in
    let owed = all_owed ks g.needs in
    forking_good u m ds (λ first. joining first (length calls) (waiting u stmts env) u.below) xs (λ first. record {
      owed = owed;
      atoms = c.atoms;
      rest = c.rest;
      gives = c.gives;
      starts = each_starts u.program ds ks g.needs c.atoms (starts ds is) c.satisfied;
      next = joining_good (logic_of u.program) u.program u.debt m first (length calls) (waiting u stmts env) u.below owed c.rest
          (λ k less rs yss pays. good_possible u k (config_of u stmts env) (all_placed AtPlain (together yss) ++ c.rest) (λ e. absurd (cc))
          (join u m ks scope stmts at after xs env runs kept matches holds g c rs yss pays k less));
    })

pub par_moves : (u : Activation) → is_well_formed u.program ≡ true → (m : ℕ) → ParMoves u m
par_moves u well m calls stmt scope rest after Q base under at passed outside fits runs xs slots env v s possible kept stance matches holds derived =
    fork u m calls scope rest after at xs env possible runs kept matches holds (give_all u.program calls slots under at after xs v s stance derived)
    (λ ds is. all_started u.program scope env slots calls ds well outside matches.sees passed fits is) (started_of u.program calls env) refl
