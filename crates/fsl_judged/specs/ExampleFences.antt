-- Programs with relaxed accesses and fences.
use Rattle.std.specs.Prelude.{false, [], ◌∷◌, codes}
use Rattle.fsl_core.specs.declared.act.Act.TheOpen.{Act-F}
use Rattle.fsl_core.specs.declared.assertion.Pat.TheVariants as pat
use Rattle.fsl_core.specs.declared.mode.Mode.TheVariants as mode
use Rattle.fsl_core.specs.Programs.{Program}
use Rattle.fsl_judged.specs.Words.{num, var, all_shares, equal, unequal, inst, nothing, points, init, rel, acq, choice, down, both, span, at, thread, inv, proc, program}

-- The store is relaxed, and no release fence stands before it.
--   inv Flag(d) of v { if (v == 0) { emp } else { d |-> 7 } }
--   proc send(a, d) requires (Rel(a, Flag(d)) &*& d |-> _) {
--     store na(d, 7);
--     store rlx(a, 1);
--   }
--   proc recv(a, d) requires (Init(a) &*& Acq(a, Flag(d), 0, {})) {
--     let r = load acq(a);
--     while (r == 0) inv (Init(a) &*& if (r == 0) { Acq(a, Flag(d), 0, {0}) } else { d |-> 7 }) {
--       r = load acq(a);
--     }
--     let x = load na(d);
--     assert (x == 7);
--   }
--   proc main() {
--     let d = alloc na;
--     let a = alloc acq Flag(d);
--     store rel(a, 0);
--     par { send(a, d); recv(a, d); }
--   }
abbrev pub relaxed_store : Program
relaxed_store = program (inv (codes "Flag") 1 2 (choice (equal (var 1) (num 0)) nothing (points (var 0) all_shares (pat.Is (num 7))) ∷ []) ∷ []) (
    proc (codes "send") 2 2 []
    (both (rel (var 0) (inst 0 (var 1 ∷ [])) ∷ points (var 1) all_shares pat.Any ∷ []))
    nothing
    (
    at 117 132 (Act-F.Store mode.Na (var 1) (num 7)) ∷
    at 135 151 (Act-F.Store mode.Rlx (var 0) (num 1)) ∷ [])
    (span 152 153) ∷
    proc (codes "recv") 2 4 []
    (both (init (var 0) ∷ acq (var 0) (inst 0 (var 1 ∷ [])) 0 [] ∷ []))
    nothing
    (
    at 220 240 (Act-F.Load 2 mode.Acq (var 0)) ∷
    at 243 359 (Act-F.While (equal (var 2) (num 0)) (both (init (var 0) ∷ choice (equal (var 2) (num 0)) (acq (var 0) (inst 0 (var 1 ∷ [])) 0 (num 0 ∷ [])) (points (var 1) all_shares (pat.Is (num 7))) ∷ [])) (
    at 339 355 (Act-F.Load 2 mode.Acq (var 0)) ∷ [])) ∷
    at 362 381 (Act-F.Load 3 mode.Na (var 1)) ∷
    at 384 400 (Act-F.Assert (equal (var 3) (num 7))) ∷ [])
    (span 401 402) ∷
    proc (codes "main") 0 2 []
    nothing
    nothing
    (
    at 419 436 (Act-F.AllocNa 0) ∷
    at 439 465 (Act-F.AllocAt 1 false (inst 0 (var 0 ∷ []))) ∷
    at 468 484 (Act-F.Store mode.Rel (var 1) (num 0)) ∷
    at 487 518 (Act-F.Par (thread 0 (var 1 ∷ var 0 ∷ []) ∷ thread 1 (var 1 ∷ var 0 ∷ []) ∷ [])) ∷ [])
    (span 519 520) ∷
    [])

-- The load is relaxed, and no acquire fence stands behind it.
--   inv Flag(d) of v { if (v == 0) { emp } else { d |-> 7 } }
--   proc send(a, d) requires (Rel(a, Flag(d)) &*& d |-> _) {
--     store na(d, 7);
--     fence rel (d |-> 7); store rlx(a, 1);
--   }
--   proc recv(a, d) requires (Init(a) &*& Acq(a, Flag(d), 0, {})) {
--     let r = load rlx(a);
--     while (r == 0) inv (Init(a) &*& if (r == 0) { Acq(a, Flag(d), 0, {0}) } else { down(d |-> 7) }) {
--       r = load rlx(a);
--     }
--     let x = load na(d);
--     assert (x == 7);
--   }
--   proc main() {
--     let d = alloc na;
--     let a = alloc acq Flag(d);
--     store rel(a, 0);
--     par { send(a, d); recv(a, d); }
--   }
abbrev pub no_acquire_fence : Program
no_acquire_fence = program (inv (codes "Flag") 1 2 (choice (equal (var 1) (num 0)) nothing (points (var 0) all_shares (pat.Is (num 7))) ∷ []) ∷ []) (
    proc (codes "send") 2 2 []
    (both (rel (var 0) (inst 0 (var 1 ∷ [])) ∷ points (var 1) all_shares pat.Any ∷ []))
    nothing
    (
    at 117 132 (Act-F.Store mode.Na (var 1) (num 7)) ∷
    at 135 155 (Act-F.Fence mode.Rel (points (var 1) all_shares (pat.Is (num 7)))) ∷
    at 156 172 (Act-F.Store mode.Rlx (var 0) (num 1)) ∷ [])
    (span 173 174) ∷
    proc (codes "recv") 2 4 []
    (both (init (var 0) ∷ acq (var 0) (inst 0 (var 1 ∷ [])) 0 [] ∷ []))
    nothing
    (
    at 241 261 (Act-F.Load 2 mode.Rlx (var 0)) ∷
    at 264 386 (Act-F.While (equal (var 2) (num 0)) (both (init (var 0) ∷ choice (equal (var 2) (num 0)) (acq (var 0) (inst 0 (var 1 ∷ [])) 0 (num 0 ∷ [])) (down (points (var 1) all_shares (pat.Is (num 7)))) ∷ [])) (
    at 366 382 (Act-F.Load 2 mode.Rlx (var 0)) ∷ [])) ∷
    at 389 408 (Act-F.Load 3 mode.Na (var 1)) ∷
    at 411 427 (Act-F.Assert (equal (var 3) (num 7))) ∷ [])
    (span 428 429) ∷
    proc (codes "main") 0 2 []
    nothing
    nothing
    (
    at 446 463 (Act-F.AllocNa 0) ∷
    at 466 492 (Act-F.AllocAt 1 false (inst 0 (var 0 ∷ []))) ∷
    at 495 511 (Act-F.Store mode.Rel (var 1) (num 0)) ∷
    at 514 545 (Act-F.Par (thread 0 (var 1 ∷ var 0 ∷ []) ∷ thread 1 (var 1 ∷ var 0 ∷ []) ∷ [])) ∷ [])
    (span 546 547) ∷
    [])

-- A release fence produces its assertion anew, so what its binder was is forgotten.
--   inv F(d) of v { d |-> 7 }
--   proc f(a, d) requires (Rel(a, F(d)) &*& d |-> 7) { fence rel (d |-> ?x); store rlx(a, 1); }
--   proc main() { }
abbrev pub binder_anew : Program
binder_anew = program (inv (codes "F") 1 2 (points (var 0) all_shares (pat.Is (num 7)) ∷ []) ∷ []) (
    proc (codes "f") 2 3 []
    (both (rel (var 0) (inst 0 (var 1 ∷ [])) ∷ points (var 1) all_shares (pat.Is (num 7)) ∷ []))
    nothing
    (
    at 77 98 (Act-F.Fence mode.Rel (points (var 1) all_shares (pat.Bind 2))) ∷
    at 99 115 (Act-F.Store mode.Rlx (var 0) (num 1)) ∷ [])
    (span 116 117) ∷
    proc (codes "main") 0 0 []
    nothing
    nothing
    []
    (span 132 133) ∷
    [])

-- A cell is handed over by two fences and relaxed accesses.
--   inv Flag(d) of v { if (v == 0) { emp } else { d |-> 7 } }
--   proc send(a, d) requires (Rel(a, Flag(d)) &*& d |-> _) {
--     store na(d, 7);
--     fence rel (d |-> 7);
--     store rlx(a, 1);
--   }
--   proc receive(a, d) requires (Init(a) &*& Acq(a, Flag(d), 0, {})) {
--     let r = load rlx(a);
--     if (r != 0) {
--       fence acq;
--       let x = load na(d);
--       assert (x == 7);
--     }
--   }
--   proc main() { }
abbrev pub by_fences : Program
by_fences = program (inv (codes "Flag") 1 2 (choice (equal (var 1) (num 0)) nothing (points (var 0) all_shares (pat.Is (num 7))) ∷ []) ∷ []) (
    proc (codes "send") 2 2 []
    (both (rel (var 0) (inst 0 (var 1 ∷ [])) ∷ points (var 1) all_shares pat.Any ∷ []))
    nothing
    (
    at 117 132 (Act-F.Store mode.Na (var 1) (num 7)) ∷
    at 135 155 (Act-F.Fence mode.Rel (points (var 1) all_shares (pat.Is (num 7)))) ∷
    at 158 174 (Act-F.Store mode.Rlx (var 0) (num 1)) ∷ [])
    (span 175 176) ∷
    proc (codes "receive") 2 4 []
    (both (init (var 0) ∷ acq (var 0) (inst 0 (var 1 ∷ [])) 0 [] ∷ []))
    nothing
    (
    at 246 266 (Act-F.Load 2 mode.Rlx (var 0)) ∷
    at 269 346 (Act-F.If (unequal (var 2) (num 0)) (
    at 287 297 (Act-F.Fence mode.Acq nothing) ∷
    at 302 321 (Act-F.Load 3 mode.Na (var 1)) ∷
    at 326 342 (Act-F.Assert (equal (var 3) (num 7))) ∷ []) []) ∷ [])
    (span 347 348) ∷
    proc (codes "main") 0 0 []
    nothing
    nothing
    []
    (span 363 364) ∷
    [])
