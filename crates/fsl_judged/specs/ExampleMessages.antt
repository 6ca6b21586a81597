-- Programs with release stores and acquire loads.
use Rattle.std.specs.Prelude.{false, [], ◌∷◌, codes}
use Rattle.fsl_core.specs.declared.act.Act.TheOpen.{Act-F}
use Rattle.fsl_core.specs.declared.assertion.Pat.TheVariants as pat
use Rattle.fsl_core.specs.declared.mode.Mode.TheVariants as mode
use Rattle.fsl_core.specs.Programs.{Program}
use Rattle.fsl_judged.specs.Words.{num, var, all_shares, equal, unequal, inst, nothing, fact, points, init, rel, acq, choice, both, span, at, thread, inv, proc, program}

-- A location is read that may not have been written.
--   proc f(a) { let x = load acq(a); }
--   proc main() { }
abbrev pub not_written : Program
not_written = program [] (
    proc (codes "f") 1 2 []
    nothing
    nothing
    (
    at 12 32 (Act-F.Load 1 mode.Acq (var 0)) ∷ [])
    (span 33 34) ∷
    proc (codes "main") 0 0 []
    nothing
    nothing
    []
    (span 49 50) ∷
    [])

-- A location is written without leave.
--   proc f(a) requires (Init(a)) { store rel(a, 1); }
--   proc main() { }
abbrev pub no_leave : Program
no_leave = program [] (
    proc (codes "f") 1 1 []
    (init (var 0))
    nothing
    (
    at 31 47 (Act-F.Store mode.Rel (var 0) (num 1)) ∷ [])
    (span 48 49) ∷
    proc (codes "main") 0 0 []
    nothing
    nothing
    []
    (span 64 65) ∷
    [])

-- A value is written for which the invariant is not proved.
--   inv E(x) of v { v == x }
--   proc f(a, x) requires (Rel(a, E(x))) { store rel(a, 1); }
--   proc main() { }
abbrev pub wrong_value : Program
wrong_value = program (inv (codes "E") 1 2 (fact (equal (var 1) (var 0)) ∷ []) ∷ []) (
    proc (codes "f") 2 2 []
    (rel (var 0) (inst 0 (var 1 ∷ [])))
    nothing
    (
    at 64 80 (Act-F.Store mode.Rel (var 0) (num 1)) ∷ [])
    (span 81 82) ∷
    proc (codes "main") 0 0 []
    nothing
    nothing
    []
    (span 97 98) ∷
    [])

-- A permission excludes a value that `ensures` does not.
--   inv A() of v { emp }
--   proc f(a) requires (Acq(a, A(), 0, {1})) ensures (Acq(a, A(), 0, {})) { }
--   proc main() { }
abbrev pub one_part_only : Program
one_part_only = program (inv (codes "A") 0 1 (nothing ∷ []) ∷ []) (
    proc (codes "f") 1 1 []
    (acq (var 0) (inst 0 []) 0 (num 1 ∷ []))
    (acq (var 0) (inst 0 []) 0 [])
    []
    (span 93 94) ∷
    proc (codes "main") 0 0 []
    nothing
    nothing
    []
    (span 109 110) ∷
    [])

-- A value that is read again gives nothing.
--   inv Flag(d) of v { if (v == 0) { emp } else { d |-> 7 } }
--   proc recv(a, b, d) requires (Init(a) &*& Acq(a, Flag(d), 0, {0}) &*& Rel(b, Flag(d))) {
--     let r = load acq(a);
--     if (r == 1) {
--       store rel(b, 1);
--       let s = load acq(a);
--       if (s == 1) { store na(d, 8); }
--     }
--   }
--   proc main() { }
abbrev pub read_twice : Program
read_twice = program (inv (codes "Flag") 1 2 (choice (equal (var 1) (num 0)) nothing (points (var 0) all_shares (pat.Is (num 7))) ∷ []) ∷ []) (
    proc (codes "recv") 3 5 []
    (both (init (var 0) ∷ acq (var 0) (inst 0 (var 2 ∷ [])) 0 (num 0 ∷ []) ∷ rel (var 1) (inst 0 (var 2 ∷ [])) ∷ []))
    nothing
    (
    at 148 168 (Act-F.Load 3 mode.Acq (var 0)) ∷
    at 171 270 (Act-F.If (equal (var 3) (num 1)) (
    at 189 205 (Act-F.Store mode.Rel (var 1) (num 1)) ∷
    at 210 230 (Act-F.Load 4 mode.Acq (var 0)) ∷
    at 235 266 (Act-F.If (equal (var 4) (num 1)) (
    at 249 264 (Act-F.Store mode.Na (var 2) (num 8)) ∷ []) []) ∷ []) []) ∷ [])
    (span 271 272) ∷
    proc (codes "main") 0 0 []
    nothing
    nothing
    []
    (span 287 288) ∷
    [])

-- What a load gains makes two locations equal; the permission for the other one stays as it is.
--   inv E(p, q) of v { p == q }
--   proc f(a, b) requires (Init(a) &*& Acq(a, E(a, b), 0, {}) &*& Acq(b, E(a, b), 0, {})) ensures (Acq(b, E(a, b), 0, {})) { let x = load acq(a); }
--   proc main() { }
abbrev pub equal_locations : Program
equal_locations = program (inv (codes "E") 2 3 (fact (equal (var 0) (var 1)) ∷ []) ∷ []) (
    proc (codes "f") 2 3 []
    (both (init (var 0) ∷ acq (var 0) (inst 0 (var 0 ∷ var 1 ∷ [])) 0 [] ∷ acq (var 1) (inst 0 (var 0 ∷ var 1 ∷ [])) 0 [] ∷ []))
    (acq (var 1) (inst 0 (var 0 ∷ var 1 ∷ [])) 0 [])
    (
    at 149 169 (Act-F.Load 2 mode.Acq (var 0)) ∷ [])
    (span 170 171) ∷
    proc (codes "main") 0 0 []
    nothing
    nothing
    []
    (span 186 187) ∷
    [])

-- A cell is handed over by a release store and an acquire load.
--   inv Flag(d) of v { if (v == 0) { emp } else { d |-> 7 } }
--   proc send(a, d) requires (Rel(a, Flag(d)) &*& d |-> _) {
--     store na(d, 7);
--     store rel(a, 1);
--   }
--   proc receive(a, d) requires (Init(a) &*& Acq(a, Flag(d), 0, {})) {
--     let r = load acq(a);
--     if (r != 0) {
--       let x = load na(d);
--       assert (x == 7);
--     }
--   }
--   proc main() { }
abbrev pub hand_over : Program
hand_over = program (inv (codes "Flag") 1 2 (choice (equal (var 1) (num 0)) nothing (points (var 0) all_shares (pat.Is (num 7))) ∷ []) ∷ []) (
    proc (codes "send") 2 2 []
    (both (rel (var 0) (inst 0 (var 1 ∷ [])) ∷ points (var 1) all_shares pat.Any ∷ []))
    nothing
    (
    at 117 132 (Act-F.Store mode.Na (var 1) (num 7)) ∷
    at 135 151 (Act-F.Store mode.Rel (var 0) (num 1)) ∷ [])
    (span 152 153) ∷
    proc (codes "receive") 2 4 []
    (both (init (var 0) ∷ acq (var 0) (inst 0 (var 1 ∷ [])) 0 [] ∷ []))
    nothing
    (
    at 223 243 (Act-F.Load 2 mode.Acq (var 0)) ∷
    at 246 308 (Act-F.If (unequal (var 2) (num 0)) (
    at 264 283 (Act-F.Load 3 mode.Na (var 1)) ∷
    at 288 304 (Act-F.Assert (equal (var 3) (num 7))) ∷ []) []) ∷ [])
    (span 309 310) ∷
    proc (codes "main") 0 0 []
    nothing
    nothing
    []
    (span 325 326) ∷
    [])

-- One release store hands over two cells, each by a part of its own.
--   inv Two(d, e) of v { if (v == 0) { emp } else { d |-> 1 } } { if (v == 0) { emp } else { e |-> 2 } }
--   proc left(a, d, e) requires (Init(a) &*& Acq(a, Two(d, e), 0, {0})) {
--     let r = load acq(a);
--     if (r != 0) { store na(d, 5); }
--   }
--   proc right(a, d, e) requires (Init(a) &*& Acq(a, Two(d, e), 1, {0})) {
--     let r = load acq(a);
--     if (r != 0) { store na(e, 5); }
--   }
--   proc put(a, d, e) requires (Rel(a, Two(d, e)) &*& d |-> _ &*& e |-> _) {
--     store na(d, 1);
--     store na(e, 2);
--     store rel(a, 1);
--   }
--   proc main() {
--     let d = alloc na;
--     let e = alloc na;
--     let a = alloc acq Two(d, e);
--     store rel(a, 0);
--     par { left(a, d, e); right(a, d, e); put(a, d, e); }
--   }
abbrev pub two_parts : Program
two_parts = program (inv (codes "Two") 2 3 (choice (equal (var 2) (num 0)) nothing (points (var 0) all_shares (pat.Is (num 1))) ∷ choice (equal (var 2) (num 0)) nothing (points (var 1) all_shares (pat.Is (num 2))) ∷ []) ∷ []) (
    proc (codes "left") 3 4 []
    (both (init (var 0) ∷ acq (var 0) (inst 0 (var 1 ∷ var 2 ∷ [])) 0 (num 0 ∷ []) ∷ []))
    nothing
    (
    at 173 193 (Act-F.Load 3 mode.Acq (var 0)) ∷
    at 196 227 (Act-F.If (unequal (var 3) (num 0)) (
    at 210 225 (Act-F.Store mode.Na (var 1) (num 5)) ∷ []) []) ∷ [])
    (span 228 229) ∷
    proc (codes "right") 3 4 []
    (both (init (var 0) ∷ acq (var 0) (inst 0 (var 1 ∷ var 2 ∷ [])) 1 (num 0 ∷ []) ∷ []))
    nothing
    (
    at 303 323 (Act-F.Load 3 mode.Acq (var 0)) ∷
    at 326 357 (Act-F.If (unequal (var 3) (num 0)) (
    at 340 355 (Act-F.Store mode.Na (var 2) (num 5)) ∷ []) []) ∷ [])
    (span 358 359) ∷
    proc (codes "put") 3 3 []
    (both (rel (var 0) (inst 0 (var 1 ∷ var 2 ∷ [])) ∷ points (var 1) all_shares pat.Any ∷ points (var 2) all_shares pat.Any ∷ []))
    nothing
    (
    at 435 450 (Act-F.Store mode.Na (var 1) (num 1)) ∷
    at 453 468 (Act-F.Store mode.Na (var 2) (num 2)) ∷
    at 471 487 (Act-F.Store mode.Rel (var 0) (num 1)) ∷ [])
    (span 488 489) ∷
    proc (codes "main") 0 3 []
    nothing
    nothing
    (
    at 506 523 (Act-F.AllocNa 0) ∷
    at 526 543 (Act-F.AllocNa 1) ∷
    at 546 574 (Act-F.AllocAt 2 false (inst 0 (var 0 ∷ var 1 ∷ []))) ∷
    at 577 593 (Act-F.Store mode.Rel (var 2) (num 0)) ∷
    at 596 648 (Act-F.Par (thread 0 (var 2 ∷ var 0 ∷ var 1 ∷ []) ∷ thread 1 (var 2 ∷ var 0 ∷ var 1 ∷ []) ∷ thread 2 (var 2 ∷ var 0 ∷ var 1 ∷ []) ∷ [])) ∷ [])
    (span 649 650) ∷
    [])
