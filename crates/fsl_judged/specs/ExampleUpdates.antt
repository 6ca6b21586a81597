-- Programs with read-modify-writes and counting tokens.
use Rattle.std.specs.Prelude.{true, [], ◌∷◌, None, codes}
use Rattle.fsl_core.specs.declared.act.Act.TheOpen.{Act-F}
use Rattle.fsl_core.specs.declared.assertion.Pat.TheVariants as pat
use Rattle.fsl_core.specs.declared.expr.Cond.TheVariants as cond
use Rattle.fsl_core.specs.declared.mode.Mode.TheVariants as mode
use Rattle.fsl_core.specs.Programs.{Program}
use Rattle.fsl_judged.specs.Words.{num, minus_num, var, plus, minus, sum, product, all_shares, equal, unequal, more, inst, nothing, points, init, rel, rmw_acq, tok, auth, choice, up, both, span, at, mint, burn, thread, inv, proc, program}

-- A location is updated that may not have been written. The amount of the step, which is no term, is not looked at yet.
--   proc f(c, x, y, bank g) { let r = fetch_add rlx(c, 1) with { mint(g, x * y); }; }
--   proc main() { }
abbrev pub never_written : Program
never_written = program [] (
    proc (codes "f") 4 5 (3 ∷ [])
    nothing
    nothing
    (
    at 26 79 (Act-F.Add 4 mode.Rlx (var 0) (num 1) (mint 3 (product (var 1 ∷ var 2 ∷ [])) ∷ [])) ∷ [])
    (span 80 81) ∷
    proc (codes "main") 0 0 []
    nothing
    nothing
    []
    (span 96 97) ∷
    [])

-- There is leave to write and none to read-modify-write.
--   inv A() of v { emp }
--   proc f(c) requires (Init(c) &*& Rel(c, A())) { let r = fetch_add rlx(c, 9223372036854775808 * 134217728); }
--   proc main() { }
abbrev pub no_update_leave : Program
no_update_leave = program (inv (codes "A") 0 1 (nothing ∷ []) ∷ []) (
    proc (codes "f") 1 2 []
    (both (init (var 0) ∷ rel (var 0) (inst 0 []) ∷ []))
    nothing
    (
    at 68 126 (Act-F.Add 1 mode.Rlx (var 0) (product (num 9223372036854775808 ∷ num 134217728 ∷ [])) []) ∷ [])
    (span 127 128) ∷
    proc (codes "main") 0 0 []
    nothing
    nothing
    []
    (span 143 144) ∷
    [])

-- No tokens at all are not even none of them.
--   proc f(bank g) ensures (Tok(g, 0)) { }
--   proc main() { }
abbrev pub no_tokens : Program
no_tokens = program [] (
    proc (codes "f") 1 1 (0 ∷ [])
    nothing
    (tok 0 (num 0))
    []
    (span 37 38) ∷
    proc (codes "main") 0 0 []
    nothing
    nothing
    []
    (span 53 54) ∷
    [])

-- More tokens are burnt than were minted.
--   proc main() {
--     bank g;
--     mint(g, 2);
--     burn(g, 1);
--     burn(g, 2);
--   }
abbrev pub burnt_twice : Program
burnt_twice = program [] (
    proc (codes "main") 0 1 (0 ∷ [])
    nothing
    nothing
    (
    at 16 23 (Act-F.Bank 0) ∷
    at 26 37 (Act-F.Step (mint 0 (num 2))) ∷
    at 40 51 (Act-F.Step (burn 0 (num 1))) ∷
    at 54 65 (Act-F.Step (burn 0 (num 2))) ∷ [])
    (span 66 67) ∷
    [])

-- An exchange that acquires and releases gains by one invariant and gives by another one.
--   inv A() of v { emp }
--   inv B(d) of v { d |-> 7 }
--   proc f(c, d) requires (Init(c) &*& Rel(c, A()) &*& RmwAcq(c, B(d))) ensures (d |-> 7) { let o = exchange acqrel(c, 0); }
--   proc main() { }
abbrev pub two_invariants : Program
two_invariants = program (inv (codes "A") 0 1 (nothing ∷ []) ∷ inv (codes "B") 1 2 (points (var 0) all_shares (pat.Is (num 7)) ∷ []) ∷ []) (
    proc (codes "f") 2 3 []
    (both (init (var 0) ∷ rel (var 0) (inst 0 []) ∷ rmw_acq (var 0) (inst 1 (var 1 ∷ [])) ∷ []))
    (points (var 1) all_shares (pat.Is (num 7)))
    (
    at 135 165 (Act-F.Swap 2 mode.AcqRel (var 0) (num 0) []) ∷ [])
    (span 166 167) ∷
    proc (codes "main") 0 0 []
    nothing
    nothing
    []
    (span 182 183) ∷
    [])

-- The message holds too little, and the rest comes from what is set apart for relaxed writes.
--   inv I(d) of v { if (v == 0) { d |->[1] 7 } else { d |->[3] _ } }
--   proc f(c, d) requires (Init(c) &*& Rel(c, I(d)) &*& RmwAcq(c, I(d)) &*& up(d |->[9] 8)) ensures (up(d |->[7] 8)) { let r = cas acq rlx(c, 0, 1); if (r != 0) { while (true) { } } }
--   proc main() { }
abbrev pub rest_of_message : Program
rest_of_message = program (inv (codes "I") 1 2 (choice (equal (var 1) (num 0)) (points (var 0) (num 1) (pat.Is (num 7))) (points (var 0) (num 3) pat.Any) ∷ []) ∷ []) (
    proc (codes "f") 2 3 []
    (both (init (var 0) ∷ rel (var 0) (inst 0 (var 1 ∷ [])) ∷ rmw_acq (var 0) (inst 0 (var 1 ∷ [])) ∷ up (points (var 1) (num 9) (pat.Is (num 8))) ∷ []))
    (up (points (var 1) (num 7) (pat.Is (num 8))))
    (
    at 180 209 (Act-F.Cas 2 mode.Acq mode.Rlx (var 0) (num 0) (num 1) []) ∷
    at 210 242 (Act-F.If (unequal (var 2) (num 0)) (
    at 224 240 (Act-F.While cond.Yes nothing []) ∷ []) []) ∷ [])
    (span 243 244) ∷
    proc (codes "main") 0 0 []
    nothing
    nothing
    []
    (span 259 260) ∷
    [])

-- A lock is taken by a compare-exchange that acquires, and given back by a release store.
--   inv Lock(d) of v { if (v == 0) { d |-> _ } else { emp } }
--   proc try(k, d) requires (Init(k) &*& Rel(k, Lock(d)) &*& RmwAcq(k, Lock(d))) {
--     let r = cas acq rlx(k, 0, 1);
--     if (r == 0) {
--       store na(d, 1);
--       store rel(k, 0);
--     }
--   }
--   proc main() { }
abbrev pub try_lock : Program
try_lock = program (inv (codes "Lock") 1 2 (choice (equal (var 1) (num 0)) (points (var 0) all_shares pat.Any) nothing ∷ []) ∷ []) (
    proc (codes "try") 2 3 []
    (both (init (var 0) ∷ rel (var 0) (inst 0 (var 1 ∷ [])) ∷ rmw_acq (var 0) (inst 0 (var 1 ∷ [])) ∷ []))
    nothing
    (
    at 139 168 (Act-F.Cas 2 mode.Acq mode.Rlx (var 0) (num 0) (num 1) []) ∷
    at 171 229 (Act-F.If (equal (var 2) (num 0)) (
    at 189 204 (Act-F.Store mode.Na (var 1) (num 1)) ∷
    at 209 225 (Act-F.Store mode.Rel (var 0) (num 0)) ∷ []) []) ∷ [])
    (span 230 231) ∷
    proc (codes "main") 0 0 []
    nothing
    nothing
    []
    (span 246 247) ∷
    [])

-- A lock over a token, taken by an exchange that acquires.
--   inv Lock(bank g) of v { if (v == 0) { Tok(g, 1) } else { emp } }
--   proc take(k, bank g) requires (Init(k) &*& Rel(k, Lock(g)) &*& RmwAcq(k, Lock(g))) ensures (Tok(g, 1)) {
--     let o = exchange acq(k, 1);
--     if (o != 0) { while (true) { } }
--   }
--   proc main() { }
abbrev pub token_lock : Program
token_lock = program (inv (codes "Lock") 1 2 (choice (equal (var 1) (num 0)) (tok 0 (num 1)) nothing ∷ []) ∷ []) (
    proc (codes "take") 2 3 (1 ∷ [])
    (both (init (var 0) ∷ rel (var 0) (inst 0 (var 1 ∷ [])) ∷ rmw_acq (var 0) (inst 0 (var 1 ∷ [])) ∷ []))
    (tok 1 (num 1))
    (
    at 172 199 (Act-F.Swap 2 mode.Acq (var 0) (num 1) []) ∷
    at 202 234 (Act-F.If (unequal (var 2) (num 0)) (
    at 216 232 (Act-F.While cond.Yes nothing []) ∷ []) []) ∷ [])
    (span 235 236) ∷
    proc (codes "main") 0 0 []
    nothing
    nothing
    []
    (span 251 252) ∷
    [])

-- The compare-exchange of a lock is relaxed.
--   inv Lock(d) of v { if (v == 0) { d |-> ?x } else { emp } }
--   proc bump(k, d) requires (Init(k) &*& Rel(k, Lock(d)) &*& RmwAcq(k, Lock(d))) {
--     let r = cas rlx rlx(k, 0, 1);
--     while (r != 0) inv (Init(k) &*& Rel(k, Lock(d)) &*& RmwAcq(k, Lock(d)) &*& if (r == 0) { d |-> ?y } else { emp }) {
--       r = cas rlx rlx(k, 0, 1);
--     }
--     let x = load na(d);
--     store na(d, x + 1);
--     store rel(k, 0);
--   }
--   proc main() {
--     let d = alloc na;
--     store na(d, 0);
--     let k = alloc rmw Lock(d);
--     store rel(k, 0);
--     par { bump(k, d); bump(k, d); }
--   }
abbrev pub relaxed_lock : Program
relaxed_lock = program (inv (codes "Lock") 1 3 (choice (equal (var 1) (num 0)) (points (var 0) all_shares (pat.Bind 2)) nothing ∷ []) ∷ []) (
    proc (codes "bump") 2 5 []
    (both (init (var 0) ∷ rel (var 0) (inst 0 (var 1 ∷ [])) ∷ rmw_acq (var 0) (inst 0 (var 1 ∷ [])) ∷ []))
    nothing
    (
    at 141 170 (Act-F.Cas 2 mode.Rlx mode.Rlx (var 0) (num 0) (num 1) []) ∷
    at 173 322 (Act-F.While (unequal (var 2) (num 0)) (both (init (var 0) ∷ rel (var 0) (inst 0 (var 1 ∷ [])) ∷ rmw_acq (var 0) (inst 0 (var 1 ∷ [])) ∷ choice (equal (var 2) (num 0)) (points (var 1) all_shares (pat.Bind 3)) nothing ∷ [])) (
    at 293 318 (Act-F.Cas 2 mode.Rlx mode.Rlx (var 0) (num 0) (num 1) []) ∷ [])) ∷
    at 325 344 (Act-F.Load 4 mode.Na (var 1)) ∷
    at 347 366 (Act-F.Store mode.Na (var 1) (sum (plus (var 4) ∷ plus (num 1) ∷ []))) ∷
    at 369 385 (Act-F.Store mode.Rel (var 0) (num 0)) ∷ [])
    (span 386 387) ∷
    proc (codes "main") 0 2 []
    nothing
    nothing
    (
    at 404 421 (Act-F.AllocNa 0) ∷
    at 424 439 (Act-F.Store mode.Na (var 0) (num 0)) ∷
    at 442 468 (Act-F.AllocAt 1 true (inst 0 (var 0 ∷ []))) ∷
    at 471 487 (Act-F.Store mode.Rel (var 1) (num 0)) ∷
    at 490 521 (Act-F.Par (thread 0 (var 1 ∷ var 0 ∷ []) ∷ thread 0 (var 1 ∷ var 0 ∷ []) ∷ [])) ∷ [])
    (span 522 523) ∷
    [])

-- A reference counter. Its relaxed `fetch_add` keeps a share out of the message; its releasing one gives a share back, and the last one acquires by a fence.
--   inv Count(d, bank g) of n { Auth(g, n) &*& if (n > 0) { d |->[9223372036854775808 - n] 7 } else { emp } }
--   proc clone(c, d, bank g)
--     requires (Init(c) &*& Rel(c, Count(d, g)) &*& RmwAcq(c, Count(d, g)) &*& Tok(g, 1) &*& d |->[1] 7)
--     ensures (Tok(g, 2) &*& d |->[2] 7) {
--     let n = fetch_add rlx(c, 1) with { mint(g, 1); };
--   }
--   proc drop(c, d, bank g)
--     requires (Init(c) &*& Rel(c, Count(d, g)) &*& RmwAcq(c, Count(d, g)) &*& Tok(g, 1) &*& d |->[1] 7) {
--     let n = fetch_add rel(c, -1) with { burn(g, 1); };
--     if (n == 1) { fence acq; store na(d, 0); }
--   }
--   proc main() {
--     let d = alloc na;
--     store na(d, 7);
--     bank g;
--     let c = alloc rmw Count(d, g);
--     mint(g, 1);
--     store rel(c, 1);
--     call clone(c, d, g);
--     par { drop(c, d, g); drop(c, d, g); }
--   }
abbrev pub counter : Program
counter = program (inv (codes "Count") 2 3 (both (auth 1 (var 2) ∷ choice (more (var 2) (num 0)) (points (var 0) (sum (plus (num 9223372036854775808) ∷ minus (var 2) ∷ [])) (pat.Is (num 7))) nothing ∷ []) ∷ []) ∷ []) (
    proc (codes "clone") 3 4 (2 ∷ [])
    (both (init (var 0) ∷ rel (var 0) (inst 0 (var 1 ∷ var 2 ∷ [])) ∷ rmw_acq (var 0) (inst 0 (var 1 ∷ var 2 ∷ [])) ∷ tok 2 (num 1) ∷ points (var 1) (num 1) (pat.Is (num 7)) ∷ []))
    (both (tok 2 (num 2) ∷ points (var 1) (num 2) (pat.Is (num 7)) ∷ []))
    (
    at 273 322 (Act-F.Add 3 mode.Rlx (var 0) (num 1) (mint 2 (num 1) ∷ [])) ∷ [])
    (span 323 324) ∷
    proc (codes "drop") 3 4 (2 ∷ [])
    (both (init (var 0) ∷ rel (var 0) (inst 0 (var 1 ∷ var 2 ∷ [])) ∷ rmw_acq (var 0) (inst 0 (var 1 ∷ var 2 ∷ [])) ∷ tok 2 (num 1) ∷ points (var 1) (num 1) (pat.Is (num 7)) ∷ []))
    nothing
    (
    at 454 504 (Act-F.Add 3 mode.Rel (var 0) (minus_num 1) (burn 2 (num 1) ∷ [])) ∷
    at 507 549 (Act-F.If (equal (var 3) (num 1)) (
    at 521 531 (Act-F.Fence mode.Acq nothing) ∷
    at 532 547 (Act-F.Store mode.Na (var 1) (num 0)) ∷ []) []) ∷ [])
    (span 550 551) ∷
    proc (codes "main") 0 3 (1 ∷ [])
    nothing
    nothing
    (
    at 568 585 (Act-F.AllocNa 0) ∷
    at 588 603 (Act-F.Store mode.Na (var 0) (num 7)) ∷
    at 606 613 (Act-F.Bank 1) ∷
    at 616 646 (Act-F.AllocAt 2 true (inst 0 (var 0 ∷ var 1 ∷ []))) ∷
    at 649 660 (Act-F.Step (mint 1 (num 1))) ∷
    at 663 679 (Act-F.Store mode.Rel (var 2) (num 1)) ∷
    at 682 702 (Act-F.Call None 0 (var 2 ∷ var 0 ∷ var 1 ∷ [])) ∷
    at 705 742 (Act-F.Par (thread 1 (var 2 ∷ var 0 ∷ var 1 ∷ []) ∷ thread 1 (var 2 ∷ var 0 ∷ var 1 ∷ []) ∷ [])) ∷ [])
    (span 743 744) ∷
    [])
