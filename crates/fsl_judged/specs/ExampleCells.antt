-- Programs over non-atomic cells.
use Rattle.std.specs.Prelude.{[], ◌∷◌, codes}
use Rattle.fsl_core.specs.declared.act.Act.TheOpen.{Act-F}
use Rattle.fsl_core.specs.declared.assertion.Pat.TheVariants as pat
use Rattle.fsl_core.specs.declared.mode.Mode.TheVariants as mode
use Rattle.fsl_core.specs.Programs.{Program}
use Rattle.fsl_judged.specs.Words.{num, var, plus, sum, equal, less, more, at_most, nothing, fact, points, both, span, at, proc, program}

-- A cell is loaded before it is stored.
--   proc main() { let d = alloc na; let x = load na(d); }
abbrev pub unset_cell : Program
unset_cell = program [] (
    proc (codes "main") 0 2 []
    nothing
    nothing
    (
    at 14 31 (Act-F.AllocNa 0) ∷
    at 32 51 (Act-F.Load 1 mode.Na (var 0)) ∷ [])
    (span 52 53) ∷
    [])

-- Half of a cell is not enough to store.
--   proc w(d) requires (d |->[4611686018427387904] _) { store na(d, 1); }
--   proc main() { }
abbrev pub half_a_share : Program
half_a_share = program [] (
    proc (codes "w") 1 1 []
    (points (var 0) (num 4611686018427387904) pat.Any)
    nothing
    (
    at 52 67 (Act-F.Store mode.Na (var 0) (num 1)) ∷ [])
    (span 68 69) ∷
    proc (codes "main") 0 0 []
    nothing
    nothing
    []
    (span 84 85) ∷
    [])

-- A cell is loaded after it was freed.
--   proc main() { let d = alloc na; free(d); let x = load na(d); }
abbrev pub freed_cell : Program
freed_cell = program [] (
    proc (codes "main") 0 2 []
    nothing
    nothing
    (
    at 14 31 (Act-F.AllocNa 0) ∷
    at 32 40 (Act-F.Free (var 0)) ∷
    at 41 60 (Act-F.Load 1 mode.Na (var 0)) ∷ [])
    (span 61 62) ∷
    [])

-- A share of 0 is no share, and that is seen before the cell is looked for.
--   proc f(d) ensures (d |->[0] _) { }
--   proc main() { }
abbrev pub no_share : Program
no_share = program [] (
    proc (codes "f") 1 1 []
    nothing
    (points (var 0) (num 0) pat.Any)
    []
    (span 33 34) ∷
    proc (codes "main") 0 0 []
    nothing
    nothing
    []
    (span 49 50) ∷
    [])

-- The first chunk that has share enough is taken, where two are for one cell.
--   proc f(d, e) requires (d |->[5] _ &*& e |->[7] _ &*& d == e) ensures (d |->[6] _) { }
--   proc main() { }
abbrev pub first_cell : Program
first_cell = program [] (
    proc (codes "f") 2 2 []
    (both (points (var 0) (num 5) pat.Any ∷ points (var 1) (num 7) pat.Any ∷ fact (equal (var 0) (var 1)) ∷ []))
    (points (var 0) (num 6) pat.Any)
    []
    (span 84 85) ∷
    proc (codes "main") 0 0 []
    nothing
    nothing
    []
    (span 100 101) ∷
    [])

-- What is known of a number decides a branch, and the other branch is not followed.
--   proc f(x) requires (x > 3) { if (x > 1) { assert (x > 2); } else { assert (0 == 1); } }
--   proc main() { }
abbrev pub bounds : Program
bounds = program [] (
    proc (codes "f") 1 1 []
    (fact (more (var 0) (num 3)))
    nothing
    (
    at 29 85 (Act-F.If (more (var 0) (num 1)) (
    at 42 57 (Act-F.Assert (more (var 0) (num 2))) ∷ []) (
    at 67 83 (Act-F.Assert (equal (num 0) (num 1))) ∷ [])) ∷ [])
    (span 86 87) ∷
    proc (codes "main") 0 0 []
    nothing
    nothing
    []
    (span 102 103) ∷
    [])

-- A loop with its invariant.
--   proc main() {
--     let i = 0;
--     while (i < 3) inv (i <= 3) { i = i + 1; }
--     assert (i == 3);
--   }
abbrev pub counted_loop : Program
counted_loop = program [] (
    proc (codes "main") 0 1 []
    nothing
    nothing
    (
    at 16 26 (Act-F.Set 0 (num 0)) ∷
    at 29 70 (Act-F.While (less (var 0) (num 3)) (fact (at_most (var 0) (num 3))) (
    at 58 68 (Act-F.Set 0 (sum (plus (var 0) ∷ plus (num 1) ∷ []))) ∷ [])) ∷
    at 73 89 (Act-F.Assert (equal (var 0) (num 3))) ∷ [])
    (span 90 91) ∷
    [])
