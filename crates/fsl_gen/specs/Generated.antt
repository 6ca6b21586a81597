-- A program of any size: pairs of procedures that pass a message, and once a spin lock and a reference counter.
use Rattle.std.specs.Prelude.{ℕ, zero, suc, ◌+◌, List, [], ◌++◌, codes}
use Rattle.std.specs.Fmt.{decimal}

-- ---- message passing: the invariant, and the procedures of a pair

abbrev pub flag : List ℕ
flag = codes "inv Flag(d) of v { if (v == 0) { emp } else { d |-> 7 } }\n"

-- the sender, by its name
abbrev pub sender : List ℕ → List ℕ
sender send =
    codes "proc " ++ (send ++ codes "(a, d) requires (Rel(a, Flag(d)) &*& d |-> _) {\n  store na(d, 7);\n  store rel(a, 1);\n}\n")

-- the receiver, by its name
abbrev pub receiver : List ℕ → List ℕ
receiver recv =
    codes "proc " ++ (recv ++ codes "(a, d) requires (Init(a) &*& Acq(a, Flag(d), 0, {})) {\n  let r = load acq(a);\n  while (r == 0) inv (Init(a) &*& if (r == 0) { Acq(a, Flag(d), 0, {0}) } else { d |-> 7 }) {\n    r = load acq(a);\n  }\n  let x = load na(d);\n  assert (x == 7);\n}\n")

-- who calls both side by side, by the names of the three
abbrev pub caller : List ℕ → List ℕ → List ℕ → List ℕ
caller send recv pair =
    codes "proc " ++ (pair ++ (codes "() {\n  let d = alloc na;\n  let a = alloc acq Flag(d);\n  store rel(a, 0);\n  par { " ++
    (send ++ (codes "(a, d); " ++ (recv ++ codes "(a, d); }\n}\n")))))

-- a name with a number
abbrev pub numbered : List ℕ → ℕ → List ℕ
numbered name i = name ++ (codes "_" ++ decimal i)

-- the pair of a number
abbrev pub passing : ℕ → List ℕ
passing i =
    sender (numbered (codes "send") i) ++ (receiver (numbered (codes "recv") i) ++
    caller (numbered (codes "send") i) (numbered (codes "recv") i) (numbered (codes "pair") i))

-- ---- a spin lock, by the name of the procedure that makes it

abbrev pub spin_lock : List ℕ → List ℕ
spin_lock lock =
    codes "inv Lock(d) of v { if (v == 0) { d |-> ?x } else { emp } }\nproc bump(k, d) requires (Init(k) &*& Rel(k, Lock(d)) &*& RmwAcq(k, Lock(d))) {\n  let r = cas acq rlx(k, 0, 1);\n  while (r != 0) inv (Init(k) &*& Rel(k, Lock(d)) &*& RmwAcq(k, Lock(d)) &*& if (r == 0) { d |-> ?y } else { emp }) {\n    r = cas acq rlx(k, 0, 1);\n  }\n  let x = load na(d);\n  store na(d, x + 1);\n  store rel(k, 0);\n}\nproc " ++
    (lock ++ codes "() {\n  let d = alloc na;\n  store na(d, 0);\n  let k = alloc rmw Lock(d);\n  store rel(k, 0);\n  par { bump(k, d); bump(k, d); }\n}\n")

-- ---- a reference counter, by the name of the procedure that makes it

abbrev pub counter : List ℕ → List ℕ
counter count =
    codes "inv Count(d, bank g) of n { Auth(g, n) &*& if (n > 0) { d |->[9223372036854775808 - n] 7 } else { emp } }\nproc clone(c, d, bank g)\n  requires (Init(c) &*& Rel(c, Count(d, g)) &*& RmwAcq(c, Count(d, g)) &*& Tok(g, 1) &*& d |->[1] 7)\n  ensures (Tok(g, 2) &*& d |->[2] 7) {\n  let n = fetch_add acq(c, 1) with { mint(g, 1); };\n}\nproc drop(c, d, bank g)\n  requires (Init(c) &*& Rel(c, Count(d, g)) &*& RmwAcq(c, Count(d, g)) &*& Tok(g, 1) &*& d |->[1] 7) {\n  let n = fetch_add rel(c, -1) with { burn(g, 1); };\n  if (n == 1) { fence acq; store na(d, 0); }\n}\nproc " ++
    (count ++ codes "() {\n  let d = alloc na;\n  store na(d, 7);\n  bank g;\n  let c = alloc rmw Count(d, g);\n  mint(g, 1);\n  store rel(c, 1);\n  call clone(c, d, g);\n  par { drop(c, d, g); drop(c, d, g); }\n}\n")

-- ---- the whole

-- a call without arguments
abbrev pub call : List ℕ → List ℕ
call name = codes "  call " ++ (name ++ codes "();\n")

-- n texts, those of the numbers from i on
abbrev pub each : (ℕ → List ℕ) → ℕ → ℕ → List ℕ
each text i zero = []
each text i (suc n) = text i ++ each text (i + 1) n

-- n pairs, the lock and the counter, and a `main` that calls them one after the other
abbrev pub many : ℕ → List ℕ
many n =
    flag ++ (each passing 1 n ++ (spin_lock (codes "lock") ++ (counter (codes "count") ++ (codes "proc main() {\n" ++
    (each (λ i. call (numbered (codes "pair") i)) 1 n ++ (call (codes "lock") ++ (call (codes "count") ++ codes "}\n")))))))
