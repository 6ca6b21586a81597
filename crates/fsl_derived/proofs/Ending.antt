-- The end of a thread: the outermost procedure gives back what its contract ensures.
use Rattle.std.proofs.Common.{◌≡◌, ℕ, zero, suc, ◌+◌, ◌≤◌, true, false, List, [], ◌∷◌, ◌++◌, length, map, None, ℤ, pos, sym, ap, ◌∙◌, subst, arith}
use Rattle.fsl_base.specs.declared.span.Span.{Span}
use Rattle.fsl_core.specs.declared.assertion.Asrt.{Asrt}
use Rattle.fsl_core.specs.declared.declaration.Proc.{Proc}
use Rattle.fsl_core.specs.declared.scope.Scope.{Scope}
use Rattle.fsl_core.specs.Programs.{Program}
use Rattle.fsl_core.specs.Scopes.{sight_at, behind_requires, proc_is_scoped}
use Rattle.fsl_core.specs.logic.States.{State}
use Rattle.fsl_core.specs.logic.Joining.{nought}
use Rattle.fsl_core.specs.logic.Assertions.{asrt_of}
use Rattle.fsl_core.specs.logic.Calls.{finish}
use Rattle.fsl_core.specs.logic.Paths.{Reading, each, path_ends, closing, all_sets, stmt_of}
use Rattle.fsl_lin.specs.Combination.{Combination}
use Rattle.fsl_lin.specs.Numbers.{Numbers}
use Rattle.fsl_meaning.specs.Means.{Means}
use Rattle.fsl_meaning.specs.Heaps.{Key, Heap, Claim, AllKnown}
use Rattle.fsl_meaning.proofs.Terms.{means_constant}
use Rattle.fsl_asserted.specs.Carried.{IsPlain}
use Rattle.fsl_kept.proofs.Calls.{finish_fits}
use Rattle.fsl_own.specs.Atoms.{Atom}
use Rattle.fsl_good.specs.Pieces.{AtPlain, Piece, all_placed, Entails, IsPossible}
use Rattle.fsl_good.specs.Good.{Ends}
use Rattle.fsl_held.specs.Heaps.{heap_of, truth_of, ground_of}
use Rattle.fsl_held.specs.Asked.{Satisfies, Debt, owes_nothing, owes, OwedFor, logic_of}
use Rattle.fsl_walk.specs.Stances.{AllDerived, Activation, Stance, Runs, Returns}
use Rattle.fsl_walk.specs.Walks.{IsClosed}
use Rattle.fsl_held.proofs.Satisfied.{need_is_parted}
use Rattle.fsl_scoped.specs.Assertions.{is_shared, Shares}
use Rattle.fsl_scoped.proofs.Bodies.{bodies_keep_contracts}
use Rattle.fsl_scoped.proofs.Ensures.{ensures_seen}
use Rattle.fsl_scoped.proofs.Lists.{get_other}
use Rattle.fsl_walk.proofs.Slots.{set_long}
use Rattle.fsl_walk.proofs.Steps.{each_lands}
use Rattle.fsl_derived.proofs.Lists.{entails_then, entails_front, entails_none}
use Rattle.fsl_derived.proofs.Moving.{ending_good}

-- ---- what the body leaves of its contract

-- what the contract sees is as it was where the body starts
abbrev pub AtStart : Proc → List ℤ → List ℤ → Type 0
AtStart q env slots = Shares (behind_requires q) slots env

pub body_closed : (procs : List Proc) (q : Proc) (r : Reading) (env : List ℤ) → proc_is_scoped procs q ≡ true → IsClosed (AtStart q env) (all_sets (map (stmt_of r) q.body))
body_closed procs q r env scoped = λ slots slot x sets same. record {
  long = set_long slots slot x ∙ same.long;
  alike = λ k shared. get_other slots slot k x (λ e. clash k slot e shared (bodies_keep_contracts procs q r slot scoped sets)) ∙ same.alike k shared;
}
  where
    clash : (k slot : ℕ) → k ≡ slot → is_shared (sight_at (behind_requires q) k) ≡ true → is_shared (sight_at (behind_requires q) slot) ≡ false → ⊥
    clash k slot e a b = let f : is_shared (sight_at (behind_requires q) slot) ≡ true = subst (λ (j : ℕ). is_shared (sight_at (behind_requires q) j) ≡ true) e a in absurd (cc)

-- ---- the outermost procedure

abbrev pub outermost : Program → Debt → Proc → Activation
outermost p o q = record { program = p; debt = o; proc = q; target = None; below = [] }

line_given : (n m l u h : ℕ) → m ≡ l + n → m + u ≤ h → n ≤ h
line_given n m l u h e i = omega arith

-- what stands behind them is dropped
dropped : (xs : List Piece) (ys : List Atom) (rest : List Piece) → Entails xs (all_placed AtPlain ys ++ rest) → Entails xs (all_placed AtPlain ys)
dropped xs ys rest e = entails_then e (entails_front (all_placed AtPlain ys) rest)

ends : (p : Program) (o : Debt) (q : Proc) (env : List ℤ) → proc_is_scoped p.procs q ≡ true → length env ≡ q.slots → OwedFor p o q env
    → (under : Heap) (xs : List Piece) (slots : List ℤ) (v : Numbers) (s : State) (t : Combination) (x : ℤ) (at : Span) → IsPossible xs → Stance xs under slots v s
    → AtStart q env slots → Means s.next v t x
    → AllDerived (each at (finish (asrt_of q.post) t s) (λ y. path_ends at)) → Ends (logic_of p) o x xs
ends p owes_nothing q env scoped long owed under xs slots v s t x at possible stance same means derived = record { atoms = []; gives = entails_none xs; pays = tt }
ends p (owes post e) q env scoped long owed under xs slots v s t x at possible stance same means derived =
    let land = each_lands at (λ y. path_ends at) (finish_fits q.post t x stance.fits means) derived in
    let gives = land.is.gives in
    let seen = ensures_seen p.procs q (truth_of xs) slots env x gives.need scoped (same.long ∙ long) same gives.is in
    let heap_is : (k : Key) → seen.0.heap k ≡ gives.need.heap k = λ k. ap (λ (h : Heap). h k) seen.2.heap in
    let parted = need_is_parted p.invs xs q.post (env ++ x ∷ []) seen.0 possible (subst (λ (a : Asrt). IsPlain p.invs a) owed.0 owed.2)
    (record { is = seen.1; known = subst (λ (cs : List Claim). AllKnown (ground_of xs) cs) (sym seen.2.claims) gives.known })
    (λ k. subst (λ (n : ℕ). n ≤ heap_of xs k) (sym (heap_is k)) (line_given (gives.need.heap k) (stance.mine k) (gives.left k) (under k) (heap_of xs k) (gives.parts k) (stance.parts k))) in
    record {
      atoms = parted.atoms;
      gives = dropped xs parted.atoms parted.rest parted.gives;
      pays = (
        seen.0,
        subst (λ (a : Asrt). Satisfies a (e ++ x ∷ []) seen.0 parted.atoms) (sym owed.0)
            (subst (λ (zs : List ℤ). Satisfies q.post (zs ++ x ∷ []) seen.0 parted.atoms) (sym owed.1) parted.satisfies),
      );
    }

pub end_returns : (p : Program) (o : Debt) (q : Proc) (env : List ℤ) (m : ℕ) (base : List Piece) (under : Heap) → proc_is_scoped p.procs q ≡ true → length env ≡ q.slots → OwedFor p o q env
    → Returns (outermost p o q) m (AtStart q env) base under
end_returns p o q env m base under scoped long owed = λ k less xs slots v s t x at possible kept stance same means derived.
    ending_good (outermost p o q) k x xs (ends p o q env scoped long owed under xs slots v s t x at possible stance same means derived)

line_less : (j m : ℕ) → suc j ≤ m → j ≤ m
line_less j m l = omega arith

-- a procedure at its end returns 0
pub closing_runs : (u : Activation) (m : ℕ) (last : Span) (scope : Scope) (Q : List ℤ → Type 0) (base : List Piece) (under : Heap) → Returns u m Q base under
    → Runs u m (closing (asrt_of u.proc.post) last) [] scope Q base under
closing_runs u m last scope Q base under returns = runs
  where
    runs : Runs u m (closing (asrt_of u.proc.post) last) [] scope Q base under
    runs zero less xs slots env v s kept stance matches q derived = λ e. absurd (cc)
    runs (suc j) less xs slots env v s kept stance matches q derived = λ possible.
        let move = returns j (line_less j m less) xs slots v s nought (pos 0) last possible kept stance q (means_constant (pos 0)) derived in
        ((λ e. absurd (cc)), move.0, move.1)
