-- A step of the walk: the branch of a rule whose ends are derived, one level of a statement's meaning, and moves that
-- are good.
use Rattle.std.proofs.Common.{◌≡◌, ℕ, zero, suc, Bool, inl, inr, List, [], ◌∷◌, ◌++◌, Option, Some, None, ℤ, refl, sym, ap, subst, ◌∙◌}
use Rattle.fsl_base.specs.declared.span.Span.{Span}
use Rattle.fsl_core.specs.declared.act.Act.{Act}
use Rattle.fsl_core.specs.declared.act.Act.TheFolds.{fold-Act, fold-Stmt, fold_out-Act, fold_out-Stmt, map-Act}
use Rattle.fsl_core.specs.declared.act.Act.TheViews.{out-Act}
use Rattle.fsl_core.specs.declared.act.Stmt.{Stmt}
use Rattle.fsl_core.specs.declared.label.Label.{Label}
use Rattle.fsl_core.specs.declared.need.Need.{Need}
use Rattle.fsl_core.specs.Programs.{Program}
use Rattle.fsl_core.specs.Moves.{Config, halted, failed, Move, Moved, unlabelled, showing, local, halting, given, frame_move}
use Rattle.fsl_core.specs.Verdicts.{End, derived, failed as fails_at}
use Rattle.fsl_core.specs.WellFormed.{act_fits, stmt_fits}
use Rattle.fsl_core.specs.WellFormed as fitting
use Rattle.fsl_core.specs.logic.States.{Env, State, Branches, Rule, ◌>>=◌, here, goes, fails, followed}
use Rattle.fsl_core.specs.logic.Paths.{Ends, each, Meaning, Reading, act_step, stmt_step, stmt_of}
use Rattle.fsl_lin.specs.Numbers.{Numbers}
use Rattle.fsl_meaning.specs.Means.{Grows}
use Rattle.fsl_meaning.specs.Branches.{Among, Lands, Lands as land, Tells, Tells as tell}
use Rattle.fsl_good.specs.Pieces.{Piece, IsPossible}
use Rattle.fsl_good.specs.Good.{Shifts as shift, Allows, Good}
use Rattle.fsl_held.specs.Asked.{logic_of}
use Rattle.fsl_walk.specs.Stances.{AllDerived, Activation, config_of, IsGood, IsGoodMove}

-- ---- ends that are derived

pub derived_left : (xs ys : List End) → AllDerived (xs ++ ys) → AllDerived xs
derived_left [] ys d = tt
derived_left (derived at ∷ xs) ys d = derived_left xs ys d
derived_left (fails_at at kind ∷ xs) ys d = d

pub derived_right : (xs ys : List End) → AllDerived (xs ++ ys) → AllDerived ys
derived_right [] ys d = d
derived_right (derived at ∷ xs) ys d = derived_right xs ys d
derived_right (fails_at at kind ∷ xs) ys d = absurd d

derived_both : (xs ys : List End) → AllDerived xs → AllDerived ys → AllDerived (xs ++ ys)
derived_both [] ys d e = e
derived_both (derived at ∷ xs) ys d e = derived_both xs ys d e
derived_both (fails_at at kind ∷ xs) ys d e = absurd d

-- the branch that a rule goes on with, and the ends behind it
pub record Landed {X : Type 0} (n : ℕ) (v : Numbers) (P : X → State → Numbers → Type 0) (after : X → Ends) : Type 0 where
  pub gives : X
  pub state : State
  pub numbers : Numbers
  pub grows : Grows n v state.next numbers
  pub is : P gives state numbers
  pub derived : AllDerived (after gives state)

derived_among : {X : Type 0} (at : Span) (after : X → Ends) (bs : Branches X) (x : X) (s : State) → Among (goes x s) bs → AllDerived (each at bs after) → AllDerived (after x s)
derived_among at after [] x s i d = absurd i
derived_among {X = X} at after (goes y t ∷ bs) x s (inl e) d =
    let p : x ≡ y = cc in
    let q : s ≡ t = cc in
    subst (λ (z : X). AllDerived (after z s)) (sym p) (subst (λ (u : State). AllDerived (after y u)) (sym q) (derived_left (after y t) (each at bs after) d))
derived_among at after (goes y t ∷ bs) x s (inr i) d = derived_among at after bs x s i (derived_right (after y t) (each at bs after) d)
derived_among at after (fails k ∷ bs) x s i d = absurd d

pub none_fails : {X : Type 0} (at : Span) (after : X → Ends) (bs : Branches X) (k : _) → Among (fails k) bs → AllDerived (each at bs after) → ⊥
none_fails at after [] k i d = i
none_fails at after (goes y t ∷ bs) k (inl e) d = absurd (cc)
none_fails at after (goes y t ∷ bs) k (inr i) d = none_fails at after bs k i (derived_right (after y t) (each at bs after) d)
none_fails at after (fails j ∷ bs) k i d = d

pub each_lands : {X : Type 0} {n : ℕ} {v : Numbers} {P : X → State → Numbers → Type 0} {bs : Branches X} (at : Span) (after : X → Ends) → Lands n v P bs → AllDerived (each at bs after)
    → Landed n v P after
each_lands {bs = bs} at after (land.lands x s w i g p) d = record { gives = x; state = s; numbers = w; grows = g; is = p; derived = derived_among at after bs x s i d }
each_lands {bs = bs} at after (land.stops k i) d = absurd (none_fails at after bs k i d)

-- the same of a rule that leaves the state as it is
pub record Told {X : Type 0} (s : State) (P : X → Type 0) (after : X → Ends) : Type 0 where
  pub gives : X
  pub is : P gives
  pub derived : AllDerived (after gives s)

pub each_tells : {X : Type 0} {s : State} {P : X → Type 0} {bs : Branches X} (at : Span) (after : X → Ends) → Tells s P bs → AllDerived (each at bs after) → Told s P after
each_tells {s = s} {bs = bs} at after (tell.tells x i p) d = record { gives = x; is = p; derived = derived_among at after bs x s i d }
each_tells {bs = bs} at after (tell.stops k i) d = absurd (none_fails at after bs k i d)

each_more : {X : Type 0} (at : Span) (after : X → Ends) (bs cs : Branches X) → AllDerived (each at (bs ++ cs) after) → AllDerived (each at bs after) × AllDerived (each at cs after)
each_more at after [] cs d = (tt, d)
each_more at after (goes x s ∷ bs) cs d =
    let front = derived_left (after x s) (each at (bs ++ cs) after) d in
    let more = each_more at after bs cs (derived_right (after x s) (each at (bs ++ cs) after) d) in
    (derived_both (after x s) (each at bs after) front more.0, more.1)
each_more at after (fails k ∷ bs) cs d = absurd d

-- a rule, and then another one: the ends of the second are behind the branches of the first
pub each_followed : {X Y : Type 0} (at : Span) (f : X → Rule Y) (after : Y → Ends) (bs : Branches X) → AllDerived (each at (followed bs f) after)
    → AllDerived (each at bs (λ x s. each at (f x s) after))
each_followed at f after [] d = tt
each_followed at f after (goes x s ∷ bs) d =
    let both = each_more at after (f x s) (followed bs f) d in
    derived_both (each at (f x s) after) (each at bs (λ y t. each at (f y t) after)) both.0 (each_followed at f after bs both.1)
each_followed at f after (fails k ∷ bs) d = d

-- a rule that begins with the terms of the variables
pub each_here : {Y : Type 0} (at : Span) (f : Env → Rule Y) (after : Y → Ends) (s : State) → AllDerived (each at ((here >>= f) s) after) → AllDerived (each at (f s.env s) after)
each_here at f after s d = (each_more at after (f s.env s) [] d).0

-- ---- one level of a statement

abbrev pub act_of : Reading → Act → Span → Meaning
act_of r = fold-Act (Span → Meaning) Meaning (act_step r) stmt_step

pub meaning_of : (r : Reading) (stmt : Stmt) → stmt_of r stmt ≡ act_step r (map-Act Act Stmt (Span → Meaning) Meaning (act_of r) (stmt_of r) (out-Act stmt.act)) stmt.span
meaning_of r stmt =
    fold_out-Stmt (Span → Meaning) Meaning (act_step r) stmt_step stmt
    ∙ ap (λ f. f stmt.span) (fold_out-Act (Span → Meaning) Meaning (act_step r) stmt_step stmt.act)

abbrev pub stmt_folded : Program → Stmt → Bool
stmt_folded p = fold-Stmt Bool Bool (fitting.act_step p) (λ stmt. stmt.act)

pub fit_of : (p : Program) (stmt : Stmt) → stmt_fits p stmt ≡ fitting.act_step p (map-Act Act Stmt Bool Bool (act_fits p) (stmt_folded p) (out-Act stmt.act))
fit_of p stmt = fold_out-Act Bool Bool (fitting.act_step p) (λ s. s.act) stmt.act

-- ---- moves that are good

-- a move without a label shows none
pub quiet : {c next : Config} {l : Label} → unlabelled c ≡ showing l next → ⊥
quiet e = let p = ap (λ (d : Moved). d.label) e in absurd (cc)

pub halted_good : (u : Activation) (m : ℕ) (xs : List Piece) → IsGood u m halted xs
halted_good u zero xs = λ e. cc
halted_good u (suc m) xs = λ possible. (λ e. cc, λ e. absurd (cc), λ r shown next e. absurd (quiet e))

-- what a thread has is possible
pub good_possible : (u : Activation) (m : ℕ) (c : Config) (xs : List Piece) → (c ≡ failed → ⊥) → (IsPossible xs → IsGood u m c xs) → IsGood u m c xs
good_possible u zero c xs not_failed k = not_failed
good_possible u (suc m) c xs not_failed k = λ possible. k possible possible

-- where the next move is good
pub good_of_move : (u : Activation) (m : ℕ) (stmts : List Stmt) (env : List ℤ) (xs : List Piece)
    → (IsPossible xs → IsGoodMove u m (frame_move u.program stmts (record { stmts = stmts; env = env; target = u.target }) u.below) xs) → IsGood u (suc m) (config_of u stmts env) xs
good_of_move u m stmts env xs k = λ possible. (λ e. cc, (k possible).0, (k possible).1)

pub good_running : (u : Activation) (m : ℕ) (stmts : List Stmt) (env : List ℤ) (xs : List Piece)
    → ((k : ℕ) → m ≡ suc k → IsPossible xs → IsGoodMove u k (frame_move u.program stmts (record { stmts = stmts; env = env; target = u.target }) u.below) xs) → IsGood u m (config_of u stmts env) xs
good_running u zero stmts env xs k = λ e. cc
good_running u (suc m) stmts env xs k = good_of_move u m stmts env xs (k m refl)

pub good_local : (u : Activation) (m : ℕ) (c : Config) (xs : List Piece) → IsGood u m c xs → IsGoodMove u m (local c) xs
good_local u m c xs good = (λ e. shift.stays good, λ r shown next e. absurd (quiet e))

pub good_halting : (u : Activation) (m : ℕ) (xs : List Piece) → IsGoodMove u m halting xs
good_halting u m xs = good_local u m halted xs (halted_good u m xs)

pub good_given : (u : Activation) (m : ℕ) (o : Option ℤ) (f : ℤ → Move) (xs : List Piece) → ((x : ℤ) → o ≡ Some x → IsGoodMove u m (f x) xs) → IsGoodMove u m (given o f) xs
good_given u m None f xs k = good_halting u m xs
good_given u m (Some x) f xs k = k x refl

-- a label that is shown
pub shows_so : (u : Activation) (m : ℕ) (n : Need) (l shown : Label) (c next : Config) (xs : List Piece) → showing l c ≡ showing shown next
    → Allows (logic_of u.program) u.debt n l (λ waits ys. Good (logic_of u.program) u.program u.debt m c waits ys) [] xs
    → Allows (logic_of u.program) u.debt n shown (λ waits ys. Good (logic_of u.program) u.program u.debt m next waits ys) [] xs
shows_so u m n l shown c next xs e allows =
    let label_is : Some l ≡ Some shown = ap (λ (d : Moved). d.label) e in
    let p : l ≡ shown = cc in
    let q : c ≡ next = ap (λ (d : Moved). d.config) e in
    subst (λ (k : Label). Allows (logic_of u.program) u.debt n k (λ waits ys. Good (logic_of u.program) u.program u.debt m next waits ys) [] xs) p
    (subst (λ (d : Config). Allows (logic_of u.program) u.debt n l (λ waits ys. Good (logic_of u.program) u.program u.debt m d waits ys) [] xs) q allows)
