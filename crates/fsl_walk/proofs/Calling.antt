-- Calls: a procedure starts with its `requires` and gives its result back with its `ensures`, while what its caller has
-- besides stays as it is.
use Rattle.std.proofs.Common.{◌≡◌, ℕ, zero, suc, ◌+◌, ◌-◌, ◌≤◌, Bool, true, false, ◌&&◌, ◌||◌, List, [], ◌∷◌, ◌++◌}
use Rattle.std.proofs.Common.{length, map, replicate, Option, Some, None, is_some, ℤ, pos, slice_get, slice_set, refl, sym, ap, subst, ◌∙◌, arith}
use Rattle.std.specs.List.{list_all}
use Rattle.std.specs.Option.{option_map}
use Rattle.std.proofs.lemmas.Bool.{and_parts, eqb-true, or_parts}
use Rattle.std.proofs.lemmas.List.{append-nil, length-map, length-replicate, length-append}
use Rattle.std.proofs.lemmas.Option.{slice_get-map}
use Rattle.fsl_base.specs.declared.span.Span.{Span}
use Rattle.fsl_core.specs.declared.act.Act.TheOpen.{Act-F}
use Rattle.fsl_core.specs.declared.act.Stmt.{Stmt}
use Rattle.fsl_core.specs.declared.declaration.Proc.{Proc}
use Rattle.fsl_core.specs.declared.expr.Expr.{Expr}
use Rattle.fsl_core.specs.declared.mode.Rung.TheVariants.{Plain}
use Rattle.fsl_core.specs.declared.scope.Scope.{Scope}
use Rattle.fsl_core.specs.declared.scope.Sight.TheVariants as sight
use Rattle.fsl_core.specs.Programs.{Program}
use Rattle.fsl_core.specs.Moves.{Config, running, set_target, returning, calling, arguments_from, arguments_of, act_move}
use Rattle.fsl_core.specs.Scopes.{reads, sight_at, with_sight, parameters_of, behind_requires, in_body, passes, passes_to, arguments_fit, proc_is_scoped}
use Rattle.fsl_core.specs.Values.{value_of}
use Rattle.fsl_core.specs.WellFormed.{inv_is_well, proc_is_well, proc_fits, stmt_fits, asrt_fits, call_fits, proc_takes, is_startable, main_among}
use Rattle.fsl_core.specs.logic.States.{Env, State, Rule, ◌>>=◌, ◌>>◌}
use Rattle.fsl_core.specs.logic.Terms.{expr_of, term, terms}
use Rattle.fsl_core.specs.logic.Joining.{nought}
use Rattle.fsl_core.specs.logic.Assertions.{asrt_of}
use Rattle.fsl_core.specs.logic.Locations.{Contract, contract_of, setting_of}
use Rattle.fsl_core.specs.logic.Calls.{finish, new_result, set_result, give_pre, gain_post, call_proc, call}
use Rattle.fsl_core.specs.logic.Paths.{Ends, each, block, all_sets, stmt_of, ends_of, path_ends, closing, nowhere, start, set_by_call, return}
use Rattle.fsl_lin.specs.Combination.{Combination}
use Rattle.fsl_lin.specs.Numbers.{Numbers}
use Rattle.fsl_meaning.specs.Means.{AllMean, Grows, padded_numbers}
use Rattle.fsl_meaning.specs.Heaps.{Heap, Holds, nothing, Ground, AllKnown}
use Rattle.fsl_meaning.specs.States.{All, Fits}
use Rattle.fsl_meaning.specs.Branches.{Lands}
use Rattle.fsl_meaning.proofs.Terms.{means_more, means_as, means_constant, all_more, all_none}
use Rattle.fsl_meaning.proofs.Calculus.{lands_then}
use Rattle.fsl_meaning.proofs.Owned.{all_lasts}
use Rattle.fsl_asserted.specs.Exact.{exact_all}
use Rattle.fsl_asserted.specs.Needs.{Need, asks}
use Rattle.fsl_asserted.proofs.Terms.{reads_term, reads_terms}
use Rattle.fsl_kept.specs.Calls.{ResultMeans, result_number, numbers_with, numbers_set}
use Rattle.fsl_kept.proofs.Calls.{enter_fits, result_fits, set_result_fits, give_pre_fits, gain_post_fits, finish_fits}
use Rattle.fsl_good.specs.Pieces.{Piece, IsPossible}
use Rattle.fsl_held.specs.Heaps.{heap_of, truth_of, ground_of, Kept}
use Rattle.fsl_scoped.specs.Assertions.{is_shared, Shares, SameNeed}
use Rattle.fsl_scoped.proofs.Lists.{get_other}
use Rattle.fsl_scoped.proofs.Assertions.{binders_free}
use Rattle.fsl_scoped.proofs.Parameters.{ProcFits}
use Rattle.fsl_scoped.proofs.Parameters.{proc_fits as scope_fits}
use Rattle.fsl_scoped.proofs.Bodies.{bodies_keep_contracts, bodies_are_declared, contracts_outside}
use Rattle.fsl_scoped.proofs.Arguments.{starts_seen}
use Rattle.fsl_scoped.proofs.Ensures.{ensures_seen, ensures_need_no_result}
use Rattle.fsl_walk.specs.Stances.{AllDerived, Activation, reading, config_of, IsGood, IsGoodMove, Matches, Runs, Returns}
use Rattle.fsl_walk.specs.Walks.{IsDerived, IsClosed, Walks}
use Rattle.fsl_walk.proofs.Slots.{set_long, sees_same, closed_one}
use Rattle.fsl_walk.proofs.Rounds.{kept_self, kept_less, kept_then, frame_fits, bounded, left_within, plus, give_parts, take_parts, line_plus_left, line_plus_right}
use Rattle.fsl_walk.proofs.Steps.{each_lands, each_tells, each_followed, each_here, good_running, good_local, good_halting, good_given}
use Rattle.fsl_walk.proofs.Showing.{At, frame_of, line_self, read_is}

-- ---- a procedure of the program

pub record Sound (p : Program) (q : Proc) : Type 0 where
  pub scoped : proc_is_scoped p.procs q ≡ true
  pub fits : ProcFits p.procs q
  pub well : list_all (stmt_fits p) q.body ≡ true
  pub derived : AllDerived (ends_of p q)

all_at : {X : Type 0} (f : X → Bool) (xs : List X) (number : ℕ) (x : X) → slice_get xs number ≡ Some x → list_all f xs ≡ true → f x ≡ true
all_at f [] number x is h = absurd (cc)
all_at f (y ∷ ys) zero x is h = let e : y ≡ x = cc in subst (λ z. f z ≡ true) e (and_parts (f y) (list_all f ys) h).0
all_at f (y ∷ ys) (suc number) x is h = all_at f ys number x is (and_parts (f y) (list_all f ys) h).1

pub sound : (p : Program) (number : ℕ) (q : Proc) → IsDerived p → slice_get p.procs number ≡ Some q → Sound p q
sound p number q d is =
    let procs = and_parts (list_all (inv_is_well p.invs) p.invs) (list_all (proc_is_well p) p.procs && is_startable (main_among p.procs)) d.well in
    let all = and_parts (list_all (proc_is_well p) p.procs) (is_startable (main_among p.procs)) procs.1 in
    let both = and_parts (proc_fits p q) (proc_is_scoped p.procs q) (all_at (proc_is_well p) p.procs number q is all.0) in
    let contract = and_parts (asrt_fits p.invs q.pre true) (asrt_fits p.invs q.post true && list_all (stmt_fits p) q.body) both.0 in
    record {
      scoped = both.1;
      fits = scope_fits p.procs q both.1;
      well = (and_parts (asrt_fits p.invs q.post true) (list_all (stmt_fits p) q.body) contract.1).1;
      derived = d.each number q is;
    }

line_room : (slots n : ℕ) → n ≤ slots → n + (slots - n) ≡ slots
line_room slots n h = omega arith

padded_long : (slots : ℕ) (xs : List ℤ) → length xs ≤ slots → length (padded_numbers slots xs) ≡ slots
padded_long slots xs h =
    length-append xs (replicate (slots - length xs) (pos 0)) ∙ ap (λ (n : ℕ). length xs + n) (length-replicate (slots - length xs) (pos 0)) ∙ line_room slots (length xs) h

-- what `requires` leaves has as many numbers as the procedure has variables
env_long : (p : Program) (q : Proc) (xs : List Piece) (numbers : List ℤ) (n : Need) → Sound p q → length numbers ≡ q.params → asks (truth_of xs) q.pre Plain (padded_numbers q.slots numbers) ≡ Some n
    → length n.env ≡ q.slots
env_long p q xs numbers n ok long asked =
    (binders_free (parameters_of q) q.pre (truth_of xs) Plain (padded_numbers q.slots numbers) n ok.fits.pre asked).0
    ∙ padded_long q.slots numbers (let r = ok.fits.room in omega (arith, long, r))

-- ---- a procedure starts

-- the contract's variables keep their numbers
abbrev pub Contracted : Proc → List ℤ → List ℤ → Type 0
Contracted q env = λ zs. Shares (behind_requires q) zs env

contract_closed : (u : Activation) (env : List ℤ) → Sound u.program u.proc → IsClosed (Contracted u.proc env) (all_sets (map (stmt_of (reading u)) u.proc.body))
contract_closed u env ok zs slot x is shares = record {
  long = set_long zs slot x ∙ shares.long;
  alike = λ k shared.
      get_other zs slot k x (λ e.
      let kept = bodies_keep_contracts u.program.procs u.proc (reading u) slot ok.scoped is in
      let d : true ≡ false = sym shared ∙ subst (λ (j : ℕ). is_shared (sight_at (behind_requires u.proc) j) ≡ false) (sym e) kept in cc)
      ∙ shares.alike k shared;
}

nothing_fits : (g : Ground) → Fits [] (All g nothing) (λ (k : ℕ). pos 1) start
nothing_fits g = record { one = refl; facts = record { all = λ w e. tt }; env = all_none; owns = record { each = tt } }

-- the closing brace gives 0 back
brace_runs : (u : Activation) (m : ℕ) (scope : Scope) (Q : List ℤ → Type 0) (base : List Piece) (under : Heap) → Returns u m Q base under
    → Runs u m (closing (asrt_of u.proc.post) u.proc.last) [] scope Q base under
brace_runs u m scope Q base under returns k le xs slots env v s kept stance matches holds d =
    good_running u k [] env xs (λ j e possible. returns j (omega (arith, le, e)) xs slots v s nought (pos 0) u.proc.last possible kept stance holds (means_constant (pos 0)) d)

pub enters : (u : Activation) (m : ℕ) (xs : List Piece) (under : Heap) (numbers env : List ℤ) (need : Need) → Sound u.program u.proc → Walks u m → IsPossible xs → length numbers ≡ u.proc.params
    → asks (truth_of xs) u.proc.pre Plain (padded_numbers u.proc.slots numbers) ≡ Some need → AllKnown (ground_of xs) need.claims → Holds need.heap under (heap_of xs)
    → Matches (in_body (behind_requires u.proc)) env need.env → Returns u m (Contracted u.proc need.env) xs under → IsGood u m (config_of u u.proc.body env) xs
enters u m xs under numbers env need ok walks possible long asked known parts matches returns =
    let q = u.proc in
    let scope = in_body (behind_requires q) in
    let law = enter_fits q numbers need need.heap long (nothing_fits (ground_of xs)) asked known (λ k. line_none (need.heap k))
    (bounded xs need.heap possible (left_within need.heap under (heap_of xs) parts)) in
    let landed = each_lands nowhere (λ x s. block (map (stmt_of (reading u)) q.body) 0 s (closing (asrt_of q.post) q.last)) law ok.derived in
    subst (λ (stmts : List Stmt). IsGood u m (config_of u stmts env) xs) (append-nil q.body)
    (walks q.body scope scope 0 [] (closing (asrt_of q.post) q.last) (Contracted q need.env) xs under ok.fits.body (contracts_outside q) ok.well
    (bodies_are_declared u.program.procs q) (λ k number. number) (contract_closed u need.env ok)
    (brace_runs u m scope (Contracted q need.env) xs under returns) returns xs need.env env landed.numbers landed.state (kept_self xs under)
    (record { mine = need.heap; fits = landed.is; parts = parts }) matches (record { long = refl; alike = λ k shared. refl }) landed.derived)
  where
    line_none : (n : ℕ) → n + 0 ≤ n
    line_none n = omega arith

-- ---- a result is given back

pub return_moves : {scope : Scope} {Q : List ℤ → Type 0} {base : List Piece} {under : Heap} {xs : List Piece} {slots env : List ℤ} {v : Numbers} {s : State}
    (u : Activation) (m : ℕ) (stmt : Stmt) (rest : List Stmt) (e : Expr) (at : Span) → reads scope e ≡ true → Returns u m Q base under → At scope Q base under xs slots env v s
    → AllDerived (each at (return (asrt_of u.proc.post) (expr_of e) s) (λ x. path_ends at)) → IsGoodMove u m (act_move u.program (Act-F.Return e) stmt (frame_of u rest env) u.below) xs
return_moves {xs = xs} {slots = slots} {env = env} {v = v} {s = s} u m stmt rest e at seen returns there d =
    let fits = there.stance.fits in
    let read = each_here at (λ vars. term (expr_of e) vars >>= (λ t. finish (asrt_of u.proc.post) t)) (λ x. path_ends at) s d in
    let told = each_tells at _ (reads_term e fits fits.env) (each_followed at (λ t. finish (asrt_of u.proc.post) t) (λ x. path_ends at) (term (expr_of e) s.env s) read) in
    good_given u m (value_of e env) (returning u.target u.below) xs (λ x is.
    returns m (line_self m) xs slots v s told.gives x at there.possible there.kept there.stance there.holds (means_as (read_is e x there.matches seen is) told.is) told.derived)

-- ---- the caller

abbrev pub behind_call : Option ℕ → Scope → Scope
behind_call None scope = scope
behind_call (Some slot) scope = with_sight slot sight.Local scope

abbrev env_with : Option ℕ → ℤ → List ℤ → List ℤ
env_with None x env = env
env_with (Some slot) x env = slice_set env slot x

-- whether a call makes a symbol for its result
abbrev has_result : Option ℕ → Proc → Bool
has_result slot q = is_some slot || (asrt_of q.post).says

-- what a call does behind its `requires`
abbrev gains : Option ℕ → Proc → Env → Rule (Unit {0})
gains slot q terms = new_result (has_result slot q) >>= (λ t. gain_post (contract_of asrt_of q) terms t >> set_result slot t)

-- a caller waits
record Caller (u : Activation) (Q : List ℤ → Type 0) : Type 0 where
  q : Proc
  slot : Option ℕ
  rest : List Stmt
  after : Ends
  scope : Scope
  at : Span
  base : List Piece
  under : Heap
  start : List Piece
  slots : List ℤ
  env : List ℤ
  numbers : Numbers
  state : State
  terms : Env
  values : List ℤ
  left : Heap
  ok : Sound u.program q
  long : length values ≡ q.slots
  frame : Fits slots (All (ground_of start) left) numbers state
  means : AllMean state.next numbers terms values
  kept : Kept base under start
  matches : Matches scope env slots
  holds : Q slots
  closed : IsClosed Q (set_by_call slot)
  derived : AllDerived (each at (gains slot q terms state) (λ x. after))

target_is : (u : Activation) (slot : Option ℕ) (x : ℤ) (rest : List Stmt) (env : List ℤ) → running (set_target slot x (frame_of u rest env)) u.below ≡ config_of u rest (env_with slot x env)
target_is u None x rest env = refl
target_is u (Some slot) x rest env = refl

matches_with : (slot : Option ℕ) (x : ℤ) (says : Bool) (scope : Scope) (env slots : List ℤ) → Matches scope env slots
    → Matches (behind_call slot scope) (env_with slot x env) (numbers_set slots slot (result_number (is_some slot || says) x))
matches_with None x says scope env slots matches = matches
matches_with (Some slot) x says scope env slots matches = sees_same scope env slots slot sight.Local x matches

holds_with : (Q : List ℤ → Type 0) (slot : Option ℕ) (x : ℤ) (says : Bool) (slots : List ℤ) → IsClosed Q (set_by_call slot) → Q slots
    → Q (numbers_set slots slot (result_number (is_some slot || says) x))
holds_with Q None x says slots closed holds = holds
holds_with Q (Some slot) x says slots closed holds = closed_one Q slots slot x closed holds

result_more : {n k : ℕ} {v w : Numbers} (t : Option Combination) (x : Option ℤ) → Grows n v k w → ResultMeans n v t x → ResultMeans k w t x
result_more None None g h = tt
result_more None (Some x) g h = h
result_more (Some t) None g h = h
result_more (Some t) (Some x) g h = means_more g h

-- the `ensures` of a result, as the caller gains it
record Ensured (xs : List Piece) (q : Proc) (zs : List ℤ) (n : Need) : Type 0 where
  need : Need
  asked : asks (truth_of xs) q.post Plain zs ≡ Some need
  same : SameNeed n need

ensured : (p : Program) (q : Proc) (xs : List Piece) (values : List ℤ) (x : ℤ) (n : Need) (b : Bool) → Sound p q → length values ≡ q.slots → (b ≡ false → (asrt_of q.post).says ≡ false)
    → asks (truth_of xs) q.post Plain (values ++ x ∷ []) ≡ Some n → Ensured xs q (numbers_with values (result_number b x)) n
ensured p q xs values x n true ok long silent asked = record { need = n; asked = asked; same = record { heap = refl; claims = refl } }
ensured p q xs values x n false ok long silent asked =
    let alone = ensures_need_no_result p.procs q (truth_of xs) values x n ok.scoped long (silent refl) asked in
    record { need = alone.0; asked = alone.1; same = alone.2 }

goes_back : {Q : List ℤ → Type 0} (u : Activation) (m : ℕ) (p : Caller u Q) (xs : List Piece) (x : ℤ) (n : Need) → Runs u m p.after p.rest (behind_call p.slot p.scope) Q p.base p.under
    → IsPossible xs
    → Kept p.start (plus p.left p.under) xs → asks (truth_of xs) p.q.post Plain (p.values ++ x ∷ []) ≡ Some n → AllKnown (ground_of xs) n.claims → Holds n.heap (plus p.left p.under) (heap_of xs)
    → IsGood u m (running (set_target p.slot x (frame_of u p.rest p.env)) u.below) xs
goes_back {Q = Q} u m p xs x n runs possible kept asked known parts =
    let says = (asrt_of p.q.post).says in
    let b = has_result p.slot p.q in
    let o = result_number b x in
    let more = plus p.left n.heap in
    let holds = take_parts p.left n.heap p.under (heap_of xs) parts in
    let post = ensured u.program p.q xs p.values x n b p.ok p.long (λ e. (or_parts (is_some p.slot) says e).1) asked in
    let now = frame_fits p.left (kept_less p.left (plus p.left p.under) (λ k. line_plus_left (p.left k) (p.under k)) kept) p.frame in
    let law : Lands p.state.next p.numbers (λ (y : Unit {0}) t w. Fits (numbers_set p.slots p.slot o) (All (ground_of xs) more) w t) (gains p.slot p.q p.terms p.state) =
    lands_then (result_fits b x (all_lasts (ground_of xs) p.left) now) (λ t s1 w1 g1 r.
    lands_then (gain_post_fits p.q p.terms p.values t o post.need more r.0 (all_more g1 p.means) r.1 post.asked
    (subst (AllKnown (ground_of xs)) (sym post.same.claims) known) (subst (λ (h : Heap). Holds h p.left more) (sym post.same.heap) (λ k. line_swap (p.left k) (n.heap k)))
    (bounded xs more possible (left_within more p.under (heap_of xs) holds))) (λ y s2 w2 g2 fit.
    set_result_fits p.slot t o fit (result_more t o g2 r.1))) in
    let landed = each_lands p.at (λ y. p.after) law p.derived in
    subst (λ (c : Config). IsGood u m c xs) (sym (target_is u p.slot x p.rest p.env))
    (runs m (line_self m) xs (numbers_set p.slots p.slot o) (env_with p.slot x p.env) landed.numbers landed.state
    (kept_then p.kept (kept_less p.under (plus p.left p.under) (λ k. line_plus_right (p.left k) (p.under k)) kept))
    (record { mine = more; fits = landed.is; parts = holds }) (matches_with p.slot x says p.scope p.env p.slots p.matches) (holds_with Q p.slot x says p.slots p.closed p.holds) landed.derived)
  where
    line_swap : (a b : ℕ) → b + a ≤ a + b
    line_swap a b = omega arith

-- ---- the call

-- the procedure that was called
abbrev callee : {Q : List ℤ → Type 0} (u : Activation) → Caller u Q → Activation
callee u p = record { program = u.program; debt = u.debt; proc = p.q; target = p.slot; below = frame_of u p.rest p.env ∷ u.below }

line_given : (m l n f u h : ℕ) → m ≡ l + n → m + (f + u) ≤ h → n + (f + u) ≤ h
line_given m l n f u h e p = omega arith

caller_returns : {Q : List ℤ → Type 0} (u : Activation) (m : ℕ) (p : Caller u Q) → Runs u m p.after p.rest (behind_call p.slot p.scope) Q p.base p.under
    → Returns (callee u p) m (Contracted p.q p.values) p.start (plus p.left p.under)
caller_returns u m p runs k le xs zs v s t x at possible kept stance shares means d =
    let landed = each_lands at (λ y. path_ends at) (finish_fits p.q.post t x stance.fits means) d in
    let gives = landed.is.gives in
    let seen = ensures_seen u.program.procs p.q (truth_of xs) zs p.values x gives.need p.ok.scoped (shares.long ∙ p.long) shares gives.is in
    good_local u k (running (set_target p.slot x (frame_of u p.rest p.env)) u.below) xs
    (goes_back u k p xs x seen.0 (λ j less. runs j (omega (arith, less, le))) possible kept seen.1 (subst (AllKnown (ground_of xs)) (sym seen.2.claims) gives.known)
    (subst (λ (h : Heap). Holds h (plus p.left p.under) (heap_of xs)) (sym seen.2.heap)
    (λ j. line_given (stance.mine j) (gives.left j) (gives.need.heap j) (p.left j) (p.under j) (heap_of xs j) (gives.parts j) (stance.parts j))))

call_enters : {scope : Scope} {Q : List ℤ → Type 0} {base : List Piece} {under : Heap} {xs : List Piece} {slots env : List ℤ} {v : Numbers} {s : State}
    (u : Activation) (m : ℕ) (after : Ends) (rest : List Stmt) (slot : Option ℕ) (proc : ℕ) (args : List Expr) (at : Span) (q : Proc) (vs : List ℤ)
    → ((w : Activation) → IsDerived w.program → Walks w m) → IsDerived u.program → slice_get u.program.procs proc ≡ Some q → arguments_fit scope q.banks 0 args ≡ true → scope.in_ensures ≡ false
    → length args ≡ q.params → arguments_from q.banks 0 args env ≡ Some vs → IsClosed Q (set_by_call slot) → Runs u m after rest (behind_call slot scope) Q base under
    → At scope Q base under xs slots env v s
    → AllDerived (each at (call (setting_of asrt_of u.program) slot proc (map expr_of args) s) (λ x. after))
    → IsGood u m (running (record { stmts = q.body; env = padded_numbers q.slots vs; target = slot }) (frame_of u rest env ∷ u.below)) xs
call_enters {scope = scope} {Q = Q} {base = base} {under = under} {xs = xs} {slots = slots} {env = env} {s = s} u m after rest slot proc args at q vs walks derived is fit out count passed closed runs there d =
    let setting = setting_of asrt_of u.program in
    let es = map expr_of args in
    let fits = there.stance.fits in
    let read = each_here at (λ vars. terms es vars >>= (λ ts. call_proc slot (slice_get setting.procs proc) ts)) (λ x. after) s d in
    let told = each_tells at _ (reads_terms args fits fits.env) (each_followed at (λ ts. call_proc slot (slice_get setting.procs proc) ts) (λ x. after) (terms es s.env s) read) in
    let contract : slice_get setting.procs proc ≡ Some (contract_of asrt_of q) = slice_get-map (contract_of asrt_of) u.program.procs proc ∙ ap (option_map (contract_of asrt_of)) is in
    let known = subst (λ (c : Option Contract). AllDerived (each at (call_proc slot c told.gives s) (λ x. after))) contract told.derived in
    let pre = each_lands at _ (give_pre_fits q told.gives (exact_all args slots) fits told.is)
    (each_followed at (λ e. gains slot q e) (λ x. after) (give_pre (contract_of asrt_of q) told.gives s) known) in
    let gives = pre.is in
    let ok = sound u.program proc q derived is in
    let many = length-map args _ ∙ count in
    let long = env_long u.program q xs (exact_all args slots) gives.need ok many gives.is in
    let seen = starts_seen u.program.procs q scope args env slots vs (truth_of xs) Plain gives.need ok.scoped out count fit there.matches.sees passed gives.is in
    let p : Caller u Q = record {
      q = q;
      slot = slot;
      rest = rest;
      after = after;
      scope = scope;
      at = at;
      base = base;
      under = under;
      start = xs;
      slots = slots;
      env = env;
      numbers = pre.numbers;
      state = pre.state;
      terms = pre.gives;
      values = gives.need.env;
      left = gives.left;
      ok = ok;
      long = long;
      frame = gives.fits;
      means = gives.env;
      kept = there.kept;
      matches = there.matches;
      holds = there.holds;
      closed = closed;
      derived = pre.derived;
    } in
    let parts = give_parts there.stance.mine gives.left gives.need.heap under (heap_of xs) gives.parts there.stance.parts in
    enters (callee u p) m xs (plus gives.left under) (exact_all args slots) (padded_numbers q.slots vs) gives.need ok (walks (callee u p) derived) there.possible many gives.is gives.known parts
    (record { long = padded_long q.slots vs (let r = ok.fits.room in let l = seen.0 in omega (arith, r, l)) ∙ sym long; sees = seen.1 })
    (caller_returns u m p runs)

pub call_moves : {scope : Scope} {Q : List ℤ → Type 0} {base : List Piece} {under : Heap} {xs : List Piece} {slots env : List ℤ} {v : Numbers} {s : State}
    (u : Activation) (m : ℕ) (after : Ends) (stmt : Stmt) (rest : List Stmt) (slot : Option ℕ) (proc : ℕ) (args : List Expr) (at : Span)
    → ((w : Activation) → IsDerived w.program → Walks w m) → IsDerived u.program → passes u.program.procs scope proc args ≡ true → scope.in_ensures ≡ false → call_fits u.program proc args ≡ true
    → IsClosed Q (set_by_call slot) → Runs u m after rest (behind_call slot scope) Q base under → At scope Q base under xs slots env v s
    → AllDerived (each at (call (setting_of asrt_of u.program) slot proc (map expr_of args) s) (λ x. after))
    → IsGoodMove u m (act_move u.program (Act-F.Call slot proc args) stmt (frame_of u rest env) u.below) xs
call_moves {scope = scope} {xs = xs} {env = env} u m after stmt rest slot proc args at walks derived fit out takes closed runs there d =
    by_proc (slice_get u.program.procs proc) refl fit takes
  where
    by_args : (q : Proc) (o : Option (List ℤ)) → arguments_from q.banks 0 args env ≡ o → slice_get u.program.procs proc ≡ Some q → arguments_fit scope q.banks 0 args ≡ true → length args ≡ q.params
        → IsGoodMove u m (calling (Some q) slot o (frame_of u rest env ∷ u.below)) xs
    by_args q None passed is fit count = good_halting u m xs
    by_args q (Some vs) passed is fit count =
        good_local u m (running (record { stmts = q.body; env = padded_numbers q.slots vs; target = slot }) (frame_of u rest env ∷ u.below)) xs
        (call_enters u m after rest slot proc args at q vs walks derived is fit out count passed closed runs there d)

    by_proc : (o : Option Proc) → slice_get u.program.procs proc ≡ o → passes_to scope args o ≡ true → proc_takes args o ≡ true
        → IsGoodMove u m (calling o slot (arguments_of o args env) (frame_of u rest env ∷ u.below)) xs
    by_proc None is fit takes = absurd (let e : false ≡ true = fit in cc)
    by_proc (Some q) is fit takes = by_args q (arguments_from q.banks 0 args env) refl is fit (sym (eqb-true q.params (length args) takes))
