-- Loops: every round begins with the invariant and gives it back, beside what the frame of the loop has.
use Rattle.std.proofs.Common.{◌≡◌, ℕ, zero, suc, ◌+◌, ◌<◌, ◌≤◌, ◌==◌, Bool, true, false, ◌||◌, if◌then◌else◌, List}
use Rattle.std.proofs.Common.{[], ◌∷◌, ◌++◌, length, map, Option, Some, None, ℤ, slice_get, refl, sym, subst, ◌∙◌, arith}
use Rattle.std.specs.List.{list_all, list_any}
use Rattle.std.proofs.lemmas.Bool.{and_parts, eqb-true, or_left}
use Rattle.fsl_core.specs.declared.act.Act.{Act}
use Rattle.fsl_core.specs.declared.act.Act.TheOpen.{Act-F}
use Rattle.fsl_core.specs.declared.act.Act.TheViews.{out-Act}
use Rattle.fsl_core.specs.declared.act.Stmt.{Stmt}
use Rattle.fsl_core.specs.declared.assertion.Asrt.{Asrt}
use Rattle.fsl_core.specs.declared.expr.Cond.{Cond}
use Rattle.fsl_core.specs.declared.mode.Rung.TheVariants.{Plain}
use Rattle.fsl_core.specs.declared.scope.Scope.{Scope}
use Rattle.fsl_core.specs.declared.scope.Sight.{Sight}
use Rattle.fsl_core.specs.declared.scope.Sight.TheVariants as sight
use Rattle.fsl_core.specs.Moves.{Config, running, branching, with_stmts, act_move}
use Rattle.fsl_core.specs.Scopes.{is_number, is_bank, is_settable, sight_at, in_loop, tests, asrt_scoped, block_scoped}
use Rattle.fsl_core.specs.Values.{holds_of}
use Rattle.fsl_core.specs.WellFormed.{stmt_fits}
use Rattle.fsl_core.specs.logic.States.{State, ◌>>◌}
use Rattle.fsl_core.specs.logic.Terms.{expr_of}
use Rattle.fsl_core.specs.logic.Deciding.{cond_of}
use Rattle.fsl_core.specs.logic.Assertions.{asrt_of}
use Rattle.fsl_core.specs.logic.Paths.{Ends, each, all_sets, stmt_of, path_ends, round, give_inv, drop_chunks, body_ends, behind_ends}
use Rattle.fsl_lin.specs.Numbers.{Numbers}
use Rattle.fsl_meaning.specs.Heaps.{Heap, Holds, nothing, AllKnown}
use Rattle.fsl_meaning.specs.States.{All, Fits}
use Rattle.fsl_meaning.specs.Branches.{Lands}
use Rattle.fsl_meaning.proofs.Calculus.{lands_then}
use Rattle.fsl_asserted.specs.Exact.{exact_cond}
use Rattle.fsl_asserted.specs.Needs.{Need, asks}
use Rattle.fsl_kept.specs.Calls.{renewed}
use Rattle.fsl_kept.proofs.Calls.{round_fits, give_inv_fits, drop_fits}
use Rattle.fsl_good.specs.Pieces.{Piece, IsPossible}
use Rattle.fsl_held.specs.Heaps.{heap_of, truth_of, ground_of, Kept}
use Rattle.fsl_scoped.specs.Assertions.{is_shared, Shares}
use Rattle.fsl_scoped.proofs.Lists.{get_other}
use Rattle.fsl_scoped.proofs.Assertions.{assertions_seen}
use Rattle.fsl_scoped.proofs.Exactly.{tests_exact}
use Rattle.fsl_scoped.proofs.Setting.{blocks_set_their_own}
use Rattle.fsl_walk.specs.Stances.{AllDerived, Activation, reading, config_of, IsGood, IsGoodMove, Matches, Runs, Returns}
use Rattle.fsl_walk.specs.Walks.{AreDeclared, IsClosed, Walks}
use Rattle.fsl_walk.proofs.Slots.{set_long, renewed_long, renewed_same, renewed_other, closed_renewed}
use Rattle.fsl_walk.proofs.Rounds.{kept_self, kept_less, kept_then, frame_fits, bounded, left_within, plus, take_parts, under_less, line_plus_left, line_plus_right}
use Rattle.fsl_walk.proofs.Steps.{each_lands, good_running, good_local, good_halting}
use Rattle.fsl_walk.proofs.Showing.{frame_of, line_self}

-- ---- what a loop changes

all_any : (f : ℕ → Bool) (slots : List ℕ) (slot : ℕ) → list_all f slots ≡ true → list_any (λ s. s == slot) slots ≡ true → f slot ≡ true
all_any f [] slot h i = absurd (cc)
all_any f (x ∷ xs) slot h i = by_head (x == slot) refl i (and_parts (f x) (list_all f xs) h).0 (all_any f xs slot (and_parts (f x) (list_all f xs) h).1)
  where
    by_head : (b : Bool) → (x == slot) ≡ b → (b || list_any (λ s. s == slot) xs) ≡ true → f x ≡ true → (list_any (λ s. s == slot) xs ≡ true → f slot ≡ true) → f slot ≡ true
    by_head true e i here more = subst (λ (k : ℕ). f k ≡ true) (eqb-true x slot e) here
    by_head false e i here more = more i

local_by : (s : Sight) → is_settable s ≡ true → is_shared s ≡ true → s ≡ sight.Local
local_by sight.Free h i = absurd (let e : false ≡ true = i in cc)
local_by sight.Kept h i = absurd (let e : false ≡ true = i in cc)
local_by sight.Given h i = absurd (let e : false ≡ true = h in cc)
local_by sight.Bound h i = absurd (let e : false ≡ true = h in cc)
local_by sight.Local h i = refl
local_by sight.Bank h i = absurd (let e : false ≡ true = h in cc)
local_by sight.Either h i = absurd (let e : false ≡ true = h in cc)

-- but for the variables that a loop sets, the numbers are those of its frame
pub record Turned (sets : List ℕ) (slots zs : List ℤ) : Type 0 where
  pub long : length zs ≡ length slots
  pub same : (k : ℕ) → list_any (λ s. s == k) sets ≡ false → slice_get zs k ≡ slice_get slots k

turned_closed : (sets : List ℕ) (slots : List ℤ) → IsClosed (Turned sets slots) sets
turned_closed sets slots zs slot x is turned = record {
  long = set_long zs slot x ∙ turned.long;
  same = λ k other.
      get_other zs slot k x (λ e. let d : true ≡ false = sym is ∙ subst (λ (j : ℕ). list_any (λ s. s == j) sets ≡ false) e other in cc)
      ∙ turned.same k other;
}

-- ---- a loop that runs

-- the loop, and the state of the path where it was come to, without the invariant
pub record Loop (u : Activation) (Q : List ℤ → Type 0) : Type 0 where
  pub stmt : Stmt
  pub cond : Cond
  pub inv : Asrt
  pub body : List Stmt
  pub rest : List Stmt
  pub after : Ends
  pub declared : ℕ
  pub scope : Scope
  pub base : List Piece
  pub under : Heap
  pub is : out-Act stmt.act ≡ Act-F.While cond inv body
  pub tests : tests scope cond ≡ true
  pub speaks : (asrt_scoped inv).fits scope ≡ true
  pub scoped : (block_scoped u.program.procs body).fits (in_loop scope) ≡ true
  pub outside : scope.in_ensures ≡ false
  pub well : list_all (stmt_fits u.program) body ≡ true
  pub are_declared : AreDeclared scope declared
  pub closed : IsClosed Q (all_sets (map (stmt_of (reading u)) body))
  pub start : List Piece
  pub slots : List ℤ
  pub numbers : Numbers
  pub state : State
  pub left : Heap
  pub frame : Fits slots (All (ground_of start) left) numbers state
  pub kept : Kept base under start
  pub holds : Q slots
  pub turns : AllDerived (body_ends (cond_of expr_of cond) (asrt_of inv) (map (stmt_of (reading u)) body) stmt.span declared state)
  pub ends : AllDerived (behind_ends (cond_of expr_of cond) (asrt_of inv) (map (stmt_of (reading u)) body) stmt.span declared after state)

abbrev pub sets_of : {Q : List ℤ → Type 0} → (u : Activation) → Loop u Q → List ℕ
sets_of u p = all_sets (map (stmt_of (reading u)) p.body)

-- the numbers of a round, by those that its variables have
abbrev pub turn_of : {Q : List ℤ → Type 0} → (u : Activation) → Loop u Q → List ℤ → List ℤ
turn_of u p ys = renewed p.declared (sets_of u p) ys p.slots

-- the invariant is there
pub record Head {Q : List ℤ → Type 0} (u : Activation) (p : Loop u Q) (xs : List Piece) (ys env : List ℤ) : Type 0 where
  pub possible : IsPossible xs
  pub need : Need
  pub asked : asks (truth_of xs) p.inv Plain (turn_of u p ys) ≡ Some need
  pub known : AllKnown (ground_of xs) need.claims
  pub parts : Holds need.heap (plus p.left p.under) (heap_of xs)
  pub kept : Kept p.start (plus p.left p.under) xs
  pub matches : Matches p.scope env (turn_of u p ys)

local_below : {Q : List ℤ → Type 0} (u : Activation) (p : Loop u Q) (k : ℕ) → list_any (λ s. s == k) (sets_of u p) ≡ true → is_shared (sight_at p.scope k) ≡ true → k < p.declared
local_below u p k set shared =
    let settable = blocks_set_their_own u.program.procs (reading u) p.body (in_loop p.scope) p.scoped in
    p.are_declared k (local_by (sight_at p.scope k) (all_any (λ slot. is_settable (sight_at p.scope slot)) (sets_of u p) k settable set) shared)

-- the numbers of a round are those that the body leaves, as far as they are seen
turn_alike : {Q : List ℤ → Type 0} (u : Activation) (p : Loop u Q) (zs : List ℤ) (k : ℕ) (b : Bool) → list_any (λ s. s == k) (sets_of u p) ≡ b → Turned (sets_of u p) p.slots zs
    → is_shared (sight_at p.scope k) ≡ true → slice_get zs k ≡ slice_get (turn_of u p zs) k
turn_alike u p zs k true set turned shared = sym (renewed_same p.declared (sets_of u p) zs p.slots k set (local_below u p k set shared) turned.long)
turn_alike u p zs k false set turned shared = turned.same k set ∙ sym (renewed_other p.declared (sets_of u p) zs p.slots k set)

turn_shares : {Q : List ℤ → Type 0} (u : Activation) (p : Loop u Q) (zs : List ℤ) → Turned (sets_of u p) p.slots zs → Shares p.scope zs (turn_of u p zs)
turn_shares u p zs turned = record {
  long = turned.long ∙ sym (renewed_long p.declared (sets_of u p) zs p.slots);
  alike = λ k shared. turn_alike u p zs k (list_any (λ s. s == k) (sets_of u p)) refl turned shared;
}

pub number_shared : (s : Sight) → is_number s ≡ true → is_shared s ≡ true
number_shared s h = or_left (is_number s) (is_bank s) h

-- the body, or what comes to the loop, gives the invariant
head_by : {Q : List ℤ → Type 0} (u : Activation) (p : Loop u Q) (xs : List Piece) (zs env : List ℤ) (need : Need) → Turned (sets_of u p) p.slots zs → Matches p.scope env zs → IsPossible xs
    → Kept p.start (plus p.left p.under) xs → asks (truth_of xs) p.inv Plain zs ≡ Some need → AllKnown (ground_of xs) need.claims → Holds need.heap (plus p.left p.under) (heap_of xs)
    → Head u p xs zs env
head_by u p xs zs env need turned matches possible kept asked known parts =
    let shares = turn_shares u p zs turned in
    let seen = assertions_seen p.scope p.inv (truth_of xs) Plain zs (turn_of u p zs) need p.outside p.speaks shares asked in
    record {
      possible = possible;
      need = seen.0;
      asked = seen.1;
      known = subst (AllKnown (ground_of xs)) (sym seen.2.claims) known;
      parts = subst (λ (h : Heap). Holds h (plus p.left p.under) (heap_of xs)) (sym seen.2.heap) parts;
      kept = kept;
      matches = record { long = matches.long ∙ shares.long; sees = λ k number. matches.sees k number ∙ shares.alike k (number_shared (sight_at p.scope k) number) };
    }

-- ---- rounds

pub good_branching : (u : Activation) (m : ℕ) (o : Option Bool) (after : Bool → Config) (xs : List Piece) → ((b : Bool) → o ≡ Some b → IsGood u m (after b) xs) → IsGoodMove u m (branching o after) xs
good_branching u m None after xs k = good_halting u m xs
good_branching u m (Some b) after xs k = good_local u m (after b) xs (k b refl)

line_none : (n : ℕ) → n + 0 ≤ n
line_none n = omega arith

line_swap : (a b : ℕ) → b + a ≤ a + b
line_swap a b = omega arith

frame_now : {Q : List ℤ → Type 0} (u : Activation) (p : Loop u Q) (xs : List Piece) (ys env : List ℤ) → Head u p xs ys env → Fits p.slots (All (ground_of xs) p.left) p.numbers p.state
frame_now u p xs ys env head = frame_fits p.left (kept_less p.left (plus p.left p.under) (λ k. line_plus_left (p.left k) (p.under k)) head.kept) p.frame

base_now : {Q : List ℤ → Type 0} (u : Activation) (p : Loop u Q) (xs : List Piece) → Kept p.start (plus p.left p.under) xs → Kept p.base p.under xs
base_now u p xs kept = kept_then p.kept (kept_less p.under (plus p.left p.under) (λ k. line_plus_right (p.left k) (p.under k)) kept)

-- the condition is false: the state has what the frame has and the invariant
ends_turning : {Q : List ℤ → Type 0} (u : Activation) (m : ℕ) (p : Loop u Q) (xs : List Piece) (ys env : List ℤ) → Runs u m p.after p.rest p.scope Q p.base p.under
    → Head u p xs ys env → exact_cond p.cond (turn_of u p ys) ≡ false → IsGood u m (config_of u p.rest env) xs
ends_turning {Q = Q} u m p xs ys env runs head e =
    let h = plus p.left head.need.heap in
    let parts = take_parts p.left head.need.heap p.under (heap_of xs) head.parts in
    let rule = round_fits p.cond p.inv p.declared (sets_of u p) ys head.need h (frame_now u p xs ys env head) head.asked head.known (λ k. line_swap (p.left k) (head.need.heap k))
    (bounded xs h head.possible (left_within h p.under (heap_of xs) parts)) in
    let law = subst (λ (b : Bool). Lands p.state.next p.numbers (λ (x : Unit {0}) t w. Fits (turn_of u p ys) (All (ground_of xs) h) w t)
    (round b (cond_of expr_of p.cond) (asrt_of p.inv) p.declared (sets_of u p) p.state)) e rule in
    let landed = each_lands p.stmt.span (λ x. p.after) law p.ends in
    runs m (line_self m) xs (turn_of u p ys) env landed.numbers landed.state (base_now u p xs head.kept) (record { mine = h; fits = landed.is; parts = parts }) head.matches
    (closed_renewed Q p.declared (sets_of u p) ys p.slots p.closed p.holds) landed.derived

-- what holds of the numbers in the body
abbrev pub Within : {Q : List ℤ → Type 0} → (u : Activation) → Loop u Q → List ℤ → Type 0
Within {Q = Q} u p zs = Q zs × Turned (sets_of u p) p.slots zs

within_closed : {Q : List ℤ → Type 0} (u : Activation) (p : Loop u Q) → IsClosed (Within u p) (sets_of u p)
within_closed u p zs slot x is w = (p.closed zs slot x is w.0, turned_closed (sets_of u p) p.slots zs slot x is w.1)

within_turn : {Q : List ℤ → Type 0} (u : Activation) (p : Loop u Q) (ys : List ℤ) → Within u p (turn_of u p ys)
within_turn {Q = Q} u p ys = (
  closed_renewed Q p.declared (sets_of u p) ys p.slots p.closed p.holds,
  record { long = renewed_long p.declared (sets_of u p) ys p.slots; same = λ k other. renewed_other p.declared (sets_of u p) ys p.slots k other },
)

-- a result that the body gives back is one that the procedure gives back
within_returns : {Q : List ℤ → Type 0} (u : Activation) (m : ℕ) (p : Loop u Q) → Returns u m Q p.base p.under → Returns u m (Within u p) p.start (plus p.left p.under)
within_returns u m p returns k le xs slots v s t x at possible kept stance w means d =
    returns k le xs slots v s t x at possible (base_now u p xs kept)
    (record { mine = stance.mine; fits = stance.fits; parts = under_less stance.mine p.left p.under (heap_of xs) stance.parts }) w.0 means d

-- the body runs with nothing but the invariant
turns_round : {Q : List ℤ → Type 0} (u : Activation) (m : ℕ) (p : Loop u Q) (xs : List Piece) (ys env : List ℤ) → Walks u m → Returns u m Q p.base p.under
    → Runs u m (λ t. each p.stmt.span (give_inv (asrt_of p.inv) t) (λ y. path_ends p.stmt.span)) (p.stmt ∷ p.rest) p.scope (Within u p) p.start (plus p.left p.under)
    → Head u p xs ys env → exact_cond p.cond (turn_of u p ys) ≡ true → IsGood u m (config_of u (p.body ++ p.stmt ∷ p.rest) env) xs
turns_round u m p xs ys env walks returns again head e =
    let h = head.need.heap in
    let rule = λ (b : Bool). Lands p.state.next p.numbers (λ (x : Unit {0}) t w. Fits (turn_of u p ys) (All (ground_of xs) h) w t)
    ((drop_chunks >> round b (cond_of expr_of p.cond) (asrt_of p.inv) p.declared (sets_of u p)) p.state) in
    let law = lands_then (drop_fits nothing (frame_now u p xs ys env head)) (λ x t w g fits.
    round_fits p.cond p.inv p.declared (sets_of u p) ys head.need h fits head.asked head.known (λ k. line_none (h k))
    (bounded xs h head.possible (left_within h (plus p.left p.under) (heap_of xs) head.parts))) in
    let landed = each_lands p.stmt.span _ (subst rule e law) p.turns in
    walks p.body (in_loop p.scope) p.scope p.declared (p.stmt ∷ p.rest) (λ t. each p.stmt.span (give_inv (asrt_of p.inv) t) (λ y. path_ends p.stmt.span))
    (Within u p) p.start (plus p.left p.under) p.scoped p.outside p.well p.are_declared (λ k number. number) (within_closed u p) again (within_returns u m p returns)
    xs (turn_of u p ys) env landed.numbers landed.state head.kept (record { mine = h; fits = landed.is; parts = head.parts })
    (record { long = head.matches.long; sees = head.matches.sees }) (within_turn u p ys) landed.derived

abbrev pub LoopMove : {Q : List ℤ → Type 0} → (u : Activation) → ℕ → Loop u Q → List ℤ → List Piece → Type 0
LoopMove u m p env xs = IsGoodMove u m (act_move u.program (Act-F.While p.cond p.inv p.body) p.stmt (frame_of u p.rest env) u.below) xs

-- the body gives the invariant back, and the next round begins
turns_again : {Q : List ℤ → Type 0} (u : Activation) (m : ℕ) (p : Loop u Q)
    → ((k : ℕ) → k < m → (xs : List Piece) (ys env : List ℤ) → Head u p xs ys env → LoopMove u k p env xs)
    → Runs u m (λ t. each p.stmt.span (give_inv (asrt_of p.inv) t) (λ y. path_ends p.stmt.span)) (p.stmt ∷ p.rest) p.scope (Within u p) p.start (plus p.left p.under)
turns_again u m p next j le xs slots env v s kept stance matches w d =
    let landed = each_lands p.stmt.span (λ y. path_ends p.stmt.span) (give_inv_fits p.inv stance.fits) d in
    let gives = landed.is.gives in
    good_running u j (p.stmt ∷ p.rest) env xs (λ k e possible.
    subst (λ (l : Act-F Act Stmt). IsGoodMove u k (act_move u.program l p.stmt (frame_of u p.rest env) u.below) xs) (sym p.is)
    (next k (omega (arith, le, e)) xs slots env
    (head_by u p xs slots env gives.need w.1 matches possible kept gives.is gives.known
    (λ k. line_given (stance.mine k) (gives.left k) (gives.need.heap k) (p.left k) (p.under k) (heap_of xs k) (gives.parts k) (stance.parts k)))))
  where
    line_given : (m l n f u h : ℕ) → m ≡ l + n → m + (f + u) ≤ h → n + (f + u) ≤ h
    line_given m l n f u h e p = omega arith

turn : {Q : List ℤ → Type 0} (u : Activation) (m : ℕ) (p : Loop u Q) (xs : List Piece) (ys env : List ℤ) → Walks u m → Runs u m p.after p.rest p.scope Q p.base p.under → Returns u m Q p.base p.under
    → ((k : ℕ) → k < m → (xs : List Piece) (ys env : List ℤ) → Head u p xs ys env → LoopMove u k p env xs)
    → Head u p xs ys env → (b : Bool) → exact_cond p.cond (turn_of u p ys) ≡ b → IsGood u m (config_of u (if b then p.body ++ p.stmt ∷ p.rest else p.rest) env) xs
turn u m p xs ys env walks runs returns next head true e = turns_round u m p xs ys env walks returns (turns_again u m p next) head e
turn u m p xs ys env walks runs returns next head false e = ends_turning u m p xs ys env runs head e

pub runs_less : {Q : List ℤ → Type 0} {base : List Piece} {under : Heap} {stmts : List Stmt} {scope : Scope} (after : Ends) (u : Activation) (m k : ℕ) → k ≤ m
    → Runs u m after stmts scope Q base under → Runs u k after stmts scope Q base under
runs_less after u m k less runs j le = runs j (omega (arith, less, le))

pub returns_less : {Q : List ℤ → Type 0} {base : List Piece} {under : Heap} (u : Activation) (m k : ℕ) → k ≤ m → Returns u m Q base under → Returns u k Q base under
returns_less u m k less returns j le = returns j (omega (arith, less, le))

-- the head of the loop, as long as there are moves
heads : {Q : List ℤ → Type 0} (bound : ℕ) (u : Activation) (m : ℕ) (p : Loop u Q) → m < bound → ((k : ℕ) → k ≤ m → Walks u k) → Runs u m p.after p.rest p.scope Q p.base p.under
    → Returns u m Q p.base p.under
    → (xs : List Piece) (ys env : List ℤ) → Head u p xs ys env → LoopMove u m p env xs
heads zero u m p less walks runs returns xs ys env head = absurd (omega arith)
heads (suc bound) u m p less walks runs returns xs ys env head =
    good_branching u m (holds_of p.cond env) (λ b. running (with_stmts (if b then p.body ++ p.stmt ∷ p.rest else p.rest) (frame_of u p.rest env)) u.below) xs (λ b is.
    turn u m p xs ys env (walks m (line_self m)) runs returns
    (λ k below zs zs2 zs3 there. heads bound u k p (omega (arith, below, less)) (λ j le. walks j (omega (arith, le, below))) (runs_less p.after u m k (omega (arith, below)) runs)
    (returns_less u m k (omega (arith, below)) returns) zs zs2 zs3 there)
    head b (tests_exact p.scope env (turn_of u p ys) head.matches.sees p.cond b p.tests is))

line_below : (m : ℕ) → m < suc m
line_below m = omega arith

pub loop_moves : {Q : List ℤ → Type 0} (u : Activation) (m : ℕ) (p : Loop u Q) → ((k : ℕ) → k ≤ m → Walks u k) → Runs u m p.after p.rest p.scope Q p.base p.under → Returns u m Q p.base p.under
    → (env : List ℤ) (need : Need) → IsPossible p.start → Matches p.scope env p.slots → asks (truth_of p.start) p.inv Plain p.slots ≡ Some need → AllKnown (ground_of p.start) need.claims
    → Holds need.heap (plus p.left p.under) (heap_of p.start) → LoopMove u m p env p.start
loop_moves u m p walks runs returns env need possible matches asked known parts =
    heads (suc m) u m p (line_below m) walks runs returns p.start p.slots env
    (head_by u p p.start p.slots env need (record { long = refl; same = λ k other. refl }) matches possible (kept_self p.start (plus p.left p.under)) asked known parts)
