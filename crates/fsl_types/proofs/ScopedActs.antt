-- What is made of a part of a statement without faults is read in each scope that shows the names there: what sets a
-- variable, what is called, and the steps of tokens; and slots and banks that statements take.
use Rattle.std.proofs.Common.{◌≡◌, ℕ, ◌+◌, ◌≤◌, Bool, true, false, true≢false, ◌&&◌, List, [], ◌∷◌, ◌++◌, Option, Some, None, is_some, map, length, slice_get, nat_le, refl, ap, sym, ◌∙◌, subst, arith, append_assoc, append-nil, length-append, leb-true, le-leb}
use Rattle.std.proofs.lemmas.Bool.{and_from, and_parts, not-false}
use Rattle.std.proofs.lemmas.List.{set-get_or}
use Rattle.std.proofs.lemmas.List.Folds.{list_all-append}
use Rattle.std.specs.List.{list_all}
use Rattle.fsl_base.specs.declared.span.Span.{Span}
use Rattle.fsl_core.specs.declared.act.Act.{Act, map-Act}
use Rattle.fsl_core.specs.declared.act.Act.TheFolds.{fold-roll-Act, fold_out-Stmt}
use Rattle.fsl_core.specs.declared.act.Act.TheOpen.{Act-F}
use Rattle.fsl_core.specs.declared.act.Act.TheVariants.{rolls-Set, rolls-AllocNa, rolls-AllocAt, rolls-Load, rolls-Cas, rolls-Add, rolls-Swap, rolls-Call}
use Rattle.fsl_core.specs.declared.act.Act.TheViews.{roll-Act}
use Rattle.fsl_core.specs.declared.act.Called.{Called}
use Rattle.fsl_core.specs.declared.act.Step.{Step as TokenStep}
use Rattle.fsl_core.specs.declared.act.Stmt.{Stmt}
use Rattle.fsl_core.specs.declared.declaration.Proc.{Proc}
use Rattle.fsl_core.specs.declared.expr.Expr.{Expr}
use Rattle.fsl_core.specs.declared.mode.Mode.{Mode as CoreMode}
use Rattle.fsl_core.specs.declared.scope.Scope.{Scope}
use Rattle.fsl_core.specs.declared.scope.Sight.{Sight as Visibility}
use Rattle.fsl_core.specs.declared.scope.Sight.TheVariants as visible
use Rattle.fsl_core.specs.Scopes.{Scoped, act_scoped, act_step, inst_reads, is_number, is_settable, passes, passes_to, reads, sets, sight_at, step_reads, steps_read, stmt_scoped, stmt_step, with_sight}
use Rattle.fsl_tree.specs.declared.expression.Arguments.{Arguments}
use Rattle.fsl_tree.specs.declared.expression.Use.{Use}
use Rattle.fsl_tree.specs.declared.right_side.Allocation.{Allocation}
use Rattle.fsl_tree.specs.declared.right_side.Allocation.TheVariants as allocations
use Rattle.fsl_tree.specs.declared.right_side.RightSide.{RightSide}
use Rattle.fsl_tree.specs.declared.right_side.RightSide.TheVariants as right_sides
use Rattle.fsl_tree.specs.declared.right_side.Step.{Step}
use Rattle.fsl_tree.specs.declared.right_side.StepLine.{StepLine}
use Rattle.fsl_tree.specs.declared.right_side.UpdateWord.{UpdateWord}
use Rattle.fsl_tree.specs.declared.right_side.UpdateWord.TheVariants as update_words
use Rattle.fsl_tree.specs.declared.right_side.With.{With}
use Rattle.fsl_tree.specs.declared.statement.ParallelCall.{ParallelCall}
use Rattle.fsl_types.specs.declared.fault.Fault.{Fault}
use Rattle.fsl_types.specs.declared.occurrence.Due.TheVariants as due
use Rattle.fsl_types.specs.declared.occurrence.Occurrence.TheVariants as occurrence
use Rattle.fsl_types.specs.declared.resolver.Resolver.{Resolver}
use Rattle.fsl_types.specs.declared.variable.Signature.{Signature}
use Rattle.fsl_types.specs.declared.variable.Sort.{Sort}
use Rattle.fsl_types.specs.declared.variable.Sort.TheVariants as sorts
use Rattle.fsl_types.specs.declared.variable.Variable.{Variable}
use Rattle.fsl_types.specs.Expressions.{Sight, banks_of, expression_of, fits, in_turn, instance_of, judged_use, number_of, numbered_arguments, signature_at}
use Rattle.fsl_types.specs.Faults.{is_due}
use Rattle.fsl_types.specs.Given.{Given}
use Rattle.fsl_types.specs.Names.{Names, found, slot_of, sort_of, text_at}
use Rattle.fsl_types.specs.Resolvers.{declared}
use Rattle.fsl_types.specs.Statements.{allocation_of, called, judged_allocation, judged_call, judged_right_side, judged_step, judged_step_line, judged_steps, right_side_of, step_line_of, step_of, steps_of, stmt, updated}
use Rattle.fsl_types.proofs.ExpressionsLemmas.{Keeps, each_grows, number_grows, use_keeps}
use Rattle.fsl_types.proofs.ScopedAssertions.{instance_read, use_given}
use Rattle.fsl_types.proofs.ScopedExpressions.{Reaches, bank_seen, call_given, each_given, number_read}
use Rattle.fsl_types.proofs.ScopedNames.{Shows, Stand, suits, takes_one}
use Rattle.fsl_types.proofs.StatementsLemmas.{Agree, call_grows, step_grows, steps_grow}

-- ---- banks that are declared

-- slots are taken, and banks among them
pub record Added (before behind : Resolver) : Type 0 where
  pub more : List ℕ
  pub are : behind.banks ≡ before.banks ++ more
  pub high : list_all (λ (bank : ℕ). nat_le before.slots bank) more ≡ true
  pub few : length more + before.slots ≤ behind.slots

pub added_none : (before behind : Resolver) → behind.banks ≡ before.banks → before.slots ≤ behind.slots → Added before behind
added_none before behind same longer = record { more = []; are = same ∙ sym (append-nil before.banks); high = refl; few = omega (arith, longer) }

pub still_high : (low high : ℕ) (banks : List ℕ) → low ≤ high → list_all (λ (bank : ℕ). nat_le high bank) banks ≡ true → list_all (λ (bank : ℕ). nat_le low bank) banks ≡ true
still_high low high [] within all = refl
still_high low high (bank ∷ banks) within all =
    let both = and_parts (nat_le high bank) (list_all (λ (bank : ℕ). nat_le high bank) banks) all in
    let first : high ≤ bank = leb-true high bank both.0 in
    and_from _ _ (le-leb low bank (omega (arith, first, within))) (still_high low high banks within both.1)

pub added_both : (first second third : Resolver) → Added first second → Added second third → Added first third
added_both first second third one two =
    let early = one.few in
    let late = two.few in
    let long = length-append one.more two.more in
    record {
      more = one.more ++ two.more;
      are = two.are ∙ ap (λ (banks : List ℕ). banks ++ two.more) one.are ∙ append_assoc first.banks one.more two.more;
      high = list_all-append (λ (bank : ℕ). nat_le first.slots bank) one.more two.more
          ∙ and_from _ _ one.high (still_high first.slots second.slots two.more (omega (arith, early)) two.high);
      few = omega (arith, early, late, long);
    }

pub added_longer : (before behind : Resolver) → Added before behind → before.slots ≤ behind.slots
added_longer before behind added = let few = added.few in omega (arith, few)

-- a number
pub number_added : (limit : ℕ) (bytes : List ℕ) (name : Span) (resolver : Resolver) → (declared limit bytes name sorts.Local resolver).faults ≡ [] → limit ≤ 256
    → Added resolver (declared limit bytes name sorts.Local resolver)
number_added limit bytes name resolver none within =
    let more = (takes_one limit bytes name sorts.Local resolver none within).1 in added_none resolver _ refl (omega (arith, more))

pub bank_added : (limit : ℕ) (bytes : List ℕ) (name : Span) (resolver : Resolver) → (declared limit bytes name sorts.Bank resolver).faults ≡ [] → limit ≤ 256
    → Added resolver (declared limit bytes name sorts.Bank resolver)
bank_added limit bytes name resolver none within =
    let more = (takes_one limit bytes name sorts.Bank resolver none within).1 in
    record { more = resolver.slots ∷ []; are = refl; high = and_from _ _ (le-leb resolver.slots resolver.slots (omega arith)) refl; few = omega (arith, more) }

-- ---- calls

-- the procedures of the signatures have the banks that these say
pub record HasBank (procs : List Proc) (s : Signature) : Type 0 where
  pub proc : Proc
  pub at : slice_get procs s.number ≡ Some proc
  pub agree : Agree proc.banks 0 s.banks

abbrev pub HasBanks : List Proc → Given → Type 0
HasBanks procs given = (name : List ℕ) (s : Signature) → found name given.procedures ≡ Some s → HasBank procs s

passed : (procs : List Proc) (scope : Scope) (o : Option Signature) (args : List Expr) → ((s : Signature) → o ≡ Some s → HasBank procs s) → is_some o ≡ true
    → each_given scope (banks_of o) args ≡ true → passes procs scope (number_of o) args ≡ true
passed procs scope None args has known given_all = absurd (true≢false (sym known))
passed procs scope (Some s) args has known given_all =
    let is = has s refl in ap (passes_to scope args) is.at ∙ call_given scope is.proc.banks 0 s.banks args is.agree given_all

is_known : (o : Option Signature) (place : Span) (arguments : Option Arguments) → Keeps (occurrence.Used place (fits arguments o)) → is_some o ≡ true
is_known None place arguments keeps = absurd (true≢false keeps.known)
is_known (Some s) place arguments keeps = refl

pub call_passes : (procs : List Proc) (given : Given) → HasBanks procs given → (scope : Scope) (names : Names) → Reaches scope (record { bytes = given.bytes; names = names; in_ensures = false })
    → (u : Use) (faults : List Fault) → judged_use (record { bytes = given.bytes; names = names; in_ensures = false }) (signature_at given.bytes given.procedures u.name) u faults ≡ []
    → passes procs scope (number_of (signature_at given.bytes given.procedures u.name)) (numbered_arguments given.bytes names u.arguments) ≡ true
call_passes procs given has scope names reach u faults none =
    let o = signature_at given.bytes given.procedures u.name in
    let here : Sight = record { bytes = given.bytes; names = names; in_ensures = false } in
    passed procs scope o _ (λ s is. has (text_at given.bytes u.name) s is) (is_known o u.name u.arguments (use_keeps here o u faults none)) (use_given scope here reach o u faults none)

pub children_pass : (procs : List Proc) (given : Given) → HasBanks procs given → (scope : Scope) (names : Names) → Reaches scope (record { bytes = given.bytes; names = names; in_ensures = false })
    → (calls : List ParallelCall) (faults : List Fault) → in_turn (map (judged_call given (record { bytes = given.bytes; names = names; in_ensures = false })) calls) faults ≡ []
    → list_all (λ (call : Called). passes procs scope call.proc call.args) (map (called given names) calls) ≡ true
children_pass procs given has scope names reach [] faults none = refl
children_pass procs given has scope names reach (call ∷ calls) faults none =
    let here : Sight = record { bytes = given.bytes; names = names; in_ensures = false } in
    and_from _ _ (call_passes procs given has scope names reach call.callee _ (each_grows (judged_call given here) (call_grows given here) calls _ none))
    (children_pass procs given has scope names reach calls _ none)

-- ---- token steps

pub step_read : (scope : Scope) (here : Sight) → Reaches scope here → (s : Step) (faults : List Fault) → judged_step here s faults ≡ [] → step_reads scope (step_of here.bytes here.names s) ≡ true
step_read scope here reach s faults none =
    and_from _ _ (bank_seen scope here reach s.bank faults (number_grows here s.amount _ none)) (number_read scope here reach s.amount _ none)

lines_read : (scope : Scope) (here : Sight) → Reaches scope here → (lines : List StepLine) (faults : List Fault) → in_turn (map (judged_step_line here) lines) faults ≡ []
    → list_all (step_reads scope) (map (step_line_of here.bytes here.names) lines) ≡ true
lines_read scope here reach [] faults none = refl
lines_read scope here reach (line ∷ lines) faults none =
    and_from _ _ (step_read scope here reach line.step faults (each_grows (judged_step_line here) (λ line. step_grows here line.step) lines _ none))
    (lines_read scope here reach lines _ none)

along_read : (scope : Scope) (here : Sight) → Reaches scope here → (along : Option With) (faults : List Fault) → judged_steps here along faults ≡ []
    → steps_read scope (steps_of here.bytes here.names along) ≡ true
along_read scope here reach None faults none = refl
along_read scope here reach (Some along) faults none = lines_read scope here reach along.steps faults none

-- ---- one layer of an act

pub act_layer : (procs : List Proc) (a : Act) (layer : Act-F Act Stmt) → roll-Act layer ≡ a
    → act_scoped procs a ≡ act_step procs (map-Act Act Stmt Scoped Scoped (act_scoped procs) (stmt_scoped procs) layer)
act_layer procs a layer is = sym (ap (act_scoped procs) is) ∙ fold-roll-Act Scoped Scoped (act_step procs) stmt_step layer

-- a statement is scoped as its act
pub of_act : (procs : List Proc) (first last : Span) (a : Act) (x : Scoped) → act_scoped procs a ≡ x → stmt_scoped procs (stmt first last a) ≡ x
of_act procs first last a x is = fold_out-Stmt Scoped Scoped (act_step procs) stmt_step (stmt first last a) ∙ is

-- it may stand there, and the scope behind it shows the names
pub record Stands (stand : Stand) (total : ℕ) (scope : Scope) (x : Scoped) (behind : Resolver) : Type 0 where
  pub fits : x.fits scope ≡ true
  pub shows : Shows stand total (x.behind scope) behind

pub stands_as : (stand : Stand) (total : ℕ) (scope : Scope) (x y : Scoped) (behind : Resolver) → x ≡ y → y.fits scope ≡ true → Shows stand total (y.behind scope) behind
    → Stands stand total scope x behind
stands_as stand total scope x y behind is fit shows = record {
  fits = ap (λ (z : Scoped). z.fits scope) is ∙ fit;
  shows = subst (λ (z : Scoped). Shows stand total (z.behind scope) behind) (sym is) shows;
}

-- ---- right sides

-- what sets a variable
pub record SetsIt (procs : List Proc) (slot : ℕ) (scope : Scope) (a : Act) : Type 0 where
  pub test : Scope → Bool
  pub is : act_scoped procs a ≡ sets slot test
  pub fit : test scope ≡ true

updated_sets : (procs : List Proc) (scope : Scope) (word : UpdateWord) (slot : ℕ) (how : CoreMode) (at e : Expr) (steps : List TokenStep)
    → (reads scope at && (reads scope e && steps_read scope steps)) ≡ true → SetsIt procs slot scope (updated word slot how at e steps)
updated_sets procs scope (update_words.FetchAdd place) slot how at e steps fit = record {
  test = λ s. reads s at && (reads s e && steps_read s steps);
  is = act_layer procs _ (Act-F.Add slot how at e steps) (rolls-Add _ _ _ _ _);
  fit = fit;
}
updated_sets procs scope (update_words.Exchange place) slot how at e steps fit = record {
  test = λ s. reads s at && (reads s e && steps_read s steps);
  is = act_layer procs _ (Act-F.Swap slot how at e steps) (rolls-Swap _ _ _ _ _);
  fit = fit;
}

allocation_sets : (procs : List Proc) (given : Given) (scope : Scope) (names : Names) → Reaches scope (record { bytes = given.bytes; names = names; in_ensures = false })
    → (slot : ℕ) (a : Allocation) (faults : List Fault) → judged_allocation given (record { bytes = given.bytes; names = names; in_ensures = false }) a faults ≡ []
    → SetsIt procs slot scope (allocation_of given names slot a)
allocation_sets procs given scope names reach slot (allocations.NonAtomic word) faults none = record {
  test = λ s. true;
  is = act_layer procs _ (Act-F.AllocNa slot) (rolls-AllocNa _);
  fit = refl;
}
allocation_sets procs given scope names reach slot (allocations.Shared cell invariant) faults none = record {
  test = λ s. inst_reads s (instance_of given.bytes given.invariants names invariant);
  is = act_layer procs _ (Act-F.AllocAt slot _ _) (rolls-AllocAt _ _ _);
  fit = instance_read scope _ reach given.invariants invariant faults none;
}

pub right_sets : (procs : List Proc) (given : Given) → HasBanks procs given → (scope : Scope) (names : Names) → Reaches scope (record { bytes = given.bytes; names = names; in_ensures = false })
    → (slot : ℕ) (r : RightSide) (faults : List Fault) → judged_right_side given (record { bytes = given.bytes; names = names; in_ensures = false }) r faults ≡ []
    → SetsIt procs slot scope (right_side_of given names slot r)
right_sets procs given has scope names reach slot (right_sides.Value e) faults none = record {
  test = λ s. reads s (expression_of given.bytes names e);
  is = act_layer procs _ (Act-F.Set slot _) (rolls-Set _ _);
  fit = number_read scope _ reach e faults none;
}
right_sets procs given has scope names reach slot (right_sides.Call word callee) faults none = record {
  test = λ s. passes procs s (number_of (signature_at given.bytes given.procedures callee.name)) (numbered_arguments given.bytes names callee.arguments);
  is = act_layer procs _ (Act-F.Call (Some slot) _ _) (rolls-Call _ _ _);
  fit = call_passes procs given has scope names reach callee faults none;
}
right_sets procs given has scope names reach slot (right_sides.Allocate word what) faults none = allocation_sets procs given scope names reach slot what faults none
right_sets procs given has scope names reach slot (right_sides.Load word how start location end) faults none = record {
  test = λ s. reads s (expression_of given.bytes names location);
  is = act_layer procs _ (Act-F.Load slot _ _) (rolls-Load _ _ _);
  fit = number_read scope _ reach location _ none;
}
right_sets procs given has scope names reach slot (right_sides.CompareAndSwap word success failure start location expected_comma expected new_comma new end along) faults none =
    let here : Sight = record { bytes = given.bytes; names = names; in_ensures = false } in
    let three = steps_grow here along _ none in
    let two = number_grows here new _ three in
    let one = number_grows here expected _ two in
    record {
      test = λ s. reads s (expression_of given.bytes names location) && (reads s (expression_of given.bytes names expected)
          && (reads s (expression_of given.bytes names new) && steps_read s (steps_of given.bytes names along)));
      is = act_layer procs _ (Act-F.Cas slot _ _ _ _ _ _) (rolls-Cas _ _ _ _ _ _ _);
      fit = and_from _ _ (number_read scope here reach location _ one) (and_from _ _ (number_read scope here reach expected _ two)
          (and_from _ _ (number_read scope here reach new _ three) (along_read scope here reach along _ none)));
    }
right_sets procs given has scope names reach slot (right_sides.Update word how start location comma operand end along) faults none =
    let here : Sight = record { bytes = given.bytes; names = names; in_ensures = false } in
    let two = steps_grow here along _ none in
    updated_sets procs scope word slot _ _ _ _
    (and_from _ _ (number_read scope here reach location _ (number_grows here operand _ two)) (and_from _ _ (number_read scope here reach operand _ two) (along_read scope here reach along _ none)))

-- ---- what is set

abbrev pub in_code : Bool → Stand
in_code in_loop = record { code = true; in_ensures = false; in_loop = in_loop }

is_local : (s : Visibility) → is_number s ≡ true → is_settable s ≡ true → s ≡ visible.Local
is_local visible.Free number settable = absurd (true≢false (sym number))
is_local visible.Kept number settable = absurd (true≢false (sym number))
is_local visible.Given number settable = absurd (true≢false (sym settable))
is_local visible.Bound number settable = absurd (true≢false (sym settable))
is_local visible.Local number settable = refl
is_local visible.Bank number settable = absurd (true≢false (sym number))
is_local visible.Either number settable = absurd (true≢false (sym settable))

suits_local : (s : Visibility) (sort : Sort) → suits true s sort ≡ true → is_due due.Target sort ≡ true → s ≡ visible.Local
suits_local s sorts.Parameter fit wanted = absurd (true≢false (sym wanted))
suits_local s sorts.Local fit wanted = let both = and_parts (is_number s) (is_settable s) fit in is_local s both.0 both.1
suits_local s sorts.Bank fit wanted = absurd (true≢false (sym wanted))

pub target_local : (in_loop : Bool) (total : ℕ) (scope : Scope) (resolver : Resolver) → Shows (in_code in_loop) total scope resolver → (name : List ℕ) (place : Span) (o : Option Variable)
    → found name resolver.names ≡ o → Keeps (occurrence.Variable place due.Target (sort_of o)) → sight_at scope (slot_of o) ≡ visible.Local
target_local in_loop total scope resolver shows name place None is keeps = absurd (true≢false keeps.known)
target_local in_loop total scope resolver shows name place (Some v) is keeps =
    suits_local (sight_at scope v.slot) v.sort (shows.each name v is).fits (not-false (is_due due.Target v.sort) keeps.typed)

-- what is a variable of the body already is set, and the scope stays
pub set_again : (scope : Scope) (slot : ℕ) → sight_at scope slot ≡ visible.Local → with_sight slot visible.Local scope ≡ scope
set_again scope slot is =
    ap (λ (s : Visibility). with_sight slot s scope) (sym is)
    ∙ ap (λ (sights : List Visibility). record scope { sights = sights }) (set-get_or scope.sights slot visible.Kept)
