-- What is made of a statement without faults stands in each scope that shows the names before it, and the scope behind
-- it shows those behind it.
use Rattle.std.proofs.Common.{◌≡◌, ℕ, ◌≤◌, Bool, true, false, not, List, [], ◌∷◌, Option, Some, None, map, refl, ap, sym, ◌∙◌, subst, arith, append-nil}
use Rattle.std.proofs.lemmas.Bool.{and_from}
use Rattle.fsl_base.specs.declared.span.Span.{Span}
use Rattle.fsl_core.specs.declared.act.Act.{Act}
use Rattle.fsl_core.specs.declared.act.Act.TheOpen.{Act-F}
use Rattle.fsl_core.specs.declared.act.Act.TheVariants as act
use Rattle.fsl_core.specs.declared.act.Act.TheVariants.{rolls-Free, rolls-Store, rolls-Call, rolls-Par, rolls-Fence, rolls-If, rolls-While, rolls-Assert, rolls-Print, rolls-Return, rolls-Bank, rolls-Step}
use Rattle.fsl_core.specs.declared.assertion.Asrt.TheVariants as asrt
use Rattle.fsl_core.specs.declared.declaration.Proc.{Proc}
use Rattle.fsl_core.specs.declared.expr.Expr.TheOpen.{Expr-F}
use Rattle.fsl_core.specs.declared.expr.Expr.TheVariants.{rolls-Const}
use Rattle.fsl_core.specs.declared.mode.Mode.{Mode as CoreMode}
use Rattle.fsl_core.specs.declared.mode.Mode.TheVariants as modes
use Rattle.fsl_core.specs.declared.scope.Scope.{Scope}
use Rattle.fsl_core.specs.declared.scope.Sight.TheVariants as visible
use Rattle.fsl_core.specs.Scopes.{act_scoped, all_fit, in_loop as looped, is_free, is_settable, reads, sets, sight_at, still, stmt_scoped}
use Rattle.fsl_tree.specs.declared.assertion.Assertion.{Assertion}
use Rattle.fsl_tree.specs.declared.declaration.Clause.{Clause}
use Rattle.fsl_tree.specs.declared.expression.Condition.{Condition}
use Rattle.fsl_tree.specs.declared.expression.Expression.{Expression}
use Rattle.fsl_tree.specs.declared.right_side.RightSide.{RightSide}
use Rattle.fsl_tree.specs.declared.statement.Block.{Block, map-Block}
use Rattle.fsl_tree.specs.declared.statement.FenceKind.{FenceKind}
use Rattle.fsl_tree.specs.declared.statement.FenceKind.TheVariants as fences
use Rattle.fsl_tree.specs.declared.statement.Otherwise.{Otherwise, map-Otherwise}
use Rattle.fsl_tree.specs.declared.statement.Statement.{Statement, map-Statement}
use Rattle.fsl_tree.specs.declared.statement.Statement.TheFolds.{ind-Block, fold-roll-Statement, fold-roll-Block, fold-roll-Otherwise}
use Rattle.fsl_tree.specs.declared.statement.Statement.TheOpen.{Statement-F, Block-F, Otherwise-F}
use Rattle.fsl_tree.specs.declared.statement.Statement.TheViews.{roll-Statement, roll-Block, roll-Otherwise}
use Rattle.fsl_types.specs.declared.fault.Fault.{Fault}
use Rattle.fsl_types.specs.declared.occurrence.Access.TheVariants as accesses
use Rattle.fsl_types.specs.declared.occurrence.Due.TheVariants as due
use Rattle.fsl_types.specs.declared.occurrence.Occurrence.TheVariants as occurrence
use Rattle.fsl_types.specs.declared.resolver.Resolver.{Resolver}
use Rattle.fsl_types.specs.declared.variable.Sort.TheVariants as sorts
use Rattle.fsl_types.specs.Assertions.{apart, assertion, clause}
use Rattle.fsl_types.specs.Expressions.{Judged, Sight, condition_of, expression_of, judged_condition, judged_name, judged_number, judged_use, signature_at}
use Rattle.fsl_types.specs.Given.{Given}
use Rattle.fsl_types.specs.Names.{Names, found, slot_at, sort_of, text_at}
use Rattle.fsl_types.specs.Resolvers.{declared, judging}
use Rattle.fsl_types.specs.Statements.{Inside, Runs, block, block_step, fence, in_fence, in_loop_invariant, judged_call, judged_mode, judged_parallel, judged_return, judged_right_side, judged_step, otherwise, otherwise_step, plainly, returned, right_side_of, run_each, seen, statement, statement_step, step_place, stmt}
use Rattle.fsl_types.proofs.ExpressionsLemmas.{Grows, condition_grows, each_grows, noted_grows, noted_keeps, number_grows, use_grows}
use Rattle.fsl_types.proofs.ResolverLemmas.{one_more_top}
use Rattle.fsl_types.proofs.ScopedActs.{Added, HasBanks, Stands, act_layer, added_both, added_longer, added_none, bank_added, call_passes, children_pass, in_code, number_added, of_act, right_sets, set_again, stands_as, step_read, target_local}
use Rattle.fsl_types.proofs.ScopedAssertions.{apart_binds, apart_stands, assertion_binds, clause_binds, empty_scoped}
use Rattle.fsl_types.proofs.ScopedExpressions.{Reaches, condition_tested, number_read, reaches, read_layer}
use Rattle.fsl_types.proofs.ScopedNames.{Behind, Shows, Stand, behind_both, behind_same, declared_behind, declared_shows, next_free, shows_assertion, shows_on, taken_back}
use Rattle.fsl_types.proofs.StatementsLemmas.{call_grows, return_grows, right_grows, step_grows}

-- ---- one level of a statement

-- whatever a statement makes without faults takes slots, puts names behind those that are there, and stands in a scope
-- that shows the names
pub record Scoping (procs : List Proc) (given : Given) (runs : Runs) : Type 0 where
  pub grows : (in_loop : Bool) (resolver : Resolver) → (runs in_loop resolver).resolver.faults ≡ [] → resolver.faults ≡ []
  pub added : (in_loop : Bool) (resolver : Resolver) → (runs in_loop resolver).resolver.faults ≡ [] → Added resolver (runs in_loop resolver).resolver
  pub top : (in_loop : Bool) (resolver : Resolver) → resolver.slots ≤ 256 → (runs in_loop resolver).resolver.slots ≤ 256
  pub names : (in_loop : Bool) (resolver : Resolver) → Behind resolver.names (runs in_loop resolver).resolver.names
  pub stands : HasBanks procs given → (in_loop : Bool) (resolver : Resolver) (total : ℕ) (scope : Scope) → Shows (in_code in_loop) total scope resolver
      → (runs in_loop resolver).resolver.slots ≤ total → (runs in_loop resolver).resolver.faults ≡ []
      → Stands (in_code in_loop) total scope (stmt_scoped procs (runs in_loop resolver).made) (runs in_loop resolver).resolver

-- likewise the statements of a block, whose names go at its end
pub record ScopingInside (procs : List Proc) (given : Given) (inside : Inside) : Type 0 where
  pub grows : (in_loop : Bool) (resolver : Resolver) → (inside.runs in_loop resolver).resolver.faults ≡ [] → resolver.faults ≡ []
  pub added : (in_loop : Bool) (resolver : Resolver) → (inside.runs in_loop resolver).resolver.faults ≡ [] → Added resolver (inside.runs in_loop resolver).resolver
  pub top : (in_loop : Bool) (resolver : Resolver) → resolver.slots ≤ 256 → (inside.runs in_loop resolver).resolver.slots ≤ 256
  pub names : (in_loop : Bool) (resolver : Resolver) → (inside.runs in_loop resolver).resolver.names ≡ resolver.names
  pub fits : HasBanks procs given → (in_loop : Bool) (resolver : Resolver) (total : ℕ) (scope : Scope) → Shows (in_code in_loop) total scope resolver
      → (inside.runs in_loop resolver).resolver.slots ≤ total → (inside.runs in_loop resolver).resolver.faults ≡ []
      → all_fit (map (stmt_scoped procs) (inside.runs in_loop resolver).made) scope ≡ true

-- the scope of a block shows the names behind it
shows_behind : (procs : List Proc) (given : Given) (inside : Inside) → ScopingInside procs given inside → (stand : Stand) (total : ℕ) (scope : Scope) (in_loop : Bool) (resolver : Resolver)
    → Shows stand total scope resolver → (inside.runs in_loop resolver).resolver.faults ≡ [] → Shows stand total scope (inside.runs in_loop resolver).resolver
shows_behind procs given inside scoping stand total scope in_loop resolver shows none =
    shows_on stand total scope resolver _ shows (added_longer resolver _ (scoping.added in_loop resolver none)) (scoping.names in_loop resolver)

-- a statement that declares and sets nothing, whose faults are judged alone
judges : (procs : List Proc) (given : Given) (make : Bool → Resolver → Act) (first last : Span) (judged : Bool → Resolver → Judged)
    → ((in_loop : Bool) (resolver : Resolver) → Grows (judged in_loop resolver))
    → (HasBanks procs given → (in_loop : Bool) (resolver : Resolver) (total : ℕ) (scope : Scope) → Shows (in_code in_loop) total scope resolver
    → judged in_loop resolver resolver.faults ≡ [] → (test : Scope → Bool) × (act_scoped procs (make in_loop resolver) ≡ still test) × (test scope ≡ true))
    → Scoping procs given (λ in_loop resolver. plainly (stmt first last (make in_loop resolver)) (judged in_loop resolver) resolver)
judges procs given make first last judged grow fit = record {
  grows = λ in_loop resolver none. grow in_loop resolver resolver.faults none;
  added = λ in_loop resolver none. added_none resolver _ refl (omega arith);
  top = λ in_loop resolver small. small;
  names = λ in_loop resolver. behind_same resolver.names;
  stands = λ has in_loop resolver total scope shows room none.
      let is = fit has in_loop resolver total scope shows none in
      stands_as (in_code in_loop) total scope _ (still is.0) _ (of_act procs first last (make in_loop resolver) _ is.1) is.2
      (shows_on (in_code in_loop) total scope resolver _ shows (omega arith) refl);
}

abbrev ScopedStatement : List Proc → Given → Type 0
ScopedStatement procs given = (s : Statement) × Scoping procs given (statement given s)

abbrev ScopedBlock : List Proc → Given → Type 0
ScopedBlock procs given = (b : Block) × ScopingInside procs given (block given b)

abbrev ScopedOtherwise : List Proc → Given → Type 0
ScopedOtherwise procs given = (o : Otherwise) × ScopingInside procs given (otherwise given o)

abbrev StatementParts : List Proc → Given → Type 0
StatementParts procs given = Statement-F (ScopedStatement procs given) (ScopedBlock procs given) (ScopedOtherwise procs given)

abbrev bare_statement : (procs : List Proc) (given : Given) → StatementParts procs given → Statement-F Statement Block Otherwise
bare_statement procs given y =
    map-Statement (ScopedStatement procs given) (ScopedBlock procs given) (ScopedOtherwise procs given) Statement Block Otherwise (λ part. part.0) (λ part. part.0) (λ part. part.0) y

abbrev statement_runs : Given → Statement-F Statement Block Otherwise → Runs
statement_runs given x = statement_step given (map-Statement Statement Block Otherwise Runs Inside Inside (statement given) (block given) (otherwise given) x)

code_reaches : (given : Given) (in_loop : Bool) (total : ℕ) (scope : Scope) (resolver : Resolver) → Shows (in_code in_loop) total scope resolver → Reaches scope (seen given resolver)
code_reaches given in_loop total scope resolver shows = reaches (in_code in_loop) total scope resolver given.bytes shows

let_scopes : (procs : List Proc) (given : Given) (word name semicolon : Span) (right : RightSide)
    → Scoping procs given (λ in_loop resolver. record {
      made = stmt word semicolon (right_side_of given resolver.names resolver.slots right);
      resolver = declared 256 given.bytes name sorts.Local (judging (judged_right_side given (seen given resolver) right) resolver);
    })
let_scopes procs given word name semicolon right = record {
  grows = λ in_loop resolver none. right_grows given (seen given resolver) right resolver.faults (noted_grows _ _ none);
  added = λ in_loop resolver none.
      let added = number_added 256 given.bytes name (judging (judged_right_side given (seen given resolver) right) resolver) none (omega arith) in
      record { more = added.more; are = added.are; high = added.high; few = added.few };
  top = λ in_loop resolver small. one_more_top resolver.slots;
  names = λ in_loop resolver. declared_behind 256 given.bytes name sorts.Local (judging (judged_right_side given (seen given resolver) right) resolver);
  stands = λ has in_loop resolver total scope shows room none.
      let judged = judging (judged_right_side given (seen given resolver) right) resolver in
      let shows_judged = shows_on (in_code in_loop) total scope resolver judged shows (omega arith) refl in
      let it = right_sets procs given has scope resolver.names (code_reaches given in_loop total scope resolver shows) resolver.slots right resolver.faults (noted_grows _ _ none) in
      stands_as (in_code in_loop) total scope _ (sets resolver.slots it.test) _ (of_act procs word semicolon _ _ it.is)
      (and_from _ _ (ap is_settable (next_free (in_code in_loop) total scope 256 given.bytes name sorts.Local judged shows_judged none (omega arith) room)) it.fit)
      (declared_shows (in_code in_loop) total scope 256 given.bytes name sorts.Local visible.Local judged shows_judged none (omega arith) refl);
}

assign_scopes : (procs : List Proc) (given : Given) (name semicolon : Span) (right : RightSide)
    → Scoping procs given (λ in_loop resolver. plainly (stmt name semicolon (right_side_of given resolver.names (slot_at given.bytes resolver.names name) right))
    (λ faults. judged_right_side given (seen given resolver) right (judged_name (seen given resolver) due.Target name faults)) resolver)
assign_scopes procs given name semicolon right = record {
  grows = λ in_loop resolver none. noted_grows resolver.faults _ (right_grows given (seen given resolver) right _ none);
  added = λ in_loop resolver none. added_none resolver _ refl (omega arith);
  top = λ in_loop resolver small. small;
  names = λ in_loop resolver. behind_same resolver.names;
  stands = λ has in_loop resolver total scope shows room none.
      let judged = judging (λ faults. judged_right_side given (seen given resolver) right (judged_name (seen given resolver) due.Target name faults)) resolver in
      let slot = slot_at given.bytes resolver.names name in
      let it = right_sets procs given has scope resolver.names (code_reaches given in_loop total scope resolver shows) slot right _ none in
      let is : sight_at scope slot ≡ visible.Local =
      target_local in_loop total scope resolver shows (text_at given.bytes name) name (found (text_at given.bytes name) resolver.names) refl
      (noted_keeps (occurrence.Variable name due.Target (sort_of (found (text_at given.bytes name) resolver.names))) resolver.faults (right_grows given (seen given resolver) right _ none)) in
      stands_as (in_code in_loop) total scope _ (sets slot it.test) _ (of_act procs name semicolon _ _ it.is)
      (and_from _ _ (ap is_settable is) it.fit)
      (subst (λ (s : Scope). Shows (in_code in_loop) total s judged) (sym (set_again scope slot is)) (shows_on (in_code in_loop) total scope resolver judged shows (omega arith) refl));
}

bank_scopes : (procs : List Proc) (given : Given) (word name semicolon : Span)
    → Scoping procs given (λ in_loop resolver. record { made = stmt word semicolon (act.Bank resolver.slots); resolver = declared 256 given.bytes name sorts.Bank resolver })
bank_scopes procs given word name semicolon = record {
  grows = λ in_loop resolver none. noted_grows resolver.faults _ none;
  added = λ in_loop resolver none. bank_added 256 given.bytes name resolver none (omega arith);
  top = λ in_loop resolver small. one_more_top resolver.slots;
  names = λ in_loop resolver. declared_behind 256 given.bytes name sorts.Bank resolver;
  stands = λ has in_loop resolver total scope shows room none.
      stands_as (in_code in_loop) total scope _ _ _ (of_act procs word semicolon _ _ (act_layer procs _ (Act-F.Bank resolver.slots) (rolls-Bank _)))
      (ap is_free (next_free (in_code in_loop) total scope 256 given.bytes name sorts.Bank resolver shows none (omega arith) room))
      (declared_shows (in_code in_loop) total scope 256 given.bytes name sorts.Bank visible.Bank resolver shows none (omega arith) refl);
}

-- a fence
acquire_scopes : (procs : List Proc) (given : Given) (word semicolon : Span)
    → Scoping procs given (λ in_loop resolver. record { made = stmt word semicolon (act.Fence modes.Acq asrt.Emp); resolver = resolver })
acquire_scopes procs given word semicolon = record {
  grows = λ in_loop resolver none. none;
  added = λ in_loop resolver none. added_none resolver resolver refl (omega arith);
  top = λ in_loop resolver small. small;
  names = λ in_loop resolver. behind_same resolver.names;
  stands = λ has in_loop resolver total scope shows room none.
      stands_as (in_code in_loop) total scope _ _ _ (of_act procs word semicolon _ _ (act_layer procs _ (Act-F.Fence _ _) (rolls-Fence _ _))) (empty_scoped scope) shows;
}

release_scopes : (procs : List Proc) (given : Given) (word semicolon : Span) (how : CoreMode) (held : Assertion)
    → Scoping procs given (λ in_loop resolver. record {
      made = stmt word semicolon (act.Fence how (apart (assertion given held) in_fence resolver).made);
      resolver = (apart (assertion given held) in_fence resolver).resolver;
    })
release_scopes procs given word semicolon how held = record {
  grows = λ in_loop resolver none. (assertion_binds given held).grows in_fence resolver none;
  added = λ in_loop resolver none. added_none resolver _ ((assertion_binds given held).banks in_fence resolver) ((assertion_binds given held).longer in_fence resolver none);
  top = λ in_loop resolver small. (assertion_binds given held).top in_fence resolver small;
  names = λ in_loop resolver. ([], apart_binds _ (assertion_binds given held) in_fence resolver ∙ sym (append-nil resolver.names));
  stands = λ has in_loop resolver total scope shows room none.
      let fit = apart_stands _ (assertion_binds given held) in_fence in_loop resolver total scope (shows_assertion (in_code in_loop) total scope resolver shows) room none in
      stands_as (in_code in_loop) total scope _ _ _ (of_act procs word semicolon _ _ (act_layer procs _ (Act-F.Fence _ _) (rolls-Fence _ _))) fit.0
      (shows_on (in_code in_loop) total scope resolver _ shows ((assertion_binds given held).longer in_fence resolver none) (apart_binds _ (assertion_binds given held) in_fence resolver));
}

fence_scopes : (procs : List Proc) (given : Given) (word semicolon : Span) (what : FenceKind)
    → Scoping procs given (λ in_loop resolver. let read = fence given what resolver in record { made = stmt word semicolon read.made; resolver = read.resolver })
fence_scopes procs given word semicolon (fences.Acquire mode_word) = acquire_scopes procs given word semicolon
fence_scopes procs given word semicolon (fences.Release mode_word start held end) = release_scopes procs given word semicolon _ held

-- a choice; an absent `else` makes nothing
if_alone : (procs : List Proc) (given : Given) (word last : Span) (condition : Condition) (inside : Inside) → ScopingInside procs given inside
    → Scoping procs given (λ in_loop resolver.
    let one = inside.runs in_loop (judging (judged_condition (seen given resolver) condition) resolver) in
    record { made = stmt word last (act.If (condition_of given.bytes resolver.names condition) one.made []); resolver = one.resolver })
if_alone procs given word last condition inside one = record {
  grows = λ in_loop resolver none. condition_grows (seen given resolver) condition resolver.faults (one.grows in_loop _ none);
  added = λ in_loop resolver none.
      let added = one.added in_loop (judging (judged_condition (seen given resolver) condition) resolver) none in
      record { more = added.more; are = added.are; high = added.high; few = added.few };
  top = λ in_loop resolver small. one.top in_loop (judging (judged_condition (seen given resolver) condition) resolver) small;
  names = λ in_loop resolver. ([], one.names in_loop (judging (judged_condition (seen given resolver) condition) resolver) ∙ sym (append-nil resolver.names));
  stands = λ has in_loop resolver total scope shows room none.
      let judged = judging (judged_condition (seen given resolver) condition) resolver in
      let shows_judged = shows_on (in_code in_loop) total scope resolver judged shows (omega arith) refl in
      let tested = condition_tested scope _ (code_reaches given in_loop total scope resolver shows) condition resolver.faults (one.grows in_loop judged none) in
      stands_as (in_code in_loop) total scope _ _ _ (of_act procs word last _ _ (act_layer procs _ (Act-F.If _ _ _) (rolls-If _ _ _)))
      (and_from _ _ tested (and_from _ _ (one.fits has in_loop judged total scope shows_judged room none) refl))
      (shows_behind procs given inside one (in_code in_loop) total scope in_loop judged shows_judged none);
}

if_both : (procs : List Proc) (given : Given) (word last : Span) (condition : Condition) (inside others : Inside) → ScopingInside procs given inside → ScopingInside procs given others
    → Scoping procs given (λ in_loop resolver.
    let one = inside.runs in_loop (judging (judged_condition (seen given resolver) condition) resolver) in
    let other = others.runs in_loop one.resolver in
    record { made = stmt word last (act.If (condition_of given.bytes resolver.names condition) one.made other.made); resolver = other.resolver })
if_both procs given word last condition inside others one other = record {
  grows = λ in_loop resolver none. condition_grows (seen given resolver) condition resolver.faults (one.grows in_loop _ (other.grows in_loop _ none));
  added = λ in_loop resolver none.
      let judged = judging (judged_condition (seen given resolver) condition) resolver in
      let between = (inside.runs in_loop judged).resolver in
      let added = added_both judged between _ (one.added in_loop judged (other.grows in_loop between none)) (other.added in_loop between none) in
      record { more = added.more; are = added.are; high = added.high; few = added.few };
  top = λ in_loop resolver small.
      let judged = judging (judged_condition (seen given resolver) condition) resolver in
      other.top in_loop (inside.runs in_loop judged).resolver (one.top in_loop judged small);
  names = λ in_loop resolver.
      let judged = judging (judged_condition (seen given resolver) condition) resolver in
      ([], other.names in_loop (inside.runs in_loop judged).resolver ∙ one.names in_loop judged ∙ sym (append-nil resolver.names));
  stands = λ has in_loop resolver total scope shows room none.
      let judged = judging (judged_condition (seen given resolver) condition) resolver in
      let between = (inside.runs in_loop judged).resolver in
      let none_between = other.grows in_loop between none in
      let shows_judged = shows_on (in_code in_loop) total scope resolver judged shows (omega arith) refl in
      let shows_between = shows_behind procs given inside one (in_code in_loop) total scope in_loop judged shows_judged none_between in
      let late = added_longer between _ (other.added in_loop between none) in
      let tested = condition_tested scope _ (code_reaches given in_loop total scope resolver shows) condition resolver.faults (one.grows in_loop judged none_between) in
      stands_as (in_code in_loop) total scope _ _ _ (of_act procs word last _ _ (act_layer procs _ (Act-F.If _ _ _) (rolls-If _ _ _)))
      (and_from _ _ tested (and_from _ _ (one.fits has in_loop judged total scope shows_judged (omega (arith, room, late)) none_between)
      (other.fits has in_loop between total scope shows_between room none)))
      (shows_behind procs given others other (in_code in_loop) total scope in_loop between shows_between none);
}

shows_looped : (in_loop : Bool) (total : ℕ) (scope : Scope) (resolver : Resolver) → Shows (in_code in_loop) total scope resolver → Shows (in_code true) total (looped scope) resolver
shows_looped in_loop total scope resolver shows = record {
  wide = shows.wide;
  free = shows.free;
  each = λ name v is. let it = shows.each name v is in record { low = it.low; fits = it.fits };
  in_ensures = shows.in_ensures;
  in_loop = refl;
}

while_scopes : (procs : List Proc) (given : Given) (word last : Span) (condition : Condition) (invariant : Option Clause) (inside : Inside) → ScopingInside procs given inside
    → Scoping procs given (λ in_loop resolver.
    let held = apart (clause given invariant) in_loop_invariant (judging (judged_condition (seen given resolver) condition) resolver) in
    let body = inside.runs true held.resolver in
    record { made = stmt word last (act.While (condition_of given.bytes resolver.names condition) held.made body.made); resolver = body.resolver })
while_scopes procs given word last condition invariant inside body =
    let holds = clause_binds given invariant in
    record {
      grows = λ in_loop resolver none. condition_grows (seen given resolver) condition resolver.faults (holds.grows in_loop_invariant _ (body.grows true _ none));
      added = λ in_loop resolver none.
          let judged = judging (judged_condition (seen given resolver) condition) resolver in
          let held = (apart (clause given invariant) in_loop_invariant judged).resolver in
          let first = added_none judged held (holds.banks in_loop_invariant judged) (holds.longer in_loop_invariant judged (body.grows true held none)) in
          let added = added_both judged held _ first (body.added true held none) in
          record { more = added.more; are = added.are; high = added.high; few = added.few };
      top = λ in_loop resolver small.
          let judged = judging (judged_condition (seen given resolver) condition) resolver in
          body.top true (apart (clause given invariant) in_loop_invariant judged).resolver (holds.top in_loop_invariant judged small);
      names = λ in_loop resolver.
          let judged = judging (judged_condition (seen given resolver) condition) resolver in
          let held = (apart (clause given invariant) in_loop_invariant judged).resolver in
          ([], body.names true held ∙ apart_binds _ holds in_loop_invariant judged ∙ sym (append-nil resolver.names));
      stands = λ has in_loop resolver total scope shows room none.
          let judged = judging (judged_condition (seen given resolver) condition) resolver in
          let held = (apart (clause given invariant) in_loop_invariant judged).resolver in
          let none_held = body.grows true held none in
          let late = added_longer held _ (body.added true held none) in
          let shows_judged = shows_on (in_code in_loop) total scope resolver judged shows (omega arith) refl in
          let shows_held = shows_on (in_code in_loop) total scope judged held shows_judged (holds.longer in_loop_invariant judged none_held) (apart_binds _ holds in_loop_invariant judged) in
          let tested = condition_tested scope _ (code_reaches given in_loop total scope resolver shows) condition resolver.faults (holds.grows in_loop_invariant judged none_held) in
          let fit = apart_stands _ holds in_loop_invariant in_loop judged total scope (shows_assertion (in_code in_loop) total scope judged shows_judged) (omega (arith, room, late)) none_held in
          let looping = body.fits has true held total (looped scope) (shows_looped in_loop total scope held shows_held) room none in
          stands_as (in_code in_loop) total scope _ _ _ (of_act procs word last _ _ (act_layer procs _ (Act-F.While _ _ _) (rolls-While _ _ _)))
          (and_from _ _ tested (and_from _ _ fit.0 looping))
          (shows_behind procs given inside body (in_code in_loop) total scope true held shows_held none);
    }

result_read : (scope : Scope) (here : Sight) → Reaches scope here → (in_loop : Bool) (given : Given) (names : Names) (word : Span) (e : Option Expression) (faults : List Fault)
    → here ≡ record { bytes = given.bytes; names = names; in_ensures = false } → judged_return here in_loop word e faults ≡ [] → reads scope (returned given names e) ≡ true
result_read scope here reach in_loop given names word None faults same none = read_layer scope _ (Expr-F.Const _) (rolls-Const _) refl
result_read scope here reach in_loop given names word (Some e) faults same none =
    subst (λ (s : Sight). reads scope (expression_of s.bytes s.names e) ≡ true) same (number_read scope here reach e _ none)

return_noted : (here : Sight) (in_loop : Bool) (word : Span) (e : Option Expression) (faults : List Fault) → judged_return here in_loop word e faults ≡ [] → in_loop ≡ false
return_noted here in_loop word None faults none = (noted_keeps (occurrence.Return word in_loop) faults none).typed
return_noted here in_loop word (Some e) faults none = (noted_keeps (occurrence.Return word in_loop) faults (number_grows here e _ none)).typed

statement_layer_scopes : (procs : List Proc) (given : Given) (y : StatementParts procs given) → Scoping procs given (statement_runs given (bare_statement procs given y))
statement_layer_scopes procs given (Statement-F.Let word name equals right semicolon) = let_scopes procs given word name semicolon right
statement_layer_scopes procs given (Statement-F.Assign name equals right semicolon) = assign_scopes procs given name semicolon right
statement_layer_scopes procs given (Statement-F.Store word how start location comma stored end semicolon) =
    judges procs given _ word semicolon (λ in_loop resolver faults. judged_number (seen given resolver) stored (judged_number (seen given resolver) location (judged_mode accesses.Store how faults)))
    (λ in_loop resolver faults none. noted_grows faults _ (number_grows (seen given resolver) location _ (number_grows (seen given resolver) stored _ none)))
    (λ has in_loop resolver total scope shows none.
    let reach = code_reaches given in_loop total scope resolver shows in (
      _,
      act_layer procs _ (Act-F.Store _ _ _) (rolls-Store _ _ _),
      and_from _ _ (number_read scope _ reach location _ (number_grows (seen given resolver) stored _ none)) (number_read scope _ reach stored _ none),
    ))
statement_layer_scopes procs given (Statement-F.Call word callee semicolon) =
    judges procs given _ word semicolon (λ in_loop resolver. judged_use (seen given resolver) (signature_at given.bytes given.procedures callee.name) callee)
    (λ in_loop resolver. use_grows (seen given resolver) (signature_at given.bytes given.procedures callee.name) callee)
    (λ has in_loop resolver total scope shows none. (
      _,
      act_layer procs _ (Act-F.Call None _ _) (rolls-Call _ _ _),
      call_passes procs given has scope resolver.names (code_reaches given in_loop total scope resolver shows) callee resolver.faults none,
    ))
statement_layer_scopes procs given (Statement-F.Parallel word start calls end) =
    judges procs given _ word end (λ in_loop resolver. judged_parallel given (seen given resolver) word calls)
    (λ in_loop resolver faults none. noted_grows faults _ (each_grows (judged_call given (seen given resolver)) (call_grows given (seen given resolver)) calls _ none))
    (λ has in_loop resolver total scope shows none. (
      _,
      act_layer procs _ (Act-F.Par _) (rolls-Par _),
      children_pass procs given has scope resolver.names (code_reaches given in_loop total scope resolver shows) calls _ none,
    ))
statement_layer_scopes procs given (Statement-F.Fence word what semicolon) = fence_scopes procs given word semicolon what
statement_layer_scopes procs given (Statement-F.If word start condition end then_block None) = if_alone procs given word (block given then_block.0).last condition _ then_block.1
statement_layer_scopes procs given (Statement-F.If word start condition end then_block (Some other)) = if_both procs given word (otherwise given other.0).last condition _ _ then_block.1 other.1
statement_layer_scopes procs given (Statement-F.While word start condition end invariant body) = while_scopes procs given word (block given body.0).last condition invariant _ body.1
statement_layer_scopes procs given (Statement-F.Assert word start condition end semicolon) =
    judges procs given _ word semicolon (λ in_loop resolver. judged_condition (seen given resolver) condition)
    (λ in_loop resolver. condition_grows (seen given resolver) condition)
    (λ has in_loop resolver total scope shows none.
    (_, act_layer procs _ (Act-F.Assert _) (rolls-Assert _), condition_tested scope _ (code_reaches given in_loop total scope resolver shows) condition resolver.faults none))
statement_layer_scopes procs given (Statement-F.Print word start printed end semicolon) =
    judges procs given _ word semicolon (λ in_loop resolver. judged_number (seen given resolver) printed)
    (λ in_loop resolver. number_grows (seen given resolver) printed)
    (λ has in_loop resolver total scope shows none.
    (_, act_layer procs _ (Act-F.Print _) (rolls-Print _), number_read scope _ (code_reaches given in_loop total scope resolver shows) printed resolver.faults none))
statement_layer_scopes procs given (Statement-F.Free word start location end semicolon) =
    judges procs given _ word semicolon (λ in_loop resolver. judged_number (seen given resolver) location)
    (λ in_loop resolver. number_grows (seen given resolver) location)
    (λ has in_loop resolver total scope shows none.
    (_, act_layer procs _ (Act-F.Free _) (rolls-Free _), number_read scope _ (code_reaches given in_loop total scope resolver shows) location resolver.faults none))
statement_layer_scopes procs given (Statement-F.Return word e semicolon) =
    judges procs given _ word semicolon (λ in_loop resolver. judged_return (seen given resolver) in_loop word e)
    (λ in_loop resolver. return_grows (seen given resolver) in_loop word e)
    (λ has in_loop resolver total scope shows none. (
      _,
      act_layer procs _ (Act-F.Return _) (rolls-Return _),
      and_from _ _ (ap not (shows.in_loop ∙ return_noted (seen given resolver) in_loop word e resolver.faults none))
          (result_read scope _ (code_reaches given in_loop total scope resolver shows) in_loop given resolver.names word e resolver.faults refl none),
    ))
statement_layer_scopes procs given (Statement-F.Bank word name semicolon) = bank_scopes procs given word name semicolon
statement_layer_scopes procs given (Statement-F.Step timed semicolon) =
    judges procs given _ (step_place timed.word) semicolon (λ in_loop resolver. judged_step (seen given resolver) timed)
    (λ in_loop resolver. step_grows (seen given resolver) timed)
    (λ has in_loop resolver total scope shows none.
    (_, act_layer procs _ (Act-F.Step _) (rolls-Step _), step_read scope _ (code_reaches given in_loop total scope resolver shows) timed resolver.faults none))

statement_rolled : (procs : List Proc) (given : Given) (x : Statement-F Statement Block Otherwise) (y : StatementParts procs given) → bare_statement procs given y ≡ x
    → Scoping procs given (statement given (roll-Statement x))
statement_rolled procs given x y is =
    subst (Scoping procs given) (sym (fold-roll-Statement Runs Inside Inside (statement_step given) block_step otherwise_step x))
    (subst (λ (l : Statement-F Statement Block Otherwise). Scoping procs given (statement_runs given l)) is (statement_layer_scopes procs given y))

-- ---- blocks

run_grows : (procs : List Proc) (given : Given) (parts : List (ScopedStatement procs given)) (in_loop : Bool) (resolver : Resolver)
    → (run_each (map (statement given) (map (λ part. part.0) parts)) in_loop resolver).resolver.faults ≡ [] → resolver.faults ≡ []
run_grows procs given [] in_loop resolver none = none
run_grows procs given (part ∷ parts) in_loop resolver none = part.1.grows in_loop resolver (run_grows procs given parts in_loop _ none)

run_added : (procs : List Proc) (given : Given) (parts : List (ScopedStatement procs given)) (in_loop : Bool) (resolver : Resolver)
    → (run_each (map (statement given) (map (λ part. part.0) parts)) in_loop resolver).resolver.faults ≡ []
    → Added resolver (run_each (map (statement given) (map (λ part. part.0) parts)) in_loop resolver).resolver
run_added procs given [] in_loop resolver none = added_none resolver resolver refl (omega arith)
run_added procs given (part ∷ parts) in_loop resolver none =
    added_both resolver _ _ (part.1.added in_loop resolver (run_grows procs given parts in_loop _ none)) (run_added procs given parts in_loop _ none)

run_top : (procs : List Proc) (given : Given) (parts : List (ScopedStatement procs given)) (in_loop : Bool) (resolver : Resolver) → resolver.slots ≤ 256
    → (run_each (map (statement given) (map (λ part. part.0) parts)) in_loop resolver).resolver.slots ≤ 256
run_top procs given [] in_loop resolver small = small
run_top procs given (part ∷ parts) in_loop resolver small = run_top procs given parts in_loop (statement given part.0 in_loop resolver).resolver (part.1.top in_loop resolver small)

run_names : (procs : List Proc) (given : Given) (parts : List (ScopedStatement procs given)) (in_loop : Bool) (resolver : Resolver)
    → Behind resolver.names (run_each (map (statement given) (map (λ part. part.0) parts)) in_loop resolver).resolver.names
run_names procs given [] in_loop resolver = behind_same resolver.names
run_names procs given (part ∷ parts) in_loop resolver =
    behind_both resolver.names (statement given part.0 in_loop resolver).resolver.names _ (part.1.names in_loop resolver) (run_names procs given parts in_loop _)

run_fits : (procs : List Proc) (given : Given) → HasBanks procs given → (parts : List (ScopedStatement procs given)) (in_loop : Bool) (resolver : Resolver) (total : ℕ) (scope : Scope)
    → Shows (in_code in_loop) total scope resolver
    → (run_each (map (statement given) (map (λ part. part.0) parts)) in_loop resolver).resolver.slots ≤ total
    → (run_each (map (statement given) (map (λ part. part.0) parts)) in_loop resolver).resolver.faults ≡ []
    → all_fit (map (stmt_scoped procs) (run_each (map (statement given) (map (λ part. part.0) parts)) in_loop resolver).made) scope ≡ true
run_fits procs given has [] in_loop resolver total scope shows room none = refl
run_fits procs given has (part ∷ parts) in_loop resolver total scope shows room none =
    let between = (statement given part.0 in_loop resolver).resolver in
    let late = added_longer between _ (run_added procs given parts in_loop between none) in
    let one = part.1.stands has in_loop resolver total scope shows (omega (arith, room, late)) (run_grows procs given parts in_loop between none) in
    and_from _ _ one.fits (run_fits procs given has parts in_loop between total _ one.shows room none)

abbrev BlockParts : List Proc → Given → Type 0
BlockParts procs given = Block-F (ScopedStatement procs given) (ScopedBlock procs given) (ScopedOtherwise procs given)

abbrev bare_block : (procs : List Proc) (given : Given) → BlockParts procs given → Block-F Statement Block Otherwise
bare_block procs given y =
    map-Block (ScopedStatement procs given) (ScopedBlock procs given) (ScopedOtherwise procs given) Statement Block Otherwise (λ part. part.0) (λ part. part.0) (λ part. part.0) y

abbrev block_runs : Given → Block-F Statement Block Otherwise → Inside
block_runs given x = block_step (map-Block Statement Block Otherwise Runs Inside Inside (statement given) (block given) (otherwise given) x)

block_layer_scopes : (procs : List Proc) (given : Given) (y : BlockParts procs given) → ScopingInside procs given (block_runs given (bare_block procs given y))
block_layer_scopes procs given y = record {
  grows = λ in_loop resolver none. run_grows procs given y.statements in_loop resolver none;
  added = λ in_loop resolver none.
      let added = run_added procs given y.statements in_loop resolver none in record { more = added.more; are = added.are; high = added.high; few = added.few };
  top = λ in_loop resolver small. run_top procs given y.statements in_loop resolver small;
  names = λ in_loop resolver. taken_back resolver.names _ (run_names procs given y.statements in_loop resolver);
  fits = λ has in_loop resolver total scope shows room none. run_fits procs given has y.statements in_loop resolver total scope shows room none;
}

block_rolled : (procs : List Proc) (given : Given) (x : Block-F Statement Block Otherwise) (y : BlockParts procs given) → bare_block procs given y ≡ x
    → ScopingInside procs given (block given (roll-Block x))
block_rolled procs given x y is =
    subst (ScopingInside procs given) (sym (fold-roll-Block Runs Inside Inside (statement_step given) block_step otherwise_step x))
    (subst (λ (l : Block-F Statement Block Otherwise). ScopingInside procs given (block_runs given l)) is (block_layer_scopes procs given y))

abbrev OtherwiseParts : List Proc → Given → Type 0
OtherwiseParts procs given = Otherwise-F (ScopedStatement procs given) (ScopedBlock procs given) (ScopedOtherwise procs given)

abbrev bare_otherwise : (procs : List Proc) (given : Given) → OtherwiseParts procs given → Otherwise-F Statement Block Otherwise
bare_otherwise procs given y =
    map-Otherwise (ScopedStatement procs given) (ScopedBlock procs given) (ScopedOtherwise procs given) Statement Block Otherwise (λ part. part.0) (λ part. part.0) (λ part. part.0) y

otherwise_rolled : (procs : List Proc) (given : Given) (x : Otherwise-F Statement Block Otherwise) (y : OtherwiseParts procs given) → bare_otherwise procs given y ≡ x
    → ScopingInside procs given (otherwise given (roll-Otherwise x))
otherwise_rolled procs given x y is =
    subst (ScopingInside procs given) (sym (fold-roll-Otherwise Runs Inside Inside (statement_step given) block_step otherwise_step x))
    (subst (λ (l : Otherwise-F Statement Block Otherwise). ScopingInside procs given (block given l.block)) is y.block.1)

pub block_scopes : (procs : List Proc) (given : Given) (b : Block) → ScopingInside procs given (block given b)
block_scopes procs given = ind-Block
    (λ (s : Statement). Scoping procs given (statement given s)) (λ (b : Block). ScopingInside procs given (block given b))
    (λ (o : Otherwise). ScopingInside procs given (otherwise given o))
    (statement_rolled procs given) (block_rolled procs given) (otherwise_rolled procs given)
