-- What the walk comes to, one step at a time.
use Rattle.std.proofs.Common.{arith, ◌≡◌, ℕ, ◌+◌, ◌<◌, Bool, true, List, [], ◌∷◌, ◌++◌, map, nat_lt, if◌then◌else◌, refl, sym, ap, ◌∙◌, append_assoc, append-nil}
use Rattle.std.specs.List.{flat_map, list_all}
use Rattle.std.proofs.lemmas.Bool.{and_parts}
use Rattle.std.proofs.lemmas.Grind.{flat_map-append}
use Rattle.std.proofs.lemmas.List.{map-append}
use Rattle.std.proofs.lemmas.List.Folds.{list_all-append}
use Rattle.fsl_base.specs.declared.span.Span.{Span}
use Rattle.fsl_core.specs.declared.act.Stmt.{Stmt}
use Rattle.fsl_core.specs.declared.verdict.Kind.{Kind}
use Rattle.fsl_core.specs.declared.verdict.Kind.TheVariants.{Paths}
use Rattle.fsl_core.specs.declared.verdict.Outcome.{Outcome}
use Rattle.fsl_core.specs.declared.verdict.Outcome.TheVariants.{Derived, Fails}
use Rattle.fsl_core.specs.Verdicts.{End, derived, failed, outcome_from}
use Rattle.fsl_core.specs.logic.States.{State, Branches}
use Rattle.fsl_core.specs.logic.Assertions.{asrt_of}
use Rattle.fsl_core.specs.logic.Calls.{enter}
use Rattle.fsl_core.specs.logic.Locations.{contract_of}
use Rattle.fsl_core.specs.logic.Paths.{each, nowhere, start, ends_of}
use Rattle.fsl_flow.specs.declared.job.Job.{Job}
use Rattle.fsl_flow.specs.declared.pending.Pending.{Pending}
use Rattle.fsl_flow.specs.Supported.{are_supported, is_supported_proc}
use Rattle.fsl_flow.specs.Next.{goes_to, next}
use Rattle.fsl_flow.specs.Continuation.{in_block, closes, Continuation}
use Rattle.fsl_flow.specs.Pending.{Item, goes_on, over, item_of, stack}
use Rattle.fsl_flow.specs.Paths.{reading, continuation_ends, item_ends, is_supported_continuation, is_supported_item, total, item_weight, steps}
use Rattle.fsl_flow.proofs.NextEnds.{going_ends, next_ends}
use Rattle.fsl_flow.proofs.NextShrinks.{both, follow_supported, going_supported, next_follows, steps_next}
use Rattle.fsl_flow.proofs.ContinuationLemmas.{none_first, last_first}

-- ---- the stack

-- one more is laid on it
pub laid : (more rest : List Pending) (last : Pending) (before after : List Pending) (whole : List Item) → more ≡ rest ++ last ∷ []
    → after ≡ before ++ last ∷ [] → map item_of more ++ stack before ≡ whole → map item_of rest ++ stack after ≡ whole
laid more rest last before after whole e f h =
    ap (λ (ps : List Pending). map item_of rest ++ stack ps) f
    ∙ ap (λ (xs : List Item). map item_of rest ++ xs) (last_first item_of before last)
    ∙ sym (append_assoc (map item_of rest) (item_of last ∷ []) (stack before))
    ∙ ap (λ (xs : List Item). xs ++ stack before) (sym (map-append item_of rest (last ∷ [])))
    ∙ ap (λ (ps : List Pending). map item_of ps ++ stack before) (sym e) ∙ h

-- the first lay on an empty one
pub laid_first : (first : List Item) (empty after : List Pending) → stack after ≡ first ++ stack empty → empty ≡ [] → stack after ≡ first
laid_first first empty after e f =
    e ∙ ap (λ (ps : List Pending). first ++ stack ps) f ∙ ap (λ (xs : List Item). first ++ xs) (none_first item_of) ∙ append-nil first

-- its top is taken off
pub popped : (before after : List Pending) (top : Pending) (item : Item) → before ≡ after ++ top ∷ [] → item_of top ≡ item
    → stack before ≡ item ∷ stack after
popped before after top item e f = ap stack e ∙ last_first item_of after top ∙ ap (λ (x : Item). x ∷ stack after) f

total_append : (f : Item → ℕ) (xs ys : List Item) → total (map f (xs ++ ys)) ≡ total (map f xs) + total (map f ys)
total_append f [] ys = omega arith
total_append f (x ∷ xs) ys = let more = total_append f xs ys in omega arith

-- ---- a state goes on: what comes next is laid in its place

pub top_supported : (s : State) (left : Continuation) (below before : List Item) → before ≡ goes_on s left ∷ below → list_all is_supported_item before ≡ true
    → is_supported_continuation left ≡ true
top_supported s left below before e h = (and_parts (is_supported_continuation left) (list_all is_supported_item below) (ap (list_all is_supported_item) (sym e) ∙ h)).0

pub next_supported : (job : Job) (s : State) (left : Continuation) (below before after : List Item) → before ≡ goes_on s left ∷ below
    → after ≡ next job (goes_on s left) ++ below → list_all is_supported_item before ≡ true → list_all is_supported_item after ≡ true
next_supported job s left below before after e f h =
    let parts = and_parts (is_supported_continuation left) (list_all is_supported_item below) (ap (list_all is_supported_item) (sym e) ∙ h) in
    ap (list_all is_supported_item) f ∙ list_all-append is_supported_item (next job (goes_on s left)) below
    ∙ both (list_all is_supported_item (next job (goes_on s left))) (list_all is_supported_item below)
    (follow_supported (item_weight (goes_on s left)) (next job (goes_on s left)) (next_follows job (goes_on s left) parts.0)) parts.1

pub next_same : (job : Job) (s : State) (left : Continuation) (below before after : List Item) → before ≡ goes_on s left ∷ below
    → after ≡ next job (goes_on s left) ++ below → flat_map (item_ends job) after ≡ flat_map (item_ends job) before
next_same job s left below before after e f =
    ap (flat_map (item_ends job)) f ∙ flat_map-append (item_ends job) (next job (goes_on s left)) below
    ∙ ap (λ (es : List End). es ++ flat_map (item_ends job) below) (sym (next_ends job s left)) ∙ ap (flat_map (item_ends job)) (sym e)

pub next_fewer : (job : Job) (s : State) (left : Continuation) (below before after : List Item) → before ≡ goes_on s left ∷ below
    → after ≡ next job (goes_on s left) ++ below → list_all is_supported_item before ≡ true
    → total (map (steps job) after) < total (map (steps job) before)
next_fewer job s left below before after e f h =
    let parts = and_parts (is_supported_continuation left) (list_all is_supported_item below) (ap (list_all is_supported_item) (sym e) ∙ h) in
    let one = ap (λ (xs : List Item). total (map (steps job) xs)) e in
    let two = ap (λ (xs : List Item). total (map (steps job) xs)) f ∙ total_append (steps job) (next job (goes_on s left)) below in
    let three = steps_next job (goes_on s left) parts.0 in
    omega arith

-- ---- a path is over

pub over_supported : (end : End) (below before : List Item) → before ≡ over end ∷ below → list_all is_supported_item before ≡ true
    → list_all is_supported_item below ≡ true
over_supported end below before e h = ap (list_all is_supported_item) (sym e) ∙ h

pub over_fewer : (job : Job) (end : End) (below before : List Item) → before ≡ over end ∷ below
    → total (map (steps job) below) < total (map (steps job) before)
over_fewer job end below before e =
    let one = ap (λ (xs : List Item). total (map (steps job) xs)) e in
    let two = steps_next job (over end) refl in
    omega arith

over_ends : (job : Job) (end : End) (below before : List Item) → before ≡ over end ∷ below
    → flat_map (item_ends job) before ≡ end ∷ flat_map (item_ends job) below
unfolding item_ends
over_ends job end below before e = ap (flat_map (item_ends job)) e

counted : (number c : ℕ) (at : Span) (es : List End) (room : Bool) → room ≡ true
    → (if room then outcome_from number (c + 1) es else Fails number at Paths) ≡ outcome_from number (c + 1) es
counted number c at es room e = rw e refl

pub over_counts : (job : Job) (at : Span) (below before : List Item) (c : ℕ) (whole : Outcome) → before ≡ over (derived at) ∷ below → c < 65536
    → outcome_from job.number c (flat_map (item_ends job) before) ≡ whole → outcome_from job.number (c + 1) (flat_map (item_ends job) below) ≡ whole
over_counts job at below before c whole e few h =
    let room : nat_lt c 65536 ≡ true = grind arith in
    sym (ap (outcome_from job.number c) (over_ends job (derived at) below before e)
    ∙ counted job.number c at (flat_map (item_ends job) below) (nat_lt c 65536) room) ∙ h

pub too_many : (job : Job) (at : Span) (below before : List Item) (c : ℕ) (whole : Outcome) → before ≡ over (derived at) ∷ below → c ≡ 65536
    → outcome_from job.number c (flat_map (item_ends job) before) ≡ whole → Fails job.number at Paths ≡ whole
too_many job at below before c whole e full h =
    sym (ap (λ (n : ℕ). outcome_from job.number n (flat_map (item_ends job) before)) full
    ∙ ap (outcome_from job.number 65536) (over_ends job (derived at) below before e)) ∙ h

pub over_fails : (job : Job) (at : Span) (kind : Kind) (below before : List Item) (c : ℕ) (whole : Outcome) → before ≡ over (failed at kind) ∷ below
    → outcome_from job.number c (flat_map (item_ends job) before) ≡ whole → Fails job.number at kind ≡ whole
over_fails job at kind below before c whole e h =
    sym (ap (outcome_from job.number c) (over_ends job (failed at kind) below before e)) ∙ h

pub all_over : (job : Job) (pending : List Pending) (c : ℕ) (whole : Outcome) → pending ≡ []
    → outcome_from job.number c (flat_map (item_ends job) (stack pending)) ≡ whole → Derived c ≡ whole
all_over job pending c whole e h =
    sym (ap (λ (ps : List Pending). outcome_from job.number c (flat_map (item_ends job) (stack ps))) e
    ∙ ap (λ (xs : List Item). outcome_from job.number c (flat_map (item_ends job) xs)) (none_first item_of)) ∙ h

-- ---- a whole procedure

-- its body, and its closing brace
abbrev pub whole_body : Job → Continuation
whole_body job = record { frames = in_block job.proc.now.body 0 ∷ []; leaving = closes job.proc.now.last }

pub first_is : (job : Job) (first : List Item) (bs : Branches (Unit {0})) (left : Continuation) (stmts : List Stmt) → first ≡ goes_to nowhere bs left
    → left ≡ record { frames = in_block stmts 0 ∷ []; leaving = closes job.proc.now.last } → stmts ≡ job.proc.now.body
    → first ≡ goes_to nowhere bs (whole_body job)
first_is job first bs left stmts e f g =
    e ∙ ap (λ (l : Continuation). goes_to nowhere bs l) f
    ∙ ap (λ (ss : List Stmt). goes_to nowhere bs (record { frames = in_block ss 0 ∷ []; leaving = closes job.proc.now.last })) g

pub judged : (job : Job) (first : List Item) (bs : Branches (Unit {0})) → first ≡ goes_to nowhere bs (whole_body job)
    → bs ≡ enter (contract_of asrt_of job.proc.now) start → flat_map (item_ends job) first ≡ ends_of job.program.now job.proc.now
judged job first bs e h =
    ap (flat_map (item_ends job)) e ∙ going_ends job nowhere bs (whole_body job)
    ∙ ap (λ (cs : Branches (Unit {0})). each nowhere cs (λ x. continuation_ends (reading job) (whole_body job))) h

pub judged_supported : (job : Job) (first : List Item) (bs : Branches (Unit {0})) → first ≡ goes_to nowhere bs (whole_body job)
    → is_supported_proc job.proc.now ≡ true → list_all is_supported_item first ≡ true
judged_supported job first bs e h =
    ap (list_all is_supported_item) e ∙ going_supported nowhere bs (whole_body job) (both (are_supported job.proc.now.body) true h refl)
