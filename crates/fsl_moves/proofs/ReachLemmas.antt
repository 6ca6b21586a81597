-- What is left of a body.
use Rattle.std.proofs.Common.{◌≡◌, ℕ, suc, ◌+◌, ◌<◌, List, [], ◌∷◌, ◌++◌, length, take, drop, get_or, slice_get, Some, refl, sym, ap, ◌∙◌, arith, append-nil, append_assoc, drop-cons}
use Rattle.std.proofs.lemmas.List.{take_more}
use Rattle.std.proofs.lemmas.Option.{slice_get_within, get_or_from_slice_get}
use Rattle.fsl_core.specs.declared.act.Act.TheViews.{out-Act}
use Rattle.fsl_core.specs.declared.act.Stmt.{Stmt}
use Rattle.fsl_moves.specs.declared.config.Arm.{Arm}
use Rattle.fsl_moves.specs.declared.config.Arm.TheVariants as arm
use Rattle.fsl_moves.specs.declared.config.Entry.{Entry}
use Rattle.fsl_moves.specs.Config.{block_of, block_in, entered, innermost, around, left_from}
use Rattle.fsl_moves.specs.Done.{stays}
use Rattle.fsl_moves.specs.Turn.{onward_at}

pub innermost_push : (body : List Stmt) (path : List Entry) (e : Entry) → innermost body (path ++ e ∷ []) ≡ entered e (innermost body path)
innermost_push body [] e = refl
innermost_push body (f ∷ path) e = innermost_push (entered f body) path e

pub around_push : (body : List Stmt) (path : List Entry) (e : Entry)
    → around body (path ++ e ∷ []) ≡ drop e.onward (innermost body path) ++ around body path
around_push body [] e = sym (append-nil (drop e.onward body))
around_push body (f ∷ path) e =
    ap (λ left. left ++ drop f.onward body) (around_push (entered f body) path e)
    ∙ append_assoc (drop e.onward (innermost (entered f body) path)) (around (entered f body) path) (drop f.onward body)

more : (path : List Entry) (i : ℕ) (e : Entry) → i < length path → e ≡ get_or path i e → take (i + 1) path ≡ take i path ++ e ∷ []
more path i e lt is = take_more path i e lt ∙ ap (λ (x : Entry). take i path ++ x ∷ []) (sym is)

pub innermost_more : (body : List Stmt) (path : List Entry) (i : ℕ) (e : Entry) → i < length path → e ≡ get_or path i e
    → innermost body (take (i + 1) path) ≡ entered e (innermost body (take i path))
innermost_more body path i e lt is = ap (innermost body) (more path i e lt is) ∙ innermost_push body (take i path) e

pub around_more : (body : List Stmt) (path : List Entry) (i : ℕ) (e : Entry) → i < length path → e ≡ get_or path i e
    → around body (take (i + 1) path) ≡ left_from body (take i path) e.onward
around_more body path i e lt is = ap (around body) (more path i e lt is) ∙ around_push body (take i path) e

-- ---- the next statement

pub next_drop : (xs : List Stmt) (i : ℕ) (x : Stmt) → slice_get xs i ≡ Some x → drop i xs ≡ x ∷ drop (i + 1) xs
next_drop xs i x is =
    let on : suc i ≡ i + 1 = omega arith in
    drop-cons xs i x (slice_get_within xs i x is)
    ∙ ap (λ (y : Stmt). y ∷ drop (suc i) xs) (get_or_from_slice_get xs i x x is)
    ∙ ap (λ n. x ∷ drop n xs) on

pub next_left : (body : List Stmt) (path : List Entry) (at : ℕ) (stmt : Stmt) → slice_get (innermost body path) at ≡ Some stmt
    → left_from body path at ≡ stmt ∷ left_from body path (at + 1)
next_left body path at stmt is = ap (λ left. left ++ around body path) (next_drop (innermost body path) at stmt is)

stays_left : (body : List Stmt) (path : List Entry) (at : ℕ) (stmt : Stmt) (arm : Arm) → slice_get (innermost body path) at ≡ Some stmt
    → left_from body path (onward_at arm at) ≡ stays arm stmt (left_from body path (at + 1))
stays_left body path at stmt arm.Body is = next_left body path at stmt is
stays_left body path at stmt arm.Yes is = refl
stays_left body path at stmt arm.No is = refl

-- a block of the statement is entered
pub enters : (body : List Stmt) (path : List Entry) (at : ℕ) (stmt : Stmt) (arm : Arm) → slice_get (innermost body path) at ≡ Some stmt
    → left_from body (path ++ record { stmt = at; arm = arm; onward = onward_at arm at } ∷ []) 0
    ≡ block_of arm (out-Act stmt.act) ++ stays arm stmt (left_from body path (at + 1))
enters body path at stmt arm is =
    let e : Entry = record { stmt = at; arm = arm; onward = onward_at arm at } in
    let block : innermost body (path ++ e ∷ []) ≡ block_of arm (out-Act stmt.act) =
    innermost_push body path e ∙ ap (block_in arm) is in
    ap (λ (first : List Stmt). drop 0 first ++ around body (path ++ e ∷ [])) block
    ∙ ap (λ (rest : List Stmt). block_of arm (out-Act stmt.act) ++ rest) (around_push body path e ∙ stays_left body path at stmt arm is)

-- a procedure at its start
pub starts : (body : List Stmt) → left_from body [] 0 ≡ body
starts body = append-nil body
