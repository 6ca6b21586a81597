-- From a statement to the procedure that runs it.
use Rattle.std.proofs.Common.{◌≡◌, ℕ, ◌+◌, Bool, true, false, cond, List, ◌∷◌, Result, Ok, Err, IfOk, OnErr, refl, sym, ap, subst, ◌∙◌, take, ℤ, Option, Some, None, slice_set}
use Rattle.std.specs.Ordering.{int_eq}
use Rattle.fsl_core.specs.declared.act.Act.{Act}
use Rattle.fsl_core.specs.declared.act.Act.TheOpen.{Act-F}
use Rattle.fsl_core.specs.declared.act.Step.{Step}
use Rattle.fsl_core.specs.declared.expr.Expr.{Expr}
use Rattle.fsl_core.specs.declared.label.Label.{Label}
use Rattle.fsl_core.specs.declared.mode.Mode.{Mode}
use Rattle.fsl_core.specs.declared.need.Need.TheVariants as need
use Rattle.fsl_core.specs.declared.need.Reply.TheVariants as reply
use Rattle.fsl_core.specs.declared.need.RmwOp.TheVariants as op
use Rattle.fsl_core.specs.Values.{value_of}
use Rattle.fsl_moves.specs.declared.done.Done.TheVariants as done
use Rattle.fsl_moves.specs.declared.done.Turn.TheVariants as turn
use Rattle.fsl_core.specs.declared.act.Act.TheViews.{out-Act, roll-Act, out-roll-Act}
use Rattle.fsl_core.specs.declared.act.Stmt.{Stmt}
use Rattle.fsl_core.specs.declared.need.Need.{Need}
use Rattle.fsl_core.specs.declared.need.Reply.{Reply}
use Rattle.fsl_core.specs.Programs.{Program}
use Rattle.fsl_core.specs.Moves as moves
use Rattle.fsl_core.specs.Moves.{Values, Moved, moved, need_of, running, frame_move, act_move}
use Rattle.fsl_moves.specs.declared.config.Frame.{Frame}
use Rattle.fsl_moves.specs.declared.done.Done.{Done}
use Rattle.fsl_moves.specs.declared.done.Turn.{Turn}
use Rattle.fsl_moves.specs.Config.{frame_of, frames_of, left_from}
use Rattle.fsl_moves.specs.Done.{Ends, Asks, AsksList, after, frame_with, is_empty}
use Rattle.fsl_moves.specs.Label.{updating, label_of}
use Rattle.fsl_moves.specs.Moves.{is_list, act_grows, stmts_grow, HasNumbers, CanNumber}
use Rattle.fsl_moves.specs.Reach.{IsNext}
use Rattle.fsl_moves.specs.Turn.{IsAt, body_in, behind}
use Rattle.fsl_moves.proofs.ListsLemmas.{can_number}
use Rattle.fsl_moves.proofs.TurnLemmas.{goes}
use Rattle.fsl_moves.proofs.ReachLemmas.{next_left}

-- ---- what is asked

next_of_frame : (p : Program) (f : Frame) (depth at : ℕ) (stmt : Stmt) → IsNext (body_in p f) f.path.items (left_from (body_in p f) f.path.items f.at) depth at stmt
    → left_from (body_in p f) f.path.items f.at ≡ stmt ∷ left_from (body_in p f) (take depth f.path.items) (at + 1)
next_of_frame p f depth at stmt next = next.whole ∙ next_left (body_in p f) (take depth f.path.items) at stmt next.there

pub asks_next : {E : Type 0} (p : Program) (f : Frame) (depth at : ℕ) (stmt : Stmt) (last : Bool) (r : Result Need E)
    → IsNext (body_in p f) f.path.items (left_from (body_in p f) f.path.items f.at) depth at stmt → IfOk r (Asks p (out-Act stmt.act) f.env last)
    → IfOk r (λ need. (fs : List moves.Frame) → is_empty fs ≡ last → need_of p (running (frame_of p f) fs) ≡ need)
asks_next p f depth at stmt last (Ok need) next h = λ fs lone.
    let left = next_of_frame p f depth at stmt next in
    rw left (h stmt (left_from (body_in p f) (take depth f.path.items) (at + 1)) f.target fs lone)
asks_next p f depth at stmt last (Err e) next h = tt

pub asks_next_list : {E : Type 0} (p : Program) (f : Frame) (depth at : ℕ) (stmt : Stmt) (r : Result Need E)
    → IsNext (body_in p f) f.path.items (left_from (body_in p f) f.path.items f.at) depth at stmt → OnErr r (AsksList p (out-Act stmt.act) f.env)
    → OnErr r ((fs : List moves.Frame) → is_list (need_of p (running (frame_of p f) fs)) ≡ true)
asks_next_list p f depth at stmt (Ok need) next h = tt
asks_next_list p f depth at stmt (Err e) next h = λ fs.
    let left = next_of_frame p f depth at stmt next in
    rw left (h stmt (left_from (body_in p f) (take depth f.path.items) (at + 1)) f.target fs)

-- ---- what is made

pub can_number_at : (p : Program) (f : Frame) (stmt : Stmt) (fs : List moves.Frame) (r : Reply) → IsAt p f stmt
    → HasNumbers (need_of p (running (frame_of p f) fs)) r → CanNumber p (out-Act stmt.act) f.env r
can_number_at p f stmt fs r is h =
    can_number p (out-Act stmt.act) stmt (frame_with (behind p f) f.env f.target) fs r
    (subst (λ (stmts : List Stmt). HasNumbers (frame_move p stmts (frame_with stmts f.env f.target) fs).need r)
    (next_left (body_in p f) f.path.items f.at stmt is.there) h)

pub grows_at : (p : Program) (f : Frame) (stmt : Stmt) → IsAt p f stmt → act_grows (out-Act stmt.act) ≡ true → stmts_grow (frame_of p f).stmts ≡ true
grows_at p f stmt is h = rw (next_left (body_in p f) f.path.items f.at stmt is.there) h

pub moved_on : {E : Type 0} (p : Program) (f : Frame) (stmt : Stmt) (below : List Frame) (reply : Reply) (env : Values) (done : Done) (r : Result Turn E)
    (to : Program → Turn → Moved) → IsAt p f stmt → Ends p (out-Act stmt.act) f.env reply env done
    → IfOk r (λ turn. (q : Program) (s : Stmt) → IsAt q (record f { env = env }) s → to q turn ≡ after q (out-Act s.act) s (behind q f) f.target (frames_of q below) env done)
    → IfOk r (λ turn. moved p (running (frame_of p f) (frames_of p below)) reply ≡ to p turn)
moved_on p f stmt below reply env done (Ok turn) to is ends h =
    goes p f stmt (frames_of p below) reply env done (to p turn) is ends (h p stmt (record { there = is.there; room = is.room }))
moved_on p f stmt below reply env done (Err e) to is ends h = tt

-- ---- where there was no memory

pub kept_on : {A E : Type 0} (p : Program) (last f : Frame) (env : Values) (old : moves.Frame) (entry : Bool) (r : Result A E) → frame_of p f ≡ old
    → (entry ≡ true → env ≡ f.env) → OnErr r (entry ≡ true) → OnErr r ((q : Program) → frame_of q last ≡ frame_of q (record f { env = env }))
    → OnErr r (frame_of p last ≡ old)
kept_on p last f env old entry (Ok a) same keeps is h = tt
kept_on p last f env old entry (Err e) same keeps is h =
    h p ∙ ap (λ (vs : Values). frame_with (left_from (body_in p f) f.path.items f.at) vs f.target) (keeps is) ∙ same

pub grows_on : {A E : Type 0} (entry grows : Bool) (r : Result A E) → (entry ≡ true → grows ≡ true) → OnErr r (entry ≡ true) → OnErr r (grows ≡ true)
grows_on entry grows (Ok a) so is = tt
grows_on entry grows (Err e) so is = so is

pub said : {A E : Type 0} {P : Type 0} (r : Result A E) → P → OnErr r P
said (Ok a) h = tt
said (Err e) h = h

-- ---- from an act to a statement

pub made : {E : Type 0} (p : Program) (act a : Act-F Act Stmt) (old : Values) (reply : Reply) (new : Values) (turn : Turn) (r : Result Done E)
    → act ≡ a → r ≡ Ok (done.Turns turn) → Ends p a old reply new (done.Turns turn) → IfOk r (Ends p act old reply new)
made p act a old reply new turn r is ok h = rw (ok, is) h

pub asks_act : (p : Program) (act a : Act-F Act Stmt) (env : Values) (last : Bool) (need : Need) → act ≡ a → Asks p a env last need → Asks p act env last need
asks_act p act a env last need is h = rw is h

pub lists_act : {E : Type 0} (p : Program) (act a : Act-F Act Stmt) (env : Values) (r : Result Need E) → act ≡ a → OnErr r (AsksList p a env)
    → OnErr r (AsksList p act env)
lists_act p act a env r is h = rw is h

-- one level of an act
pub layer_of : (act view : Act) (layer : Act-F Act Stmt) → act ≡ view → roll-Act layer ≡ view → out-Act act ≡ layer
layer_of act view layer is rolls = ap out-Act (is ∙ sym rolls) ∙ out-roll-Act layer

-- a compare-exchange that has read
exchanges : (p : Program) (slot : ℕ) (m fail : Mode) (at o n : Expr) (steps : List Step) (env new : Values) (answer : Reply)
    (loc old value read : ℤ) → Some loc ≡ value_of at env → Some old ≡ value_of o env → Some value ≡ value_of n env → answer ≡ reply.Read read
    → new ≡ slice_set env slot read
    → Ends p (Act-F.Cas slot m fail at o n steps) env answer new (done.Turns (turn.Goes (label_of (need.Rmw m fail loc (op.Cas old value)) answer)))
exchanges p slot m fail at o n steps env new answer loc old value read l e v r set stmt rest target fs =
    rw (← l, ← e, ← v, r, set) (by (int_eq read old) (running (frame_with rest (slice_set env slot read) target) fs))
  where
    by : (b : Bool) (c : moves.Config)
        → cond b (moves.showing (Label.Rmw m loc read value) c) (moves.showing (Label.Load fail loc read) c)
        ≡ record { config = c; label = Some (updating m fail loc read (cond b (Some value) None)) }
    by true c = refl
    by false c = refl

-- the same of a turn whose label is told in numbers that are these
pub exchanges_as : (p : Program) (slot : ℕ) (m fail : Mode) (at o n : Expr) (steps : List Step) (env new : Values) (answer : Reply)
    (loc old value read place from into : ℤ) (end : Turn) → Some loc ≡ value_of at env → Some old ≡ value_of o env → Some value ≡ value_of n env
    → answer ≡ reply.Read read → new ≡ slice_set env slot read → place ≡ loc → from ≡ old → into ≡ value
    → end ≡ turn.Goes (label_of (need.Rmw m fail place (op.Cas from into)) answer)
    → Ends p (Act-F.Cas slot m fail at o n steps) env answer new (done.Turns end)
exchanges_as p slot m fail at o n steps env new answer loc old value read place from into end l e v r set a b c is =
    let same : end ≡ turn.Goes (label_of (need.Rmw m fail loc (op.Cas old value)) answer) =
    is ∙ ap (λ (k : ℤ). turn.Goes (label_of (need.Rmw m fail k (op.Cas from into)) answer)) a
    ∙ ap (λ (k : ℤ). turn.Goes (label_of (need.Rmw m fail loc (op.Cas k into)) answer)) b
    ∙ ap (λ (k : ℤ). turn.Goes (label_of (need.Rmw m fail loc (op.Cas old k)) answer)) c in
    subst (λ (t : Turn). Ends p (Act-F.Cas slot m fail at o n steps) env answer new (done.Turns t)) (sym same)
    (exchanges p slot m fail at o n steps env new answer loc old value read l e v r set)
