-- What a move of a straight program asks and shows.
use Rattle.std.proofs.Common.{◌≡◌, ℕ, Bool, true, false, List, [], ◌∷◌, slice_get, Option, Some, None, ℤ, refl, ap, sym, subst, ◌∙◌}
use Rattle.std.specs.List.{list_all}
use Rattle.std.proofs.lemmas.Bool.{and_parts}
use Rattle.fsl_core.specs.declared.act.Act.{Act}
use Rattle.fsl_core.specs.declared.act.Act.TheOpen.{Act-F}
use Rattle.fsl_core.specs.declared.act.Act.TheViews.{out-Act}
use Rattle.fsl_core.specs.declared.act.Act.TheFolds.{fold-Stmt, fold_out-Act, map-Act}
use Rattle.fsl_core.specs.declared.act.Stmt.{Stmt}
use Rattle.fsl_core.specs.declared.mode.AllocKind.TheVariants as kind
use Rattle.fsl_core.specs.declared.mode.Mode.TheVariants as mode
use Rattle.fsl_core.specs.declared.need.Need.{Need}
use Rattle.fsl_core.specs.declared.need.Need.TheVariants as need
use Rattle.fsl_core.specs.declared.need.Reply.{Reply}
use Rattle.fsl_core.specs.declared.need.Reply.TheVariants as reply
use Rattle.fsl_core.specs.declared.declaration.Proc.{Proc}
use Rattle.fsl_core.specs.Programs.{Program}
use Rattle.fsl_core.specs.Moves.{Move, Moved, Frame, Config, running, joining, returned, halted, failed, given, branching, after_assert, place_reply, read_reply, with_stmts, entered, started_at, start_of, act_move, frame_move, move_of}
use Rattle.fsl_core.specs.Straight.{Test, straight_step, is_straight_act, is_straight_proc, is_one_straight, is_straight, is_empty}
use Rattle.fsl_core.specs.Values.{value_of, holds_of}
use Rattle.fsl_graph.specs.declared.graph.Graph.{Graph}
use Rattle.fsl_graph.specs.Execution.{Runs, stands, silent, shows, reply_of}
use Rattle.fsl_moves.specs.Moves.{is_list, act_grows, stmts_grow, grows, HasNumbers}
use Rattle.fsl_machine.specs.declared.steps.Readiness.TheVariants as readiness
use Rattle.fsl_moves.specs.Label.{label_of}
use Rattle.fsl_machine.specs.Turn.{is_plain_need}
use Rattle.fsl_machine.specs.Steps.{readiness_of}
use Rattle.fsl_machine.specs.History.{Trace, answer_of}

-- what the move asks is what straight programs ask, and its label is that of what the memory answers
pub record IsPlainMove (t : Trace) (m : Move) : Type 0 where
  pub asks : is_plain_need m.need ≡ true
  pub shows : (m.answered (answer_of t m.need)).label ≡ label_of m.need (answer_of t m.need)

plain_given : (t : Trace) (o : Option ℤ) (f : ℤ → Move) → ((v : ℤ) → IsPlainMove t (f v)) → IsPlainMove t (given o f)
plain_given t None f h = record { asks = refl; shows = refl }
plain_given t (Some v) f h = h v

plain_branching : (t : Trace) (o : Option Bool) (f : Bool → Config) → IsPlainMove t (branching o f)
plain_branching t None f = record { asks = refl; shows = refl }
plain_branching t (Some b) f = record { asks = refl; shows = refl }

abbrev is_straight_stmt : Stmt → Test
is_straight_stmt = fold-Stmt Test Test straight_step (λ stmt. stmt.act)

straight_layer : (s : Stmt) (ss : List Stmt) (n : ℕ) → list_all (λ x. is_straight_act x.act n) (s ∷ ss) ≡ true
    → straight_step (map-Act Act Stmt Test Test is_straight_act is_straight_stmt (out-Act s.act)) n ≡ true
straight_layer s ss n h =
    let one : is_straight_act s.act n ≡ true = (and_parts (is_straight_act s.act n) (list_all (λ x. is_straight_act x.act n) ss) h).0 in
    let layer : is_straight_act s.act ≡ straight_step (map-Act Act Stmt Test Test is_straight_act is_straight_stmt (out-Act s.act)) =
    fold_out-Act Test Test straight_step (λ x. x.act) s.act in
    sym (ap (λ (q : Test). q n) layer) ∙ one

plain_act : (t : Trace) (p : Program) (a : Act-F Act Stmt) (stmt : Stmt) (f : Frame) (n : ℕ)
    → straight_step (map-Act Act Stmt Test Test is_straight_act is_straight_stmt a) n ≡ true → IsPlainMove t (act_move p a stmt f [])
plain_act t p (Act-F.Set slot e) stmt f n h = plain_given t (value_of e f.env) _ (λ v. record { asks = refl; shows = refl })
plain_act t p (Act-F.AllocNa slot) stmt f n h = record { asks = refl; shows = refl }
plain_act t p (Act-F.Load slot mode.Na at) stmt f n h = plain_given t (value_of at f.env) _ (λ l. record { asks = refl; shows = refl })
plain_act t p (Act-F.Load slot mode.Rlx at) stmt f n h = cc
plain_act t p (Act-F.Load slot mode.Acq at) stmt f n h = cc
plain_act t p (Act-F.Load slot mode.Rel at) stmt f n h = cc
plain_act t p (Act-F.Load slot mode.AcqRel at) stmt f n h = cc
plain_act t p (Act-F.Store mode.Na at e) stmt f n h =
    plain_given t (value_of at f.env) _ (λ l. plain_given t (value_of e f.env) _ (λ v. record { asks = refl; shows = refl }))
plain_act t p (Act-F.Store mode.Rlx at e) stmt f n h = cc
plain_act t p (Act-F.Store mode.Acq at e) stmt f n h = cc
plain_act t p (Act-F.Store mode.Rel at e) stmt f n h = cc
plain_act t p (Act-F.Store mode.AcqRel at e) stmt f n h = cc
plain_act t p (Act-F.Assert cond) stmt f n h = plain_branching t (holds_of cond f.env) _
plain_act t p (Act-F.Print e) stmt f n h = plain_given t (value_of e f.env) _ (λ v. record { asks = refl; shows = refl })
plain_act t p _ stmt f n h = cc

plain_stmts : (t : Trace) (p : Program) (stmts : List Stmt) (f : Frame) (n : ℕ) → list_all (λ s. is_straight_act s.act n) stmts ≡ true
    → IsPlainMove t (frame_move p stmts f [])
plain_stmts t p [] f n h = record { asks = refl; shows = refl }
plain_stmts t p (s ∷ ss) f n h = plain_act t p (out-Act s.act) s (with_stmts ss f) n (straight_layer s ss n h)

-- ---- straight programs stay so

-- what is left is straight, and no procedure waits
abbrev pub IsStraightConfig : ℕ → Config → Type 0
IsStraightConfig n (running f fs) = (list_all (λ s. is_straight_act s.act n) f.stmts ≡ true) × (fs ≡ [])
IsStraightConfig n (joining first count f fs) = ⊥
IsStraightConfig n (returned v) = Unit {0}
IsStraightConfig n halted = Unit {0}
IsStraightConfig n failed = Unit {0}

-- a move of this kind leads to such a configuration
abbrev Stays : ℕ → Move → Type 0
Stays n m = (r : Reply) → IsStraightConfig n (m.answered r).config

stays_given : (n : ℕ) (o : Option ℤ) (f : ℤ → Move) → ((v : ℤ) → Stays n (f v)) → Stays n (given o f)
stays_given n None f h r = tt
stays_given n (Some v) f h r = h v r

stays_place : (n : ℕ) (r : Reply) (f : ℤ → Moved) → ((v : ℤ) → IsStraightConfig n (f v).config) → IsStraightConfig n (place_reply r f).config
stays_place n (reply.Place v) f h = h v
stays_place n reply.Nothing f h = tt
stays_place n (reply.Read v) f h = tt
stays_place n (reply.Threads v) f h = tt
stays_place n (reply.Results v) f h = tt

stays_read : (n : ℕ) (r : Reply) (f : ℤ → Moved) → ((v : ℤ) → IsStraightConfig n (f v).config) → IsStraightConfig n (read_reply r f).config
stays_read n (reply.Read v) f h = h v
stays_read n reply.Nothing f h = tt
stays_read n (reply.Place v) f h = tt
stays_read n (reply.Threads v) f h = tt
stays_read n (reply.Results v) f h = tt

stays_assert : (n : ℕ) (o : Option Bool) (c : Config) → IsStraightConfig n c → Stays n (branching o (after_assert c))
stays_assert n None c h r = tt
stays_assert n (Some true) c h r = h
stays_assert n (Some false) c h r = tt

stays_act : (p : Program) (a : Act-F Act Stmt) (stmt : Stmt) (f : Frame) (n : ℕ)
    → straight_step (map-Act Act Stmt Test Test is_straight_act is_straight_stmt a) n ≡ true
    → list_all (λ s. is_straight_act s.act n) f.stmts ≡ true → Stays n (act_move p a stmt f [])
stays_act p (Act-F.Set slot e) stmt f n h rest = stays_given n (value_of e f.env) _ (λ v r. (rest, refl))
stays_act p (Act-F.AllocNa slot) stmt f n h rest = λ r. stays_place n r _ (λ v. (rest, refl))
stays_act p (Act-F.Load slot m at) stmt f n h rest = stays_given n (value_of at f.env) _ (λ l r. stays_read n r _ (λ v. (rest, refl)))
stays_act p (Act-F.Store m at e) stmt f n h rest = stays_given n (value_of at f.env) _ (λ l. stays_given n (value_of e f.env) _ (λ v r. (rest, refl)))
stays_act p (Act-F.Assert cond) stmt f n h rest = stays_assert n (holds_of cond f.env) (running f []) (rest, refl)
stays_act p (Act-F.Print e) stmt f n h rest = stays_given n (value_of e f.env) _ (λ v r. (rest, refl))
stays_act p _ stmt f n h rest = cc

stays_stmts : (p : Program) (stmts : List Stmt) (f : Frame) (n : ℕ) → list_all (λ s. is_straight_act s.act n) stmts ≡ true
    → Stays n (frame_move p stmts f [])
stays_stmts p [] f n h = λ r. tt
stays_stmts p (s ∷ ss) f n h =
    stays_act p (out-Act s.act) s (with_stmts ss f) n (straight_layer s ss n h)
    ((and_parts (is_straight_act s.act n) (list_all (λ x. is_straight_act x.act n) ss) h).1)

stays_straight : (p : Program) (c : Config) (n : ℕ) → IsStraightConfig n c → Stays n (move_of p c)
stays_straight p (running f []) n h = stays_stmts p f.stmts f n h.0
stays_straight p (running f (g ∷ fs)) n h = let e = h.1 in cc
stays_straight p (joining first count f fs) n h = absurd h
stays_straight p (returned v) n h = λ r. tt
stays_straight p halted n h = λ r. tt
stays_straight p failed n h = λ r. tt

run_straight : (p : Program) (g : Graph) (c last : Config) (m n : ℕ) (es : List ℕ) → IsStraightConfig n c → Runs p g c m es last → IsStraightConfig n last
run_straight p g c last m n es h stands = h
run_straight p g c last m n es h (silent is more) = run_straight p g _ last _ n es (stays_straight p c n h reply.Nothing) more
run_straight p g c last m n es h (shows {next = next} x is moves children more) =
    run_straight p g next last _ n _
    (subst (λ (d : Moved). IsStraightConfig n d.config) moves (stays_straight p c n h (reply_of x.label))) more

-- ---- from the start

body_straight : (q : Proc) → is_straight_proc q ≡ true → list_all (λ s. is_straight_act s.act q.slots) q.body ≡ true
body_straight q h = (and_parts _ _ (and_parts _ _ h).0).1

start_straight : (procs : List Proc) → is_one_straight procs ≡ true → (n : ℕ) × IsStraightConfig n (started_at (entered (slice_get procs 0) [] None))
start_straight [] h = cc
start_straight (q ∷ []) h = (q.slots, (body_straight q h, refl))
start_straight (q ∷ (r ∷ qs)) h = cc

pub is_straight_config : (p : Program) (g : Graph) (m : ℕ) (es : List ℕ) (c : Config) → is_straight p ≡ true
    → Runs p g (start_of p 0 []) m es c → (n : ℕ) × IsStraightConfig n c
is_straight_config p g m es c h runs =
    let first = start_straight p.procs ((and_parts (is_empty p.invs) (is_one_straight p.procs) h).1) in
    (first.0, run_straight p g (start_of p 0 []) c m first.0 es first.1 runs)

plain_move : (t : Trace) (p : Program) (c : Config) (n : ℕ) → IsStraightConfig n c → readiness_of c ≡ readiness.Ready → IsPlainMove t (move_of p c)
plain_move t p (running f []) n h ready = plain_stmts t p f.stmts f n h.0
plain_move t p (running f (g ∷ fs)) n h ready = let e = h.1 in cc
plain_move t p (joining first count f fs) n h ready = absurd h
plain_move t p (returned v) n h ready = cc
plain_move t p halted n h ready = cc
plain_move t p failed n h ready = cc

-- a move of a thread that is ready
pub is_plain_move : (t : Trace) (p : Program) (g : Graph) (m : ℕ) (es : List ℕ) (c : Config) → is_straight p ≡ true
    → Runs p g (start_of p 0 []) m es c → readiness_of c ≡ readiness.Ready → IsPlainMove t (move_of p c)
is_plain_move t p g m es c h runs ready =
    let straight = is_straight_config p g m es c h runs in plain_move t p c straight.0 straight.1 ready

-- ---- it takes no memory

plain_is_no_list : (n : Need) → is_plain_need n ≡ true → is_list n ≡ false
plain_is_no_list need.Local h = refl
plain_is_no_list (need.Load mode.Na l) h = refl
plain_is_no_list (need.Store mode.Na l v) h = refl
plain_is_no_list (need.Alloc kind.Na) h = refl
plain_is_no_list (need.Print v) h = refl
plain_is_no_list (need.End v) h = refl
plain_is_no_list _ h = cc

pub asks_no_list : (t : Trace) (m : Move) → IsPlainMove t m → is_list m.need ≡ false
asks_no_list t m plain = plain_is_no_list m.need plain.asks

plain_numbers : (n : Need) (r : Reply) → is_plain_need n ≡ true → HasNumbers n r
plain_numbers need.Local r h = tt
plain_numbers (need.Load mode.Na l) r h = tt
plain_numbers (need.Store mode.Na l v) r h = tt
plain_numbers (need.Alloc kind.Na) r h = tt
plain_numbers (need.Print v) r h = tt
plain_numbers (need.End v) r h = tt
plain_numbers _ r h = cc

pub has_numbers : (t : Trace) (m : Move) (r : Reply) → IsPlainMove t m → HasNumbers m.need r
has_numbers t m r plain = plain_numbers m.need r plain.asks

grows_not : (a : Act-F Act Stmt) (n : ℕ) → straight_step (map-Act Act Stmt Test Test is_straight_act is_straight_stmt a) n ≡ true → act_grows a ≡ false
grows_not (Act-F.Set slot e) n h = refl
grows_not (Act-F.AllocNa slot) n h = refl
grows_not (Act-F.Load slot m at) n h = refl
grows_not (Act-F.Store m at e) n h = refl
grows_not (Act-F.Assert cond) n h = refl
grows_not (Act-F.Print e) n h = refl
grows_not _ n h = cc

stmts_grow_not : (stmts : List Stmt) (n : ℕ) → list_all (λ s. is_straight_act s.act n) stmts ≡ true → stmts_grow stmts ≡ false
stmts_grow_not [] n h = refl
stmts_grow_not (s ∷ ss) n h = grows_not (out-Act s.act) n (straight_layer s ss n h)

config_grows_not : (c : Config) (n : ℕ) → IsStraightConfig n c → grows c ≡ false
config_grows_not (running f fs) n h = stmts_grow_not f.stmts n h.0
config_grows_not (joining first count f fs) n h = absurd h
config_grows_not (returned v) n h = refl
config_grows_not halted n h = refl
config_grows_not failed n h = refl

pub never_grows : (p : Program) (g : Graph) (m : ℕ) (es : List ℕ) (c : Config) → is_straight p ≡ true
    → Runs p g (start_of p 0 []) m es c → grows c ≡ false
never_grows p g m es c h runs = let straight = is_straight_config p g m es c h runs in config_grows_not c straight.0 straight.1

-- ---- it waits for nobody

waits_not : (c : Config) (n : ℕ) → IsStraightConfig n c → readiness_of c ≡ readiness.Waiting → ⊥
waits_not (running f fs) n h is = cc
waits_not (joining first count f fs) n h is = absurd h
waits_not (returned v) n h is = cc
waits_not halted n h is = cc
waits_not failed n h is = cc

pub never_waits : (p : Program) (g : Graph) (m : ℕ) (es : List ℕ) (c : Config) → is_straight p ≡ true
    → Runs p g (start_of p 0 []) m es c → readiness_of c ≡ readiness.Waiting → ⊥
never_waits p g m es c h runs is = let straight = is_straight_config p g m es c h runs in waits_not c straight.0 straight.1 is
