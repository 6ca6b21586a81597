-- Threads that run side by side: started with what they require, joined with what they ensure.
use Rattle.std.proofs.Common.{◌≡◌, ℕ, zero, suc, ◌+◌, ◌≤◌, List, [], ◌∷◌, map, Some, ℤ, slice_get, refl, sym, subst, arith}
use Rattle.fsl_core.specs.declared.act.Called.{Called}
use Rattle.fsl_core.specs.declared.declaration.Proc.{Proc}
use Rattle.fsl_core.specs.declared.mode.Rung.TheVariants.{Plain}
use Rattle.fsl_core.specs.declared.verdict.Mood.TheVariants as mood
use Rattle.fsl_core.specs.Programs.{Program}
use Rattle.fsl_core.specs.logic.States.{Env, State}
use Rattle.fsl_core.specs.logic.Terms.{expr_of}
use Rattle.fsl_core.specs.logic.Assertions.{asrt_of}
use Rattle.fsl_core.specs.logic.Locations.{Contract, contract_of, setting_of}
use Rattle.fsl_core.specs.logic.Calls.{Running, running, call_of, with_args, start_each, join_each, gain_post}
use Rattle.fsl_lin.specs.Combination.{Combination}
use Rattle.fsl_lin.specs.Numbers.{Numbers}
use Rattle.fsl_meaning.specs.Means.{AllMean, Grows}
use Rattle.fsl_meaning.specs.Heaps.{Heap, Holds, Ground, IsBounded}
use Rattle.fsl_meaning.specs.States.{Owning, All, Fits}
use Rattle.fsl_meaning.specs.Branches.{Lands, Tells}
use Rattle.fsl_meaning.proofs.Terms.{all_more}
use Rattle.fsl_meaning.proofs.Calculus.{lands_then, lands_give, tells_on, tells_give}
use Rattle.fsl_meaning.proofs.Facts.{lands_symbol}
use Rattle.fsl_meaning.proofs.Owned.{all_lasts, fits_less}
use Rattle.fsl_meaning.proofs.Joining.{bounded_less}
use Rattle.fsl_meaning.proofs.Slots.{all_padded}
use Rattle.fsl_asserted.specs.Exact.{exact_all}
use Rattle.fsl_asserted.specs.Needs.{Need, asks}
use Rattle.fsl_asserted.specs.Fitting.{Gives}
use Rattle.fsl_asserted.proofs.Producing.{more_of}
use Rattle.fsl_asserted.proofs.Terms.{reads_terms}
use Rattle.fsl_asserted.proofs.Trees.{consume_fits}
use Rattle.fsl_kept.specs.Threads.{Started, started_by, started, EachRuns, AllRun, all_needs, EachEnsures, Starts}
use Rattle.fsl_kept.proofs.Calls.{gain_post_fits}

-- ---- who is started

running_are : (n : ℕ) (v : Numbers) (procs : List Proc) (i : ℕ) (ts : List Combination) (ns : List ℤ) (rest : List Running) (others : List Started) → AllMean n v ts ns → EachRuns n v rest others
    → EachRuns n v (running (slice_get (map (contract_of asrt_of) procs) i) ts rest) (started_by (slice_get procs i) ns others)
running_are n v [] i ts ns rest others h each = each
running_are n v (q ∷ qs) zero ts ns rest others h each = (refl, all_padded q.slots h, each)
running_are n v (q ∷ qs) (suc i) ts ns rest others h each = running_are n v qs i ts ns rest others h each

-- the arguments of all calls are read first
pub args_tell : {slots : List ℤ} {own : Owning} {v : Numbers} {s : State} {env : Env} {xs : List ℤ} (p : Program) (calls : List Called) → Fits slots own v s → AllMean s.next v env xs
    → Tells s (λ rs. AllRun s.next v rs (started p xs calls)) (with_args (setting_of asrt_of p) (map (call_of expr_of) calls) env s)
args_tell {s = s} p [] fit all = tells_give [] s (record { each = tt })
args_tell {v = v} {s = s} {xs = xs} p (c ∷ cs) fit all =
    tells_on _ (reads_terms c.args fit all) (λ ts ts_are.
    tells_on _ (args_tell p cs fit all) (λ rs rs_are.
    tells_give (running (slice_get (map (contract_of asrt_of) p.procs) c.proc) ts rs) s (record { each = running_are s.next v p.procs c.proc ts (exact_all c.args xs) rs (started p xs cs) ts_are rs_are.each })))

each_runs_more : (n m : ℕ) (v w : Numbers) (xs : List Running) (ps : List Started) → Grows n v m w → EachRuns n v xs ps → EachRuns m w xs ps
each_runs_more n m v w [] [] g h = tt
each_runs_more n m v w [] (p ∷ ps) g h = absurd h
each_runs_more n m v w (x ∷ xs) [] g h = absurd h
each_runs_more n m v w (x ∷ xs) (p ∷ ps) g h = (h.0, all_more g h.1, each_runs_more n m v w xs ps g h.2)

-- ---- started

line_none : (a : ℕ) → a ≡ a + 0
line_none a = omega arith

line_parts : (h l a m b : ℕ) → h ≡ l + a → l ≡ m + b → h ≡ m + (a + b)
line_parts h l a m b j k = omega arith

pub starts_land : (g : Ground) {slots : List ℤ} {v : Numbers} {s : State} (xs : List Running) (ps : List Started) (h : Heap) → Fits slots (All g h) v s → EachRuns s.next v xs ps
    → Lands s.next v (Starts g slots ps h) (start_each xs s)
starts_land g {s = s} [] [] h fit each = lands_give [] s (record { needs = []; are = tt; left = h; parts = λ k. line_none (h k); fits = fit; run = record { each = tt } })
starts_land g [] (p ∷ ps) h fit each = absurd each
starts_land g (x ∷ xs) [] h fit each = absurd each
starts_land g {slots = slots} {v = v} {s = s} (x ∷ xs) (p ∷ ps) h fit each =
    let asked = asks g.truth p.proc.pre Plain p.numbers in
    let first : Lands s.next v (Gives g slots asked h) (x.proc.pre.consume mood.Pre Plain x.env s) =
    subst (λ (q : Contract). Lands s.next v (Gives g slots asked h) (q.pre.consume mood.Pre Plain x.env s)) (sym each.0)
    (consume_fits g p.proc.pre mood.Pre Plain h slots v s x.env p.numbers fit each.1) in
    lands_then first (λ e t w r a.
    lands_then (starts_land g xs ps a.left a.fits (each_runs_more s.next t.next v w xs ps r each.2)) (λ rest t2 w2 r2 b.
    lands_give (record { proc = x.proc; env = e } ∷ rest) t2 (record {
      needs = a.need ∷ b.needs;
      are = (a.is, a.known, b.are);
      left = b.left;
      parts = λ k. line_parts (h k) (a.left k) (a.need.heap k) (b.left k) (all_needs b.needs k) (a.parts k) (b.parts k);
      fits = b.fits;
      run = record { each = (each.0, all_more r2 a.env, b.run.each) };
    })))

-- every `requires` is given away
pub starts_fit : {g : Ground} {slots : List ℤ} {v : Numbers} {s : State} {h : Heap} {xs : List Running} {ps : List Started} → Fits slots (All g h) v s → AllRun s.next v xs ps
    → Lands s.next v (Starts g slots ps h) (start_each xs s)
starts_fit {g = g} {h = h} {xs = xs} {ps = ps} fit run = starts_land g xs ps h fit run.each

-- ---- joined

line_self : (a : ℕ) → a ≤ a
line_self a = omega arith

line_rest : (a b h m : ℕ) → (a + b) + h ≤ m → b + (a + h) ≤ m
line_rest a b h m l = omega arith

line_middle : (a b h m : ℕ) → (a + b) + h ≤ m → a + h ≤ m
line_middle a b h m l = omega arith

joins_land : (g : Ground) {slots : List ℤ} {v : Numbers} {s : State} (xs : List Running) (ps : List Started) (rs : List ℤ) (ns : List Need) (h more : Heap) → Fits slots (All g h) v s → EachRuns s.next v xs ps
    → EachEnsures g ps rs ns → Holds (all_needs ns) h more → IsBounded g.truth more → Lands s.next v (λ u t w. Fits slots (All g more) w t) (join_each xs s)
joins_land g {s = s} [] [] rs ns h more fit each ensures holds bounds = lands_give tt s (fits_less more (more_of (all_needs ns) h more holds) fit)
joins_land g [] (p ∷ ps) rs ns h more fit each ensures holds bounds = absurd each
joins_land g (x ∷ xs) [] rs ns h more fit each ensures holds bounds = absurd each
joins_land g (x ∷ xs) (p ∷ ps) [] ns h more fit each ensures holds bounds = absurd ensures
joins_land g (x ∷ xs) (p ∷ ps) (r ∷ rs) [] h more fit each ensures holds bounds = absurd ensures
joins_land g {slots = slots} {v = v} {s = s} (x ∷ xs) (p ∷ ps) (r ∷ rs) (n ∷ ns) h more fit each ensures holds bounds =
    let mid : Heap = λ k. n.heap k + h k in
    let room = bounded_less mid (λ k. line_middle (n.heap k) (all_needs ns k) (h k) (more k) (holds k)) bounds in
    lands_then (lands_symbol r (all_lasts g h) fit) (λ y t w q a.
    lands_then (subst (λ (c : Contract). Lands t.next w (λ u t2 w2. Fits slots (All g mid) w2 t2) (gain_post c x.env (Some y) t)) (sym each.0)
    (gain_post_fits p.proc x.env p.numbers (Some y) (Some r) n mid a.0 (all_more q each.1) a.1 ensures.0 ensures.1 (λ k. line_self (mid k)) room)) (λ u2 t2 w2 q2 f.
    joins_land g xs ps rs ns mid more f (each_runs_more t.next t2.next w w2 xs ps q2 (each_runs_more s.next t.next v w xs ps q each.2)) ensures.2
    (λ k. line_rest (n.heap k) (all_needs ns k) (h k) (more k) (holds k)) bounds))

-- every `ensures` is gained, with its result
pub joins_fit : {g : Ground} {slots : List ℤ} {v : Numbers} {s : State} {h : Heap} {xs : List Running} {ps : List Started} (rs : List ℤ) (ns : List Need) (more : Heap) → Fits slots (All g h) v s → AllRun s.next v xs ps
    → EachEnsures g ps rs ns → Holds (all_needs ns) h more → IsBounded g.truth more → Lands s.next v (λ u t w. Fits slots (All g more) w t) (join_each xs s)
joins_fit {g = g} {h = h} {xs = xs} {ps = ps} rs ns more fit run ensures holds bounds = joins_land g xs ps rs ns h more fit run.each ensures holds bounds
