-- Atomic loads, by parts of the rule.
use Rattle.std.proofs.Common.{◌≡◌, ◌≤◌, ◌<◌, ℕ, ◌+◌, Bool, true, false, List, [], ◌∷◌, ◌++◌, length, get_or, drop, Option, Some, None, pos, refl, sym, ap, subst, ◌∙◌, append-nil, add-one, drop-cons}
use Rattle.std.specs.Prelude.{is_some}
use Rattle.std.specs.Option.{option_map}
use Rattle.std.proofs.Math.ListN.{drop_of_length-le}
use Rattle.fsl_core.specs.declared.chunk.Chunk.{Chunk}
use Rattle.fsl_core.specs.declared.chunk.Chunk.TheVariants as chunk
use Rattle.fsl_core.specs.declared.mode.Mode.{Mode}
use Rattle.fsl_core.specs.declared.mode.Rung.{Rung}
use Rattle.fsl_core.specs.declared.mode.Rung.TheVariants.{Plain}
use Rattle.fsl_core.specs.declared.verdict.Kind.{Kind}
use Rattle.fsl_core.specs.declared.verdict.Kind.TheVariants as kind
use Rattle.fsl_core.specs.logic.States.{State, goes, fails, Branches, Action, followed, ◌>>=◌, give, look, demand_some, new_symbol, set}
use Rattle.fsl_core.specs.logic.Terms.{Expression}
use Rattle.fsl_core.specs.logic.Deciding.{proves_equal, proves_apart, decide_equal, each_side, assume_equal, assume_at_most}
use Rattle.fsl_core.specs.logic.Chunks.{Found, first, find_or, init_at}
use Rattle.fsl_core.specs.logic.Producing.{chosen}
use Rattle.fsl_core.specs.logic.Locations.{Setting}
use Rattle.fsl_core.specs.logic.Accesses.{gaining, is_excluded, permissions, permission_in, gain_by, gain_each, load_atomic}
use Rattle.fsl_lin.specs.Combination.{Combination, minus}
use Rattle.fsl_lin.specs.declared.fact.Fact.TheVariants.{Is}
use Rattle.fsl_chunk.specs.Kind.{kind_of, rung_of}
use Rattle.fsl_chunk.specs.declared.kind.ChunkKind.TheVariants as chunk_kind
use Rattle.fsl_asrt.proofs.Laws.{followed_twice, followed_equal, followed_give, with_term, without_term, then_goes, then_fails}
use Rattle.fsl_asrt.proofs.Keeping.{AreKept, kept_append, followed_kept, kept_from, assume_kept, at_most_kept}
use Rattle.fsl_access.specs.Loading.{loaded, gained_at}

-- ---- the location has to be written before

abbrev read_from : Setting → ℕ → Mode → Combination → Action
read_from p slot m a = new_symbol >>= loaded p slot (gaining m) a

abbrev load_from : Setting → ℕ → Mode → Combination → Action
load_from p slot m a = find_or kind.Init (init_at Plain a) >>= (λ f. read_from p slot m a)

sought : (p : Setting) (slot : ℕ) (m : Mode) (a : Combination) (s : State)
    → load_from p slot m a s ≡ followed (demand_some kind.Init (first (init_at Plain a s.facts) s.chunks) s) (λ f. read_from p slot m a)
sought p slot m a s =
    ap (λ (bs : Branches (Found Chunk Combination)). followed bs (λ f. read_from p slot m a)) (append-nil (demand_some kind.Init (first (init_at Plain a s.facts) s.chunks) s))

there_by : (p : Setting) (slot : ℕ) (m : Mode) (a : Combination) (s : State) (o : Option (Found Chunk Combination)) → is_some o ≡ true
    → followed (demand_some kind.Init o s) (λ f. read_from p slot m a) ≡ read_from p slot m a s
there_by p slot m a s (Some f) h = append-nil (read_from p slot m a s)
there_by p slot m a s None h = absurd cc

lacks_by : (p : Setting) (slot : ℕ) (m : Mode) (a : Combination) (s : State) (o : Option (Found Chunk Combination)) → is_some o ≡ false
    → followed (demand_some kind.Init o s) (λ f. read_from p slot m a) ≡ fails kind.Init ∷ []
lacks_by p slot m a s (Some f) h = absurd cc
lacks_by p slot m a s None h = refl

pub load_wide : (p : Setting) (slot : ℕ) (m : Mode) (at : Expression) (s : State) → at.term s.facts s.env ≡ None
    → load_atomic p slot m at s ≡ fails kind.Term ∷ []
load_wide p slot m at s h = without_term at (load_from p slot m) s h

pub load_none : (p : Setting) (slot : ℕ) (m : Mode) (at : Expression) (s : State) (a : Combination) → at.term s.facts s.env ≡ Some a
    → is_some (first (init_at Plain a s.facts) s.chunks) ≡ false → load_atomic p slot m at s ≡ fails kind.Init ∷ []
load_none p slot m at s a h is =
    with_term at (load_from p slot m) s a h ∙ sought p slot m a s ∙ lacks_by p slot m a s (first (init_at Plain a s.facts) s.chunks) is

load_there : (p : Setting) (slot : ℕ) (m : Mode) (at : Expression) (s : State) (a : Combination) → at.term s.facts s.env ≡ Some a
    → is_some (first (init_at Plain a s.facts) s.chunks) ≡ true → load_atomic p slot m at s ≡ read_from p slot m a s
load_there p slot m at s a h is =
    with_term at (load_from p slot m) s a h ∙ sought p slot m a s ∙ there_by p slot m a s (first (init_at Plain a s.facts) s.chunks) is

pub load_made : (p : Setting) (slot : ℕ) (m : Mode) (at : Expression) (s t : State) (a d : Combination) → at.term s.facts s.env ≡ Some a
    → is_some (first (init_at Plain a s.facts) s.chunks) ≡ true → goes d t ∷ [] ≡ new_symbol s → load_atomic p slot m at s ≡ loaded p slot (gaining m) a d t
load_made p slot m at s t a d h is made = load_there p slot m at s a h is ∙ then_goes (new_symbol s) d t (loaded p slot (gaining m) a) made

pub load_full : (p : Setting) (slot : ℕ) (m : Mode) (at : Expression) (s : State) (a : Combination) (k : Kind) → at.term s.facts s.env ≡ Some a
    → is_some (first (init_at Plain a s.facts) s.chunks) ≡ true → fails k ∷ [] ≡ new_symbol s → load_atomic p slot m at s ≡ fails k ∷ []
load_full p slot m at s a k h is made = load_there p slot m at s a h is ∙ then_fails (new_symbol s) (loaded p slot (gaining m) a) k made

-- ---- the permissions, one after the other

gains_on : (p : Setting) (rung : Rung) (at v : Combination) (place : ℕ) (rest : List ℕ) (bs cs : Branches (Unit {0})) → cs ≡ followed bs (λ _. gained_at p rung at v place)
    → followed cs (λ _. gain_each p rung at v rest) ≡ followed bs (λ _. gain_each p rung at v (place ∷ rest))
gains_on p rung at v place rest bs cs h =
    let after : Action = gain_each p rung at v rest in
    ap (λ (ds : Branches (Unit {0})). followed ds (λ _. after)) h
    ∙ followed_twice bs (λ _. gained_at p rung at v place) (λ _. after)
    ∙ followed_equal bs (λ _. gained_at p rung at v place >>= (λ _. after)) (λ _. gain_each p rung at v (place ∷ rest))
    (λ x t. followed_twice (look (permission_in at place) t) (gain_by p rung v place) (λ _. after))

pub gains_first : (p : Setting) (rung : Rung) (at v : Combination) (places : List ℕ) (s : State) (bs : Branches (Unit {0})) → bs ≡ goes tt s ∷ []
    → followed bs (λ _. gain_each p rung at v places) ≡ gain_each p rung at v places s
gains_first p rung at v places s bs h =
    ap (λ (ds : Branches (Unit {0})). followed ds (λ _. gain_each p rung at v places)) h ∙ append-nil (gain_each p rung at v places s)

next_place : (i : ℕ) (places : List ℕ) → i < length places → drop i places ≡ get_or places i 0 ∷ drop (i + 1) places
next_place i places below = rw add-one (drop-cons places i 0 below)

pub gains_more : (p : Setting) (rung : Rung) (at v : Combination) (i : ℕ) (places : List ℕ) (bs cs whole : Branches (Unit {0}))
    → i < length places → cs ≡ followed bs (λ _. gained_at p rung at v (get_or places i 0))
    → followed bs (λ _. gain_each p rung at v (drop i places)) ≡ whole → followed cs (λ _. gain_each p rung at v (drop (i + 1) places)) ≡ whole
gains_more p rung at v i places bs cs whole below h so =
    gains_on p rung at v (get_or places i 0) (drop (i + 1) places) bs cs h
    ∙ ap (λ (xs : List ℕ). followed bs (λ _. gain_each p rung at v xs)) (sym (next_place i places below)) ∙ so

pub gains_done : (p : Setting) (rung : Rung) (at v : Combination) (i : ℕ) (places : List ℕ) (bs whole : Branches (Unit {0})) → length places ≤ i
    → followed bs (λ _. gain_each p rung at v (drop i places)) ≡ whole → bs ≡ whole
gains_done p rung at v i places bs whole past so =
    sym (followed_give bs) ∙ ap (λ (xs : List ℕ). followed bs (λ _. gain_each p rung at v xs)) (sym (drop_of_length-le places past)) ∙ so

-- the variable is set behind them
pub loaded_by : (p : Setting) (slot : ℕ) (rung : Rung) (at v : Combination) (s : State) (places : List ℕ) (gained : Branches (Unit {0}))
    → places ≡ permissions s.facts at 0 s.chunks → gained ≡ gain_each p rung at v places s → followed gained (λ _. set slot v) ≡ loaded p slot rung at v s
loaded_by p slot rung at v s places gained h k =
    ap (λ (bs : Branches (Unit {0})). followed bs (λ _. set slot v)) (k ∙ ap (λ (xs : List ℕ). gain_each p rung at v xs s) h)
    ∙ sym (append-nil (followed (gain_each p rung at v (permissions s.facts at 0 s.chunks) s) (λ _. set slot v)))

-- ---- values that were read before

pub excluded_first : (v x : Combination) (xs : List Combination) (s : State)
    → is_excluded v (x ∷ xs) s ≡ followed (each_side (decide_equal v x s.facts) s) (chosen (give true) (is_excluded v xs))
excluded_first v x xs s = append-nil (followed (each_side (decide_equal v x s.facts) s) (chosen (give true) (is_excluded v xs)))

side_kept : (s : State) (holds : Bool) (bs : Branches (Unit {0})) → AreKept s bs → AreKept s (followed bs (λ _. give holds))
side_kept s holds bs k = followed_kept s bs (λ _. give holds) k (λ x t e. (e, tt))

sides_by : (a b : Combination) (s : State) (same apart : Bool) → proves_equal s.facts a b ≡ same → proves_apart s.facts a b ≡ apart
    → AreKept s (each_side (decide_equal a b s.facts) s)
sides_by a b s true apart e h = rw e (refl, tt)
sides_by a b s false true e h = rw (e, h) (refl, tt)
sides_by a b s false false e h =
    let same : Branches Bool = followed (assume_equal a b s) (λ _. give true) in
    let less : Branches Bool = followed (assume_at_most a (pos 1) b s) (λ _. give false) in
    let more : Branches Bool = followed (assume_at_most b (pos 1) a s) (λ _. give false) in
    rw (e, h) (kept_append s same (less ++ (more ++ [])) (side_kept s true (assume_equal a b s) (assume_kept (Is (minus a b)) s))
    (kept_append s less (more ++ []) (side_kept s false (assume_at_most a (pos 1) b s) (at_most_kept a (pos 1) b s))
    (kept_append s more [] (side_kept s false (assume_at_most b (pos 1) a s) (at_most_kept b (pos 1) a s)) tt)))

sides_kept : (a b : Combination) (s : State) → AreKept s (each_side (decide_equal a b s.facts) s)
sides_kept a b s = sides_by a b s (proves_equal s.facts a b) (proves_apart s.facts a b) refl refl

-- by one answer, and then those behind it
answered_kept : (v : Combination) (xs : List Combination) (s : State) → ((u : State) → AreKept u (is_excluded v xs u)) → (holds : Bool) (t : State)
    → t.chunks ≡ s.chunks → AreKept s (chosen (give true) (is_excluded v xs) holds t)
answered_kept v xs s k true t e = (e, tt)
answered_kept v xs s k false t e = kept_from s t (is_excluded v xs t) e (k t)

-- whether a value was read is asked of the state, and leaves the chunks as they are
pub excluded_kept : (v : Combination) (xs : List Combination) (s : State) → AreKept s (is_excluded v xs s)
excluded_kept v [] s = (refl, tt)
excluded_kept v (x ∷ xs) s =
    subst (λ (bs : Branches Bool). AreKept s bs) (sym (excluded_first v x xs s))
    (followed_kept s (each_side (decide_equal v x s.facts) s) (chosen (give true) (is_excluded v xs)) (sides_kept v x s)
    (λ holds t e. answered_kept v xs s (λ u. excluded_kept v xs u) holds t e))

-- ---- the chunk of a permission

pub no_rung : (o : Option Chunk) → option_map kind_of o ≡ Some chunk_kind.Acq → option_map rung_of o ≡ Some Plain
no_rung None h = absurd cc
no_rung (Some (chunk.Points r a k v)) h = absurd cc
no_rung (Some (chunk.Init r a)) h = absurd cc
no_rung (Some (chunk.Rel a i args)) h = absurd cc
no_rung (Some (chunk.Acq a i args part out)) h = refl
no_rung (Some (chunk.RmwAcq a i args)) h = absurd cc
no_rung (Some (chunk.Tok g n)) h = absurd cc
no_rung (Some (chunk.Auth g n)) h = absurd cc
