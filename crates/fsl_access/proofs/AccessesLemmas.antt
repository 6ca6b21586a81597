-- Allocations, loads, stores and frees, once the address is a symbol or the cell is found.
use Rattle.std.proofs.Common.{◌≡◌, ℕ, Bool, true, false, List, [], ◌∷◌, ◌++◌, Option, Some, None, pos, slice_set, remove, refl, sym, ap, ◌∙◌, append-nil}
use Rattle.fsl_core.specs.declared.chunk.Chunk.{Chunk}
use Rattle.fsl_core.specs.declared.chunk.Chunk.TheVariants as chunk
use Rattle.fsl_core.specs.declared.mode.Rung.TheVariants.{Plain}
use Rattle.fsl_core.specs.declared.verdict.Kind.{Kind}
use Rattle.fsl_core.specs.declared.verdict.Kind.TheVariants as kind
use Rattle.fsl_core.specs.logic.States.{State, goes, fails, Branches, Rule, Action, followed, ◌>>=◌, ◌>>◌, give, demand, demand_some, new_symbol}
use Rattle.fsl_core.specs.logic.Terms.{Expression}
use Rattle.fsl_core.specs.logic.Deciding.{proves_equal, assume_at_most}
use Rattle.fsl_core.specs.logic.Chunks.{Found, Reading, first, find_or, put, take, Cell, cell_at}
use Rattle.fsl_core.specs.logic.Joining.{full}
use Rattle.fsl_core.specs.logic.Consuming.{demand_equal}
use Rattle.fsl_core.specs.logic.Accesses.{new_address, alloc_na, load_na, store_na, whole_cell, free}
use Rattle.fsl_lin.specs.Combination.{Combination, constant}
use Rattle.fsl_asrt.specs.Cells.{IsPoints, IsFound, IsFoundBy, put_at, take_at}
use Rattle.fsl_asrt.specs.declared.cells.FoundCell.{FoundCell}
use Rattle.fsl_asrt.proofs.Laws.{followed_twice, followed_equal, got, lacked, from_here, with_term, without_term}
use Rattle.fsl_access.specs.Accesses.{placed, addressed, loaded, written, freed}

-- ---- allocations

abbrev pub at_least_one : Combination → Action
at_least_one d = assume_at_most (constant (pos 1)) (pos 0) d

pub address_then : (s : State) (rest : Combination → Action) → (new_address >>= rest) s ≡ followed (new_symbol s) (λ d. at_least_one d >> rest d)
address_then s rest =
    followed_twice (new_symbol s) (λ d. at_least_one d >> give d) rest
    ∙ followed_equal (new_symbol s) (λ d. (at_least_one d >> give d) >>= rest) (λ d. at_least_one d >> rest d) (λ d t.
    followed_twice (at_least_one d t) (λ _. give d) rest
    ∙ followed_equal (at_least_one d t) (λ _. give d >>= rest) (λ _. rest d) (λ x u. append-nil (rest d u)))

pub allocated : (slot : ℕ) (s : State) → alloc_na slot s ≡ followed (new_symbol s) (addressed slot)
allocated slot s = address_then s (placed slot)

-- ---- cells that are looked for

sought : {X Y : Type 0} (k : Kind) (reads : Reading X) (s : State) (after : Found Chunk X → Rule Y)
    → (find_or k reads >>= after) s ≡ followed (demand_some k (first (reads s.facts) s.chunks) s) after
sought {X = X} k reads s after = ap (λ (bs : Branches (Found Chunk X)). followed bs after) (append-nil (demand_some k (first (reads s.facts) s.chunks) s))

-- ---- loads

abbrev load_from : ℕ → Combination → Action
load_from slot a = find_or kind.Points (cell_at Plain a) >>= (λ f. loaded slot f.is.value)

load_at : (slot : ℕ) (at : Expression) (s : State) (a : Combination) → at.term s.facts s.env ≡ Some a → load_na slot at s ≡ load_from slot a s
load_at slot at s a h =
    from_here (λ env t. followed (demand_some kind.Term (at.term t.facts env) t) (load_from slot)) s
    ∙ got kind.Term (at.term s.facts s.env) a s (load_from slot) h

pub load_wide : (slot : ℕ) (at : Expression) (s : State) → at.term s.facts s.env ≡ None → load_na slot at s ≡ fails kind.Term ∷ []
load_wide slot at s h =
    from_here (λ env t. followed (demand_some kind.Term (at.term t.facts env) t) (load_from slot)) s
    ∙ lacked kind.Term (at.term s.facts s.env) s (load_from slot) h

load_by : (slot : ℕ) (a : Combination) (s : State) (o : Option (Found Chunk Cell)) (c : FoundCell)
    → first (cell_at Plain a s.facts) s.chunks ≡ o → IsFoundBy Plain s.chunks o (Some c) → load_from slot a s ≡ loaded slot c.value s
load_by slot a s None c e is = absurd is
load_by slot a s (Some f) c e is =
    sought kind.Points (cell_at Plain a) s (λ g. loaded slot g.is.value)
    ∙ got kind.Points (first (cell_at Plain a s.facts) s.chunks) f s (λ g. loaded slot g.is.value) e
    ∙ ap (λ (x : Cell). loaded slot x.value s) (sym is.is)

pub load_found : (slot : ℕ) (at : Expression) (s : State) (a : Combination) (c : FoundCell) → at.term s.facts s.env ≡ Some a
    → IsFoundBy Plain s.chunks (first (cell_at Plain a s.facts) s.chunks) (Some c) → load_na slot at s ≡ loaded slot c.value s
load_found slot at s a c h is = load_at slot at s a h ∙ load_by slot a s (first (cell_at Plain a s.facts) s.chunks) c refl is

no_cell : {Y : Type 0} (a : Combination) (s : State) (after : Found Chunk Cell → Rule Y) (o : Option (Found Chunk Cell))
    → first (cell_at Plain a s.facts) s.chunks ≡ o → IsFoundBy Plain s.chunks o None
    → (find_or kind.Points (cell_at Plain a) >>= after) s ≡ fails kind.Points ∷ []
no_cell a s after None e is =
    sought kind.Points (cell_at Plain a) s after ∙ lacked kind.Points (first (cell_at Plain a s.facts) s.chunks) s after e
no_cell a s after (Some f) e is = absurd is

pub load_none : (slot : ℕ) (at : Expression) (s : State) (a : Combination) → at.term s.facts s.env ≡ Some a
    → IsFoundBy Plain s.chunks (first (cell_at Plain a s.facts) s.chunks) None → load_na slot at s ≡ fails kind.Points ∷ []
load_none slot at s a h is =
    load_at slot at s a h ∙ no_cell a s (λ f. loaded slot f.is.value) (first (cell_at Plain a s.facts) s.chunks) refl is

-- ---- stores

abbrev whole : Found Chunk Cell → Rule (Found Chunk Cell)
whole f = demand_equal kind.Share f.is.share full >> give f

abbrev put_value : Combination → Found Chunk Cell → Action
put_value v f = put f (chunk.Points Plain f.is.at f.is.share (Some v))

abbrev store_from : Combination → Combination → Action
store_from a v = whole_cell a >>= put_value v

store_at : (at e : Expression) (s : State) (a v : Combination) → at.term s.facts s.env ≡ Some a → e.term s.facts s.env ≡ Some v
    → store_na at e s ≡ store_from a v s
store_at at e s a v h k =
    from_here (λ env t. followed (demand_some kind.Term (at.term t.facts env) t) (λ x u.
    followed (demand_some kind.Term (e.term u.facts env) u) (store_from x))) s
    ∙ got kind.Term (at.term s.facts s.env) a s (λ x u. followed (demand_some kind.Term (e.term u.facts s.env) u) (store_from x)) h
    ∙ got kind.Term (e.term s.facts s.env) v s (store_from a) k

pub store_wide : (at e : Expression) (s : State) → at.term s.facts s.env ≡ None → store_na at e s ≡ fails kind.Term ∷ []
store_wide at e s h =
    from_here (λ env t. followed (demand_some kind.Term (at.term t.facts env) t) (λ x u.
    followed (demand_some kind.Term (e.term u.facts env) u) (store_from x))) s
    ∙ lacked kind.Term (at.term s.facts s.env) s (λ x u. followed (demand_some kind.Term (e.term u.facts s.env) u) (store_from x)) h

pub value_wide : (at e : Expression) (s : State) (a : Combination) → at.term s.facts s.env ≡ Some a → e.term s.facts s.env ≡ None
    → store_na at e s ≡ fails kind.Term ∷ []
value_wide at e s a h k =
    from_here (λ env t. followed (demand_some kind.Term (at.term t.facts env) t) (λ x u.
    followed (demand_some kind.Term (e.term u.facts env) u) (store_from x))) s
    ∙ got kind.Term (at.term s.facts s.env) a s (λ x u. followed (demand_some kind.Term (e.term u.facts s.env) u) (store_from x)) h
    ∙ lacked kind.Term (e.term s.facts s.env) s (store_from a) k

-- a cell of which all shares are owned, and one of which some are lacking
pub written_whole : (c : FoundCell) (v : Combination) (s t : State) (all : Combination) (owned : Bool) → all ≡ full
    → owned ≡ proves_equal s.facts c.share all → owned ≡ true
    → t ≡ record s { chunks = slice_set s.chunks c.number (chunk.Points Plain c.at c.share (Some v)) } → goes tt t ∷ [] ≡ written c v s
written_whole c v s t all owned a h k e =
    let whole : true ≡ proves_equal s.facts c.share full = sym k ∙ h ∙ ap (λ (x : Combination). proves_equal s.facts c.share x) a in
    ap (λ (u : State). goes tt u ∷ []) e
    ∙ ap (λ (b : Bool). followed (demand kind.Share b s ++ []) (λ _. put_at c.number (chunk.Points Plain c.at c.share (Some v)))) whole

pub written_part : (c : FoundCell) (v : Combination) (s : State) (all : Combination) (owned : Bool) → all ≡ full
    → owned ≡ proves_equal s.facts c.share all → owned ≡ false → fails kind.Share ∷ [] ≡ written c v s
written_part c v s all owned a h k =
    let part : false ≡ proves_equal s.facts c.share full = sym k ∙ h ∙ ap (λ (x : Combination). proves_equal s.facts c.share x) a in
    ap (λ (b : Bool). followed (demand kind.Share b s ++ []) (λ _. put_at c.number (chunk.Points Plain c.at c.share (Some v)))) part

put_same : (s : State) (f : Found Chunk Cell) (c : FoundCell) (v : Combination) → IsFound Plain s.chunks f c
    → put_value v f s ≡ put_at c.number (chunk.Points Plain c.at c.share (Some v)) s
put_same s f c v is =
    ap (λ (cs : List Chunk). goes tt (record s { chunks = cs }) ∷ []) (
    ap (λ (x : Cell). f.before ++ chunk.Points Plain x.at x.share (Some v) ∷ f.behind) (sym is.is)
    ∙ sym (is.put (chunk.Points Plain c.at c.share (Some v))))

-- whether all shares are there is asked of the state, and leaves it as it is
demanded : (b : Bool) (s : State) (f g : Action) → f s ≡ g s → followed (demand kind.Share b s) (λ _. f) ≡ followed (demand kind.Share b s) (λ _. g)
demanded true s f g h = ap (λ (bs : Branches (Unit {0})). bs ++ []) h
demanded false s f g h = refl

-- all shares of a cell, and then what is done with it
owned_by : (s : State) (f : Found Chunk Cell) (c : FoundCell) (does : Found Chunk Cell → Action) (after : Action) → IsFound Plain s.chunks f c
    → does f s ≡ after s → (whole f >>= does) s ≡ (demand_equal kind.Share c.share full >> after) s
owned_by s f c does after is same =
    followed_twice (demand_equal kind.Share f.is.share full s) (λ _. give f) does
    ∙ followed_equal (demand_equal kind.Share f.is.share full s) (λ _. give f >>= does) (λ _. does f) (λ x t. append-nil (does f t))
    ∙ ap (λ (bs : Branches (Unit {0})). followed bs (λ _. does f)) (append-nil (demand kind.Share (proves_equal s.facts f.is.share full) s))
    ∙ demanded (proves_equal s.facts f.is.share full) s (does f) after same
    ∙ ap (λ (bs : Branches (Unit {0})). followed bs (λ _. after)) (sym (append-nil (demand kind.Share (proves_equal s.facts f.is.share full) s)))
    ∙ ap (λ (x : Cell). followed (demand_equal kind.Share x.share full s) (λ _. after)) (sym is.is)

-- a cell that is owned is found first
owned_first : (a : Combination) (s : State) (o : Option (Found Chunk Cell)) (c : FoundCell) (does : Found Chunk Cell → Action) (after : Action)
    → ((f : Found Chunk Cell) → IsFound Plain s.chunks f c → does f s ≡ after s)
    → first (cell_at Plain a s.facts) s.chunks ≡ o → IsFoundBy Plain s.chunks o (Some c)
    → (whole_cell a >>= does) s ≡ (demand_equal kind.Share c.share full >> after) s
owned_first a s None c does after same e is = absurd is
owned_first a s (Some f) c does after same e is =
    followed_twice (find_or kind.Points (cell_at Plain a) s) whole does
    ∙ sought kind.Points (cell_at Plain a) s (λ g. whole g >>= does)
    ∙ got kind.Points (first (cell_at Plain a s.facts) s.chunks) f s (λ g. whole g >>= does) e
    ∙ owned_by s f c does after is (same f is)

store_by : (a v : Combination) (s : State) (c : FoundCell) → IsFoundBy Plain s.chunks (first (cell_at Plain a s.facts) s.chunks) (Some c)
    → store_from a v s ≡ written c v s
store_by a v s c is =
    owned_first a s (first (cell_at Plain a s.facts) s.chunks) c (put_value v) (put_at c.number (chunk.Points Plain c.at c.share (Some v)))
    (λ f found. put_same s f c v found) refl is

pub store_found : (at e : Expression) (s : State) (a v : Combination) (c : FoundCell) → at.term s.facts s.env ≡ Some a → e.term s.facts s.env ≡ Some v
    → IsFoundBy Plain s.chunks (first (cell_at Plain a s.facts) s.chunks) (Some c) → store_na at e s ≡ written c v s
store_found at e s a v c h k is = store_at at e s a v h k ∙ store_by a v s c is

pub store_none : (at e : Expression) (s : State) (a v : Combination) → at.term s.facts s.env ≡ Some a → e.term s.facts s.env ≡ Some v
    → IsFoundBy Plain s.chunks (first (cell_at Plain a s.facts) s.chunks) None → store_na at e s ≡ fails kind.Points ∷ []
store_none at e s a v h k is =
    store_at at e s a v h k
    ∙ followed_twice (find_or kind.Points (cell_at Plain a) s) whole (put_value v)
    ∙ no_cell a s (λ g. whole g >>= put_value v) (first (cell_at Plain a s.facts) s.chunks) refl is

-- ---- frees

abbrev freed_from : Combination → Action
freed_from a = whole_cell a >>= take

pub free_wide : (at : Expression) (s : State) → at.term s.facts s.env ≡ None → free at s ≡ fails kind.Term ∷ []
free_wide at s h = without_term at freed_from s h

take_same : (s : State) (f : Found Chunk Cell) (c : FoundCell) → IsFound Plain s.chunks f c → take f s ≡ take_at c.number s
take_same s f c is = ap (λ (cs : List Chunk). goes tt (record s { chunks = cs }) ∷ []) (sym is.taken)

pub free_found : (at : Expression) (s : State) (a : Combination) (c : FoundCell) → at.term s.facts s.env ≡ Some a
    → IsFoundBy Plain s.chunks (first (cell_at Plain a s.facts) s.chunks) (Some c) → free at s ≡ freed c s
free_found at s a c h is =
    with_term at freed_from s a h
    ∙ owned_first a s (first (cell_at Plain a s.facts) s.chunks) c take (take_at c.number) (λ f found. take_same s f c found) refl is

pub free_none : (at : Expression) (s : State) (a : Combination) → at.term s.facts s.env ≡ Some a
    → IsFoundBy Plain s.chunks (first (cell_at Plain a s.facts) s.chunks) None → free at s ≡ fails kind.Points ∷ []
free_none at s a h is =
    with_term at freed_from s a h
    ∙ followed_twice (find_or kind.Points (cell_at Plain a) s) whole take
    ∙ no_cell a s (λ g. whole g >>= take) (first (cell_at Plain a s.facts) s.chunks) refl is

pub freed_part : (c : FoundCell) (s : State) (all : Combination) (owned : Bool) → all ≡ full
    → owned ≡ proves_equal s.facts c.share all → owned ≡ false → fails kind.Share ∷ [] ≡ freed c s
freed_part c s all owned a h k =
    let part : false ≡ proves_equal s.facts c.share full = sym k ∙ h ∙ ap (λ (x : Combination). proves_equal s.facts c.share x) a in
    ap (λ (b : Bool). followed (demand kind.Share b s ++ []) (λ _. take_at c.number)) part

pub freed_whole : (c : FoundCell) (s t : State) (all : Combination) (owned : Bool) → all ≡ full
    → owned ≡ proves_equal s.facts c.share all → owned ≡ true
    → t ≡ record s { chunks = remove s.chunks c.number } → goes tt t ∷ [] ≡ freed c s
freed_whole c s t all owned a h k e =
    let whole : true ≡ proves_equal s.facts c.share full = sym k ∙ h ∙ ap (λ (x : Combination). proves_equal s.facts c.share x) a in
    ap (λ (u : State). goes tt u ∷ []) e
    ∙ ap (λ (b : Bool). followed (demand kind.Share b s ++ []) (λ _. take_at c.number)) whole

-- ---- a cell that was found stays a points-to

points_by : (o : Option (Found Chunk Cell)) (s : State) (c : FoundCell) → IsFoundBy Plain s.chunks o (Some c) → IsPoints Plain c.number s.chunks
points_by None s c is = absurd is
points_by (Some f) s c is = is.points

pub points_found : (a : Combination) (s : State) (c : FoundCell) → IsFoundBy Plain s.chunks (first (cell_at Plain a s.facts) s.chunks) (Some c)
    → IsPoints Plain c.number s.chunks
points_found a s c is = points_by (first (cell_at Plain a s.facts) s.chunks) s c is
