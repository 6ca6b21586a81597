-- A share that is taken out of the chunk of a number is taken out of the cell that was found.
use Rattle.std.proofs.Common.{◌≡◌, Bool, true, false, List, [], ◌∷◌, ◌++◌, Option, Some, None, pos, slice_set, refl, sym, ap, ◌∙◌, append-nil}
use Rattle.fsl_asrt.specs.declared.cells.FoundCell.{FoundCell}
use Rattle.fsl_asrt.specs.Cells.{IsFound, IsFoundBy, left_at}
use Rattle.fsl_asrt.specs.Take.{IsTheCell, held}
use Rattle.fsl_asrt.proofs.Keeping.{AreKept, followed_same, followed_kept, given_kept, kept_append, kept_from, some_kept, demand_kept, fitting_kept, at_most_kept}
use Rattle.fsl_asrt.proofs.Laws.{followed_append, followed_equal, followed_twice}
use Rattle.fsl_core.specs.declared.chunk.Chunk.{Chunk}
use Rattle.fsl_core.specs.declared.chunk.Chunk.TheVariants as chunk
use Rattle.fsl_core.specs.declared.mode.Rung.{Rung}
use Rattle.fsl_core.specs.declared.verdict.Kind.{Kind}
use Rattle.fsl_core.specs.declared.verdict.Kind.TheVariants as kind
use Rattle.fsl_core.specs.logic.States.{Env, State, goes, fails, Branches, Rule, followed, ◌>>=◌, ◌>>◌, give, demand_some}
use Rattle.fsl_core.specs.logic.Terms.{fitting}
use Rattle.fsl_core.specs.logic.Deciding.{proves_at_most, proves_equal, assume_at_most}
use Rattle.fsl_core.specs.logic.Chunks.{Cell, Found, first, cell_at, enough_at}
use Rattle.fsl_core.specs.logic.Producing.{Wanted, any, bind, equals}
use Rattle.fsl_core.specs.logic.Consuming.{rest_of, leave_rest, find_cell, match_value, consume_cell, demand_equal}
use Rattle.fsl_lin.specs.Combination.{Combination, minus, constant}

-- ---- what follows a rule that gives

pub given_then : {X Y Z : Type 0} (bs : Branches Y) (f : Y → X) (after : X → Rule Z)
    → followed (followed bs (λ y. give (f y))) after ≡ followed bs (λ y. after (f y))
given_then [] f after = refl
given_then (goes y t ∷ bs) f after = ap (λ r. after (f y) t ++ r) (given_then bs f after)
given_then (fails kind ∷ bs) f after = ap (λ r. fails kind ∷ r) (given_then bs f after)

-- ---- the rest of a share

twice_nil : {X Y : Type 0} (bs : Branches X) (after : X → Rule Y) → followed ((bs ++ []) ++ []) after ≡ followed bs after
twice_nil bs after = ap (λ cs. followed cs after) (append-nil (bs ++ []) ∙ append-nil bs)

-- a rest, and what is done with it
abbrev stays : {X : Type 0} → Combination → Combination → (Option Combination → Rule X) → Rule X
stays share k after = fitting (minus share k) >>= (λ r. after (Some r))

pub rest_gone : {X : Type 0} (share k : Combination) (s : State) (after : Option Combination → Rule X)
    → proves_equal s.facts share k ≡ true → followed (rest_of share k s) after ≡ after None s
rest_gone share k s after h = rw h (append-nil (after None s))

pub rest_stays : {X : Type 0} (share k : Combination) (s : State) (after : Option Combination → Rule X)
    → proves_equal s.facts share k ≡ false → proves_at_most s.facts k (pos 1) share ≡ true
    → followed (rest_of share k s) after ≡ stays share k after s
rest_stays share k s after h l =
    rw (h, l) (twice_nil (followed (fitting (minus share k) s) (λ r. give (Some r))) after ∙ given_then (fitting (minus share k) s) Some after)

pub rest_either : {X : Type 0} (share k : Combination) (s : State) (after : Option Combination → Rule X)
    → proves_equal s.facts share k ≡ false → proves_at_most s.facts k (pos 1) share ≡ false
    → followed (rest_of share k s) after
    ≡ (assume_at_most share (pos 0) k >> after None) s ++ (assume_at_most k (pos 1) share >> stays share k after) s
rest_either share k s after h l =
    let low = assume_at_most share (pos 0) k s in
    let high = assume_at_most k (pos 1) share s in
    let something : Rule (Option Combination) = fitting (minus share k) >>= (λ r. give (Some r)) in
    rw (h, l) (
    twice_nil (followed low (λ _. give None) ++ followed high (λ _. something)) after
    ∙ followed_append (followed low (λ _. give None)) (followed high (λ _. something)) after
    ∙ ap (λ r. r ++ followed (followed high (λ _. something)) after) (given_then low (λ _. None) after)
    ∙ ap (λ r. followed low (λ _. after None) ++ r)
    (followed_twice high (λ _. something) after
    ∙ followed_equal high _ _ (λ x t. given_then (fitting (minus share k) t) Some after)))

abbrev something : Combination → Combination → Rule (Option Combination)
something share k t = followed (fitting (minus share k) t) (λ r. give (Some r))

something_kept : (share k : Combination) (s t : State) → t.chunks ≡ s.chunks → AreKept s (something share k t)
something_kept share k s t e =
    kept_from s t (something share k t) e (given_kept t (fitting (minus share k) t) Some (fitting_kept (minus share k) t))

rest_kept_by : (share k : Combination) (s : State) (g r : Bool)
    → proves_equal s.facts share k ≡ g → proves_at_most s.facts k (pos 1) share ≡ r → AreKept s (rest_of share k s)
rest_kept_by share k s true r h l = rw h (refl, tt)
rest_kept_by share k s false true h l =
    let kept : AreKept s (something share k s) = something_kept share k s s refl in
    rw (h, l) (kept_append s (something share k s ++ []) [] (kept_append s (something share k s) [] kept tt) tt)
rest_kept_by share k s false false h l =
    let low : Branches (Option Combination) = followed (assume_at_most share (pos 0) k s) (λ _. give None) in
    let high : Branches (Option Combination) = followed (assume_at_most k (pos 1) share s) (λ _. something share k) in
    let low_kept : AreKept s low = given_kept s (assume_at_most share (pos 0) k s) (λ _. None) (at_most_kept share (pos 0) k s) in
    let high_kept : AreKept s high =
    followed_kept s (assume_at_most k (pos 1) share s) (λ _. something share k) (at_most_kept k (pos 1) share s)
    (λ x t e. something_kept share k s t e) in
    let both : AreKept s (low ++ high) = kept_append s low high low_kept high_kept in
    rw (h, l) (kept_append s ((low ++ high) ++ []) [] (kept_append s (low ++ high) [] both tt) tt)

rest_kept : (share k : Combination) (s : State) → AreKept s (rest_of share k s)
rest_kept share k s = rest_kept_by share k s (proves_equal s.facts share k) (proves_at_most s.facts k (pos 1) share) refl refl

-- ---- the chunk of a number

left_same : (rung : Rung) (s t : State) (f : Found Chunk Cell) (c : FoundCell) (r : Option Combination) (env : Env)
    → IsFound rung s.chunks f c → t.chunks ≡ s.chunks
    → (left_at rung c r >> give env) t ≡ (leave_rest rung f r >> give env) t
left_same rung s t f c None env h e =
    ap (λ (cs : List Chunk). goes env (record t { chunks = cs }) ∷ []) (rw e h.taken)
left_same rung s t f c (Some r) env h e =
    ap (λ (cs : List Chunk). goes env (record t { chunks = cs }) ∷ []) (rw e (h.put _))
    ∙ ap (λ (x : Cell). goes env (record t { chunks = f.before ++ chunk.Points rung x.at r x.value ∷ f.behind }) ∷ []) h.is

pub rest_left : (rung : Rung) (s t : State) (f : Found Chunk Cell) (c : FoundCell) (k : Combination) (env : Env)
    → IsFound rung s.chunks f c → t.chunks ≡ s.chunks
    → (rest_of c.share k >>= (λ r. left_at rung c r >> give env)) t ≡ (rest_of f.is.share k >>= (λ r. leave_rest rung f r >> give env)) t
rest_left rung s t f c k env h e =
    followed_same t (rest_of c.share k t) _ _ (rest_kept c.share k t) (λ r u i. left_same rung s u f c r env h (i ∙ e))
    ∙ ap (λ (x : Cell). (rest_of x.share k >>= (λ r. leave_rest rung f r >> give env)) t) h.is

-- ---- the whole rule

equal_kept : (v x : Combination) (env : Env) (s t : State) → t.chunks ≡ s.chunks
    → AreKept s ((demand_equal kind.Value v x >> give env) t)
equal_kept v x env s t e =
    let test = proves_equal t.facts v x in
    kept_from s t ((demand_equal kind.Value v x >> give env) t) e (given_kept t (demand_equal kind.Value v x t) (λ _. env) (demand_kept kind.Value test t))

match_kept : (w : Wanted Combination) (value : Option Combination) (env : Env) (s : State) → AreKept s (match_value w value env s)
match_kept any value env s = (refl, tt)
match_kept (bind slot) value env s = given_kept s (demand_some kind.Uninit value s) (λ v. slice_set env slot v) (some_kept kind.Uninit value s)
match_kept (equals x) value env s =
    followed_kept s (demand_some kind.Uninit value s) (λ v. demand_equal kind.Value v x >> give env) (some_kept kind.Uninit value s)
    (λ v t e. equal_kept v x env s t e)

pub consumed : (rung : Rung) (s : State) (f : Found Chunk Cell) (c : FoundCell) (at k : Combination) (w : Wanted Combination) (env : Env)
    → IsFound rung s.chunks f c → proves_at_most s.facts (constant (pos 1)) (pos 0) k ≡ true → find_cell rung at k s ≡ goes f s ∷ []
    → (match_value w c.value env >>= (λ e. rest_of c.share k >>= (λ r. left_at rung c r >> give e))) s ≡ consume_cell rung at k w env s
consumed rung s f c at k w env h l m =
    let after : Found Chunk Cell → Rule Env = λ g. match_value w g.is.value env >>= (λ e. rest_of g.is.share k >>= (λ r. leave_rest rung g r >> give e)) in
    followed_same s (match_value w c.value env s) _ _ (match_kept w c.value env s) (λ e t i. rest_left rung s t f c k e h i)
    ∙ ap (λ (x : Cell). (match_value w x.value env >>= (λ e. rest_of f.is.share k >>= (λ r. leave_rest rung f r >> give e))) s) h.is
    ∙ sym (rw l (append-nil (followed (find_cell rung at k s) after)) ∙ ap (λ (bs : Branches (Found Chunk Cell)). followed bs after) m ∙ append-nil (after f s))

pub not_one : (rung : Rung) (s : State) (at k : Combination) (w : Wanted Combination) (env : Env)
    → proves_at_most s.facts (constant (pos 1)) (pos 0) k ≡ false → consume_cell rung at k w env s ≡ fails kind.Share ∷ []
not_one rung s at k w env l = rw l refl

pub not_found : (rung : Rung) (s : State) (at k : Combination) (w : Wanted Combination) (env : Env) (kind : Kind)
    → proves_at_most s.facts (constant (pos 1)) (pos 0) k ≡ true → find_cell rung at k s ≡ fails kind ∷ []
    → consume_cell rung at k w env s ≡ fails kind ∷ []
not_found rung s at k w env kind l m =
    let after : Found Chunk Cell → Rule Env = λ g. match_value w g.is.value env >>= (λ e. rest_of g.is.share k >>= (λ r. leave_rest rung g r >> give e)) in
    rw l (append-nil (followed (find_cell rung at k s) after)) ∙ ap (λ (bs : Branches (Found Chunk Cell)). followed bs after) m

-- ---- the search

searched_by : (rung : Rung) (at k : Combination) (s : State) (c : FoundCell) (o : Option (Found Chunk Cell))
    → first (enough_at rung at k s.facts) s.chunks ≡ o → IsFoundBy rung s.chunks o (Some c) → IsTheCell rung at k s c
searched_by rung at k s c None h i = absurd i
searched_by rung at k s c (Some f) h i = record { found = f; finds = rw h refl; same = i }

pub searched : (rung : Rung) (at k : Combination) (s : State) (c : FoundCell)
    → IsFoundBy rung s.chunks (first (enough_at rung at k s.facts) s.chunks) (Some c) → IsTheCell rung at k s c
searched rung at k s c i = searched_by rung at k s c (first (enough_at rung at k s.facts) s.chunks) refl i

-- none has enough; whether one has a share at all
abbrev pub lacking_kind : Option FoundCell → Kind
lacking_kind None = kind.Points
lacking_kind (Some c) = kind.Share

lacks_by : (rung : Rung) (at k : Combination) (s : State) (r : Option FoundCell) (o p : Option (Found Chunk Cell))
    → first (enough_at rung at k s.facts) s.chunks ≡ o → first (cell_at rung at s.facts) s.chunks ≡ p
    → IsFoundBy rung s.chunks o None → IsFoundBy rung s.chunks p r → find_cell rung at k s ≡ fails (lacking_kind r) ∷ []
lacks_by rung at k s r (Some f) p h l i j = absurd i
lacks_by rung at k s None None None h l i j = rw (h, l) refl
lacks_by rung at k s (Some c) None None h l i j = absurd j
lacks_by rung at k s None None (Some f) h l i j = absurd j
lacks_by rung at k s (Some c) None (Some f) h l i j = rw (h, l) refl

pub lacks : (rung : Rung) (at k : Combination) (s : State) (r : Option FoundCell)
    → IsFoundBy rung s.chunks (first (enough_at rung at k s.facts) s.chunks) None
    → IsFoundBy rung s.chunks (first (cell_at rung at s.facts) s.chunks) r → find_cell rung at k s ≡ fails (lacking_kind r) ∷ []
lacks rung at k s r i j =
    lacks_by rung at k s r (first (enough_at rung at k s.facts) s.chunks) (first (cell_at rung at s.facts) s.chunks) refl refl i j

-- ---- a value that has to be equal

pub is_held : (v t : Combination) (env : Env) (s : State) → proves_equal s.facts v t ≡ true → held v t env s ≡ goes env s ∷ []
is_held v t env s h = rw h refl

pub not_held : (v t : Combination) (env : Env) (s : State) → proves_equal s.facts v t ≡ false → held v t env s ≡ fails kind.Value ∷ []
not_held v t env s h = rw h refl
