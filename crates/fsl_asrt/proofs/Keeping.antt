-- Rules that keep the chunks, so that a chunk keeps its number on the way; and answers of calls. They are no file's of
-- `src/` alone.
use Rattle.std.proofs.Common.{◌≡◌, ℕ, Bool, true, false, [], ◌∷◌, ◌++◌, Option, Some, None, Result, Ok, Err, IfOk, ℤ, pos, refl, sym, ap, subst, ◌∙◌, append-nil}
use Rattle.fsl_asrt.specs.Cells.{IsPoints}
use Rattle.fsl_chunk.specs.Went.{branches}
use Rattle.fsl_chunk.specs.declared.went.Went.{Went}
use Rattle.fsl_core.specs.declared.mode.Rung.{Rung}
use Rattle.fsl_core.specs.declared.verdict.Kind.{Kind}
use Rattle.fsl_core.specs.declared.verdict.Kind.TheVariants as kind
use Rattle.fsl_core.specs.logic.States.{State, goes, fails, Branches, Rule, followed, give, demand, demand_some}
use Rattle.fsl_core.specs.logic.Terms.{fitting, narrow}
use Rattle.fsl_core.specs.logic.Deciding.{has_room, assume, assume_at_most}
use Rattle.fsl_core.specs.logic.Joining.{assume_same}
use Rattle.fsl_lin.specs.Combination.{Combination, plus, minus, constant, is_narrow}
use Rattle.fsl_lin.specs.Facts.{absurd_facts}
use Rattle.fsl_lin.specs.declared.fact.Fact.{Fact}
use Rattle.fsl_lin.specs.declared.fact.Fact.TheVariants.{Le, Is}

-- each branch that goes on owns what the state does
abbrev pub AreKept : {X : Type 0} → State → Branches X → Type 0
AreKept s [] = Unit {0}
AreKept s (goes x t ∷ bs) = (t.chunks ≡ s.chunks) × AreKept s bs
AreKept s (fails kind ∷ bs) = AreKept s bs

pub followed_same : {X Y : Type 0} (s : State) (bs : Branches X) (f g : X → Rule Y) → AreKept s bs
    → ((x : X) (t : State) → t.chunks ≡ s.chunks → f x t ≡ g x t) → followed bs f ≡ followed bs g
followed_same s [] f g k h = refl
followed_same s (goes x t ∷ bs) f g k h =
    ap (λ r. r ++ followed bs f) (h x t k.0) ∙ ap (λ r. g x t ++ r) (followed_same s bs f g k.1 h)
followed_same s (fails kind ∷ bs) f g k h = ap (λ r. fails kind ∷ r) (followed_same s bs f g k h)

pub kept_append : {X : Type 0} (s : State) (bs cs : Branches X) → AreKept s bs → AreKept s cs → AreKept s (bs ++ cs)
kept_append s [] cs k l = l
kept_append s (goes x t ∷ bs) cs k l = (k.0, kept_append s bs cs k.1 l)
kept_append s (fails kind ∷ bs) cs k l = kept_append s bs cs k l

pub followed_kept : {X Y : Type 0} (s : State) (bs : Branches X) (f : X → Rule Y) → AreKept s bs
    → ((x : X) (t : State) → t.chunks ≡ s.chunks → AreKept s (f x t)) → AreKept s (followed bs f)
followed_kept s [] f k h = tt
followed_kept s (goes x t ∷ bs) f k h = kept_append s (f x t) (followed bs f) (h x t k.0) (followed_kept s bs f k.1 h)
followed_kept s (fails kind ∷ bs) f k h = followed_kept s bs f k h

-- what a rule gives without a change is kept
pub given_kept : {X Y : Type 0} (s : State) (bs : Branches Y) (f : Y → X) → AreKept s bs → AreKept s (followed bs (λ y. give (f y)))
given_kept s [] f k = tt
given_kept s (goes y t ∷ bs) f k = (k.0, given_kept s bs f k.1)
given_kept s (fails kind ∷ bs) f k = given_kept s bs f k

-- what a later state keeps
pub kept_from : {X : Type 0} (s t : State) (bs : Branches X) → t.chunks ≡ s.chunks → AreKept t bs → AreKept s bs
kept_from s t [] e k = tt
kept_from s t (goes x u ∷ bs) e k = (k.0 ∙ e, kept_from s t bs e k.1)
kept_from s t (fails kind ∷ bs) e k = kept_from s t bs e k

pub some_kept : {X : Type 0} (kind : Kind) (o : Option X) (s : State) → AreKept s (demand_some kind o s)
some_kept kind (Some x) s = (refl, tt)
some_kept kind None s = tt

pub met_kept : (kind : Kind) (test : Bool) (s : State) → AreKept s (demand kind test s)
met_kept kind true s = (refl, tt)
met_kept kind false s = tt

-- a demand that looks first
pub demand_kept : (kind : Kind) (test : Bool) (s : State) → AreKept s (demand kind test s ++ [])
demand_kept kind test s = kept_append s (demand kind test s) [] (met_kept kind test s) tt

pub fitting_kept : (t : Combination) (s : State) → AreKept s (fitting t s)
fitting_kept t s = some_kept _ (narrow t) s

assume_by : (room absurd : Bool) (fact : Fact) (s : State) → has_room fact s.facts ≡ room → absurd_facts (fact ∷ s.facts) ≡ absurd
    → AreKept s (assume fact s)
assume_by true true fact s h k = rw (h, k) tt
assume_by true false fact s h k = rw (h, k) (refl, tt)
assume_by false absurd fact s h k = rw h tt

pub assume_kept : (fact : Fact) (s : State) → AreKept s (assume fact s)
assume_kept fact s = assume_by (has_room fact s.facts) (absurd_facts (fact ∷ s.facts)) fact s refl refl

pub at_most_kept : (a : Combination) (gap : ℤ) (b : Combination) (s : State) → AreKept s (assume_at_most a gap b s)
at_most_kept a gap b s = assume_kept (Le (plus (minus a b) (constant gap))) s

pub same_kept : (v w : Option Combination) (s : State) → AreKept s (assume_same v w s)
same_kept (Some a) (Some b) s = assume_kept (Is (minus a b)) s
same_kept (Some a) None s = (refl, tt)
same_kept None w s = (refl, tt)

-- the one branch that goes on owns what the state does
pub goes_kept : {X : Type 0} (s : State) (bs : Branches X) (x : X) (t : State) → AreKept s bs → goes x t ∷ [] ≡ bs → t.chunks ≡ s.chunks
goes_kept {X = X} s bs x t k h =
    let l : AreKept s (goes x t ∷ []) = subst (λ (cs : Branches X). AreKept s cs) (sym h) k in
    l.0

-- ---- a term that has to keep within its bounds

pub fits : {Y : Type 0} (t u : Combination) (s : State) (f : Combination → Rule Y) → u ≡ t → is_narrow t ≡ true
    → followed (fitting t s) f ≡ f u s
fits t u s f h k = rw (h, k) (append-nil (f t s))

pub too_wide : {Y : Type 0} (t : Combination) (s : State) (f : Combination → Rule Y) → is_narrow t ≡ false
    → followed (fitting t s) f ≡ fails kind.Term ∷ []
too_wide t s f k = rw k refl

-- ---- the chunk of a number stays a points-to

pub still_points : (rung : Rung) (number : ℕ) (s t : State) → IsPoints rung number s.chunks → t.chunks ≡ s.chunks → IsPoints rung number t.chunks
still_points rung number s t h e = rw e h

-- ---- both of two clauses on one answer

pub ok_both : {X E : Type 0} (r : Result X E) (P Q R : X → Type 0) → ((x : X) → P x → Q x → R x) → IfOk r P → IfOk r Q → IfOk r R
ok_both (Ok x) P Q R f p q = f x p q
ok_both (Err e) P Q R f p q = tt

-- an answer that is what another side of an equation is
pub ok_then : {X T E : Type 0} (r : Result X E) (f : X → T) (y z : T) → y ≡ z → IfOk r (λ x. f x ≡ y) → IfOk r (λ x. f x ≡ z)
ok_then (Ok x) f y z e h = h ∙ e
ok_then (Err x) f y z e h = tt

-- ---- what came of a call

pub went_is : (w v : Went) (bs : Branches (Unit {0})) → w ≡ v → branches w ≡ bs → branches v ≡ bs
went_is w v bs e h = ap branches (sym e) ∙ h

pub by_one : (w v : Went) (one t share : Combination) (s : State) → w ≡ v → one ≡ t
    → branches w ≡ assume_at_most one (pos 0) share s → branches v ≡ assume_at_most t (pos 0) share s
by_one w v one t share s e i h =
    ap branches (sym e) ∙ h ∙ ap (λ (u : Combination). assume_at_most u (pos 0) share s) i
