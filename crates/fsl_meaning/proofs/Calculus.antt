-- The calculus of branches: a rule, and then another one.
use Rattle.std.proofs.Common.{◌≡◌, ℕ, inl, inr, Bool, true, false, List, [], ◌∷◌, ◌++◌, Option, Some, None, refl, ap, subst}
use Rattle.fsl_core.specs.declared.verdict.Kind.{Kind}
use Rattle.fsl_core.specs.logic.States.{State, goes, fails, Branch, Branches, Rule, followed, look, demand, demand_some}
use Rattle.fsl_lin.specs.Numbers.{Numbers}
use Rattle.fsl_meaning.specs.Means.{Grows}
use Rattle.fsl_meaning.specs.Branches.{Among, Lands, Lands as land, Tells, Tells as tell}
use Rattle.fsl_meaning.proofs.Terms.{grows_here, grows_then}

pub among_left : {X : Type 0} (x : X) (xs ys : List X) → Among x xs → Among x (xs ++ ys)
among_left x [] ys h = absurd h
among_left x (z ∷ zs) ys (inl e) = inl e
among_left x (z ∷ zs) ys (inr i) = inr (among_left x zs ys i)

pub among_right : {X : Type 0} (x : X) (xs ys : List X) → Among x ys → Among x (xs ++ ys)
among_right x [] ys h = h
among_right x (z ∷ zs) ys h = inr (among_right x zs ys h)

among_followed : {X Y : Type 0} (bs : Branches X) (f : X → Rule Y) (x : X) (s : State) (b : Branch Y) → Among (goes x s) bs → Among b (f x s) → Among b (followed bs f)
among_followed [] f x s b i j = absurd i
among_followed {X = X} (goes y t ∷ bs) f x s b (inl e) j =
    let p : x ≡ y = cc in
    let q : s ≡ t = cc in
    among_left b (f y t) (followed bs f) (subst (λ (z : X). Among b (f z t)) p (subst (λ (u : State). Among b (f x u)) q j))
among_followed (goes y t ∷ bs) f x s b (inr i) j = among_right b (f y t) (followed bs f) (among_followed bs f x s b i j)
among_followed (fails k ∷ bs) f x s b (inl e) j = absurd (cc)
among_followed (fails k ∷ bs) f x s b (inr i) j = inr (among_followed bs f x s b i j)

among_failed : {X Y : Type 0} (bs : Branches X) (f : X → Rule Y) (k : Kind) → Among (let b : Branch X = fails k in b) bs → Among (let b : Branch Y = fails k in b) (followed bs f)
among_failed [] f k i = absurd i
among_failed (goes y t ∷ bs) f k (inl e) = absurd (cc)
among_failed {Y = Y} (goes y t ∷ bs) f k (inr i) = among_right (let b : Branch Y = fails k in b) (f y t) (followed bs f) (among_failed bs f k i)
among_failed (fails j ∷ bs) f k (inl e) = let p : k ≡ j = cc in inl (ap fails p)
among_failed (fails j ∷ bs) f k (inr i) = inr (among_failed bs f k i)

-- ---- rules one after the other

lands_on : {X Y : Type 0} {n : ℕ} {v w : Numbers} {Q : Y → State → Numbers → Type 0} (bs : Branches X) (f : X → Rule Y) (x : X) (s : State)
    → Among (goes x s) bs → Grows n v s.next w → Lands s.next w Q (f x s) → Lands n v Q (followed bs f)
lands_on bs f x s i g (land.lands y t u j h q) = land.lands y t u (among_followed bs f x s (goes y t) i j) (grows_then g h) q
lands_on {Y = Y} bs f x s i g (land.stops kind j) = land.stops kind (among_followed bs f x s (let b : Branch Y = fails kind in b) i j)

pub lands_then : {X Y : Type 0} {n : ℕ} {v : Numbers} {P : X → State → Numbers → Type 0} {Q : Y → State → Numbers → Type 0} {bs : Branches X} {f : X → Rule Y}
    → Lands n v P bs → ((x : X) (s : State) (w : Numbers) → Grows n v s.next w → P x s w → Lands s.next w Q (f x s)) → Lands n v Q (followed bs f)
lands_then {bs = bs} {f = f} (land.lands x s w i g p) k = lands_on bs f x s i g (k x s w g p)
lands_then {bs = bs} {f = f} (land.stops kind i) k = land.stops kind (among_failed bs f kind i)

pub lands_give : {X : Type 0} {v : Numbers} {P : X → State → Numbers → Type 0} (x : X) (s : State) → P x s v → Lands s.next v P (goes x s ∷ [])
lands_give {v = v} x s p = land.lands x s v (inl refl) grows_here p

pub lands_left : {X : Type 0} {n : ℕ} {v : Numbers} {P : X → State → Numbers → Type 0} {bs : Branches X} (cs : Branches X) → Lands n v P bs → Lands n v P (bs ++ cs)
lands_left {bs = bs} cs (land.lands x s w i g p) = land.lands x s w (among_left (goes x s) bs cs i) g p
lands_left {X = X} {bs = bs} cs (land.stops kind i) = land.stops kind (among_left (let b : Branch X = fails kind in b) bs cs i)

pub lands_right : {X : Type 0} {n : ℕ} {v : Numbers} {P : X → State → Numbers → Type 0} (bs : Branches X) {cs : Branches X} → Lands n v P cs → Lands n v P (bs ++ cs)
lands_right bs {cs = cs} (land.lands x s w i g p) = land.lands x s w (among_right (goes x s) bs cs i) g p
lands_right {X = X} bs {cs = cs} (land.stops kind i) = land.stops kind (among_right (let b : Branch X = fails kind in b) bs cs i)

pub lands_as : {X : Type 0} {n : ℕ} {v : Numbers} {P Q : X → State → Numbers → Type 0} {bs : Branches X}
    → Lands n v P bs → ((x : X) (s : State) (w : Numbers) → Grows n v s.next w → P x s w → Q x s w) → Lands n v Q bs
lands_as (land.lands x s w i g p) k = land.lands x s w i g (k x s w g p)
lands_as (land.stops kind i) k = land.stops kind i

-- ---- rules that leave the state as it is

pub tells_then : {X Y : Type 0} {s : State} {v : Numbers} {P : X → Type 0} {Q : Y → State → Numbers → Type 0} {bs : Branches X} (f : X → Rule Y)
    → Tells s P bs → ((x : X) → P x → Lands s.next v Q (f x s)) → Lands s.next v Q (followed bs f)
tells_then {s = s} {bs = bs} f (tell.tells x i p) k = lands_on bs f x s i grows_here (k x p)
tells_then {bs = bs} f (tell.stops kind i) k = land.stops kind (among_failed bs f kind i)

tells_more : {X Y : Type 0} {Q : Y → Type 0} (bs : Branches X) (f : X → Rule Y) (x : X) (s : State) → Among (goes x s) bs → Tells s Q (f x s) → Tells s Q (followed bs f)
tells_more bs f x s i (tell.tells y j q) = tell.tells y (among_followed bs f x s (goes y s) i j) q
tells_more {Y = Y} bs f x s i (tell.stops kind j) = tell.stops kind (among_followed bs f x s (let b : Branch Y = fails kind in b) i j)

pub tells_on : {X Y : Type 0} {s : State} {P : X → Type 0} {Q : Y → Type 0} {bs : Branches X} (f : X → Rule Y)
    → Tells s P bs → ((x : X) → P x → Tells s Q (f x s)) → Tells s Q (followed bs f)
tells_on {s = s} {bs = bs} f (tell.tells x i p) k = tells_more bs f x s i (k x p)
tells_on {bs = bs} f (tell.stops kind i) k = tell.stops kind (among_failed bs f kind i)

pub tells_as : {X : Type 0} {s : State} {P Q : X → Type 0} {bs : Branches X} → Tells s P bs → ((x : X) → P x → Q x) → Tells s Q bs
tells_as (tell.tells x i p) k = tell.tells x i (k x p)
tells_as (tell.stops kind i) k = tell.stops kind i

pub tells_give : {X : Type 0} {P : X → Type 0} (x : X) (s : State) → P x → Tells s P (goes x s ∷ [])
tells_give x s p = tell.tells x (inl refl) p

pub tells_lands : {X : Type 0} {s : State} {v : Numbers} {P : X → Type 0} {Q : X → State → Numbers → Type 0} {bs : Branches X}
    → Tells s P bs → ((x : X) → P x → Q x s v) → Lands s.next v Q bs
tells_lands {s = s} {v = v} (tell.tells x i p) k = land.lands x s v i grows_here (k x p)
tells_lands (tell.stops kind i) k = land.stops kind i

pub tells_look : {X : Type 0} {s : State} (f : State → X) → Tells s (λ x. x ≡ f s) (look f s)
tells_look {s = s} f = tell.tells (f s) (inl refl) refl

pub tells_demand : {s : State} (kind : Kind) (b : Bool) → Tells s (λ u. b ≡ true) (demand kind b s)
tells_demand kind true = tell.tells tt (inl refl) refl
tells_demand kind false = tell.stops kind (inl refl)

pub tells_some : {X : Type 0} {s : State} (kind : Kind) (o : Option X) → Tells s (λ x. o ≡ Some x) (demand_some kind o s)
tells_some kind (Some x) = tell.tells x (inl refl) refl
tells_some kind None = tell.stops kind (inl refl)

-- what is looked up is known where the rule goes on
pub lands_end : {X : Type 0} {n : ℕ} {v : Numbers} {P : X → State → Numbers → Type 0} (bs : Branches X) → Lands n v P bs → Lands n v P (bs ++ [])
lands_end bs l = lands_left [] l

tells_left : {X : Type 0} {s : State} {P : X → Type 0} (bs cs : Branches X) → Tells s P bs → Tells s P (bs ++ cs)
tells_left {s = s} bs cs (tell.tells x i p) = tell.tells x (among_left (goes x s) bs cs i) p
tells_left {X = X} bs cs (tell.stops kind i) = tell.stops kind (among_left (let b : Branch X = fails kind in b) bs cs i)

pub tells_end : {X : Type 0} {s : State} {P : X → Type 0} (bs : Branches X) → Tells s P bs → Tells s P (bs ++ [])
tells_end bs l = tells_left bs [] l
