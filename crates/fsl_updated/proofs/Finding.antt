-- The leaves of a location, and that they are known before anything is read.
use Rattle.std.proofs.Common.{◌≡◌, ◌⊎◌, inl, inr, ℕ, true, List, [], ◌++◌, ℤ, refl, sym, subst}
use Rattle.fsl_core.specs.declared.chunk.Chunk.{Chunk}
use Rattle.fsl_core.specs.declared.mode.Rung.TheVariants.{Plain}
use Rattle.fsl_core.specs.declared.verdict.Kind.{Kind}
use Rattle.fsl_core.specs.declared.verdict.Kind.TheVariants as kind
use Rattle.fsl_core.specs.logic.States.{State, goes, fails, Branch, Branches, Rule, followed}
use Rattle.fsl_core.specs.logic.Chunks.{init_at, rel_at, rmw_at}
use Rattle.fsl_core.specs.logic.Updates.{Leaves, find_leaves}
use Rattle.fsl_lin.specs.Combination.{Combination}
use Rattle.fsl_lin.specs.Numbers.{Numbers}
use Rattle.fsl_meaning.specs.Means.{Means, AllMean, Grows}
use Rattle.fsl_meaning.specs.Heaps.{Heap, Claim as claim, Ground}
use Rattle.fsl_meaning.specs.States.{KnowsInit, KnowsLeave, Stands, All, Fits}
use Rattle.fsl_meaning.specs.Branches.{Among, Lands, Lands as land, Tells, Tells as tell}
use Rattle.fsl_meaning.proofs.Terms.{all_more}
use Rattle.fsl_meaning.proofs.Calculus.{among_left, tells_then, tells_on, tells_give}
use Rattle.fsl_meaning.proofs.Facts.{proved_equal}
use Rattle.fsl_meaning.proofs.Owned.{tells_find_or}
use Rattle.fsl_meaning.proofs.Readings.{init_read, rel_read, rmw_read}
use Rattle.fsl_updated.specs.Updates.{MayReplace, IsDealt, LeavesMean, HasLeaves, Fails}

-- ---- leaves

pub leaves_tell : {g : Ground} {slots : List ℤ} {v : Numbers} {s : State} {h : Heap} {loc : ℤ} (a : Combination) → Fits slots (All g h) v s → Means s.next v a loc
    → Tells s (HasLeaves g s.next v loc) (find_leaves a s)
leaves_tell {g = g} {v = v} {s = s} {loc = loc} a fit a_is =
    tells_on _ (tells_find_or kind.Init (init_at Plain a) fit) (λ f out.
    let r = init_read Plain a s.facts out.item f.is out.reads_as in
    let k : KnowsInit g s.next v Plain f.is = subst (λ (c : Chunk). Stands g s.next v c out.mine) r.0 out.fits.owns.stands in
    let same : k.loc ≡ loc = proved_equal fit.one fit.facts k.at_is a_is r.1 in
    tells_on _ (tells_find_or kind.Rel (rel_at a) fit) (λ f2 out2.
    let r2 = rel_read a s.facts out2.item f2.is out2.reads_as in
    let k2 : KnowsLeave g s.next v claim.MayWrite f2.is.at f2.is.inv f2.is.args = subst (λ (c : Chunk). Stands g s.next v c out2.mine) r2.0 out2.fits.owns.stands in
    let same2 : k2.loc ≡ loc = proved_equal fit.one fit.facts k2.at_is a_is r2.1 in
    tells_on _ (tells_find_or kind.Rmw (rmw_at a) fit) (λ f3 out3.
    let r3 = rmw_read a s.facts out3.item f3.is out3.reads_as in
    let k3 : KnowsLeave g s.next v claim.MayUpdate f3.is.at f3.is.inv f3.is.args = subst (λ (c : Chunk). Stands g s.next v c out3.mine) r3.0 out3.fits.owns.stands in
    let same3 : k3.loc ≡ loc = proved_equal fit.one fit.facts k3.at_is a_is r3.1 in
    tells_give (record { rel = f2.is; rmw = f3.is }) s (record {
      init = subst (λ (l : ℤ). g.knows (claim.IsInit Plain l) ≡ true) same k.known;
      write_args = k2.numbers;
      rel_args = k2.args_are;
      may_write = subst (λ (l : ℤ). g.knows (claim.MayWrite l f2.is.inv k2.numbers) ≡ true) same2 k2.known;
      update_args = k3.numbers;
      rmw_args = k3.args_are;
      may_update = subst (λ (l : ℤ). g.knows (claim.MayUpdate l f3.is.inv k3.numbers) ≡ true) same3 k3.known;
    }))))

pub may_replace : {g : Ground} {n : ℕ} {v : Numbers} {loc : ℤ} (l : Leaves) → HasLeaves g n v loc l → MayReplace g loc
may_replace l k = record {
  init = k.init;
  write_inv = l.rel.inv;
  write_args = k.write_args;
  may_write = k.may_write;
  update_inv = l.rmw.inv;
  update_args = k.update_args;
  may_update = k.may_update;
}

-- both have what the location was made with
pub leaves_mean : {g : Ground} {n : ℕ} {v : Numbers} {loc : ℤ} {inv : ℕ} {args : List ℤ} (l : Leaves) → IsDealt g loc inv args → HasLeaves g n v loc l → LeavesMean n v l inv args
leaves_mean {n = n} {v = v} l dealt k =
    let w = dealt.writes l.rel.inv k.write_args k.may_write in
    let u = dealt.updates l.rmw.inv k.update_args k.may_update in
    record {
      rel_inv = w.0;
      rel_args = subst (λ (xs : List ℤ). AllMean n v l.rel.args xs) w.1 k.rel_args;
      rmw_inv = u.0;
      rmw_args = subst (λ (xs : List ℤ). AllMean n v l.rmw.args xs) u.1 k.rmw_args;
    }

pub leaves_more : {n m : ℕ} {v w : Numbers} {inv : ℕ} {args : List ℤ} {l : Leaves} → Grows n v m w → LeavesMean n v l inv args → LeavesMean m w l inv args
leaves_more r k = record { rel_inv = k.rel_inv; rel_args = all_more r k.rel_args; rmw_inv = k.rmw_inv; rmw_args = all_more r k.rmw_args }

-- ---- known, or some branch fails

failed_of : {X : Type 0} {n : ℕ} {v : Numbers} {bs : Branches X} → Lands n v (λ y t w. ⊥) bs → Fails bs
failed_of (land.lands y t w i g p) = absurd p
failed_of (land.stops kind i) = (kind, i)

fails_behind : {X Y : Type 0} (s : State) (v : Numbers) (bs : Branches X) (f : X → Rule Y) (x : X) → Among (goes x s) bs → Fails (f x s) → Fails (followed bs f)
fails_behind {Y = Y} s v bs f x i e =
    let here : Tells s (λ y. y ≡ x) bs = tell.tells x i refl in
    let l : Lands s.next v (λ (y : Y) t w. ⊥) (followed bs f) = tells_then f here (λ y q. subst (λ z. Lands s.next v (λ (u : Y) t w. ⊥) (f z s)) (sym q) (land.stops e.0 e.1)) in
    failed_of l

fails_at : {X Y : Type 0} (s : State) (v : Numbers) (bs : Branches X) (f : X → Rule Y) (why : Kind) → Among (let b : Branch X = fails why in b) bs → Fails (followed bs f)
fails_at {Y = Y} s v bs f why i =
    let here : Tells s (λ y. ⊥) bs = tell.stops why i in
    let l : Lands s.next v (λ (y : Y) t w. ⊥) (followed bs f) = tells_then f here (λ y q. absurd q) in
    failed_of l

found_by : {X Y : Type 0} {Q : Type 0} (s : State) (v : Numbers) (bs : Branches X) (f : X → Rule Y) (x : X) → Among (goes x s) bs → Q ⊎ Fails (f x s) → Q ⊎ Fails (followed bs f)
found_by s v bs f x i (inl q) = inl q
found_by s v bs f x i (inr e) = inr (fails_behind s v bs f x i e)

pub finds_then : {X Y : Type 0} {s : State} {P : X → Type 0} {Q : Type 0} (v : Numbers) (bs : Branches X) (f : X → Rule Y) → Tells s P bs → ((x : X) → P x → Q ⊎ Fails (f x s))
    → Q ⊎ Fails (followed bs f)
finds_then {s = s} v bs f (tell.tells x i p) k = found_by s v bs f x i (k x p)
finds_then {s = s} v bs f (tell.stops why i) k = inr (fails_at s v bs f why i)

pub finds_end : {X : Type 0} {Q : Type 0} (bs : Branches X) → Q ⊎ Fails bs → Q ⊎ Fails (bs ++ [])
finds_end bs (inl q) = inl q
finds_end {X = X} bs (inr e) = inr (e.0, among_left (let b : Branch X = fails e.0 in b) bs [] e.1)
