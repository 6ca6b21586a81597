-- Banks and tokens are the thread's own affair: nobody else loses anything by them.
use Rattle.std.proofs.Common.{◌≡◌, ◌≤◌, ◌<◌, ◌+◌, ◌-◌, ℕ, suc, Bool, true, false, ◌⊎◌, inl, inr, List, [], ◌∷◌, ◌++◌, Option, Some, None, ℤ, refl, sym, ap, subst, ◌∙◌, arith, if◌then◌else◌}
use Rattle.fsl_graph.specs.declared.graph.Graph.{Graph}
use Rattle.fsl_graph.specs.Sequenced.{In}
use Rattle.fsl_graph.specs.Positions.{Holder, Position}
use Rattle.fsl_graph.specs.Positions.{Holder as holder}
use Rattle.fsl_own.specs.Owning.{Resource, Cell, Permission, Tokens, Bank, Heap, World, only, Known, limit, IsThere, Owned, Adds, KeepsDeals, Agree}
use Rattle.fsl_own.specs.Atoms.{Atom, Tok, Auth, asked, IsRight}
use Rattle.fsl_own.proofs.Totals.{only_here, more_at, less_at, only_some, only_elsewhere, same_resource}
use Rattle.fsl_own.proofs.Owning.{alone, at_most}
use Rattle.fsl_own.proofs.Atoms.{stays_right}
use Rattle.fsl_ground.specs.Ground.{Meaning, Ground}
use Rattle.fsl_ground.specs.Changes.{with_count, with_bank}
use Rattle.fsl_ground.proofs.Ground.{same_agrees}
use Rattle.fsl_ground.proofs.Banks.{new_bank, mint, burn}
use Rattle.fsl_ground.proofs.Tables.{nat_here, nat_elsewhere, nat_or}
use Rattle.fsl_good.specs.Laws.{PiecesStay}
use Rattle.fsl_good.specs.Pieces.{Level, AtPlain, AtUp, AtDown, same_level, holder_of, Piece, plain, asked_at, demand_at, RightPieces, Fits, Entails, IsPossible}
use Rattle.fsl_good.specs.Good.{Shifts, stays, banks, mints, burns}
use Rattle.fsl_good.specs.Keeping.{Keeps, Changed}
use Rattle.fsl_good.proofs.Pieces.{fits_entailed, fits_possible}

-- ---- what stays

pub agree_then : (k j i : Known) (r : Resource) → Agree k j r → Agree j i r → Agree k i r
agree_then k j i (Cell c) p q = q ∙ p
agree_then k j i (Permission l part) p q = q ∙ p
agree_then k j i (Tokens b) p q = tt
agree_then k j i (Bank b) p q = q ∙ p

pub keeps_then : (k j i : Known) (w v u : World) (h : Holder) → Keeps k j w v h → Keeps j i v u h → Keeps k i w u h
keeps_then k j i w v u h p q = record {
  grows = λ r. let a = p.grows r in let b = q.grows r in omega arith;
  agree = λ r o. agree_then k j i r (p.agree r o) (q.agree r (let a = p.grows r in omega arith));
}

same_level_self : (a : Level) → same_level a a ≡ true
same_level_self AtPlain = refl
same_level_self AtUp = refl
same_level_self AtDown = refl

own_level : (x : Piece) (r : Resource) → asked_at x.level x r ≡ asked x.atom r
own_level x r = let e = same_level_self x.level in rw e refl

-- pieces stay right where what they ask for stays known
pub pieces_stay : PiecesStay
pieces_stay g done more k k' t [] past known deals agree p = tt
pieces_stay g done more k k' t (x ∷ xs) past known deals agree p = (
  stays_right g done more k k' (holder_of t x.level) (holder_of t x.level) x.atom past (known x.level) deals
      (λ r o. agree x.level r (let e = own_level x r in omega arith)) p.0,
  pieces_stay g done more k k' t xs past known deals (λ a r o. agree a r (omega arith)) p.1,
)

-- a thread's holders differ
pub level_plain : (t : ℕ) (a : Level) → holder.Plain t ≡ holder_of t a → a ≡ AtPlain
level_plain t AtPlain e = refl
level_plain t AtUp e = cc
level_plain t AtDown e = cc

-- amounts of the other levels are as they were
pub others_at : (u v : World) (t : ℕ) (d : Heap) (a : Level) (r : Resource) → Adds u v (holder.Plain t) d → v (holder_of t a) r ≡ u (holder_of t a) r + (if same_level a AtPlain then d r else 0)
others_at u v t d AtPlain r a = a.here r
others_at u v t d AtUp r a = let e = a.others (holder.Up t) r (λ e. absurd (cc)) in omega arith
others_at u v t d AtDown r a = let e = a.others (holder.Down t) r (λ e. absurd (cc)) in omega arith

-- where a bank's authority is asked for beside other pieces, these ask for none
one_authority : (asks : Meaning) (g : Graph) (done but : List ℕ) (k : Known) (w : World) (t b n : ℕ) (ys : List Piece) → Ground asks g done but k w → Fits g done k w t (plain (Auth b n) ∷ ys)
    → (a : Level) → 1 ≤ demand_at a ys (Bank b) → ⊥
one_authority asks g done but k w t b n ys x f AtPlain o =
    let m = f.enough AtPlain (Bank b) in let one = only_here (Bank b) 1 in let most = at_most g done k w x.owned (holder.Plain t) (Bank b) in absurd (omega arith)
one_authority asks g done but k w t b n ys x f AtUp o =
    let m = f.enough AtPlain (Bank b) in let one = only_here (Bank b) 1 in let up = f.enough AtUp (Bank b) in
    absurd (let e = alone g done k w x.owned (holder.Plain t) (holder.Up t) (Bank b) (omega arith) (omega arith) in cc)
one_authority asks g done but k w t b n ys x f AtDown o =
    let m = f.enough AtPlain (Bank b) in let one = only_here (Bank b) 1 in let down = f.enough AtDown (Bank b) in
    absurd (let e = alone g done k w x.owned (holder.Plain t) (holder.Down t) (Bank b) (omega arith) (omega arith) in cc)

-- counts of other banks stay
count_agrees : (k : Known) (b n : ℕ) (r : Resource) → (r ≡ Bank b → ⊥) → Agree k (with_count k b n) r
count_agrees k b n (Cell c) f = refl
count_agrees k b n (Permission l part) f = refl
count_agrees k b n (Tokens c) f = tt
count_agrees k b n (Bank c) f = nat_elsewhere c b n (k.counts c) (λ e. f (ap Bank e))

has_authority : (g : Graph) (done : List ℕ) (k : Known) (w : World) (t b n : ℕ) (ys : List Piece) → Fits g done k w t (plain (Auth b n) ∷ ys) → 1 ≤ w (holder.Plain t) (Bank b)
has_authority g done k w t b n ys f = let m = f.enough AtPlain (Bank b) in let one = only_here (Bank b) 1 in omega arith

-- the counts of banks that are there stay, where one is made
bank_agrees : (g : Graph) (done : List ℕ) (k : Known) (r : Resource) → IsThere g done k r → Agree k (with_bank k) r
bank_agrees g done k (Cell c) h = refl
bank_agrees g done k (Permission l part) h = refl
bank_agrees g done k (Tokens b) h = tt
bank_agrees g done k (Bank b) h = nat_elsewhere b k.banks 0 (k.counts b) (λ e. absurd (omega (arith, h, e)))

-- amounts at a level, where the thread has tokens more or fewer
minted : (a : Level) (bank tokens ys w v : ℕ) → (if same_level AtPlain a then bank else 0) + ys ≤ w → v ≡ w + (if same_level a AtPlain then tokens else 0)
    → (if same_level AtPlain a then bank else 0) + ((if same_level AtPlain a then tokens else 0) + ys) ≤ v
minted AtPlain bank tokens ys w v h e = omega (arith, h, e)
minted AtUp bank tokens ys w v h e = omega (arith, h, e)
minted AtDown bank tokens ys w v h e = omega (arith, h, e)

burnt : (a : Level) (bank tokens ys u w : ℕ) → (if same_level AtPlain a then bank else 0) + ((if same_level AtPlain a then tokens else 0) + ys) ≤ w
    → w ≡ u + (if same_level a AtPlain then tokens else 0) → (if same_level AtPlain a then bank else 0) + ys ≤ u
burnt AtPlain bank tokens ys u w h e = omega (arith, h, e)
burnt AtUp bank tokens ys u w h e = omega (arith, h, e)
burnt AtDown bank tokens ys u w h e = omega (arith, h, e)

made : (a : Level) (bank xs w v : ℕ) → xs ≤ w → v ≡ w + (if same_level a AtPlain then bank else 0) → (if same_level AtPlain a then bank else 0) + xs ≤ v
made AtPlain bank xs w v h e = omega (arith, h, e)
made AtUp bank xs w v h e = omega (arith, h, e)
made AtDown bank xs w v h e = omega (arith, h, e)

-- a change, and then another one
pub after : (asks : Meaning) (g : Graph) (done but : List ℕ) (k j : Known) (w v : World) (t : ℕ) (K : List Piece → Type 0) → KeepsDeals k j → ((h : Holder) → (h ≡ holder.Plain t → ⊥) → Keeps k j w v h)
    → Changed asks g done but j v t K → Changed asks g done but k w t K
after asks g done but k j w v t K deals keeps c = record {
  known = c.known;
  world = c.world;
  ground = c.ground;
  pieces = c.pieces;
  fits = c.fits;
  next = c.next;
  deals = λ l d e. c.deals l d (deals l d e);
  others = λ h n. keeps_then k j c.known w v c.world h (keeps h n) (c.others h n);
}

pub shifts_keep : (asks : Meaning) (g : Graph) (done but : List ℕ) (t : ℕ) (K : List Piece → Type 0) (k : Known) (w : World) (xs : List Piece) → Shifts K xs → Ground asks g done but k w
    → Fits g done k w t xs → Changed asks g done but k w t K
shifts_keep asks g done but t K k w xs (stays next) x f = record {
  known = k;
  world = w;
  ground = x;
  pieces = xs;
  fits = f;
  next = next;
  deals = λ l d e. e;
  others = λ h n. record { grows = λ r. omega arith; agree = λ r o. same_agrees k r };
}
shifts_keep asks g done but t K k w xs (banks more) x f =
    let v = more_at w (holder.Plain t) (only (Bank k.banks) 1) in
    let ground = new_bank asks g done but k w v.0 t x v.1 in
    let fits : Fits g done (with_bank k) v.0 t (plain (Auth k.banks 0) ∷ xs) = record {
      enough = λ a r. made a (only (Bank k.banks) 1 r) (demand_at a xs r) (w (holder_of t a) r) (v.0 (holder_of t a) r) (f.enough a r) (others_at w v.0 t (only (Bank k.banks) 1) a r v.1);
      right = (
        nat_here k.banks 0 (k.counts k.banks),
        pieces_stay g done done k (with_bank k) t xs (λ e i. i) (λ a e p. p) (λ l d e. e) (λ a r o. bank_agrees g done k r (x.owned.there (holder_of t a) r (let m = f.enough a r in omega arith))) f.right,
      );
    } in
    after asks g done but k (with_bank k) w v.0 t K (λ l d e. e) (λ h n. record {
      grows = λ r. let e = v.1.others h r n in omega arith;
      agree = λ r o. bank_agrees g done k r (x.owned.there h r o);
    }) (shifts_keep asks g done but t K (with_bank k) v.0 (plain (Auth k.banks 0) ∷ xs) (more k.banks (fits_possible g done (with_bank k) v.0 t (plain (Auth k.banks 0) ∷ xs) ground.owned fits)) ground fits)
shifts_keep asks g done but t K k w xs (mints {ys = ys} b n m e more) x f =
    let before = fits_entailed g done k w t xs (plain (Auth b n) ∷ ys) f e in
    let has = has_authority g done k w t b n ys before in
    let k' = with_count k b (k.counts b + m) in
    let v = more_at w (holder.Plain t) (only (Tokens b) m) in
    let ground = mint asks g done but k w v.0 t b m x has v.1 in
    let zs = plain (Auth b (n + m)) ∷ plain (Tok b m) ∷ ys in
    let fits : Fits g done k' v.0 t zs = record {
      enough = λ a r. let o = others_at w v.0 t (only (Tokens b) m) a r v.1 in let q = before.enough a r in minted a (only (Bank b) 1 r) (only (Tokens b) m r) (demand_at a ys r) (w (holder_of t a) r) (v.0 (holder_of t a) r) q o;
      right = (
        nat_here b (k.counts b + m) (k.counts b) ∙ ap (λ (c : ℕ). c + m) before.right.0,
        (
          tt,
          pieces_stay g done done k k' t ys (λ e i. i) (λ a e p. p) (λ l d e. e) (λ a r o. count_agrees k b (k.counts b + m) r (λ q. one_authority asks g done but k w t b n ys x before a (subst (λ (y : Resource). 1 ≤ demand_at a ys y) q o))) before.right.1,
        ),
      );
    } in
    after asks g done but k k' w v.0 t K (λ l d e. e) (λ h p. record {
      grows = λ r. let o = v.1.others h r p in omega arith;
      agree = λ r o. count_agrees k b (k.counts b + m) r (λ q. p (sym (alone g done k w x.owned (holder.Plain t) h (Bank b) has (subst (λ (y : Resource). 1 ≤ w h y) q o))));
    }) (shifts_keep asks g done but t K k' v.0 zs (more (fits_possible g done k' v.0 t zs ground.owned fits)) ground fits)
shifts_keep asks g done but t K k w xs (burns {ys = ys} b n m e more) x f =
    let before = fits_entailed g done k w t xs (plain (Auth b n) ∷ plain (Tok b m) ∷ ys) f e in
    let has = has_authority g done k w t b n (plain (Tok b m) ∷ ys) before in
    let k' = with_count k b (k.counts b - m) in
    let u = less_at w (holder.Plain t) (only (Tokens b) m) (λ r. let q = before.enough AtPlain r in omega arith) in
    let ground = burn asks g done but k w u.0 t b m x has u.1 in
    let zs = plain (Auth b (n - m)) ∷ ys in
    let fits : Fits g done k' u.0 t zs = record {
      enough = λ a r. let o = others_at u.0 w t (only (Tokens b) m) a r u.1 in let q = before.enough a r in burnt a (only (Bank b) 1 r) (only (Tokens b) m r) (demand_at a ys r) (u.0 (holder_of t a) r) (w (holder_of t a) r) q o;
      right = (
        nat_here b (k.counts b - m) (k.counts b) ∙ ap (λ (c : ℕ). c - m) before.right.0,
        pieces_stay g done done k k' t ys (λ e i. i) (λ a e p. p) (λ l d e. e)
            (λ a r o. count_agrees k b (k.counts b - m) r (λ q. one_authority asks g done but k w t b n (plain (Tok b m) ∷ ys) x before a
            (let i : 1 ≤ demand_at a ys (Bank b) = subst (λ (y : Resource). 1 ≤ demand_at a ys y) q o in omega arith))) before.right.1.1,
      );
    } in
    after asks g done but k k' w u.0 t K (λ l d e. e) (λ h p. record {
      grows = λ r. let o = u.1.others h r p in omega arith;
      agree = λ r o. count_agrees k b (k.counts b - m) r (λ q. p (sym (alone g done k w x.owned (holder.Plain t) h (Bank b) has (subst (λ (y : Resource). 1 ≤ w h y) q o))));
    }) (shifts_keep asks g done but t K k' u.0 zs (more (fits_possible g done k' u.0 t zs ground.owned fits)) ground fits)
