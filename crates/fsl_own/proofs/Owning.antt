-- Who owns what, through gifts, gains, losses and events.
use Rattle.std.proofs.Common.{◌≡◌, ◌≤◌, ◌<◌, ◌+◌, ℕ, zero, suc, Bool, true, false, ◌⊎◌, inl, inr, List, [], ◌∷◌, Option, Some, None, ℤ, refl, sym, ap, subst, ◌∙◌, arith}
use Rattle.fsl_core.specs.declared.label.Label.{Label}
use Rattle.fsl_core.specs.declared.label.Label.TheVariants as label
use Rattle.fsl_core.specs.declared.mode.AllocKind.TheVariants as kind
use Rattle.fsl_core.specs.declared.mode.Mode.{Mode}
use Rattle.fsl_graph.specs.declared.event.Event.{Event}
use Rattle.fsl_graph.specs.declared.graph.Graph.{Graph}
use Rattle.fsl_graph.specs.Events.{Is, Writes, Touch, Touches, written_by}
use Rattle.fsl_graph.specs.Sequenced.{In}
use Rattle.fsl_graph.specs.Happens.{Hb}
use Rattle.fsl_graph.specs.Safe.{IsFreed, IsAccess, Access, Accesses, access_by}
use Rattle.fsl_graph.specs.Orders.{Comes}
use Rattle.fsl_graph.specs.Positions.{Position, Holder, Reaches}
use Rattle.fsl_graph.specs.Positions.{Holder as holder}
use Rattle.fsl_graph.proofs.Threads.{one_event}
use Rattle.fsl_own.specs.Knowledge.{Tells}
use Rattle.fsl_own.specs.Reading.{KnowsWrites}
use Rattle.fsl_own.specs.Owning.{Resource, Cell, Permission, Tokens, Bank, Heap, World, full, Deal, Known, limit, IsAlive, IsThere, only, Among, total, UsesCell, IsCovered, by_holder, by_free, Owned, Adds, Gives, TellsOf, KeepsDeals}
use Rattle.fsl_own.specs.Kept.{UsesOwn, AtMost, TwoAtMost, HoldsAlone, KeptByGiving, KeptByJoining, KeptByGaining, KeptByLosing, KeptByKnowing, ChangeIsAfter, UseIsAfter, KeptByEvent, KeptByFree}
use Rattle.fsl_own.proofs.Knowing.{known_before, own_event_known, positions_grow}
use Rattle.fsl_own.proofs.Totals.{same_holder, same_resource, only_here, only_elsewhere, only_some, none_or_some, total_least, total_two, total_adds, total_outside, Wide, widen}

-- ---- what there is

-- nobody has more than there is
pub at_most : AtMost
at_most g done k w o h r = elim (none_or_some (w h r)) [
  | inl z ↦ omega (arith, z)
  | inr l ↦ let t = total_least o.holders w r h (o.support h r l) in let m = o.within r in omega arith
]

-- nor two together
pub two_at_most : TwoAtMost
two_at_most g done k w o a b r n = elim (none_or_some (w a r)) [
  | inl z ↦ let m = at_most g done k w o b r in omega arith
  | inr l ↦ elim (none_or_some (w b r)) [
    | inl z ↦ let m = at_most g done k w o a r in omega arith
    | inr j ↦ let t = total_two o.holders w r a b (o.support a r l) (o.support b r j) n in let m = o.within r in omega arith
  ]
]

-- who has all that there is has it alone
pub alone : HoldsAlone
alone g done k w o a b r l m = elim (same_holder a b) [
  | inl e ↦ e
  | inr n ↦ absurd (let t = two_at_most g done k w o a b r n in omega arith)
]

-- ---- gifts

-- what is given away was there, and what wasn't given is still there
had : (u v : World) (b : Holder) (d : Heap) (h : Holder) (r : Resource) → Adds u v b d → 1 ≤ u h r → 1 ≤ v h r
had u v b d h r a l = elim (same_holder h b) [
  | inl e ↦ subst (λ (z : Holder). 1 ≤ v z r) (sym e) (let s = a.here r in let m : 1 ≤ u b r = subst (λ (z : Holder). 1 ≤ u z r) e l in omega arith)
  | inr n ↦ let s = a.others h r n in omega arith
]

-- of what there is more, it was there, or it is new and b's
new_or_had : (u v : World) (b : Holder) (d : Heap) (h : Holder) (r : Resource) → Adds u v b d → 1 ≤ v h r → (1 ≤ u h r) ⊎ ((h ≡ b) × (1 ≤ d r))
new_or_had u v b d h r a l = elim (same_holder h b) [
  | inl e ↦ elim (none_or_some (d r)) [
    | inl z ↦ inl (subst (λ (x : Holder). 1 ≤ u x r) (sym e) (let s = a.here r in let m : 1 ≤ v b r = subst (λ (x : Holder). 1 ≤ v x r) e l in omega arith))
    | inr j ↦ inr (e, j)
  ]
  | inr n ↦ inl (let s = a.others h r n in omega arith)
]

gave : (w v : World) (a b : Holder) (d : Heap) (r : Resource) → Gives w v a b d → 1 ≤ d r → 1 ≤ w a r
gave w v a b d r g l = let s = g.loses.here r in omega arith

-- what each holder has of a resource after a gift, somebody had before
came_from : (w v : World) (a b : Holder) (d : Heap) (h : Holder) (r : Resource) → Gives w v a b d → 1 ≤ v h r → (1 ≤ w h r) ⊎ ((h ≡ b) × (1 ≤ d r))
came_from w v a b d h r g l = elim (new_or_had g.mid v b d h r g.gains l) [
  | inl m ↦ inl (had g.mid w a d h r g.loses m)
  | inr n ↦ inr n
]

-- what was covered is covered after a gift
still : (g : Graph) (done : List ℕ) (w v : World) (a b : Holder) (d : Heap) (e : ℕ) (c : ℤ) → Gives w v a b d
    → (1 ≤ d (Cell c) → Position g done a e → IsCovered g done v e c) → IsCovered g done w e c → IsCovered g done v e c
still g done w v a b d e c gift covers (by_free f i r s) = by_free f i r s
still g done w v a b d e c gift covers (by_holder h l p) = elim (new_or_had gift.mid w a d h (Cell c) gift.loses l) [
  | inl m ↦ by_holder h (had gift.mid v b d h (Cell c) gift.gains m) p
  | inr n ↦ covers n.1 (subst (λ (x : Holder). Position g done x e) n.0 p)
]

-- a gift, where the taker knows the writes of the cells that it gets, and what the giver had seen of them is covered
pub given : (g : Graph) (done : List ℕ) (k : Known) (w v : World) (a b : Holder) (d : Heap) → Owned g done k w → Gives w v a b d
    → ((c : ℤ) → 1 ≤ d (Cell c) → KnowsWrites g done b c)
    → ((c : ℤ) (e : ℕ) → 1 ≤ d (Cell c) → Position g done a e → IsCovered g done v e c)
    → Owned g done k v
given g done k w v a b d o gift knows covers =
    let z = widen o.holders o.apart a in
    let y = widen z.list z.apart b in
    let before : (r : Resource) → total y.list w r ≡ total o.holders w r =
    λ r. y.same w r (λ h l. z.more h (o.support h r l)) ∙ z.same w r (λ h l. o.support h r l) in
    record {
      holders = y.list;
      apart = y.apart;
      support = λ h r l. elim (came_from w v a b d h r gift l) [
        | inl m ↦ y.more h (z.more h (o.support h r m))
        | inr n ↦ subst (λ (x : Holder). Among x y.list) (sym n.0) y.there
      ];
      there = λ h r l. elim (came_from w v a b d h r gift l) [ inl m ↦ o.there h r m | inr n ↦ o.there a r (gave w v a b d r gift n.1) ];
      within = λ r.
          let lost = total_adds y.list gift.mid w a d r gift.loses y.apart (y.more a z.there) in
          let won = total_adds y.list gift.mid v b d r gift.gains y.apart y.there in
          let was = before r in
          let most = o.within r in
          omega arith;
      knows = λ h c l. elim (came_from w v a b d h (Cell c) gift l) [
        | inl m ↦ o.knows h c m
        | inr n ↦ subst (λ (x : Holder). KnowsWrites g done x c) (sym n.0) (knows c n.1)
      ];
      seen = λ e c i u. still g done w v a b d e c gift (covers c e) (o.seen e c i u);
    }

-- a gift to one that knows what the giver knows
pub kept_by_giving : KeptByGiving
kept_by_giving g done k w v a b d o gift tells = given g done k w v a b d o gift
    (λ c l e m u i wr. tells c l e (o.knows a c (gave w v a b d (Cell c) gift l) e m u i wr))
    (λ c e l p. by_holder b (let s = gift.gains.here (Cell c) in omega arith) (tells c l e p))

-- shares that join others of their cells, while somebody who keeps a share knows what the giver knows
pub kept_by_joining : KeptByJoining
kept_by_joining g done k w v a b d o gift joins keeps = given g done k w v a b d o gift
    (λ c l. o.knows b c (joins c l))
    (λ c e l p. let h = keeps c l in by_holder h.0 h.1 (h.2 e p))

-- ---- gains and losses

pub there_still : (g : Graph) (done : List ℕ) (k k' : Known) → KeepsDeals k k' → k.banks ≤ k'.banks → (r : Resource) → IsThere g done k r → IsThere g done k' r
there_still g done k k' deals banks (Cell c) h = h
there_still g done k k' deals banks (Permission l part) h = (h.0, deals l h.0 h.1)
there_still g done k k' deals banks (Tokens b) h = omega (arith, h, banks)
there_still g done k k' deals banks (Bank b) h = omega (arith, h, banks)

total_none : (hs : List Holder) (w : World) (r : Resource) → ((h : Holder) → 1 ≤ w h r → ⊥) → total hs w r ≡ 0
total_none [] w r none = refl
total_none (x ∷ xs) w r none = elim (none_or_some (w x r)) [ inl z ↦ let t = total_none xs w r none in omega arith | inr l ↦ absurd (none x l) ]

-- b gets something that nobody had, within the limits
pub kept_by_gaining : KeptByGaining
kept_by_gaining g done k k' w v b d o a there new limits knows =
    let z = widen o.holders o.apart b in
    record {
      holders = z.list;
      apart = z.apart;
      support = λ h r l. elim (new_or_had w v b d h r a l) [ inl m ↦ z.more h (o.support h r m) | inr n ↦ subst (λ (x : Holder). Among x z.list) (sym n.0) z.there ];
      there = λ h r l. elim (new_or_had w v b d h r a l) [ inl m ↦ there r (o.there h r m) | inr n ↦ new r n.1 ];
      within = λ r.
          let sum = total_adds z.list w v b d r a z.apart z.there in
          let was = z.same w r (λ h l. o.support h r l) in
          let most = limits r (total o.holders w r) (o.within r) (λ none. total_none o.holders w r none) in
          omega arith;
      knows = λ h c l. elim (new_or_had w v b d h (Cell c) a l) [ inl m ↦ o.knows h c m | inr n ↦ subst (λ (x : Holder). KnowsWrites g done x c) (sym n.0) (knows c n.1) ];
      seen = λ e c i u. elim (o.seen e c i u) [ by_free f j r s ↦ by_free f j r s | by_holder h l p ↦ by_holder h (had w v b d h (Cell c) a l) p ];
    }

-- b loses something that isn't of a cell
pub kept_by_losing : KeptByLosing
kept_by_losing g done k k' w u b d o a there limits cells =
    let z = widen o.holders o.apart b in
    record {
      holders = z.list;
      apart = z.apart;
      support = λ h r l. z.more h (o.support h r (had u w b d h r a l));
      there = λ h r l. there r (o.there h r (had u w b d h r a l));
      within = λ r.
          let sum = total_adds z.list u w b d r a z.apart z.there in
          let was = z.same w r (λ h l. o.support h r l) in
          let most = o.within r in
          limits r (total z.list u r) (omega arith);
      knows = λ h c l. o.knows h c (had u w b d h (Cell c) a l);
      seen = λ e c i s. elim (o.seen e c i s) [
        | by_free f j r t ↦ by_free f j r t
        | by_holder h l p ↦ by_holder h (elim (new_or_had u w b d h (Cell c) a l) [ inl m ↦ m | inr n ↦ absurd (let none = cells c in let some = n.1 in omega arith) ]) p
      ];
    }

-- what is known may change, where what there is and how much stays
pub kept_by_knowing : KeptByKnowing
kept_by_knowing g done k k' w o there limits = record {
  holders = o.holders;
  apart = o.apart;
  support = o.support;
  there = λ h r l. there r (o.there h r l);
  within = λ r. let a = o.within r in let b = limits r in omega arith;
  knows = o.knows;
  seen = o.seen;
}

-- ---- events

-- an event of a thread that has all shares of a cell comes after each use of it
pub change_is_after : ChangeIsAfter
change_is_after g done k w e x c o comes all a i u = after (o.seen a c i u)
  where
    after : IsCovered g done w a c → Hb g a e
    after (by_holder h l p) =
        let s = alone g done k w o (holder.Plain x.thread) h (Cell c) all l in
        known_before g done e x a comes (subst (λ (z : Holder). Position g done z a) (sym s) p)
    after (by_free f j r s) = absurd ((o.there (holder.Plain x.thread) (Cell c) (omega (arith, all))).unfreed f j r)

-- and one of a thread that has a share comes after each write of it
pub use_is_after : UseIsAfter
use_is_after g done k w e x c o comes some a m v i u = known_before g done e x a comes (o.knows (holder.Plain x.thread) c some a m v i u)

covered_later : (g : Graph) (done : List ℕ) (w : World) (e a : ℕ) (c : ℤ) → IsCovered g done w a c → IsCovered g (e ∷ done) w a c
covered_later g done w e a c (by_holder h l p) = by_holder h l (positions_grow g done e h a p)
covered_later g done w e a c (by_free f i r s) = by_free f (inr i) r s

alive_later : (g : Graph) (done : List ℕ) (e : ℕ) (c : ℤ) → (IsFreed g e c → ⊥) → IsAlive g done c → IsAlive g (e ∷ done) c
alive_later g done e c n a = record {
  alloc = a.alloc;
  past = inr a.past;
  made = a.made;
  unfreed = λ f i r. elim i [ inl s ↦ n (subst (λ (z : ℕ). IsFreed g z c) s r) | inr j ↦ a.unfreed f j r ];
}

pub there_later : (g : Graph) (done : List ℕ) (k : Known) (e : ℕ) → ((c : ℤ) → IsFreed g e c → ⊥) → (r : Resource) → IsThere g done k r → IsThere g (e ∷ done) k r
there_later g done k e n (Cell c) h = alive_later g done e c (n c) h
there_later g done k e n (Permission l part) h = h
there_later g done k e n (Tokens b) h = h
there_later g done k e n (Bank b) h = h

-- an event that uses what its thread has
pub kept_by_event : KeptByEvent
kept_by_event g done k w e x o comes own = record {
  holders = o.holders;
  apart = o.apart;
  support = o.support;
  there = λ h r l. there_later g done k e own.frees_none r (o.there h r l);
  within = o.within;
  knows = λ h c l a m v i u. elim i [
    | inl s ↦
        let mine = own.writes c v m (subst (λ (z : ℕ). Writes g z m c v) s u) h l in
        subst (λ (z : Holder). Position g (e ∷ done) z a) (sym mine)
        (subst (λ (z : ℕ). Position g (e ∷ done) (holder.Plain x.thread) z) (sym s) (own_event_known g done e x comes))
    | inr j ↦ positions_grow g done e h a (o.knows h c l a m v j u)
  ];
  seen = λ a c i u. elim i [
    | inl s ↦
        by_holder (holder.Plain x.thread) (own.uses c (subst (λ (z : ℕ). UsesCell g z c) s u))
        (subst (λ (z : ℕ). Position g (e ∷ done) (holder.Plain x.thread) z) (sym s) (own_event_known g done e x comes))
    | inr j ↦ covered_later g done w e a c (o.seen a c j u)
  ];
}

-- one free frees one cell, writes nothing and uses that cell alone
free_frees_one : (g : Graph) (e : ℕ) (x : Event) (c d : ℤ) → Is g e x → x.label ≡ label.Free c → IsFreed g e d → c ≡ d
free_frees_one g e x c d is l f =
    let same = one_event g e x f.event is f.is in
    let q : label.Free c ≡ label.Free d = sym l ∙ ap (λ (y : Event). y.label) same ∙ f.frees in
    cc

free_writes_none : (g : Graph) (e : ℕ) (x : Event) (c : ℤ) (m : Mode) (d v : ℤ) → Is g e x → x.label ≡ label.Free c → Writes g e m d v → ⊥
free_writes_none g e x c m d v is l w =
    let same = one_event g e x w.event is w.is in
    let q : None ≡ Some (Touches m d v) = ap written_by (sym l ∙ ap (λ (y : Event). y.label) same) ∙ w.writes in
    absurd (cc)

free_uses_one : (g : Graph) (e : ℕ) (x : Event) (c d : ℤ) → Is g e x → x.label ≡ label.Free c → UsesCell g e d → c ≡ d
free_uses_one g e x c d is l u =
    let same = one_event g e x u.event is u.access.is in
    let q : Some (Accesses c false true) ≡ Some (Accesses d false u.changes) = ap access_by (sym l ∙ ap (λ (y : Event). y.label) same) ∙ u.access.accesses in
    cc

cell_same : (c d : ℤ) → Cell c ≡ Cell d → c ≡ d
cell_same c d e = cc

there_after : (g : Graph) (done : List ℕ) (k : Known) (e : ℕ) (x : Event) (c : ℤ) (r : Resource) → Is g e x → x.label ≡ label.Free c → (r ≡ Cell c → ⊥) → IsThere g done k r → IsThere g (e ∷ done) k r
there_after g done k e x c (Cell d) is l n h = alive_later g done e d (λ f. n (ap Cell (sym (free_frees_one g e x c d is l f)))) h
there_after g done k e x c (Permission p q) is l n h = h
there_after g done k e x c (Tokens b) is l n h = h
there_after g done k e x c (Bank b) is l n h = h

-- a free of a cell that the thread has whole: the shares go with it
pub kept_by_free : KeptByFree
kept_by_free g done k w u e x c o comes frees all a =
    let z = widen o.holders o.apart (holder.Plain x.thread) in
    let gone : (h : Holder) → 1 ≤ u h (Cell c) → ⊥ = λ h l.
    let s = alone g done k w o (holder.Plain x.thread) h (Cell c) all (had u w (holder.Plain x.thread) (only (Cell c) full) h (Cell c) a l) in
    let left : 1 ≤ u (holder.Plain x.thread) (Cell c) = subst (λ (y : Holder). 1 ≤ u y (Cell c)) (sym s) l in
    let sum = a.here (Cell c) in
    let most = at_most g done k w o (holder.Plain x.thread) (Cell c) in
    let one = only_here (Cell c) full in
    absurd (omega arith) in
    let freed : IsFreed g e c = record { event = x; is = comes.is; frees = frees } in
    record {
      holders = z.list;
      apart = z.apart;
      support = λ h r l. z.more h (o.support h r (had u w (holder.Plain x.thread) (only (Cell c) full) h r a l));
      there = λ h r l. there_after g done k e x c r comes.is frees (λ s. gone h (subst (λ (y : Resource). 1 ≤ u h y) s l))
          (o.there h r (had u w (holder.Plain x.thread) (only (Cell c) full) h r a l));
      within = λ r.
          let sum = total_adds z.list u w (holder.Plain x.thread) (only (Cell c) full) r a z.apart z.there in
          let was = z.same w r (λ h l. o.support h r l) in
          let most = o.within r in
          omega arith;
      knows = λ h d l b m v i y. elim i [
        | inl s ↦ absurd (free_writes_none g e x c m d v comes.is frees (subst (λ (n : ℕ). Writes g n m d v) s y))
        | inr j ↦ positions_grow g done e h b (o.knows h d (had u w (holder.Plain x.thread) (only (Cell c) full) h (Cell d) a l) b m v j y)
      ];
      seen = λ b d i y. elim (same_resource (Cell c) (Cell d)) [
        | inl s ↦
            let same : c ≡ d = cell_same c d s in
            subst (λ (n : ℤ). IsCovered g (e ∷ done) u b n) same (by_free e (inl refl) freed (elim i [
              | inl q ↦ inl q
              | inr j ↦ inr (change_is_after g done k w e x c o comes all b j (subst (λ (n : ℤ). UsesCell g b n) (sym same) y))
            ]))
        | inr n ↦ elim i [
          | inl q ↦ absurd (n (ap Cell (free_uses_one g e x c d comes.is frees (subst (λ (p : ℕ). UsesCell g p d) q y))))
          | inr j ↦ elim (o.seen b d j y) [
            | by_free f q r s ↦ by_free f (inr q) r s
            | by_holder h l p ↦ by_holder h (elim (new_or_had u w (holder.Plain x.thread) (only (Cell c) full) h (Cell d) a l) [
              | inl m ↦ m
              | inr r ↦ absurd (n (only_some (Cell c) (Cell d) full r.1))
            ]) (positions_grow g done e h b p)
          ]
        ]
      ];
    }
