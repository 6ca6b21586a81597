-- Banks and their tokens: a new bank, more tokens, fewer tokens. No event goes with these.
use Rattle.std.proofs.Common.{◌≡◌, ◌≤◌, ◌<◌, ◌+◌, ◌-◌, ℕ, suc, Bool, ◌⊎◌, inl, inr, List, [], ◌∷◌, Option, Some, ℤ, refl, sym, ap, subst, ◌∙◌, arith}
use Rattle.fsl_graph.specs.declared.graph.Graph.{Graph}
use Rattle.fsl_graph.specs.Positions.{Holder}
use Rattle.fsl_graph.specs.Positions.{Holder as holder}
use Rattle.fsl_own.specs.Owning.{Resource, Cell, Permission, Tokens, Bank, Heap, World, only, Deal, Known, limit, IsThere, Owned, Adds, KeepsDeals, Agree}
use Rattle.fsl_own.specs.Atoms.{Has}
use Rattle.fsl_own.proofs.Totals.{same_holder, same_resource, only_here, only_elsewhere, only_some}
use Rattle.fsl_own.proofs.Owning.{alone, kept_by_gaining, kept_by_losing, there_still}
use Rattle.fsl_ground.specs.Ground.{Meaning, IsDue, Sends, IsValue, Ground}
use Rattle.fsl_ground.specs.Changes.{with_count, with_bank}
use Rattle.fsl_ground.proofs.Ground.{ground_changed, due_before}
use Rattle.fsl_ground.proofs.Tables.{nat_here, nat_elsewhere, nat_or}

bank_same : (a b : ℕ) → Bank a ≡ Bank b → a ≡ b
bank_same a b e = cc

tokens_same : (a b : ℕ) → Tokens a ≡ Tokens b → a ≡ b
tokens_same a b e = cc

-- the ground with other counts, and with other banks beside them
counted : (asks : Meaning) (g : Graph) (done but : List ℕ) (k : Known) (w v : World) (b n : ℕ) (banks : ℕ) → Ground asks g done but k w → Owned g done (record (with_count k b n) { banks = banks }) v
    → ((m part : ℕ) (r : Resource) → w (holder.Message m part) r ≤ v (holder.Message m part) r)
    → ((m part : ℕ) → 1 ≤ w (holder.Message m part) (Bank b) → ⊥)
    → Ground asks g done but (record (with_count k b n) { banks = banks }) v
counted asks g done but k w v b n banks x owned grows none =
    ground_changed asks g done but k (record (with_count k b n) { banks = banks }) w v x owned x.right (λ l d e. x.made l d e) (λ l d e. e) (λ m d l u i s. record { mode = s.mode; writes = s.writes; made = s.made })
    (λ m d l u part s due. due_before g done k (record (with_count k b n) { banks = banks }) m l u part d.rmw (λ h. h) due) grows (λ m part r o. agrees m part r o)
  where
    agrees : (m part : ℕ) (r : Resource) → 1 ≤ w (holder.Message m part) r → Agree k (record (with_count k b n) { banks = banks }) r
    agrees m part (Cell c) o = refl
    agrees m part (Permission l q) o = refl
    agrees m part (Tokens c) o = tt
    agrees m part (Bank c) o = elim (nat_or c b) [
      | inl e ↦ absurd (none m part (subst (λ (z : ℕ). 1 ≤ w (holder.Message m part) (Bank z)) e o))
      | inr f ↦ nat_elsewhere c b n (k.counts c) f
    ]

-- a holder that isn't the message, or no holder of more
others_same : (w v : World) (t : ℕ) (d : Heap) (m part : ℕ) (r : Resource) → Adds w v (holder.Plain t) d → w (holder.Message m part) r ≡ v (holder.Message m part) r
others_same w v t d m part r a = sym (a.others (holder.Message m part) r (λ e. absurd (cc)))

-- a new bank, whose authority the thread gets
pub new_bank : (asks : Meaning) (g : Graph) (done but : List ℕ) (k : Known) (w v : World) (t : ℕ) → Ground asks g done but k w → Adds w v (holder.Plain t) (only (Bank k.banks) 1)
    → Ground asks g done but (with_bank k) v
new_bank asks g done but k w v t x a =
    counted asks g done but k w v k.banks 0 (suc k.banks) x
    (kept_by_gaining g done k (with_bank k) w v (holder.Plain t) (only (Bank k.banks) 1) x.owned a
    (there_still g done k (with_bank k) (λ l d e. e) (omega arith))
    (λ r l. subst (λ (z : Resource). IsThere g done (with_bank k) z) (only_some (Bank k.banks) r 1 l) (omega arith))
    limits
    (λ c l. absurd (let e = only_some (Bank k.banks) (Cell c) 1 l in cc)))
    (λ m part r. let e = others_same w v t (only (Bank k.banks) 1) m part r a in omega arith)
    (λ m part l. absurd (let there = x.owned.there (holder.Message m part) (Bank k.banks) l in omega arith))
  where
    limits : (r : Resource) (n : ℕ) → n ≤ limit k r → (((h : Holder) → 1 ≤ w h r → ⊥) → n ≡ 0) → n + only (Bank k.banks) 1 r ≤ limit (with_bank k) r
    limits (Cell c) n l none = let z = only_elsewhere (Bank k.banks) (Cell c) 1 (λ e. absurd (cc)) in omega arith
    limits (Permission p q) n l none = let z = only_elsewhere (Bank k.banks) (Permission p q) 1 (λ e. absurd (cc)) in omega arith
    limits (Tokens b) n l none =
        let z = only_elsewhere (Bank k.banks) (Tokens b) 1 (λ e. absurd (cc)) in
        elim (nat_or b k.banks) [
          | inl e ↦
              let no = none (λ h o. absurd (let there : b < k.banks = x.owned.there h (Tokens b) o in omega arith)) in
              omega arith
          | inr f ↦ let s = nat_elsewhere b k.banks 0 (k.counts b) f in omega arith
        ]
    limits (Bank b) n l none = elim (nat_or b k.banks) [
      | inl e ↦
          let no = none (λ h o. absurd (let there : b < k.banks = x.owned.there h (Bank b) o in omega arith)) in
          let s : only (Bank k.banks) 1 (Bank b) ≡ 1 = subst (λ (z : ℕ). only (Bank k.banks) 1 (Bank z) ≡ 1) (sym e) (only_here (Bank k.banks) 1) in
          omega arith
      | inr f ↦ let z = only_elsewhere (Bank k.banks) (Bank b) 1 (λ e. f (sym (bank_same k.banks b e))) in omega arith
    ]

-- who has a bank's authority may make more tokens
pub mint : (asks : Meaning) (g : Graph) (done but : List ℕ) (k : Known) (w v : World) (t b n : ℕ) → Ground asks g done but k w → 1 ≤ w (holder.Plain t) (Bank b)
    → Adds w v (holder.Plain t) (only (Tokens b) n) → Ground asks g done but (with_count k b (k.counts b + n)) v
mint asks g done but k w v t b n x has a =
    counted asks g done but k w v b (k.counts b + n) k.banks x
    (kept_by_gaining g done k (with_count k b (k.counts b + n)) w v (holder.Plain t) (only (Tokens b) n) x.owned a
    (there_still g done k (with_count k b (k.counts b + n)) (λ l d e. e) (omega arith))
    (λ r l. subst (λ (z : Resource). IsThere g done (with_count k b (k.counts b + n)) z) (only_some (Tokens b) r n l) (x.owned.there (holder.Plain t) (Bank b) has))
    limits
    (λ c l. absurd (let e = only_some (Tokens b) (Cell c) n l in cc)))
    (λ m part r. let e = others_same w v t (only (Tokens b) n) m part r a in omega arith)
    (λ m part l. absurd (let e = alone g done k w x.owned (holder.Plain t) (holder.Message m part) (Bank b) has l in cc))
  where
    limits : (r : Resource) (c : ℕ) → c ≤ limit k r → (((h : Holder) → 1 ≤ w h r → ⊥) → c ≡ 0) → c + only (Tokens b) n r ≤ limit (with_count k b (k.counts b + n)) r
    limits (Cell p) c l none = let z = only_elsewhere (Tokens b) (Cell p) n (λ e. absurd (cc)) in omega arith
    limits (Permission p q) c l none = let z = only_elsewhere (Tokens b) (Permission p q) n (λ e. absurd (cc)) in omega arith
    limits (Bank p) c l none = let z = only_elsewhere (Tokens b) (Bank p) n (λ e. absurd (cc)) in omega arith
    limits (Tokens p) c l none = elim (nat_or p b) [
      | inl e ↦
          let s : only (Tokens b) n (Tokens p) ≡ n = subst (λ (z : ℕ). only (Tokens b) n (Tokens z) ≡ n) (sym e) (only_here (Tokens b) n) in
          let q : (with_count k b (k.counts b + n)).counts p ≡ k.counts b + n = subst (λ (z : ℕ). (with_count k b (k.counts b + n)).counts z ≡ k.counts b + n) (sym e) (nat_here b (k.counts b + n) (k.counts b)) in
          let m : c ≤ k.counts b = subst (λ (z : ℕ). c ≤ k.counts z) e l in
          omega arith
      | inr f ↦
          let z = only_elsewhere (Tokens b) (Tokens p) n (λ e. f (sym (tokens_same b p e))) in
          let s = nat_elsewhere p b (k.counts b + n) (k.counts p) f in
          omega arith
    ]

-- and burn those that it has
pub burn : (asks : Meaning) (g : Graph) (done but : List ℕ) (k : Known) (w u : World) (t b n : ℕ) → Ground asks g done but k w → 1 ≤ w (holder.Plain t) (Bank b)
    → Adds u w (holder.Plain t) (only (Tokens b) n) → Ground asks g done but (with_count k b (k.counts b - n)) u
burn asks g done but k w u t b n x has a =
    counted asks g done but k w u b (k.counts b - n) k.banks x
    (kept_by_losing g done k (with_count k b (k.counts b - n)) w u (holder.Plain t) (only (Tokens b) n) x.owned a
    (there_still g done k (with_count k b (k.counts b - n)) (λ l d e. e) (omega arith))
    limits
    (λ c. only_elsewhere (Tokens b) (Cell c) n (λ e. absurd (cc))))
    (λ m part r. let e = others_same u w t (only (Tokens b) n) m part r a in omega arith)
    (λ m part l. absurd (let e = alone g done k w x.owned (holder.Plain t) (holder.Message m part) (Bank b) has l in cc))
  where
    limits : (r : Resource) (c : ℕ) → c + only (Tokens b) n r ≤ limit k r → c ≤ limit (with_count k b (k.counts b - n)) r
    limits (Cell p) c l = omega (arith, l)
    limits (Permission p q) c l = omega (arith, l)
    limits (Bank p) c l = omega (arith, l)
    limits (Tokens p) c l = elim (nat_or p b) [
      | inl e ↦
          let s : only (Tokens b) n (Tokens p) ≡ n = subst (λ (z : ℕ). only (Tokens b) n (Tokens z) ≡ n) (sym e) (only_here (Tokens b) n) in
          let q : (with_count k b (k.counts b - n)).counts p ≡ k.counts b - n = subst (λ (z : ℕ). (with_count k b (k.counts b - n)).counts z ≡ k.counts b - n) (sym e) (nat_here b (k.counts b - n) (k.counts b)) in
          let m : c + only (Tokens b) n (Tokens p) ≤ k.counts b = subst (λ (z : ℕ). c + only (Tokens b) n (Tokens p) ≤ k.counts z) e l in
          omega arith
      | inr f ↦ let s = nat_elsewhere p b (k.counts b - n) (k.counts p) f in omega (arith, l, s)
    ]
