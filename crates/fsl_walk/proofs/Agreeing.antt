-- What two truths agree on, key by key, and what follows from pieces.
use Rattle.std.proofs.Common.{◌≡◌, ◌⊎◌, inl, inr, ℕ, ◌+◌, ◌≤◌, List, ◌++◌, Some, ℤ, ◌∙◌, arith}
use Rattle.fsl_meaning.specs.Heaps.{Key, Key as key, Heap, Holds, Truth, Claim, Claim as claim, Needs, Agrees}
use Rattle.fsl_good.specs.Pieces.{Piece, demand_at, Entails}
use Rattle.fsl_good.proofs.Pieces.{demand_more, right_more, right_first, right_last}

-- ---- truths

-- what the first says of a key, the second says too
abbrev pub AgreesAt : Truth → Truth → Key → Type 0
AgreesAt t later (key.Cell r l) = (x : ℤ) → t.value l ≡ Some x → later.value l ≡ Some x
AgreesAt t later (key.Permission l p) = later.out l p ≡ t.out l p
AgreesAt t later (key.Tokens b) = Unit {0}
AgreesAt t later (key.Bank b) = later.bank b ≡ t.bank b

pub agrees_at : {t later : Truth} {h : Heap} → Agrees t later h → (k : Key) → 1 ≤ h k → AgreesAt t later k
agrees_at a (key.Cell r l) some = λ x is. a.value r l x some is
agrees_at a (key.Permission l p) some = a.out l p some
agrees_at a (key.Tokens b) some = tt
agrees_at a (key.Bank b) some = a.bank b some

pub agrees_by : {t later : Truth} (h : Heap) → ((k : Key) → 1 ≤ h k → AgreesAt t later k) → Agrees t later h
agrees_by h each = record {
  value = λ r l x some is. each (key.Cell r l) some x is;
  out = λ l p some. each (key.Permission l p) some;
  bank = λ b some. each (key.Bank b) some;
}

pub at_then : (t mid later : Truth) (k : Key) → AgreesAt t mid k → AgreesAt mid later k → AgreesAt t later k
at_then t mid later (key.Cell r l) f g = λ x is. g x (f x is)
at_then t mid later (key.Permission l p) f g = g ∙ f
at_then t mid later (key.Tokens b) f g = tt
at_then t mid later (key.Bank b) f g = g ∙ f

-- ---- claims

-- what stands beside a claim is in one part or in the other
pub needs_either : (h a b : Heap) (c : Claim) → ((l : ℤ) (p : ℕ) → 1 ≤ h (key.Permission l p) → (1 ≤ a (key.Permission l p)) ⊎ (1 ≤ b (key.Permission l p))) → Needs h c → Needs a c ⊎ Needs b c
needs_either h a b (claim.IsInit r l) either n = inl tt
needs_either h a b (claim.MayWrite l i xs) either n = inl tt
needs_either h a b (claim.MayUpdate l i xs) either n = inl tt
needs_either h a b (claim.MayRead l i xs) either n = elim (either l n.0 n.1) [
  | inl p ↦ inl (n.0, p)
  | inr p ↦ inr (n.0, p)
]

-- ---- pieces

line_trans : (a b c : ℕ) → a ≤ b → b ≤ c → a ≤ c
line_trans a b c p q = omega arith

pub entails_then : {xs ys zs : List Piece} → Entails xs ys → Entails ys zs → Entails xs zs
entails_then {xs = xs} {ys = ys} {zs = zs} a b = record {
  enough = λ l r. line_trans (demand_at l zs r) (demand_at l ys r) (demand_at l xs r) (b.enough l r) (a.enough l r);
  right = λ g done k t p. b.right g done k t (a.right g done k t p);
}

line_both : (a b c d e f : ℕ) → e ≡ a + b → f ≡ c + d → a ≤ c → b ≤ d → e ≤ f
line_both a b c d e f p q i j = omega arith

pub entails_both : (xs ys zs ws : List Piece) → Entails xs zs → Entails ys ws → Entails (xs ++ ys) (zs ++ ws)
entails_both xs ys zs ws a b = record {
  enough = λ l r. line_both (demand_at l zs r) (demand_at l ws r) (demand_at l xs r) (demand_at l ys r) (demand_at l (zs ++ ws) r) (demand_at l (xs ++ ys) r)
      (demand_more l zs ws r) (demand_more l xs ys r) (a.enough l r) (b.enough l r);
  right = λ g done k t p. right_more g done k t zs ws (a.right g done k t (right_first g done k t xs ys p)) (b.right g done k t (right_last g done k t xs ys p));
}

line_self : (n : ℕ) → n ≤ n
line_self n = omega arith

pub entails_self : (xs : List Piece) → Entails xs xs
entails_self xs = record { enough = λ l r. line_self (demand_at l xs r); right = λ g done k t p. p }

line_swap : (a b e f : ℕ) → e ≡ a + b → f ≡ b + a → f ≤ e
line_swap a b e f p q = omega arith

pub entails_swap : (xs ys : List Piece) → Entails (xs ++ ys) (ys ++ xs)
entails_swap xs ys = record {
  enough = λ l r. line_swap (demand_at l xs r) (demand_at l ys r) (demand_at l (xs ++ ys) r) (demand_at l (ys ++ xs) r) (demand_more l xs ys r) (demand_more l ys xs r);
  right = λ g done k t p. right_more g done k t ys xs (right_last g done k t xs ys p) (right_first g done k t xs ys p);
}

line_front : (a b e : ℕ) → e ≡ a + b → a ≤ e
line_front a b e p = omega arith

-- those in front alone
pub entails_front : (xs ys : List Piece) → Entails (xs ++ ys) xs
entails_front xs ys = record {
  enough = λ l r. line_front (demand_at l xs r) (demand_at l ys r) (demand_at l (xs ++ ys) r) (demand_more l xs ys r);
  right = λ g done k t p. right_first g done k t xs ys p;
}

-- ---- parts of a heap

line_under : (s m u h r : ℕ) → s ≤ m → m + u ≤ h → h ≡ r + s → u ≤ r
line_under s m u h r le p e = omega arith

-- what was taken out of one's own leaves that of others
pub under_rest : (d mine under h rest : Heap) → ((k : Key) → d k ≤ mine k) → Holds mine under h → ((k : Key) → h k ≡ rest k + d k) → (k : Key) → under k ≤ rest k
under_rest d mine under h rest less holds left k = line_under (d k) (mine k) (under k) (h k) (rest k) (less k) (holds k) (left k)
