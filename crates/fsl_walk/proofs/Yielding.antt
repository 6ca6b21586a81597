-- What follows from atoms, whoever has them.
use Rattle.std.proofs.Common.{◌≡◌, ℕ, ◌+◌, ◌≤◌, List, [], ◌∷◌, ◌++◌, arith}
use Rattle.fsl_own.specs.Atoms.{Atom, demand}
use Rattle.fsl_own.proofs.Atoms.{demand_append, right_append, right_front, right_back}
use Rattle.fsl_good.specs.Pieces.{Yields}

line_self : (n : ℕ) → n ≤ n
line_self n = omega arith

line_trans : (a b c : ℕ) → a ≤ b → b ≤ c → a ≤ c
line_trans a b c p q = omega arith

line_both : (a b c d e f : ℕ) → e ≡ a + b → f ≡ c + d → a ≤ c → b ≤ d → e ≤ f
line_both a b c d e f p q i j = omega arith

line_swap : (a b e f : ℕ) → e ≡ a + b → f ≡ b + a → f ≤ e
line_swap a b e f p q = omega arith

line_front : (a b e : ℕ) → e ≡ a + b → a ≤ e
line_front a b e p = omega arith

pub yields_self : (xs : List Atom) → Yields xs xs
yields_self xs = record { enough = λ r. line_self (demand xs r); right = λ g done k h p. p }

pub yields_then : {xs ys zs : List Atom} → Yields xs ys → Yields ys zs → Yields xs zs
yields_then {xs = xs} {ys = ys} {zs = zs} a b = record {
  enough = λ r. line_trans (demand zs r) (demand ys r) (demand xs r) (b.enough r) (a.enough r);
  right = λ g done k h p. b.right g done k h (a.right g done k h p);
}

pub yields_both : (xs ys zs ws : List Atom) → Yields xs zs → Yields ys ws → Yields (xs ++ ys) (zs ++ ws)
yields_both xs ys zs ws a b = record {
  enough = λ r. line_both (demand zs r) (demand ws r) (demand xs r) (demand ys r) (demand (zs ++ ws) r) (demand (xs ++ ys) r) (demand_append zs ws r) (demand_append xs ys r) (a.enough r) (b.enough r);
  right = λ g done k h p. right_append g done k h zs ws (a.right g done k h (right_front g done k h xs ys p)) (b.right g done k h (right_back g done k h xs ys p));
}

pub yields_swap : (xs ys : List Atom) → Yields (xs ++ ys) (ys ++ xs)
yields_swap xs ys = record {
  enough = λ r. line_swap (demand xs r) (demand ys r) (demand (xs ++ ys) r) (demand (ys ++ xs) r) (demand_append xs ys r) (demand_append ys xs r);
  right = λ g done k h p. right_append g done k h ys xs (right_back g done k h xs ys p) (right_front g done k h xs ys p);
}

-- those in front alone
pub yields_front : (xs ys : List Atom) → Yields (xs ++ ys) xs
yields_front xs ys = record {
  enough = λ r. line_front (demand xs r) (demand ys r) (demand (xs ++ ys) r) (demand_append xs ys r);
  right = λ g done k h p. right_front g done k h xs ys p;
}
