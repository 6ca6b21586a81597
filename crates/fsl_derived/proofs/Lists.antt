-- Pieces that are taken out of others.
use Rattle.std.proofs.Common.{◌≡◌, ℕ, ◌+◌, ◌≤◌, List, [], ◌∷◌, ◌++◌, ap, ◌∙◌, arith}
use Rattle.fsl_own.specs.Atoms.{Atom}
use Rattle.fsl_good.specs.Pieces.{together, AtPlain, Piece, all_placed, demand_at, Entails}
use Rattle.fsl_good.proofs.Pieces.{demand_more, right_first, right_last, right_more}
use Rattle.fsl_good.proofs.Sending.{placed_more}
use Rattle.fsl_safe.proofs.Handing.{pieces_behind}

line_self : (a : ℕ) → a ≤ a
line_self a = omega arith

line_then : (a b c : ℕ) → a ≤ b → b ≤ c → a ≤ c
line_then a b c l m = omega arith

line_behind : (x y z a b : ℕ) → x ≡ z + a → y ≡ z + b → a ≤ b → x ≤ y
line_behind x y z a b e f l = omega arith

line_front : (a b s : ℕ) → s ≡ a + b → a ≤ s
line_front a b s e = omega arith

pub entails_self : (xs : List Piece) → Entails xs xs
entails_self xs = record { enough = λ a r. line_self (demand_at a xs r); right = λ g done k t p. p }

pub entails_then : {xs ys zs : List Piece} → Entails xs ys → Entails ys zs → Entails xs zs
entails_then {xs = xs} {ys = ys} {zs = zs} e f = record {
  enough = λ a r. line_then (demand_at a zs r) (demand_at a ys r) (demand_at a xs r) (f.enough a r) (e.enough a r);
  right = λ g done k t p. f.right g done k t (e.right g done k t p);
}

-- what stands behind others
pub entails_behind : (zs : List Piece) {xs ys : List Piece} → Entails xs ys → Entails (zs ++ xs) (zs ++ ys)
entails_behind zs {xs = xs} {ys = ys} e = record {
  enough = λ a r. line_behind (demand_at a (zs ++ ys) r) (demand_at a (zs ++ xs) r) (demand_at a zs r) (demand_at a ys r) (demand_at a xs r)
      (demand_more a zs ys r) (demand_more a zs xs r) (e.enough a r);
  right = λ g done k t p. right_more g done k t zs ys (right_first g done k t zs xs p) (e.right g done k t (right_last g done k t zs xs p));
}

-- what stands behind is dropped
pub entails_front : (xs ys : List Piece) → Entails (xs ++ ys) xs
entails_front xs ys = record {
  enough = λ a r. line_front (demand_at a xs r) (demand_at a ys r) (demand_at a (xs ++ ys) r) (demand_more a xs ys r);
  right = λ g done k t p. right_first g done k t xs ys p;
}

line_none : (n : ℕ) → 0 ≤ n
line_none n = omega arith

pub entails_none : (xs : List Piece) → Entails xs []
entails_none xs = record { enough = λ a r. line_none (demand_at a xs r); right = λ g done k t p. tt }

-- the first atoms of several, in front of the others
pub first_apart : (ys : List Atom) (yss : List (List Atom)) (xs : List Piece) → all_placed AtPlain (together (ys ∷ yss)) ++ xs ≡ all_placed AtPlain ys ++ (all_placed AtPlain (together yss) ++ xs)
first_apart ys yss xs = ap (λ (zs : List Piece). zs ++ xs) (placed_more AtPlain ys (together yss)) ∙ pieces_behind (all_placed AtPlain ys) (all_placed AtPlain (together yss)) xs
