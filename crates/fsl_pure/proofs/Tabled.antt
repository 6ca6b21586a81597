-- What one more bound makes of a table.
use Rattle.std.proofs.Common.{◌≡◌, ℕ, ◌+◌, ◌<◌, Bool, true, false, not, ◌&&◌, ◌||◌, List, [], ◌∷◌, ◌++◌, length, get_or, take, map, reverse, Option, Some, None, pos, int_lt, refl, ap, sym, ◌∙◌}
use Rattle.std.proofs.lemmas.Bool.{and_from, and_left, or_parts}
use Rattle.std.proofs.lemmas.List.{reverse-append, take_more}
use Rattle.fsl_lin.specs.declared.edge.Edge.{Edge}
use Rattle.fsl_lin.specs.Combination.{Combination}
use Rattle.fsl_lin.specs.Numbers.{Numbers, part, is_constant, fits}
use Rattle.fsl_lin.specs.Walks.{feasible, closes}
use Rattle.fsl_lin.specs.Facts.{edge_of, with_edge_of, edges, refuted_bound, all_fit}
use Rattle.fsl_bounds.specs.Marks.{Marked}
use Rattle.fsl_pure.specs.Table.{contradict, refutes, IsTable}

infeasible_more : (o : Option Edge) (es : List Edge) → feasible es ≡ false → feasible (with_edge_of o es) ≡ false
infeasible_more None es h = h
infeasible_more (Some e) es h = and_left (feasible es) (not (closes es e)) h

still : (c r f g : Bool) → (r || not f) ≡ true → (f ≡ false → g ≡ false) → true ≡ ((c || r) || not g)
still true r f g h k = refl
still false true f g h k = refl
still false false true g h k = absurd (let a : false ≡ true = h in cc)
still false false false g h k = ap not (sym (k refl))

alone : (c r g : Bool) → r ≡ false → (c || not g) ≡ ((c || r) || not g)
alone true r g h = refl
alone false true g h = absurd (let a : true ≡ false = h in cc)
alone false false g h = refl

told_after : (ns : List Numbers) (n : Numbers) (es : List Edge) (refuted r : Bool) → refuted ≡ contradict ns → (refuted ≡ false → es ≡ edges ns)
    → r ≡ (refuted || refutes es n) → r ≡ contradict (n ∷ ns)
told_after ns n es true r told same is =
    is ∙ still (is_constant n && int_lt (pos 0) (n 0)) (refuted_bound ns) (feasible (edges ns)) (feasible (with_edge_of (edge_of n) (edges ns)))
    (sym told) (infeasible_more (edge_of n) (edges ns))
told_after ns n es false r told same is =
    let p = or_parts (refuted_bound ns) (not (feasible (edges ns))) (sym told) in
    is ∙ ap (λ (ds : List Edge). refutes ds n) (same refl)
    ∙ alone (is_constant n && int_lt (pos 0) (n 0)) (refuted_bound ns) (feasible (with_edge_of (edge_of n) (edges ns))) p.0

pub table_after : (ns : List Numbers) (n : Numbers) (table next : Marked) (refuted r : Bool) → IsTable ns table refuted
    → r ≡ (refuted || refutes table.edges n)
    → (r ≡ false → next ≡ record { edges = with_edge_of (edge_of n) table.edges; marks = table.marks })
    → fits n ≡ true → IsTable (n ∷ ns) next r
table_after ns n table next refuted r h is laid fit =
    let same : refuted ≡ false → table.edges ≡ edges ns = λ f. ap (λ (t : Marked). t.edges) (h.edges f) in
    record {
      told = told_after ns n table.edges refuted r h.told same is;
      edges = λ f.
          let p = or_parts refuted (refutes table.edges n) (sym is ∙ f) in
          laid f ∙ ap (λ (t : Marked). let m : Marked = record { edges = with_edge_of (edge_of n) t.edges; marks = t.marks } in m) (h.edges p.0);
      fit = and_from (fits n) (all_fit ns) fit h.fit;
    }

pub parts_pushed : (xs ys : List Combination) (x : Combination) (n : Numbers) → ys ≡ xs ++ x ∷ [] → part x ≡ n
    → map part (reverse ys) ≡ n ∷ map part (reverse xs)
parts_pushed xs ys x n pushed is =
    ap (λ (zs : List Combination). map part (reverse zs)) pushed
    ∙ ap (map part) (reverse-append xs (x ∷ []))
    ∙ ap (λ (m : Numbers). m ∷ map part (reverse xs)) is

-- one more bound is in normal form
pub renewed_more : (f : Numbers → Numbers) (xs : List Combination) (k : ℕ) (x : Combination) (ns ms : List Numbers) → k < length xs → x ≡ get_or xs k x
    → ms ≡ f (part x) ∷ ns → ns ≡ map f (map part (reverse (take k xs))) → ms ≡ map f (map part (reverse (take (k + 1) xs)))
renewed_more f xs k x ns ms h is more so_far =
    let taken : take (k + 1) xs ≡ take k xs ++ x ∷ [] = take_more xs k x h ∙ ap (λ (y : Combination). take k xs ++ y ∷ []) (sym is) in
    more ∙ ap (λ (ls : List Numbers). f (part x) ∷ ls) so_far
    ∙ sym (ap (map f) (parts_pushed (take k xs) (take (k + 1) xs) x (part x) taken refl))
