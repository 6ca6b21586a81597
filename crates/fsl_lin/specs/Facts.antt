-- What a list of facts proves. The newest fact stands first.
use Rattle.std.specs.Prelude.{ℕ, zero, suc, Bool, true, false, not, ◌&&◌, ◌||◌, List, [], ◌∷◌, map, Option, Some, None, ℤ, pos, negsuc, neg_ℤ, if◌then◌else◌, ◌==◌, int_lt, int_le}
use Rattle.std.specs.Ordering.{int_eq}
use Rattle.fsl_lin.specs.Numbers.{Numbers, most, part, opposite, same_above, is_constant, fits}
use Rattle.fsl_lin.specs.Rows.{Row, normal, pivot_below, assumed, rows_fit}
use Rattle.fsl_lin.specs.Walks.{least, feasible}
use Rattle.fsl_lin.specs.declared.edge.Edge.{Edge}
use Rattle.fsl_lin.specs.declared.fact.Fact.{Fact}
use Rattle.fsl_lin.specs.declared.fact.Fact.TheVariants.{Le, Is}

-- the equations that are kept with a pivot
abbrev pub rows : List Fact → List Row
rows [] = []
rows (Le t ∷ fs) = rows fs
rows (Is t ∷ fs) = assumed (rows fs) (part t)

-- the bounds that an equation without a pivot is kept as, where its normal form is no constant
abbrev pub two_bounds : Numbers → Bool → Option ℕ → List Numbers → List Numbers
two_bounds t true o bs = bs
two_bounds t false (Some p) bs = bs
two_bounds t false None bs = t ∷ opposite t ∷ bs

-- the bounds `t <= 0` that are kept
abbrev pub bounds : List Fact → List Numbers
bounds [] = []
bounds (Le t ∷ fs) = part t ∷ bounds fs
bounds (Is t ∷ fs) = two_bounds (part t) (is_constant (normal (rows fs) (part t))) (pivot_below most (normal (rows fs) (part t))) (bounds fs)

-- their normal forms
abbrev pub kept : List Fact → List Numbers
kept fs = map (normal (rows fs)) (bounds fs)

-- c at a place, beside the nodes of the places below it: those of 1 and of -1, 0 where there is none
abbrev pub end_at : ℤ → ℕ → Option (ℕ × ℕ) → Option (ℕ × ℕ)
end_at c at None = None
end_at c at (Some (x, y)) =
    if int_eq c (pos 0) then Some (x, y)
    else if int_eq c (pos 1) && x == 0 then Some (at, y)
    else if int_eq c (negsuc 0) && y == 0 then Some (x, at)
    else None

-- x and y where the places from 1 to k say x - y, x, -y or nothing, with 0 for what lacks
abbrev pub ends : ℕ → Numbers → Option (ℕ × ℕ)
ends zero n = Some (0, 0)
ends (suc k) n = end_at (n (suc k)) (suc k) (ends k n)

abbrev pub edge_from : ℤ → Option (ℕ × ℕ) → Option Edge
edge_from c None = None
edge_from c (Some (x, y)) = if x == 0 && y == 0 then None else Some (record { from = x; to = y; bound = neg_ℤ c })

-- the edge of a bound x - y + c <= 0, x + c <= 0 or -y + c <= 0
abbrev pub edge_of : Numbers → Option Edge
edge_of n = edge_from (n 0) (ends most n)

abbrev pub with_edge_of : Option Edge → List Edge → List Edge
with_edge_of None es = es
with_edge_of (Some e) es = e ∷ es

-- the difference bounds among bounds in normal form
abbrev pub edges : List Numbers → List Edge
edges [] = []
edges (b ∷ bs) = with_edge_of (edge_of b) (edges bs)

-- a constant of at most 0
abbrev pub by_constant : Numbers → Bool
by_constant n = is_constant n && int_le (n 0) (pos 0)

-- some kept bound has the same linear part and a constant at least as great
abbrev pub by_bound : List Numbers → Numbers → Bool
by_bound [] n = false
by_bound (b ∷ bs) n = (same_above most b n && int_le (n 0) (b 0)) || by_bound bs n

abbrev pub at_most : Option ℤ → ℤ → Bool
at_most None c = false
at_most (Some a) c = int_le a c

-- a walk of difference bounds has a total of at most the edge's bound
abbrev pub walks : List Edge → Option Edge → Bool
walks es None = false
walks es (Some e) = at_most (least es e.from e.to) e.bound

-- `n <= 0` for a normal form n
abbrev pub proves_normal : List Numbers → Numbers → Bool
proves_normal bs n = by_constant n || (by_bound bs n || walks (edges bs) (edge_of n))

-- `t <= 0` is proved
abbrev pub proves_le : List Fact → Numbers → Bool
proves_le fs t = proves_normal (kept fs) (normal (rows fs) t)

-- 0 at every place
abbrev pub is_zero : Numbers → Bool
is_zero n = is_constant n && int_eq (n 0) (pos 0)

-- `t = 0` is proved
abbrev pub proves_is : List Fact → Numbers → Bool
proves_is fs t = is_zero (normal (rows fs) t) || (proves_le fs t && proves_le fs (opposite t))

-- the normal form of an equation was a constant other than 0 when it was assumed
abbrev pub refuted_equation : List Fact → Bool
refuted_equation [] = false
refuted_equation (Le t ∷ fs) = refuted_equation fs
refuted_equation (Is t ∷ fs) = (is_constant (normal (rows fs) (part t)) && not (int_eq (normal (rows fs) (part t) 0) (pos 0))) || refuted_equation fs

-- a bound in normal form is a positive constant
abbrev pub refuted_bound : List Numbers → Bool
refuted_bound [] = false
refuted_bound (b ∷ bs) = (is_constant b && int_lt (pos 0) (b 0)) || refuted_bound bs

-- the facts can't all hold, as far as the rules see
abbrev pub absurd_facts : List Fact → Bool
absurd_facts fs = refuted_equation fs || (refuted_bound (kept fs) || not (feasible (edges (kept fs))))

abbrev pub all_fit : List Numbers → Bool
all_fit [] = true
all_fit (n ∷ ns) = fits n && all_fit ns

-- a `Lin` has room for each reduced equation and for the normal form of each kept bound
abbrev pub facts_fit : List Fact → Bool
facts_fit fs = rows_fit (rows fs) && all_fit (kept fs)
