-- Slots that are set twice.
use Rattle.std.proofs.Common.{◌≡◌, ◌<◌, ◌+◌, ℕ, zero, suc, ◌==◌, true, false, List, [], ◌∷◌, length, Option, Some, None, drop, get_or, arith}
use Rattle.std.specs.List.{list_any, filter_map, cons_option}
use Rattle.fsl_core.specs.declared.act.Stmt.{Stmt}
use Rattle.fsl_core.specs.Straight.{slot_set, are_distinct}
use Rattle.std.proofs.lemmas.Grind.{common_steps}

one_more : (o : Option ℕ) (ns : List ℕ) → are_distinct ns ≡ false → are_distinct (cons_option o ns) ≡ false
one_more None ns h = h
one_more (Some n) ns h = grind (arith, common_steps)

found : (o : Option ℕ) (slot : ℕ) (ns : List ℕ) → o ≡ Some slot → list_any (λ m. slot == m) ns ≡ true
    → are_distinct (cons_option o ns) ≡ false
found None slot ns e h = cc
found (Some n) slot ns e h = let same : n ≡ slot = cc in rw (same, h)

-- a slot that a statement sets is set again by a later one
pub set_again : (body : List Stmt) (i j : ℕ) (d : Stmt) (slot : ℕ) → i + 1 ≡ j → i < length body
    → slot_set (get_or body i d) ≡ Some slot → list_any (λ m. slot == m) (filter_map slot_set (drop j body)) ≡ true
    → are_distinct (filter_map slot_set body) ≡ false
set_again [] i j d slot next h e again = absurd (omega arith)
set_again (s ∷ ss) i zero d slot next h e again = absurd (omega arith)
set_again (s ∷ ss) zero (suc zero) d slot next h e again = found (slot_set s) slot (filter_map slot_set ss) e again
set_again (s ∷ ss) zero (suc (suc j)) d slot next h e again = absurd (omega arith)
set_again (s ∷ ss) (suc i) (suc j) d slot next h e again =
    one_more (slot_set s) (filter_map slot_set ss) (set_again ss i j d slot (omega arith) (omega arith) e again)
