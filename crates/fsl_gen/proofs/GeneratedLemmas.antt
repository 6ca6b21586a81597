-- Numbered texts, written one after the other.
use Rattle.std.proofs.Common.{arith, refl, ◌≡◌, ◌<◌, ℕ, suc, ◌+◌, ◌-◌, List, ◌++◌, sym, ap, ◌∙◌, append_assoc}
use Rattle.fsl_gen.specs.Generated.{each}

-- the next text goes behind what is written
pub each_next : (text : ℕ → List ℕ) (front piece next whole : List ℕ) (i n : ℕ) → i < n → piece ≡ text (i + 1) → next ≡ front ++ piece
    → front ++ each text (i + 1) (n - i) ≡ whole → next ++ each text (i + 1 + 1) (n - (i + 1)) ≡ whole
each_next text front piece next whole i n below is e said =
    let left : n - i ≡ suc (n - (i + 1)) = omega arith in
    ap (λ xs. xs ++ each text (i + 1 + 1) (n - (i + 1))) (e ∙ ap (λ xs. front ++ xs) is) ∙
    (append_assoc front (text (i + 1)) (each text (i + 1 + 1) (n - (i + 1))) ∙
    (ap (λ k. front ++ each text (i + 1) k) (sym left) ∙ said))

-- seven pieces, written one after the other
pub in_a_row : (a b c d e f g t u v w x y : List ℕ) → t ≡ a ++ b → u ≡ t ++ c → v ≡ u ++ d → w ≡ v ++ e → x ≡ w ++ f → y ≡ x ++ g
    → y ≡ a ++ (b ++ (c ++ (d ++ (e ++ (f ++ g)))))
in_a_row a b c d e f g t u v w x y et eu ev ew ex ey = rw (ey, ex, ew, ev, eu, et) (simp append_assoc refl)
