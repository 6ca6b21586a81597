-- Laws of products of whole numbers.
use Rattle.std.proofs.Common.{◌≡◌, zero, suc, ℤ, pos, negsuc, ◌+ℤ◌, ◌-ℤ◌, ◌*ℤ◌, neg_ℤ, sym, ap, ◌∙◌, arith}
use Rattle.std.proofs.lemmas.Int.{ints}
use Rattle.std.proofs.Math.IntN.{suc_ℤ, pred_ℤ, suc_ℤ-+ℤ, pred_ℤ-+ℤ, suc_ℤ-*ℤ, pred_ℤ-*ℤ, *ℤ_comm, zero-*ℤ, *ℤ-zero, *ℤ-one, one, +ℤ_idl, -ℤ-+ℤ_cancel, +ℤ_invl}

line_up : (x y a b s c : ℤ) → x ≡ y +ℤ c → y ≡ a +ℤ b → s ≡ a +ℤ c → x ≡ s +ℤ b
line_up x y a b s c h k l = omega (arith, ints)

line_down : (x y a b s c : ℤ) → x ≡ y -ℤ c → y ≡ a +ℤ b → s ≡ a -ℤ c → x ≡ s +ℤ b
line_down x y a b s c h k l = omega (arith, ints)

distribute_up : (a b c : ℤ) → (a +ℤ b) *ℤ c ≡ (a *ℤ c) +ℤ (b *ℤ c) → (suc_ℤ a +ℤ b) *ℤ c ≡ (suc_ℤ a *ℤ c) +ℤ (b *ℤ c)
distribute_up a b c h =
    line_up _ _ _ _ _ c (ap (λ (z : ℤ). z *ℤ c) (suc_ℤ-+ℤ a b) ∙ suc_ℤ-*ℤ (a +ℤ b) c) h (suc_ℤ-*ℤ a c)

distribute_down : (a b c : ℤ) → (a +ℤ b) *ℤ c ≡ (a *ℤ c) +ℤ (b *ℤ c) → (pred_ℤ a +ℤ b) *ℤ c ≡ (pred_ℤ a *ℤ c) +ℤ (b *ℤ c)
distribute_down a b c h =
    line_down _ _ _ _ _ c (ap (λ (z : ℤ). z *ℤ c) (pred_ℤ-+ℤ a b) ∙ pred_ℤ-*ℤ (a +ℤ b) c) h (pred_ℤ-*ℤ a c)

distribute_zero : (b c : ℤ) → (pos zero +ℤ b) *ℤ c ≡ (pos zero *ℤ c) +ℤ (b *ℤ c)
distribute_zero b c =
    ap (λ (z : ℤ). z *ℤ c) (+ℤ_idl b) ∙ sym (ap (λ (z : ℤ). z +ℤ (b *ℤ c)) (zero-*ℤ c) ∙ +ℤ_idl (b *ℤ c))

pub distribute : (a b c : ℤ) → (a +ℤ b) *ℤ c ≡ (a *ℤ c) +ℤ (b *ℤ c)
distribute (pos zero) b c = distribute_zero b c
distribute (pos (suc n)) b c = distribute_up (pos n) b c (distribute (pos n) b c)
distribute (negsuc zero) b c = distribute_down (pos zero) b c (distribute_zero b c)
distribute (negsuc (suc n)) b c = distribute_down (negsuc n) b c (distribute (negsuc n) b c)

line_minus : (x y z : ℤ) → x ≡ y +ℤ z → y ≡ x -ℤ z
line_minus x y z h = omega (arith, ints)

pub distribute_minus : (a b c : ℤ) → (a -ℤ b) *ℤ c ≡ (a *ℤ c) -ℤ (b *ℤ c)
distribute_minus a b c =
    line_minus (a *ℤ c) ((a -ℤ b) *ℤ c) (b *ℤ c) (ap (λ (z : ℤ). z *ℤ c) (sym (-ℤ-+ℤ_cancel a b)) ∙ distribute (a -ℤ b) b c)

pub distribute_right : (a b c : ℤ) → a *ℤ (b +ℤ c) ≡ (a *ℤ b) +ℤ (a *ℤ c)
distribute_right a b c = *ℤ_comm a (b +ℤ c) ∙ distribute b c a ∙ (λ i. *ℤ_comm b a i +ℤ *ℤ_comm c a i)

pub distribute_right_minus : (a b c : ℤ) → a *ℤ (b -ℤ c) ≡ (a *ℤ b) -ℤ (a *ℤ c)
distribute_right_minus a b c = *ℤ_comm a (b -ℤ c) ∙ distribute_minus b c a ∙ (λ i. *ℤ_comm b a i -ℤ *ℤ_comm c a i)

line_neg : (x y z : ℤ) → x ≡ y +ℤ z → x ≡ pos 0 → y ≡ neg_ℤ z
line_neg x y z h k = omega (arith, ints)

pub times_neg : (a c : ℤ) → neg_ℤ a *ℤ c ≡ neg_ℤ (a *ℤ c)
times_neg a c =
    line_neg ((neg_ℤ a +ℤ a) *ℤ c) (neg_ℤ a *ℤ c) (a *ℤ c) (distribute (neg_ℤ a) a c) (ap (λ (z : ℤ). z *ℤ c) (+ℤ_invl a) ∙ zero-*ℤ c)

associate_up : (a b c : ℤ) → (a *ℤ b) *ℤ c ≡ a *ℤ (b *ℤ c) → (suc_ℤ a *ℤ b) *ℤ c ≡ suc_ℤ a *ℤ (b *ℤ c)
associate_up a b c h =
    ap (λ (z : ℤ). z *ℤ c) (suc_ℤ-*ℤ a b) ∙ distribute (a *ℤ b) b c ∙ ap (λ (z : ℤ). z +ℤ (b *ℤ c)) h ∙ sym (suc_ℤ-*ℤ a (b *ℤ c))

associate_down : (a b c : ℤ) → (a *ℤ b) *ℤ c ≡ a *ℤ (b *ℤ c) → (pred_ℤ a *ℤ b) *ℤ c ≡ pred_ℤ a *ℤ (b *ℤ c)
associate_down a b c h =
    ap (λ (z : ℤ). z *ℤ c) (pred_ℤ-*ℤ a b) ∙ distribute_minus (a *ℤ b) b c ∙ ap (λ (z : ℤ). z -ℤ (b *ℤ c)) h ∙ sym (pred_ℤ-*ℤ a (b *ℤ c))

associate_zero : (b c : ℤ) → (pos zero *ℤ b) *ℤ c ≡ pos zero *ℤ (b *ℤ c)
associate_zero b c = ap (λ (z : ℤ). z *ℤ c) (zero-*ℤ b) ∙ zero-*ℤ c ∙ sym (zero-*ℤ (b *ℤ c))

pub associate : (a b c : ℤ) → (a *ℤ b) *ℤ c ≡ a *ℤ (b *ℤ c)
associate (pos zero) b c = associate_zero b c
associate (pos (suc n)) b c = associate_up (pos n) b c (associate (pos n) b c)
associate (negsuc zero) b c = associate_down (pos zero) b c (associate_zero b c)
associate (negsuc (suc n)) b c = associate_down (negsuc n) b c (associate (negsuc n) b c)

pub times_one : (a : ℤ) → a *ℤ pos 1 ≡ a
unfolding one
times_one a = *ℤ-one a

pub one_times : (a : ℤ) → pos 1 *ℤ a ≡ a
one_times a = *ℤ_comm (pos 1) a ∙ times_one a

-- a product with 0, and one with 1
pub times_zero : (a b : ℤ) → b ≡ pos 0 → a *ℤ b ≡ pos 0
times_zero a b h = ap (λ (z : ℤ). a *ℤ z) h ∙ *ℤ-zero a

pub times_unit : (a b : ℤ) → b ≡ pos 1 → a *ℤ b ≡ a
times_unit a b h = ap (λ (z : ℤ). a *ℤ z) h ∙ times_one a
