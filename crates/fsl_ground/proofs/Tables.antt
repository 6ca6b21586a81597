-- Tables that are changed in one place: there, and elsewhere.
use Rattle.std.proofs.Common.{◌≡◌, ◌≢◌, ℕ, Bool, true, false, if◌then◌else◌, ◌&&◌, ◌==◌, inl, inr, ◌⊎◌, ℤ, int_eq, refl, sym, ap}
use Rattle.std.proofs.lemmas.Bool.{cases_Bool, and_parts, eqb-true, eq-eqb}
use Rattle.std.proofs.lemmas.Bool.Decides.{Decides-int_eq}

pub int_here : {A : Type 0} (l : ℤ) (a b : A) → (if int_eq l l then a else b) ≡ a
int_here l a b = let e = (Decides-int_eq l l).1 refl in rw e refl

pub int_elsewhere : {A : Type 0} (j l : ℤ) (a b : A) → (j ≡ l → ⊥) → (if int_eq j l then a else b) ≡ b
int_elsewhere j l a b n = elim (cases_Bool (int_eq j l)) [ inl t ↦ absurd (n ((Decides-int_eq j l).0 t)) | inr f ↦ rw f refl ]

pub nat_here : {A : Type 0} (l : ℕ) (a b : A) → (if l == l then a else b) ≡ a
nat_here l a b = let e = eq-eqb l l refl in rw e refl

pub nat_elsewhere : {A : Type 0} (j l : ℕ) (a b : A) → (j ≡ l → ⊥) → (if j == l then a else b) ≡ b
nat_elsewhere j l a b n = elim (cases_Bool (j == l)) [ inl t ↦ absurd (n (eqb-true j l t)) | inr f ↦ rw f refl ]

pub int_or : (j l : ℤ) → (j ≡ l) ⊎ (j ≡ l → ⊥)
int_or j l = elim (cases_Bool (int_eq j l)) [ inl t ↦ inl ((Decides-int_eq j l).0 t) | inr f ↦ inr (λ e. absurd (let t = (Decides-int_eq j l).1 e in cc)) ]

pub nat_or : (j l : ℕ) → (j ≡ l) ⊎ (j ≡ l → ⊥)
nat_or j l = elim (cases_Bool (j == l)) [ inl t ↦ inl (eqb-true j l t) | inr f ↦ inr (λ e. absurd (let t = eq-eqb j l e in cc)) ]
