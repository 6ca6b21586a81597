-- Keys that are the same, pieces of one key, and bounds.
use Rattle.std.proofs.Common.{◌≡◌, ℕ, ◌≤◌, ◌==◌, Bool, true, false, ℤ, if◌then◌else◌, refl, ap, subst, arith}
use Rattle.std.specs.Ordering.{int_eq}
use Rattle.std.proofs.lemmas.Bool.{and_parts, and_from, eqb-true}
use Rattle.fsl_core.specs.declared.mode.Rung.{Rung}
use Rattle.fsl_core.specs.declared.mode.Rung.TheVariants.{Plain, Up, Down, Msg}
use Rattle.fsl_core.specs.logic.Chunks.{same_rung}
use Rattle.fsl_meaning.specs.Heaps.{Key, Key as key, Heap, same_key, some_of, shares}
use Rattle.fsl_meaning.proofs.Deciding.{equal, is_equal}

pub same_rung_is : (r q : Rung) → same_rung r q ≡ true → r ≡ q
same_rung_is Plain Plain h = refl
same_rung_is Up Up h = refl
same_rung_is Down Down h = refl
same_rung_is Msg Msg h = refl
same_rung_is r q h = absurd (let f : false ≡ true = h in cc)

pub same_rung_self : (r : Rung) → same_rung r r ≡ true
same_rung_self Plain = refl
same_rung_self Up = refl
same_rung_self Down = refl
same_rung_self Msg = refl

eqb_self : (n : ℕ) → (n == n) ≡ true
eqb_self n = grind arith

pub same_key_is : (k q : Key) → same_key k q ≡ true → k ≡ q
same_key_is (key.Cell r l) (key.Cell q m) h = let p = and_parts (same_rung r q) (int_eq l m) h in λ i. key.Cell (same_rung_is r q p.0 i) (equal l m p.1 i)
same_key_is (key.Permission l a) (key.Permission m b) h = let p = and_parts (int_eq l m) (a == b) h in λ i. key.Permission (equal l m p.0 i) (eqb-true a b p.1 i)
same_key_is (key.Tokens l) (key.Tokens m) h = ap key.Tokens (equal l m h)
same_key_is (key.Bank l) (key.Bank m) h = ap key.Bank (equal l m h)
same_key_is k q h = absurd (let f : false ≡ true = h in cc)

pub same_key_self : (k : Key) → same_key k k ≡ true
same_key_self (key.Cell r l) = and_from (same_rung r r) (int_eq l l) (same_rung_self r) (is_equal l l refl)
same_key_self (key.Permission l p) = and_from (int_eq l l) (p == p) (is_equal l l refl) (eqb_self p)
same_key_self (key.Tokens l) = is_equal l l refl
same_key_self (key.Bank l) = is_equal l l refl

some_by : (b : Bool) (n : ℕ) → b ≡ true → (if b then n else 0) ≡ n
some_by true n h = refl
some_by false n h = absurd (cc)

pub some_self : (k : Key) (n : ℕ) → some_of k n k ≡ n
some_self k n = some_by (same_key k k) n (same_key_self k)

less_by : (k q : Key) (n : ℕ) (h : Heap) (b : Bool) → same_key k q ≡ b → n ≤ h k → (if b then n else 0) ≤ h q
less_by k q n h true e l = subst (λ (z : Key). n ≤ h z) (same_key_is k q e) l
less_by k q n h false e l = omega arith

-- a heap that has n of a key has the piece
pub some_less : (k : Key) (n : ℕ) (h : Heap) → n ≤ h k → (q : Key) → some_of k n q ≤ h q
some_less k n h l q = less_by k q n h (same_key k q) refl l

pub share_at : (h : Heap) (r : Rung) (l : ℤ) → h (key.Cell r l) ≤ shares h l
share_at h Plain l = omega arith
share_at h Up l = omega arith
share_at h Down l = omega arith
share_at h Msg l = omega arith
