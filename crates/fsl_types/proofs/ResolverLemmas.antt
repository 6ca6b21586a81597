-- Something that is made already, where something else may fail.
use Rattle.std.proofs.Common.{◌≡◌, ℕ, ◌+◌, ◌<◌, ◌≤◌, Bool, true, false, nat_le, nat_lt, if◌then◌else◌, refl, Result, Ok, Err, IfOk, OnOk, arith, leb-false, lt-ltb}
use Rattle.std.proofs.lemmas.Bool.{cond-true, ltb-true}
use Rattle.std.specs.Result.{result_and}
use Rattle.fsl_types.specs.Resolvers.{one_more}

pub and_gives : {A B E : Type 0} (first : Result A E) (made : B) → IfOk (result_and first (Ok made)) (λ b. b ≡ made)
and_gives (Ok a) made = refl
and_gives (Err e) made = tt

pub and_keeps : {A B E : Type 0} (P : Type 0) (first : Result A E) (made : B) → OnOk first P → OnOk (result_and first (Ok made)) P
and_keeps P (Ok a) made p = p
and_keeps P (Err e) made p = tt

-- below its limit a count isn't cut off
pub next_number : (limit most n : ℕ) → nat_le limit n ≡ false → limit < most + 1 → one_more most n ≡ n + 1
next_number limit most n below within = let small : n < limit = leb-false limit n below in cond-true _ _ _ (lt-ltb n most (omega (arith, small, within)))

top_if : (b : Bool) (n : ℕ) → nat_lt n 256 ≡ b → (if b then n + 1 else 256) ≤ 256
top_if true n is = let low : n < 256 = ltb-true n 256 is in omega (arith, low)
top_if false n is = omega arith

-- slots are 256 at most
pub one_more_top : (n : ℕ) → one_more 256 n ≤ 256
one_more_top n = top_if (nat_lt n 256) n refl
