-- What assertions see, and what they set.
use Rattle.std.proofs.Common.{◌≡◌, true, false, List, ℤ, ◌∙◌, sym}
use Rattle.fsl_core.specs.declared.scope.Scope.{Scope}
use Rattle.fsl_scoped.specs.Assertions.{Shares, AssertionsAreSeen, BindersAreFree}
use Rattle.fsl_scoped.proofs.Lists.{room_long}
use Rattle.fsl_scoped.proofs.Alike.{Alike}
use Rattle.fsl_scoped.proofs.Asking.{asrt_seen}
use Rattle.fsl_scoped.proofs.Numbers.{asrt_keeps}

-- outside of `ensures`
pub alike_shared : (scope : Scope) (xs ys : List ℤ) → scope.in_ensures ≡ false → Shares scope xs ys → Alike scope xs ys
alike_shared scope xs ys out shares = record {
  alike = shares.alike;
  room = λ slot free. room_long xs ys slot shares.long;
  last = λ h. absurd (let d : true ≡ false = sym h ∙ out in cc);
}

pub assertions_seen : AssertionsAreSeen
assertions_seen scope a t rung xs ys n out fit shares e =
    let x = asrt_seen t a scope rung xs ys n fit (alike_shared scope xs ys out shares) e in
    let here = asrt_keeps t a scope rung xs n fit e in
    let there = asrt_keeps t a scope rung ys x.need fit x.is in
    (x.need, x.is, x.same, record { long = here.long ∙ shares.long ∙ sym there.long; alike = x.alike.alike })

pub binders_free : BindersAreFree
binders_free scope a t rung xs n fit e = let h = asrt_keeps t a scope rung xs n fit e in (h.long, h.same)
