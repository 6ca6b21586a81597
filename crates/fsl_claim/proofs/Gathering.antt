-- Views put together one after another: what they add up to, and what is least, stays.
use Rattle.std.proofs.Common.{◌≡◌, ℕ, ◌+◌, ◌<◌, ◌≤◌, min, List, [], ◌∷◌, ◌++◌, length, map, All, Some, subst, refl, sym, ap, ◌∙◌, arith, length-append}
use mathlib.Core.List.{map-append}
use Rattle.std.proofs.lemmas.List.Elements.{All-pop}
use Rattle.fsl_claim.specs.declared.view.View.{View}
use Rattle.fsl_claim.specs.declared.claims.Pass.{Pass}
use Rattle.fsl_claim.specs.declared.claims.Claims.{Claims}
use Rattle.fsl_claim.specs.Claims.{view, IsPassOf, StandsForSome}
use Rattle.fsl_claim.specs.Views.{total, lowest, times, times_drawn, least_of, least_reported, least_seen, count_drawn, count_ended, count_reported, Drawn}
use Rattle.fsl_claim.specs.Steps.{together, Settled}
use Rattle.fsl_claim.proofs.Sums.{total_last, lowest_last, times_append, least_append, least_most, one_at_same, one_below}

abbrev pub Adds : (View → ℕ) → Type 0
Adds f = (v w : View) → f (together v w) ≡ f v + f w

abbrev pub Lessens : (View → ℕ) → Type 0
Lessens f = (v w : View) → f (together v w) ≡ min (f v) (f w)

-- `one` stands for all the views but those of `rest`
pub record Gathers (all rest : List View) (one : View) : Type 0 where
  pub sums : (f : View → ℕ) → Adds f → total f rest + f one ≡ total f all
  pub leasts : (f : View → ℕ) (most : ℕ) → Lessens f → min (f one) (lowest f most rest) ≡ lowest f most all

pub begins : (all rest : List View) (one : View) → all ≡ rest ++ one ∷ [] → Gathers all rest one
begins all rest one is = record {
  sums = λ f adds. sym (ap (total f) is ∙ total_last f rest one);
  leasts = λ f most lessens. sym (ap (lowest f most) is ∙ lowest_last f most rest one);
}

pub goes_on : (all rest fewer : List View) (one other both : View) → Gathers all rest one → rest ≡ fewer ++ other ∷ [] → both ≡ together one other → Gathers all fewer both
goes_on all rest fewer one other both gathers is put = record {
  sums = λ f adds. let s = gathers.sums f adds in let t : total f rest ≡ total f fewer + f other = ap (total f) is ∙ total_last f fewer other in let u : f both ≡ f one + f other = ap f put ∙ adds one other in omega (arith, s, t, u);
  leasts = λ f most lessens. let s = gathers.leasts f most lessens in let t : lowest f most rest ≡ min (f other) (lowest f most fewer) = ap (lowest f most) is ∙ lowest_last f most fewer other in let u : f both ≡ min (f one) (f other) = ap f put ∙ lessens one other in omega (arith, s, t, u);
}

-- ---- over passes

pub begins_with : (passes rest : List Pass) (one : Pass) → passes ≡ rest ++ one ∷ [] → Gathers (map view passes) (map view rest) (view one)
begins_with passes rest one is = begins _ _ _ (ap (map view) is ∙ map-append view rest (one ∷ []))

pub takes_in : (all : List View) (rest fewer : List Pass) (one other both : Pass) → Gathers all (map view rest) (view one) → rest ≡ fewer ++ other ∷ [] → view both ≡ together (view one) (view other)
    → Gathers all (map view fewer) (view both)
takes_in all rest fewer one other both gathers is put = goes_on all (map view rest) (map view fewer) (view one) (view other) (view both) gathers (ap (map view) is ∙ map-append view fewer (other ∷ [])) put

-- all but the last one of a list that meets P meet it, and so does the last
pub all_but_last : (P : Pass → Type 0) (passes rest : List Pass) (one : Pass) → passes ≡ rest ++ one ∷ [] → All P passes → All P rest × P one
all_but_last P passes rest one is all = All-pop P passes rest (Some one) is all

pub one_longer : (passes rest : List Pass) (one : Pass) → passes ≡ rest ++ one ∷ [] → length passes ≡ length rest + 1
one_longer passes rest one is = ap length is ∙ length-append rest (one ∷ [])

pub stands : (claims : Claims) (pass : Pass) → IsPassOf claims pass → StandsForSome claims pass
stands claims pass of = let one = of.one in record { table = of.table; holds_nothing = of.holds_nothing; units = of.units; live = omega (arith, one) }

-- ---- the end

pub ends_least : (units : ℕ) (all : List View) (one : View) (found : ℕ) → Gathers all [] one → Settled units one found → found ≡ least_reported units all
ends_least units all one found gathers settled = let t = gathers.leasts (λ v. least_of units v.reported) units (λ v w. least_append units v.reported w.reported) in
    let least = settled.least in let top = least_most units one.reported in omega (arith, t, least, top)

pub ends_seen : (units : ℕ) (all : List View) (one : View) (found : ℕ) → Gathers all [] one → Settled units one found → least_reported units all ≤ least_seen units all
ends_seen units all one found gathers settled = let t = gathers.leasts (λ v. v.seen) units (λ v w. refl) in let is = ends_least units all one found gathers settled in
    let top = settled.at_most in let seen = settled.seen in omega (arith, t, is, top, seen)

pub ends_drawn : (units : ℕ) (all : List View) (one : View) (found : ℕ) → Gathers all [] one → Settled units one found → Drawn units all
ends_drawn units all one found gathers settled = let drawn = settled.drawn in
    let counts : count_drawn all ≡ count_drawn (one ∷ []) = let t = gathers.sums (λ v. length v.drawn) (λ v w. length-append v.drawn w.drawn) in omega (arith, t) in
    let stops : count_ended all ≡ count_ended (one ∷ []) = let t = gathers.sums (λ v. v.ended) (λ v w. refl) in omega (arith, t) in
    record {
      once = λ x. let t = gathers.sums (λ v. times x v.drawn) (λ v w. times_append x v.drawn w.drawn) in
          let often : times_drawn x all ≡ times_drawn x (one ∷ []) = omega (arith, t) in often ∙ drawn.once x ∙ ap (one_below x) (sym counts);
      few = (let few = drawn.few in omega (arith, few, counts));
      full = λ some_ended. let full = drawn.full (omega (arith, stops, some_ended)) in omega (arith, full, counts);
    }

-- numbers below `units` whose least is not below it are none
none_told : (units : ℕ) (xs : List ℕ) → ((x : ℕ) → 0 < times x xs → x < units) → units ≤ least_of units xs → length xs ≡ 0
none_told units [] below high = refl
none_told units (x ∷ xs) below high = let here = one_at_same x in let low = below x (omega (arith, here)) in absurd (omega (arith, low, high))

pub ends_none : (units : ℕ) (all : List View) (one : View) (found : ℕ) → Gathers all [] one → Settled units one found → units ≤ found → count_reported all ≡ 0
ends_none units all one found gathers settled above = let t = gathers.sums (λ v. length v.reported) (λ v w. length-append v.reported w.reported) in
    let least = settled.least in let none_ = none_told units one.reported settled.within (omega (arith, above, least)) in omega (arith, t, none_)

pub ends_nowhere : (units : ℕ) (all : List View) (one : View) (found : ℕ) → Gathers all [] one → Settled units one found → units ≤ found → least_reported units all ≡ units
ends_nowhere units all one found gathers settled above = let is = ends_least units all one found gathers settled in let top = settled.at_most in omega (arith, is, top, above)

-- after a pop that found nothing
pub all_in : (all : List View) (rest : List Pass) (one : View) → rest ≡ [] → Gathers all (map view rest) one → Gathers all [] one
all_in all rest one is gathers = subst (λ (ps : List Pass). Gathers all (map view ps) one) is gathers
