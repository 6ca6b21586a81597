-- Facts that are proved and facts that are assumed, and new symbols.
use Rattle.std.proofs.Common.{◌≡◌, ℕ, ◌+◌, ◌<◌, Bool, true, false, nat_lt, List, [], ◌∷◌, ℤ, pos, ◌+ℤ◌, ◌-ℤ◌, ◌≤ℤ◌, if◌then◌else◌, refl, sym, subst, ◌∙◌, arith}
use Rattle.std.proofs.lemmas.Int.{ints}
use Rattle.fsl_core.specs.declared.chunk.Chunk.{Chunk}
use Rattle.fsl_core.specs.declared.verdict.Kind.TheVariants as kind
use Rattle.fsl_core.specs.logic.States.{State, goes, fails, new_symbol}
use Rattle.fsl_core.specs.logic.Deciding.{proves_at_most, proves_equal, has_room, assume, assume_at_most, assume_equal}
use Rattle.fsl_lin.specs.Combination.{Combination, plus, minus, constant, symbol}
use Rattle.fsl_lin.specs.Numbers.{Numbers, part}
use Rattle.fsl_lin.specs.Facts.{absurd_facts}
use Rattle.fsl_lin.specs.Values.{value_of, Holds}
use Rattle.fsl_lin.specs.declared.fact.Fact.{Fact}
use Rattle.fsl_lin.specs.declared.fact.Fact.TheVariants.{Le, Is}
use Rattle.fsl_meaning.specs.Means.{Extends, Means, HoldAll, Grows}
use Rattle.fsl_meaning.specs.States.{Owning, Fits}
use Rattle.fsl_meaning.specs.Branches.{Lands, Lands as land}
use Rattle.std.proofs.Common.{inl}
use Rattle.fsl_meaning.proofs.Solver.{solver_is_sound}
use Rattle.fsl_meaning.proofs.Terms.{grows_here, extends_here, all_more, hold_more, means_plus, means_minus, means_constant, with_symbol, grows_symbol, means_new}

-- ---- what is proved

pub proved_at_most : {n : ℕ} {v : Numbers} {fs : List Fact} {a b : Combination} {x y : ℤ} (gap : ℤ) → v 0 ≡ pos 1 → HoldAll n v fs → Means n v a x → Means n v b y
    → proves_at_most fs a gap b ≡ true → (x +ℤ gap) ≤ℤ y
proved_at_most {v = v} {fs = fs} {a = a} {b = b} {x = x} gap one hold h k p =
    let e = extends_here one in
    let l : (value_of v (part a) +ℤ gap) ≤ℤ value_of v (part b) = solver_is_sound.at_most fs (part a) (part b) gap p v one (hold.all v e) in
    let m : (x +ℤ gap) ≤ℤ value_of v (part b) = subst (λ (z : ℤ). (z +ℤ gap) ≤ℤ value_of v (part b)) (h.is v e) l in
    subst (λ (z : ℤ). (x +ℤ gap) ≤ℤ z) (k.is v e) m

pub proved_equal : {n : ℕ} {v : Numbers} {fs : List Fact} {a b : Combination} {x y : ℤ} → v 0 ≡ pos 1 → HoldAll n v fs → Means n v a x → Means n v b y
    → proves_equal fs a b ≡ true → x ≡ y
proved_equal {v = v} {fs = fs} {a = a} {b = b} one hold h k p =
    let e = extends_here one in
    sym (h.is v e) ∙ solver_is_sound.equal fs (part a) (part b) p v one (hold.all v e) ∙ k.is v e

-- ---- what is assumed

assume_by : {slots : List ℤ} {own : Owning} {v : Numbers} {s : State} (fact : Fact) → Fits slots own v s → ((w : Numbers) → Extends s.next v w → Holds w fact)
    → (room none : Bool) → absurd_facts (fact ∷ s.facts) ≡ none
    → Lands s.next v (λ u t w. Fits slots own w t) (if room then (if none then [] else goes (tt {0}) (record s { facts = fact ∷ s.facts }) ∷ []) else fails kind.Term ∷ [])
assume_by {v = v} {s = s} fact f h true true e = absurd (solver_is_sound.none (fact ∷ s.facts) e v f.one (h v (extends_here f.one), f.facts.all v (extends_here f.one)))
assume_by {v = v} {s = s} fact f h true false e =
    land.lands (tt {0}) (record s { facts = fact ∷ s.facts }) v (inl refl) grows_here
    (record { one = f.one; facts = record { all = λ w k. (h w k, f.facts.all w k) }; env = f.env; owns = f.owns })
assume_by fact f h false none e = land.stops kind.Term (inl refl)

-- a fact that holds may be assumed: the branch isn't left out
pub lands_assume : {slots : List ℤ} {own : Owning} {v : Numbers} {s : State} (fact : Fact) → Fits slots own v s → ((w : Numbers) → Extends s.next v w → Holds w fact)
    → Lands s.next v (λ u t w. Fits slots own w t) (assume fact s)
lands_assume {s = s} fact f h = assume_by fact f h (has_room fact s.facts) (absurd_facts (fact ∷ s.facts)) refl

line_at_most : (z x y gap : ℤ) → z ≡ (x -ℤ y) +ℤ gap → (x +ℤ gap) ≤ℤ y → z ≤ℤ pos 0
line_at_most z x y gap h k = omega (arith, ints)

line_equal : (z x y : ℤ) → z ≡ x -ℤ y → x ≡ y → z ≡ pos 0
line_equal z x y h k = omega (arith, ints)

pub lands_at_most : {slots : List ℤ} {own : Owning} {v : Numbers} {s : State} {x y : ℤ} (a : Combination) (gap : ℤ) (b : Combination) → Fits slots own v s
    → Means s.next v a x → Means s.next v b y → (x +ℤ gap) ≤ℤ y → Lands s.next v (λ u t w. Fits slots own w t) (assume_at_most a gap b s)
lands_at_most {x = x} {y = y} a gap b f h k l =
    lands_assume (Le (plus (minus a b) (constant gap))) f
    (λ w e. line_at_most (value_of w (part (plus (minus a b) (constant gap)))) x y gap ((means_plus (means_minus h k) (means_constant gap)).is w e) l)

pub lands_equal : {slots : List ℤ} {own : Owning} {v : Numbers} {s : State} {x y : ℤ} (a b : Combination) → Fits slots own v s
    → Means s.next v a x → Means s.next v b y → x ≡ y → Lands s.next v (λ u t w. Fits slots own w t) (assume_equal a b s)
lands_equal {x = x} {y = y} a b f h k l =
    lands_assume (Is (minus a b)) f (λ w e. line_equal (value_of w (part (minus a b))) x y ((means_minus h k).is w e) l)

-- ---- new symbols

-- what is asked of the chunks stays so at later places of the path
abbrev pub Lasts : Owning → Type 0
Lasts own = (n m : ℕ) (v w : Numbers) (cs : List Chunk) → Grows n v m w → own n v cs → own m w cs

below_most : (n : ℕ) → nat_lt n 512 ≡ true → n < 512
below_most n h = grind arith

symbol_by : {slots : List ℤ} {own : Owning} {v : Numbers} {s : State} (x : ℤ) → Lasts own → Fits slots own v s → (few : Bool) → nat_lt s.next 512 ≡ few
    → Lands s.next v (λ t u w. Fits slots own w u × Means u.next w t x) (if few then goes (symbol s.next) (record s { next = s.next + 1 }) ∷ [] else fails kind.Symbols ∷ [])
symbol_by {v = v} {s = s} x last f true e =
    let g : Grows s.next v (s.next + 1) (with_symbol s.next x v) = grows_symbol x v in
    land.lands (symbol s.next) (record s { next = s.next + 1 }) (with_symbol s.next x v) (inl refl) g
    (record { one = f.one; facts = hold_more g f.facts; env = all_more g f.env; owns = last s.next (s.next + 1) v (with_symbol s.next x v) s.chunks g f.owns }, means_new x v (below_most s.next e))
symbol_by x last f false e = land.stops kind.Symbols (inl refl)

-- a new symbol may stand for any number
pub lands_symbol : {slots : List ℤ} {own : Owning} {v : Numbers} {s : State} (x : ℤ) → Lasts own → Fits slots own v s
    → Lands s.next v (λ t u w. Fits slots own w u × Means u.next w t x) (new_symbol s)
lands_symbol {s = s} x last f = symbol_by x last f (nat_lt s.next 512) refl
