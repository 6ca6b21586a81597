-- Decisions: of their sides one has the true answer, and what it assumes lands.
use Rattle.std.proofs.Common.{◌≡◌, ◌⊎◌, inl, inr, ℕ, Bool, true, false, not, cond, List, [], ◌∷◌, map, ℤ, pos, ◌+ℤ◌, ◌-ℤ◌, ◌≤ℤ◌, int_lt, int_le, if◌then◌else◌, refl, ap, sym, subst, ◌∙◌, arith}
use Rattle.std.specs.Ordering.{int_eq}
use Rattle.std.proofs.lemmas.Int.{ints}
use Rattle.std.proofs.lemmas.Bool.{or_cases}
use Rattle.std.proofs.lemmas.Bool.Decides.{Decides-int_eq}
use Rattle.fsl_core.specs.declared.expr.CmpOp.{CmpOp}
use Rattle.fsl_core.specs.declared.expr.CmpOp.TheVariants as cmp_op
use Rattle.fsl_core.specs.declared.verdict.Kind.{Kind}
use Rattle.fsl_core.specs.declared.verdict.Kind.TheVariants as kind
use Rattle.fsl_core.specs.Values.{compared}
use Rattle.fsl_core.specs.logic.States.{Env, State, done}
use Rattle.fsl_core.specs.logic.Terms.{Expression, term, terms}
use Rattle.fsl_core.specs.logic.Deciding.{proves_at_most, proves_equal, proves_apart, assume_at_most, assume_equal, Side, side, known, decide_at_most, decide_equal, decide, Condition, always, never, compares, sides, each_side, agrees, sides_of, decided, assume_cond, is_sure, demand_cond}
use Rattle.fsl_lin.specs.Combination.{Combination}
use Rattle.fsl_lin.specs.Numbers.{Numbers}
use Rattle.fsl_lin.specs.declared.fact.Fact.{Fact}
use Rattle.fsl_meaning.specs.Means.{Means, AllMean, HoldAll}
use Rattle.fsl_meaning.specs.States.{Owning, Fits}
use Rattle.fsl_meaning.specs.Branches.{Among, Lands, Tells}
use Rattle.fsl_meaning.specs.Deciding.{IsRead, IsJudged}
use Rattle.fsl_meaning.proofs.Terms.{all_none, all_one}
use Rattle.fsl_meaning.proofs.Calculus.{lands_then, lands_give, lands_left, lands_right, tells_then, tells_on, tells_as, tells_give, tells_demand, tells_some}
use Rattle.fsl_meaning.proofs.Facts.{proved_at_most, proved_equal, lands_at_most, lands_equal}

-- ---- terms of expressions

pub tells_term : {slots : List ℤ} {own : Owning} {v : Numbers} {s : State} {e : Expression} {f : List ℤ → ℤ} {env : Env} {xs : List ℤ}
    → IsRead e f → Fits slots own v s → AllMean s.next v env xs → Tells s (λ t. Means s.next v t (f xs)) (term e env s)
tells_term {v = v} {s = s} {e = e} {env = env} {xs = xs} read f all =
    tells_as (tells_some kind.Term (e.term s.facts env)) (λ t is. read.means s.next v s.facts env xs t f.one f.facts all is)

-- those of several, each read from something
pub tells_terms : {slots : List ℤ} {own : Owning} {v : Numbers} {s : State} {env : Env} {xs : List ℤ} {A : Type 0} (read : A → Expression) (exact : A → List ℤ → ℤ)
    → ((a : A) → IsRead (read a) (exact a)) → (items : List A) → Fits slots own v s → AllMean s.next v env xs
    → Tells s (λ ts. AllMean s.next v ts (map (λ a. exact a xs) items)) (terms (map read items) env s)
tells_terms {s = s} read exact each [] f all = tells_give [] s all_none
tells_terms {s = s} read exact each (a ∷ items) f all =
    tells_on _ (tells_term (each a) f all) (λ t h. tells_on _ (tells_terms read exact each items f all) (λ ts k. tells_give (t ∷ ts) s (all_one h k)))

-- ---- sides

pub record Picked (slots : List ℤ) (own : Owning) (v : Numbers) (s : State) (answer : Bool) (xs : List Side) : Type 0 where
  pub side : Side
  pub among : Among side xs
  pub answers : side.holds ≡ answer
  pub lands : Lands s.next v (λ u t w. Fits slots own w t) (side.assumed s)

pub lands_done : {slots : List ℤ} {own : Owning} {v : Numbers} {s : State} → Fits slots own v s → Lands s.next v (λ u t w. Fits slots own w t) (done s)
lands_done {s = s} f = lands_give tt s f

picked_known : {slots : List ℤ} {own : Owning} {v : Numbers} {s : State} (answer holds : Bool) → Fits slots own v s → holds ≡ answer → Picked slots own v s answer (known holds)
picked_known answer holds f e = record { side = side holds done; among = inl refl; answers = e; lands = lands_done f }

line_between : (x y gap : ℤ) → (x +ℤ gap) ≤ℤ y → (y +ℤ (pos 1 -ℤ gap)) ≤ℤ x → ⊥
line_between x y gap h k = omega (arith, ints)

at_most_by : {slots : List ℤ} {own : Owning} {v : Numbers} {s : State} {x y : ℤ} (a : Combination) (gap : ℤ) (b : Combination) (answer : Bool) → Fits slots own v s
    → Means s.next v a x → Means s.next v b y → (answer ≡ true → (x +ℤ gap) ≤ℤ y) → (answer ≡ false → (y +ℤ (pos 1 -ℤ gap)) ≤ℤ x)
    → (p : Bool) → proves_at_most s.facts a gap b ≡ p → (q : Bool) → proves_at_most s.facts b (pos 1 -ℤ gap) a ≡ q
    → Picked slots own v s answer (if p then known true else if q then known false else side true (assume_at_most a gap b) ∷ side false (assume_at_most b (pos 1 -ℤ gap) a) ∷ [])
at_most_by a gap b true f h k l m true e q d = picked_known true true f refl
at_most_by {x = x} {y = y} a gap b false f h k l m true e q d = absurd (line_between x y gap (proved_at_most gap f.one f.facts h k e) (m refl))
at_most_by {x = x} {y = y} a gap b true f h k l m false e true d = absurd (line_between x y gap (l refl) (proved_at_most (pos 1 -ℤ gap) f.one f.facts k h d))
at_most_by a gap b false f h k l m false e true d = picked_known false false f refl
at_most_by a gap b true f h k l m false e false d =
    record { side = side true (assume_at_most a gap b); among = inl refl; answers = refl; lands = lands_at_most a gap b f h k (l refl) }
at_most_by a gap b false f h k l m false e false d =
    record { side = side false (assume_at_most b (pos 1 -ℤ gap) a); among = inr (inl refl); answers = refl; lands = lands_at_most b (pos 1 -ℤ gap) a f k h (m refl) }

pub picked_at_most : {slots : List ℤ} {own : Owning} {v : Numbers} {s : State} {x y : ℤ} (a : Combination) (gap : ℤ) (b : Combination) (answer : Bool) → Fits slots own v s
    → Means s.next v a x → Means s.next v b y → (answer ≡ true → (x +ℤ gap) ≤ℤ y) → (answer ≡ false → (y +ℤ (pos 1 -ℤ gap)) ≤ℤ x)
    → Picked slots own v s answer (decide_at_most a gap b s.facts)
picked_at_most {s = s} a gap b answer f h k l m =
    at_most_by a gap b answer f h k l m (proves_at_most s.facts a gap b) refl (proves_at_most s.facts b (pos 1 -ℤ gap) a) refl

-- ---- equal, less or greater

abbrev Compared : ℤ → ℤ → Type 0
Compared x y = (x ≡ y) ⊎ (((x +ℤ pos 1) ≤ℤ y) ⊎ ((y +ℤ pos 1) ≤ℤ x))

compared_by : (x y : ℤ) (p : Bool) → int_lt x y ≡ p → (q : Bool) → int_lt y x ≡ q → Compared x y
compared_by x y true e q d = let l : (x +ℤ pos 1) ≤ℤ y = grind (arith, ints) in inr (inl l)
compared_by x y false e true d = let l : (y +ℤ pos 1) ≤ℤ x = grind (arith, ints) in inr (inr l)
compared_by x y false e false d = let l : x ≡ y = grind (arith, ints) in inl l

compared_are : (x y : ℤ) → Compared x y
compared_are x y = compared_by x y (int_lt x y) refl (int_lt y x) refl

pub is_equal : (x y : ℤ) → x ≡ y → int_eq x y ≡ true
is_equal x y e = (Decides-int_eq x y).1 e

not_equal_by : (x y : ℤ) (b : Bool) → int_eq x y ≡ b → (x ≡ y → ⊥) → b ≡ false
not_equal_by x y true e h = absurd (h ((Decides-int_eq x y).0 e))
not_equal_by x y false e h = refl

pub not_equal : (x y : ℤ) → (x ≡ y → ⊥) → int_eq x y ≡ false
not_equal x y h = not_equal_by x y (int_eq x y) refl h

pub equal : (x y : ℤ) → int_eq x y ≡ true → x ≡ y
equal x y e = (Decides-int_eq x y).0 e

line_less : (x y : ℤ) → (x +ℤ pos 1) ≤ℤ y → x ≡ y → ⊥
line_less x y h k = omega (arith, ints)

proved_apart : {n : ℕ} {v : Numbers} {fs : List Fact} {a b : Combination} {x y : ℤ} → v 0 ≡ pos 1 → HoldAll n v fs → Means n v a x → Means n v b y
    → proves_apart fs a b ≡ true → x ≡ y → ⊥
proved_apart {fs = fs} {a = a} {b = b} {x = x} {y = y} one hold h k p e =
    elim (or_cases (proves_at_most fs a (pos 1) b) (proves_at_most fs b (pos 1) a) p) [
      | inl l ↦ line_less x y (proved_at_most (pos 1) one hold h k l) e
      | inr m ↦ line_less y x (proved_at_most (pos 1) one hold k h m) (sym e)
    ]

equal_by : {slots : List ℤ} {own : Owning} {v : Numbers} {s : State} {x y : ℤ} (a b : Combination) → Fits slots own v s → Means s.next v a x → Means s.next v b y
    → (p : Bool) → proves_equal s.facts a b ≡ p → (q : Bool) → proves_apart s.facts a b ≡ q
    → Picked slots own v s (int_eq x y)
    (if p then known true else if q then known false else side true (assume_equal a b) ∷ side false (assume_at_most a (pos 1) b) ∷ side false (assume_at_most b (pos 1) a) ∷ [])
equal_by {x = x} {y = y} a b f h k true e q d = picked_known (int_eq x y) true f (sym (is_equal x y (proved_equal f.one f.facts h k e)))
equal_by {x = x} {y = y} a b f h k false e true d = picked_known (int_eq x y) false f (sym (not_equal x y (proved_apart f.one f.facts h k d)))
equal_by {x = x} {y = y} a b f h k false e false d =
    elim (compared_are x y) [
      | inl i ↦ record { side = side true (assume_equal a b); among = inl refl; answers = sym (is_equal x y i); lands = lands_equal a b f h k i }
      | inr c ↦ elim c [
        | inl l ↦ record { side = side false (assume_at_most a (pos 1) b); among = inr (inl refl); answers = sym (not_equal x y (line_less x y l)); lands = lands_at_most a (pos 1) b f h k l }
        | inr m ↦ record {
          side = side false (assume_at_most b (pos 1) a);
          among = inr (inr (inl refl));
          answers = sym (not_equal x y (λ i. line_less y x m (sym i)));
          lands = lands_at_most b (pos 1) a f k h m;
        }
      ]
    ]

pub picked_equal : {slots : List ℤ} {own : Owning} {v : Numbers} {s : State} {x y : ℤ} (a b : Combination) → Fits slots own v s → Means s.next v a x → Means s.next v b y
    → Picked slots own v s (int_eq x y) (decide_equal a b s.facts)
picked_equal {s = s} a b f h k = equal_by a b f h k (proves_equal s.facts a b) refl (proves_apart s.facts a b) refl

unequal_by : {slots : List ℤ} {own : Owning} {v : Numbers} {s : State} {x y : ℤ} (a b : Combination) → Fits slots own v s → Means s.next v a x → Means s.next v b y
    → (p : Bool) → proves_equal s.facts a b ≡ p → (q : Bool) → proves_apart s.facts a b ≡ q
    → Picked slots own v s (not (int_eq x y))
    (if p then known false else if q then known true else side true (assume_at_most a (pos 1) b) ∷ side true (assume_at_most b (pos 1) a) ∷ side false (assume_equal a b) ∷ [])
unequal_by {x = x} {y = y} a b f h k true e q d = picked_known (not (int_eq x y)) false f (ap not (sym (is_equal x y (proved_equal f.one f.facts h k e))))
unequal_by {x = x} {y = y} a b f h k false e true d = picked_known (not (int_eq x y)) true f (ap not (sym (not_equal x y (proved_apart f.one f.facts h k d))))
unequal_by {x = x} {y = y} a b f h k false e false d =
    elim (compared_are x y) [
      | inl i ↦ record { side = side false (assume_equal a b); among = inr (inr (inl refl)); answers = ap not (sym (is_equal x y i)); lands = lands_equal a b f h k i }
      | inr c ↦ elim c [
        | inl l ↦ record { side = side true (assume_at_most a (pos 1) b); among = inl refl; answers = ap not (sym (not_equal x y (line_less x y l))); lands = lands_at_most a (pos 1) b f h k l }
        | inr m ↦ record {
          side = side true (assume_at_most b (pos 1) a);
          among = inr (inl refl);
          answers = ap not (sym (not_equal x y (λ i. line_less y x m (sym i))));
          lands = lands_at_most b (pos 1) a f k h m;
        }
      ]
    ]

-- ---- comparisons

line_lt : (x y : ℤ) → int_lt x y ≡ true → (x +ℤ pos 1) ≤ℤ y
line_lt x y h = grind (arith, ints)

line_ge : (x y : ℤ) → int_lt x y ≡ false → (y +ℤ (pos 1 -ℤ pos 1)) ≤ℤ x
line_ge x y h = grind (arith, ints)

line_le : (x y : ℤ) → int_le x y ≡ true → (x +ℤ pos 0) ≤ℤ y
line_le x y h = grind (arith, ints)

line_gt : (x y : ℤ) → int_le x y ≡ false → (y +ℤ (pos 1 -ℤ pos 0)) ≤ℤ x
line_gt x y h = grind (arith, ints)

pub picked_decide : {slots : List ℤ} {own : Owning} {v : Numbers} {s : State} {x y : ℤ} (op : CmpOp) (a b : Combination) → Fits slots own v s
    → Means s.next v a x → Means s.next v b y → Picked slots own v s (compared op x y) (decide op a b s.facts)
picked_decide cmp_op.Eq a b f h k = picked_equal a b f h k
picked_decide {s = s} cmp_op.Ne a b f h k = unequal_by a b f h k (proves_equal s.facts a b) refl (proves_apart s.facts a b) refl
picked_decide {x = x} {y = y} cmp_op.Lt a b f h k = picked_at_most a (pos 1) b (int_lt x y) f h k (line_lt x y) (line_ge x y)
picked_decide {x = x} {y = y} cmp_op.Le a b f h k = picked_at_most a (pos 0) b (int_le x y) f h k (line_le x y) (line_gt x y)
picked_decide {x = x} {y = y} cmp_op.Gt a b f h k = picked_at_most b (pos 1) a (int_lt y x) f k h (line_lt y x) (line_ge y x)
picked_decide {x = x} {y = y} cmp_op.Ge a b f h k = picked_at_most b (pos 0) a (int_le y x) f k h (line_le y x) (line_gt y x)

-- ---- each side

each_lands : {slots : List ℤ} {own : Owning} {v : Numbers} {s : State} (answer : Bool) (x : Side) (xs : List Side) → Among x xs → x.holds ≡ answer
    → Lands s.next v (λ u t w. Fits slots own w t) (x.assumed s) → Lands s.next v (λ b t w. (b ≡ answer) × Fits slots own w t) (each_side xs s)
each_lands answer x [] i e l = absurd i
each_lands {slots = slots} {own = own} {v = v} {s = s} answer x (y ∷ ys) (inl i) e l =
    let k : Lands s.next v (λ u t w. Fits slots own w t) (y.assumed s) = subst (λ (z : Side). Lands s.next v (λ u t w. Fits slots own w t) (z.assumed s)) i l in
    let d : y.holds ≡ answer = subst (λ (z : Side). z.holds ≡ answer) i e in
    lands_left _ (lands_then k (λ u t w g f. lands_give y.holds t (d, f)))
each_lands answer x (y ∷ ys) (inr i) e l = lands_right _ (each_lands answer x ys i e l)

-- among the branches of a decision is one with the true answer
pub lands_sides : {slots : List ℤ} {own : Owning} {v : Numbers} {s : State} {answer : Bool} {xs : List Side} → Picked slots own v s answer xs
    → Lands s.next v (λ b t w. (b ≡ answer) × Fits slots own w t) (each_side xs s)
lands_sides {answer = answer} {xs = xs} p = each_lands answer p.side xs p.among p.answers p.lands

kept_by : (answer : Bool) (x y : Side) (ys : List Side) (b : Bool) → agrees answer y.holds ≡ b → agrees answer x.holds ≡ true → x ≡ y → Among x (cond b (y ∷ sides_of answer ys) (sides_of answer ys))
kept_by answer x y ys true e h i = inl i
kept_by answer x y ys false e h i = let f : agrees answer x.holds ≡ agrees answer y.holds = ap (λ (z : Side). agrees answer z.holds) i in absurd (cc)

behind_by : (answer : Bool) (x y : Side) (ys : List Side) (b : Bool) → Among x (sides_of answer ys) → Among x (cond b (y ∷ sides_of answer ys) (sides_of answer ys))
behind_by answer x y ys true i = inr i
behind_by answer x y ys false i = i

among_sides : (answer : Bool) (x : Side) (xs : List Side) → Among x xs → agrees answer x.holds ≡ true → Among x (sides_of answer xs)
among_sides answer x [] i h = absurd i
among_sides answer x (y ∷ ys) (inl i) h = kept_by answer x y ys (agrees answer y.holds) refl h i
among_sides answer x (y ∷ ys) (inr i) h = behind_by answer x y ys (agrees answer y.holds) (among_sides answer x ys i h)

agrees_self : (a : Bool) → agrees a a ≡ true
agrees_self true = refl
agrees_self false = refl

pub picked_of : {slots : List ℤ} {own : Owning} {v : Numbers} {s : State} {answer : Bool} {xs : List Side} → Picked slots own v s answer xs → Picked slots own v s answer (sides_of answer xs)
picked_of {answer = answer} {xs = xs} p = record {
  side = p.side;
  among = among_sides answer p.side xs p.among (ap (agrees answer) p.answers ∙ agrees_self answer);
  answers = p.answers;
  lands = p.lands;
}

pub sure_is : {slots : List ℤ} {own : Owning} {v : Numbers} {s : State} (answer : Bool) (xs : List Side) → Picked slots own v s answer xs → is_sure xs ≡ true → answer ≡ true
sure_is answer [] p h = absurd p.among
sure_is answer (x ∷ []) p h = elim p.among [
  | inl i ↦ sym p.answers ∙ ap (λ (z : Side). z.holds) i ∙ h
  | inr i ↦ absurd i
]
sure_is answer (x ∷ y ∷ ys) p h = let f : false ≡ true = h in absurd (cc)

-- ---- conditions

pub tells_sides : {slots : List ℤ} {own : Owning} {v : Numbers} {s : State} {env : Env} {xs : List ℤ} (c : Condition) (f : List ℤ → Bool)
    → IsJudged c f → Fits slots own v s → AllMean s.next v env xs → Tells s (λ ss. Picked slots own v s (f xs) ss) (sides c env s)
tells_sides {s = s} {xs = xs} always f j fit all = tells_give (known true) s (picked_known (f xs) true fit (sym (j xs)))
tells_sides {s = s} {xs = xs} never f j fit all = tells_give (known false) s (picked_known (f xs) false fit (sym (j xs)))
tells_sides {slots = slots} {own = own} {v = v} {s = s} {xs = xs} (compares op l r) f j fit all =
    tells_on _ (tells_term j.left_is fit all) (λ a h.
    tells_on _ (tells_term j.right_is fit all) (λ b k.
    tells_give (decide op a b s.facts) s (subst (λ (answer : Bool). Picked slots own v s answer (decide op a b s.facts)) (sym (j.is xs)) (picked_decide op a b fit h k))))

pub lands_decided : {slots : List ℤ} {own : Owning} {v : Numbers} {s : State} {env : Env} {xs : List ℤ} (c : Condition) (f : List ℤ → Bool)
    → IsJudged c f → Fits slots own v s → AllMean s.next v env xs → Lands s.next v (λ b t w. (b ≡ f xs) × Fits slots own w t) (decided c env s)
lands_decided c f j fit all = tells_then _ (tells_sides c f j fit all) (λ ss p. lands_sides p)

pub lands_assume_cond : {slots : List ℤ} {own : Owning} {v : Numbers} {s : State} {env : Env} {xs : List ℤ} (c : Condition) (f : List ℤ → Bool)
    → IsJudged c f → Fits slots own v s → AllMean s.next v env xs → Lands s.next v (λ u t w. Fits slots own w t) (assume_cond (f xs) c env s)
lands_assume_cond c f j fit all =
    tells_then _ (tells_sides c f j fit all) (λ ss p. lands_then (lands_sides (picked_of p)) (λ b t w g q. lands_give tt t q.1))

pub tells_demand_cond : {slots : List ℤ} {own : Owning} {v : Numbers} {s : State} {env : Env} {xs : List ℤ} (why : Kind) (c : Condition) (f : List ℤ → Bool)
    → IsJudged c f → Fits slots own v s → AllMean s.next v env xs → Tells s (λ u. f xs ≡ true) (demand_cond why c env s)
tells_demand_cond {xs = xs} why c f j fit all =
    tells_on _ (tells_sides c f j fit all) (λ ss p. tells_as (tells_demand why (is_sure ss)) (λ u h. sure_is (f xs) ss p h))
