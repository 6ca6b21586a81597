-- One more edge keeps totals closed: a walk and a walk on from its end are no less together than the least
-- walk, and from each node to itself it is 0.
use Rattle.std.proofs.Common.{◌≡◌, ℕ, Bool, true, false, cond, ◌⊎◌, inl, inr, Option, Some, None, ℤ, pos, ◌+ℤ◌, ◌≤ℤ◌, int_lt, refl, arith}
use Rattle.std.proofs.lemmas.Int.{ints}
use Rattle.fsl_lin.specs.declared.edge.Edge.{Edge}
use Rattle.fsl_lin.specs.Walks.{Totals, lesser, through, with_edge, is_below, AtMost}
use Rattle.fsl_bounds.specs.Matrix.{Closed, is_less, improves}

pub at_more : (o : Option ℤ) (c k : ℤ) → AtMost o c → c ≤ℤ k → AtMost o k
at_more o c k h l = record { least = h.least; is = h.is; small = let s = h.small in omega (arith, ints) }

pub at_most_some : (o : Option ℤ) (a c : ℤ) → o ≡ Some a → AtMost o c → a ≤ℤ c
at_most_some o a c e h = let f : a ≡ h.least = let g = h.is in cc in let s = h.small in rw f s

picked : (t : Bool) (a b c : ℤ) → (t ≡ true → b ≤ℤ c) → (t ≡ false → a ≤ℤ c) → AtMost (cond t (Some b) (Some a)) c
picked true a b c h k = record { least = b; is = refl; small = h refl }
picked false a b c h k = record { least = a; is = refl; small = k refl }

pub lesser_left : (o p : Option ℤ) (c : ℤ) → AtMost o c → AtMost (lesser o p) c
lesser_left None p c h = absurd (let g : None ≡ Some h.least = h.is in cc)
lesser_left (Some a) None c h = h
lesser_left (Some a) (Some b) c h =
    let l : a ≤ℤ c = at_most_some (Some a) a c refl h in
    picked (int_lt b a) a b c (λ t. grind (arith, ints)) (λ f. l)

pub lesser_right : (o p : Option ℤ) (c : ℤ) → AtMost p c → AtMost (lesser o p) c
lesser_right None p c h = h
lesser_right (Some a) None c h = absurd (let g : None ≡ Some h.least = h.is in cc)
lesser_right (Some a) (Some b) c h =
    let l : b ≤ℤ c = at_most_some (Some b) b c refl h in
    picked (int_lt b a) a b c (λ t. l) (λ f. grind (arith, ints))

either : (t : Bool) (a b c : ℤ) → cond t (Some b) (Some a) ≡ Some c → (Some a ≡ Some c) ⊎ (Some b ≡ Some c)
either true a b c h = inr h
either false a b c h = inl h

pub lesser_cases : (o p : Option ℤ) (c : ℤ) → lesser o p ≡ Some c → (o ≡ Some c) ⊎ (p ≡ Some c)
lesser_cases None p c h = inr h
lesser_cases (Some a) None c h = inl h
lesser_cases (Some a) (Some b) c h = either (int_lt b a) a b c h

pub record Through (o : Option ℤ) (c : ℤ) (p : Option ℤ) (t : ℤ) : Type 0 where
  pub to : ℤ
  pub on : ℤ
  pub to_is : o ≡ Some to
  pub on_is : p ≡ Some on
  pub sum : t ≡ (to +ℤ c) +ℤ on

pub through_parts : (o : Option ℤ) (c : ℤ) (p : Option ℤ) (t : ℤ) → through o c p ≡ Some t → Through o c p t
through_parts None c p t h = absurd (let g : None ≡ Some t = h in cc)
through_parts (Some a) c None t h = absurd (let g : None ≡ Some t = h in cc)
through_parts (Some a) c (Some b) t h = record { to = a; on = b; to_is = refl; on_is = refl; sum = cc }

pub through_at_most : (o : Option ℤ) (c : ℤ) (p : Option ℤ) (a b : ℤ) → AtMost o a → AtMost p b → AtMost (through o c p) ((a +ℤ c) +ℤ b)
through_at_most o c p a b h k =
    rw (h.is, k.is) (record { least = (h.least +ℤ c) +ℤ k.least; is = refl; small = let l = h.small in let m = k.small in omega (arith, ints) })

-- the edge closes no walk of a total below 0
abbrev pub Opens : Totals → Edge → Type 0
Opens d e = (a : ℤ) → d e.to e.from ≡ Some a → pos 0 ≤ℤ (a +ℤ e.bound)

pub opens_from : (d : Totals) (e : Edge) → is_below (d e.to e.from) e.bound ≡ false → Opens d e
opens_from d e h a k = let g : int_lt (a +ℤ e.bound) (pos 0) ≡ false = rw k at h in grind (arith, ints)

-- round by the edge and back
round : (d : Totals) (e : Edge) → Closed d → Opens d e → (v : ℕ) (a b : ℤ) → d e.to v ≡ Some b → d v e.from ≡ Some a → pos 0 ≤ℤ ((a +ℤ e.bound) +ℤ b)
round d e k o v a b p q =
    let t = k.triangle e.to v e.from b a p q in
    let n = o t.least t.is in
    let s = t.small in
    omega (arith, ints)

stays : (p : Option ℤ) → ((t : ℤ) → p ≡ Some t → pos 0 ≤ℤ t) → lesser (Some (pos 0)) p ≡ Some (pos 0)
stays None h = refl
stays (Some b) h =
    let l : pos 0 ≤ℤ b = h b refl in
    let f : int_lt b (pos 0) ≡ false = grind (arith, ints) in
    rw f refl

start_after : (d : Totals) (e : Edge) → Closed d → Opens d e → (u : ℕ) → with_edge d e u u ≡ Some (pos 0)
start_after d e k o u =
    rw (k.start u) (stays (through (d u e.from) e.bound (d e.to u)) (λ t h.
    let p = through_parts (d u e.from) e.bound (d e.to u) t h in
    let n = round d e k o u p.to p.on p.on_is p.to_is in
    rw p.sum n))

old_new : (a b m n c : ℤ) → b ≡ (m +ℤ c) +ℤ n → (((a +ℤ m) +ℤ c) +ℤ n) ≤ℤ (a +ℤ b)
old_new a b m n c h = omega (arith, ints)

new_old : (a b m n c : ℤ) → a ≡ (m +ℤ c) +ℤ n → ((m +ℤ c) +ℤ (n +ℤ b)) ≤ℤ (a +ℤ b)
new_old a b m n c h = omega (arith, ints)

new_new : (a b m n p q c : ℤ) → a ≡ (m +ℤ c) +ℤ n → b ≡ (p +ℤ c) +ℤ q → pos 0 ≤ℤ ((p +ℤ c) +ℤ n) → ((m +ℤ c) +ℤ q) ≤ℤ (a +ℤ b)
new_new a b m n p q c h k l = omega (arith, ints)

triangle_after : (d : Totals) (e : Edge) → Closed d → Opens d e → (u v w : ℕ) (a b : ℤ)
    → with_edge d e u v ≡ Some a → with_edge d e v w ≡ Some b → AtMost (with_edge d e u w) (a +ℤ b)
triangle_after d e k o u v w a b p q =
    let fst = lesser_cases (d u v) (through (d u e.from) e.bound (d e.to v)) a p in
    let snd = lesser_cases (d v w) (through (d v e.from) e.bound (d e.to w)) b q in
    elim fst [
      | inl f ↦ elim snd [
        | inl g ↦ lesser_left (d u w) (through (d u e.from) e.bound (d e.to w)) (a +ℤ b) (k.triangle u v w a b f g)
        | inr g ↦
            let t = through_parts (d v e.from) e.bound (d e.to w) b g in
            lesser_right (d u w) (through (d u e.from) e.bound (d e.to w)) (a +ℤ b)
            (at_more _ _ _ (through_at_most (d u e.from) e.bound (d e.to w) (a +ℤ t.to) t.on (k.triangle u v e.from a t.to f t.to_is)
            (record { least = t.on; is = t.on_is; small = omega (arith, ints) })) (old_new a b t.to t.on e.bound t.sum))
      ]
      | inr f ↦
          let s = through_parts (d u e.from) e.bound (d e.to v) a f in
          elim snd [
            | inl g ↦
                lesser_right (d u w) (through (d u e.from) e.bound (d e.to w)) (a +ℤ b)
                (at_more _ _ _ (through_at_most (d u e.from) e.bound (d e.to w) s.to (s.on +ℤ b)
                (record { least = s.to; is = s.to_is; small = omega (arith, ints) }) (k.triangle e.to v w s.on b s.on_is g)) (new_old a b s.to s.on e.bound s.sum))
            | inr g ↦
                let t = through_parts (d v e.from) e.bound (d e.to w) b g in
                lesser_right (d u w) (through (d u e.from) e.bound (d e.to w)) (a +ℤ b)
                (at_more _ _ _ (through_at_most (d u e.from) e.bound (d e.to w) s.to t.on
                (record { least = s.to; is = s.to_is; small = omega (arith, ints) }) (record { least = t.on; is = t.on_is; small = omega (arith, ints) }))
                (new_new a b s.to s.on t.to t.on e.bound s.sum t.sum (round d e k o v t.to s.on s.on_is t.to_is)))
          ]
    ]

pub closed_after : (d : Totals) (e : Edge) → Closed d → Opens d e → Closed (with_edge d e)
closed_after d e k o = record { start = start_after d e k o; triangle = triangle_after d e k o }

kept_less : (m a b c : ℤ) (o : Option ℤ) → AtMost o (m +ℤ b) → m ≤ℤ (a +ℤ c) → lesser o (Some ((a +ℤ c) +ℤ b)) ≡ o
kept_less m a b c None h l = absurd (let g : None ≡ Some h.least = h.is in cc)
kept_less m a b c (Some t) h l =
    let s : t ≤ℤ (m +ℤ b) = at_most_some (Some t) t (m +ℤ b) refl h in
    let f : int_lt ((a +ℤ c) +ℤ b) t ≡ false = grind (arith, ints) in
    rw f refl

no_more : (o p q r : Option ℤ) (c : ℤ) → is_less o c p ≡ false
    → ((m b : ℤ) → p ≡ Some m → q ≡ Some b → AtMost r (m +ℤ b)) → lesser r (through o c q) ≡ r
no_more None p q None c h k = refl
no_more None p q (Some t) c h k = refl
no_more (Some a) p None None c h k = refl
no_more (Some a) p None (Some t) c h k = refl
no_more (Some a) None (Some b) r c h k = absurd (let g : true ≡ false = h in cc)
no_more (Some a) (Some m) (Some b) r c h k =
    let l : m ≤ℤ (a +ℤ c) = (let g : int_lt (a +ℤ c) m ≡ false = h in grind (arith, ints)) in
    kept_less m a b c r (k m b refl refl) l

-- where the way to the edge's end is no less, no way is
pub row_stays : (d : Totals) (e : Edge) (u : ℕ) → Closed d → improves d e u ≡ false → (v : ℕ) → with_edge d e u v ≡ d u v
row_stays d e u k h v = no_more (d u e.from) (d u e.to) (d e.to v) (d u v) e.bound h (λ m b p q. k.triangle u e.to v m b p q)
