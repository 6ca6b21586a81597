-- The counts and locations of a history with one more event.
use Rattle.std.proofs.Common.{◌≡◌, ◌+◌, ◌++◌, ℕ, suc, Bool, true, false, cond, List, [], ◌∷◌, length, Option, ℤ, pos, ◌⊎◌, inl, inr, refl, ap, sym, subst, add-zero, ◌∙◌, arith}
use mir.Val.{bool_byte}
use Rattle.std.proofs.lemmas.List.Sums.{sum_by_push}
use Rattle.fsl_core.specs.declared.label.Label.{Label}
use Rattle.fsl_core.specs.declared.label.Label.TheVariants as label
use Rattle.fsl_core.specs.declared.mode.AllocKind.{AllocKind}
use Rattle.fsl_graph.specs.declared.event.Event.{Event}
use Rattle.fsl_graph.specs.declared.graph.Order.{Order}
use Rattle.fsl_graph.specs.Lone.{is_plain}
use Rattle.fsl_machine.specs.History.{Trace, source_in, source_of, ordered, event_of, recorded, IsNext}
use Rattle.fsl_graph.specs.Ending.{is_alloc, is_write, allocations}
use Rattle.fsl_machine.specs.Serial.{Places, IsPlaced, IsKept}
use Rattle.fsl_machine.proofs.Serial.{serial_more}
use Rattle.fsl_machine.proofs.Snoc.{get_cases}

places_cases : (es : List Event) (x : Event) (e : ℕ) (k : AllocKind) (l : ℤ) → Places (es ++ x ∷ []) e k l
    → Places es e k l ⊎ ((e ≡ length es) × (x.label ≡ label.Alloc k l))
places_cases es x e k l s = elim (get_cases es x e s.event s.is) [
  | inl p ↦ inl (record { event = s.event; is = p; places = s.places })
  | inr q ↦ inr (q.0, ap (λ (y : Event). y.label) q.1 ∙ s.places)
]

placed_other : (es : List Event) (x : Event) (n : ℕ) → ((k : AllocKind) (l : ℤ) → x.label ≡ label.Alloc k l → ⊥)
    → IsPlaced es n → IsPlaced (es ++ x ∷ []) n
placed_other es x n never placed = record {
  within = λ e k l s. elim (places_cases es x e k l s) [
    | inl p ↦ placed.within e k l p
    | inr q ↦ absurd (never k l q.1)
  ];
  once = λ d e j k l s t. elim (places_cases es x d j l s) [
    | inl p ↦ elim (places_cases es x e k l t) [
      | inl q ↦ placed.once d e j k l p q
      | inr q ↦ absurd (never k l q.1)
    ]
    | inr p ↦ absurd (never j l p.1)
  ];
}

-- a location that is allocated is below the next one
fresh : (es : List Event) (n e : ℕ) (k : AllocKind) (l : ℤ) → IsPlaced es n → Places es e k l → l ≡ pos (suc n) → ⊥
fresh es n e k l placed p is =
    let old = placed.within e k l p in
    let same : pos (suc old.0) ≡ pos (suc n) = sym old.2 ∙ is in
    let equal : suc old.0 ≡ suc n = cc in
    omega (arith, old.1)

alloc_is : (x : Event) (k j : AllocKind) (l m : ℤ) → x.label ≡ label.Alloc k l → x.label ≡ label.Alloc j m → l ≡ m
alloc_is x k j l m a b = let labels : label.Alloc k l ≡ label.Alloc j m = sym a ∙ b in cc

placed_alloc : (es : List Event) (x : Event) (n : ℕ) (k : AllocKind) → x.label ≡ label.Alloc k (pos (suc n))
    → IsPlaced es n → IsPlaced (es ++ x ∷ []) (suc n)
placed_alloc es x n k0 is placed = record {
  within = λ e k l s. elim (places_cases es x e k l s) [
    | inl p ↦ (let old = placed.within e k l p in (old.0, (let under = old.1 in omega arith), old.2))
    | inr q ↦ (n, omega arith, alloc_is x k k0 l (pos (suc n)) q.1 is)
  ];
  once = λ d e j k l s t. elim (places_cases es x d j l s) [
    | inl p ↦ elim (places_cases es x e k l t) [
      | inl q ↦ placed.once d e j k l p q
      | inr q ↦ absurd (fresh es n d j l placed p (alloc_is x k k0 l (pos (suc n)) q.1 is))
    ]
    | inr p ↦ elim (places_cases es x e k l t) [
      | inl q ↦ absurd (fresh es n e k l placed q (alloc_is x j k0 l (pos (suc n)) p.1 is))
      | inr q ↦ p.0 ∙ sym q.0
    ]
  ];
}

placed_more : (t : Trace) (x : Label) (n : ℕ) → n ≡ allocations t.events → IsNext t x → IsPlaced t.events n
    → IsPlaced (t.events ++ event_of t x ∷ []) (n + cond (is_alloc x) 1 0)
placed_more t (label.Alloc k l) n count next placed =
    let is : label.Alloc k l ≡ label.Alloc k (pos (suc n)) = ap (label.Alloc k) (next ∙ ap (λ m. pos (suc m)) (sym count)) in
    let more : suc n ≡ n + 1 = omega arith in
    subst (IsPlaced (t.events ++ event_of t (label.Alloc k l) ∷ [])) more (placed_alloc t.events (event_of t (label.Alloc k l)) n k is placed)
placed_more t (label.Load m l v) n count next placed = rw add-zero (placed_other t.events (event_of t (label.Load m l v)) n (λ j z e. cc) placed)
placed_more t (label.Free l) n count next placed = rw add-zero (placed_other t.events (event_of t (label.Free l)) n (λ j z e. cc) placed)
placed_more t (label.Store m l v) n count next placed = rw add-zero (placed_other t.events (event_of t (label.Store m l v)) n (λ j z e. cc) placed)
placed_more t (label.Rmw m l old new) n count next placed = rw add-zero (placed_other t.events (event_of t (label.Rmw m l old new)) n (λ j z e. cc) placed)
placed_more t (label.Fence m) n count next placed = rw add-zero (placed_other t.events (event_of t (label.Fence m)) n (λ j z e. cc) placed)
placed_more t (label.Fork ts) n count next placed = rw add-zero (placed_other t.events (event_of t (label.Fork ts)) n (λ j z e. cc) placed)
placed_more t (label.Join rs) n count next placed = rw add-zero (placed_other t.events (event_of t (label.Join rs)) n (λ j z e. cc) placed)
placed_more t (label.Print v) n count next placed = rw add-zero (placed_other t.events (event_of t (label.Print v)) n (λ j z e. cc) placed)
placed_more t (label.End v) n count next placed = rw add-zero (placed_other t.events (event_of t (label.End v)) n (λ j z e. cc) placed)

-- a history stays one with an event that the memory answers
pub kept_more : (t : Trace) (x : Label) (n m : ℕ) → IsKept t.events t.mo n m → is_plain x ≡ true → IsNext t x
    → IsKept (recorded x t).events (recorded x t).mo (n + cond (is_alloc x) 1 0) (m + cond (is_write x) 1 0)
kept_more t x n m kept plain next = record {
  serial = serial_more t x kept.serial plain next;
  placed = placed_more t x n kept.allocated next kept.placed;
  allocated = ap (λ k. k + cond (is_alloc x) 1 0) kept.allocated ∙ sym (sum_by_push (λ y. cond (is_alloc y.label) 1 0) t.events (event_of t x));
  written = ap (λ k. k + cond (is_write x) 1 0) kept.written ∙ sym (sum_by_push (λ y. cond (is_write y.label) 1 0) t.events (event_of t x));
}

byte_is : (b : Bool) → bool_byte b ≡ cond b 1 0
byte_is true = refl
byte_is false = refl

-- the same where the parts were computed one by one
pub record_keeps : (t s : Trace) (x : Label) (n m a b k : ℕ) (is_a is_w : Bool) (old es : List Event) (os mo : List Order) (from : Option ℕ)
    → IsKept t.events t.mo n m → is_plain x ≡ true → t ≡ s → IsNext s x
    → es ≡ old ++ record { thread = 0; label = x; from = from } ∷ [] → old ≡ t.events
    → from ≡ source_in os x → os ≡ t.mo → mo ≡ ordered k x t.mo → k ≡ length old
    → a ≡ bool_byte is_a → is_a ≡ is_alloc x → b ≡ bool_byte is_w → is_w ≡ is_write x
    → IsKept es mo (n + a) (m + b)
record_keeps t s x n m a b k is_a is_w old es os mo from kept plain view next es_is old_is from_is os_is mo_is k_is a_is isa_is b_is isw_is =
    let source : from ≡ source_of t x = from_is ∙ ap (λ (q : List Order). source_in q x) os_is in
    let events : es ≡ (recorded x t).events =
    es_is ∙ ap (λ (q : List Event). q ++ record { thread = 0; label = x; from = from } ∷ []) old_is
    ∙ ap (λ (q : Option ℕ). t.events ++ record { thread = 0; label = x; from = q } ∷ []) source in
    let orders : mo ≡ (recorded x t).mo = mo_is ∙ ap (λ j. ordered j x t.mo) (k_is ∙ ap length old_is) in
    let one : a ≡ cond (is_alloc x) 1 0 = a_is ∙ ap bool_byte isa_is ∙ byte_is (is_alloc x) in
    let two : b ≡ cond (is_write x) 1 0 = b_is ∙ ap bool_byte isw_is ∙ byte_is (is_write x) in
    rw (events, orders, one, two) (kept_more t x n m kept plain (subst (λ (q : Trace). IsNext q x) (sym view) next))
